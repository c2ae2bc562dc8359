use Rattle.std.proofs.Common.{◌≡◌, ◌-◌, min, length, arith}
use Rattle.std.proofs.lemmas.List.{drop-replicate, take_min}
use Rattle.tables.proofs.table_of.Goals as goal

-- As many blanks are left as the items leave room for.
pub returns-clause-value : goal.returns-clause-value
returns-clause-value g c =
    let left : g.row.N - min g.row.N (length c.args.items.now) ≡ g.row.N - length c.args.items.now = omega arith in
    rw (drop-replicate, c.copy_from_slice.ensures.after, c.min-count.ensures, take_min, left)
