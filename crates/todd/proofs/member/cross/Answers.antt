use Rattle.std.proofs.Common.{sym, subst, arith}
use Rattle.todd.specs.Walk.{Crosses}
use Rattle.todd.proofs.member.cross.Goals as goal

pub returns-clause-crosses : goal.returns-clause-crosses
returns-clause-crosses g c cell =
    let d = c.args.grid.now in
    let s = c.args.cell.now in
    let between = g.met.M.Member.in_family.between d s cell c.args.place (λ e. omega arith) (λ e. omega arith) in
    subst (λ x. Crosses d.goods s x c.cross_middle.result c.cross_middle.new.cell) (sym between)
    (c.cross_middle.ensures.crosses (g.met.M.Member.in_family.holds d s cell))
