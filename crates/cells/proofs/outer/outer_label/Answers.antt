use Rattle.cells.proofs.OuterLabels.{label-at, label-none, outer-there}
use Rattle.cells.proofs.outer.outer_label.Goals as goal

pub returns-in-Some : goal.returns-in-Some
returns-in-Some c =
    let above = rw c.prices.ensures at c.in-Some.ensures in
    let is = label-at c.args.start.now c.args.levels.now c.in-Some.j above.0 above.1 above.2 in
    record { value = is; found = outer-there c.args.start.now c.args.levels.now _ is }

pub returns-in-None : goal.returns-in-None
returns-in-None c =
    let low = rw c.prices.ensures at c.in-None.ensures in
    let is = label-none c.args.start.now c.args.levels.now low in
    record { value = is; found = outer-there c.args.start.now c.args.levels.now _ is }
