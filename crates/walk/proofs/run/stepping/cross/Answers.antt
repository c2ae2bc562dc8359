use Rattle.std.proofs.Common.{◌≡◌, ap, ◌∙◌, ap₂, rules}
use Rattle.cells.specs.declared.wall.Way.TheVariants.{Stopped}
use Rattle.path.specs.Path.{ticket}
use Rattle.state.specs.Views.{View, view_of}
use Rattle.walk.proofs.Crossing.{arrives, goes_on}
use Rattle.walk.proofs.run.stepping.cross.Goals as goal

pub returns-in_default-corner-clause-crossed : goal.returns-in_default-corner-clause-crossed
returns-in_default-corner-clause-crossed g c = λ place cell.
    let tri = c.args.tri.now in
    let state = c.args.state.now in
    goes_on (g.T.Triangulation.meaning tri) (λ n D two one. g.met.T.Triangulation.lawful tri n D two one) state.start.grid c.grid-grid.result c.grid-grid.ensures
    state.cell c.across.new.cell c.args.dropped c.in-Ok.way (rw c.in-Ok.is at c.across.ensures) c.from.result c.from.ensures place cell
    (view_of state) (view_of state) c.args.label _ c.in-Moved.place c.in-Moved.is (λ low there. search rules)

pub returns-in_ok-enter-in-Moved-clause-crossed : goal.returns-in_ok-enter-in-Moved-clause-crossed
returns-in_ok-enter-in-Moved-clause-crossed g c = λ place cell.
    let tri = c.args.tri.now in
    let state = c.args.state.now in
    goes_on (g.T.Triangulation.meaning tri) (λ n D two one. g.met.T.Triangulation.lawful tri n D two one) state.start.grid c.grid-grid.result c.grid-grid.ensures
    state.cell c.across.new.cell c.args.dropped c.in-Ok.way (rw c.in-Ok.is at c.across.ensures) c.from.result c.from.ensures place cell
    (view_of state) (view_of c.enter.new.self) c.args.label _ c.in-Moved.place c.in-Moved.is (λ low there. search rules)

pub returns-in-Stopped-Real-clause-crossed : goal.returns-in-Stopped-Real-clause-crossed
returns-in-Stopped-Real-clause-crossed g c = λ place cell.
    let tri = c.args.tri.now in
    let state = c.args.state.now in
    let own = ap (λ (v : View). v.number) c.arrive.ensures in
    let latest = ap (λ (v : View). v.sight.mesh) c.arrive.ensures in
    let number : c.of.result.number ≡ state.number = cc in
    let mesh : c.of.result.mesh ≡ state.start.grid.mesh = cc in
    arrives (g.T.Triangulation.meaning tri) (λ n D two one. g.met.T.Triangulation.lawful tri n D two one) state.start.grid c.grid-grid.result c.grid-grid.ensures
    state.cell c.across.new.cell c.args.dropped c.in-Ok.way (rw c.in-Ok.is at c.across.ensures) c.from.result c.from.ensures place cell
    (view_of state) (view_of c.arrive.new.self) c.args.label _ (c.in-Stopped-Real.is ∙ ap Stopped c.in-Stopped-Real.field-0-is)
    (ap₂ ticket number mesh) c.arrive.ensures
