use Rattle.std.proofs.Common.{◌≡◌, length, get_or, refl, ◌∙◌, arith, rules}
use Rattle.std.proofs.lemmas.List.{length-set}
use Rattle.state.specs.Views.{came_from}
use Rattle.state.specs.declared.corner.Corner.{Corner}
use Rattle.state.proofs.Tables.{none, shifted-is, moved_down, moved_up, put-at}
use Rattle.state.proofs.table.Table.shift.Goals as goal
use Rattle.state.proofs.table.Table.shift.Goals.{then-gap-place, else-gap-place}

pub returns : goal.returns
returns c = λ g few low.
    let table = c.args.self.now.records in
    let d = c.args.dropped in
    let k = c.args.place in
    let corner : Corner = record { levels = c.args.levels.now; label = 0 } in
    let long : length c.args.self.now.records ≡ 9 = search rules in
    elim c.if-gap-place.branch [
      | then-gap-place w ↦
          let moved = w.copy_within.new.self in
          let size : length w.copy_within.new.self ≡ 9 = w.copy_within.ensures.len ∙ long in
          let facts = w.copy_within.ensures.by_index in
          rw w.self-is
          (shifted-is g table _ d k corner low (omega (arith, length-set moved k corner, size)) refl
          (put-at g moved k corner (λ i. get_or table (came_from d k i) none) (omega (arith, size))
          (λ i h ne. moved_down table moved d k c.min-gap.result c.min-gap.ensures w.if-gap-place.true (omega arith) facts.0 facts.1 facts.2 i (omega arith) ne)))
      | else-gap-place w ↦
          let moved = w.copy_within-else-gap-place.new.self in
          let size : length w.copy_within-else-gap-place.new.self ≡ 9 = w.copy_within-else-gap-place.ensures.len ∙ long in
          let facts = w.copy_within-else-gap-place.ensures.by_index in
          rw w.self-is
          (shifted-is g table _ d k corner low (omega (arith, length-set moved k corner, size)) refl
          (put-at g moved k corner (λ i. get_or table (came_from d k i) none) (omega (arith, size))
          (λ i h ne. moved_up table moved d k c.min-gap.result c.min-gap.ensures w.if-gap-place.false facts.0 facts.1 facts.2 i (omega arith) ne)))
    ]
