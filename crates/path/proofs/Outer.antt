-- The label of an outer corner is proper.
use Rattle.std.proofs.Common.{◌≡◌, ℕ, suc, List, length, sum, sym, ◌∙◌, arith}
use Rattle.std.proofs.lemmas.Bool.{eq-eqb, cond-true}
use Rattle.mesh.specs.Prices.{first, to_prices}
use Rattle.mesh.proofs.Levels.{length-prices, sum-prices}
use Rattle.labelling.specs.Labels.{Rule, Proper}
use Rattle.cells.specs.Corners.{Corner, outer_label}
use Rattle.cells.proofs.OuterLabels.{above-there}
use Rattle.path.specs.Legs.{label}

pub outer-label : (g D : ℕ) (L : Rule) (c v : List ℕ) → first v ≡ suc D → label g D L c v ≡ outer_label c v
outer-label g D L c v outer = cond-true _ _ _ (eq-eqb (first v) (suc D) outer)

pub outer-proper : (g D : ℕ) (L : Rule) (c v : List ℕ) → length c ≡ g → sum c ≡ D → Corner g D v → first v ≡ suc D → Proper g (to_prices v) (label g D L c v)
outer-proper g D L c v goods adds corner outer =
    let r = above-there 0 c (to_prices v) (goods ∙ sym corner.size ∙ sym (length-prices v)) (omega (arith, sum-prices v corner.falls)) in
    let e : label g D L c v ≡ suc r.0 = outer-label g D L c v outer ∙ r.1 ∙ omega arith in
    rw e (record { low = omega arith; high = omega (arith, r.2, goods); priced = omega (arith, r.3) })
