-- The pair of numbers that tells what lies across a place tells just that.
--   reads-back               for walls of at most 8 goods, the way that the pair tells is that to what lies across
--   across-moved, -stopped   what lies across, by the way to it
use Rattle.std.proofs.Common.{◌≡◌, ℕ, ◌≤◌, eqb, sym, refl, ap, ◌∙◌, subst, arith}
use Rattle.std.proofs.lemmas.Bool.{ne_eqb, cond-false}
use Rattle.cells.specs.Corners as corners
use Rattle.cells.specs.Corners.{outer_wall, real_wall, good_wall, IsWall}
use Rattle.cells.specs.Triangulation.{Shape, Across, wall, moved}
use Rattle.cells.specs.Cells.{crossing}
use Rattle.cells.specs.Ways.{wall_of, way_of, Says}
use Rattle.cells.specs.declared.wall.Wall.{Wall}
use Rattle.cells.specs.declared.wall.Wall.TheVariants.{Good}
use Rattle.cells.specs.declared.wall.Way.TheVariants.{Moved, Stopped}

-- A number that is no other wall's tells the wall of that good.
good-way : (i j : ℕ) → 1 ≤ j → j ≤ 8 → way_of (i, j) ≡ Stopped (Good j)
good-way i j low high =
    cond-false (eqb j 0) _ _ (ne_eqb j 0 (λ e. omega arith)) ∙ cond-false (eqb j 9) _ _ (ne_eqb j 9 (λ e. omega arith))
    ∙ cond-false (eqb j 10) _ _ (ne_eqb j 10 (λ e. omega arith))

pub reads-back : (g i : ℕ) (a : Across Shape) → g ≤ 8 → ((w : corners.Wall) → a ≡ wall w → IsWall g w) → Says (way_of (crossing i a)) a
reads-back g i (moved b k) few walls = refl
reads-back g i (wall outer_wall) few walls = refl
reads-back g i (wall real_wall) few walls = refl
reads-back g i (wall (good_wall j)) few walls =
    let h : (1 ≤ j) × (j ≤ g) = walls (good_wall j) refl in
    subst (λ w. Says w (wall (good_wall j))) (sym (good-way i j h.0 (omega (arith, h.1)))) refl

pub across-moved : (j : ℕ) (a : Across Shape) → Says (Moved j) a → (b : Shape) × (a ≡ moved b j)
across-moved j (moved b k) says = (b, ap (moved b) (sym says))
across-moved j (wall v) says = absurd says

pub across-stopped : (w : Wall) (a : Across Shape) → Says (Stopped w) a → a ≡ wall (wall_of w)
across-stopped w (moved b k) says = absurd says
across-stopped w (wall v) says = ap wall (sym says)
