-- What K1 and J1 share where they cross a place: the wall that stops a level.
use Rattle.std.specs.Prelude.{◌≡◌, ℕ, suc, ◌<◌, ◌≤◌, Bool, true, false, cond, List, length, Some, None, Option, slice_index, refl}
use Rattle.std.proofs.Common.{sym, ◌∙◌, ap, subst, arith}
use Rattle.cells.specs.Corners.{Wall}
use Rattle.cells.specs.Triangulation.{Shape, Across}
use Rattle.todd_laws.specs.Steps.{IsOrder, or_else}
use Rattle.todd_laws.proofs.Family as fam
use Rattle.todd_laws.proofs.Family.{Cell, Perm, Same, Side, later, sooner, swap}
use Rattle.todd_laws.proofs.Bridge.{family, way, Formed, order-perm}
use Rattle.todd_laws.proofs.Alike.{at_same}
use Rattle.todd_laws.proofs.AcrossLaws.{Shows}

order_from : (g : ℕ) (l : List ℕ) (p q : ℕ → ℕ) → Perm g p q → length l ≡ g → ((k : ℕ) → k < g → slice_index l k ≡ suc (p k)) → IsOrder g l
order_from g l p q m size e = record {
  size = size;
  low = λ k h. omega (arith, e k h);
  high = λ k h. omega (arith, e k h, m.ord-below k h);
  apart = λ i j h k z.
      let same : p i ≡ p j = omega (arith, e i h, e j k) in
      sym (m.at-ord i h) ∙ ap q same ∙ m.at-ord j k;
}

-- A shape with the values and the order of a family cell.
pub shape-shows : (g : ℕ) (up : ℕ → Bool) (t : Shape) (e : Cell) → Perm g e.ord e.at
    → length t.base ≡ g → length t.order ≡ g → length t.ups ≡ g
    → ((k : ℕ) → k < g → slice_index t.order k ≡ suc (e.ord k))
    → ((j : ℕ) → j < g → (family t).lo j ≡ e.lo j)
    → ((j : ℕ) → j < g → up (e.lo j) ≡ way t j)
    → ((j : ℕ) → j < g → way t j ≡ false → 1 ≤ slice_index t.base j)
    → Formed g up t × Same g (family t) e
shape-shows g up t e perm size orders directions ord lo ways solid =
    let o = order_from g t.order e.ord e.at perm orders ord in
    let os : (k : ℕ) → k < g → (family t).ord k ≡ e.ord k = λ k h. omega (arith, ord k h) in (
      record { size = size; order = o; directions = directions; ways = λ j h. ap up (lo j h) ∙ ways j h; solid = solid },
      record { lo = lo; ord = os; at = at_same g (family t).ord (family t).at e.ord e.at (order-perm g t.order o) perm os },
    )

-- Tests.
pub shows-cond : (g : ℕ) (up : ℕ → Bool) (b : Bool) (x x' : Across Shape) (y y' : Side) → (b ≡ true → Shows g up x y) → (b ≡ false → Shows g up x' y') → Shows g up (cond b x x') (cond b y y')
shows-cond g up true x x' y y' p q = p refl
shows-cond g up false x x' y y' p q = q refl

pub shows-stop : (g : ℕ) (up : ℕ → Bool) (o : Option Wall) (b : Bool) (w : Wall) (x : Across Shape) (y : Side) → o ≡ cond b (Some w) None → (b ≡ false → Shows g up x y)
    → Shows g up (or_else o x) (cond b (fam.wall w) y)
shows-stop g up o b w x y e f = subst (λ o. Shows g up (or_else o x) (cond b (fam.wall w) y)) (sym e) (at b f)
  where
    at : (b : Bool) → (b ≡ false → Shows g up x y) → Shows g up (or_else (cond b (Some w) None) x) (cond b (fam.wall w) y)
    at true f = refl
    at false f = f refl

pub shows-stops : (g : ℕ) (up : ℕ → Bool) (o : Option Wall) (b c : Bool) (v w : Wall) (x : Across Shape) (y : Side) → o ≡ cond b (Some v) (cond c (Some w) None) → (b ≡ false → c ≡ false → Shows g up x y)
    → Shows g up (or_else o x) (cond b (fam.wall v) (cond c (fam.wall w) y))
shows-stops g up o b c v w x y e f = subst (λ o. Shows g up (or_else o x) (cond b (fam.wall v) (cond c (fam.wall w) y))) (sym e) (at b c f)
  where
    at : (b c : Bool) → (b ≡ false → c ≡ false → Shows g up x y) → Shows g up (or_else (cond b (Some v) (cond c (Some w) None)) x) (cond b (fam.wall v) (cond c (fam.wall w) y))
    at true c f = refl
    at false true f = refl
    at false false f = f refl refl
