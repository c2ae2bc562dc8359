-- A level that moves at one end of the order is taken to an end.
use Rattle.std.specs.Prelude.{◌≡◌, ℕ, suc, ◌-◌, ◌<◌, ◌≤◌, Bool, true, false, ◌≢◌, refl}
use Rattle.std.proofs.Common.{arith}
use Rattle.std.proofs.lemmas.Bool.Decides.{nat_tests}
use Rattle.cells.specs.Corners.{skip}
use Rattle.todd_laws.proofs.Orders.{end-perm, front-perm}
use Rattle.todd_laws.proofs.Family.{level, Cell, Perm, First, sooner, later, put, same, end, place, moved}

-- The step p is not the one at the end.
abbrev pub Inner : ℕ → Bool → ℕ → Type 0
Inner g true p = 0 < p
Inner g false p = suc p < g

-- The step p of another level, when the level at the end w goes to the end v.
abbrev pub shift : Bool → Bool → ℕ → ℕ
shift true true p = p
shift true false p = p - 1
shift false true p = suc p
shift false false p = p

-- A place other than the one beyond the end.
abbrev pub far : Bool → ℕ → ℕ
far true k = suc k
far false k = k

pub skip-far : (g : ℕ) (w : Bool) (k : ℕ) → k < g → skip (place g w) k ≡ far w k
skip-far g true k h = grind (arith, nat_tests)
skip-far g false k h = grind (arith, nat_tests)

pub end_below : (g : ℕ) (w : Bool) → 1 ≤ g → end g w < g
end_below g true h = omega arith
end_below g false h = omega arith

pub place-within : (g : ℕ) (w : Bool) → place g w ≤ g
place-within g true = omega arith
place-within g false = omega arith

pub inner : (g : ℕ) (w : Bool) (p : ℕ) → p < g → (p ≢ end g w) → Inner g w p
inner g true p h n = omega arith
inner g false p h n = omega arith

pub shift-level : (g : ℕ) (w v u : Bool) (z p k : ℕ) → p < g → Inner g w p → k < g → level u z p (far w k) ≡ level u z (shift w v p) (far v k)
shift-level g true true true z p k h i l = refl
shift-level g true true false z p k h i l = refl
shift-level g true false true z p k h i l = omega arith
shift-level g true false false z p k h i l = omega arith
shift-level g false true true z p k h i l = omega arith
shift-level g false true false z p k h i l = omega arith
shift-level g false false true z p k h i l = refl
shift-level g false false false z p k h i l = refl

pub shift-inner : (g : ℕ) (w v : Bool) (p : ℕ) → p < g → Inner g w p → Inner g v (shift w v p)
shift-inner g true true p h i = i
shift-inner g true false p h i = omega arith
shift-inner g false true p h i = omega arith
shift-inner g false false p h i = i

pub shift-first : (g : ℕ) (w v u : Bool) (p q : ℕ) → Inner g w p → Inner g w q → First u p q → First u (shift w v p) (shift w v q)
shift-first g true true u p q i j h = h
shift-first g true false true p q i j h = omega arith
shift-first g true false false p q i j h = omega arith
shift-first g false true true p q i j h = omega arith
shift-first g false true false p q i j h = omega arith
shift-first g false false u p q i j h = h

pub shift_back : (g : ℕ) (w v : Bool) (p : ℕ) → Inner g w p → shift v w (shift w v p) ≡ p
shift_back g true true p i = refl
shift_back g true false p i = omega arith
shift_back g false true p i = omega arith
shift_back g false false p i = refl

-- The step at an end comes before all others or after all others.
pub end-first : (g : ℕ) (u w : Bool) (q : ℕ) → same u w ≡ true → Inner g w q → First u (end g w) q
end-first g true true q e i = i
end-first g true false q e i = absurd cc
end-first g false true q e i = absurd cc
end-first g false false q e i = omega arith

pub end-last : (g : ℕ) (u w : Bool) (q : ℕ) → same u w ≡ false → Inner g w q → First u q (end g w)
end-last g true true q e i = absurd cc
end-last g true false q e i = omega arith
end-last g false true q e i = i
end-last g false false q e i = absurd cc

-- The value of a level that moves at the end, at all places but the one beyond.
pub rest-high : (g : ℕ) (u w : Bool) (x k : ℕ) → same u w ≡ true → k < g → level u x (end g w) (far w k) ≡ suc x
rest-high g true true x k e h = omega arith
rest-high g true false x k e h = absurd cc
rest-high g false true x k e h = absurd cc
rest-high g false false x k e h = omega arith

pub rest-low : (g : ℕ) (u w : Bool) (x k : ℕ) → same u w ≡ false → k < g → level u x (end g w) (far w k) ≡ x
rest-low g true true x k e h = absurd cc
rest-low g true false x k e h = omega arith
rest-low g false true x k e h = omega arith
rest-low g false false x k e h = absurd cc

pub far_from : (g : ℕ) (w : Bool) (k : ℕ) → k ≤ g → (k ≢ place g w) → (m : ℕ) × (m < g) × (k ≡ far w m)
far_from g true k h n = (k - 1, omega arith, omega arith)
far_from g false k h n = (k, omega arith, refl)

sooner-first : (g k : ℕ) → k ≡ 0 → sooner g k ≡ g - 1
sooner-first g k e = grind (arith, nat_tests)

sooner-other : (g k : ℕ) → 0 < k → sooner g k ≡ k - 1
sooner-other g k h = grind (arith, nat_tests)

later_last : (g k : ℕ) → suc k ≡ g → later g k ≡ 0
later_last g k e = grind (arith, nat_tests)

later-other : (g k : ℕ) → suc k < g → later g k ≡ suc k
later-other g k h = grind (arith, nat_tests)

pub moved-perm : (g : ℕ) (w v : Bool) (c : Cell) (a y : ℕ) → Perm g c.ord c.at → Perm g (moved g w v c a y).ord (moved g w v c a y).at
moved-perm g true true c a y perm = perm
moved-perm g true false c a y perm = end-perm g c.ord c.at perm
moved-perm g false true c a y perm = front-perm g c.ord c.at perm
moved-perm g false false c a y perm = perm

put-here : (lo : ℕ → ℕ) (a y : ℕ) → put lo a y a ≡ y
put-here lo a y = grind (arith, nat_tests)

put_other : (lo : ℕ → ℕ) (a y j : ℕ) → (j ≢ a) → put lo a y j ≡ lo j
put_other lo a y j n = grind (arith, nat_tests)

pub moved-low : (g : ℕ) (w v : Bool) (c : Cell) (a y : ℕ) → (moved g w v c a y).lo a ≡ y
moved-low g true true c a y = put-here c.lo a y
moved-low g true false c a y = put-here c.lo a y
moved-low g false true c a y = put-here c.lo a y
moved-low g false false c a y = put-here c.lo a y

pub moved_other : (g : ℕ) (w v : Bool) (c : Cell) (a y j : ℕ) → (j ≢ a) → (moved g w v c a y).lo j ≡ c.lo j
moved_other g true true c a y j n = put_other c.lo a y j n
moved_other g true false c a y j n = put_other c.lo a y j n
moved_other g false true c a y j n = put_other c.lo a y j n
moved_other g false false c a y j n = put_other c.lo a y j n

pub moved-end : (g : ℕ) (w v : Bool) (c : Cell) (a y : ℕ) → 1 ≤ g → c.at a ≡ end g w → (moved g w v c a y).at a ≡ end g v
moved-end g true true c a y s e = e
moved-end g true false c a y s e = sooner-first g (c.at a) e
moved-end g false true c a y s e = later_last g (c.at a) (omega arith)
moved-end g false false c a y s e = e

pub moved_at : (g : ℕ) (w v : Bool) (c : Cell) (a y j : ℕ) → Inner g w (c.at j) → (moved g w v c a y).at j ≡ shift w v (c.at j)
moved_at g true true c a y j i = refl
moved_at g true false c a y j i = sooner-other g (c.at j) i
moved_at g false true c a y j i = later-other g (c.at j) i
moved_at g false false c a y j i = refl
