-- The start cell of a point, as a shape.
use Rattle.std.specs.Prelude.{◌≡◌, ℕ, zero, suc, ◌+◌, ◌-◌, ◌<◌, ◌≤◌, Bool, true, false, List, [], ◌∷◌, map, length, sum, slice_index, refl}
use Rattle.std.proofs.Common.{sym, ◌∙◌, ap, arith}
use Rattle.std.proofs.lemmas.List.{get_or-replicate, length-replicate, length-map, get_or-map, ext_get_or}
use Rattle.std.proofs.lemmas.Bool.{both_ways}
use Rattle.mesh.specs.Prices.{to_levels}
use Rattle.mesh.proofs.Levels.{first-levels, length-levels}
use Rattle.todd_laws.specs.Steps.{IsOrder, up_from, down_from, start_shape}
use Rattle.todd_laws.specs.J1.{j1_corner}
use Rattle.todd_laws.proofs.Family as fam
use Rattle.todd_laws.proofs.Family.{Valid, Same, under}
use Rattle.todd_laws.proofs.FamilyLaws.{start-valid}
use Rattle.todd_laws.proofs.Bridge.{family, way, least, first-is, order-perm, Listed, valid-listed, corner-way, corner-size}
use Rattle.todd_laws.proofs.Labels.{under-is}
use Rattle.todd_laws.proofs.Alike.{at_same, same_turn, valid-like}

pub length_up : (j n : ℕ) → length (up_from j n) ≡ n
length_up j zero = refl
length_up j (suc n) = ap suc (length_up (suc j) n)

pub up_at : (j n k : ℕ) → k < n → slice_index (up_from j n) k ≡ suc (j + k)
up_at j zero k h = absurd (omega arith)
up_at j (suc n) zero h = omega arith
up_at j (suc n) (suc k) h = omega (arith, up_at (suc j) n k (omega arith))

pub length-down : (n : ℕ) → length (down_from n) ≡ n
length-down zero = refl
length-down (suc n) = ap suc (length-down n)

pub down-at : (n k : ℕ) → k < n → slice_index (down_from n) k ≡ n - k
down-at zero k h = absurd (omega arith)
down-at (suc n) zero h = omega arith
down-at (suc n) (suc k) h = omega (arith, down-at n k (omega arith))

up-order : (g : ℕ) → IsOrder g (up_from 0 g)
up-order g = record {
  size = length_up 0 g;
  low = λ k h. omega (arith, up_at 0 g k h);
  high = λ k h. omega (arith, up_at 0 g k h);
  apart = λ i j h l e. omega (arith, up_at 0 g i h, up_at 0 g j l);
}

down-order : (g : ℕ) → IsOrder g (down_from g)
down-order g = record {
  size = length-down g;
  low = λ k h. omega (arith, down-at g k h);
  high = λ k h. omega (arith, down-at g k h);
  apart = λ i j h l e. omega (arith, down-at g i h, down-at g j l);
}

abbrev pub level_of : List ℕ → ℕ → ℕ
level_of c j = slice_index (to_levels c) j

pub next_level : (c : List ℕ) (j : ℕ) → j < length c → slice_index (to_levels c) j ≡ slice_index c j + slice_index (to_levels c) (suc j)
next_level [] j h = absurd (omega arith)
next_level (x ∷ xs) zero h = ap (λ n. x + n) (first-is (to_levels xs))
next_level (x ∷ xs) (suc j) h = next_level xs j (omega arith)

start-size : (g : ℕ) (b : Bool) (c : List ℕ) → length c ≡ g → length (start_shape g b c).base ≡ g
start-size g true c e = length-levels c ∙ e
start-size g false c e = length-map (to_levels c) suc ∙ length-levels c ∙ e

start-order : (g : ℕ) (b : Bool) (c : List ℕ) → IsOrder g (start_shape g b c).order
start-order g true c = up-order g
start-order g false c = down-order g

start-ups : (g : ℕ) (b : Bool) (c : List ℕ) → length (start_shape g b c).ups ≡ g
start-ups g true c = length-replicate g true
start-ups g false c = length-replicate g false

start-way : (g : ℕ) (b : Bool) (c : List ℕ) (j : ℕ) → j < g → way (start_shape g b c) j ≡ b
start-way g true c j h = get_or-replicate g j true true h
start-way g false c j h = get_or-replicate g j false true h

start-lo : (g : ℕ) (b : Bool) (c : List ℕ) (j : ℕ) → length c ≡ g → j < g → (family (start_shape g b c)).lo j ≡ level_of c j
start-lo g true c j e h = ap (λ d. least d (level_of c j)) (start-way g true c j h)
start-lo g false c j e h =
    ap (λ d. least d (slice_index (map suc (to_levels c)) j)) (start-way g false c j h)
    ∙ omega (arith, get_or-map suc (to_levels c) j 0 0 (omega (arith, length-levels c)))

start-ord : (g : ℕ) (b : Bool) (c : List ℕ) (w : ℕ → ℕ) (k : ℕ) → k < g → (family (start_shape g b c)).ord k ≡ (fam.start g b w).ord k
start-ord g true c w k h = omega (arith, up_at 0 g k h)
start-ord g false c w k h = omega (arith, down-at g k h)

start-solid : (g : ℕ) (b : Bool) (c : List ℕ) → length c ≡ g → (j : ℕ) → j < g → way (start_shape g b c) j ≡ false → 1 ≤ slice_index (start_shape g b c).base j
start-solid g true c e j h q = absurd (both_ways (way (start_shape g true c) j) q (start-way g true c j h))
start-solid g false c e j h q = omega (arith, get_or-map suc (to_levels c) j 0 0 (omega (arith, length-levels c)))

-- The point is the corner at the place of its home.
pub start-home : (g : ℕ) (b : Bool) (c : List ℕ) → length c ≡ g → j1_corner (start_shape g b c) (fam.place g b) ≡ to_levels c
start-home g true c e = refl
start-home g false c e = ext_get_or 0 (j1_corner (start_shape g false c) g) (to_levels c) (size ∙ sym (length-levels c ∙ e)) (λ j h. at j (omega (arith, size)))
  where
    size : length (j1_corner (start_shape g false c) g) ≡ g
    size = corner-size g (start_shape g false c) (start-size g false c e) (start-order g false c) (start-solid g false c e) g

    at : (j : ℕ) → j < g → slice_index (j1_corner (start_shape g false c) g) j ≡ level_of c j
    at j h =
        let s = start_shape g false c in
        corner-way g s (start-size g false c e) (start-order g false c) (start-solid g false c e) g j (omega arith) h
        ∙ ap (λ d. fam.level d ((family s).lo j) ((family s).at j) g) (start-way g false c j h)
        ∙ omega (arith, start-lo g false c j e h, (order-perm g s.order (start-order g false c)).at-below j h)

module _ (g D : ℕ) (up : ℕ → Bool) (some : 1 ≤ g) (b : Bool) (c : List ℕ) (goods : length c ≡ g) (all : sum c ≡ D) (ways : (j : ℕ) → j < g → up (level_of c j) ≡ b) where
  pub start-levels : (j : ℕ) → j < g → level_of c j ≡ slice_index c j + under g (level_of c) (suc j)
  start-levels j h = next_level c j (omega arith) ∙ ap (λ n. slice_index c j + n) (sym (under-is g (to_levels c) (level_of c) (length-levels c ∙ goods) (λ i l. refl) (suc j)))

  pub start-top : level_of c 0 ≡ D
  start-top = sym (first-is (to_levels c)) ∙ first-levels c ∙ all

  valid : Valid g D up (fam.start g b (level_of c))
  valid = start-valid g D up some (λ j. slice_index c j) (level_of c) b start-levels start-top ways

  pub start-same : Same g (family (start_shape g b c)) (fam.start g b (level_of c))
  start-same = record {
    lo = λ j h. start-lo g b c j goods h ∙ own b j;
    ord = start-ord g b c (level_of c);
    at = at_same g (family (start_shape g b c)).ord (family (start_shape g b c)).at (fam.start g b (level_of c)).ord (fam.start g b (level_of c)).at
        (order-perm g (start_shape g b c).order (start-order g b c)) valid.perm (start-ord g b c (level_of c));
  }
    where
      own : (b : Bool) (j : ℕ) → level_of c j ≡ (fam.start g b (level_of c)).lo j
      own true j = refl
      own false j = refl

  pub start-listed : Listed g D up (start_shape g b c)
  start-listed = valid-listed g D up some (start_shape g b c) (start-size g b c goods) (start-order g b c) (start-ups g b c)
      (λ j h. ap up (start-lo g b c j goods h) ∙ ways j h ∙ sym (start-way g b c j h)) (start-solid g b c goods)
      (valid-like g D up (fam.start g b (level_of c)) (family (start_shape g b c)) some valid (same_turn g (family (start_shape g b c)) (fam.start g b (level_of c)) start-same))
