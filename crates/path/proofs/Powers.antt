-- Powers of a mesh: how many cells fit before it and on it.
--   in-range, range-in    a number in a range, as a test and as a fact
--   bound-plus            D^g and the bound on the mesh D make (D + 1)^g
--   past_more             so many are at most the power of a mesh that is f times as fine
--   few                   they are below the limit
use Rattle.std.proofs.Common.{◌≡◌, ℕ, suc, ◌+◌, ◌*◌, ◌^◌, ◌<◌, ◌≤◌, Bool, true, false, ◌&&◌, T as Holds, leb, ⊎_elim, mul-le-mul_right, arith, le→leb, leb→le}
use native.Mathlib.Nat.{pow-le-pow_left, pow-le-pow_right}
use Rattle.std.proofs.lemmas.Bool.{cases_Bool, leb-true, cond-true, cond-false}
use Rattle.mesh.specs.Range.{most, fit_goods, fit_mesh, between}
use Rattle.cells.specs.Counting.{bound}
use Rattle.path.specs.Path.{limit}

both : (a b : Bool) → Holds (a && b) → Holds a × Holds b
both true b h = (tt, h)
both false b h = absurd h

join : (a b : Bool) → Holds a → Holds b → Holds (a && b)
join true b h k = k
join false b h k = absurd h

pub in-range : (low high n : ℕ) → Holds (between low high n) → (low ≤ n) × (n ≤ high)
in-range low high n h =
    let parts = both (leb low n) (leb n high) h in (leb→le low n parts.0, leb→le n high parts.1)

pub range-in : (low high n : ℕ) → low ≤ n → n ≤ high → Holds (between low high n)
range-in low high n h k = join (leb low n) (leb n high) (le→leb low n h) (le→leb n high k)

pub bound-plus : (g D : ℕ) → bound g D + D ^ g ≡ suc D ^ g
bound-plus g D = let h : D ^ g ≤ suc D ^ g = pow-le-pow_left (omega arith) g in omega arith

pub past_more : (g D f a b : ℕ) → 2 ≤ f → 1 ≤ D → a ≤ bound g D → b ≤ D ^ g → a + b ≤ (f * D) ^ g
past_more g D f a b two one few past =
    let h : suc D ≤ f * D = omega (arith, mul-le-mul_right D two) in
    let up : suc D ^ g ≤ (f * D) ^ g = pow-le-pow_left h g in
    omega (arith, bound-plus g D)

pub few : (g D a b : ℕ) → Holds (fit_goods g) → Holds (fit_mesh g D) → a ≤ bound g D → b ≤ D ^ g → a + b < limit
few g D a b goods mesh on past =
    let n = in-range 2 8 g goods in
    let m = in-range 1 (most g) D mesh in
    ⊎_elim
    (λ small.
    let fine : most g ≡ 16384 = cond-true (leb g 4) 16384 128 small in
    let base : suc D ^ g ≤ 16385 ^ g = pow-le-pow_left (omega arith) g in
    let power : 16385 ^ g ≤ 16385 ^ 4 = pow-le-pow_right (omega arith) (leb-true g 4 small) in
    omega (arith, bound-plus g D))
    (λ large.
    let coarse : most g ≡ 128 = cond-false (leb g 4) 16384 128 large in
    let base : suc D ^ g ≤ 129 ^ g = pow-le-pow_left (omega arith) g in
    let power : 129 ^ g ≤ 129 ^ 8 = pow-le-pow_right (omega arith) n.1 in
    omega (arith, bound-plus g D))
    (cases_Bool (leb g 4))
