-- Records that hold a cell: the entries of their tables, and steps from corner to corner.
use Rattle.std.proofs.Common.{◌≡◌, ℕ, zero, suc, ◌+◌, ◌-◌, ◌<◌, ◌≤◌, Bool, true, false, not, List, [], ◌∷◌, length, get_or, take, set, sym, refl, ap, ◌∙◌, ⊎_elim, add-one, arith}
use Rattle.std.proofs.Math.Seq.{take-set-lt}
use Rattle.std.proofs.lemmas.List.{get_or-take, get_or_past, length-take}
use Rattle.mesh.specs.Prices.{first, Falls}
use Rattle.mesh.specs.declared.grid.Grid.{Grid}
use Rattle.mesh.proofs.PointPrices.{grid-small}
use Rattle.cells.specs.Corners.{Corner}
use Rattle.cells.specs.Triangulation.{Shape}
use Rattle.cells.specs.Cells.{shape_of}
use Rattle.cells.specs.declared.cell.Cell.{Cell}
use Rattle.todd_laws.specs.Steps.{level, step, shift, nth}
use Rattle.todd_laws.specs.J1.{upward, turned}
use Rattle.todd_laws.specs.Records.{Holds, corner_at}
use Rattle.todd_laws.proofs.Bridge.{shift_same, shift-other}

pub shape_is : (b c o p : List ℕ) (u v : List Bool) → b ≡ c → o ≡ p → u ≡ v
    → ◌≡◌ {A = Shape} (record { base = b; order = o; ups = u }) (record { base = c; order = p; ups = v })
shape_is b c o p u v e f h = cc

pub take-shift : (up : Bool) (g : ℕ) (v : List ℕ) (j : ℕ) → j - 1 < g → take g (shift up v j) ≡ shift up (take g v) j
take-shift true g v j h = take-set-lt g v (j - 1) _ h ∙ ap (λ x. set (take g v) (j - 1) (x + 1)) (sym (get_or-take g v (j - 1) 0 h))
take-shift false g v j h = take-set-lt g v (j - 1) _ h ∙ ap (λ x. set (take g v) (j - 1) (x - 1)) (sym (get_or-take g v (j - 1) 0 h))

-- No level is above the first, and no corner above the mesh and one.
falls-small : (v : List ℕ) → Falls v → (j : ℕ) → get_or v j 0 ≤ first v
falls-small [] f j = omega arith
falls-small (x ∷ xs) f zero = omega arith
falls-small (x ∷ xs) f (suc j) = omega (arith, falls-small xs f.1 j, f.0)

corner-small : (g D : ℕ) (v : List ℕ) → Corner g D v → (j : ℕ) → get_or v j 0 ≤ suc D
corner-small g D v c j = ⊎_elim (λ e. omega (arith, falls-small v c.falls j)) (λ e. omega (arith, falls-small v c.falls j)) c.top

step_small : (up : Bool) (x : ℕ) → x ≤ 16385 → step up x < 4294967295
step_small true x h = omega arith
step_small false x h = omega arith

-- The n-th level of the order: it is j.
module _ (d : Grid) (c : Cell) (holds : Holds d c) (n : ℕ) (some : 1 ≤ n) (most : n ≤ d.goods) (j : ℕ) (is : j ≡ get_or c.order (n - 1) 0) where
  abbrev s : Shape
  s = shape_of d.goods c

  pub nth-is : j ≡ nth s.order n
  nth-is = is ∙ sym (get_or-take d.goods c.order (n - 1) 0 (omega arith))

  low : 1 ≤ j
  low = omega (arith, nth-is, holds.order.low (n - 1) (omega arith))

  high : j ≤ d.goods
  high = omega (arith, nth-is, holds.order.high (n - 1) (omega arith))

  in_g : j - 1 < d.goods
  in_g = omega (arith, low, high)

  pub way-is : (up : Bool) → up ≡ get_or c.ups (j - 1) true → up ≡ upward s (nth s.order n)
  way-is up way = way ∙ sym (get_or-take d.goods c.ups (j - 1) true in_g) ∙ ap (upward s) nth-is

  -- It moves in a table whose first levels are those of a corner.
  pub moved_in : (k : ℕ) → k ≤ d.goods → (up : Bool) (levels after : List ℕ) → take d.goods levels ≡ corner_at d c k
      → (level levels j < 4294967295 → after ≡ shift up levels j) → take d.goods after ≡ shift up (corner_at d c k) (nth s.order n)
  moved_in k h up levels after e moves =
      let small = corner-small d.goods d.mesh (corner_at d c k) (holds.corners k h) (j - 1) in
      let room : level levels j < 4294967295
      = omega (arith, small, grid-small d, get_or-take d.goods levels (j - 1) 0 in_g, ap (λ v. get_or v (j - 1) 0) e)
      in
      ap (take d.goods) (moves room) ∙ take-shift up d.goods levels j in_g ∙ ap (λ v. shift up v j) e ∙ ap (shift up (corner_at d c k)) nth-is

  -- It moves twice in the base.
  pub moved_twice : (up : Bool) (once twice : List ℕ) → (level c.base j < 4294967295 → once ≡ shift up c.base j) → (level once j < 4294967295 → twice ≡ shift up once j)
      → take d.goods twice ≡ shift up (shift up s.base (nth s.order n)) (nth s.order n)
  moved_twice up once twice m1 m2 =
      let small : level c.base j ≤ 16385
      = omega (arith, corner-small d.goods d.mesh (corner_at d c 0) (holds.corners 0 (omega arith)) (j - 1), grid-small d, get_or-take d.goods c.base (j - 1) 0 in_g)
      in
      let once_is = m1 (omega arith) in
      let long : j - 1 < length c.base = omega (arith, in_g, holds.size, length-take d.goods c.base) in
      let level-is = ap (λ v. level v j) once_is ∙ shift_same up c.base j long in
      ap (take d.goods) (m2 (omega (arith, step_small up (level c.base j) small)))
      ∙ take-shift up d.goods once j in_g
      ∙ ap (λ v. shift up v j) (moved_in 0 (omega arith) up c.base once refl m1)
      ∙ ap (shift up (shift up s.base (nth s.order n))) nth-is

  -- Its direction turns round.
  pub ups-turned : take d.goods (set c.ups (j - 1) (not (get_or c.ups (j - 1) true))) ≡ turned s (nth s.order n)
  ups-turned =
      take-set-lt d.goods c.ups (j - 1) _ in_g
      ∙ ap (λ x. set s.ups (j - 1) (not x)) (sym (get_or-take d.goods c.ups (j - 1) true in_g))
      ∙ ap (turned s) nth-is

-- One more level of the order moves.
pub corner-more : (d : Grid) (c : Cell) → Holds d c → (k : ℕ) → k < d.goods → (j : ℕ) → j ≡ get_or c.order k 0 → (up : Bool) → up ≡ get_or c.ups (j - 1) true
    → (levels after : List ℕ) → take d.goods levels ≡ corner_at d c k → (level levels j < 4294967295 → after ≡ shift up levels j)
    → take d.goods after ≡ corner_at d c (k + 1)
corner-more d c holds k h j is up way levels after e moves =
    let same : k ≡ suc k - 1 = omega arith in
    let there = is ∙ ap (λ n. get_or c.order n 0) same in
    moved_in d c holds (suc k) (omega arith) (omega arith) j there k (omega arith) up levels after e moves
    ∙ ap (λ u. shift u (corner_at d c k) (nth (shape_of d.goods c).order (suc k))) (way-is d c holds (suc k) (omega arith) (omega arith) j there up way)
    ∙ ap (corner_at d c) (sym (add-one k))

module _ (d : Grid) (c : Cell) (holds : Holds d c) where
  corner-long : (k : ℕ) → k ≤ d.goods → length (corner_at d c k) ≡ d.goods
  corner-long k h = (holds.corners k h).size

  -- There is no level past the last.
  pub level-past : (k j : ℕ) → k ≤ d.goods → d.goods < j → 0 ≡ level (corner_at d c k) j
  level-past k j h l = sym (get_or_past (corner_at d c k) (j - 1) 0 (omega (arith, corner-long k h)))

  -- The level that the order has next moves.
  pub level-moves : (k j x y : ℕ) (up : Bool) → k < d.goods → get_or c.order k 0 ≡ j → up ≡ get_or c.ups (j - 1) true → (x < 4294967295 → y ≡ step up x)
      → x ≡ level (corner_at d c k) j → y ≡ level (corner_at d c (k + 1)) j
  level-moves k j x y up h is way moves e =
      let g = d.goods in
      let same : k ≡ suc k - 1 = omega arith in
      let there : j ≡ get_or c.order (suc k - 1) 0 = sym is ∙ ap (λ n. get_or c.order n 0) same in
      let m = nth-is d c holds (suc k) (omega arith) (omega arith) j there in
      let turns = way-is d c holds (suc k) (omega arith) (omega arith) j there up way in
      let within : j - 1 < length (corner_at d c k)
      = omega (arith, corner-long k (omega arith), m, holds.order.low k h, holds.order.high k h, get_or-take g c.order k 0 h) in
      let small : x < 4294967295 = omega (arith, e, corner-small g d.mesh (corner_at d c k) (holds.corners k (omega arith)) (j - 1), grid-small d) in
      moves small
      ∙ ap (step up) e
      ∙ sym (shift_same up (corner_at d c k) j within)
      ∙ ap (λ u. level (shift u (corner_at d c k) j) j) turns
      ∙ ap (λ n. level (shift (upward (shape_of g c) (nth (shape_of g c).order (suc k))) (corner_at d c k) n) j) m
      ∙ ap (λ n. level (corner_at d c n) j) (sym (add-one k))

  -- Every other level stays.
  pub level-stays : (k j : ℕ) → k < d.goods → 1 ≤ j → (get_or c.order k 0 ≡ j → ⊥) → level (corner_at d c k) j ≡ level (corner_at d c (k + 1)) j
  level-stays k j h low ne =
      let g = d.goods in
      let m = nth (shape_of g c).order (suc k) in
      let one = holds.order.low k h in
      let is : m ≡ get_or c.order k 0 = let e : suc k - 1 ≡ k = omega arith in rw e (get_or-take g c.order k 0 h) in
      let other : j - 1 ≡ m - 1 → ⊥ = λ e. ne (omega (arith, is, one, get_or-take g c.order k 0 h)) in
      sym (shift-other (upward (shape_of g c) m) (corner_at d c k) m (j - 1) other)
      ∙ ap (λ n. level (corner_at d c n) j) (sym (add-one k))

  -- The order has each level once.
  once : (n k j : ℕ) → n < d.goods → k < d.goods → (n ≡ k → ⊥) → get_or c.order n 0 ≡ j → get_or c.order k 0 ≡ j → ⊥
  once n k j h l ne is e =
      let at : (i : ℕ) → i < d.goods → get_or (shape_of d.goods c).order i 0 ≡ get_or c.order i 0 = λ i h. get_or-take d.goods c.order i 0 h in
      ne (holds.order.apart n k h l (at n h ∙ is ∙ sym e ∙ sym (at k l)))

  -- Its levels count from 1 to the number of goods.
  counts : (n j : ℕ) → n < d.goods → get_or c.order n 0 ≡ j → (1 ≤ j) × (j ≤ d.goods)
  counts n j h is =
      let at = get_or-take d.goods c.order n 0 h in
      (omega (arith, is, at, holds.order.low n h), omega (arith, is, at, holds.order.high n h))

  -- Before its turn a level is that of the base.
  pub level-waits : (n j k : ℕ) → get_or c.order n 0 ≡ j → n < d.goods → k ≤ n → level c.base j ≡ level (corner_at d c k) j
  level-waits n j zero is h l = sym (get_or-take d.goods c.base (j - 1) 0 (omega (arith, counts n j h is)))
  level-waits n j (suc k) is h l =
      level-waits n j k is h (omega arith)
      ∙ level-stays k j (omega arith) (counts n j h is).0 (once n k j h (omega arith) (λ e. omega (arith, e)) is)
      ∙ ap (λ i. level (corner_at d c i) j) (add-one k)

  -- After it the level moves no more.
  level-moved : (n j m : ℕ) → get_or c.order n 0 ≡ j → n + suc m ≤ d.goods → level (corner_at d c (n + 1)) j ≡ level (corner_at d c (n + suc m)) j
  level-moved n j zero is h = refl
  level-moved n j (suc m) is h =
      let k = n + suc m in
      let more : k + 1 ≡ n + suc (suc m) = omega arith in
      level-moved n j m is (omega arith)
      ∙ level-stays k j (omega arith) (counts n j (omega arith) is).0 (once n k j (omega arith) (omega arith) (λ e. omega (arith, e)) is)
      ∙ ap (λ i. level (corner_at d c i) j) more

  -- So at every later corner it is the level of the base moved by one.
  pub level-in-turn : (n j k x y : ℕ) (up : Bool) → get_or c.order n 0 ≡ j → n < k → k ≤ d.goods → up ≡ get_or c.ups (j - 1) true → (x < 4294967295 → y ≡ step up x)
      → x ≡ level c.base j → y ≡ level (corner_at d c k) j
  level-in-turn n j k x y up is h l way moves e =
      let m = k - suc n in
      let more : n + suc m ≡ k = omega (arith, h) in
      level-moves n j x y up (omega arith) is way moves (e ∙ level-waits n j n is (omega arith) (omega arith))
      ∙ level-moved n j m is (omega (arith, more))
      ∙ ap (λ i. level (corner_at d c i) j) more
