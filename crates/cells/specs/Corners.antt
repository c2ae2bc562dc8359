-- Corners, walls and outer labels. A corner is the list of its levels, from the first on.
--   Corner        g levels that fall from D (real) or D + 1 (outer)
--   Wall, On      the outer wall, the real wall, the wall of a good; a corner lies on one
--   outer_label    the label of an outer corner for a start point
--   skip          the places of a cell without one of them
use Rattle.std.specs.Prelude.{◌≡◌, ℕ, suc, ◌<◌, ◌≤◌, cond, ◌⊎◌, List, [], ◌∷◌, length, nat_lt}
use Rattle.mesh.specs.Prices.{price, first, Falls, to_prices}

-- A corner of g goods and mesh D: g levels that fall from D or from D + 1.
pub record Corner (g D : ℕ) (v : List ℕ) : Type 0 where
  pub size : length v ≡ g
  pub falls : Falls v
  pub top : (first v ≡ D) ⊎ (first v ≡ suc D)

-- The walls: where the first level is D + 1, where it is D, and where good j has the price 0.
pub data Wall : Type 0 where
  outer_wall : Wall
  real_wall : Wall
  good_wall : ℕ → Wall

-- The walls of g goods.
abbrev pub IsWall : ℕ → Wall → Type 0
IsWall g outer_wall = Unit {0}
IsWall g real_wall = Unit {0}
IsWall g (good_wall j) = (1 ≤ j) × (j ≤ g)

-- The corner v lies on the wall.
abbrev pub On : ℕ → Wall → List ℕ → Type 0
On D outer_wall v = first v ≡ suc D
On D real_wall v = first v ≡ D
On D (good_wall j) v = price (to_prices v) j ≡ 0

-- The first good after good k, of the prices c and x from there on, whose price in x is above that in c; 0 if there is none.
abbrev pub first_above : ℕ → List ℕ → List ℕ → ℕ
first_above k [] xs = 0
first_above k (c ∷ cs) [] = 0
first_above k (c ∷ cs) (x ∷ xs) = cond (nat_lt c x) (suc k) (first_above (suc k) cs xs)

-- The outer label of the corner v for the start prices c: the smallest good whose price is above that of the start.
abbrev pub outer_label : List ℕ → List ℕ → ℕ
outer_label c v = first_above 0 c (to_prices v)

-- The k-th of the places other than i.
abbrev pub skip : ℕ → ℕ → ℕ
skip i k = cond (nat_lt k i) k (suc k)

-- f takes pairwise different values at 0 to n - 1.
abbrev pub Apart : {A : Type 0} → ℕ → (ℕ → A) → Type 0
Apart n f = (i j : ℕ) → i < n → j < n → f i ≡ f j → i ≡ j

-- The outer label l of the corner v for the start prices c, in words: the smallest good whose price is above that of the start. So it is a good with a price.
pub record LabelsOuter (g : ℕ) (c v : List ℕ) (l : ℕ) : Type 0 where
  pub low : 1 ≤ l
  pub high : l ≤ g
  pub above : price c l < price (to_prices v) l
  pub smallest : (i : ℕ) → 1 ≤ i → i < l → price (to_prices v) i ≤ price c i
