-- One family of triangulations, of which K1 and J1 are two members: a level's direction is a function `up` of the smaller of the two values that it
-- takes in a cell. Levels and steps are numbered from 0 here, and levels, orders and corners are functions.
--   level, corner     a level at a place of a cell; a corner
--   Cell, Valid       a cell: the smaller value of each level, the level that moves at each step, the step at which each level moves
--   across            what lies across a place
--   Same              cells that agree below g
--   Right             what the laws say of what lies across a place
--   start             the cell at the levels of a start point
use Rattle.std.specs.Prelude.{◌≡◌, ℕ, suc, ◌+◌, ◌-◌, ◌<◌, ◌≤◌, min, Bool, true, false, cond, not, ◌&&◌, ◌||◌, ◌==◌, ◌≢◌, nat_lt}
use Rattle.cells.specs.Corners.{Wall, outer_wall, real_wall, good_wall, skip}

-- A level that takes the values a and a + 1 and moves at step q (from place q to place q + 1), at place k.
abbrev pub level : Bool → ℕ → ℕ → ℕ → ℕ
level true a q k = a + min 1 (k - q)
level false a q k = a + min 1 (suc q - k)

pub record Cell : Type 0 where
  pub lo : ℕ → ℕ
  pub ord : ℕ → ℕ
  pub at : ℕ → ℕ

-- The level j of the corner at place k.
abbrev pub corner : (ℕ → Bool) → Cell → ℕ → ℕ → ℕ
corner up c k j = level (up (c.lo j)) (c.lo j) (c.at j) k

-- ord and at are orders of 0 to g - 1, and inverse to one another.
pub record Perm (g : ℕ) (p q : ℕ → ℕ) : Type 0 where
  pub ord-below : (k : ℕ) → k < g → p k < g
  pub at-below : (j : ℕ) → j < g → q j < g
  pub at-ord : (k : ℕ) → k < g → q (p k) ≡ k
  pub ord-at : (j : ℕ) → j < g → p (q j) ≡ j

-- A corner: its levels fall from D or D + 1.
pub record Corner (g D : ℕ) (u : ℕ → ℕ) : Type 0 where
  pub top : D ≤ u 0
  pub top-most : u 0 ≤ suc D
  pub falls : (j : ℕ) → suc j < g → u (suc j) ≤ u j

-- The step that comes first, by direction.
abbrev pub First : Bool → ℕ → ℕ → Type 0
First true m n = m < n
First false m n = n < m

pub record Valid (g D : ℕ) (up : ℕ → Bool) (c : Cell) : Type 0 where
  pub perm : Perm g c.ord c.at
  pub top : c.lo 0 ≡ D
  pub falls : (j : ℕ) → suc j < g → c.lo (suc j) ≤ c.lo j
  pub ties : (j : ℕ) → suc j < g → c.lo (suc j) ≡ c.lo j → First (up (c.lo j)) (c.at j) (c.at (suc j))

-- What lies across a place: a cell, in which the new corner has a place, or a wall. Walls of goods are numbered from 1.
pub data Side : Type 0 where
  next : Cell → ℕ → Side
  wall : Wall → Side

-- Steps m and m + 1 change places.
abbrev pub swap : ℕ → ℕ → ℕ
swap m k = cond (k == m) (suc m) (cond (k == suc m) m k)

abbrev pub swapped : Cell → ℕ → Cell
swapped c m = record { lo = c.lo; ord = λ k. c.ord (swap m k); at = λ j. swap m (c.at j) }

-- The first of g steps becomes the last, each other comes one sooner.
abbrev pub sooner : ℕ → ℕ → ℕ
sooner g k = cond (k == 0) (g - 1) (k - 1)

-- The last of g steps becomes the first, each other comes one later.
abbrev pub later : ℕ → ℕ → ℕ
later g k = cond (suc k == g) 0 (suc k)

-- The level a has the smaller value x.
abbrev pub put : (ℕ → ℕ) → ℕ → ℕ → ℕ → ℕ
put lo a x j = cond (j == a) x (lo j)

abbrev pub stays : Cell → ℕ → ℕ → Cell
stays c a x = record { lo = put c.lo a x; ord = c.ord; at = c.at }

abbrev pub to_end : ℕ → Cell → ℕ → ℕ → Cell
to_end g c a x = record { lo = put c.lo a x; ord = λ k. c.ord (later g k); at = λ j. sooner g (c.at j) }

abbrev pub to_front : ℕ → Cell → ℕ → ℕ → Cell
to_front g c a x = record { lo = put c.lo a x; ord = λ k. c.ord (sooner g k); at = λ j. later g (c.at j) }

abbrev pub same : Bool → Bool → Bool
same true b = b
same false b = not b

-- Of the end at which a level moves (true: first, false: last): its step, and the place beyond it.
abbrev pub end : ℕ → Bool → ℕ
end g true = 0
end g false = g - 1

abbrev pub place : ℕ → Bool → ℕ
place g true = 0
place g false = g

-- The level a, which moves at the end w, gets the smaller value x and moves at the end v.
abbrev pub moved : ℕ → Bool → Bool → Cell → ℕ → ℕ → Cell
moved g true true c a x = stays c a x
moved g true false c a x = to_end g c a x
moved g false true c a x = to_front g c a x
moved g false false c a x = stays c a x

-- It stays at its end if its direction turns.
abbrev pub gets : ℕ → (ℕ → Bool) → Bool → Cell → ℕ → ℕ → Side
gets g up w c a x = let v = cond (same (up x) (up (c.lo a))) (not w) w in next (moved g w v c a x) (place g v)

abbrev pub across-end : ℕ → (ℕ → Bool) → Bool → Cell → Side
across-end g up w c =
    let a = c.ord (end g w) in
    let x = c.lo a in
    cond (same (up x) w)
    (cond (a == 0) (wall outer_wall) (gets g up w c a (suc x)))
    (cond (a == 0) (wall real_wall) (cond (x == 0) (wall (good_wall (suc a))) (gets g up w c a (x - 1))))

-- Across the place m + 1, between the steps m and m + 1.
abbrev pub across-middle : Cell → ℕ → Side
across-middle c m =
    let a = c.ord m in
    let b = c.ord (suc m) in
    cond (c.lo a == c.lo b && (b == suc a || a == suc b)) (wall (good_wall (suc (min a b)))) (next (swapped c m) (suc m))

abbrev pub across : ℕ → (ℕ → Bool) → Cell → ℕ → Side
across g up c i = cond (i == 0) (across-end g up true c) (cond (i == g) (across-end g up false c) (across-middle c (i - 1)))

-- Level j, and 0 past the last.
abbrev pub under : ℕ → (ℕ → ℕ) → ℕ → ℕ
under g u j = cond (nat_lt j g) (u j) 0

-- A corner lies on a wall; good j has the price of level j - 1 less level j.
abbrev pub On : ℕ → ℕ → (ℕ → ℕ) → Wall → Type 0
On g D u outer_wall = u 0 ≡ suc D
On g D u real_wall = u 0 ≡ D
On g D u (good_wall j) = (1 ≤ j) × (j ≤ g) × (u (j - 1) ≡ under g u j)

pub record Same (g : ℕ) (c d : Cell) : Type 0 where
  pub lo : (j : ℕ) → j < g → c.lo j ≡ d.lo j
  pub ord : (k : ℕ) → k < g → c.ord k ≡ d.ord k
  pub at : (j : ℕ) → j < g → c.at j ≡ d.at j

-- All corners of c but the one at i are on the wall w.
abbrev pub AllOn : ℕ → ℕ → (ℕ → Bool) → Cell → ℕ → Wall → Type 0
AllOn g D up c i w = (k : ℕ) → k ≤ g → (k ≢ i) → On g D (corner up c k) w

abbrev pub Back : ℕ → Cell → ℕ → Side → Type 0
Back g c i (next e k) = Same g e c × (k ≡ i)
Back g c i (wall w) = ⊥

pub record Next (g D : ℕ) (up : ℕ → Bool) (c : Cell) (i : ℕ) (d : Cell) (j : ℕ) : Type 0 where
  pub valid : Valid g D up d
  pub within : j ≤ g
  pub kept : (k l : ℕ) → k < g → l < g → corner up c (skip i k) l ≡ corner up d (skip j k) l
  pub differs : Same g c d → ⊥
  pub back : Back g c i (across g up d j)
  pub no-wall : (w : Wall) → AllOn g D up c i w → ⊥

abbrev pub Right : ℕ → ℕ → (ℕ → Bool) → Cell → ℕ → Side → Type 0
Right g D up c i (next d j) = Next g D up c i d j
Right g D up c i (wall w) = AllOn g D up c i w

-- The least level at which the corner u asks for more than c: the good j + 1 is the outer label of u for c.
pub record Label (g : ℕ) (c u : ℕ → ℕ) (j : ℕ) : Type 0 where
  pub more : c j < under g u j - under g u (suc j)
  pub least : (i : ℕ) → i < j → under g u i - under g u (suc i) ≤ c i

-- Each label stands on an outer corner.
abbrev pub Carries : ℕ → ℕ → (ℕ → Bool) → (ℕ → ℕ) → Cell → Type 0
Carries g D up c d = (j : ℕ) → j < g → (k : ℕ) × (k ≤ g) × (corner up d k 0 ≡ suc D) × Label g c (corner up d k) j

-- The cell at the levels w: its order is 0 to g - 1, or g - 1 to 0.
abbrev pub start : ℕ → Bool → (ℕ → ℕ) → Cell
start g true w = record { lo = w; ord = λ k. k; at = λ j. j }
start g false w = record { lo = w; ord = λ k. g - suc k; at = λ j. g - suc j }
