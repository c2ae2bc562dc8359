-- What a triangulation is: its meaning and its laws.
--   Shape        a cell as a reader thinks of it: base, order, directions
--   Across       what lies across a place of a cell
--   Mesh         the meaning of a triangulation for g goods and the mesh D
--   Lawful       the laws
use Rattle.std.specs.Prelude.{◌≡◌, ℕ, suc, ◌%◌, ◌<◌, ◌≤◌, Bool, T, List, length, sum, slice_index}
use Rattle.std.specs.List.{AllByRecursion}
use Rattle.mesh.specs.Prices.{to_levels}
use Rattle.cells.specs.Corners.{Corner, Wall, outer_wall, IsWall, On, outer_label, skip, Apart}

-- A base of g levels, an order of the levels 1 to g, and a direction for each level (true: up).
pub record Shape : Type 0 where
  pub base : List ℕ
  pub order : List ℕ
  pub ups : List Bool

-- A wall, or a cell with the place of its new corner.
pub data Across (Cell : Type 0) : Type 0 where
  wall : Wall → Across Cell
  moved : Cell → ℕ → Across Cell

pub record Mesh (Cell : Type 0) (g D : ℕ) : Type 1 where
  pub is_cell : Cell → Type 0
  -- the corner of a cell at a place, 0 to g
  pub corner : Cell → ℕ → List ℕ
  -- what lies across a place
  pub across : Cell → ℕ → Across Cell
  -- the price points from which a walk may start, the start cell of each, and its place there
  pub admitted : List ℕ → Bool
  pub start : List ℕ → Cell
  pub home : List ℕ → ℕ
  pub address : Cell → List ℕ

module _ {Cell : Type 0} {g D : ℕ} (M : Mesh Cell g D) where
  open M use {is_cell, corner, across, admitted, start, home, address}

  -- The corners of the cell a but the one at i, in order.
  abbrev pub facet : Cell → ℕ → ℕ → List ℕ
  facet a i k = corner a (skip i k)

  -- All corners of a but the one at i lie on the wall.
  abbrev pub FacetOn : Wall → Cell → ℕ → Type 0
  FacetOn w a i = (k : ℕ) → k < g → On D w (facet a i k)

  -- Every corner of a is a corner of b.
  abbrev pub CornersIn : Cell → Cell → Type 0
  CornersIn a b = (i : ℕ) → i ≤ g → (j : ℕ) × (j ≤ g) × (corner a i ≡ corner b j)

  -- The corners of a but the one at i are outer and carry the outer labels 1 to g for c, each once.
  pub record Starts (c : List ℕ) (a : Cell) (i : ℕ) : Type 0 where
    pub outer : FacetOn outer_wall a i
    pub low : (k : ℕ) → k < g → 1 ≤ outer_label c (facet a i k)
    pub high : (k : ℕ) → k < g → outer_label c (facet a i k) ≤ g
    pub apart : Apart g (λ k. outer_label c (facet a i k))

  -- The cell b, entered with its corner at j, is the neighbour of a across the place i.
  pub record Neighbour (a : Cell) (i : ℕ) (b : Cell) (j : ℕ) : Type 0 where
    pub cell : is_cell b
    pub place : j ≤ g
    pub other : b ≡ a → ⊥
    pub shared : (k : ℕ) → k < g → facet a i k ≡ facet b j k
    pub back : across b j ≡ moved a i

  pub record Lawful : Type 0 where
    -- a cell has corners, which are different, and no other cell has the same
    pub corners : (a : Cell) → is_cell a → (i : ℕ) → i ≤ g → Corner g D (corner a i)
    pub different : (a : Cell) → is_cell a → Apart (suc g) (corner a)
    pub same_corners : (a b : Cell) → is_cell a → is_cell b → CornersIn a b → CornersIn b a → a ≡ b
    -- across a place lies the neighbour that shares the other corners, or a wall just where these lie on one
    pub neighbour : (a : Cell) → is_cell a → (i : ℕ) → i ≤ g → (b : Cell) (j : ℕ) → across a i ≡ moved b j → Neighbour a i b j
    pub at_wall : (a : Cell) → is_cell a → (i : ℕ) → i ≤ g → (w : Wall) → across a i ≡ wall w → IsWall g w × FacetOn w a i
    pub no_way : (a : Cell) → is_cell a → (i : ℕ) → i ≤ g → (w : Wall) → IsWall g w → FacetOn w a i → (v : Wall) × (across a i ≡ wall v)
    -- the start cell of a point holds it as its only real corner, and is the only one whose outer corners carry all outer labels
    pub points : (c : List ℕ) → T (admitted c) → (length c ≡ g) × (sum c ≡ D)
    pub start_cell : (c : List ℕ) → T (admitted c) → is_cell (start c)
    pub home_place : (c : List ℕ) → T (admitted c) → home c ≤ g
    pub home_corner : (c : List ℕ) → T (admitted c) → corner (start c) (home c) ≡ to_levels c
    pub starts : (c : List ℕ) → T (admitted c) → Starts c (start c) (home c)
    pub only_start : (c : List ℕ) → T (admitted c) → (a : Cell) → is_cell a → (i : ℕ) → i ≤ g → Starts c a i → a ≡ start c
    -- an address of g numbers up to D, one of them D, tells a cell from all others
    pub address_size : (a : Cell) → is_cell a → length (address a) ≡ g
    pub address_small : (a : Cell) → is_cell a → AllByRecursion (λ n. n ≤ D) (address a)
    pub address_full : (a : Cell) → is_cell a → (k : ℕ) × (k < g) × (slice_index (address a) k ≡ D)
    pub addressed : (a b : Cell) → is_cell a → is_cell b → address a ≡ address b → a ≡ b
    -- a point is admitted where the mesh and all prices are even
    pub even : (c : List ℕ) → length c ≡ g → sum c ≡ D → D % 2 ≡ 0 → AllByRecursion (λ x. x % 2 ≡ 0) c → T (admitted c)
