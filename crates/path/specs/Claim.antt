-- What is claimed of every path.
--   DifferentIn      the numbers of different cells, added up over the meshes
--   AllProper        every price point of the mesh is properly labelled
--   Improper         the newest corner is a price point that is not properly labelled
--   Ended            the walk on the latest mesh has ended
--   ArrivedCell      the corners that an arrived cell keeps
--   Claim            all of it
use Rattle.std.specs.Prelude.{◌≡◌, ℕ, ◌+◌, ◌≤◌, ◌⊎◌, List, [], ◌∷◌, length, sum, ◌≢◌}
use Rattle.std.specs.List.{AllByRecursion}
use Rattle.mesh.specs.Prices.{to_levels}
use Rattle.labelling.specs.Labels.{Rule, Proper}
use Rattle.cells.specs.Corners.{real_wall, On}
use Rattle.cells.specs.Counting.{bound}
use Rattle.cells.specs.Triangulation.{Shape, wall, Mesh}
use Rattle.path.specs.Lists.{Single, Different}
use Rattle.path.specs.Path.{Opening, Leg, walking, arrived, halted, named, refused, Path, entered, legs, count_of, total_of, Good, corner_on, prices_on, DropsOn, across_on, Steps}

-- n is the sum of the numbers of different cells that the legs enter.
abbrev pub DifferentIn : List Leg → ℕ → Type 0
DifferentIn [] n = n ≡ 0
DifferentIn (l ∷ ls) n = (a : ℕ) × (b : ℕ) × Different (entered l) a × DifferentIn ls b × (n ≡ a + b)

-- Every price point of g goods and the mesh D is properly labelled.
abbrev pub AllProper : ℕ → ℕ → Rule → Type 0
AllProper g D L = (x : List ℕ) → length x ≡ g → sum x ≡ D → Proper g x (L g D x)

module _ (T : (g D : ℕ) → Mesh Shape g D) (L : Rule) (o : Opening) where
  -- The newest corner of the leg is the price point x, and its label n, by the labelling, is not proper.
  pub record Improper (l : Leg) (x : List ℕ) (n : ℕ) : Type 0 where
    pub corner : corner_on T L o l l.newest ≡ to_levels x
    pub size : length x ≡ o.goods
    pub adds_up : sum x ≡ l.mesh
    pub label : n ≡ L o.goods l.mesh x
    pub improper : Proper o.goods x n → ⊥

  -- The walk has arrived by the real wall, or it has halted.
  pub data Ended (p : Path) : Type 0 where
    by_wall : (d : ℕ) → p.stage ≡ arrived d → DropsOn T L o p.leg d → across_on T L o p.leg d ≡ wall real_wall → Ended p
    by_halt : (x : List ℕ) (n : ℕ) → p.stage ≡ halted x n → Ended p

  -- The corner that the cell of a leg keeps at the place i, and its label j by the labelling.
  pub record Keeps (l : Leg) (d j i : ℕ) : Type 0 where
    pub place : i ≤ o.goods
    pub kept : i ≡ d → ⊥
    pub real : On l.mesh real_wall (corner_on T L o l i)
    pub label : L o.goods l.mesh (prices_on T L o l i) ≡ j
    pub proper : Proper o.goods (prices_on T L o l i) j

  -- A cell that arrived with the corner at d dropped: all others are real, and each good labels just one of them.
  pub record ArrivedCell (l : Leg) (d : ℕ) : Type 0 where
    pub dropped : d ≤ o.goods
    pub keeps : (i : ℕ) → i ≤ o.goods → (i ≢ d) → (j : ℕ) × Keeps l d j i
    pub each : (j : ℕ) → Good o.goods j → (i : ℕ) × Keeps l d j i
    pub once : (j i k : ℕ) → Keeps l d j i → Keeps l d j k → i ≡ k

  pub record Claim (p : Path) : Type 0 where
    -- no cell is entered twice on a mesh
    pub once : AllByRecursion (λ l. Single (entered l)) (legs p)
    -- the count is the number of different cells on the latest mesh, and the total is the sum of these numbers over all meshes
    pub count : Different (entered p.leg) (count_of p)
    pub total : DifferentIn (legs p) (total_of p)
    -- on no mesh are there more than (D + 1)^g - D^g
    pub bounded : AllByRecursion (λ l. length (entered l) ≤ bound o.goods l.mesh) (legs p)
    -- after so many granted steps the walk on the mesh has ended
    pub ends : bound o.goods p.leg.mesh ≤ p.leg.steps → Ended p
    -- a walk that is no longer walking has ended in one of the two ways
    pub stands : (p.stage ≡ walking) ⊎ Ended p
    -- a walk halts only at a price point that is not properly labelled, which it names with its label
    pub halts_only : (x : List ℕ) (n : ℕ) → p.stage ≡ halted x n → Improper p.leg x n
    pub names : (x : List ℕ) (n : ℕ) → p.said ≡ named x n → p.stage ≡ halted x n
    -- and from such a point every step halts
    pub halts_there : p.stage ≡ walking → (x : List ℕ) (n : ℕ) → Improper p.leg x n → (r : Path) → Steps T L o p r → (r.stage ≡ halted x n) × (r.said ≡ named x n)
    -- so none halts where all price points are properly labelled
    pub no_halt : AllProper o.goods p.leg.mesh L → (x : List ℕ) (n : ℕ) → p.stage ≢ halted x n
    -- nothing is refused with 10
    pub never_ten : p.said ≡ refused (10, []) → ⊥
    -- an arrived cell shows one corner labelled with each good
    pub arrived_cell : (d : ℕ) → p.stage ≡ arrived d → ArrivedCell p.leg d
