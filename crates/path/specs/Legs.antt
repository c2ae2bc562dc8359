-- The walk on one mesh: labels, and the corner that is dropped.
--   label      the label of a corner
--   label_at    that of the corner at a place of a cell
--   ProperAt   it is proper
--   Drops      the walk, in a cell with a newest corner, drops another
use Rattle.std.specs.Prelude.{◌≡◌, ℕ, suc, ◌≤◌, cond, List, ◌==◌}
use Rattle.mesh.specs.Prices.{first, to_prices}
use Rattle.labelling.specs.Labels.{Rule, Proper}
use Rattle.cells.specs.Corners.{outer_label}
use Rattle.cells.specs.Triangulation.{Shape, Mesh}

-- The label of the corner v on the mesh D, for a walk that started at c: the outer label where it is outer, that of the labelling where it is real.
abbrev pub label : ℕ → ℕ → Rule → List ℕ → List ℕ → ℕ
label g D L c v = cond (first v == suc D) (outer_label c v) (L g D (to_prices v))

module _ {g D : ℕ} (M : Mesh Shape g D) (L : Rule) (c : List ℕ) where
  abbrev pub label_at : Shape → ℕ → ℕ
  label_at a i = label g D L c (M.corner a i)

  abbrev pub ProperAt : Shape → ℕ → Type 0
  ProperAt a i = Proper g (to_prices (M.corner a i)) (label_at a i)

  -- In the cell a with its newest corner at n, the corner at d is dropped: the label at n is proper, and the one at d is the same.
  pub record Drops (a : Shape) (n d : ℕ) : Type 0 where
    pub proper : ProperAt a n
    pub place : d ≤ g
    pub other : d ≡ n → ⊥
    pub same : label_at a d ≡ label_at a n
