-- The cells that the walk on one mesh goes through.
--   Trail      the cells before, the cell where the walk stands, and the place of its newest corner
--   Settled    the labels at all other places are proper and pairwise different
use Rattle.std.proofs.Common.{◌≡◌, ℕ, ◌≤◌, List, [], ◌∷◌}
use Rattle.labelling.specs.Labels.{Rule}
use Rattle.cells.specs.Triangulation.{Shape, moved, Mesh}
use Rattle.path.specs.Legs.{label_at, ProperAt, Drops}

module _ {g D : ℕ} (M : Mesh Shape g D) (L : Rule) (c : List ℕ) where
  -- The walk from the start cell of c stands in a with its newest corner at n, and went through the cells before (the latest first).
  abbrev pub Trail : List Shape → Shape → ℕ → Type 0
  Trail [] a n = (a ≡ M.start c) × (n ≡ M.home c)
  Trail (b ∷ bs) a n = (m : ℕ) × (d : ℕ) × Trail bs b m × Drops M L c b m d × (M.across b d ≡ moved a n)

  pub record Settled (a : Shape) (n : ℕ) : Type 0 where
    pub proper : (i : ℕ) → i ≤ g → (i ≡ n → ⊥) → ProperAt M L c a i
    pub apart : (i k : ℕ) → i ≤ g → k ≤ g → (i ≡ n → ⊥) → (k ≡ n → ⊥) → label_at M L c a i ≡ label_at M L c a k → i ≡ k
