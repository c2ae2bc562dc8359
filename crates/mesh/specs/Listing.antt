-- The order in which the price points of a mesh are listed.
use Rattle.std.specs.Prelude.{◌≡◌, ℕ, ◌<◌, ◌⊎◌, List, [], ◌∷◌, length, sum}

-- The prices z come after x: at the first good in which they differ, z has the lower price.
abbrev pub Later : List ℕ → List ℕ → Type 0
Later [] zs = ⊥
Later (x ∷ xs) [] = ⊥
Later (x ∷ xs) (z ∷ zs) = (z < x) ⊎ ((z ≡ x) × Later xs zs)

-- No price point of g goods and mesh D comes before x.
abbrev pub IsFirst : ℕ → ℕ → List ℕ → Type 0
IsFirst g D x = (z : List ℕ) → length z ≡ g → sum z ≡ D → (z ≡ x) ⊎ Later x z

-- None comes after x.
abbrev pub IsLast : ℕ → ℕ → List ℕ → Type 0
IsLast g D x = (z : List ℕ) → length z ≡ g → sum z ≡ D → Later x z → ⊥

-- The prices y come right after x: every other point after x comes after y too.
pub record RightAfter (g D : ℕ) (x y : List ℕ) : Type 0 where
  pub later : Later x y
  pub next : (z : List ℕ) → length z ≡ g → sum z ≡ D → Later x z → (z ≡ y) ⊎ Later y z
