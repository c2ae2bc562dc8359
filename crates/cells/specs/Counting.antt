-- How many cells there can be.
use Rattle.std.specs.Prelude.{◌≡◌, ℕ, suc, ◌-◌, ◌^◌, ◌<◌, ◌≤◌, List, length, slice_index}
use Rattle.std.specs.List.{AllByRecursion}
use Rattle.cells.specs.Corners.{Apart}
use Rattle.cells.specs.Triangulation.{Shape, Mesh}

-- (D + 1)^g - D^g: how many lists of g numbers up to D have a D among them.
abbrev pub bound : ℕ → ℕ → ℕ
bound g D = suc D ^ g - D ^ g

-- No more than that many different lists of g numbers up to D, each with a D among them, can be listed.
abbrev pub AddressesBounded : Type 0
AddressesBounded =
    (g D m : ℕ) (f : ℕ → List ℕ) → ((i : ℕ) → i < m → length (f i) ≡ g) → ((i : ℕ) → i < m → AllByRecursion (λ n. n ≤ D) (f i))
    → ((i : ℕ) → i < m → (k : ℕ) × (k < g) × (slice_index (f i) k ≡ D)) → Apart m f → m ≤ bound g D

-- No more than that many points fit apart into 0 to n - 1.
abbrev pub Pigeonhole : Type 0
Pigeonhole = (m n : ℕ) (f : ℕ → ℕ) → ((i : ℕ) → i < m → f i < n) → Apart m f → m ≤ n

-- No more than that many different cells of the mesh M can be listed.
abbrev pub CellsBounded : {g D : ℕ} → Mesh Shape g D → Type 0
CellsBounded {g} {D} M = (m : ℕ) (f : ℕ → Shape) → ((i : ℕ) → i < m → M.is_cell (f i)) → Apart m f → m ≤ bound g D
