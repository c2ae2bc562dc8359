-- K1 and J1 are triangulations.
use Rattle.std.specs.Prelude.{ℕ, ◌≤◌}
use Rattle.cells.specs.Triangulation.{Lawful}
use Rattle.todd_laws.specs.K1.{k1}
use Rattle.todd_laws.specs.J1.{j1}

abbrev pub K1Lawful : Type 0
K1Lawful = (g D : ℕ) → 2 ≤ g → 1 ≤ D → Lawful (k1 g D)

abbrev pub J1Lawful : Type 0
J1Lawful = (g D : ℕ) → 2 ≤ g → 1 ≤ D → Lawful (j1 g D)
