-- A sheet: a label for each price point of two goods on one mesh.
use Rattle.std.specs.Prelude.{ℕ, ◌+◌, cond, ◌&&◌, List, length, take, Ok, Result, ◌==◌, slice_index}
use Rattle.mesh.specs.Prices.{to_levels}
use Rattle.mesh.specs.Range.{between}
use Rattle.mesh.specs.Refusals.{Told, insist}
use Rattle.labelling.specs.Labels.{Rule}
use Rattle.labelling.specs.declared.sheet.Sheet.{Sheet}

-- The label on a sheet of mesh D: the byte at the place of the second level. A point of another number of goods or another mesh gets 0.
abbrev pub sheet_rule : ℕ → List ℕ → Rule
sheet_rule D bytes g E x = cond (g == 2 && E == D) (slice_index bytes (slice_index (to_levels x) 1)) 0

-- The mesh of a sheet, and its bytes: one more than the mesh.
abbrev pub sheet_of : Sheet → ℕ × List ℕ
sheet_of s = (s.mesh, take (s.mesh + 1) s.labels)

abbrev pub rule_of : Sheet → Rule
rule_of s = sheet_rule s.mesh (take (s.mesh + 1) s.labels)

-- Making a sheet: 15 for a mesh outside 1 to 64, then 16 for anything but one byte more than the mesh.
abbrev pub sheet_for : ℕ → List ℕ → Result (ℕ × List ℕ) Told
sheet_for D bytes = insist (between 1 64 D) 15 (insist (length bytes == D + 1) 16 (Ok (D, bytes)))
