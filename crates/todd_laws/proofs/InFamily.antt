-- Records that are cells of K1 or of J1 are of the form that both share.
use Rattle.std.specs.Prelude.{◌≡◌, ℕ, suc, ◌-◌, true, ◌==◌, refl}
use Rattle.std.proofs.Common.{sym, ap, ◌∙◌}
use Rattle.std.proofs.lemmas.Bool.{ne_eqb, cond-false}
use Rattle.mesh.specs.declared.grid.Grid.{Grid}
use Rattle.cells.specs.Triangulation.{moved}
use Rattle.cells.specs.Cells.{shape_of}
use Rattle.cells.specs.declared.cell.Cell.{Cell}
use Rattle.todd_laws.specs.Steps.{nth, stop, or_else}
use Rattle.todd_laws.specs.K1.{K1Cell, k1_corner, k1_middle, k1_across, k1}
use Rattle.todd_laws.specs.J1.{j1_corner, j1_across, j1}
use Rattle.todd_laws.specs.Records.{Holds, corner_at, middle_across, InFamily}
use Rattle.todd_laws.proofs.Bridge.{k1-way, k1-corner, k1-listed}

module _ (d : Grid) (c : Cell) (cell : K1Cell d.goods d.mesh (shape_of d.goods c)) where
  k1-holds : Holds d c
  k1-holds = let l = k1-listed d.goods d.mesh (shape_of d.goods c) cell in record { size = l.size; order = l.order; directions = l.directions; corners = l.corners }

  k1-at : (k : ℕ) → corner_at d c k ≡ k1_corner (shape_of d.goods c) k
  k1-at k = sym (k1-corner (shape_of d.goods c) (k1-way d.goods d.mesh (shape_of d.goods c) cell) k)

  k1-between : (i : ℕ) → (i ≡ 0 → ⊥) → (i ≡ d.goods → ⊥) → k1_across d.goods d.mesh (shape_of d.goods c) i ≡ middle_across d c i
  k1-between i no-first no_last =
      let s = shape_of d.goods c in
      let m = nth s.order (suc i) in
      cond-false (i == 0) _ _ (ne_eqb i 0 no-first)
      ∙ cond-false (i == d.goods) _ _ (ne_eqb i d.goods no_last)
      ∙ ap (λ v. or_else (stop d.mesh true v m) (moved (k1_middle s i) i)) (sym (k1-at (i - 1)))
      ∙ ap (λ u. or_else (stop d.mesh u (j1_corner s (i - 1)) m) (moved (k1_middle s i) i)) (sym (k1-way d.goods d.mesh s cell (m - 1)))

pub k1-in-family : InFamily k1
k1-in-family = record { holds = k1-holds; corner = k1-at; between = k1-between }

j1-between : (d : Grid) (c : Cell) (i : ℕ) → (i ≡ 0 → ⊥) → (i ≡ d.goods → ⊥) → j1_across d.goods d.mesh (shape_of d.goods c) i ≡ middle_across d c i
j1-between d c i no-first no_last = cond-false (i == 0) _ _ (ne_eqb i 0 no-first) ∙ cond-false (i == d.goods) _ _ (ne_eqb i d.goods no_last)

pub j1-in-family : InFamily j1
j1-in-family = record {
  holds = λ d c cell. record { size = cell.size; order = cell.order; directions = cell.directions; corners = cell.corners };
  corner = λ d c cell k. refl;
  between = λ d c cell. j1-between d c;
}
