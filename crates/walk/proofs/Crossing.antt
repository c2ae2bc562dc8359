-- What lies across a dropped corner, by the way that is answered.
--   arrives    stopped by the real wall: it is the real wall, where the run arrives
--   goes_on    moved: it is the cell that was reached, with its new corner at the place that is answered, and the run goes on there
use Rattle.std.proofs.Common.{◌≡◌, ℕ, ◌≤◌, Ok, Result, sym, ap, ◌∙◌, subst, ap₂}
use Rattle.mesh.specs.Refusals.{Told}
use Rattle.mesh.specs.declared.grid.Grid.{Grid}
use Rattle.cells.specs.Cells.{shape_of, crossing, Reached, AcrossAnswer}
use Rattle.cells.specs.Ways.{wall_of, way_of, Says}
use Rattle.cells.specs.Triangulation.{Shape, wall, moved, Mesh, Lawful}
use Rattle.cells.specs.declared.cell.Cell.{Cell}
use Rattle.cells.specs.declared.wall.Wall.{Wall}
use Rattle.cells.specs.declared.wall.Wall.TheVariants.{Real}
use Rattle.cells.specs.declared.wall.Way.{Way}
use Rattle.cells.specs.declared.wall.Way.TheVariants.{Moved, Stopped}
use Rattle.cells.proofs.Ways.{reads-back, across-moved, across-stopped}
use Rattle.path.specs.Path.{Answer, ticket}
use Rattle.state.specs.Views.{View, arriving}
use Rattle.walk.specs.Records.{crossed}

-- The pair of numbers that is answered.
pair_is : (p q : ℕ × ℕ) → ◌≡◌ {A = Result (ℕ × ℕ) Told} (Ok p) (Ok q) → p ≡ q
pair_is p q e = cc

module _ (T : (g D : ℕ) → Mesh Shape g D) (lawful : (g D : ℕ) → 2 ≤ g → 1 ≤ D → Lawful (T g D)) (grid here : Grid) (same : here ≡ grid)
    (c b : Cell) (d : ℕ) (pair : ℕ × ℕ) (answer : AcrossAnswer (T here.goods here.mesh) c d (Ok pair) b) (way : Way) (tells : way ≡ way_of pair)
    (low : d ≤ grid.goods) (cell : (T grid.goods grid.mesh).is_cell (shape_of grid.goods c)) where
  abbrev g : ℕ
  g = grid.goods

  abbrev M : Mesh Shape g grid.mesh
  M = T g grid.mesh

  abbrev a : Shape
  a = shape_of g c

  law : Lawful M
  law = lawful g grid.mesh grid.goods_fit.0 grid.mesh_fits.0

  -- The answer, on the grid of the run.
  answered-there : ◌≡◌ {A = Result (ℕ × ℕ) Told} (Ok pair) (Ok (crossing d (M.across a d))) × Reached g c (M.across a d) b
  answered-there = (subst (λ (e : Grid). AcrossAnswer (T e.goods e.mesh) c d (Ok pair) b) same answer).value low cell

  -- The way that it tells.
  says : Says way (M.across a d)
  says =
      let told : way ≡ way_of (crossing d (M.across a d)) = tells ∙ ap way_of (pair_is pair (crossing d (M.across a d)) answered-there.0) in
      subst (λ w. Says w (M.across a d)) (sym told) (reads-back g d (M.across a d) grid.goods_fit.1 (λ v is. (law.at_wall a cell d low v is).0))

  stopped-across : (v : Wall) → way ≡ Stopped v → M.across a d ≡ wall (wall_of v)
  stopped-across v is = across-stopped v (M.across a d) (subst (λ w. Says w (M.across a d)) is says)

  moved-across : (k : ℕ) → way ≡ Moved k → (k ≤ g) × M.is_cell (shape_of g b) × (M.across a d ≡ moved (shape_of g b) k)
  moved-across k is =
      let there = across-moved k (M.across a d) (subst (λ w. Says w (M.across a d)) is says) in
      let reached : shape_of g b ≡ there.0 = subst (λ x. Reached g c x b) there.1 answered-there.1 in
      let next = law.neighbour a cell d low there.0 k there.1 in
      (next.place, subst M.is_cell (sym reached) next.cell, there.1 ∙ ap (λ s. moved s k) (sym reached))

  -- The run v, whose newest corner has the label l, drops the corner at d: what was answered, and what the run is then.
  module _ (v w : View) (l : ℕ) (said : Answer) where
    pub arrives : way ≡ Stopped Real → said ≡ ticket v.number v.sight.mesh → w ≡ arriving v d l
        → ◌≡◌ {A = Answer × View} (said, w) (crossed M v d l (M.across a d))
    arrives is says is_now = ap₂ (λ s z. (s, z)) says is_now ∙ ap (crossed M v d l) (sym (stopped-across Real is))

    pub goes_on : (k : ℕ) → way ≡ Moved k
        → (k ≤ g → M.is_cell (shape_of g b) → ◌≡◌ {A = Answer × View} (said, w) (crossed M v d l (moved (shape_of g b) k)))
        → ◌≡◌ {A = Answer × View} (said, w) (crossed M v d l (M.across a d))
    goes_on k is entered = let across = moved-across k is in entered across.0 across.1 ∙ ap (crossed M v d l) (sym across.2)
