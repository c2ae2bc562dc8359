-- Placing the corners of a start cell.
--   placed_to      a run with the corners before a place placed, one after the other
--   placed-more   one more corner is placed
--   all_placed    with all of them placed, a run that begins in the start cell of an admitted point stands there
--   stands        the same for what the calls answer
use Rattle.std.proofs.Common.{◌≡◌, ℕ, zero, suc, ◌+◌, ◌≤◌, true, cond, T as Holds, eqb, ltb, List, take, set, replicate, Ok, Result, sym, refl, ap, ◌∙◌, subst, ap₂, inl, inr, arith}
use Rattle.std.proofs.lemmas.List.{length-replicate, get_or-replicate}
use Rattle.std.proofs.lemmas.Bool.{cases_eq, cond-true, cond-false, cond_both, eq-eqb, ne_eqb, lt-ltb, le-ltb}
use Rattle.std.proofs.lemmas.Bool.Decides.{nat_tests}
use Rattle.std.proofs.lemmas.Float.{T_from_true}
use Rattle.mesh.specs.Points.{goods_of, mesh_of, prices_of}
use Rattle.mesh.specs.Prices.{first}
use Rattle.mesh.specs.Refusals.{Told}
use Rattle.mesh.specs.declared.grid.Grid.{Grid}
use Rattle.mesh.specs.declared.point.PricePoint.{PricePoint}
use Rattle.mesh.proofs.Levels.{first-levels}
use Rattle.cells.specs.Cells.{shape_of}
use Rattle.cells.specs.Corners.{outer_label}
use Rattle.cells.specs.Triangulation.{Shape, Mesh, Lawful}
use Rattle.cells.specs.declared.cell.Cell.{Cell}
use Rattle.path.specs.Lists.{listed}
use Rattle.path.specs.Path.{walking}
use Rattle.path.proofs.OneLeg.{places-but}
use Rattle.state.specs.Views.{View, Labelled, with, bare, placing}
use Rattle.state.proofs.Listed.{is-listed, listed-ext, listed-set}
use Rattle.walk.specs.Records.{fresh}

-- The run v with the corners of the cell a at the places before n placed.
abbrev pub placed_to : {g D : ℕ} → Mesh Shape g D → View → Shape → ℕ → View
placed_to M v a zero = v
placed_to M v a (suc n) = placing (placed_to M v a n) n (M.corner a n)

placing-goods : (v : View) (i : ℕ) (u : List ℕ) → (placing v i u).sight.goods ≡ v.sight.goods
placing-goods v i u = cond_both (eqb (first u) v.sight.mesh) _ _ (λ (w : View). w.sight.goods ≡ v.sight.goods) (λ real. refl) (λ outer. refl)

same-goods : {g D : ℕ} (M : Mesh Shape g D) (v : View) (a : Shape) (n : ℕ) → (placed_to M v a n).sight.goods ≡ v.sight.goods
same-goods M v a zero = refl
same-goods M v a (suc n) = placing-goods (placed_to M v a n) n (M.corner a n) ∙ same-goods M v a n

-- One more corner, as it is answered and placed.
pub placed-more : {g D : ℕ} (M : Mesh Shape g D) (v : View) (a : Shape) (i : ℕ) (before after : View) (u : List ℕ) → v.sight.goods ≡ g → before ≡ placed_to M v a i
    → i ≤ g → (i ≤ before.sight.goods → after ≡ placing before i (take before.sight.goods u))
    → ◌≡◌ {A = Result (List ℕ) Told} (Ok (take g u)) (Ok (M.corner a i)) → after ≡ placed_to M v a (i + 1)
placed-more {g} M v a i before after u goods so_far low placed corner =
    let same : before.sight.goods ≡ g = ap (λ (z : View). z.sight.goods) so_far ∙ same-goods M v a i ∙ goods in
    let levels : take g u ≡ M.corner a i = cc in
    let more : suc i ≡ i + 1 = omega arith in
    placed (omega arith)
    ∙ ap (λ n. placing before i (take n u)) same
    ∙ ap₂ (λ z w. placing z i w) so_far levels
    ∙ ap (placed_to M v a) more

same-side : (k i : ℕ) → (k ≡ i → ⊥) → ltb k i ≡ ltb k (suc i)
same-side k i ne = grind (arith, nat_tests)

-- The values of f before i, with one more of them.
grows : {A : Type 0} (f : ℕ → A) (z : A) (k i : ℕ) → cond (eqb k i) (f i) (cond (ltb k i) (f k) z) ≡ cond (ltb k (suc i)) (f k) z
grows f z k i =
    elim (cases_eq k i) [
      | inl e ↦ cond-true (eqb k i) _ _ (eq-eqb k i e) ∙ ap f (sym e) ∙ sym (cond-true (ltb k (suc i)) (f k) z (lt-ltb k (suc i) (omega arith)))
      | inr ne ↦ cond-false (eqb k i) _ _ (ne_eqb k i ne) ∙ ap (λ b. cond b (f k) z) (same-side k i ne)
    ]

module _ (point : PricePoint) (M : Mesh Shape (goods_of point) (mesh_of point)) (law : Lawful M) (admits : Holds (M.admitted (prices_of point))) where
  abbrev g : ℕ
  g = goods_of point

  abbrev x : List ℕ
  x = prices_of point

  abbrev home : ℕ
  home = M.home x

  abbrev corner : ℕ → List ℕ
  corner k = M.corner (M.start x) k

  -- The corner at k as a run that begins shows it, and before it is placed.
  abbrev labelled : ℕ → Labelled
  labelled k = (corner k, cond (eqb k home) 0 (outer_label x (corner k)))

  abbrev none : Labelled
  none = (replicate g 0, 0)

  home-real : first (corner home) ≡ mesh_of point
  home-real = ap first (law.home_corner x admits) ∙ first-levels x ∙ (law.points x admits).1

  other_outer : (k : ℕ) → k ≤ g → (k ≡ home → ⊥) → first (corner k) ≡ suc (mesh_of point)
  other_outer k low other =
      let p = places-but g home k low (law.home_place x admits) other in
      subst (λ j. first (corner j) ≡ suc (mesh_of point)) p.2 ((law.starts x admits).outer p.0 p.1)

  -- The corners with those before i placed, and the newest of them.
  abbrev so_far : ℕ → List Labelled
  so_far i = listed (suc g) (λ k. cond (ltb k i) (labelled k) none)

  abbrev newest-so-far : ℕ → ℕ
  newest-so-far i = cond (ltb home i) home 0

  none-placed : replicate (suc g) none ≡ so_far 0
  none-placed =
      is-listed (suc g) _ none (replicate (suc g) none) (length-replicate (suc g) none)
      (λ k h. get_or-replicate (suc g) k none none h ∙ sym (cond-false (ltb k 0) (labelled k) none (le-ltb k 0 (omega arith))))

  -- One more corner.
  one_more : (i : ℕ) → i ≤ g → set (so_far i) i (labelled i) ≡ so_far (suc i)
  one_more i low =
      listed-set (suc g) (λ k. cond (ltb k i) (labelled k) none) i (labelled i) (omega arith)
      ∙ listed-ext (suc g) _ (λ k. cond (ltb k (suc i)) (labelled k) none) (λ k h. grows labelled none k i)

  module _ (number n : ℕ) where
    abbrev begins : View
    begins = bare number point (M.start x) n

    abbrev at : ℕ → View
    at i = with begins (newest-so-far i) walking (so_far i)

    step : (i : ℕ) → i ≤ g → placing (at i) i (corner i) ≡ at (suc i)
    step i low =
        elim (cases_eq i home) [
          | inl e ↦
              let real : first (corner i) ≡ mesh_of point = ap (λ k. first (corner k)) e ∙ home-real in
              let label : labelled i ≡ (corner i, 0) = ap (λ l. (corner i, l)) (cond-true (eqb i home) 0 _ (eq-eqb i home e)) in
              let newest : newest-so-far (suc i) ≡ i = cond-true (ltb home (suc i)) home 0 (lt-ltb home (suc i) (omega arith)) ∙ sym e in
              cond-true (eqb (first (corner i)) (mesh_of point)) _ _ (eq-eqb _ _ real)
              ∙ ap₂ (λ k cs. with begins k walking cs) (sym newest) (ap (set (so_far i) i) (sym label) ∙ one_more i low)
          | inr ne ↦
              let outer : first (corner i) ≡ suc (mesh_of point) = other_outer i low ne in
              let label : labelled i ≡ (corner i, outer_label x (corner i)) = ap (λ l. (corner i, l)) (cond-false (eqb i home) 0 _ (ne_eqb i home ne)) in
              let newest : newest-so-far (suc i) ≡ newest-so-far i = ap (λ b. cond b home 0) (sym (same-side home i (λ e. ne (sym e)))) in
              cond-false (eqb (first (corner i)) (mesh_of point)) _ _ (ne_eqb _ _ (λ real. omega arith))
              ∙ ap₂ (λ k cs. with begins k walking cs) (sym newest) (ap (set (so_far i) i) (sym label) ∙ one_more i low)
        ]

    placed-is : (i : ℕ) → i ≤ suc g → placed_to M begins (M.start x) i ≡ at i
    placed-is zero low = ap₂ (λ k cs. with begins k walking cs) (sym (cond-false (ltb home 0) home 0 (le-ltb home 0 (omega arith)))) none-placed
    placed-is (suc i) low = ap (λ v. placing v i (corner i)) (placed-is i (omega arith)) ∙ step i (omega arith)

    pub all_placed : placed_to M begins (M.start x) (suc g) ≡ fresh M number n x
    all_placed = placed-is (suc g) (omega arith)
        ∙ ap₂ (λ k cs. with begins k walking cs) (cond-true (ltb home (suc g)) home 0 (lt-ltb home (suc g) (omega (arith, law.home_place x admits))))
        (listed-ext (suc g) _ labelled (λ k h. cond-true (ltb k (suc g)) (labelled k) none (lt-ltb k (suc g) h)))

-- The same where the grid of the point and the view of the run that begins come from calls.
module _ (T : (g D : ℕ) → Mesh Shape g D) (lawful : (g D : ℕ) → 2 ≤ g → 1 ≤ D → Lawful (T g D)) (point : PricePoint) (cell : Cell)
    (admitted : (T (goods_of point) (mesh_of point)).admitted (prices_of point) ≡ true)
    (shape : shape_of (goods_of point) cell ≡ (T (goods_of point) (mesh_of point)).start (prices_of point)) where
  abbrev M : Mesh Shape (goods_of point) (mesh_of point)
  M = T (goods_of point) (mesh_of point)

  law : Lawful M
  law = lawful (goods_of point) (mesh_of point) point.grid.goods_fit.0 point.grid.mesh_fits.0

  admits : Holds (M.admitted (prices_of point))
  admits = T_from_true (M.admitted (prices_of point)) admitted

  in-start-cell : M.is_cell (shape_of (goods_of point) cell)
  in-start-cell = subst M.is_cell (sym shape) (law.start_cell (prices_of point) admits)

  pub stands : (grid : Grid) → grid ≡ point.grid → (number n i : ℕ) (v w : View) → w ≡ bare number point (shape_of (goods_of point) cell) n → i ≡ suc grid.goods
      → (w.sight.goods ≡ grid.goods → (T grid.goods grid.mesh).is_cell (shape_of grid.goods cell) → v ≡ placed_to (T grid.goods grid.mesh) w (shape_of grid.goods cell) i)
      → v ≡ fresh M number n (prices_of point)
  stands grid is number n i v w begins =
      subst
      (λ (d : Grid). i ≡ suc d.goods → (w.sight.goods ≡ d.goods → (T d.goods d.mesh).is_cell (shape_of d.goods cell) → v ≡ placed_to (T d.goods d.mesh) w (shape_of d.goods cell) i) → v ≡ fresh M number n (prices_of point))
      (sym is)
      (λ last placed.
      placed (ap (λ (z : View). z.sight.goods) begins) in-start-cell
      ∙ ap₂ (λ z k. placed_to M z (shape_of (goods_of point) cell) k) begins last
      ∙ ap (λ a. placed_to M (bare number point a n) a (suc (goods_of point))) shape
      ∙ all_placed point M law admits number n)
