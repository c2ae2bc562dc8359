-- Refining with the numbers that were answered.
--   scaled-start       the scaled prices are the new start
--   point-there        they are a price point of the finer mesh
--   begins-there       the run begins there, or the start is not admitted
use Rattle.std.proofs.Common.{◌≡◌, ℕ, suc, ◌-◌, ◌*◌, ◌<◌, ◌≤◌, List, map, get_or, take, Ok, Err, Result, ap, ◌∙◌, subst, arith}
use Rattle.mesh.specs.Points.{Priced, point_for}
use Rattle.mesh.specs.Refusals.{Told, answered, insist}
use Rattle.mesh.specs.declared.refusal.Refusal.{Refusal}
use Rattle.labelling.specs.Labels.{Rule}
use Rattle.cells.specs.Triangulation.{Shape, Mesh, Lawful}
use Rattle.path.specs.Path.{Opening, Call, refine, Path, Leads}
use Rattle.state.specs.Views.{View, view_of}
use Rattle.state.specs.declared.record.State.{State}
use Rattle.walk.specs.Answers.{made_finer, after}
use Rattle.walk.specs.Records.{PricesOf, accepting, finer_mesh, fresh}
use Rattle.walk.specs.Showing.{standing, Goes}
use Rattle.walk.proofs.Standing.{total-small}
use Rattle.walk.proofs.RefineShown.{refine-fits, refine-point, refine-stands}

module _ (T : (g D : ℕ) → Mesh Shape g D) (L : Rule) (o : Opening) (lawful : (g D : ℕ) → 2 ≤ g → 1 ≤ D → Lawful (T g D)) (calls : List Call) (p : Path)
    (leads : Leads T L o calls p) (number mesh f : ℕ) (v : View) (stands : v ≡ standing T L o p) (d : ℕ) (accepted : accepting v number mesh ≡ Ok d) (D : ℕ)
    (finer : finer_mesh v.sight.goods v.sight.mesh f ≡ Ok D) (x : List ℕ) (one : PricesOf v 1 d x) where
  -- The new start, by its name.
  begin : List ℕ
  begin = map (λ y. f * y) (take v.sight.goods x)

  pub scaled-start : (xs : List ℕ) (n : ℕ) → n ≡ v.sight.goods → v.sight.goods ≤ 8
      → ((g : ℕ) → g ≤ 8 → ((i : ℕ) → i < g → f * get_or x i 0 ≤ 4294967295) → take g xs ≡ map (λ y. f * y) (take g x))
      → take (n - 0) xs ≡ map (λ y. f * y) (take v.sight.goods x)
  scaled-start xs n is eight scaled =
      let same : n - 0 ≡ v.sight.goods = omega (arith, is) in
      ap (λ k. take k xs) same ∙ scaled v.sight.goods eight (refine-fits T L o lawful calls p leads number mesh f v stands d accepted D finer x one)

  module _ (xs : List ℕ) (is : xs ≡ map (λ y. f * y) (take v.sight.goods x)) where
    pub point-there : point_for v.sight.goods D xs
        ≡ Ok (record { goods = v.sight.goods; mesh = D; prices = map (λ y. f * y) (take v.sight.goods x) })
    point-there = ap (point_for v.sight.goods D) is ∙ refine-point T L o lawful calls p leads number mesh f v stands d accepted D finer x one

    pub no-refusal : (t : Told) → Err t ≡ point_for v.sight.goods D xs → ⊥
    no-refusal t h =
        let e = h ∙ point-there in
        let z : ◌≡◌ {A = ℕ} 0 1 = cc in
        omega arith

    pub begins-there : (q : Priced) → Ok q ≡ point_for v.sight.goods D xs → (s : State) → view_of s ≡ v → (r : Result State Refusal)
        → (v.sight.total < 18446744073709551615
        → answered view_of r ≡ insist ((T q.goods q.mesh).admitted q.prices) 4 (Ok (fresh (T q.goods q.mesh) v.number (suc v.sight.total) q.prices)))
        → Goes T L o calls (refine number mesh f) (made_finer r) (after s r)
    begins-there q h s shows r stood =
        let e = h ∙ point-there in
        let same : q ≡ record { goods = v.sight.goods; mesh = D; prices = map (λ y. f * y) (take v.sight.goods x) } = cc in
        let small = total-small T L o lawful calls p leads v stands in
        let room : v.sight.total < 18446744073709551615 = omega (arith, small) in
        refine-stands T L o lawful calls p leads number mesh f v stands d accepted D finer x one s shows r
        (subst
        (λ (q : Priced). answered view_of r ≡ insist ((T q.goods q.mesh).admitted q.prices) 4 (Ok (fresh (T q.goods q.mesh) v.number (suc v.sight.total) q.prices)))
        same
        (stood room))
