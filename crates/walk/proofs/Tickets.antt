-- The checks of refining.
--   accepting-ok, accepting-err    the ticket
--   finer-ok, finer-err            the factor and the finer mesh
use Rattle.std.proofs.Common.{◌≡◌, ℕ, ◌*◌, ◌<◌, ◌≤◌, ◌&&◌, eqb, leb, ◌⊎◌, [], Some, None, Ok, Err, Option, inl, inr, ⊎_elim, arith}
use Rattle.std.proofs.lemmas.Bool.{and_parts, and_from, both_ways, eqb-true, eq-eqb, leb-true, leb-false}
use Rattle.std.proofs.lemmas.Float.{T_from_true}
use Rattle.mesh.specs.Range.{most, between}
use Rattle.mesh.specs.Refusals.{Told}
use Rattle.path.proofs.Powers.{in-range, range-in}
use Rattle.state.specs.Views.{View, arrived_at}
use Rattle.walk.specs.Records.{accepting_at, accepting, finer_mesh}
use Rattle.walk.proofs.Checks.{insist-ok, insist-err, fails}

module _ (v : View) (number mesh : ℕ) where
  -- An accepted ticket is that of an arrived run and of its mesh.
  pub accepting-ok : (d : ℕ) → accepting v number mesh ≡ Ok d → (arrived_at v.sight.stage ≡ Some d) × (number ≡ v.number) × (mesh ≡ v.sight.mesh)
  accepting-ok d = at (arrived_at v.sight.stage)
    where
      at : (a : Option ℕ) → accepting_at a v number mesh ≡ Ok d → (a ≡ Some d) × (number ≡ v.number) × (mesh ≡ v.sight.mesh)
      at None e = let z : ◌≡◌ {A = ℕ} 0 1 = cc in absurd (omega arith)
      at (Some k) e =
          let r = insist-ok (eqb number v.number && eqb mesh v.sight.mesh) 5 (Ok k) d e in
          let same = and_parts (eqb number v.number) (eqb mesh v.sight.mesh) r.0 in
          (cc r.1, eqb-true number v.number same.0, eqb-true mesh v.sight.mesh same.1)

  -- One that is not accepted is refused with 5, and is none of these.
  pub accepting-err : (t : Told) → accepting v number mesh ≡ Err t
      → (t ≡ (5, [])) × ((d : ℕ) → arrived_at v.sight.stage ≡ Some d → number ≡ v.number → mesh ≡ v.sight.mesh → ⊥)
  accepting-err t = at (arrived_at v.sight.stage)
    where
      at : (a : Option ℕ) → accepting_at a v number mesh ≡ Err t → (t ≡ (5, [])) × ((d : ℕ) → a ≡ Some d → number ≡ v.number → mesh ≡ v.sight.mesh → ⊥)
      at None e = (cc, λ d is own latest. let z : ◌≡◌ {A = ℕ} 0 1 = cc in omega arith)
      at (Some k) e =
          ⊎_elim
          (λ r. (r.1, λ d is own latest. both_ways _ r.0 (and_from _ _ (eq-eqb number v.number own) (eq-eqb mesh v.sight.mesh latest))))
          (λ r. let granted = r.1 in let z : ◌≡◌ {A = ℕ} 0 1 = cc in absurd (omega arith))
          (insist-err (eqb number v.number && eqb mesh v.sight.mesh) 5 (Ok k) t e)

module _ (g D f : ℕ) where
  pub finer-ok : (E : ℕ) → finer_mesh g D f ≡ Ok E → ((2 ≤ f) × (f ≤ 64)) × (f * D ≤ most g) × (E ≡ f * D)
  finer-ok E e =
      let a = insist-ok (between 2 64 f) 6 _ E e in
      let b = insist-ok (leb (f * D) (most g)) 7 _ E a.1 in
      (in-range 2 64 f (T_from_true _ a.0), leb-true (f * D) (most g) b.0, cc b.1)

  -- 6 for the factor, 7 for the mesh.
  pub finer-err : (t : Told) → finer_mesh g D f ≡ Err t
      → (((2 ≤ f) × (f ≤ 64) → ⊥) × (t ≡ (6, []))) ⊎ (((2 ≤ f) × (f ≤ 64)) × (most g < f * D) × (t ≡ (7, [])))
  finer-err t e =
      ⊎_elim
      (λ a. inl (λ factor. fails _ a.0 (range-in 2 64 f factor.0 factor.1), a.1))
      (λ a. ⊎_elim
      (λ b. inr (in-range 2 64 f (T_from_true _ a.0), leb-false (f * D) (most g) b.0, b.1))
      (λ b. let granted = b.1 in let z : ◌≡◌ {A = ℕ} 0 1 = cc in absurd (omega arith))
      (insist-err (leb (f * D) (most g)) 7 (Ok (f * D)) t a.1))
      (insist-err (between 2 64 f) 6 _ t e)
