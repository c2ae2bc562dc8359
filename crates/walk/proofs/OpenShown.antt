-- Opening a run begins its path.
--   open-refused    handed numbers that are no price point
--   open-stands     the run begins at the start point, or it is not admitted
use Rattle.std.proofs.Common.{◌≡◌, ℕ, ◌≤◌, Bool, true, false, T as Holds, [], IfOk, Ok, Err, Result, sym, refl, ap, ◌∙◌, arith}
use Rattle.std.proofs.lemmas.Float.{T_from_true}
use Rattle.mesh.specs.Range.{fit_goods, fit_mesh, prices_add_up}
use Rattle.mesh.specs.Points.{Priced, point_for}
use Rattle.mesh.specs.Refusals.{Told, answered, insist}
use Rattle.mesh.specs.declared.refusal.Refusal.{Refusal}
use Rattle.labelling.specs.Labels.{Rule}
use Rattle.cells.specs.Triangulation.{Shape, Mesh, Lawful}
use Rattle.path.specs.Claim.{Claim}
use Rattle.path.specs.Path.{Opening, Leads}
use Rattle.path.proofs.Theorems.{claimed}
use Rattle.state.specs.Views.{view_of}
use Rattle.state.specs.declared.record.State.{State}
use Rattle.walk.specs.Records.{fresh}
use Rattle.walk.specs.Showing.{standing, Came, opened, opening}
use Rattle.walk.proofs.Checks.{insist-ok, passed}
use Rattle.walk.proofs.Standing.{begun}

-- What is refused before a point is made is refused whatever follows.
still-refused : {A B : Type 0} (a b c : Bool) (x : A) (go : Result B Told) (t : Told) → insist a 1 (insist b 2 (insist c 3 (Ok x))) ≡ Err t
    → Err t ≡ insist a 1 (insist b 2 (insist c 3 go))
still-refused true true true x go t e = let z : ◌≡◌ {A = ℕ} 0 1 = cc in absurd (omega arith)
still-refused true true false x go t e = cc
still-refused true false c x go t e = cc
still-refused false b c x go t e = cc

module _ (T : (g D : ℕ) → Mesh Shape g D) (L : Rule) (o : Opening) (lawful : (g D : ℕ) → 2 ≤ g → 1 ≤ D → Lawful (T g D)) where
  pub open-refused : (t : Told) → point_for o.goods o.mesh o.start ≡ Err t → Err t ≡ opened T L o
  open-refused t refused = still-refused (fit_goods o.goods) (fit_mesh o.goods o.mesh) (prices_add_up o.goods o.mesh o.start) _ _ t refused

  module _ (goods : Holds (fit_goods o.goods)) (mesh : Holds (fit_mesh o.goods o.mesh)) where
    -- The run begins where its path does, if the start is admitted.
    begins-there : (admits : Bool) → (T o.goods o.mesh).admitted o.start ≡ admits → (r : Result State Refusal)
        → answered view_of r ≡ insist admits 4 (Ok (fresh (T o.goods o.mesh) o.number 1 o.start))
        → (answered view_of r ≡ insist admits 4 (Ok (standing T L o (opening T L o)))) × IfOk r (λ s. Came T L o [] s) × IfOk r (λ s. Claim T L o (opening T L o))
    begins-there true admitted (Ok s) e =
        let admits = T_from_true ((T o.goods o.mesh).admitted o.start) admitted in
        let leads : Leads T L o [] (opening T L o) = record { goods = goods; mesh = mesh; admits = admits; then = refl } in
        let begins = begun T L o lawful o.mesh o.start [] goods mesh admits in
        let shows : view_of s ≡ standing T L o (opening T L o) = cc in
        (ap Ok shows, record { path = opening T L o; leads = leads; shows = shows }, claimed T L o lawful [] (opening T L o) leads)
    begins-there true admitted (Err e) not = let z : ◌≡◌ {A = ℕ} 0 1 = cc in absurd (omega arith)
    begins-there false admitted (Ok s) not = let z : ◌≡◌ {A = ℕ} 0 1 = cc in absurd (omega arith)
    begins-there false admitted (Err e) is = (is, tt, tt)

  module _ (point : Priced) (is : point_for o.goods o.mesh o.start ≡ Ok point) where
    -- With its total at n, which is 1.
    pub open-stands : (r : Result State Refusal) (n : ℕ)
        → answered view_of r ≡ insist ((T point.goods point.mesh).admitted point.prices) 4 (Ok (fresh (T point.goods point.mesh) o.number n point.prices)) → n ≡ 1
        → (answered view_of r ≡ opened T L o) × IfOk r (λ s. Came T L o [] s) × IfOk r (λ s. Claim T L o (opening T L o))
    open-stands =
        let a = insist-ok (fit_goods o.goods) 1 _ point is in
        let b = insist-ok (fit_mesh o.goods o.mesh) 2 _ point a.1 in
        let c = insist-ok (prices_add_up o.goods o.mesh o.start) 3 _ point b.1 in
        let made_of : point ≡ record { goods = o.goods; mesh = o.mesh; prices = o.start } = cc c.1 in
        rw made_of (λ r n e first.
        let h = begins-there (T_from_true _ a.0) (T_from_true _ b.0) ((T o.goods o.mesh).admitted o.start) refl r
        (e ∙ ap (λ k. insist ((T o.goods o.mesh).admitted o.start) 4 (Ok (fresh (T o.goods o.mesh) o.number k o.start))) first) in
        (h.0 ∙ sym (passed (fit_goods o.goods) (fit_mesh o.goods o.mesh) (prices_add_up o.goods o.mesh o.start) _ a.0 b.0 c.0), h.1, h.2))
