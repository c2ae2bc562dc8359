-- Refining a run is refining its path.
--   refine-not-accepted, refine-no-mesh    refused with 5, 6 or 7
--   refine-none                            some arrived corner carries the label 1
--   refine-fits, refine-point              the new start is a price point of the finer mesh
--   refine-stands                          the run begins there, or the start is not admitted
use Rattle.std.proofs.Common.{◌≡◌, ℕ, suc, ◌*◌, ◌<◌, ◌≤◌, Bool, true, false, T as Holds, List, map, get_or, take, Ok, Err, Result, sym, refl, ap, ◌∙◌, ⊎_elim, mul-le-mul_right, arith}
use Rattle.std.proofs.lemmas.List.{get_or-take, length-map}
use Rattle.std.proofs.lemmas.Bool.{and_from, eq-eqb}
use Rattle.std.proofs.lemmas.Float.{T_from_true}
use Rattle.mesh.specs.Prices.{to_prices}
use Rattle.mesh.specs.Range.{most, fit_goods, fit_mesh, prices_add_up}
use Rattle.mesh.specs.Points.{point_for}
use Rattle.mesh.specs.Refusals.{Told, told, answered, insist}
use Rattle.mesh.specs.declared.refusal.Refusal.{Refusal}
use Rattle.labelling.specs.Labels.{Rule}
use Rattle.cells.specs.Triangulation.{Shape, Mesh, Lawful}
use Rattle.path.specs.Path.{Opening, Call, refine, walking, arrived, began, refused, Path, legs, total_of, refuses, Factor, begins, prices_on, Carries, finer, Accepted, refines, not_accepted, no_factor, too_fine, not_admitted, Leads}
use Rattle.path.proofs.Powers.{in-range, range-in}
use Rattle.path.proofs.Sound.{sound}
use Rattle.state.specs.Views.{View, view_of, arrived_at, NoCarrier}
use Rattle.state.specs.declared.record.State.{State}
use Rattle.walk.specs.Answers.{made_finer, after}
use Rattle.walk.specs.Records.{PricesOf, accepting, finer_mesh, fresh}
use Rattle.walk.specs.Showing.{standing, Goes}
use Rattle.walk.proofs.Checks.{passed, tests, fails}
use Rattle.walk.proofs.FinerStart.{sum-times, mesh-there, prices-there, times-small}
use Rattle.walk.proofs.Shown.{arrived-is, carries, carried, goes}
use Rattle.walk.proofs.Standing.{levels-shown, begun}
use Rattle.walk.proofs.Tickets.{accepting-ok, accepting-err, finer-ok, finer-err}

module _ (T : (g D : ℕ) → Mesh Shape g D) (L : Rule) (o : Opening) (lawful : (g D : ℕ) → 2 ≤ g → 1 ≤ D → Lawful (T g D)) (calls : List Call) (p : Path)
    (leads : Leads T L o calls p) (number mesh f : ℕ) where
  pub refine-not-accepted : (v : View) → v ≡ standing T L o p → (t : Told) → accepting v number mesh ≡ Err t
      → (s : State) → view_of s ≡ v → Goes T L o calls (refine number mesh f) (refused t) s
  refine-not-accepted v stands t =
      rw stands (λ e s shows.
      let r = accepting-err (standing T L o p) number mesh t e in
      let no : Accepted T L o p number mesh → ⊥ = λ a. r.1 a.there.0 (ap arrived_at a.there.1) a.own a.latest in
      goes T L o lawful calls p leads (refine number mesh f) (refuses p 5) (not_accepted no refl) (refused t) (ap refused (sym r.0)) s shows)

  -- The run has arrived, and the ticket is its own.
  was-accepted : (d : ℕ) → accepting (standing T L o p) number mesh ≡ Ok d → (p.stage ≡ arrived d) × Accepted T L o p number mesh
  was-accepted d e =
      let r = accepting-ok (standing T L o p) number mesh d e in
      let there = arrived-is p.stage d r.0 in
      (there, record { there = (d, there); own = r.1; latest = r.2 })

  pub refine-no-mesh : (v : View) → v ≡ standing T L o p → (d : ℕ) → accepting v number mesh ≡ Ok d → (t : Told) → finer_mesh v.sight.goods v.sight.mesh f ≡ Err t
      → (s : State) → view_of s ≡ v → Goes T L o calls (refine number mesh f) (refused t) s
  refine-no-mesh v stands d =
      rw stands (λ e t no-mesh s shows.
      let accepted = (was-accepted d e).1 in
      ⊎_elim
      (λ a. goes T L o lawful calls p leads (refine number mesh f) (refuses p 6) (no_factor accepted a.0 refl) (refused t) (ap refused (sym a.1)) s shows)
      (λ a. goes T L o lawful calls p leads (refine number mesh f) (refuses p 7) (too_fine accepted a.0 a.1 refl) (refused t) (ap refused (sym a.2)) s shows)
      (finer-err o.goods p.leg.mesh f t no-mesh))

  pub refine-none : (v : View) → v ≡ standing T L o p → (d : ℕ) → accepting v number mesh ≡ Ok d → NoCarrier v 1 d → ⊥
  refine-none v stands d =
      rw stands (λ e none.
      let two = (in-range 2 8 o.goods (sound T L o lawful calls p leads).goods).0 in
      carried T L o lawful calls p leads d (was-accepted d e).0 1 (omega arith, omega arith) none)

  -- Where the path stands: the accepted ticket, the finer mesh, the corner that carries the label 1.
  module _ (d : ℕ) (accepted : accepting (standing T L o p) number mesh ≡ Ok d) (D : ℕ) (finer-is : finer_mesh o.goods p.leg.mesh f ≡ Ok D)
      (x : List ℕ) (one : PricesOf (standing T L o p) 1 d x) where
    there : p.stage ≡ arrived d
    there = (was-accepted d accepted).0

    carrier : Carries T L o p.leg d 1 one.place
    carrier = carries T L o p d there 1 one.place one.carrier

    factor : Factor T L o f
    factor = (finer-ok o.goods p.leg.mesh f D finer-is).0

    mesh-fits : f * p.leg.mesh ≤ most o.goods
    mesh-fits = (finer-ok o.goods p.leg.mesh f D finer-is).1

    mesh-is : D ≡ f * p.leg.mesh
    mesh-is = (finer-ok o.goods p.leg.mesh f D finer-is).2

    mesh-holds : Holds (fit_mesh o.goods (f * p.leg.mesh))
    mesh-holds =
        let low : 1 ≤ f * p.leg.mesh = omega (arith, (mesh-there T L o lawful calls p leads).0, mul-le-mul_right p.leg.mesh factor.0) in
        range-in 1 (most o.goods) (f * p.leg.mesh) low mesh-fits

    prices-are : take o.goods x ≡ prices_on T L o p.leg one.place
    prices-are = one.prices ∙ ap to_prices (levels-shown T L o p one.place carrier.place)

    start_is : map (λ y. f * y) (take o.goods x) ≡ finer T L o p f one.place
    start_is = ap (map (λ y. f * y)) prices-are

    fits-there : (i : ℕ) → i < o.goods → f * get_or x i 0 ≤ 4294967295
    fits-there i below =
        let same : get_or x i 0 ≡ get_or (prices_on T L o p.leg one.place) i 0 = sym (get_or-take o.goods x i 0 below) ∙ ap (λ l. get_or l i 0) prices-are in
        rw same (times-small T L o lawful calls p leads d one.place f there carrier.place carrier.kept mesh-fits i below)

    point-there : point_for o.goods (f * p.leg.mesh) (finer T L o p f one.place)
        ≡ Ok (record { goods = o.goods; mesh = f * p.leg.mesh; prices = finer T L o p f one.place })
    point-there =
        let x = prices_on T L o p.leg one.place in
        let at = prices-there T L o lawful calls p leads d one.place there carrier.place carrier.kept in
        passed (fit_goods o.goods) (fit_mesh o.goods (f * p.leg.mesh)) (prices_add_up o.goods (f * p.leg.mesh) (map (λ y. f * y) x)) _
        (tests _ (sound T L o lawful calls p leads).goods)
        (tests _ mesh-holds)
        (and_from _ _ (eq-eqb _ _ (length-map x (λ y. f * y) ∙ at.0)) (eq-eqb _ _ (sum-times f x ∙ ap (λ n. f * n) at.1)))

    stands-there : (admits : Bool) → (T o.goods (f * p.leg.mesh)).admitted (finer T L o p f one.place) ≡ admits
        → (s : State) → view_of s ≡ standing T L o p → (r : Result State Refusal)
        → answered view_of r ≡ insist admits 4 (Ok (fresh (T o.goods (f * p.leg.mesh)) o.number (suc (total_of p)) (finer T L o p f one.place)))
        → Goes T L o calls (refine number mesh f) (made_finer r) (after s r)
    stands-there true admitted s shows (Ok t) e =
        let q : Path = record { leg = begins T L o (f * p.leg.mesh) (finer T L o p f one.place); earlier = legs p; stage = walking; said = began } in
        let admits = T_from_true ((T o.goods (f * p.leg.mesh)).admitted (finer T L o p f one.place)) admitted in
        let begins-there = begun T L o lawful (f * p.leg.mesh) (finer T L o p f one.place) (legs p) (sound T L o lawful calls p leads).goods mesh-holds admits in
        let shows-there : view_of t ≡ standing T L o q = cc in
        goes T L o lawful calls p leads (refine number mesh f) q (refines (was-accepted d accepted).1 factor mesh-fits d one.place there carrier admits refl) began refl t shows-there
    stands-there true admitted s shows (Err e) not = let z : ◌≡◌ {A = ℕ} 0 1 = cc in absurd (omega arith)
    stands-there false admitted s shows (Ok t) not = let z : ◌≡◌ {A = ℕ} 0 1 = cc in absurd (omega arith)
    stands-there false admitted s shows (Err e) is =
        let no = fails ((T o.goods (f * p.leg.mesh)).admitted (finer T L o p f one.place)) admitted in
        goes T L o lawful calls p leads (refine number mesh f) (refuses p 4) (not_admitted (was-accepted d accepted).1 factor mesh-fits d one.place there carrier no refl)
        (refused (told e)) (cc) s shows

    -- The same with the mesh and the start as they are handed over.
    point-here : point_for o.goods D (map (λ y. f * y) (take o.goods x)) ≡ Ok (record { goods = o.goods; mesh = D; prices = map (λ y. f * y) (take o.goods x) })
    point-here = rw (start_is, mesh-is) point-there

    stands_here : (s : State) → view_of s ≡ standing T L o p → (r : Result State Refusal)
        → answered view_of r
        ≡ insist ((T o.goods D).admitted (map (λ y. f * y) (take o.goods x))) 4 (Ok (fresh (T o.goods D) o.number (suc (total_of p)) (map (λ y. f * y) (take o.goods x))))
        → Goes T L o calls (refine number mesh f) (made_finer r) (after s r)
    stands_here = rw (start_is, mesh-is) (stands-there _ refl)

  module _ (v : View) (stands : v ≡ standing T L o p) (d : ℕ) (accepted : accepting v number mesh ≡ Ok d) (D : ℕ) (finer : finer_mesh v.sight.goods v.sight.mesh f ≡ Ok D)
      (x : List ℕ) (one : PricesOf v 1 d x) where
    pub refine-fits : (i : ℕ) → i < v.sight.goods → f * get_or x i 0 ≤ 4294967295
    refine-fits =
        rw stands (fits-there d (rw stands at accepted) D (rw stands at finer) x (rw stands at one))

    -- The new start.
    abbrev pub start : List ℕ
    start = map (λ y. f * y) (take v.sight.goods x)

    pub refine-point : point_for v.sight.goods D start ≡ Ok (record { goods = v.sight.goods; mesh = D; prices = start })
    refine-point = rw stands (point-here d (rw stands at accepted) D (rw stands at finer) x (rw stands at one))

    pub refine-stands : (s : State) → view_of s ≡ v → (r : Result State Refusal)
        → answered view_of r ≡ insist ((T v.sight.goods D).admitted start) 4 (Ok (fresh (T v.sight.goods D) v.number (suc v.sight.total) start))
        → Goes T L o calls (refine number mesh f) (made_finer r) (after s r)
    refine-stands = rw stands (stands_here d (rw stands at accepted) D (rw stands at finer) x (rw stands at one))
