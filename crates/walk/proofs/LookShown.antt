-- Looking at a run is looking at its path.
--   look-told       a look shows where the path stands
--   look-early, look-no-good, look-kept    looking for a label: too early, for no good, for one
use Rattle.std.proofs.Common.{◌≡◌, ℕ, ◌≤◌, true, false, List, [], take, Some, None, Ok, Err, Result, MatchResult, sym, refl, ap, ◌∙◌}
use Rattle.std.proofs.lemmas.Float.{T_from_true}
use Rattle.mesh.specs.Prices.{to_prices}
use Rattle.mesh.specs.Range.{between}
use Rattle.mesh.specs.declared.refusal.Refusal.{Refusal}
use Rattle.labelling.specs.Labels.{Rule}
use Rattle.cells.specs.Triangulation.{Shape, Mesh, Lawful}
use Rattle.path.specs.Path.{Opening, Call, look, look_for, sight, prices, refused, Sight, Path, Good, Arrived, saying, prices_on, finds, not_arrived, no_good, seen, Leads}
use Rattle.path.proofs.Powers.{in-range, range-in}
use Rattle.state.specs.Views.{View, view_of, sight_of, arrived_at, NoCarrier}
use Rattle.state.specs.declared.record.State.{State}
use Rattle.walk.specs.Answers.{found}
use Rattle.walk.specs.Records.{PricesOf}
use Rattle.walk.specs.Showing.{standing, Goes}
use Rattle.walk.proofs.Checks.{fails}
use Rattle.walk.proofs.Standing.{levels-shown}
use Rattle.walk.proofs.Shown.{arrived-is, arrived-not, carries, carried, goes, saying-goes}

module _ (T : (g D : ℕ) → Mesh Shape g D) (L : Rule) (o : Opening) (lawful : (g D : ℕ) → 2 ≤ g → 1 ≤ D → Lawful (T g D)) (calls : List Call) (p : Path)
    (leads : Leads T L o calls p) where
  look-shows : (v : View) → v ≡ standing T L o p → (s : State) → view_of s ≡ v → Goes T L o calls look (sight v.sight) s
  look-shows v stands = rw stands (λ s shows. saying-goes T L o lawful calls p leads look (sight (seen T L o p)) refl s shows)

  -- With what is shown at the record.
  pub look-told : (s : State) → view_of s ≡ standing T L o p → (k : Sight) → k ≡ sight_of s → Goes T L o calls look (sight k) s
  look-told s shows k is = rw is (look-shows (view_of s) shows s refl)

  module _ (j : ℕ) where
    pub look-early : (v : View) → v ≡ standing T L o p → arrived_at v.sight.stage ≡ None → (s : State) → view_of s ≡ v → Goes T L o calls (look_for j) (refused (9, [])) s
    look-early v stands =
        rw stands (λ early s shows. saying-goes T L o lawful calls p leads (look_for j) (refused (9, [])) (not_arrived (λ a. arrived-not p.stage a.0 early a.1) refl) s shows)

    pub look-no-good : (v : View) → v ≡ standing T L o p → (d : ℕ) → arrived_at v.sight.stage ≡ Some d → between 1 v.sight.goods j ≡ false
        → (s : State) → view_of s ≡ v → Goes T L o calls (look_for j) (refused (11, [])) s
    look-no-good v stands d =
        rw stands (λ there out s shows.
        let at : Arrived p = (d, arrived-is p.stage d there) in
        let no : Good o.goods j → ⊥ = λ good. fails (between 1 o.goods j) out (range-in 1 o.goods j good.0 good.1) in
        saying-goes T L o lawful calls p leads (look_for j) (refused (11, [])) (no_good at no refl) s shows)

    look_none : (v : View) → v ≡ standing T L o p → (d : ℕ) → arrived_at v.sight.stage ≡ Some d → between 1 v.sight.goods j ≡ true → NoCarrier v j d → ⊥
    look_none v stands d =
        rw stands (λ there good none.
        carried T L o lawful calls p leads d (arrived-is p.stage d there) j (in-range 1 o.goods j (T_from_true (between 1 o.goods j) good)) none)

    look-finds : (v : View) → v ≡ standing T L o p → (d : ℕ) → arrived_at v.sight.stage ≡ Some d → between 1 v.sight.goods j ≡ true
        → (x : List ℕ) → PricesOf v j d x → (s : State) → view_of s ≡ v → Goes T L o calls (look_for j) (prices (take v.sight.goods x)) s
    look-finds v stands d =
        rw stands (λ there good x one s shows.
        let at = arrived-is p.stage d there in
        let i = one.place in
        let c = carries T L o p d at j i one.carrier in
        let same : take o.goods x ≡ prices_on T L o p.leg i = one.prices ∙ ap to_prices (levels-shown T L o p i c.place) in
        goes T L o lawful calls p leads (look_for j) (saying p (prices (prices_on T L o p.leg i)))
        (finds d i at (in-range 1 o.goods j (T_from_true (between 1 o.goods j) good)) c refl)
        (prices (take o.goods x)) (ap prices (sym same)) s shows)

    -- With what was found at the kept corners.
    pub look-kept : (v : View) → v ≡ standing T L o p → (d : ℕ) → arrived_at v.sight.stage ≡ Some d → between 1 v.sight.goods j ≡ true
        → (r : Result (List ℕ) Refusal) → MatchResult r (λ x. PricesOf v j d x) (λ e. NoCarrier v j d)
        → (s : State) → view_of s ≡ v → Goes T L o calls (look_for j) (found v.sight.goods r) s
    look-kept v stands d there good (Ok x) one s shows = look-finds v stands d there good x one s shows
    look-kept v stands d there good (Err e) none s shows = absurd (look_none v stands d there good none)
