-- A step with the label that was answered.
--   halts_by, none-by, crosses-by    as step-halts, step-double and step-crosses, for a number n that is the label of the newest corner
use Rattle.std.proofs.Common.{◌≡◌, ℕ, ◌≤◌, true, false, List, sym, ◌∙◌, subst}
use Rattle.mesh.specs.Prices.{to_prices}
use Rattle.labelling.specs.Labels.{Rule}
use Rattle.cells.specs.Triangulation.{Shape, Mesh, Lawful}
use Rattle.path.specs.Path.{Opening, Call, step, Answer, named, Path, Leads}
use Rattle.state.specs.Views.{View, view_of, levels_at, walks_at, is_proper, NoCarrier, Carrier, halting}
use Rattle.state.specs.declared.record.State.{State}
use Rattle.walk.specs.Records.{label_now, crossed}
use Rattle.walk.specs.Showing.{standing, Goes}
use Rattle.walk.proofs.StepShown.{step-halts, step-double, step-crosses}

module _ (T : (g D : ℕ) → Mesh Shape g D) (L : Rule) (o : Opening) (lawful : (g D : ℕ) → 2 ≤ g → 1 ≤ D → Lawful (T g D)) (calls : List Call) (p : Path)
    (leads : Leads T L o calls p) (v : View) (stands : v ≡ standing T L o p) (walks : walks_at v.sight.stage ≡ true) (n : ℕ) (is : n ≡ label_now L v) where
  pub halts_by : is_proper v.sight.goods (levels_at v v.newest) n ≡ false → (x : List ℕ) → x ≡ to_prices (levels_at v v.newest)
      → (k : ℕ) → k ≡ n → (s : State) → view_of s ≡ halting v n → Goes T L o calls step (named x k) s
  halts_by improper x prices k named_so s shows =
      subst
      (λ m. is_proper v.sight.goods (levels_at v v.newest) m ≡ false → view_of s ≡ halting v m → Goes T L o calls step (named x k) s)
      (sym is)
      (λ out after. subst (λ l. Goes T L o calls step (named x l) s) (sym (named_so ∙ is))
      (subst (λ y. Goes T L o calls step (named y (label_now L v)) s) (sym prices) (step-halts T L o lawful calls p leads v stands walks out s after)))
      improper
      shows

  pub none-by : is_proper v.sight.goods (levels_at v v.newest) n ≡ true → NoCarrier v n v.newest → ⊥
  none-by = subst (λ m. is_proper v.sight.goods (levels_at v v.newest) m ≡ true → NoCarrier v m v.newest → ⊥) (sym is) (step-double T L o lawful calls p leads v stands walks)

  pub crosses-by : is_proper v.sight.goods (levels_at v v.newest) n ≡ true → (d : ℕ) → Carrier v n v.newest d → (a : Answer) (s : State)
      → (a, view_of s) ≡ crossed (T v.sight.goods v.sight.mesh) v d n ((T v.sight.goods v.sight.mesh).across v.cell d)
      → Goes T L o calls step a s
  crosses-by =
      subst
      (λ m. is_proper v.sight.goods (levels_at v v.newest) m ≡ true → (d : ℕ) → Carrier v m v.newest d → (a : Answer) (s : State)
      → (a, view_of s) ≡ crossed (T v.sight.goods v.sight.mesh) v d m ((T v.sight.goods v.sight.mesh).across v.cell d)
      → Goes T L o calls step a s)
      (sym is)
      (step-crosses T L o lawful calls p leads v stands walks)
