-- Walks over a market.
--   all-proper    every price point of a market is properly labelled
--   no-halts      so no walk halts
use Rattle.std.proofs.Common.{◌≡◌, ℕ, ◌<◌, ◌≤◌, eqb, List, sum, sym, refl, subst, arith}
use Rattle.std.proofs.lemmas.Bool.{eq-eqb, cond-true}
use Rattle.mesh.specs.Range.{most}
use Rattle.labelling.specs.Labels.{Proper}
use Rattle.trade.specs.Trade.{market_label}
use Rattle.trade.proofs.Labelling.{label-exists}
use Rattle.market.specs.Markets.{traders_of, market_rule}
use Rattle.market.specs.declared.market.Market.{Market}
use Rattle.market.specs.TraderRows.{all_fair}
use Rattle.cells.specs.Triangulation.{Shape, Mesh, Lawful}
use Rattle.path.specs.Claim.{AllProper}
use Rattle.path.specs.Path.{Opening, Call, halted, Path, Leads}
use Rattle.path.proofs.Powers.{in-range}
use Rattle.path.proofs.Sound.{sound}
use Rattle.path.proofs.Theorems.{claimed}

pub all-proper : (m : Market) (D : ℕ) → 1 ≤ D → AllProper m.numbers.goods D (market_rule m)
all-proper m D one x size adds_up =
    let g = m.numbers.goods in
    let fair = all_fair g m.numbers.sum (traders_of m) m.shares in
    let some : 0 < sum x = omega arith in
    let labels = label-exists g m.numbers.sum (traders_of m) x fair size some in
    let is = cond-true (eqb g g) (market_label g m.numbers.sum (traders_of m) x) 0 (eq-eqb g g refl) in
    subst (Proper g x) (sym is) (record { low = labels.low; high = labels.high; priced = labels.priced })

module _ (T : (g D : ℕ) → Mesh Shape g D) (lawful : (g D : ℕ) → 2 ≤ g → 1 ≤ D → Lawful (T g D)) (m : Market) (o : Opening) (own : o.goods ≡ m.numbers.goods) where
  pub no-halts : (calls : List Call) (p : Path) → Leads T (market_rule m) o calls p → (x : List ℕ) (n : ℕ) → p.stage ≡ halted x n → ⊥
  no-halts calls p leads =
      let one = (in-range 1 (most o.goods) p.leg.mesh (sound T (market_rule m) o lawful calls p leads).leg.mesh).0 in
      let proper = subst (λ g. AllProper g p.leg.mesh (market_rule m)) (sym own) (all-proper m p.leg.mesh one) in
      (claimed T (market_rule m) o lawful calls p leads).no_halt proper
