-- The label of a market at a point of as many goods.
use Rattle.std.specs.Prelude.{◌≡◌, ℕ, ◌<◌, ◌≤◌, List, sum, ◌==◌}
use Rattle.std.proofs.Common.{sym, ◌∙◌, ap, subst, inl, inr, arith}
use Rattle.std.specs.List.{AllByRecursion}
use Rattle.std.proofs.lemmas.Bool.{eq-eqb, cond-true, cond_both, eqb-true}
use Rattle.mesh.specs.Points.{goods_of, mesh_of, prices_of}
use Rattle.mesh.specs.declared.point.PricePoint.{PricePoint}
use Rattle.mesh.proofs.PointLevels.{prices-size}
use Rattle.trade.specs.Trade.{Labels, Fair, clears, market_label, first_after}
use Rattle.trade.proofs.Labelling.{label-exists}
use Rattle.trade.proofs.Search.{first-cases}
use Rattle.market.specs.Markets.{traders_of, market_rule, LabelledBy}
use Rattle.market.specs.declared.market.Market.{Market}
use Rattle.market.specs.TraderRows.{all_fair}

module _ (m : Market) (p : PricePoint) (same : goods_of p ≡ m.numbers.goods) where
  -- What the search finds is the label.
  pub rule-here : (l : ℕ) → l ≡ first_after m.numbers.goods 0 (clears m.numbers.sum (traders_of m) (prices_of p))
      → l ≡ market_rule m (goods_of p) (mesh_of p) (prices_of p)
  rule-here l e =
      e ∙ ap (λ g. first_after g 0 (clears m.numbers.sum (traders_of m) (prices_of p))) (sym same)
      ∙ sym (cond-true (goods_of p == m.numbers.goods) _ 0 (eq-eqb (goods_of p) m.numbers.goods same))

  -- It exists, and is proper.
  pub label-here : (l : ℕ) → l ≡ first_after m.numbers.goods 0 (clears m.numbers.sum (traders_of m) (prices_of p)) → LabelledBy m p l
  label-here l e =
      let fair = subst (λ g. AllByRecursion (Fair g m.numbers.sum) (traders_of m)) (sym same) (all_fair m.numbers.goods m.numbers.sum (traders_of m) m.shares) in
      let some : 0 < sum (prices_of p) = omega (arith, p.adds_up, p.grid.mesh_fits.0) in
      let here = label-exists (goods_of p) m.numbers.sum (traders_of m) (prices_of p) fair (prices-size p) some in
      let is : market_label (goods_of p) m.numbers.sum (traders_of m) (prices_of p) ≡ l
      = ap (λ g. first_after g 0 (clears m.numbers.sum (traders_of m) (prices_of p))) same ∙ sym e in
      let labels : Labels (goods_of p) m.numbers.sum (traders_of m) (prices_of p) l = rw is at here in
      record { smallest = labels; proper = record { low = labels.low; high = labels.high; priced = labels.priced } }

-- No label is above 255.
pub label-byte : (m : Market) (g D : ℕ) (x : List ℕ) → market_rule m g D x ≤ 255
label-byte m g D x =
    cond_both (g == m.numbers.goods) (market_label g m.numbers.sum (traders_of m) x) 0 (λ n. n ≤ 255)
    (λ e. within (eqb-true g m.numbers.goods e)) (λ e. omega arith)
  where
    within : g ≡ m.numbers.goods → market_label g m.numbers.sum (traders_of m) x ≤ 255
    within e = elim (first-cases (clears m.numbers.sum (traders_of m) x) g 0) [
      | inl found ↦ omega (arith, found.within, m.goods_fit.1)
      | inr none ↦ omega (arith, none.0)
    ]
