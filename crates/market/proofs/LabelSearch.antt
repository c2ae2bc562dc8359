-- What a search among the goods of a market says of the label.
use Rattle.std.proofs.Common.{◌≡◌, ℕ, ◌+◌, ◌-◌, ◌<◌, ◌≤◌, Bool, true, false, ◌&&◌, eqb, Option, Some, None, sym, refl, ap, ◌∙◌, inl, inr, arith}
use Rattle.std.specs.Option.{MatchOption, unwrap_or}
use Rattle.std.proofs.lemmas.Bool.{eq-eqb, cond-false, ne_eqb, cases_eq}
use Rattle.mesh.specs.Points.{goods_of, mesh_of, prices_of}
use Rattle.mesh.specs.declared.point.PricePoint.{PricePoint}
use Rattle.trade.specs.Trade.{first_after, clears}
use Rattle.trade.proofs.Search.{first_after-here, first_after-none}
use Rattle.market.specs.Markets.{traders_of, market_rule, LabelledBy}
use Rattle.market.specs.MarketLabel.{rule-here, label-here}
use Rattle.market.specs.declared.market.Market.{Market}

-- A search among the goods 1 to g came to r.
abbrev pub Sought : ℕ → (ℕ → Bool) → Option ℕ → Type 0
Sought g test r =
    MatchOption r ((k : ℕ) → 1 ≤ k → k < g + 1 → false ≡ test k)
    (λ i. (1 ≤ i) × (i < g + 1) × (true ≡ test i) × ((k : ℕ) → 1 ≤ k → k < i → false ≡ test k))

first : (g : ℕ) (test : ℕ → Bool) (r : Option ℕ) → Sought g test r → unwrap_or r 0 ≡ first_after g 0 test
first g test None none = sym (first_after-none test g (λ i low high. sym (none i (omega arith) (omega arith))))
first g test (Some i) found =
    let one : (i - 1) + 1 ≡ i = omega (arith, found.0) in
    sym (first_after-here test g (i - 1) (omega (arith, found.0, found.1)) (λ k low high. sym (found.3 k (omega arith) (omega (arith, found.0))))
    (ap test one ∙ sym found.2) ∙ one)

module _ (m : Market) (p : PricePoint) (r : Option ℕ)
    (sought : Sought m.numbers.goods (λ j. eqb (goods_of p) m.numbers.goods && clears m.numbers.sum (traders_of m) (prices_of p) j) r) where
  -- At a point of as many goods the label is what was found.
  here : goods_of p ≡ m.numbers.goods → unwrap_or r 0 ≡ first_after m.numbers.goods 0 (clears m.numbers.sum (traders_of m) (prices_of p))
  here same =
      first m.numbers.goods _ r sought
      ∙ ap (λ b. first_after m.numbers.goods 0 (λ j. b && clears m.numbers.sum (traders_of m) (prices_of p) j)) (eq-eqb (goods_of p) m.numbers.goods same)

  -- At any other point nothing is found.
  elsewhere : (goods_of p ≡ m.numbers.goods → ⊥) → unwrap_or r 0 ≡ 0
  elsewhere other =
      first m.numbers.goods _ r sought
      ∙ ap (λ b. first_after m.numbers.goods 0 (λ j. b && clears m.numbers.sum (traders_of m) (prices_of p) j)) (ne_eqb (goods_of p) m.numbers.goods other)
      ∙ first_after-none (λ j. false) m.numbers.goods (λ i low high. refl)

  pub label-is : (l : ℕ) → l ≡ unwrap_or r 0 → l ≡ market_rule m (goods_of p) (mesh_of p) (prices_of p)
  label-is l e =
      elim (cases_eq (goods_of p) m.numbers.goods) [
        | inl same ↦ rule-here m p same l (e ∙ here same)
        | inr other ↦ e ∙ elsewhere other ∙ sym (cond-false (eqb (goods_of p) m.numbers.goods) _ 0 (ne_eqb (goods_of p) m.numbers.goods other))
      ]

  pub label-found : (l : ℕ) → l ≡ unwrap_or r 0 → goods_of p ≡ m.numbers.goods → LabelledBy m p l
  label-found l e same = label-here m p same l (e ∙ here same)
