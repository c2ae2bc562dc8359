use Rattle.std.proofs.Common.{◌≡◌, ℕ, ◌+◌, ◌<◌, ◌≤◌, Some, None, Option, MatchOption, get_or, ap, ◌∙◌, sym, arith, rules, tests}
use Rattle.std.proofs.lemmas.Iterator.{first_from_Range}
use Rattle.state.specs.Views.{view_of, goods_of, label_at, NoCarrier, Carrier}
use Rattle.state.specs.declared.record.State.{State}
use Rattle.state.proofs.Tables.{none, corner-in}
use Rattle.state.proofs.record.State.carrier.Goals as goal

module _ (s : State) (label except : ℕ) where
  abbrev Found : ℕ → Type 0
  Found k = (k ≡ except → ⊥) × ((get_or s.corners.records k none).label ≡ label)

  label-in : (k : ℕ) → k ≤ goods_of s → label_at (view_of s) k ≡ (get_or s.corners.records k none).label
  label-in k low = ap (λ z. z.1) (corner-in (goods_of s) s.corners.records k low)

  found-is : (n : ℕ) (r : Option ℕ)
      → MatchOption r ((k : ℕ) → 0 ≤ k → k < n → Found k → ⊥) (λ i. (0 ≤ i) × (i < n) × Found i × ((k : ℕ) → 0 ≤ k → k < i → Found k → ⊥))
      → n ≡ goods_of s + 1 → MatchOption r (NoCarrier (view_of s) label except) (λ i. Carrier (view_of s) label except i)
  found-is n None h all = λ k low other same. h k (omega arith) (omega arith) (other, sym (label-in k low) ∙ same)
  found-is n (Some i) h all =
      let low : i ≤ goods_of s = omega (arith, h.1) in
      (low, h.2.0, label-in i low ∙ h.2.1)

pub returns : goal.returns
returns c =
    let s = c.args.self.now in
    found-is s c.args.label c.args.except _ c.find.result
    (first_from_Range _ _ _ c.find.result (Found s c.args.label c.args.except) (λ k. Found s c.args.label c.args.except k → ⊥)
    c.find.ensures.ran (λ k q called. search (rules, tests)) (λ k q called. search (rules, tests)))
    (omega (arith, c.goods.ensures))
