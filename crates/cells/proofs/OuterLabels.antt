-- The outer label: found by going through the goods, and there for every outer corner.
use Rattle.std.proofs.Common.{◌≡◌, ℕ, zero, suc, ◌+◌, ◌<◌, ◌≤◌, List, [], ◌∷◌, length, get_or, sum, sym, refl, ◌∙◌, inl, inr, arith}
use Rattle.std.proofs.lemmas.List.Sums.{sum_by-cons}
use Rattle.std.proofs.lemmas.Bool.{cases_lt, lt-ltb, le-ltb, cond-true, cond-false}
use Rattle.mesh.specs.Prices.{price, first, to_prices}
use Rattle.mesh.specs.Points.{goods_of, mesh_of, prices_of}
use Rattle.mesh.specs.declared.point.PricePoint.{PricePoint}
use Rattle.mesh.proofs.Levels.{length-prices, sum-prices}
use Rattle.mesh.proofs.PointLevels.{prices-size}
use Rattle.cells.specs.Corners.{Corner, first_above, outer_label, LabelsOuter}

-- The first good whose price is above, and where there is none.
pub above-at : (k : ℕ) (c x : List ℕ) (j : ℕ) → j < length c → get_or c j 0 < get_or x j 0 → ((i : ℕ) → i < j → get_or x i 0 ≤ get_or c i 0)
    → first_above k c x ≡ k + suc j
above-at k [] x j inside high low = absurd (omega arith)
above-at k (c ∷ cs) [] j inside high low = absurd (omega arith)
above-at k (c ∷ cs) (x ∷ xs) zero inside high low = cond-true _ _ _ (lt-ltb c x high) ∙ omega arith
above-at k (c ∷ cs) (x ∷ xs) (suc j) inside high low =
    cond-false _ _ _ (le-ltb c x (low 0 (omega arith)))
    ∙ above-at (suc k) cs xs j (omega arith) high (λ i below. low (suc i) (omega arith)) ∙ omega arith

none-above : (k : ℕ) (c x : List ℕ) → ((i : ℕ) → i < length c → get_or x i 0 ≤ get_or c i 0) → first_above k c x ≡ 0
none-above k [] x low = refl
none-above k (c ∷ cs) [] low = refl
none-above k (c ∷ cs) (x ∷ xs) low =
    cond-false _ _ _ (le-ltb c x (low 0 (omega arith))) ∙ none-above (suc k) cs xs (λ i below. low (suc i) (omega arith))

-- The label as the code finds it.
module _ (p : PricePoint) (v : List ℕ) where
  pub label-at : (j : ℕ) → j < length (prices_of p) → get_or (prices_of p) j 0 < get_or (to_prices v) j 0
      → ((k : ℕ) → k < j → get_or (to_prices v) k 0 ≤ get_or (prices_of p) k 0) → j + 1 ≡ outer_label (prices_of p) v
  label-at j inside high low = sym (above-at 0 (prices_of p) (to_prices v) j inside high low ∙ omega arith)

  pub label-none : ((k : ℕ) → k < length (prices_of p) → get_or (to_prices v) k 0 ≤ get_or (prices_of p) k 0) → 0 ≡ outer_label (prices_of p) v
  label-none low = sym (none-above 0 (prices_of p) (to_prices v) low)

-- Where the prices add up to more, some price is above.
pub above-there : (k : ℕ) (c x : List ℕ) → length c ≡ length x → sum c < sum x
    → (m : ℕ) × (first_above k c x ≡ k + suc m) × (m < length c) × (get_or c m 0 < get_or x m 0) × ((i : ℕ) → i < m → get_or x i 0 ≤ get_or c i 0)
above-there k [] [] size less = absurd (omega arith)
above-there k [] (x ∷ xs) size less = absurd (omega arith)
above-there k (c ∷ cs) [] size less = absurd (omega arith)
above-there k (c ∷ cs) (x ∷ xs) size less =
    elim (cases_lt c x) [
      | inl high ↦ (0, cond-true _ _ _ (lt-ltb c x high) ∙ omega arith, omega arith, high, λ i low. absurd (omega arith))
      | inr low ↦
          let rest = above-there (suc k) cs xs (omega arith) (omega (arith, sum_by-cons (λ n. n) c cs, sum_by-cons (λ n. n) x xs)) in
          (suc rest.0, cond-false _ _ _ (le-ltb c x low) ∙ rest.1 ∙ omega arith, omega (arith, rest.2), rest.3, below c cs x xs rest.0 low rest.4)
    ]
  where
    below : (c : ℕ) (cs : List ℕ) (x : ℕ) (xs : List ℕ) (m : ℕ) → x ≤ c → ((i : ℕ) → i < m → get_or xs i 0 ≤ get_or cs i 0)
        → (i : ℕ) → i < suc m → get_or (x ∷ xs) i 0 ≤ get_or (c ∷ cs) i 0
    below c cs x xs m low all zero h = low
    below c cs x xs m low all (suc i) h = all i (omega arith)

pub outer-there : (p : PricePoint) (v : List ℕ) (l : ℕ) → l ≡ outer_label (prices_of p) v → Corner (goods_of p) (mesh_of p) v → first v ≡ suc (mesh_of p)
    → LabelsOuter (goods_of p) (prices_of p) v l
outer-there p v l is corner outer =
    let more = above-there 0 (prices_of p) (to_prices v) (prices-size p ∙ sym corner.size ∙ sym (length-prices v))
    (omega (arith, p.adds_up, sum-prices v corner.falls, outer)) in
    let label : l ≡ suc more.0 = is ∙ more.1 ∙ omega arith in
    rw label (record {
      low = omega arith;
      high = omega (arith, more.2, prices-size p);
      above = more.3;
      smallest = λ i low high. before more.0 i low high more.4;
    })
  where
    before : (m i : ℕ) → 1 ≤ i → i < suc m → ((i : ℕ) → i < m → get_or (to_prices v) i 0 ≤ get_or (prices_of p) i 0) → price (to_prices v) i ≤ price (prices_of p) i
    before m zero low high all = absurd (omega arith)
    before m (suc i) low high all = all i (omega arith)
