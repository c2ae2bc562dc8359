-- The excesses of the goods, written one after another. Assumes nothing.
use Rattle.std.proofs.Common.{◌≡◌, ℕ, zero, suc, ◌+◌, ◌-◌, ◌≤◌, List, [], ◌∷◌, ◌++◌, map, sym, ap, ◌∙◌, add-zero, add-one, arith}
use Rattle.std.proofs.lemmas.List.{flat_map_more, map_push}
use Rattle.trade.specs.Trade.{goods_from}
use Rattle.lines.specs.Lines.{spaced}

-- One good more, at the end.
goods-push : (j n : ℕ) → goods_from j (suc n) ≡ goods_from j n ++ (suc (j + n) ∷ [])
goods-push j zero = ap (λ k. suc k ∷ []) (sym (add-zero j))
goods-push j (suc n) =
    let e : suc j + n ≡ j + suc n = omega arith in
    ap (λ t. suc j ∷ t) (goods-push (suc j) n ∙ ap (λ k. goods_from (suc j) n ++ (suc k ∷ [])) e)

goods-more : (n : ℕ) → goods_from 0 n ++ ((n + 1) ∷ []) ≡ goods_from 0 (n + 1)
goods-more n =
    let one : n + 1 ≡ suc (0 + n) = omega arith in
    ap (λ k. goods_from 0 n ++ (k ∷ [])) one ∙ sym (goods-push 0 n) ∙ ap (goods_from 0) (sym (add-one n))

one-more : {X : Type 0} (f : X → List ℕ) (h : ℕ → X) (n : ℕ)
    → spaced f (map h (goods_from 0 n)) ++ (32 ∷ f (h (n + 1))) ≡ spaced f (map h (goods_from 0 (n + 1)))
one-more f h n =
    flat_map_more (λ y. 32 ∷ f y) [] (map h (goods_from 0 n)) (h (n + 1))
    ∙ ap (spaced f) (sym (map_push h (goods_from 0 n) (n + 1)) ∙ ap (map h) (goods-more n))

-- The number of good n after those of the goods before it, as f writes it: so those of the first k goods are written.
pub one_good_more : {X : Type 0} (f : X → List ℕ) (h : ℕ → X) (n k : ℕ) → 1 ≤ n → k ≡ n
    → spaced f (map h (goods_from 0 (n - 1))) ++ (32 ∷ f (h n)) ≡ spaced f (map h (goods_from 0 k))
one_good_more f h n k low last =
    let here : n ≡ (n - 1) + 1 = omega (arith, low) in
    let up_to : (n - 1) + 1 ≡ k = omega (arith, low, last) in
    ap (λ j. spaced f (map h (goods_from 0 (n - 1))) ++ (32 ∷ f (h j))) here
    ∙ one-more f h (n - 1) ∙ ap (λ j. spaced f (map h (goods_from 0 j))) up_to
