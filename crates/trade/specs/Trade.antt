-- Exchange at given prices: what is demanded and owned, the excess of a good, and the label of a price point.
-- Goods count from 1. A trader spends what its endowment is worth at the prices, a share of it on each good by its weights, which add up to S.
--   Trader, Fair        a trader; one whose weights add up to S
--   owned_in_all          what is owned in all of a good (W)
--   excess              what is demanded of a good less what is owned, times S and the good's price
--   market_label         the smallest good that has a price and is not short
--   Labels              what that label is, as a relation
use Rattle.std.specs.Prelude.{◌≡◌, ℕ, zero, suc, ◌+◌, ◌*◌, ◌<◌, ◌≤◌, Bool, cond, ◌&&◌, List, [], ◌∷◌, map, length, ℤ, pos, ◌+ℤ◌, ◌-ℤ◌, ◌≤ℤ◌, ◌<ℤ◌, fold, sum_by, sum, int_le, nat_lt}
use Rattle.std.specs.List.{AllByRecursion}
use Rattle.mesh.specs.Prices.{price}

-- What a trader owns of each good, and how it weighs each.
pub record Trader : Type 0 where
  pub owns : List ℕ
  pub weighs : List ℕ

-- A trader of g goods whose weights add up to S.
pub record Fair (g S : ℕ) (t : Trader) : Type 0 where
  pub owned : length t.owns ≡ g
  pub weighed : length t.weighs ≡ g
  pub shares : sum t.weighs ≡ S

-- The sum of the products, entry by entry.
abbrev pub dot : List ℕ → List ℕ → ℕ
dot [] ys = 0
dot (x ∷ xs) [] = 0
dot (x ∷ xs) (y ∷ ys) = x * y + dot xs ys

-- What a trader's endowment is worth at the prices x.
abbrev pub income : List ℕ → Trader → ℕ
income x t = dot x t.owns

-- What all traders own of good j.
abbrev pub owned_in_all : List Trader → ℕ → ℕ
owned_in_all ts j = sum_by (λ t. price t.owns j) ts

-- What all traders spend on good j, times S.
abbrev pub demand : List Trader → List ℕ → ℕ → ℕ
demand ts x j = sum_by (λ t. price t.weighs j * income x t) ts

-- What all there is of good j is worth, times S.
abbrev pub supply : ℕ → List Trader → List ℕ → ℕ → ℕ
supply S ts x j = S * price x j * owned_in_all ts j

-- The excess of good j.
abbrev pub excess : ℕ → List Trader → List ℕ → ℕ → ℤ
excess S ts x j = pos (demand ts x j) -ℤ pos (supply S ts x j)

-- Good j has a price and is not short.
abbrev pub clears : ℕ → List Trader → List ℕ → ℕ → Bool
clears S ts x j = nat_lt 0 (price x j) && int_le (excess S ts x j) (pos 0)

-- The smallest of the n goods after j that passes the test; 0 if there is none.
abbrev pub first_after : ℕ → ℕ → (ℕ → Bool) → ℕ
first_after zero j test = 0
first_after (suc n) j test = cond (test (suc j)) (suc j) (first_after n (suc j) test)

-- The label of the prices x of g goods.
abbrev pub market_label : ℕ → ℕ → List Trader → List ℕ → ℕ
market_label g S ts x = first_after g 0 (clears S ts x)

-- The label l at the prices x: the smallest good with a price above 0 and an excess of at most 0.
pub record Labels (g S : ℕ) (ts : List Trader) (x : List ℕ) (l : ℕ) : Type 0 where
  pub low : 1 ≤ l
  pub high : l ≤ g
  pub priced : 0 < price x l
  pub enough : excess S ts x l ≤ℤ pos 0
  pub smallest : (i : ℕ) → 1 ≤ i → i < l → 0 < price x i → pos 0 <ℤ excess S ts x i

-- The goods 1 to g.
abbrev pub goods_from : ℕ → ℕ → List ℕ
goods_from j zero = []
goods_from j (suc n) = suc j ∷ goods_from (suc j) n

-- The excesses of all goods add up to nought.
abbrev pub ExcessesCancel : Type 0
ExcessesCancel =
    (g S : ℕ) (ts : List Trader) (x : List ℕ) → AllByRecursion (Fair g S) ts → length x ≡ g
    → fold ◌+ℤ◌ (pos 0) (map (excess S ts x) (goods_from 0 g)) ≡ pos 0

-- No good without a price has an excess below 0.
abbrev pub FreeGoodsNotInSurplus : Type 0
FreeGoodsNotInSurplus = (S : ℕ) (ts : List Trader) (x : List ℕ) (j : ℕ) → price x j ≡ 0 → pos 0 ≤ℤ excess S ts x j

-- Where some good has a price, the label exists, and is what it should be.
abbrev pub LabelExists : Type 0
LabelExists =
    (g S : ℕ) (ts : List Trader) (x : List ℕ) → AllByRecursion (Fair g S) ts → length x ≡ g → 0 < sum x → Labels g S ts x (market_label g S ts x)

-- There is one label at most.
abbrev pub LabelDetermined : Type 0
LabelDetermined = (g S : ℕ) (ts : List Trader) (x : List ℕ) (l m : ℕ) → Labels g S ts x l → Labels g S ts x m → l ≡ m
