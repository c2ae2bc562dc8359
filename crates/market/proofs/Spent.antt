-- One trader more, in what is demanded of a good.
use Rattle.std.proofs.Common.{◌≡◌, ℕ, zero, suc, ◌+◌, ◌-◌, ◌*◌, ◌<◌, ◌≤◌, List, [], ◌∷◌, length, get_or, take, take_all, sym, refl, ap, ◌∙◌, subst, mul-le-mul, arith}
use Rattle.std.proofs.lemmas.List.{map_more}
use Rattle.std.proofs.lemmas.List.Sums.{sum_by_push}
use Rattle.mesh.specs.Prices.{price}
use Rattle.mesh.specs.Points.{goods_of, prices_of}
use Rattle.mesh.specs.declared.point.PricePoint.{PricePoint}
use Rattle.mesh.proofs.Price.{price-in-table}
use Rattle.mesh.proofs.PointLevels.{prices-size}
use Rattle.trade.specs.Trade.{dot, income, demand}
use Rattle.market.specs.Rows.{trader_in, traders_in}
use Rattle.market.specs.declared.rows.Trader.{Trader}

-- A row past the end of the table.
abbrev blank : Trader
blank = record { owns = []; weighs = [] }

module _ (g a : ℕ) (rows : List Trader) (low_row : a < length rows) (j : ℕ) (low : 1 ≤ j) (high : j ≤ g) where
  demand-more : (x : List ℕ) → length x ≤ g
      → demand (traders_in g (take (a + 1) rows)) x j ≡ demand (traders_in g (take a rows)) x j + get_or (get_or rows a blank).weighs (j - 1) 0 * dot x (get_or rows a blank).owns
  demand-more x few =
      ap (λ ts. demand ts x j) (map_more (trader_in g) rows a blank low_row)
      ∙ sum_by_push (λ t. price t.weighs j * income x t) (traders_in g (take a rows)) (trader_in g (get_or rows a blank))
      ∙ ap (λ n. demand (traders_in g (take a rows)) x j + n * dot x (take g (get_or rows a blank).owns)) (sym (price-in-table g (get_or rows a blank).weighs j low high))
      ∙ ap (λ n. demand (traders_in g (take a rows)) x j + get_or (get_or rows a blank).weighs (j - 1) 0 * n) (dot-take x (get_or rows a blank).owns g few)
    where
      dot-take : (x ys : List ℕ) (g : ℕ) → length x ≤ g → dot x (take g ys) ≡ dot x ys
      dot-take [] ys g few = refl
      dot-take (x ∷ xs) ys zero few = absurd (omega arith)
      dot-take (x ∷ xs) [] (suc g) few = refl
      dot-take (x ∷ xs) (y ∷ ys) (suc g) few = ap (λ n. x * y + n) (dot-take xs ys g (omega arith))

-- All of a list, from its first item on.
pub all_of : (n : ℕ) (xs ys : List Trader) → xs ≡ ys → length xs ≤ n → take n xs ≡ ys
all_of n xs ys same few = take_all n xs few ∙ same

pub spent_more : (g i s w y j : ℕ) (rows all : List Trader) (x : List ℕ) (p : PricePoint) → rows ≡ all → i < length rows → x ≡ prices_of p → goods_of p ≡ g
    → 1 ≤ j → j ≤ g → s ≡ demand (traders_in g (take i all)) x j
    → w ≡ get_or (get_or rows i blank).weighs (j - 1) 0 → y ≡ dot x (get_or rows i blank).owns
    → s + w * y ≡ demand (traders_in g (take (i + 1) all)) x j
spent_more g i s w y j rows all x p same low prices own first last so_far weight earned =
    let few : length x ≤ g = omega (arith, ap length prices, prices-size p, own) in
    let inside : i < length all = subst (λ (rs : List Trader). i < length rs) same low in
    let more = demand-more g i all inside j first last x few in
    let product : w * y ≡ get_or (get_or all i blank).weighs (j - 1) 0 * dot x (get_or all i blank).owns
    = ap (λ n. n * y) weight ∙ ap (λ n. get_or (get_or rows i blank).weighs (j - 1) 0 * n) earned
    ∙ ap (λ (rs : List Trader). get_or (get_or rs i blank).weighs (j - 1) 0 * dot x (get_or rs i blank).owns) same in
    omega arith

-- Its share is bounded.
pub spent_bound : (i s w y : ℕ) → s ≤ i * 70366596710400 → w < 65536 → y ≤ 1073725440 → s + w * y ≤ (i + 1) * 70366596710400
spent_bound i s w y so_far small earned =
    let few : w ≤ 65535 = omega arith in
    let share : w * y ≤ 65535 * 1073725440 = mul-le-mul few earned in
    omega (arith, share)
