-- How far reading has come, and which field is due there.
--   is-empty, is-naming, is-trading    what the numbers say, at each of the three stages
--   Turn, turn                         what the numbers are like where a field is due
--   goods-turn, name-turn, ..          the same, by the tag that is due
use Rattle.std.proofs.Common.{◌≡◌, ℕ, ◌*◌, ◌<◌, ◌≤◌, Bool, true, false, cond, eqb, ltb, List, take, refl, arith}
use Rattle.std.proofs.lemmas.Bool.{both_ways, and_parts, leb-true, eqb-true, eqb-false, eq-eqb, ne_eqb, ltb-true, ltb-false}
use Rattle.layout.specs.Faults.{empty, naming, trading, Due, goods_due, name_due, sum_due, trader_due, nothing_due, tag_due, length_fits}
use Rattle.market.specs.Rows.{traders_in, names_in}
use Rattle.market.specs.Fields.{due_tag}
use Rattle.market.specs.declared.rows.Numbers.{Numbers}
use Rattle.market.specs.Adding.{due_in}
use Rattle.market.specs.Held.{beginning_of}

module _ (file : List ℕ) (n : Numbers) where
  pub is-empty : n.goods ≡ 0 → beginning_of file n ≡ empty
  is-empty none = rw (eq-eqb n.goods 0 none)

  pub is-naming : 0 < n.goods → n.sum ≡ 0 → beginning_of file n ≡ naming n.goods (names_in file n.named n.names)
  is-naming some none = rw (ne_eqb n.goods 0 (λ z. omega arith), eq-eqb n.sum 0 none)

  pub is-trading : 0 < n.goods → 0 < n.sum
      → beginning_of file n
      ≡ trading n.goods (names_in file n.named n.names) n.sum (traders_in n.goods (take n.filled n.traders))
  is-trading some more = rw (ne_eqb n.goods 0 (λ z. omega arith), ne_eqb n.sum 0 (λ z. omega arith))

abbrev pub Turn : Numbers → Due → Type 0
Turn n goods_due = n.goods ≡ 0
Turn n name_due = (0 < n.goods) × (n.named < n.goods)
Turn n sum_due = (0 < n.goods) × (n.goods ≤ n.named) × (n.sum ≡ 0)
Turn n (trader_due g S) = (g ≡ n.goods) × (S ≡ n.sum) × (0 < n.goods) × (0 < n.sum) × (n.filled < 16)
Turn n nothing_due = Unit {0}

pub turn : (n : Numbers) → Turn n (due_in n)
turn n = go (eqb n.goods 0) (ltb n.named n.goods) (eqb n.sum 0) (ltb n.filled 16) refl refl refl refl
  where
    go : (a b c d : Bool) → eqb n.goods 0 ≡ a → ltb n.named n.goods ≡ b → eqb n.sum 0 ≡ c → ltb n.filled 16 ≡ d
        → Turn n (cond a goods_due (cond b name_due (cond c sum_due (cond d (trader_due n.goods n.sum) nothing_due))))
    go true b c d ha hb hc hd = eqb-true _ _ ha
    go false true c d ha hb hc hd = (omega (arith, eqb-false _ _ ha), ltb-true _ _ hb)
    go false false true d ha hb hc hd = (omega (arith, eqb-false _ _ ha), ltb-false _ _ hb, eqb-true _ _ hc)
    go false false false true ha hb hc hd =
        (refl, refl, omega (arith, eqb-false _ _ ha), omega (arith, eqb-false _ _ hc), ltb-true _ _ hd)
    go false false false false ha hb hc hd = tt

pub goods-turn : (n : Numbers) (d : Due) → 1 ≡ due_tag d → Turn n d → (d ≡ goods_due) × (n.goods ≡ 0)
goods-turn n goods_due e t = (refl, t)
goods-turn n name_due e t = absurd (omega arith)
goods-turn n sum_due e t = absurd (omega arith)
goods-turn n (trader_due g S) e t = absurd (omega arith)
goods-turn n nothing_due e t = absurd (omega arith)

pub name-turn : (n : Numbers) (d : Due) → 2 ≡ due_tag d → Turn n d → (d ≡ name_due) × (0 < n.goods) × (n.named < n.goods)
name-turn n goods_due e t = absurd (omega arith)
name-turn n name_due e t = (refl, t.0, t.1)
name-turn n sum_due e t = absurd (omega arith)
name-turn n (trader_due g S) e t = absurd (omega arith)
name-turn n nothing_due e t = absurd (omega arith)

pub sum-turn : (n : Numbers) (d : Due) → 3 ≡ due_tag d → Turn n d → (d ≡ sum_due) × (0 < n.goods) × (n.goods ≤ n.named) × (n.sum ≡ 0)
sum-turn n goods_due e t = absurd (omega arith)
sum-turn n name_due e t = absurd (omega arith)
sum-turn n sum_due e t = (refl, t.0, t.1, t.2)
sum-turn n (trader_due g S) e t = absurd (omega arith)
sum-turn n nothing_due e t = absurd (omega arith)

pub trader-turn : (n : Numbers) (d : Due) → 4 ≡ due_tag d → Turn n d
    → (d ≡ trader_due n.goods n.sum) × (0 < n.goods) × (0 < n.sum) × (n.filled < 16)
trader-turn n goods_due e t = absurd (omega arith)
trader-turn n name_due e t = absurd (omega arith)
trader-turn n sum_due e t = absurd (omega arith)
trader-turn n (trader_due g S) e t = let p = t.0 in let q = t.1 in (cc, t.2, t.3, t.4)
trader-turn n nothing_due e t = absurd (omega arith)

-- The tag that passes is the one that is due, and no body is long.
pub tag-due : (d : Due) (tag : ℕ) → tag_due d tag ≡ true → tag ≡ due_tag d
tag-due goods_due tag h = eqb-true _ _ h
tag-due name_due tag h = eqb-true _ _ h
tag-due sum_due tag h = eqb-true _ _ h
tag-due (trader_due g S) tag h = eqb-true _ _ h
tag-due nothing_due tag h = absurd (both_ways false refl h)

pub size_small : (n : Numbers) (d : Due) (size : ℕ) → n.goods ≤ 8 → Turn n d → length_fits d size ≡ true → size ≤ 32
size_small n goods_due size few t h = omega (arith, eqb-true size 1 h)
size_small n name_due size few t h = leb-true size 32 (and_parts _ _ h).1
size_small n sum_due size few t h = omega (arith, eqb-true size 2 h)
size_small n (trader_due g S) size few t h = omega (arith, t.0, eqb-true size (4 * g) h)
size_small n nothing_due size few t h = absurd (both_ways false refl h)
