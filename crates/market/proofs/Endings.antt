-- The end of reading: the file of an economy, and what its numbers keep to.
use Rattle.std.proofs.Common.{◌≡◌, ℕ, ◌<◌, ◌≤◌, true, List, length, take, Ok, Err, Result, sym, ap, ◌∙◌, subst, arith, MatchResult}
use Rattle.std.proofs.lemmas.List.{take_all}
use Rattle.std.proofs.lemmas.Bool.{and_parts, and_from, leb-true, le-leb}
use Rattle.mesh.specs.Refusals.{told}
use Rattle.mesh.specs.declared.refusal.Refusal.{Refusal}
use Rattle.layout.specs.Layout.{file_of, Valid, WellFormed}
use Rattle.layout.specs.Faults.{bytes_of, Fault}
use Rattle.layout.proofs.Meaning.{one-economy, one-fault, no-file-has-a-fault}
use Rattle.market.specs.Rows.{traders_in, all_fit}
use Rattle.market.specs.Reading.{economy_of, Placed, Reads}
use Rattle.market.specs.declared.rows.Numbers.{Numbers}
use Rattle.market.specs.declared.market.Market.{Market}
use Rattle.market.specs.Held.{Held}
use Rattle.market.proofs.Stages.{is-trading}
use Rattle.market.proofs.Fitting.{fit_all}
use Rattle.market.proofs.Standing.{names-many, traders-many, sound-trading, by-stage, goods-few}

module _ (file : List ℕ) (at : ℕ) (n : Numbers) (held : Held file at n) where
  -- After a trader the goods and the sum are known.
  goods-known : 0 < n.filled → (0 < n.goods) × (0 < n.sum)
  goods-known some =
      by-stage file at n held ((0 < n.goods) × (0 < n.sum)) (λ none. absurd (omega (arith, some, held.no_sum (held.no_goods none).1)))
      (λ _ none. absurd (omega (arith, some, held.no_sum none))) (λ a b. (a, b))

  -- At the end of the file, after a trader.
  pub held_whole : 0 < n.filled → at ≡ length file → WellFormed (economy_of file n) × (file ≡ file_of (economy_of file n))
  held_whole some all =
      let known = goods-known some in
      let sound = sound-trading file at n held known.0 known.1 in (
        record {
          goods = sound.0;
          named = names-many file at n held ∙ sound.1;
          names = sound.2;
          sum = sound.3;
          some = rw (traders-many file at n held) (and_from _ _ (le-leb 1 n.filled some) (le-leb n.filled 16 held.few_traders));
          traders = sound.4;
        },
        sym (take_all at file (omega arith)) ∙ held.bytes ∙ ap bytes_of (is-trading file n known.0 known.1),
      )

  pub held-named : 0 < n.filled → n.named ≡ n.goods
  held-named some = let known = goods-known some in (sound-trading file at n held known.0 known.1).1

  pub held-market : 0 < n.filled
      → ((2 ≤ n.goods) × (n.goods ≤ 8)) × ((1 ≤ n.sum) × (n.sum ≤ 1000)) × ((1 ≤ n.filled) × (n.filled ≤ 16))
      × (all_fit n.goods n.sum (traders_in n.goods (take n.filled n.traders)) ≡ true)
  held-market some =
      let known = goods-known some in
      let sound = sound-trading file at n held known.0 known.1 in
      let goods = and_parts _ _ sound.0 in
      let sums = and_parts _ _ sound.3 in
      ((leb-true _ _ goods.0, goods-few file at n held), (leb-true _ _ sums.0, leb-true _ _ sums.1), (some, held.few_traders), fit_all _ _ _ sound.4)

-- What was granted or refused is all there is to say.
pub reads_all : (file : List ℕ) (r : Result Market Refusal)
    → MatchResult r (λ m. Valid (economy_of file m.numbers) × (file ≡ file_of (economy_of file m.numbers)) × Placed file m.numbers) (λ e. Fault file (told e))
    → Reads file r
reads_all file (Ok m) granted = record {
  granted = granted;
  each_file = λ e valid bytes. one-economy (economy_of file m.numbers) e granted.0 valid (sym granted.1 ∙ bytes);
  each_fault = λ t fault. no-file-has-a-fault (economy_of file m.numbers) t granted.0 (subst (λ f. Fault f t) granted.1 fault);
}
reads_all file (Err e) granted = record {
  granted = granted;
  each_file = λ f valid bytes. no-file-has-a-fault f (told e) valid (subst (λ b. Fault b (told e)) bytes granted);
  each_fault = λ t fault. one-fault file (told e) t granted fault;
}
