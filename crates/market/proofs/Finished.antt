-- A file read to its end: the market that it says, or a good that nobody owns.
use Rattle.std.proofs.Common.{◌≡◌, ℕ, ◌<◌, true, ◌&&◌, eqb, ltb, List, length, Ok, Err, sym, refl, ap, subst, inr}
use Rattle.std.proofs.lemmas.Bool.{and_parts, ltb-true, eqb-true}
use Rattle.mesh.specs.declared.refusal.Refusal.TheVariants.{GoodUnowned}
use Rattle.layout.specs.Layout.{file_of, WellFormed}
use Rattle.market.specs.Held.{Held}
use Rattle.market.specs.Reading.{economy_of, Placed, Reads}
use Rattle.market.specs.Markets.{MarketNumbers, AllOwned, FirstUnowned}
use Rattle.market.specs.declared.rows.Numbers.{Numbers}
use Rattle.market.specs.declared.market.Market.{Market}
use Rattle.market.proofs.Endings.{held_whole, held-named, held-market, reads_all}

-- What the test of the end tells.
pub end-tells : (t a l : ℕ) → true ≡ (ltb 0 t && eqb a l) → (0 < t) × (a ≡ l)
end-tells t a l e = let both = and_parts _ _ (sym e) in (ltb-true 0 t both.0, eqb-true a l both.1)

module _ (file : List ℕ) (at : ℕ) (n : Numbers) (held : Held file at n) (some : 0 < n.filled) where
  -- What a market asks of its numbers.
  pub market-numbers : MarketNumbers n
  market-numbers =
      let h = held-market file at n held some in
      (h.0, h.1, h.2, (held-named file at n held some, held.names_room), held.traders_room, h.3)

  module _ (all : at ≡ length file) (m : Market) (is : m.numbers ≡ n) where
    -- Everything is as the market says.
    same-economy : economy_of file m.numbers ≡ economy_of file n
    same-economy = ap (economy_of file) is

    formed : WellFormed (economy_of file m.numbers) × (file ≡ file_of (economy_of file m.numbers))
    formed = subst (λ e. WellFormed e × (file ≡ file_of e)) (sym same-economy) (held_whole file at n held some all)

    pub whole-market : AllOwned m → Reads file (Ok m)
    whole-market owned = reads_all file (Ok m) (record { formed = formed.0; owned = owned }, formed.1, subst (Placed file) (sym is) held.placed)

    pub unowned-fault : (j : ℕ) → FirstUnowned m j → Reads file (Err (GoodUnowned j))
    unowned-fault j first =
        reads_all file (Err (GoodUnowned j))
        (inr (record {
          economy = economy_of file m.numbers;
          good = j;
          formed = formed.0;
          bytes = formed.1;
          low = first.low;
          high = first.high;
          unowned = first.unowned;
          smallest = first.smallest;
          tells = refl;
        }))
