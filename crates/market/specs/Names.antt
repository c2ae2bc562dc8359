-- The names of a market's goods, as parts of its file.
use Rattle.std.specs.Prelude.{◌≡◌, ℕ, List, [], length, take, drop, Ok, Err, Result}
use Rattle.mesh.specs.Range.{between}
use Rattle.mesh.specs.Refusals.{Told, insist}
use Rattle.mesh.specs.declared.refusal.Refusal.{Refusal}
use Rattle.layout.specs.Layout.{file_of}
use Rattle.market.specs.Reading.{economy_of, name_of, name_at, span_of}
use Rattle.market.specs.Markets.{goods_in}
use Rattle.market.specs.declared.market.Market.{Market}

-- Asking for the name of good j: 11 where the market has no such good, and where the file has no market.
abbrev pub name_for : List ℕ → Result Market Refusal → ℕ → Result (List ℕ) Told
name_for file (Ok m) j = insist (between 1 (goods_in m) j) 11 (Ok (name_of (economy_of file m.numbers) j))
name_for file (Err e) j = Err (11, [])

-- Where the file is that of the market, the bytes s are those at the place of the name of good j.
abbrev pub NameStands : List ℕ → Result Market Refusal → ℕ → List ℕ → Type 0
NameStands file (Ok m) j s =
    file ≡ file_of (economy_of file m.numbers) → s ≡ take (length s) (drop (name_at (economy_of file m.numbers) j) file)
NameStands file (Err e) j s = ⊥

-- Asking for the place of that name: refused alike.
abbrev pub place_for : Result Market Refusal → ℕ → Result ℕ Told
place_for (Ok m) j = insist (between 1 (goods_in m) j) 11 (Ok (span_of m.numbers j).at)
place_for (Err e) j = Err (11, [])
