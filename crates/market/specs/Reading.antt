-- What reading a market file answers.
use Rattle.std.specs.Prelude.{◌≡◌, ℕ, ◌+◌, ◌-◌, ◌≤◌, List, [], length, take, Result, MatchResult, slice_index_or}
use Rattle.mesh.specs.Refusals.{Told, told}
use Rattle.mesh.specs.declared.refusal.Refusal.{Refusal}
use Rattle.layout.specs.Layout.{Economy, file_of, Valid}
use Rattle.layout.specs.Faults.{Fault, naming, bytes_of}
use Rattle.market.specs.Rows.{traders_in, names_in}
use Rattle.market.specs.declared.rows.Numbers.{Numbers}
use Rattle.market.specs.declared.rows.Span.{Span}
use Rattle.market.specs.declared.market.Market.{Market}

-- What numbers say, with the names that they mark in a file.
abbrev pub economy_of : List ℕ → Numbers → Economy
economy_of file n = record {
  goods = n.goods;
  names = names_in file n.named n.names;
  sum = n.sum;
  traders = traders_in n.goods (take n.filled n.traders);
}

-- The name of good j of an economy.
abbrev pub name_of : Economy → ℕ → List ℕ
name_of e j = slice_index_or e.names (j - 1) []

-- Where it stands in the file: after the goods, the names before it, and the head of its own field.
abbrev pub name_at : Economy → ℕ → ℕ
name_at e j = length (bytes_of (naming e.goods (take (j - 1) e.names))) + 3

-- The span that numbers have for the name of good j.
abbrev pub span_of : Numbers → ℕ → Span
span_of n j = slice_index_or n.names (j - 1) (record { at = 0; len = 0 })

-- Each name that was read is marked at its place.
abbrev pub Placed : List ℕ → Numbers → Type 0
Placed file n = (j : ℕ) → 1 ≤ j → j ≤ n.named → (span_of n j).at ≡ name_at (economy_of file n) j

-- The answer of reading is the market whose file the bytes are, or else the refusal of their first fault:
-- each file of a valid economy is read as that economy, each fault is told, and nothing else is answered.
pub record Reads (file : List ℕ) (r : Result Market Refusal) : Type 0 where
  pub granted : MatchResult r (λ m. Valid (economy_of file m.numbers) × (file ≡ file_of (economy_of file m.numbers)) × Placed file m.numbers) (λ e. Fault file (told e))
  pub each_file : (e : Economy) → Valid e → file ≡ file_of e → MatchResult r (λ m. economy_of file m.numbers ≡ e) (λ _. ⊥)
  pub each_fault : (t : Told) → Fault file t → MatchResult r (λ _. ⊥) (λ e. told e ≡ t)
