-- The name of a good is a part of the file, at its place.
use Rattle.std.proofs.Common.{◌≡◌, ℕ, ◌+◌, ◌-◌, ◌<◌, Bool, true, false, List, [], ◌∷◌, ◌++◌, length, get_or, take, drop, Ok, Result, sym, refl, ap, ◌∙◌, arith}
use Rattle.std.specs.List.{flat_map}
use Rattle.std.proofs.lemmas.List.{drop_at, drop-drop, take_at, append_assoc, get_or-map, get_or-take, length-take, take-append-drop, drop_more, length-map, length-take-le}
use Rattle.std.proofs.lemmas.Grind.{flat_map-append}
use Rattle.std.proofs.lemmas.Bool.{and_parts, leb-true}
use Rattle.mesh.specs.Range.{between}
use Rattle.mesh.specs.Refusals.{Told, insist}
use Rattle.layout.specs.Layout.{Economy, goods_field, name_field, sum_field, trader_field, file_of}
use Rattle.layout.specs.Faults.{naming, bytes_of}
use Rattle.market.specs.Rows.{cut, names_in}
use Rattle.market.specs.Reading.{economy_of, name_of, name_at}
use Rattle.market.specs.Names.{name_for, NameStands}
use Rattle.market.specs.declared.rows.Span.{Span}
use Rattle.market.specs.declared.market.Market.{Market}

-- The span of a good marks its name.
pub name-is : (file : List ℕ) (m : Market) (j : ℕ) (s d : Span)
    → ◌≡◌ {A = Result Span Told} (Ok s) (insist (between 1 m.numbers.goods j) 11 (Ok (get_or m.numbers.names (j - 1) d)))
    → ◌≡◌ {A = Result (List ℕ) Told} (Ok (cut file s)) (name_for file (Ok m) j)
name-is file m j s d e = go (between 1 m.numbers.goods j) refl e
  where
    go : (b : Bool) → between 1 m.numbers.goods j ≡ b → ◌≡◌ {A = Result Span Told} (Ok s) (insist b 11 (Ok (get_or m.numbers.names (j - 1) d)))
        → ◌≡◌ {A = Result (List ℕ) Told} (Ok (cut file s)) (insist b 11 (Ok (get_or (names_in file m.numbers.named m.numbers.names) (j - 1) [])))
    go false t h = let z : ◌≡◌ {A = ℕ} 0 1 = cc in absurd (omega arith)
    go true t h =
        let same : s ≡ get_or m.numbers.names (j - 1) d = cc in
        let parts = and_parts _ _ t in
        let low = leb-true 1 j parts.0 in
        let high = leb-true j m.numbers.goods parts.1 in
        let inside : j - 1 < m.numbers.named = omega (arith, m.all_named.0) in
        let few : j - 1 < length (take m.numbers.named m.numbers.names) = rw (length-take m.numbers.named m.numbers.names) (omega (arith, m.all_named.0, m.all_named.1, m.goods_fit.1)) in
        ap (λ x. Ok (cut file x)) (same ∙ sym (get_or-take m.numbers.named m.numbers.names (j - 1) d inside))
        ∙ ap Ok (sym (get_or-map (cut file) (take m.numbers.named m.numbers.names) (j - 1) d [] few))

-- In the file of an economy, the name of good j stands at its place.
pub name-place : (e : Economy) (j : ℕ) → j - 1 < length e.names
    → name_of e j ≡ take (length (name_of e j)) (drop (name_at e j) (file_of e))
name-place e j inside =
    let k = j - 1 in
    let before = take k e.names in
    let after = drop (k + 1) e.names in
    let tail = sum_field e.sum ++ flat_map trader_field e.traders in
    let start = bytes_of (naming e.goods before) in
    let split : before ++ (name_of e j ∷ after) ≡ e.names = ap (λ r. before ++ r) (sym (drop_more e.names k [] inside)) ∙ take-append-drop k e.names in
    let names : flat_map name_field e.names ≡ flat_map name_field before ++ (name_field (name_of e j) ++ flat_map name_field after)
    = ap (flat_map name_field) (sym split) ∙ flat_map-append name_field before (name_of e j ∷ after) in
    let file : file_of e ≡ start ++ (name_field (name_of e j) ++ (flat_map name_field after ++ tail))
    = ap (λ r. goods_field e.goods ++ (r ++ tail)) names
    ∙ ap (λ r. goods_field e.goods ++ r) (append_assoc (flat_map name_field before) (name_field (name_of e j) ++ flat_map name_field after) tail)
    ∙ sym (append_assoc (goods_field e.goods) (flat_map name_field before) ((name_field (name_of e j) ++ flat_map name_field after) ++ tail))
    ∙ ap (λ r. start ++ r) (append_assoc (name_field (name_of e j)) (flat_map name_field after) tail) in
    let there : drop (name_at e j) (file_of e) ≡ name_of e j ++ (flat_map name_field after ++ tail)
    = ap (drop (name_at e j)) file
    ∙ sym (drop-drop 3 (length start) (start ++ (name_field (name_of e j) ++ (flat_map name_field after ++ tail))))
    ∙ ap (drop 3) (drop_at start (name_field (name_of e j) ++ (flat_map name_field after ++ tail)) (length start) refl) in
    sym (ap (take (length (name_of e j))) there ∙ take_at (name_of e j) (flat_map name_field after ++ tail) (length (name_of e j)) refl)

-- So it does where a name was found.
pub name-stands : (file : List ℕ) (m : Market) (j : ℕ) (s : List ℕ) → ◌≡◌ {A = Result (List ℕ) Told} (Ok s) (name_for file (Ok m) j) → NameStands file (Ok m) j s
name-stands file m j s e whole = go (between 1 m.numbers.goods j) refl e
  where
    go : (b : Bool) → between 1 m.numbers.goods j ≡ b → ◌≡◌ {A = Result (List ℕ) Told} (Ok s) (insist b 11 (Ok (name_of (economy_of file m.numbers) j)))
        → s ≡ take (length s) (drop (name_at (economy_of file m.numbers) j) file)
    go false t h = let z : ◌≡◌ {A = ℕ} 0 1 = cc in absurd (omega arith)
    go true t h =
        let same : s ≡ name_of (economy_of file m.numbers) j = cc in
        let parts = and_parts _ _ t in
        let low = leb-true 1 j parts.0 in
        let high = leb-true j m.numbers.goods parts.1 in
        let count : length (names_in file m.numbers.named m.numbers.names) ≡ m.numbers.named
        = length-map (take m.numbers.named m.numbers.names) (cut file) ∙ length-take-le m.numbers.named m.numbers.names (omega (arith, m.all_named.0, m.all_named.1, m.goods_fit.1)) in
        let stands = name-place (economy_of file m.numbers) j (omega (arith, count, m.all_named.0)) in
        same ∙ stands
        ∙ ap (λ x. take (length x) (drop (name_at (economy_of file m.numbers) j) (file_of (economy_of file m.numbers)))) (sym same)
        ∙ ap (λ f. take (length s) (drop (name_at (economy_of file m.numbers) j) f)) (sym whole)
