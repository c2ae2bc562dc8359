-- Good fields as they are written are read: whatever comes after them, reading gets past them, and is told what they say.
-- Each lemma takes a reading from after a field, and gives one from before it.
use Rattle.std.proofs.Common.{◌≡◌, ℕ, ◌+◌, ◌*◌, ◌<◌, ◌≤◌, true, false, ltb, List, [], ◌∷◌, ◌++◌, length, take, drop, sum, refl, ap, ◌∙◌, append_assoc, arith, length-append}
use native.Mathlib.Nat.{div-add-mod}
use Rattle.std.specs.List.{flat_map, AllByRecursion}
use Rattle.std.proofs.lemmas.List.{append-nil, length_push, take_at, drop_at}
use Rattle.std.proofs.lemmas.Bool.{lt-ltb, le-ltb, eq-eqb, and_from}
use Rattle.mesh.specs.Range.{fit_goods}
use Rattle.trade.specs.Trade.{Trader}
use Rattle.layout.specs.Layout.{two, field, goods_field, name_field, sum_field, trader_field, printing, NameFits, fit_sum, TraderFits}
use Rattle.layout.specs.Faults.{Beginning, empty, naming, trading, bytes_of, Sound, due, values, tag_due, length_fits, all_print, value_fits, weights_fit}
use Rattle.layout.proofs.Steps.{values-both}
use Rattle.layout.proofs.Fields.{body_back, rest_back, passes}
use Rattle.layout.proofs.Reading.{next, Runs, stop, more}

-- One field.
past-field :
    (b c : Beginning) (tag : ℕ) (body rest end : List ℕ)
    → tag_due (due b) tag ≡ true → length_fits (due b) (length body) ≡ true → value_fits (due b) body ≡ true → weights_fit (due b) body ≡ true
    → Runs (next b body) rest c end → Runs b (field tag body ++ rest) c end
past-field b c tag body rest end t l v w r =
    more (passes tag body rest (due b) t l v w) (rw (body_back tag body rest, rest_back tag body rest) r)

past-goods : (g : ℕ) (c : Beginning) (rest end : List ℕ) → fit_goods g ≡ true → Runs (naming g []) rest c end → Runs empty (goods_field g ++ rest) c end
past-goods g c rest end fit r = past-field empty c 1 (g ∷ []) rest end refl refl fit refl r

-- A name.
all-printing : (bs : List ℕ) → AllByRecursion (λ b. printing b ≡ true) bs → all_print bs ≡ true
all-printing [] h = refl
all-printing (b ∷ bs) h = and_from (printing b) (all_print bs) h.0 (all-printing bs h.1)

past-name :
    (g : ℕ) (old : List (List ℕ)) (name : List ℕ) (c : Beginning) (rest end : List ℕ)
    → length old < g → NameFits name → Runs (naming g (old ++ name ∷ [])) rest c end → Runs (naming g old) (name_field name ++ rest) c end
past-name g old name c rest end low fits r =
    let e : ltb (length old) g ≡ true = lt-ltb (length old) g low in
    past-field (naming g old) c 2 name rest end (rw e) (rw e fits.size) (rw e (all-printing name fits.prints)) (rw e) (rw e r)

-- All names.
past-names :
    (g : ℕ) (old new : List (List ℕ)) (c : Beginning) (rest end : List ℕ)
    → length old + length new ≤ g → AllByRecursion NameFits new → Runs (naming g (old ++ new)) rest c end
    → Runs (naming g old) (flat_map name_field new ++ rest) c end
past-names g old [] c rest end low fits r = rw append-nil at r
past-names g old (name ∷ new) c rest end low fits r =
    rw append_assoc
    (past-name g old name c (flat_map name_field new ++ rest) end (omega arith) fits.0
    (past-names g (old ++ name ∷ []) new c rest end (rw length_push (omega arith)) fits.1 (rw append_assoc r)))

past-sum :
    (g : ℕ) (names : List (List ℕ)) (S : ℕ) (c : Beginning) (rest end : List ℕ)
    → length names ≡ g → fit_sum S ≡ true → Runs (trading g names S []) rest c end → Runs (naming g names) (sum_field S ++ rest) c end
past-sum g names S c rest end all fits r =
    let e : ltb (length names) g ≡ false = le-ltb (length names) g (omega arith) in
    past-field (naming g names) c 3 (two S) rest end (rw e) (rw e) (rw (e, div-add-mod S 256) fits) (rw e) (rw (e, div-add-mod S 256) r)

-- A trader.
length-numbers : (xs : List ℕ) → length (flat_map two xs) ≡ 2 * length xs
length-numbers [] = refl
length-numbers (x ∷ xs) = omega (arith, length-numbers xs)

body-length : (g S : ℕ) (t : Trader) → TraderFits g S t → length (flat_map two t.owns ++ flat_map two t.weighs) ≡ 4 * g
body-length g S t fits =
    rw length-append (omega (arith, length-numbers t.owns, length-numbers t.weighs, fits.fair.owned, fits.fair.weighed))

owns_back : (g S : ℕ) (t : Trader) → TraderFits g S t → take g (values (flat_map two t.owns ++ flat_map two t.weighs)) ≡ t.owns
owns_back g S t fits = ap (take g) (values-both t.owns t.weighs) ∙ take_at t.owns t.weighs g fits.fair.owned

weighs-back : (g S : ℕ) (t : Trader) → TraderFits g S t → drop g (values (flat_map two t.owns ++ flat_map two t.weighs)) ≡ t.weighs
weighs-back g S t fits = ap (drop g) (values-both t.owns t.weighs) ∙ drop_at t.owns t.weighs g fits.fair.owned

past-trader :
    (g : ℕ) (names : List (List ℕ)) (S : ℕ) (old : List Trader) (t : Trader) (c : Beginning) (rest end : List ℕ)
    → length old < 16 → TraderFits g S t → Runs (trading g names S (old ++ t ∷ [])) rest c end
    → Runs (trading g names S old) (trader_field t ++ rest) c end
past-trader g names S old t c rest end low fits r =
    let e : ltb (length old) 16 ≡ true = lt-ltb (length old) 16 low in
    let body : List ℕ = flat_map two t.owns ++ flat_map two t.weighs in
    past-field (trading g names S old) c 4 body rest end (rw e)
    (rw e (eq-eqb (length body) (4 * g) (body-length g S t fits)))
    (rw e)
    (rw e (eq-eqb _ S (ap sum (weighs-back g S t fits) ∙ fits.fair.shares)))
    (rw (owns_back g S t fits, weighs-back g S t fits) r)

past-traders :
    (g : ℕ) (names : List (List ℕ)) (S : ℕ) (old new : List Trader) (c : Beginning) (rest end : List ℕ)
    → length old + length new ≤ 16 → AllByRecursion (TraderFits g S) new → Runs (trading g names S (old ++ new)) rest c end
    → Runs (trading g names S old) (flat_map trader_field new ++ rest) c end
past-traders g names S old [] c rest end low fits r = rw append-nil at r
past-traders g names S old (t ∷ new) c rest end low fits r =
    rw append_assoc
    (past-trader g names S old t c (flat_map trader_field new ++ rest) end (omega arith) fits.0
    (past-traders g names S (old ++ t ∷ []) new c rest end (rw length_push (omega arith)) fits.1 (rw append_assoc r)))

-- All good fields.
pub read_back : (b : Beginning) (rest : List ℕ) → Sound b → Runs empty (bytes_of b ++ rest) b rest
read_back empty rest sound = stop
read_back (naming g names) rest sound =
    past-goods g (naming g names) (flat_map name_field names ++ rest) rest sound.0
    (past-names g [] names (naming g names) rest rest (omega arith) sound.2 stop)
read_back (trading g names S traders) rest sound =
    let all : Beginning = trading g names S traders in
    let after : List ℕ = flat_map trader_field traders ++ rest in
    rw (append_assoc (flat_map name_field names) (sum_field S ++ flat_map trader_field traders) rest)
    (past-goods g all (flat_map name_field names ++ (sum_field S ++ after)) rest sound.0
    (past-names g [] names all (sum_field S ++ after) rest (omega arith) sound.2
    (past-sum g names S all after rest sound.1 sound.3 (past-traders g names S [] traders all rest rest (omega arith) sound.5 stop))))
