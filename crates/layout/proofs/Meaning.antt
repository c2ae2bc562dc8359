-- A byte string has one meaning: what is read of it before the first field that fails is settled, and so is what follows from that.
use Rattle.std.proofs.Common.{◌≡◌, ℕ, ◌<◌, ◌≤◌, true, List, [], ◌∷◌, ◌++◌, length, sym, refl, ap, ◌∙◌, subst, inl, inr, arith, lit<}
use Rattle.std.proofs.lemmas.List.{append-nil}
use Rattle.std.proofs.lemmas.Bool.{and_parts, leb-true, lt-ltb, and_from, both_ways, cases_order}
use Rattle.mesh.specs.Refusals.{Told}
use Rattle.trade.specs.Trade.{Trader, owned_in_all}
use Rattle.layout.specs.Layout.{Economy, file_of, WellFormed}
use Rattle.layout.specs.Faults.{Beginning, empty, trading, bytes_of, Sound, due, ended, flaw, FieldFault, OwnerFault}
use Rattle.layout.specs.Laws.{OneEconomy, OneFault, NoFileHasAFault}
use Rattle.layout.proofs.Reading.{Runs, one_end}
use Rattle.layout.proofs.Written.{read_back}

-- Good fields before a field that fails are the only ones.
one-beginning :
    (b c : Beginning) (rest left : List ℕ) → Sound b → Sound c → bytes_of b ++ rest ≡ bytes_of c ++ left
    → 0 < flaw (due b) rest → 0 < flaw (due c) left → (b ≡ c) × (rest ≡ left)
one-beginning b c rest left good fine same f k =
    one_end (read_back b rest good) f (subst (λ file. Runs empty file c left) (sym same) (read_back c left fine)) k

-- An economy as good fields, and back.
abbrev whole : Economy → Beginning
whole e = trading e.goods e.names e.sum e.traders

whole-sound : (e : Economy) → WellFormed e → Sound (whole e)
whole-sound e formed =
    (formed.goods, formed.named, formed.names, formed.sum, leb-true (length e.traders) 16 (and_parts _ _ formed.some).1, formed.traders)

from-whole : (e f : Economy) → whole e ≡ whole f → e ≡ f
from-whole e f same =
    let again : Economy → Economy = λ x. record { goods = x.goods; names = x.names; sum = x.sum; traders = x.traders } in
    let p : again e ≡ again f = cc in p

-- The bytes of a well-formed economy say nothing but that economy, and no field of them fails.
one-well-formed : (e f : Economy) → WellFormed e → WellFormed f → file_of e ≡ file_of f → e ≡ f
one-well-formed e f formed fine same =
    from-whole e f
    (one-beginning (whole e) (whole f) [] [] (whole-sound e formed) (whole-sound f fine) (ap (λ bytes. bytes ++ []) same) (lit< tt) (lit< tt)).0

no-field-fault : (e : Economy) (t : Told) → WellFormed e → FieldFault (file_of e) t → ⊥
no-field-fault e t formed fault =
    let same : (whole e ≡ fault.said) × ([] ≡ fault.rest) =
    one-beginning (whole e) fault.said [] fault.rest (whole-sound e formed) fault.sound (append-nil (file_of e) ∙ fault.bytes) (lit< tt)
    fault.wrong
    in
    let some : 1 ≤ length e.traders = leb-true 1 (length e.traders) (and_parts _ _ formed.some).0 in
    let over : ended (whole e) [] ≡ true = and_from _ _ (lt-ltb 0 (length e.traders) some) refl in
    both_ways (ended (whole e) []) (ap (λ b. ended b []) same.0 ∙ ap (ended fault.said) same.1 ∙ fault.goes_on) over

-- A field that fails first, and the smallest good that nobody owns: there is one at most of each.
one-field-fault : (file : List ℕ) (t u : Told) → FieldFault file t → FieldFault file u → t ≡ u
one-field-fault file t u here there =
    let same : (here.said ≡ there.said) × (here.rest ≡ there.rest) =
    one-beginning here.said there.said here.rest there.rest here.sound there.sound (sym here.bytes ∙ there.bytes)
    here.wrong there.wrong
    in
    let tells : Beginning → List ℕ → Told = λ b rest. (flaw (due b) rest, length (bytes_of b) ∷ []) in
    here.tells ∙ ap (λ b. tells b here.rest) same.0 ∙ ap (tells there.said) same.1 ∙ sym there.tells

one-smallest :
    (ts : List Trader) (a b : ℕ) → 1 ≤ a → 1 ≤ b → owned_in_all ts a ≡ 0 → owned_in_all ts b ≡ 0
    → ((i : ℕ) → 1 ≤ i → i < a → 0 < owned_in_all ts i) → ((i : ℕ) → 1 ≤ i → i < b → 0 < owned_in_all ts i) → a ≡ b
one-smallest ts a b la lb ua ub sa sb =
    elim (cases_order a b) [
      | inl same ↦ same
      | inr (inl less) ↦ absurd (omega (arith, sb a la less))
      | inr (inr more) ↦ absurd (omega (arith, sa b lb more))
    ]

one-owner-fault : (file : List ℕ) (t u : Told) → OwnerFault file t → OwnerFault file u → t ≡ u
one-owner-fault file t u here there =
    let same : here.economy ≡ there.economy =
    one-well-formed here.economy there.economy here.formed there.formed (sym here.bytes ∙ there.bytes)
    in
    let good : here.good ≡ there.good =
    one-smallest there.economy.traders here.good there.good here.low there.low (rw same at here.unowned) there.unowned
    (rw same at here.smallest) there.smallest
    in
    here.tells ∙ ap (λ l. (26, l ∷ [])) good ∙ sym there.tells

apart : (file : List ℕ) (t u : Told) → FieldFault file t → OwnerFault file u → ⊥
apart file t u field owner =
    no-field-fault owner.economy t owner.formed (subst (λ f. FieldFault f t) owner.bytes field)

-- The three laws.
pub one-economy : OneEconomy
one-economy e f valid fine same = one-well-formed e f valid.formed fine.formed same

pub one-fault : OneFault
one-fault file t u (inl here) (inl there) = one-field-fault file t u here there
one-fault file t u (inl here) (inr there) = absurd (apart file t u here there)
one-fault file t u (inr here) (inl there) = absurd (apart file u t there here)
one-fault file t u (inr here) (inr there) = one-owner-fault file t u here there

pub no-file-has-a-fault : NoFileHasAFault
no-file-has-a-fault e t valid (inl fault) = no-field-fault e t valid.formed fault
no-file-has-a-fault e t valid (inr fault) =
    let same : e ≡ fault.economy = one-well-formed e fault.economy valid.formed fault.formed fault.bytes in
    let owned = subst (λ f. (j : ℕ) → 1 ≤ j → j ≤ f.goods → 0 < owned_in_all f.traders j) same valid.owned in
    omega (arith, owned fault.good fault.low fault.high)
