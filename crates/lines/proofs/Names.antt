-- A name, written byte by byte. Assumes nothing.
use Rattle.std.proofs.Common.{◌≡◌, ℕ, ◌+◌, ◌<◌, List, [], ◌∷◌, ◌++◌, length, get_or, take, IfOk, string_bytes, IsAscii, Result, String, sym, ap, ◌∙◌, subst, append-nil}
use lib.Utf8.{encode, encodes}
use Rattle.std.specs.declared.alloc.Global.{Global}
use Rattle.lines.specs.Lines.{good_text}
use Rattle.std.proofs.lemmas.List.{take_more}
use Rattle.std.proofs.lemmas.Str.{encodes-append, encodes-IsAscii}

-- One byte more, at the end.
pub encodes_more : (bs : List ℕ) (i : ℕ) → i < length bs → encodes (take i bs) ++ encode (get_or bs i 0) ≡ encodes (take (i + 1) bs)
encodes_more bs i low =
    let b = get_or bs i 0 in
    ap (λ t. encodes (take i bs) ++ t) (sym (append-nil (encode b)))
    ∙ sym (encodes-append (take i bs) (b ∷ [])) ∙ ap encodes (sym (take_more bs i 0 low))

-- A name of bytes below 128 stands in the line as it is.
pub plain-name : {E : Type 0} (r : Result (String Global) E) (j : ℕ) (name : List ℕ) (owned : ℕ) → IsAscii name
    → IfOk r (λ s. string_bytes s ≡ good_text j (encodes name) owned) → IfOk r (λ s. string_bytes s ≡ good_text j name owned)
plain-name r j name owned low h = subst (λ n. IfOk r (λ s. string_bytes s ≡ good_text j n owned)) (encodes-IsAscii name low) h
