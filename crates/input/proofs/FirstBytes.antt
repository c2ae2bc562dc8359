-- Reading the first bytes of an input whose bytes are known.
use Rattle.std.proofs.Common.{◌≡◌, ℕ, zero, suc, List, [], ◌∷◌, ◌++◌, take, Option, None, Some, Result, Ok, IfOk, IfSome, refl, sym, ap, ◌∙◌, subst, append_assoc, arith}
use Rattle.std.proofs.lemmas.List.{append-nil}
use Rattle.std.specs.Io.Iter.{YieldsKnownByte}
use Rattle.std.specs.Io.KnownBytes.{Consumes, IsAtEnd}
use Rattle.std.specs.Iterator.{Drains}
use Rattle.std.specs.Iterator.Adapters.{take_source, take_count, take_steps}
use Rattle.std.specs.List.{FoldsTo}
use Rattle.std.specs.declared.iter.Take.{Take}

-- Where the bytes are known and one is consumed, it is the first of them.
one_byte : (old new : Option (List ℕ)) (xs : List ℕ) (y : ℕ) → old ≡ Some xs → Consumes old new (y ∷ []) → (ys : List ℕ) × (new ≡ Some ys) × (xs ≡ y ∷ ys)
one_byte None new xs y known consumed = cc
one_byte (Some zs) None xs y known consumed = absurd consumed
one_byte (Some zs) (Some ys) xs y known consumed = (ys, refl, cc)

pub when_known : (known : Option (List ℕ)) (P : List ℕ → Type 0) → ((xs : List ℕ) → known ≡ Some xs → P xs) → IfSome known P
when_known None P all = tt
when_known (Some xs) P all = all xs refl

module _ {S E V : Type 0} (steps : S → Option (Result ℕ E) → S → Type 0) (known : S → Option (List ℕ)) (items : V → List ℕ) (pushes : V → Result ℕ E → V → Type 0)
    (gives : (s : S) (r : Option (Result ℕ E)) (t : S) → steps s r t → YieldsKnownByte (known s) r (known t))
    (adds : (p : V) (x : Result ℕ E) (q : V) → pushes p x q → (y : ℕ) × (x ≡ Ok y) × (items q ≡ items p ++ y ∷ [])) where
  -- At the end: nothing more was asked for, or nothing more was there.
  at_end : (n : ℕ) (xs : List ℕ) (t u : Take S) → take_count t ≡ n → known (take_source t) ≡ Some xs → take_steps steps t None u → take n xs ≡ []
  at_end zero xs t u count here last = refl
  at_end (suc n) xs t u count here last =
      let nothing : xs ≡ [] = subst IsAtEnd here (gives (take_source t) None (take_source u) (last (omega arith))) in
      ap (take (suc n)) nothing

  -- What was read is the first bytes, as many as were asked for.
  pub first_read : (n : ℕ) (xs : List ℕ) (read : List (Result ℕ E)) (s : Take S) (b v : V) → take_count s ≡ n → known (take_source s) ≡ Some xs
      → Drains (take_steps steps) s read → FoldsTo pushes b read v → items v ≡ items b ++ take n xs
  first_read n xs [] s b v count here (u, (t, same, last)) folds =
      let end : take n xs ≡ [] = at_end n xs s u count here (subst (λ (w : Take S). take_steps steps w None u) (sym same) last) in
      rw (end, append-nil) (sym (ap items folds))
  first_read zero xs (item ∷ more) s b v count here (u, (t, (j, one, rest), last)) (m, pushed, folds) = absurd (omega (arith, one.1))
  first_read (suc n) xs (item ∷ more) s b v count here (u, (t, (j, one, rest), last)) (m, pushed, folds) =
      let byte = adds b item m pushed in
      let told = gives (take_source s) (Some item) (take_source j) one.0 in
      let consumed : Consumes (known (take_source s)) (known (take_source j)) (byte.0 ∷ []) =
      subst (λ (r : Result ℕ E). IfOk r (λ y. Consumes (known (take_source s)) (known (take_source j)) (y ∷ []))) byte.1 told
      in
      let left = one_byte (known (take_source s)) (known (take_source j)) xs byte.0 here consumed in
      let later = first_read n left.0 more j m v (omega (arith, one.1)) left.1 (u, (t, rest, last)) folds in
      later ∙ ap (λ w. w ++ take n left.0) byte.2 ∙ append_assoc (items b) (byte.0 ∷ []) (take n left.0) ∙ ap (λ w. items b ++ take (suc n) w) (sym left.2)
