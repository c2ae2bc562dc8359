-- The front of an order turned by one, as the code turns it.
use Rattle.std.proofs.Common.{◌≡◌, ℕ, suc, ◌-◌, ◌≤◌, List, [], ◌∷◌, ◌++◌, length, take, drop, ap, ◌∙◌, arith}
use Rattle.std.proofs.Math.Seq.{drop-cons}
use Rattle.std.proofs.lemmas.List.{take_at, length-append, length-take, length-drop, drop_all}
use Rattle.todd_laws.specs.Steps.{nth}

pub rotated_left : (n g : ℕ) (p order : List ℕ) → n ≡ g → order ≡ drop 1 (take n p) ++ take 1 (take n p) → length (take g p) ≡ g
    → take g (order ++ drop n p) ≡ drop 1 (take g p) ++ take 1 (take g p)
rotated_left n g p order e turned size =
    let same = ap (λ m. drop 1 (take m p) ++ take 1 (take m p)) e in
    take_at order (drop n p) g
    (ap length (turned ∙ same) ∙ omega (arith, length-append (drop 1 (take g p)) (take 1 (take g p)), length-drop 1 (take g p), length-take 1 (take g p)))
    ∙ turned ∙ same

-- The last of a list of g, alone.
last-alone : (g : ℕ) (xs : List ℕ) → 1 ≤ g → length xs ≡ g → drop (g - 1) xs ≡ nth xs g ∷ []
last-alone g xs some size = drop-cons xs (g - 1) 0 (omega arith) ∙ ap (λ l. nth xs g ∷ l) (drop_all (suc (g - 1)) xs (omega arith))

pub rotated_right : (n g : ℕ) (p order : List ℕ) → 1 ≤ g → n ≡ g
    → order ≡ drop (length (take n p) - 1) (take n p) ++ take (length (take n p) - 1) (take n p) → length (take g p) ≡ g
    → take g (order ++ drop n p) ≡ nth (take g p) g ∷ take (g - 1) (take g p)
rotated_right n g p order some e turned size =
    let q = take g p in
    let here : order ≡ drop (g - 1) q ++ take (g - 1) q
    = turned ∙ ap (λ m. drop (length (take m p) - 1) (take m p) ++ take (length (take m p) - 1) (take m p)) e ∙ ap (λ m. drop (m - 1) q ++ take (m - 1) q) size
    in
    take_at order (drop n p) g (ap length here ∙ omega (arith, length-append (drop (g - 1) q) (take (g - 1) q), length-drop (g - 1) q, length-take (g - 1) q))
    ∙ here ∙ ap (λ l. l ++ take (g - 1) q) (last-alone g q some size)
