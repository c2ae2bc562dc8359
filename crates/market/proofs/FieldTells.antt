-- What an answer of the field reader tells.
--   Passed            the five checks that a granted field has passed
--   field_told        what was granted, and that no check failed
--   early-passes, early-fails    what that says of all checks of a field, of which one more is that of a trader's weights
--   field-refused     what was refused is the first flaw
use Rattle.std.proofs.Common.{◌≡◌, ℕ, ◌+◌, ◌<◌, ◌≤◌, Bool, true, false, cond, eqb, leb, List, [], ◌∷◌, length, Ok, Err, Result, sym, refl, ap, ◌∙◌, arith}
use Rattle.std.proofs.lemmas.Bool.{eqb-true, eqb-false, leb-true}
use Rattle.mesh.specs.Refusals.{Told}
use Rattle.layout.specs.Faults.{Due, tag_of, length_of, body_of, tag_due, length_fits, value_fits, weights_fit, check, flaw}
use Rattle.market.specs.Fields.{due_tag, early, field_for}

abbrev pub Answer : Type 0
Answer = Result (ℕ × List ℕ × ℕ) Told

-- The checks but for that of a trader's weights, and what comes after them.
abbrev chain : (a b c d e : Bool) → ℕ → ℕ
chain a b c d e z = check a 21 (check b 22 (check c 23 (check d 21 (check e 24 z))))

all_pass : (a b c d e : Bool) → chain a b c d e 0 ≡ 0 → (a ≡ true) × (b ≡ true) × (c ≡ true) × (d ≡ true) × (e ≡ true)
all_pass false b c d e h = absurd (omega arith)
all_pass true false c d e h = absurd (omega arith)
all_pass true true false d e h = absurd (omega arith)
all_pass true true true false e h = absurd (omega arith)
all_pass true true true true false h = absurd (omega arith)
all_pass true true true true true h = (refl, refl, refl, refl, refl)

stops : (a b c d e : Bool) (z : ℕ) → 0 < chain a b c d e 0 → chain a b c d e z ≡ chain a b c d e 0
stops false b c d e z h = refl
stops true false c d e z h = refl
stops true true false d e z h = refl
stops true true true false e z h = refl
stops true true true true false z h = refl
stops true true true true true z h = absurd (omega arith)

pub record Passed (d : Due) (bytes : List ℕ) : Type 0 where
  pub head : 3 ≤ length bytes
  pub tag : tag_due d (tag_of bytes) ≡ true
  pub size : length_fits d (length_of bytes) ≡ true
  pub whole : 3 + length_of bytes ≤ length bytes
  pub value : value_fits d (body_of bytes) ≡ true

module _ (d : Due) (bytes : List ℕ) where
  each-passes : early d bytes ≡ 0
      → (leb 3 (length bytes) ≡ true) × (tag_due d (tag_of bytes) ≡ true) × (length_fits d (length_of bytes) ≡ true)
      × (leb (3 + length_of bytes) (length bytes) ≡ true) × (value_fits d (body_of bytes) ≡ true)
  each-passes e =
      all_pass (leb 3 (length bytes)) (tag_due d (tag_of bytes)) (length_fits d (length_of bytes)) (leb (3 + length_of bytes) (length bytes))
      (value_fits d (body_of bytes)) e

  pub passed : early d bytes ≡ 0 → Passed d bytes
  passed e =
      let p = each-passes e in
      record { head = leb-true _ _ p.0; tag = p.1; size = p.2; whole = leb-true _ _ p.3; value = p.4 }

  pub early-passes : early d bytes ≡ 0 → flaw d bytes ≡ check (weights_fit d (body_of bytes)) 25 0
  early-passes e = let p = each-passes e in rw (p.0, p.1, p.2, p.3, p.4)

  pub early-fails : 0 < early d bytes → flaw d bytes ≡ early d bytes
  early-fails e =
      stops (leb 3 (length bytes)) (tag_due d (tag_of bytes)) (length_fits d (length_of bytes)) (leb (3 + length_of bytes) (length bytes))
      (value_fits d (body_of bytes)) (check (weights_fit d (body_of bytes)) 25 0) e

pub field_told : (d : Due) (bytes : List ℕ) (place t p : ℕ) (body : List ℕ) → ◌≡◌ {A = Answer} (Ok (t, body, p)) (field_for d bytes place)
    → (early d bytes ≡ 0) × (t ≡ due_tag d) × (body ≡ body_of bytes) × (p ≡ place)
field_told d bytes place t p body e = go (eqb (early d bytes) 0) refl e
  where
    go : (b : Bool) → eqb (early d bytes) 0 ≡ b
        → ◌≡◌ {A = Answer} (Ok (t, body, p)) (cond b (Ok (due_tag d, body_of bytes, place)) (Err (early d bytes, place ∷ [])))
        → (early d bytes ≡ 0) × (t ≡ due_tag d) × (body ≡ body_of bytes) × (p ≡ place)
    go true h e =
        let same : ◌≡◌ {A = ℕ × List ℕ × ℕ} (t, body, p) (due_tag d, body_of bytes, place) = cc in
        (eqb-true _ _ h, ap (λ z. z.0) same, ap (λ z. z.1) same, ap (λ z. z.2) same)
    go false h e = let z : ◌≡◌ {A = ℕ} 0 1 = cc in absurd (omega arith)

pub field-refused : (d : Due) (bytes : List ℕ) (place : ℕ) (t : Told) → ◌≡◌ {A = Answer} (Err t) (field_for d bytes place)
    → (0 < flaw d bytes) × (t ≡ (flaw d bytes, place ∷ []))
field-refused d bytes place t e = go (eqb (early d bytes) 0) refl e
  where
    go : (b : Bool) → eqb (early d bytes) 0 ≡ b
        → ◌≡◌ {A = Answer} (Err t) (cond b (Ok (due_tag d, body_of bytes, place)) (Err (early d bytes, place ∷ [])))
        → (0 < flaw d bytes) × (t ≡ (flaw d bytes, place ∷ []))
    go true h e = let z : ◌≡◌ {A = ℕ} 0 1 = cc in absurd (omega arith)
    go false h e =
        let some : 0 < early d bytes = omega (arith, eqb-false _ _ h) in
        let same : flaw d bytes ≡ early d bytes = early-fails d bytes some in
        let is : t ≡ (early d bytes, place ∷ []) = cc in
        (rw same some, is ∙ ap (λ n. (n, place ∷ [])) (sym same))
