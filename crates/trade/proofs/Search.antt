-- What a search among the goods finds. Assumes nothing.
--   Found, Fails              the smallest good after j that passes, among n; none of them passes
--   first-cases               first_after finds it, or answers 0 where none passes
--   step-hit, step-miss       one step of first_after
--   first_after-skip, -here    the first j goods fail: the search goes on after them; the next passes: it is the answer
--   first_after-none           all fail: the answer is 0
--   fails-start, fails_more   how a loop comes to know that the first j fail
--   left-start, -more, -here, -end    the same for a loop that keeps what is left to search, first_after (g - j) j
use Rattle.std.proofs.Common.{◌≡◌, ℕ, zero, suc, ◌+◌, ◌-◌, ◌<◌, ◌≤◌, Bool, true, false, ◌⊎◌, sym, refl, ap, ◌∙◌, inl, inr, ⊎_elim, arith}
use Rattle.std.proofs.lemmas.Bool.{cases_eq, cond-true, cond-false, cond_both}
use Rattle.trade.specs.Trade.{first_after}

-- l is the smallest of the n goods after j that passes.
pub record Found (n j : ℕ) (test : ℕ → Bool) (l : ℕ) : Type 0 where
  pub after : j < l
  pub within : l ≤ j + n
  pub passes : test l ≡ true
  pub before : (i : ℕ) → j < i → i < l → test i ≡ false

-- None of the n goods after j passes.
abbrev pub Fails : ℕ → ℕ → (ℕ → Bool) → Type 0
Fails n j test = (i : ℕ) → j < i → i ≤ j + n → test i ≡ false

-- One good more that fails, in front.
fails-front : (n j : ℕ) (test : ℕ → Bool) → test (suc j) ≡ false → Fails n (suc j) test → Fails (suc n) j test
fails-front n j test miss rest i low high =
    ⊎_elim (λ here. rw here miss) (λ later. rest i (omega (arith, later)) (omega arith)) (cases_eq i (suc j))

-- What the search answers: the good it finds, or 0.
abbrev pub Answer : ℕ → ℕ → (ℕ → Bool) → ℕ → Type 0
Answer n j test l = Found n j test l ⊎ ((l ≡ 0) × Fails n j test)

answer-hit : (test : ℕ → Bool) (n j : ℕ) → test (suc j) ≡ true → Answer (suc n) j test (suc j)
answer-hit test n j hit = inl (record { after = omega arith; within = omega arith; passes = hit; before = λ i low high. absurd (omega arith) })

answer-miss : (test : ℕ → Bool) (n j l : ℕ) → test (suc j) ≡ false → Answer n (suc j) test l → Answer (suc n) j test l
answer-miss test n j l miss (inl f) =
    let after' = f.after in
    let within' = f.within in
    inl (record {
      after = omega arith;
      within = omega arith;
      passes = f.passes;
      before = λ i low high. ⊎_elim (λ here. rw here miss) (λ later. f.before i (omega (arith, later)) high) (cases_eq i (suc j));
    })
answer-miss test n j l miss (inr h) = inr (h.0, fails-front n j test miss h.1)

-- The search finds the smallest that passes, or answers 0 where none does.
pub first-cases : (test : ℕ → Bool) (n j : ℕ) → Answer n j test (first_after n j test)
first-cases test zero j = inr (refl, λ i low high. absurd (omega arith))
first-cases test (suc n) j =
    cond_both (test (suc j)) (suc j) (first_after n (suc j) test) (Answer (suc n) j test)
    (answer-hit test n j) (λ miss. answer-miss test n j (first_after n (suc j) test) miss (first-cases test n (suc j)))

-- One step of the search, where the next good passes and where it fails.
pub step-hit : (test : ℕ → Bool) (n j : ℕ) → test (suc j) ≡ true → first_after (suc n) j test ≡ suc j
step-hit test n j hit = cond-true (test (suc j)) (suc j) (first_after n (suc j) test) hit

pub step-miss : (test : ℕ → Bool) (n j : ℕ) → test (suc j) ≡ false → first_after (suc n) j test ≡ first_after n (suc j) test
step-miss test n j miss = cond-false (test (suc j)) (suc j) (first_after n (suc j) test) miss

-- A loop over j keeps that what is left to search, the g - j goods after j, has the answer.
pub left-start : (test : ℕ → Bool) (g : ℕ) → first_after (g - 0) 0 test ≡ first_after g 0 test
left-start test g = let all : g - 0 ≡ g = omega arith in ap (λ n. first_after n 0 test) all

pub left-more : (test : ℕ → Bool) (g j : ℕ) → j < g → test (j + 1) ≡ false → first_after (g - j) j test ≡ first_after (g - (j + 1)) (j + 1) test
left-more test g j low miss =
    let one : g - j ≡ suc (g - (j + 1)) = omega arith in
    let next : suc j ≡ j + 1 = omega arith in
    ap (λ n. first_after n j test) one ∙ step-miss test (g - (j + 1)) j (rw next miss) ∙ ap (λ k. first_after (g - (j + 1)) k test) next

pub left_here : (test : ℕ → Bool) (g j : ℕ) → j < g → test (j + 1) ≡ true → first_after (g - j) j test ≡ j + 1
left_here test g j low hit =
    let one : g - j ≡ suc (g - (j + 1)) = omega arith in
    let next : suc j ≡ j + 1 = omega arith in
    ap (λ n. first_after n j test) one ∙ step-hit test (g - (j + 1)) j (rw next hit) ∙ next

pub left_end : (test : ℕ → Bool) (g j : ℕ) → g ≤ j → first_after (g - j) j test ≡ 0
left_end test g j high = let none : g - j ≡ 0 = omega arith in ap (λ n. first_after n j test) none

-- A loop over j keeps that the first j goods fail.
pub fails-start : (test : ℕ → Bool) → Fails 0 0 test
fails-start test i low high = absurd (omega arith)

pub fails_more : (test : ℕ → Bool) (j : ℕ) → Fails j 0 test → test (j + 1) ≡ false → Fails (j + 1) 0 test
fails_more test j fails miss i low high =
    ⊎_elim (λ here. rw here miss) (λ earlier. fails i low (omega (arith, earlier))) (cases_eq i (j + 1))

pub first_after-skip : (test : ℕ → Bool) (g j : ℕ) → j ≤ g → Fails j 0 test → first_after g 0 test ≡ first_after (g - j) j test
first_after-skip test g zero low fails = sym (left-start test g)
first_after-skip test g (suc j) low fails =
    let next : j + 1 ≡ suc j = omega arith in
    let miss : test (j + 1) ≡ false = fails (j + 1) (omega arith) (omega arith) in
    first_after-skip test g j (omega arith) (λ i above upto. fails i above (omega arith))
    ∙ left-more test g j (omega arith) miss
    ∙ ap (λ k. first_after (g - k) k test) next

pub first_after-here : (test : ℕ → Bool) (g j : ℕ) → j < g → Fails j 0 test → test (j + 1) ≡ true → first_after g 0 test ≡ j + 1
first_after-here test g j low fails hit = first_after-skip test g j (omega arith) fails ∙ left_here test g j low hit

pub first_after-none : (test : ℕ → Bool) (g : ℕ) → Fails g 0 test → first_after g 0 test ≡ 0
first_after-none test g fails = first_after-skip test g g (omega arith) fails ∙ left_end test g g (omega arith)
