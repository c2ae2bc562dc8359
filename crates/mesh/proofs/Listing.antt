-- Lists of one length and sum in their order: which is the first, which the last, and which comes right after another.
use Rattle.std.proofs.Common.{◌≡◌, ℕ, zero, suc, ◌+◌, ◌-◌, ◌<◌, ◌⊎◌, List, [], ◌∷◌, length, get_or, set, sum, sym, refl, ap, ◌∙◌, inl, inr, arith}
use Rattle.std.proofs.lemmas.List.{nil_from_length, length-set, get_or-set_same}
use Rattle.std.proofs.lemmas.List.Sums.{sum_by-cons, sum_by-set, get_or-le-sum_by}
use Rattle.std.proofs.lemmas.Bool.{cases_lt}
use Rattle.mesh.specs.Listing.{Later, IsFirst, IsLast, RightAfter}
use Rattle.mesh.specs.Step.{NonePriced, LastPriced, stepped}

pub sum-cons : (x : ℕ) (xs : List ℕ) → sum (x ∷ xs) ≡ x + sum xs
sum-cons x xs = sum_by-cons (λ n. n) x xs

-- Two lists of one length that add up to nothing are the same.
nothing-same : (xs zs : List ℕ) → length zs ≡ length xs → sum xs ≡ 0 → sum zs ≡ 0 → zs ≡ xs
nothing-same [] [] size e f = refl
nothing-same [] (z ∷ zs) size e f = absurd (omega arith)
nothing-same (x ∷ xs) [] size e f = absurd (omega arith)
nothing-same (x ∷ xs) (z ∷ zs) size e f =
    let a = sum-cons x xs in
    let b = sum-cons z zs in
    let same : z ≡ x = omega arith in
    let rest : zs ≡ xs = nothing-same xs zs (omega arith) (omega arith) (omega arith) in
    cc

-- With all of the sum on the first entry, a list is the first.
pub first-from : (g D : ℕ) (x : List ℕ) → length x ≡ g → sum x ≡ D → get_or x 0 0 ≡ D → IsFirst g D x
first-from g D [] size e top [] size-z e-z = inl refl
first-from g D [] size e top (z ∷ zs) size-z e-z = absurd (omega arith)
first-from g D (x ∷ xs) size e top [] size-z e-z = absurd (omega arith)
first-from g D (x ∷ xs) size e top (z ∷ zs) size-z e-z =
    let a = sum-cons x xs in
    let b = sum-cons z zs in
    elim (cases_lt z x) [
      | inl less ↦ inr (inl less)
      | inr not-less ↦
          let same : z ≡ x = omega arith in
          let rest : zs ≡ xs = nothing-same xs zs (omega arith) (omega arith) (omega arith) in
          inl cc
    ]

-- With nothing before its last entry, it is the last.
pub last-from : (g D : ℕ) (x : List ℕ) → length x ≡ g → sum x ≡ D → NonePriced x (g - 1) → IsLast g D x
last-from g D [] size e none z size-z e-z later = later
last-from g D (x ∷ xs) size e none [] size-z e-z later = later
last-from g D (x ∷ xs) size e none (z ∷ zs) size-z e-z (inl less) =
    elim (cases_lt 1 g) [
      | inl more ↦ omega (arith, none 0 (omega arith))
      | inr one ↦
          let a : xs ≡ [] = nil_from_length xs (omega arith) in
          let b : zs ≡ [] = nil_from_length zs (omega arith) in
          omega (arith, sum-cons x xs, sum-cons z zs, ap sum a, ap sum b)
    ]
last-from g D (x ∷ xs) size e none (z ∷ zs) size-z e-z (inr (same, later)) =
    last-from (length xs) (sum xs) xs refl refl (λ k h. none (suc k) (omega arith)) zs (omega arith) (omega (arith, sum-cons x xs, sum-cons z zs)) later

-- What stands right after another stands right after it behind a common first entry too.
after_front : (a g D : ℕ) (x y : List ℕ) → RightAfter g D x y → RightAfter (suc g) (a + D) (a ∷ x) (a ∷ y)
after_front a g D x y r = record { later = inr (refl, r.later); next = go }
  where
    go : (z : List ℕ) → length z ≡ suc g → sum z ≡ a + D → Later (a ∷ x) z → (z ≡ a ∷ y) ⊎ Later (a ∷ y) z
    go [] size e later = absurd (omega arith)
    go (z ∷ zs) size e (inl less) = inr (inl less)
    go (z ∷ zs) size e (inr (same, later)) =
        elim (r.next zs (omega arith) (omega (arith, sum-cons z zs)) later)
        [ inl here ↦ inl cc | inr after ↦ inr (inr (same, after)) ]

-- After the last list with a first entry a comes the first list with one less there.
after_last : (a g D : ℕ) (x y : List ℕ) → 0 < a → IsLast g D x → IsFirst g (D + 1) y → RightAfter (suc g) (a + D) (a ∷ x) ((a - 1) ∷ y)
after_last a g D x y some last first = record { later = inl (omega arith); next = go }
  where
    go : (z : List ℕ) → length z ≡ suc g → sum z ≡ a + D → Later (a ∷ x) z → (z ≡ (a - 1) ∷ y) ⊎ Later ((a - 1) ∷ y) z
    go [] size e later = absurd (omega arith)
    go (z ∷ zs) size e (inr (same, later)) = absurd (last zs (omega arith) (omega (arith, sum-cons z zs)) later)
    go (z ∷ zs) size e (inl less) =
        elim (cases_lt z (a - 1)) [
          | inl lower ↦ inr (inl lower)
          | inr not_lower ↦
              let same : z ≡ a - 1 = omega arith in
              elim (first zs (omega arith) (omega (arith, sum-cons z zs)))
              [ inl here ↦ inl cc | inr after ↦ inr (inr (same, after)) ]
        ]

-- With nothing before its last entry, a list adds up to that entry.
sum-at-end : (x : List ℕ) (n : ℕ) → length x ≡ suc n → NonePriced x n → sum x ≡ get_or x n 0
sum-at-end [] n size none = absurd (omega arith)
sum-at-end (x ∷ xs) zero size none = omega (arith, sum-cons x xs, ap sum (nil_from_length xs (omega arith)))
sum-at-end (x ∷ xs) (suc n) size none =
    omega (arith, sum-cons x xs, none 0 (omega arith), sum-at-end xs n (omega arith) (λ k h. none (suc k) (omega arith)))

-- The entry at place n goes to the first place, with one more.
abbrev back : List ℕ → ℕ → List ℕ
back x n = set (set x n 0) 0 (get_or x n 0 + 1)

-- From the last list of a sum this makes the first of one more.
module _ (x : List ℕ) (n : ℕ) (size : length x ≡ suc n) (none : NonePriced x n) where
  end-last : IsLast (suc n) (sum x) x
  end-last = last-from (suc n) (sum x) x size refl (λ k h. none k (omega arith))

  back_sum : sum (back x n) ≡ sum x + 1
  back_sum =
      let clear = set x n 0 in
      let inside : 0 < length clear = simp length-set (omega arith) in
      let end = sum-at-end x n size none in
      let nothing = sum_by-set (λ k. k) x n 0 0 (omega arith) in
      let small = get_or-le-sum_by (λ k. k) clear 0 0 inside in
      let all = sum_by-set (λ k. k) clear 0 (get_or x n 0 + 1) 0 inside in
      omega arith

  back-first : IsFirst (suc n) (sum x + 1) (back x n)
  back-first =
      let inside : 0 < length (set x n 0) = simp length-set (omega arith) in
      let top = get_or-set_same (set x n 0) 0 (get_or x n 0 + 1) 0 inside in
      first-from (suc n) (sum x + 1) (back x n) (simp length-set size) back_sum (omega (arith, sum-at-end x n size none))

-- The same of the list without its first entry.
rest-none : (x : ℕ) (xs : List ℕ) (n : ℕ) → LastPriced (x ∷ xs) (suc n) 0 → NonePriced xs n
rest-none x xs n h k below = h.2 (suc k) (omega arith) (omega arith)

rest-priced : (x : ℕ) (xs : List ℕ) (n i : ℕ) → LastPriced (x ∷ xs) (suc n) (suc i) → LastPriced xs n i
rest-priced x xs n i h = (omega (arith, h.0), h.1, λ k above below. h.2 (suc k) (omega arith) (omega arith))

-- A step keeps the sum.
pub step_sum : (x : List ℕ) (n i : ℕ) → length x ≡ suc n → LastPriced x n i → sum (stepped x n i) ≡ sum x
step_sum [] n i size h = absurd (omega arith)
step_sum (x ∷ xs) zero i size h = absurd (omega (arith, h.0))
step_sum (x ∷ xs) (suc n) zero size h =
    let more = back_sum xs n (omega arith) (rest-none x xs n h) in
    omega (arith, h.1, sum-cons x xs, sum-cons (x - 1) (back xs n))
step_sum (x ∷ xs) (suc n) (suc i) size h =
    let same = step_sum xs n i (omega arith) (rest-priced x xs n i h) in
    omega (arith, sum-cons x xs, sum-cons x (stepped xs n i))

-- It gives what comes right after.
step_after : (x : List ℕ) (n i : ℕ) → length x ≡ suc n → LastPriced x n i → RightAfter (suc n) (sum x) x (stepped x n i)
step_after [] n i size h = absurd (omega arith)
step_after (x ∷ xs) zero i size h = absurd (omega (arith, h.0))
step_after (x ∷ xs) (suc n) zero size h =
    let none = rest-none x xs n h in
    rw (sum-cons x xs)
    (after_last x (suc n) (sum xs) xs (back xs n) h.1 (end-last xs n (omega arith) none) (back-first xs n (omega arith) none))
step_after (x ∷ xs) (suc n) (suc i) size h =
    rw (sum-cons x xs)
    (after_front x (suc n) (sum xs) xs (stepped xs n i) (step_after xs n i (omega arith) (rest-priced x xs n i h)))

pub after-from : (g D : ℕ) (x : List ℕ) (i : ℕ) → length x ≡ g → sum x ≡ D → LastPriced x (g - 1) i → RightAfter g D x (stepped x (g - 1) i)
after-from g D x i size e h =
    let goods : suc (g - 1) ≡ g = omega (arith, h.0) in
    let after = step_after x (g - 1) i (size ∙ sym goods) h in
    rw (goods, e) at after
