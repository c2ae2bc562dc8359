-- Prices and levels are two ways to say the same.
use Rattle.std.proofs.Common.{◌≡◌, ℕ, zero, suc, ◌+◌, ◌-◌, ◌<◌, ◌≤◌, leb, Bool, true, false, List, [], ◌∷◌, length, get_or, drop, sum, sym, refl, ap, ◌∙◌, arith}
use Rattle.std.proofs.lemmas.List.Sums.{sum_by-cons}
use Rattle.std.proofs.lemmas.Bool.{and_parts, and_from, and_left, and_right, leb-true, leb-false, le-leb, lt-leb}
use Rattle.std.specs.List.{IsAllAdjacentAnswer}
use Rattle.mesh.specs.Prices.{first, Falls, falls, to_prices, to_levels}

pub length-prices : (u : List ℕ) → length (to_prices u) ≡ length u
length-prices [] = refl
length-prices (u ∷ us) = ap suc (length-prices us)

pub length-levels : (x : List ℕ) → length (to_levels x) ≡ length x
length-levels [] = refl
length-levels (x ∷ xs) = ap suc (length-levels xs)

-- The first level is the sum of all prices.
pub first-levels : (x : List ℕ) → first (to_levels x) ≡ sum x
first-levels [] = refl
first-levels (x ∷ xs) = ap (λ s. x + s) (first-levels xs) ∙ sym (sum_by-cons (λ n. n) x xs)

pub falls-levels : (x : List ℕ) → Falls (to_levels x)
falls-levels [] = tt
falls-levels (x ∷ xs) = (omega arith, falls-levels xs)

pub prices-levels : (x : List ℕ) → to_prices (to_levels x) ≡ x
prices-levels [] = refl
prices-levels (x ∷ xs) =
    let e : (x + first (to_levels xs)) - first (to_levels xs) ≡ x = omega arith in
    ap (λ n. n ∷ to_prices (to_levels xs)) e ∙ ap (λ l. x ∷ l) (prices-levels xs)

pub levels-prices : (u : List ℕ) → Falls u → to_levels (to_prices u) ≡ u
levels-prices [] f = refl
levels-prices (u ∷ us) f =
    let rest : to_levels (to_prices us) ≡ us = levels-prices us f.1 in
    let e : (u - first us) + first (to_levels (to_prices us)) ≡ u = rw rest (omega (arith, f.0)) in
    ap (λ n. n ∷ to_levels (to_prices us)) e ∙ ap (λ l. u ∷ l) rest

pub sum-prices : (u : List ℕ) → Falls u → sum (to_prices u) ≡ first u
sum-prices u f = sym (first-levels (to_prices u)) ∙ ap first (levels-prices u f)

-- Each level is the sum of the prices from there on.
pub level-is : (x : List ℕ) (j : ℕ) → j < length x → get_or (to_levels x) j 0 ≡ sum (drop j x)
level-is [] j h = absurd (omega arith)
level-is (x ∷ xs) zero h = first-levels (x ∷ xs)
level-is (x ∷ xs) (suc j) h = level-is xs j (omega arith)

-- Each price is a level less the next.
pub price-is : (u : List ℕ) (j : ℕ) → get_or (to_prices u) j 0 ≡ get_or u j 0 - get_or u (j + 1) 0
price-is [] j = omega arith
price-is (u ∷ us) zero = at us
  where
    at : (us : List ℕ) → u - first us ≡ get_or (u ∷ us) zero 0 - get_or (u ∷ us) (zero + 1) 0
    at [] = refl
    at (v ∷ vs) = refl
price-is (u ∷ us) (suc j) = let e : suc (j + 1) ≡ suc j + 1 = omega arith in price-is us j ∙ ap (λ n. get_or us j 0 - get_or (u ∷ us) n 0) e

-- The test and the fact.
pub falls-true : (u : List ℕ) → falls u ≡ true → Falls u
falls-true [] e = tt
falls-true (u ∷ us) e = let p = and_parts _ _ e in (leb-true _ _ p.0, falls-true us p.1)

pub falls_at : (u : List ℕ) (j : ℕ) → Falls u → get_or u (j + 1) 0 ≤ get_or u j 0
falls_at u j f = below u j f
  where
    top : (us : List ℕ) → get_or us 0 0 ≤ first us
    top [] = omega arith
    top (v ∷ vs) = omega arith

    below : (u : List ℕ) (j : ℕ) → Falls u → get_or u (j + 1) 0 ≤ get_or u j 0
    below [] j f = omega arith
    below (u ∷ us) zero f = omega (arith, top us, f.0)
    below (u ∷ us) (suc j) f =
        let e : suc j + 1 ≡ suc (j + 1) = omega arith in rw e (below us j f.1)

pub falls-from : (u : List ℕ) → ((i : ℕ) → i + 1 < length u → get_or u (i + 1) 0 ≤ get_or u i 0) → falls u ≡ true
falls-from [] h = refl
falls-from (u ∷ []) h = and_from _ _ (le-leb 0 u (omega arith)) refl
falls-from (u ∷ (v ∷ vs)) h =
    and_from _ _ (le-leb v u (h 0 (omega arith)))
    (falls-from (v ∷ vs) (λ i l. let e : suc i + 1 ≡ suc (i + 1) = omega arith in rw e at (h (suc i) (omega arith))))

pub falls-not : (u : List ℕ) (i : ℕ) → i + 1 < length u → get_or u i 0 < get_or u (i + 1) 0 → falls u ≡ false
falls-not [] i h lt = absurd (omega arith)
falls-not (u ∷ []) i h lt = absurd (omega arith)
falls-not (u ∷ (v ∷ vs)) zero h lt = and_left _ _ (lt-leb v u lt)
falls-not (u ∷ (v ∷ vs)) (suc i) h lt =
    let e : suc i + 1 ≡ suc (i + 1) = omega arith in
    and_right _ _ (falls-not (v ∷ vs) i (omega arith) (rw e at lt))

-- What comparing each level with the next answers.
pub falls-answer : (u : List ℕ) (r : Bool) → IsAllAdjacentAnswer (λ x y b. b ≡ leb y x) u r → r ≡ falls u
falls-answer u true all = sym (falls-from u (λ i h. leb-true _ _ (sym (all i 0 h))))
falls-answer u false (k, inside, rise) = sym (falls-not u k inside (leb-false _ _ (sym (rise 0))))
