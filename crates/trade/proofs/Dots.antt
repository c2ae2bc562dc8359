-- Sums of products, entry by entry. Assumes nothing.
--   dot-more     a loop's step
--   dot-bound, dot-bound-more    how large the sum can be, at the end and on the way
use Rattle.std.proofs.Common.{◌≡◌, ℕ, zero, suc, ◌+◌, ◌*◌, ◌<◌, ◌≤◌, List, [], ◌∷◌, length, get_or, take, sum, sym, ap, ◌∙◌, subst, mul-le-mul_right, add-mul, mul-le-mul_left, add-one, arith}
use Rattle.std.specs.List.{AllByRecursion}
use Rattle.std.proofs.lemmas.List.Sums.{sum_by-cons, sum_by-take-le}
use Rattle.trade.specs.Trade.{dot}

-- One entry more.
at_suc : (xs ys : List ℕ) (i : ℕ) → i < length xs → i < length ys → dot (take (suc i) xs) ys ≡ dot (take i xs) ys + get_or xs i 0 * get_or ys i 0
at_suc [] ys i low high = absurd (omega arith)
at_suc (x ∷ xs) [] i low high = absurd (omega arith)
at_suc (x ∷ xs) (y ∷ ys) zero low high = omega arith
at_suc (x ∷ xs) (y ∷ ys) (suc i) low high = let rest = at_suc xs ys i (omega arith) (omega arith) in omega arith

pub dot-more : (xs ys : List ℕ) (i : ℕ) → i < length xs → i < length ys → dot (take (i + 1) xs) ys ≡ dot (take i xs) ys + get_or xs i 0 * get_or ys i 0
dot-more xs ys i low high = rw add-one (at_suc xs ys i low high)

-- With entries of at most m on one side, the sum is at most m times the other.
pub dot-bound : (m : ℕ) (xs ys : List ℕ) → AllByRecursion (λ y. y ≤ m) ys → dot xs ys ≤ sum xs * m
dot-bound m [] ys all = omega arith
dot-bound m (x ∷ xs) [] all = omega arith
dot-bound m (x ∷ xs) (y ∷ ys) all =
    let one : x * y ≤ x * m = mul-le-mul_left x all.0 in
    let rest = dot-bound m xs ys all.1 in
    let split : sum (x ∷ xs) * m ≡ x * m + sum xs * m = ap (λ n. n * m) (sum_by-cons (λ z. z) x xs) ∙ add-mul x (sum xs) m in
    subst (λ n. x * y + dot xs ys ≤ n) (sym split) (omega arith)

-- So is the sum on the way, with the next product added.
pub dot-bound-more : (m : ℕ) (xs ys : List ℕ) (i : ℕ) → i < length xs → i < length ys → AllByRecursion (λ y. y ≤ m) ys → dot (take i xs) ys + get_or xs i 0 * get_or ys i 0 ≤ sum xs * m
dot-bound-more m xs ys i low high all =
    let step = dot-more xs ys i low high in
    let bound = dot-bound m (take (i + 1) xs) ys all in
    let front : sum (take (i + 1) xs) * m ≤ sum xs * m = mul-le-mul_right m (sum_by-take-le (λ z. z) xs (i + 1)) in
    omega arith
