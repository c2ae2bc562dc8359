-- How large an income can become.
use Rattle.std.proofs.Common.{◌≡◌, ℕ, ◌+◌, ◌-◌, ◌*◌, ◌<◌, ◌≤◌, List, length, get_or, take, drop, take_all, sum, ap, ◌∙◌, add-mul, mul-le-mul_left, arith}
use Rattle.std.proofs.lemmas.List.Sums.{sum_by_more}

-- With amounts of at most m, the worth so far is at most m times the prices so far.
pub worth-bound : (m : ℕ) (x : List ℕ) (k w o : ℕ) → k < length x → o ≤ m → w ≤ sum (take k x) * m → w + get_or x k 0 * o ≤ sum (take (k + 1) x) * m
worth-bound m x k w o low small so_far =
    let one : get_or x k 0 * o ≤ get_or x k 0 * m = mul-le-mul_left (get_or x k 0) small in
    let split : sum (take (k + 1) x) * m ≡ sum (take k x) * m + get_or x k 0 * m = ap (λ n. n * m) (sum_by_more (λ n. n) x k 0 low) ∙ add-mul (sum (take k x)) (get_or x k 0) m in
    omega arith

-- All of a list, from its first item on.
pub from_first : {A : Type 0} (xs : List A) (n : ℕ) → n ≡ 0 → take (length xs - n) (drop n xs) ≡ xs
from_first xs n none = rw none (take_all (length xs - 0) xs (omega arith))
