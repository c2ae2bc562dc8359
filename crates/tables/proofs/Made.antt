-- Tables that `from_fn` and `map` make, where each call of the closure gives a known value and changes nothing.
--   made      each entry is the value at its place
--   mapped    each entry is the value at the entry of the other table
--   front     a table that has the entries of a list, place by place, begins with the list
use Rattle.std.proofs.Common.{◌≡◌, ℕ, zero, suc, ◌+◌, ◌<◌, ◌≤◌, List, length, get_or, take, sym, refl, ◌∙◌, ⊎_elim, arith}
use Rattle.std.specs.Array.{IsFromFnResult, IsFromFnResultFrom, IsMapOf, MapsFrom}
use Rattle.std.specs.Fn.{Mut, Called}
use Rattle.std.proofs.lemmas.List.{ext_get_or, get_or-take, length-take-le}
use Rattle.std.proofs.lemmas.Bool.{cases_lt}

module _ {F B : Type 0} (g : Mut F (ℕ × Unit {0}) B) (value : ℕ → B) (f : F) (n : ℕ)
    (call : (i : ℕ) (y : B) (q : F) → i < n → Called g f (i, tt) y q → (y ≡ value i) × (q ≡ f)) where
  pub made : (ys : List B) → IsFromFnResult g f ys n → (k : ℕ) (d : B) → k < n → get_or ys k d ≡ value k
  made ys e k d low = from 0 n f refl (omega arith) e.each k d (omega arith) (omega arith)
    where
      from : (i m : ℕ) (p : F) → p ≡ f → i + m ≤ n → IsFromFnResultFrom g p ys i m → (k : ℕ) (d : B) → i ≤ k → k < i + m → get_or ys k d ≡ value k
      from i zero p same room e k d low high = absurd (omega arith)
      from i (suc m) p same room (q, y, here, called, rest) k d low high =
          let c = call i y q (omega arith) (rw same at called) in
          ⊎_elim
          (λ later. from (i + 1) m q c.1 (omega arith) rest k d (omega arith) (omega arith))
          (λ now. let is : k ≡ i = omega arith in rw is (here.1 d ∙ c.0))
          (cases_lt i k)

module _ {F A B : Type 0} (g : Mut F (A × Unit {0}) B) (value : A → B) (f : F)
    (call : (x : A) (y : B) (q : F) → Called g f (x, tt) y q → (y ≡ value x) × (q ≡ f)) where
  pub mapped : (xs : List A) (ys : List B) (n : ℕ) → IsMapOf g f xs ys n → (k : ℕ) (a : A) (d : B) → k < n → get_or ys k d ≡ value (get_or xs k a)
  mapped xs ys n e k a d low = from 0 n f refl e.each k a d (omega arith) (omega arith)
    where
      from : (i n : ℕ) (p : F) → p ≡ f → MapsFrom g p xs ys i n → (k : ℕ) (a : A) (d : B) → i ≤ k → k < i + n → get_or ys k d ≡ value (get_or xs k a)
      from i zero p same e k a d low high = absurd (omega arith)
      from i (suc n) p same (q, x, y, there, here, called, rest) k a d low high =
          let c = call x y q (rw same at called) in
          ⊎_elim
          (λ later. from (i + 1) n q c.1 rest k a d (omega arith) (omega arith))
          (λ now. let is : k ≡ i = omega arith in rw (is, there.1 a) (here.1 d ∙ c.0))
          (cases_lt i k)

pub front : {A : Type 0} (xs table : List A) (n : ℕ) (d : A) → length xs ≡ n → n ≤ length table → ((k : ℕ) → k < n → get_or table k d ≡ get_or xs k d) → take n table ≡ xs
front xs table n d size room same =
    let long : length (take n table) ≡ n = length-take-le n table room in
    ext_get_or d (take n table) xs (long ∙ sym size) (λ k h. get_or-take n table k d (omega arith) ∙ same k (omega arith))
