-- An address is a list of numbers up to D with a D among them. Addresses of g numbers are at most (D + 1)^g - D^g, since each has a number of its own
-- below that. Assumes nothing.
--   Digits, Address   a list of g numbers up to D; an address of g numbers
--   digits            the number that a list of digits up to D has in base D + 1
--   count, rank       how many addresses of g numbers there are, and the number of an address among them: first those whose first number is D, in
--                     the order of what follows, then those with each other first number
--   count-bound       count is the bound
--   addresses-bounded, apart-list     the theorem, over a function of the place; the same of a list of addresses
use Rattle.std.proofs.Common.{◌≡◌, ℕ, zero, suc, ◌+◌, ◌*◌, ◌^◌, ◌<◌, ◌≤◌, cond, eqb, List, [], ◌∷◌, length, get_or, sym, refl, ap, ◌∙◌, ⊎_elim, suc-mul, mul-add, arith}
use native.Mathlib.Nat.{pow-zero, pow-succ', eq-sub_of_add-eq}
use lib.Arith.{digits_lt}
use Rattle.std.specs.List.{AllByRecursion}
use Rattle.std.proofs.ByRecursion.{All-get_or}
use Rattle.std.proofs.lemmas.Nat.{same_from_place}
use Rattle.std.proofs.lemmas.Bool.{cases_lt, cond-true, cond-false, eq-eqb, ne_eqb}
use Rattle.cells.specs.Corners.{Apart}
use Rattle.cells.specs.Counting.{bound, AddressesBounded}
use Rattle.cells.proofs.Pigeons.{pigeonhole}

-- Lists with the same first number and the same rest.
same-cons : {x y : ℕ} {xs ys : List ℕ} → x ≡ y → xs ≡ ys → ◌≡◌ {A = List ℕ} (x ∷ xs) (y ∷ ys)
same-cons e h = cc

-- A list of g numbers up to D.
data Digits (D : ℕ) : ℕ → List ℕ → Type 0 where
  none : Digits D 0 []
  digit : {x g : ℕ} {xs : List ℕ} → x ≤ D → Digits D g xs → Digits D (suc g) (x ∷ xs)

-- One with a D among them: the D that comes first stands here, or later.
data Address (D : ℕ) : ℕ → List ℕ → Type 0 where
  here : {g : ℕ} {xs : List ℕ} → Digits D g xs → Address D (suc g) (D ∷ xs)
  later : {x g : ℕ} {xs : List ℕ} → x < D → Address D g xs → Address D (suc g) (x ∷ xs)

unfoldable digits : ℕ → ℕ → List ℕ → ℕ
digits D zero xs = 0
digits D (suc g) [] = 0
digits D (suc g) (x ∷ xs) = x * suc D ^ g + digits D g xs

-- g digits make a number below (D + 1)^g, and the number tells them.
digits-below : {D g : ℕ} {xs : List ℕ} → Digits D g xs → digits D g xs < suc D ^ g
unfolding digits
digits-below {D} none = omega (arith, pow-zero (suc D))
digits-below {D} (digit h n) = rw pow-succ' (digits_lt {m = suc D} (omega arith) (digits-below n))

digits-tell : {D g : ℕ} {xs ys : List ℕ} → Digits D g xs → Digits D g ys → digits D g xs ≡ digits D g ys → xs ≡ ys
unfolding digits
digits-tell none none e = refl
digits-tell {D} (digit {x} {g} {xs} h n) (digit {x = y} {xs = ys} k o) e =
    let t = same_from_place x (digits D g xs) y (digits D g ys) (suc D ^ g) (digits-below n) (digits-below o) e in
    same-cons t.0 (digits-tell n o t.1)

unfoldable count : ℕ → ℕ → ℕ
count D zero = 0
count D (suc g) = suc D ^ g + D * count D g

-- The lists with a D and those without are all lists.
count-all : (D g : ℕ) → count D g + D ^ g ≡ suc D ^ g
unfolding count
count-all D zero = omega (arith, pow-zero D, pow-zero (suc D))
count-all D (suc g) =
    let e : D * (count D g + D ^ g) ≡ D * suc D ^ g = ap (λ n. D * n) (count-all D g) in
    omega (arith, pow-succ' D g, pow-succ' (suc D) g, suc-mul D (suc D ^ g), mul-add D (count D g) (D ^ g))

count-bound : (D g : ℕ) → count D g ≡ bound g D
count-bound D g = eq-sub_of_add-eq (count D g) (D ^ g) (count-all D g)

unfoldable rank : ℕ → ℕ → List ℕ → ℕ
rank D zero xs = 0
rank D (suc g) [] = 0
rank D (suc g) (x ∷ xs) = cond (eqb x D) (digits D g xs) (suc D ^ g + (x * count D g + rank D g xs))

rank-here : (D g : ℕ) (xs : List ℕ) → rank D (suc g) (D ∷ xs) ≡ digits D g xs
unfolding rank
rank-here D g xs = cond-true (eqb D D) _ _ (eq-eqb D D refl)

rank-later : (D g x : ℕ) (xs : List ℕ) → x < D → rank D (suc g) (x ∷ xs) ≡ suc D ^ g + (x * count D g + rank D g xs)
unfolding rank
rank-later D g x xs h = cond-false (eqb x D) _ _ (ne_eqb x D (λ e. omega arith))

-- An address has a number below count, and the number tells the address.
rank_below : {D g : ℕ} {xs : List ℕ} → Address D g xs → rank D g xs < count D g
unfolding count
rank_below (here n) = rw rank-here (let h = digits-below n in omega arith)
rank_below {D} (later {x} {g} {xs} l a) =
    let e = rank-later D g x xs l in
    let h : x * count D g + rank D g xs < D * count D g = digits_lt l (rank_below a) in
    omega arith

rank-tells : {D g : ℕ} {xs ys : List ℕ} → Address D g xs → Address D g ys → rank D g xs ≡ rank D g ys → xs ≡ ys
rank-tells {D} (here {g} {xs} n) (here {xs = ys} o) e =
    same-cons refl (digits-tell n o (sym (rank-here D g xs) ∙ e ∙ rank-here D g ys))
rank-tells {D} (here {g} {xs} n) (later {x = y} {xs = ys} l b) e =
    let h = digits-below n in absurd (omega (arith, rank-here D g xs, rank-later D g y ys l))
rank-tells {D} (later {x} {g} {xs} l a) (here {xs = ys} o) e =
    let h = digits-below o in absurd (omega (arith, rank-later D g x xs l, rank-here D g ys))
rank-tells {D} (later {x} {g} {xs} l a) (later {x = y} {xs = ys} k b) e =
    let same : x * count D g + rank D g xs ≡ y * count D g + rank D g ys = omega (arith, rank-later D g x xs l, rank-later D g y ys k) in
    let t = same_from_place x (rank D g xs) y (rank D g ys) (count D g) (rank_below a) (rank_below b) same in
    same-cons t.0 (rank-tells a b t.1)

-- The lists of which the laws speak are addresses.
digits_from : (D g : ℕ) (xs : List ℕ) → length xs ≡ g → AllByRecursion (λ n. n ≤ D) xs → Digits D g xs
digits_from D zero [] size small = none
digits_from D zero (x ∷ xs) size small = absurd (omega arith)
digits_from D (suc g) [] size small = absurd (omega arith)
digits_from D (suc g) (x ∷ xs) size small = digit small.0 (digits_from D g xs (omega arith) small.1)

address-from : (D g : ℕ) (xs : List ℕ) → length xs ≡ g → AllByRecursion (λ n. n ≤ D) xs → (k : ℕ) × (k < g) × (get_or xs k 0 ≡ D) → Address D g xs
address-from D zero xs size small (k, low, full) = absurd (omega arith)
address-from D (suc g) [] size small (k, low, full) = absurd (omega arith)
address-from D (suc g) (x ∷ xs) size small (zero, low, full) = rw full (here (digits_from D g xs (omega arith) small.1))
address-from D (suc g) (x ∷ xs) size small (suc k, low, full) =
    let s = small.0 in
    ⊎_elim
    (λ less. later less (address-from D g xs (omega arith) small.1 (k, omega arith, full)))
    (λ top. let e : x ≡ D = omega (arith, top) in rw e (here (digits_from D g xs (omega arith) small.1)))
    (cases_lt x D)

pub addresses-bounded : AddressesBounded
addresses-bounded g D m f size small full differ =
    let address : (i : ℕ) → i < m → Address D g (f i) = λ i low. address-from D g (f i) (size i low) (small i low) (full i low) in
    rw (← count-bound D g)
    (pigeonhole m (count D g) (λ i. rank D g (f i)) (λ i low. rank_below (address i low))
    (λ i j low high same. differ i j low high (rank-tells (address i low) (address j high) same)))

-- The same of a list of addresses.
pub apart-list : (g D : ℕ) (xs : List (List ℕ)) → AllByRecursion (λ v. length v ≡ g) xs → AllByRecursion (λ v. AllByRecursion (λ n. n ≤ D) v) xs
    → AllByRecursion (λ v. (k : ℕ) × (k < g) × (get_or v k 0 ≡ D)) xs → Apart (length xs) (λ i. get_or xs i []) → length xs ≤ bound g D
apart-list g D xs size small full differ =
    addresses-bounded g D (length xs) (λ i. get_or xs i [])
    (λ i low. All-get_or (λ v. length v ≡ g) xs i [] low size)
    (λ i low. All-get_or (λ v. AllByRecursion (λ n. n ≤ D) v) xs i [] low small)
    (λ i low. All-get_or (λ v. (k : ℕ) × (k < g) × (get_or v k 0 ≡ D)) xs i [] low full)
    differ
