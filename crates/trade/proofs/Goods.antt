-- Sums over goods. Assumes nothing.
--   sum_over n j f    the sum of f over the n goods after j
use Rattle.std.proofs.Common.{◌≡◌, ℕ, zero, suc, ◌+◌, ◌*◌, ◌<◌, ◌≤◌, List, [], ◌∷◌, length, sum, sym, refl, ap, ◌∙◌, ⊎_elim, add-mul, arith}
use Rattle.std.proofs.lemmas.List.Sums.{sum_by-cons}
use Rattle.std.proofs.lemmas.Bool.{cases_eq, cases_lt}
use Rattle.mesh.specs.Prices.{price}
use Rattle.trade.specs.Trade.{dot}

abbrev pub sum_over : ℕ → ℕ → (ℕ → ℕ) → ℕ
sum_over zero j f = 0
sum_over (suc n) j f = f (suc j) + sum_over n (suc j) f

-- Two functions that agree on every good have the same sum.
pub sum_over-same : (f h : ℕ → ℕ) → ((i : ℕ) → f (suc i) ≡ h (suc i)) → (n j : ℕ) → sum_over n j f ≡ sum_over n j h
sum_over-same f h e zero j = refl
sum_over-same f h e (suc n) j = let one = e j in let rest = sum_over-same f h e n (suc j) in omega arith

-- The sum may be taken one good further on.
pub sum_over-shift : (f h : ℕ → ℕ) → ((i : ℕ) → f (suc (suc i)) ≡ h (suc i)) → (n j : ℕ) → sum_over n (suc j) f ≡ sum_over n j h
sum_over-shift f h e zero j = refl
sum_over-shift f h e (suc n) j = let one = e j in let rest = sum_over-shift f h e n (suc j) in omega arith

-- Sums of noughts, of sums and of multiples.
pub sum_over-none : (n j : ℕ) → sum_over n j (λ i. 0) ≡ 0
sum_over-none zero j = refl
sum_over-none (suc n) j = let rest = sum_over-none n (suc j) in omega arith

pub sum_over-add : (f h : ℕ → ℕ) (n j : ℕ) → sum_over n j (λ i. f i + h i) ≡ sum_over n j f + sum_over n j h
sum_over-add f h zero j = refl
sum_over-add f h (suc n) j = let rest = sum_over-add f h n (suc j) in omega arith

pub sum_over-times : (f : ℕ → ℕ) (c n j : ℕ) → sum_over n j (λ i. f i * c) ≡ sum_over n j f * c
sum_over-times f c zero j = omega arith
sum_over-times f c (suc n) j = let rest = sum_over-times f c n (suc j) in omega (arith, add-mul (f (suc j)) (sum_over n (suc j) f) c)

-- If f is at most h at each of the goods, so are the sums.
pub sum_over-le : (f h : ℕ → ℕ) (n j : ℕ) → ((i : ℕ) → j < i → i ≤ j + n → f i ≤ h i) → sum_over n j f ≤ sum_over n j h
sum_over-le f h zero j le = omega arith
sum_over-le f h (suc n) j le =
    let one = le (suc j) (omega arith) (omega arith) in
    let rest = sum_over-le f h n (suc j) (λ i low high. le i (omega arith) (omega arith)) in
    omega arith

-- If f is less at one of them, so is its sum.
pub sum_over-lt : (f h : ℕ → ℕ) (n j k : ℕ) → j < k → k ≤ j + n → f k < h k → ((i : ℕ) → j < i → i ≤ j + n → f i ≤ h i) → sum_over n j f < sum_over n j h
sum_over-lt f h zero j k low high less le = absurd (omega arith)
sum_over-lt f h (suc n) j k low high less le =
    let first = le (suc j) (omega arith) (omega arith) in
    let on : (i : ℕ) → suc j < i → i ≤ suc j + n → f i ≤ h i = λ i low high. le i (omega arith) (omega arith) in
    ⊎_elim
    (λ here. let one : f (suc j) < h (suc j) = rw here at less in let rest = sum_over-le f h n (suc j) on in omega arith)
    (λ later. let rest = sum_over-lt f h n (suc j) k (omega (arith, later)) (omega arith) less on in omega arith)
    (cases_eq k (suc j))

-- A sum above 0 has a good at which f is above 0.
pub sum_over-some : (f : ℕ → ℕ) (n j : ℕ) → 0 < sum_over n j f → (k : ℕ) × (j < k) × (k ≤ j + n) × (0 < f k)
sum_over-some f zero j h = absurd (omega arith)
sum_over-some f (suc n) j h =
    ⊎_elim
    (λ here. (suc j, omega arith, omega arith, here))
    (λ none. let rest = sum_over-some f n (suc j) (omega arith) in (rest.0, omega arith, omega arith, rest.3))
    (cases_lt 0 (f (suc j)))

-- The prices add up to the sum of their list.
pub sum_over-price : (xs : List ℕ) → sum_over (length xs) 0 (price xs) ≡ sum xs
sum_over-price [] = refl
sum_over-price (x ∷ xs) =
    let on = sum_over-shift (price (x ∷ xs)) (price xs) (λ i. refl) (length xs) 0 in
    let rest = sum_over-price xs in
    ap (λ n. x + n) (on ∙ rest) ∙ sym (sum_by-cons (λ y. y) x xs)

-- The products of the prices add up to the product of their lists.
pub sum_over-dot : (xs ys : List ℕ) → length ys ≡ length xs → sum_over (length xs) 0 (λ i. price xs i * price ys i) ≡ dot xs ys
sum_over-dot [] ys e = refl
sum_over-dot (x ∷ xs) [] e = absurd (omega arith)
sum_over-dot (x ∷ xs) (y ∷ ys) e =
    let on = sum_over-shift (λ i. price (x ∷ xs) i * price (y ∷ ys) i) (λ i. price xs i * price ys i) (λ i. refl) (length xs) 0 in
    let rest = sum_over-dot xs ys (omega arith) in
    ap (λ n. x * y + n) (on ∙ rest)
