-- Words on lists.
--   In          an element stands in a list
--   Single      nothing stands twice in a list
--   Different   how many different elements a list has
--   listed      the values of a function at 0, 1, 2, ..
use Rattle.std.specs.Prelude.{◌≡◌, ℕ, zero, suc, ◌⊎◌, List, [], ◌∷◌, length}

abbrev pub In : {A : Type 0} → A → List A → Type 0
In x [] = ⊥
In x (y ∷ ys) = (x ≡ y) ⊎ In x ys

abbrev pub Single : {A : Type 0} → List A → Type 0
Single [] = Unit {0}
Single (x ∷ xs) = (In x xs → ⊥) × Single xs

-- The list has n different elements: some list that has each of them just once has n elements.
pub record Different {A : Type 0} (xs : List A) (n : ℕ) : Type 0 where
  pub each : List A
  pub single : Single each
  pub all : (x : A) → In x xs → In x each
  pub only : (x : A) → In x each → In x xs
  pub size : length each ≡ n

-- f 0, f 1, up to f (n - 1).
abbrev pub listed : {A : Type 0} → ℕ → (ℕ → A) → List A
listed zero f = []
listed (suc n) f = f 0 ∷ listed n (λ k. f (suc k))
