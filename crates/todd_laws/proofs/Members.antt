-- K1 and J1 are members of the family, with their start points.
use Rattle.std.specs.Prelude.{◌≡◌, ℕ, zero, suc, ◌+◌, ◌-◌, ◌%◌, ◌<◌, Bool, true, false, cond, ◌&&◌, T, List, [], ◌∷◌, map, length, take, sum, ◌==◌, nat_eq, slice_index, slice_index_or, refl}
use Rattle.std.proofs.Common.{sym, ◌∙◌, ap, arith}
use Rattle.std.specs.List.{AllByRecursion}
use Rattle.std.proofs.lemmas.Bool.{and_parts, and_from, eqb-true, eq-eqb}
use Rattle.std.proofs.lemmas.List.{get_or-take, length-take}
use Rattle.std.proofs.lemmas.List.Recursion.{and_at, and_from_places}
use Rattle.std.proofs.lemmas.Float.{T_from_true}
use Rattle.std.proofs.ByRecursion.{All-take, All-get_or}
use Rattle.mesh.specs.Prices.{to_levels}
use Rattle.mesh.proofs.Levels.{first-levels}
use Rattle.todd_laws.specs.Steps.{level, is_point, start_shape}
use Rattle.todd_laws.specs.K1.{k1}
use Rattle.todd_laws.specs.J1.{j1, all_even, upward}
use Rattle.todd_laws.proofs.Family as fam
use Rattle.todd_laws.proofs.Bridge.{first-is, family, least, up_k, up_j, k1-listed, listed-k1, k1-corner, listed-k1-way, j1-listed, listed-j1}
use Rattle.todd_laws.proofs.StartCell.{level_of, next_level}
use Rattle.todd_laws.proofs.LawsLemmas.{Member}
use Rattle.todd_laws.proofs.StartLaws.{Begins}

map_same : (f h : ℕ → ℕ) → ((x : ℕ) → f x ≡ h x) → (l : List ℕ) → map f l ≡ map h l
map_same f h e [] = refl
map_same f h e (x ∷ xs) = ap (λ y. y ∷ map f xs) (e x) ∙ ap (λ l. h x ∷ l) (map_same f h e xs)

pub k1-member : (g D : ℕ) → Member up_k (k1 g D)
k1-member g D = record {
  listed = k1-listed g D;
  cell = listed-k1 g D;
  corner-is = λ s l k. k1-corner s (listed-k1-way g D s l) k;
  address_is = λ s l. map_same (level s.base) (λ j. (family s).lo (j - 1)) (λ j. ap (λ d. least d (slice_index s.base (j - 1))) (sym (listed-k1-way g D s l (j - 1)))) s.order;
}

smaller-is : (d : Bool) (n : ℕ) → cond d n (n - 1) ≡ least d n
smaller-is true n = refl
smaller-is false n = refl

pub j1-member : (g D : ℕ) → Member up_j (j1 g D)
j1-member g D = record {
  listed = j1-listed g D;
  cell = listed-j1 g D;
  corner-is = λ s l k. refl;
  address_is = λ s l. map_same _ (λ j. (family s).lo (j - 1)) (λ j. smaller-is (upward s j) (level s.base j)) s.order;
}

t_true : (b : Bool) → T b → b ≡ true
t_true true t = refl
t_true false t = absurd t

point-is : (g D : ℕ) (c : List ℕ) → is_point g D c ≡ true → (length c ≡ g) × (sum c ≡ D)
point-is g D c e = let p = and_parts (length c == g) (sum c == D) e in (eqb-true (length c) g p.0, eqb-true (sum c) D p.1)

is-point : (g D : ℕ) (c : List ℕ) → length c ≡ g → sum c ≡ D → is_point g D c ≡ true
is-point g D c p q = and_from (length c == g) (sum c == D) (eq-eqb (length c) g p) (eq-eqb (sum c) D q)

pub k1-begins : (g D : ℕ) → Begins up_k true (k1 g D)
k1-begins g D = record {
  points = λ c t. point-is g D c (t_true (is_point g D c) t);
  start_is = λ c. refl;
  home-is = λ c. refl;
  ways = λ c t j h. refl;
}

pub k1-even : (g D : ℕ) (c : List ℕ) → length c ≡ g → sum c ≡ D → T (is_point g D c)
k1-even g D c p q = T_from_true (is_point g D c) (is-point g D c p q)

-- J1: where all prices but the last are even, all levels are odd or even with D.
even-at : (c : List ℕ) → all_even c ≡ true → (j : ℕ) → j < length c → slice_index c j % 2 ≡ 0
even-at c e j h = eqb-true (slice_index c j % 2) 0 (and_at all_even (λ x. x % 2 == 0) refl (λ _ _. refl) c j 0 h e)

all-even : (c : List ℕ) → AllByRecursion (λ x. x % 2 ≡ 0) c → all_even c ≡ true
all-even c a =
    and_from_places all_even (λ x. x % 2 == 0) refl (λ _ _. refl) c 0 (λ i h. eq-eqb (slice_index c i % 2) 0 (All-get_or (λ x. x % 2 ≡ 0) c i 0 h a))

parity : (g D : ℕ) (c : List ℕ) → length c ≡ g → sum c ≡ D → all_even (take (g - 1) c) ≡ true → (j : ℕ) → j < g → level_of c j % 2 ≡ D % 2
parity g D c p q e zero h = ap (λ n. n % 2) (sym (first-is (to_levels c)) ∙ first-levels c ∙ q)
parity g D c p q e (suc j) h =
    let l : j < g - 1 = omega arith in
    let even : slice_index_or c j 0 % 2 ≡ 0 = ap (λ n. n % 2) (sym (get_or-take (g - 1) c j 0 l)) ∙ even-at (take (g - 1) c) e j (omega (arith, length-take (g - 1) c)) in
    let before : level_of c j % 2 ≡ D % 2 = parity g D c p q e j (omega arith) in
    let next : level_of c j ≡ slice_index c j + level_of c (suc j) = next_level c j (omega arith) in
    omega arith

j1-start : (g : ℕ) (b : Bool) (c : List ℕ) → cond b (start_shape g true c) (start_shape g false c) ≡ start_shape g b c
j1-start g true c = refl
j1-start g false c = refl

j1-home : (g : ℕ) (b : Bool) → cond b 0 g ≡ fam.place g b
j1-home g true = refl
j1-home g false = refl

pub j1-begins : (g D : ℕ) → Begins up_j (D % 2 == 1) (j1 g D)
j1-begins g D = record {
  points = λ c t. point-is g D c (parts c t).0;
  start_is = j1-start g (D % 2 == 1);
  home-is = λ c. j1-home g (D % 2 == 1);
  ways = λ c t j h. let p = point-is g D c (parts c t).0 in ap (λ n. nat_eq n 1) (parity g D c p.0 p.1 (parts c t).1 j h);
}
  where
    parts : (c : List ℕ) → T (is_point g D c && all_even (take (g - 1) c)) → (is_point g D c ≡ true) × (all_even (take (g - 1) c) ≡ true)
    parts c t = and_parts (is_point g D c) (all_even (take (g - 1) c)) (t_true (is_point g D c && all_even (take (g - 1) c)) t)

pub j1-even : (g D : ℕ) (c : List ℕ) → length c ≡ g → sum c ≡ D → AllByRecursion (λ x. x % 2 ≡ 0) c → T (is_point g D c && all_even (take (g - 1) c))
j1-even g D c p q a = T_from_true (is_point g D c && all_even (take (g - 1) c))
    (and_from (is_point g D c) (all_even (take (g - 1) c)) (is-point g D c p q) (all-even (take (g - 1) c) (All-take (λ x. x % 2 ≡ 0) (g - 1) c a)))
