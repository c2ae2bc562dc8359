-- A cell starts for a point if and only if its family cell carries all labels.
use Rattle.std.specs.Prelude.{◌≡◌, ℕ, suc, ◌-◌, ◌<◌, ◌≤◌, Bool, List, length, slice_index}
use Rattle.std.proofs.Common.{sym, ◌∙◌, ap, arith}
use Rattle.mesh.specs.Prices.{first}
use Rattle.cells.specs.Corners.{outer_label, skip}
use Rattle.cells.specs.Triangulation.{Shape, Mesh, Starts, facet}
use Rattle.cells.proofs.Places.{skip-le, among, among_below, skip-among}
use Rattle.todd_laws.proofs.Family as fam
use Rattle.todd_laws.proofs.Family.{Carries}
use Rattle.todd_laws.proofs.Onto.{onto, chosen}
use Rattle.todd_laws.proofs.Bridge.{family, first-is}
use Rattle.todd_laws.proofs.Labels.{label-from, label-to}
use Rattle.todd_laws.proofs.LawsLemmas.{Member, corner-level, corners}

module _ {g D : ℕ} (up : ℕ → Bool) (M : Mesh Shape g D) (member : Member up M) (some : 1 ≤ g) (c : List ℕ) (goods : length c ≡ g) (a : Shape) (cell : M.is_cell a) where
  first-level : (k : ℕ) → k ≤ g → first (M.corner a k) ≡ fam.corner up (family a) k 0
  first-level k h = first-is (M.corner a k) ∙ corner-level up M member some a cell k 0 h some

  carried : (j k : ℕ) → k ≤ g → first (M.corner a k) ≡ suc D → outer_label c (M.corner a k) ≡ suc j
      → (m : ℕ) × (m ≤ g) × (fam.corner up (family a) m 0 ≡ suc D) × fam.Label g (λ i. slice_index c i) (fam.corner up (family a) m) j
  carried j k h outer e = (
    k,
    h,
    sym (first-level k h) ∙ outer,
    label-from g c (M.corner a k) (fam.corner up (family a) k) goods (corners up M member some a cell k h).size (λ m p. corner-level up M member some a cell k m h p) j e,
  )

  pub carries-from : (i : ℕ) → i ≤ g → Starts M c a i → Carries g D up (λ j. slice_index c j) (family a)
  carries-from i h s j l =
      let r = onto g (λ k. outer_label c (facet M a i k) - 1) (λ k q. omega (arith, s.low k q, s.high k q))
      (λ m n p q e. s.apart m n p q (omega (arith, s.low m p, s.low n q))) j l in
      carried j (skip i r.0) (skip-le g i r.0 r.1) (s.outer r.0 r.1) (omega (arith, r.2, s.low r.0 r.1))

  label_at : (i : ℕ) → i ≤ g → first (M.corner a i) ≡ D → Carries g D up (λ j. slice_index c j) (family a)
      → (j : ℕ) → j < g → (k : ℕ) × ((k < g) × (first (facet M a i k) ≡ suc D) × (outer_label c (facet M a i k) ≡ suc j))
  label_at i h real carries j l =
      let r = carries j l in
      let p = r.0 in
      let q = r.1 in
      let outer : first (M.corner a p) ≡ suc D = first-level p q ∙ r.2 in
      let ne : p ≡ i → ⊥ = λ e. omega (arith, ap (λ n. first (M.corner a n)) e) in
      let back = skip-among i p ne in (
        among i p,
        (
          among_below g i p h q ne,
          ap (λ n. first (M.corner a n)) back ∙ outer,
          ap (λ n. outer_label c (M.corner a n)) back ∙ label-to g c (M.corner a p) (fam.corner up (family a) p) goods (corners up M member some a cell p q).size
              (λ m z. corner-level up M member some a cell p m q z) j l r.3,
        ),
      )

  pub starts_from : (i : ℕ) → i ≤ g → first (M.corner a i) ≡ D → Carries g D up (λ j. slice_index c j) (family a) → Starts M c a i
  starts_from i h real carries = record {
    outer = λ k l. let r = there k l in ap (λ n. first (facet M a i n)) (sym r.2) ∙ (f.1 r.0 r.1).1;
    low = λ k l. let r = there k l in omega (arith, label k r.0 r.1 r.2);
    high = λ k l. let r = there k l in omega (arith, label k r.0 r.1 r.2, r.1);
    apart = λ k m p q e.
        let r = there k p in
        let s = there m q in
        let same : r.0 ≡ s.0 = omega (arith, label k r.0 r.1 r.2, label m s.0 s.1 s.2) in
        sym r.2 ∙ ap f.0 same ∙ s.2;
  }
    where
      f : (f : ℕ → ℕ) × ((j : ℕ) → j < g → (f j < g) × (first (facet M a i (f j)) ≡ suc D) × (outer_label c (facet M a i (f j)) ≡ suc j))
      f = chosen g (λ j k. (k < g) × (first (facet M a i k) ≡ suc D) × (outer_label c (facet M a i k) ≡ suc j)) (label_at i h real carries)

      there : (k : ℕ) → k < g → (j : ℕ) × (j < g) × (f.0 j ≡ k)
      there k l = onto g f.0 (λ j q. (f.1 j q).0)
          (λ m n p q e. omega (arith, (f.1 m p).2, (f.1 n q).2, ap (λ z. outer_label c (facet M a i z)) e)) k l

      label : (k j : ℕ) → j < g → f.0 j ≡ k → outer_label c (facet M a i k) ≡ suc j
      label k j q e = ap (λ z. outer_label c (facet M a i z)) (sym e) ∙ (f.1 j q).2
