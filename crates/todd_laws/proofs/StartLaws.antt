-- The laws of start points, of a triangulation whose cells are members of the family.
use Rattle.std.specs.Prelude.{◌≡◌, ℕ, ◌<◌, ◌≤◌, Bool, true, false, T, List, length, sum, slice_index}
use Rattle.std.proofs.Common.{sym, ◌∙◌, ap, subst, arith}
use Rattle.mesh.specs.Prices.{first, to_levels}
use Rattle.mesh.proofs.Levels.{first-levels}
use Rattle.cells.specs.Triangulation.{Shape, Mesh, Starts}
use Rattle.todd_laws.specs.Steps.{start_shape}
use Rattle.todd_laws.specs.J1.{j1_corner}
use Rattle.todd_laws.proofs.Family as fam
use Rattle.todd_laws.proofs.Family.{Same, Carries}
use Rattle.todd_laws.proofs.FamilyLaws.{start-carries, start-alone}
use Rattle.todd_laws.proofs.Bridge.{family, Listed, listed-valid, shape_same}
use Rattle.todd_laws.proofs.Alike.{same_turn, same-join, carries_same}
use Rattle.todd_laws.proofs.StartCell.{level_of, start-levels, start-top, start-same, start-listed, start-home}
use Rattle.todd_laws.proofs.LawsLemmas.{Member}
use Rattle.todd_laws.proofs.Starting.{carries-from, starts_from}

-- The start cells of a triangulation: one direction for all levels of a point.
pub record Begins {g D : ℕ} (up : ℕ → Bool) (b : Bool) (M : Mesh Shape g D) : Type 0 where
  pub points : (c : List ℕ) → T (M.admitted c) → (length c ≡ g) × (sum c ≡ D)
  pub start_is : (c : List ℕ) → M.start c ≡ start_shape g b c
  pub home-is : (c : List ℕ) → M.home c ≡ fam.place g b
  pub ways : (c : List ℕ) → T (M.admitted c) → (j : ℕ) → j < g → up (level_of c j) ≡ b

place-low : (g : ℕ) (b : Bool) → fam.place g b ≤ g
place-low g true = omega arith
place-low g false = omega arith

module _ {g D : ℕ} (up : ℕ → Bool) (b : Bool) (M : Mesh Shape g D) (member : Member up M) (begins : Begins up b M) (some : 1 ≤ g) (c : List ℕ) (t : T (M.admitted c)) where
  listed : Listed g D up (M.start c)
  listed = let p = begins.points c t in subst (Listed g D up) (sym (begins.start_is c)) (start-listed g D up some b c p.0 p.1 (begins.ways c t))

  same : Same g (family (M.start c)) (fam.start g b (level_of c))
  same = let p = begins.points c t in subst (λ s. Same g (family s) (fam.start g b (level_of c))) (sym (begins.start_is c)) (start-same g D up some b c p.0 p.1 (begins.ways c t))

  pub start_cell : M.is_cell (M.start c)
  start_cell = member.cell (M.start c) listed

  pub home_place : M.home c ≤ g
  home_place = subst (λ n. n ≤ g) (sym (begins.home-is c)) (place-low g b)

  pub home_corner : M.corner (M.start c) (M.home c) ≡ to_levels c
  home_corner =
      member.corner-is (M.start c) listed (M.home c)
      ∙ ap (λ s. j1_corner s (M.home c)) (begins.start_is c) ∙ ap (j1_corner (start_shape g b c)) (begins.home-is c) ∙ start-home g b c (begins.points c t).0

  pub only_start : (a : Shape) → M.is_cell a → (i : ℕ) → i ≤ g → Starts M c a i → a ≡ M.start c
  only_start a cell i h s =
      let p = begins.points c t in
      let l = member.listed a cell in
      shape_same g D up a (M.start c) l listed
      (same-join g (family a) (fam.start g b (level_of c)) (family (M.start c))
      (start-alone g D up some (λ j. slice_index c j) (level_of c) b (start-levels g D up some b c p.0 p.1 (begins.ways c t)) (start-top g D up some b c p.0 p.1 (begins.ways c t)) (begins.ways c t)
      (family a) (listed-valid g D up some a l) (carries-from up M member some c p.0 a cell i h s))
      (same_turn g (family (M.start c)) (fam.start g b (level_of c)) same))

  carries : Carries g D up (λ j. slice_index c j) (family (M.start c))
  carries =
      let p = begins.points c t in
      carries_same g D up (λ j. slice_index c j) (fam.start g b (level_of c)) (family (M.start c)) some (same_turn g (family (M.start c)) (fam.start g b (level_of c)) same)
      (start-carries g D up some (λ j. slice_index c j) (level_of c) b (start-levels g D up some b c p.0 p.1 (begins.ways c t)) (start-top g D up some b c p.0 p.1 (begins.ways c t)) (begins.ways c t))

  pub starts : Starts M c (M.start c) (M.home c)
  starts = starts_from up M member some c (begins.points c t).0 (M.start c) start_cell (M.home c) home_place
      (ap first home_corner ∙ first-levels c ∙ (begins.points c t).1) carries
