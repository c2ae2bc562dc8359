-- The laws of a triangulation whose cells are members of the family.
use Rattle.std.specs.Prelude.{◌≡◌, ℕ, suc, ◌-◌, ◌<◌, ◌≤◌, Bool, map, length, slice_index}
use Rattle.std.proofs.Common.{sym, ◌∙◌, ap, subst, arith}
use Rattle.std.specs.List.{AllByRecursion}
use Rattle.std.proofs.lemmas.List.{get_or-map, length-map}
use Rattle.std.proofs.ByRecursion.{All-from_get_or}
use Rattle.cells.specs.Corners.{Corner, Apart}
use Rattle.cells.specs.Triangulation.{Shape, Mesh, CornersIn}
use Rattle.todd_laws.specs.J1.{j1_corner}
use Rattle.todd_laws.proofs.Family as fam
use Rattle.todd_laws.proofs.Family.{Valid}
use Rattle.todd_laws.proofs.FamilyLaws as laws
use Rattle.todd_laws.proofs.Bridge.{family, Listed, corner-at, listed-valid, shape_same}

-- The cells of a triangulation are listed shapes, with their corners and addresses.
pub record Member {g D : ℕ} (up : ℕ → Bool) (M : Mesh Shape g D) : Type 0 where
  pub listed : (s : Shape) → M.is_cell s → Listed g D up s
  pub cell : (s : Shape) → Listed g D up s → M.is_cell s
  pub corner-is : (s : Shape) → Listed g D up s → (k : ℕ) → M.corner s k ≡ j1_corner s k
  pub address_is : (s : Shape) → Listed g D up s → M.address s ≡ map (λ j. (family s).lo (j - 1)) s.order

module _ {g D : ℕ} (up : ℕ → Bool) (M : Mesh Shape g D) (member : Member up M) (some : 1 ≤ g) where
  valid : (a : Shape) → M.is_cell a → Valid g D up (family a)
  valid a c = listed-valid g D up some a (member.listed a c)

  pub corner-level : (a : Shape) → M.is_cell a → (k j : ℕ) → k ≤ g → j < g → slice_index (M.corner a k) j ≡ fam.corner up (family a) k j
  corner-level a c k j h l = ap (λ v. slice_index v j) (member.corner-is a (member.listed a c) k) ∙ corner-at g D up a (member.listed a c) k j h l

  pub corners : (a : Shape) → M.is_cell a → (i : ℕ) → i ≤ g → Corner g D (M.corner a i)
  corners a c i h = subst (Corner g D) (sym (member.corner-is a (member.listed a c) i)) ((member.listed a c).corners i h)

  pub different : (a : Shape) → M.is_cell a → Apart (suc g) (M.corner a)
  different a c i j hi hj e = laws.corners-apart g D up some (family a) (valid a c) i j (omega arith) (omega arith)
      (λ l h. sym (corner-level a c i l (omega arith) h) ∙ ap (λ v. slice_index v l) e ∙ corner-level a c j l (omega arith) h)

  corners-in : (a b : Shape) → M.is_cell a → M.is_cell b → CornersIn M a b
      → (k : ℕ) → k ≤ g → (m : ℕ) × (m ≤ g) × ((j : ℕ) → j < g → fam.corner up (family a) k j ≡ fam.corner up (family b) m j)
  corners-in a b c d ins k h =
      let r = ins k h in
      (r.0, r.1, λ j l. sym (corner-level a c k j h l) ∙ ap (λ v. slice_index v j) r.2 ∙ corner-level b d r.0 j r.1 l)

  pub same_corners : (a b : Shape) → M.is_cell a → M.is_cell b → CornersIn M a b → CornersIn M b a → a ≡ b
  same_corners a b c d there back = shape_same g D up a b (member.listed a c) (member.listed b d)
      (laws.same_corners g D up some (family a) (family b) (valid a c) (valid b d) (corners-in a b c d there) (corners-in b a d c back))

  pub address_size : (a : Shape) → M.is_cell a → length (M.address a) ≡ g
  address_size a c = let l = member.listed a c in ap length (member.address_is a l) ∙ length-map a.order (λ j. (family a).lo (j - 1)) ∙ l.order.size

  pub address-at : (a : Shape) → M.is_cell a → (k : ℕ) → k < g → slice_index (M.address a) k ≡ (family a).lo ((family a).ord k)
  address-at a c k h =
      let l = member.listed a c in
      ap (λ v. slice_index v k) (member.address_is a l) ∙ get_or-map (λ j. (family a).lo (j - 1)) a.order k 0 0 (omega (arith, l.order.size))

  pub address_small : (a : Shape) → M.is_cell a → AllByRecursion (λ n. n ≤ D) (M.address a)
  address_small a c = All-from_get_or (λ n. n ≤ D) (M.address a) 0
      (λ k h. let l : k < g = omega (arith, address_size a c) in omega (arith, address-at a c k l, laws.address_small g D up some (family a) (valid a c) k l))

  pub address_full : (a : Shape) → M.is_cell a → (k : ℕ) × (k < g) × (slice_index (M.address a) k ≡ D)
  address_full a c =
      let v = valid a c in
      let k = (family a).at 0 in
      let h = v.perm.at-below 0 some in
      (k, h, address-at a c k h ∙ ap (family a).lo (v.perm.ord-at 0 some) ∙ v.top)

  pub addressed : (a b : Shape) → M.is_cell a → M.is_cell b → M.address a ≡ M.address b → a ≡ b
  addressed a b c d e = shape_same g D up a b (member.listed a c) (member.listed b d)
      (laws.same_address g D up some (family a) (family b) (valid a c) (valid b d)
      (λ k h. sym (address-at a c k h) ∙ ap (λ v. slice_index v k) e ∙ address-at b d k h))
