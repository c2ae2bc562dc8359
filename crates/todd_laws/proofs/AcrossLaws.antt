-- The laws of what lies across a place, of a triangulation that shows what the family says.
--   Shows     a wall for that wall, a cell for that cell
--   Crosses   across each place of a cell
use Rattle.std.specs.Prelude.{◌≡◌, ℕ, zero, suc, ◌-◌, ◌<◌, ◌≤◌, Bool, List, slice_index, slice_index_or, refl}
use Rattle.std.proofs.Common.{sym, ◌∙◌, ap, subst, arith, add-one}
use Rattle.std.proofs.lemmas.List.{ext_get_or}
use Rattle.mesh.proofs.Levels.{falls_at}
use Rattle.cells.specs.Corners.{Corner, Wall, outer_wall, real_wall, good_wall, IsWall, On, skip}
use Rattle.cells.proofs.Places.{skip-le, skip-other, among, among_below, skip-among}
use Rattle.cells.specs.Triangulation.{Shape, Across, wall, moved, Mesh, Neighbour, FacetOn, facet}
use Rattle.todd_laws.proofs.Family as fam
use Rattle.todd_laws.proofs.Family.{Cell, Valid, Same, Side, Right, Back, AllOn, under}
use Rattle.todd_laws.proofs.FamilyLaws.{across-right}
use Rattle.todd_laws.proofs.Bridge.{family, Listed, Formed, listed-valid, valid-listed, shape_same, first-is}
use Rattle.todd_laws.proofs.Alike.{same_turn, same-join, valid-like, corner-same}
use Rattle.todd_laws.proofs.Labels.{under-is, price-under}
use Rattle.todd_laws.proofs.LawsLemmas.{Member, corner-level, corners}

abbrev pub Shows : ℕ → (ℕ → Bool) → Across Shape → Side → Type 0
Shows g up (wall v) (fam.wall w) = v ≡ w
Shows g up (wall v) (fam.next d k) = ⊥
Shows g up (moved t j) (fam.wall w) = ⊥
Shows g up (moved t j) (fam.next d k) = Formed g up t × Same g (family t) d × (j ≡ k)

abbrev pub Crosses : {g D : ℕ} → (ℕ → Bool) → Mesh Shape g D → Type 0
Crosses {g} {D} up M = (s : Shape) → Listed g D up s → (d : Cell) → Same g (family s) d → (i : ℕ) → i ≤ g → Shows g up (M.across s i) (fam.across g up d i)

-- A corner lies on a wall, as a list and as a function.
module _ (g D : ℕ) (v : List ℕ) (u : ℕ → ℕ) (some : 1 ≤ g) (corner : Corner g D v) (same : (j : ℕ) → j < g → slice_index v j ≡ u j) where
  pub on-from : (w : Wall) → fam.On g D u w → On D w v
  on-from outer_wall h = first-is v ∙ same 0 some ∙ h
  on-from real_wall h = first-is v ∙ same 0 some ∙ h
  on-from (good_wall zero) h = refl
  on-from (good_wall (suc l)) h =
      let e : suc l - 1 ≡ l = omega arith in
      let q : u l ≡ under g u (suc l) = ap u (sym e) ∙ h.2 in
      let low : l < g = omega (arith, h.1) in
      price-under g v v u corner.size corner.size same l
      ∙ omega (arith, under-is g v u corner.size same l, same l low, q)

  pub on-to : (w : Wall) → IsWall g w → On D w v → fam.On g D u w
  on-to outer_wall i h = sym (same 0 some) ∙ sym (first-is v) ∙ h
  on-to real_wall i h = sym (same 0 some) ∙ sym (first-is v) ∙ h
  on-to (good_wall zero) i h = absurd (omega (arith, i.0))
  on-to (good_wall (suc l)) i h =
      let e : suc l - 1 ≡ l = omega arith in
      let low : l < g = omega (arith, i.1) in
      let f : slice_index_or v (suc l) 0 ≤ slice_index_or v l 0 = rw (← add-one) (falls_at v l corner.falls) in
      (i.0, i.1, ap u e ∙ omega (arith, price-under g v v u corner.size corner.size same l, under-is g v u corner.size same l, under-is g v u corner.size same (suc l), same l low))

  pub on-wall : (w : Wall) → fam.On g D u w → IsWall g w
  on-wall outer_wall h = tt
  on-wall real_wall h = tt
  on-wall (good_wall j) h = (h.0, h.1)

pub formed-listed : (g D : ℕ) (up : ℕ → Bool) → 1 ≤ g → (t : Shape) → Formed g up t → Valid g D up (family t) → Listed g D up t
formed-listed g D up some t f v = valid-listed g D up some t f.size f.order f.directions f.ways f.solid v

module _ {g D : ℕ} (up : ℕ → Bool) (M : Mesh Shape g D) (member : Member up M) (crosses : Crosses up M) (some : 1 ≤ g) (a : Shape) (cell : M.is_cell a) (i : ℕ) (place : i ≤ g) where
  self : Same g (family a) (family a)
  self = record { lo = λ j h. refl; ord = λ j h. refl; at = λ j h. refl }

  valid : Valid g D up (family a)
  valid = listed-valid g D up some a (member.listed a cell)

  shown : Shows g up (M.across a i) (fam.across g up (family a) i)
  shown = crosses a (member.listed a cell) (family a) self i place

  right : Right g D up (family a) i (fam.across g up (family a) i)
  right = across-right g D up some (family a) valid i place

  wall-shown : (w : Wall) (y : Side) → Shows g up (wall w) y → Right g D up (family a) i y → AllOn g D up (family a) i w
  wall-shown w (fam.wall v) e r = subst (AllOn g D up (family a) i) (sym e) r
  wall-shown w (fam.next d k) e r = absurd e

  all-on : (w : Wall) → AllOn g D up (family a) i w → (k : ℕ) → k < g → fam.On g D (fam.corner up (family a) (skip i k)) w
  all-on w on k h = on (skip i k) (skip-le g i k h) (skip-other i k)

  pub at_wall : (w : Wall) → M.across a i ≡ wall w → IsWall g w × FacetOn M w a i
  at_wall w e =
      let on = all-on w (wall-shown w (fam.across g up (family a) i) (subst (λ x. Shows g up x (fam.across g up (family a) i)) e shown) right) in
      let f : (k : ℕ) → k < g → Corner g D (M.corner a (skip i k)) = λ k h. corners up M member some a cell (skip i k) (skip-le g i k h) in (
        on-wall g D (M.corner a (skip i 0)) (fam.corner up (family a) (skip i 0)) some (f 0 some) (λ j l. corner-level up M member some a cell (skip i 0) j (skip-le g i 0 some) l) w (on 0 some),
        λ k h. on-from g D (M.corner a (skip i k)) (fam.corner up (family a) (skip i k)) some (f k h) (λ j l. corner-level up M member some a cell (skip i k) j (skip-le g i k h) l) w (on k h),
      )

  no-next : (w : Wall) → IsWall g w → FacetOn M w a i → (t : Shape) (j : ℕ) (y : Side) → Shows g up (moved t j) y → Right g D up (family a) i y → ⊥
  no-next w is on t j (fam.wall v) s r = s
  no-next w is on t j (fam.next d k) s r = r.no-wall w (λ m h ne.
      let back = skip-among i m ne in
      on-to g D (M.corner a m) (fam.corner up (family a) m) some (corners up M member some a cell m h) (λ j l. corner-level up M member some a cell m j h l) w is
      (subst (λ n. On D w (M.corner a n)) back (on (among i m) (among_below g i m place h ne))))

  pub no_way : (w : Wall) → IsWall g w → FacetOn M w a i → (v : Wall) × (M.across a i ≡ wall v)
  no_way w is on = go (M.across a i) refl
    where
      go : (x : Across Shape) → M.across a i ≡ x → (v : Wall) × (M.across a i ≡ wall v)
      go (wall v) e = (v, e)
      go (moved t j) e = absurd (no-next w is on t j (fam.across g up (family a) i) (subst (λ x. Shows g up x (fam.across g up (family a) i)) e shown) right)

  -- The way back.
  back-shown : (b : Shape) (j : ℕ) (y : Side) → Shows g up (M.across b j) y → Back g (family a) i y → M.across b j ≡ moved a i
  back-shown b j (fam.wall w) s r = absurd r
  back-shown b j (fam.next e k) s r = go (M.across b j) s
    where
      go : (x : Across Shape) → Shows g up x (fam.next e k) → x ≡ moved a i
      go (wall w) s = absurd s
      go (moved t m) s =
          let same = same-join g (family t) e (family a) s.1 r.0 in
          let l = formed-listed g D up some t s.0 (valid-like g D up (family a) (family t) some valid (same_turn g (family t) (family a) same)) in
          ap (λ z. moved z m) (shape_same g D up t a l (member.listed a cell) same) ∙ ap (moved a) (s.2 ∙ r.1)

  next-shown : (b : Shape) (j : ℕ) (y : Side) → Shows g up (moved b j) y → Right g D up (family a) i y → Neighbour M a i b j
  next-shown b j (fam.wall w) s r = absurd s
  next-shown b j (fam.next d k) s r = record {
    cell = is;
    place = low;
    other = λ e. r.differs (same_turn g d (family a) (subst (λ z. Same g d (family z)) e (same_turn g (family b) d s.1)));
    shared = λ m h.
        let p = skip-le g i m h in
        let q = skip-le g j m h in
        ext_get_or 0 (facet M a i m) (facet M b j m) ((corners up M member some a cell (skip i m) p).size ∙ sym (corners up M member some b is (skip j m) q).size)
        (λ l n. let o : l < g = omega (arith, (corners up M member some a cell (skip i m) p).size) in
        corner-level up M member some a cell (skip i m) l p o ∙ r.kept m l h o
        ∙ ap (λ z. fam.corner up d (skip z m) l) (sym s.2)
        ∙ sym (corner-same g up (family b) d s.1 (skip j m) l o) ∙ sym (corner-level up M member some b is (skip j m) l q o));
    back = back-shown b j (fam.across g up d k) (subst (λ z. Shows g up (M.across b j) (fam.across g up d z)) s.2 (crosses b listed d s.1 j low)) r.back;
  }
    where
      low : j ≤ g
      low = omega (arith, s.2, r.within)

      listed : Listed g D up b
      listed = formed-listed g D up some b s.0 (valid-like g D up d (family b) some r.valid (same_turn g (family b) d s.1))

      is : M.is_cell b
      is = member.cell b listed

  pub neighbour : (b : Shape) (j : ℕ) → M.across a i ≡ moved b j → Neighbour M a i b j
  neighbour b j e = next-shown b j (fam.across g up (family a) i) (subst (λ x. Shows g up x (fam.across g up (family a) i)) e shown) right
