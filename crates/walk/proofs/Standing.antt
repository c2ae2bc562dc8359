-- A run that stands where its path stands.
--   begun             a run that begins on a mesh stands where a path does that begins there
--   cond_same         a choice between the same
--   cell-there        it stands in a cell
--   newest-corner     its newest corner is a corner
--   corner-shown, levels-shown, label-shown, label-now    what its view shows at a place
--   on-mesh, in_cell, place-there, newest-double          what is known of the cell where a path stands
use Rattle.std.proofs.Common.{◌≡◌, ℕ, suc, ◌+◌, ◌<◌, ◌≤◌, Bool, true, false, cond, T as Holds, eqb, List, [], sym, refl, ap, ◌∙◌, subst, le_of_suc-le-suc, arith}
use Rattle.std.proofs.lemmas.Bool.{eqb-false, ne_eqb, cond-false}
use Rattle.mesh.specs.Prices.{first}
use Rattle.mesh.specs.Range.{most, fit_goods, fit_mesh}
use Rattle.labelling.specs.Labels.{Rule}
use Rattle.cells.specs.Corners.{Corner, outer_label}
use Rattle.cells.specs.Triangulation.{Shape, Mesh, Lawful}
use Rattle.path.specs.Legs.{label, label_at as label_in}
use Rattle.path.specs.Lists.{listed}
use Rattle.path.specs.Path.{Opening, Call, Leg, walking, began, Path, entries, limit, begins, corner_on, label_on, ProperOn, DropsOn, shown, seen, Leads}
use Rattle.path.proofs.Powers.{in-range}
use Rattle.path.proofs.Outer.{outer-label}
use Rattle.path.proofs.OneMesh.{trail-cell, trail-newest, trail-double}
use Rattle.path.proofs.OneLeg.{places-but}
use Rattle.path.proofs.Sound.{Sound, sound, room}
use Rattle.state.specs.Views.{View, corner_at, levels_at, label_at}
use Rattle.walk.specs.Records.{label_now, fresh}
use Rattle.walk.specs.Showing.{standing}
use Rattle.state.proofs.Listed.{listed-get_or, listed-ext}

-- Where a test fails, the other value counts.
cond-else : {A : Type 0} (b : Bool) (x y z : A) → (b ≡ false → y ≡ z) → cond b x y ≡ cond b x z
cond-else true x y z e = refl
cond-else false x y z e = e refl

pub cond_same : {A : Type 0} (b : Bool) (x : A) → cond b x x ≡ x
cond_same true x = refl
cond_same false x = refl

-- In the start cell of a point all other corners have outer labels.
start-label : {g D : ℕ} (M : Mesh Shape g D) (L : Rule) (x : List ℕ) → Lawful M → Holds (M.admitted x)
    → (i : ℕ) → i ≤ g → (i ≡ M.home x → ⊥) → outer_label x (M.corner (M.start x) i) ≡ label_in M L x (M.start x) i
start-label {g} {D} M L x lawful admits i low other =
    let at = places-but g (M.home x) i low (lawful.home_place x admits) other in
    let outer : first (M.corner (M.start x) i) ≡ suc D = subst (λ p. first (M.corner (M.start x) p) ≡ suc D) at.2 ((lawful.starts x admits).outer at.0 at.1) in
    sym (outer-label g D L x (M.corner (M.start x) i) outer)

-- So a run that begins there has the labels of the start cell.
start-corners : {g D : ℕ} (M : Mesh Shape g D) (L : Rule) (x : List ℕ) → Lawful M → Holds (M.admitted x)
    → (fresh M 0 0 x).sight.corners ≡ listed (suc g) (λ i. (M.corner (M.start x) i, cond (eqb i (M.home x)) 0 (label_in M L x (M.start x) i)))
start-corners {g} {D} M L x lawful admits =
    listed-ext (suc g) _ _
    (λ i h. ap (λ l. (M.corner (M.start x) i, l)) (cond-else _ 0 _ _ (λ e. start-label M L x lawful admits i (le_of_suc-le-suc h) (eqb-false i (M.home x) e))))

module _ (T : (g D : ℕ) → Mesh Shape g D) (L : Rule) (o : Opening) where
  module _ (p : Path) (i : ℕ) (place : i ≤ o.goods) where
    -- What the view shows at a place.
    pub corner-shown : corner_at (seen T L o p).corners i ≡ (corner_on T L o p.leg i, shown T L o p i)
    corner-shown = listed-get_or (suc o.goods) (λ k. (corner_on T L o p.leg k, shown T L o p k)) i ([], 0) (omega arith)

    pub levels-shown : levels_at (standing T L o p) i ≡ corner_on T L o p.leg i
    levels-shown = ap (λ c. c.0) corner-shown

    -- At all places but the newest it shows the label.
    pub label-shown : (i ≡ p.leg.newest → ⊥) → label_at (standing T L o p) i ≡ label_on T L o p.leg i
    label-shown other = ap (λ c. c.1) corner-shown ∙ cond-false _ _ _ (ne_eqb i p.leg.newest other)

  pub label-now : (p : Path) → p.leg.newest ≤ o.goods → label_now L (standing T L o p) ≡ label_on T L o p.leg p.leg.newest
  label-now p place = ap (label o.goods p.leg.mesh L p.leg.start) (levels-shown p p.leg.newest place)

module _ (T : (g D : ℕ) → Mesh Shape g D) (L : Rule) (o : Opening) (lawful : (g D : ℕ) → 2 ≤ g → 1 ≤ D → Lawful (T g D)) where
  pub begun : (D : ℕ) (x : List ℕ) (ls : List Leg) → Holds (fit_goods o.goods) → Holds (fit_mesh o.goods D) → Holds ((T o.goods D).admitted x)
      → fresh (T o.goods D) o.number (suc (entries ls)) x ≡ standing T L o (record { leg = begins T L o D x; earlier = ls; stage = walking; said = began })
  begun D x ls goods mesh admits =
      let law = lawful o.goods D (in-range 2 8 o.goods goods).0 (in-range 1 (most o.goods) D mesh).0 in
      let corners = start-corners (T o.goods D) L x law admits in
      let total : suc (entries ls) ≡ 1 + entries ls = omega arith in
      cc

  -- The cell where a path stands.
  module _ (p : Path) (s : Sound T L o p) where
    two : 2 ≤ o.goods
    two = (in-range 2 8 o.goods s.goods).0

    one : 1 ≤ p.leg.mesh
    one = (in-range 1 (most o.goods) p.leg.mesh s.leg.mesh).0

    pub on-mesh : Lawful (T o.goods p.leg.mesh)
    on-mesh = lawful o.goods p.leg.mesh two one

    pub in_cell : (T o.goods p.leg.mesh).is_cell p.leg.cell
    in_cell = trail-cell (T o.goods p.leg.mesh) L p.leg.start two one on-mesh s.leg.admits p.leg.before p.leg.cell p.leg.newest s.leg.trail

    pub place-there : p.leg.newest ≤ o.goods
    place-there = trail-newest (T o.goods p.leg.mesh) L p.leg.start two one on-mesh s.leg.admits p.leg.before p.leg.cell p.leg.newest s.leg.trail

    -- Where the newest label is proper, another corner has it too.
    pub newest-double : ProperOn T L o p.leg → (d : ℕ) × DropsOn T L o p.leg d
    newest-double = trail-double (T o.goods p.leg.mesh) L p.leg.start two one on-mesh s.leg.admits p.leg.before p.leg.cell p.leg.newest s.leg.trail

  module _ (calls : List Call) (p : Path) (leads : Leads T L o calls p) where
    pub cell-there : (v : View) → v ≡ standing T L o p → (T v.sight.goods v.sight.mesh).is_cell v.cell
    cell-there v e = rw e (in_cell p (sound T L o lawful calls p leads))

    pub newest-corner : (v : View) → v ≡ standing T L o p → Corner v.sight.goods v.sight.mesh (levels_at v v.newest)
    newest-corner v e =
        let s = sound T L o lawful calls p leads in
        rw e
        (subst (Corner o.goods p.leg.mesh) (sym (levels-shown T L o p p.leg.newest (place-there p s)))
        ((on-mesh p s).corners p.leg.cell (in_cell p s) p.leg.newest (place-there p s)))

    pub total-small : (v : View) → v ≡ standing T L o p → v.sight.total < limit
    total-small v e = rw e (room T L o lawful p (sound T L o lawful calls p leads))
