-- What a step does to the view of a path.
--   on_halt, on_arrival, on_entry    the path after it
--   halted-view                   the newest corner gets its label, and the walk halts
--   arrived-view                  the newest corner gets its label, and the walk arrives
--   entered-view                  the newest corner gets its label, and the cell across a place is entered
use Rattle.std.proofs.Common.{◌≡◌, ℕ, suc, ◌+◌, ◌-◌, ◌≤◌, Bool, true, false, cond, eqb, ltb, List, [], length, sym, refl, ap, ◌∙◌, ap₂, le_of_suc-le-suc, arith}
use native.Mathlib.Nat.{suc-le-suc_iff}
use Rattle.std.proofs.lemmas.Bool.{eqb-true, eqb-false, ne_eqb, cond-false}
use Rattle.std.proofs.lemmas.Bool.Decides.{nat_tests}
use Rattle.mesh.specs.Prices.{to_prices}
use Rattle.labelling.specs.Labels.{Rule}
use Rattle.cells.specs.Corners.{skip}
use Rattle.cells.specs.Triangulation.{Shape, Mesh, Neighbour}
use Rattle.path.specs.Legs.{label}
use Rattle.path.specs.Lists.{listed}
use Rattle.path.specs.Path.{Opening, Leg, walking, arrived, halted, named, ticket, went, Path, entries, stepped, enters, corner_on, prices_on, label_on, shown, seen}
use Rattle.cells.proofs.Places.{among, among_below, skip-le, skip-among}
use Rattle.state.specs.Views.{Labelled, corner_at, with, labelling, halting, arriving, came_from, shifted, entering}
use Rattle.walk.specs.Showing.{standing}
use Rattle.state.proofs.Listed.{listed-get_or, listed-ext, listed-altered}
use Rattle.walk.proofs.Standing.{cond_same, levels-shown}

-- The corner at a place: the new one, with no label, or one that is kept with its label.
placed : (b : Bool) (new u : List ℕ) (l : ℕ) (c : Labelled) → (b ≡ true → new ≡ u) → (b ≡ false → c ≡ (u, l)) → cond b (new, 0) c ≡ (u, cond b 0 l)
placed true new u l c here kept = ap (λ z. (z, 0)) (here refl)
placed false new u l c here kept = kept refl

-- The old place of a corner that is not the new one, by its number among these.
came-among : (d k i : ℕ) → (i ≡ k → ⊥) → came_from d k i ≡ skip d (among k i)
came-among d k i other = ap (skip d) (numbered k i other)
  where
    numbered : (k i : ℕ) → (i ≡ k → ⊥) → cond (ltb k i) (i - 1) i ≡ among k i
    numbered k i other = grind (arith, nat_tests)

module _ {g D : ℕ} (M : Mesh Shape g D) (a : Shape) (d : ℕ) (b : Shape) (k : ℕ) (next : Neighbour M a d b k) where
  came-below : (i : ℕ) → i ≤ g → (i ≡ k → ⊥) → came_from d k i ≤ g
  came-below i low other = rw (came-among d k i other) (skip-le g d (among k i) (among_below g k i next.place low other))

  -- It is the same corner.
  came-corner : (i : ℕ) → i ≤ g → (i ≡ k → ⊥) → M.corner a (came_from d k i) ≡ M.corner b i
  came-corner i low other =
      ap (M.corner a) (came-among d k i other) ∙ next.shared (among k i) (among_below g k i next.place low other) ∙ ap (M.corner b) (skip-among k i other)

module _ (T : (g D : ℕ) → Mesh Shape g D) (L : Rule) (o : Opening) where
  -- The path p with one more step: it halts; it arrives, with the corner at d dropped; it enters the cell b, its new corner at k.
  abbrev pub on_halt : Path → Path
  on_halt p =
      let x = prices_on T L o p.leg p.leg.newest in
      let n = label_on T L o p.leg p.leg.newest in
      record { leg = stepped p.leg; earlier = p.earlier; stage = halted x n; said = named x n }

  abbrev pub on_arrival : Path → ℕ → Path
  on_arrival p d = record { leg = stepped p.leg; earlier = p.earlier; stage = arrived d; said = ticket o.number p.leg.mesh }

  abbrev pub on_entry : Path → Shape → ℕ → Path
  on_entry p b k = record { leg = enters p.leg b k; earlier = p.earlier; stage = walking; said = went }

  -- All corners of the cell where a leg stands, with their labels.
  abbrev all_labelled : Leg → List Labelled
  all_labelled l = listed (suc o.goods) (λ i. (corner_on T L o l i, label_on T L o l i))

  -- These are shown once the walk has ended.
  all_shown : (l : Leg) → listed (suc o.goods) (λ i. (corner_on T L o l i, cond (eqb i l.newest) (label_on T L o l i) (label_on T L o l i))) ≡ all_labelled l
  all_shown l = listed-ext (suc o.goods) _ _ (λ i h. ap (λ n. (corner_on T L o l i, n)) (cond_same (eqb i l.newest) (label_on T L o l i)))

  -- Of the cell across a place, a corner that is not the new one stands with its label among those of the cell before.
  kept-labelled : (l : Leg) (d : ℕ) (b : Shape) (k : ℕ) → Neighbour (T o.goods l.mesh) l.cell d b k → (i : ℕ) → i ≤ o.goods → (i ≡ k → ⊥)
      → corner_at (all_labelled l) (came_from d k i) ≡ (corner_on T L o (enters l b k) i, label_on T L o (enters l b k) i)
  kept-labelled l d b k next i low other =
      let M = T o.goods l.mesh in
      let there = came-below M l.cell d b k next i low other in
      listed-get_or (suc o.goods) (λ j. (corner_on T L o l j, label_on T L o l j)) (came_from d k i) ([], 0) (suc-le-suc_iff.1 there)
      ∙ ap (λ u. (u, label o.goods l.mesh L l.start u)) (came-corner M l.cell d b k next i low other)

  -- The corners of the cell across a place, as they come from the cell before it.
  all-entered : (l : Leg) (d : ℕ) (b : Shape) (k : ℕ) → Neighbour (T o.goods l.mesh) l.cell d b k
      → shifted o.goods (all_labelled l) d k ((T o.goods l.mesh).corner b k)
      ≡ listed (suc o.goods) (λ i. (corner_on T L o (enters l b k) i, cond (eqb i k) 0 (label_on T L o (enters l b k) i)))
  all-entered l d b k next =
      let M = T o.goods l.mesh in
      listed-ext (suc o.goods) _ _
      (λ i h. placed (eqb i k) (M.corner b k) (M.corner b i) (label_on T L o (enters l b k) i) _
      (λ e. ap (M.corner b) (sym (eqb-true i k e)))
      (λ e. kept-labelled l d b k next i (le_of_suc-le-suc h) (eqb-false i k e)))

  module _ (p : Path) (place : p.leg.newest ≤ o.goods) where
    -- The newest corner gets its label.
    newest-labelled : labelling (seen T L o p).corners p.leg.newest (label_on T L o p.leg p.leg.newest) ≡ all_labelled p.leg
    newest-labelled =
        let n = p.leg.newest in
        listed-altered (suc o.goods) (λ i. (corner_on T L o p.leg i, shown T L o p i)) (λ i. (corner_on T L o p.leg i, label_on T L o p.leg i)) n _
        (ap (λ u. (u, label_on T L o p.leg n)) (sym (levels-shown T L o p n place)))
        (λ i h other. ap (λ m. (corner_on T L o p.leg i, m)) (cond-false _ _ _ (ne_eqb i n other)))

    pub halted-view : halting (standing T L o p) (label_on T L o p.leg p.leg.newest) ≡ standing T L o (on_halt p)
    halted-view =
        let n = p.leg.newest in
        ap₂ (with (standing T L o p) n) (ap (λ u. halted (to_prices u) (label_on T L o p.leg n)) (levels-shown T L o p n place))
        (newest-labelled ∙ sym (all_shown p.leg))

    pub arrived-view : (d : ℕ) → arriving (standing T L o p) d (label_on T L o p.leg p.leg.newest) ≡ standing T L o (on_arrival p d)
    arrived-view d = ap (with (standing T L o p) p.leg.newest (arrived d)) (newest-labelled ∙ sym (all_shown p.leg))

    pub entered-view : p.stage ≡ walking → (d : ℕ) (b : Shape) (k : ℕ) → Neighbour (T o.goods p.leg.mesh) p.leg.cell d b k
        → entering (standing T L o p) b d k ((T o.goods p.leg.mesh).corner b k) (label_on T L o p.leg p.leg.newest) ≡ standing T L o (on_entry p b k)
    entered-view walks d b k next =
        let M = T o.goods p.leg.mesh in
        let labelled = ap (λ cs. shifted o.goods cs d k (M.corner b k)) newest-labelled in
        let entered = all-entered p.leg d b k next in
        let total : suc (suc (length p.leg.before) + entries p.earlier) ≡ suc (suc (length p.leg.before)) + entries p.earlier = omega arith in
        cc
