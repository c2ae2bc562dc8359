-- What is known of one leg of a path, a walk on its mesh.
--   real-label                   a real corner has the label of the labelling
--   places-but                   the places of a cell but one are those that `skip` counts
--   leg-single                   no cell is entered twice
--   improper-at                  where the newest label is not proper, the newest corner is a price point with that label
--   improper-is, improper-not    a price point that is the newest corner and not properly labelled has its prices and its label
--   drops-once, real-wall        one corner is dropped, and behind it is no other wall than the real one
--   label-once, arrived_cell     the corners that are kept where one is dropped: their labels are apart, and at the real wall they are real and proper
use Rattle.std.proofs.Common.{◌≡◌, ℕ, suc, ◌<◌, ◌≤◌, T as Holds, eqb, List, sym, refl, ap, ◌∙◌, subst, subst₂, ⊎_elim, arith}
use Rattle.std.proofs.lemmas.Bool.{cases_eq, cond-false, ne_eqb}
use Rattle.mesh.specs.Prices.{first, to_prices}
use Rattle.mesh.specs.Range.{most, fit_goods}
use Rattle.mesh.proofs.Levels.{length-prices, levels-prices, prices-levels, sum-prices, first-levels}
use Rattle.labelling.specs.Labels.{Rule, Proper}
use Rattle.cells.specs.Corners.{Corner, Wall, real_wall, On, skip, outer_label}
use Rattle.cells.specs.Triangulation.{Shape, wall, Mesh, Lawful}
use Rattle.cells.proofs.Places.{among, among_below, skip-among}
use Rattle.path.specs.Legs.{label}
use Rattle.path.specs.Lists.{Single}
use Rattle.path.specs.Claim.{Improper, Keeps, ArrivedCell}
use Rattle.path.specs.Path.{Opening, Leg, entered, corner_on, prices_on, label_on, ProperOn, DropsOn, across_on}
use Rattle.path.proofs.Powers.{in-range}
use Rattle.path.proofs.OneMesh.{trail-cell, trail-newest, trail-settled, trail-single, trail-wall, trail-real, one-double, good-found, kept-apart}
use Rattle.path.proofs.Sound.{OnTrail}

pub real-label : (g D : ℕ) (L : Rule) (c v : List ℕ) → first v ≡ D → label g D L c v ≡ L g D (to_prices v)
real-label g D L c v real = cond-false (eqb (first v) (suc D)) (outer_label c v) (L g D (to_prices v)) (ne_eqb (first v) (suc D) (λ e. omega arith))

pub places-but : (g d i : ℕ) → i ≤ g → d ≤ g → (i ≡ d → ⊥) → (k : ℕ) × (k < g) × (skip d k ≡ i)
places-but g d i high low other = (among d i, among_below g d i low high other, skip-among d i other)

module _ (T : (g D : ℕ) → Mesh Shape g D) (L : Rule) (o : Opening) (lawful : (g D : ℕ) → 2 ≤ g → 1 ≤ D → Lawful (T g D))
    (l : Leg) (goods : Holds (fit_goods o.goods)) (h : OnTrail T L o l) where
  two : 2 ≤ o.goods
  two = (in-range 2 8 o.goods goods).0

  one : 1 ≤ l.mesh
  one = (in-range 1 (most o.goods) l.mesh h.mesh).0

  law : Lawful (T o.goods l.mesh)
  law = lawful o.goods l.mesh two one

  pub leg-single : Single (entered l)
  leg-single = trail-single (T o.goods l.mesh) L l.start two one law h.admits l.before l.cell l.newest h.trail

  -- The leg stands in a cell, which has corners.
  is-cell : (T o.goods l.mesh).is_cell l.cell
  is-cell = trail-cell (T o.goods l.mesh) L l.start two one law h.admits l.before l.cell l.newest h.trail

  corner-there : (i : ℕ) → i ≤ o.goods → Corner o.goods l.mesh (corner_on T L o l i)
  corner-there i low = law.corners l.cell is-cell i low

  newest-place : l.newest ≤ o.goods
  newest-place = trail-newest (T o.goods l.mesh) L l.start two one law h.admits l.before l.cell l.newest h.trail

  pub improper-at : (ProperOn T L o l → ⊥) → Improper T L o l (prices_on T L o l l.newest) (label_on T L o l l.newest)
  improper-at not =
      let v = corner_on T L o l l.newest in
      let c = corner-there l.newest newest-place in
      let real = trail-real (T o.goods l.mesh) L l.start two one law h.admits l.before l.cell l.newest h.trail not in
      record {
        corner = sym (levels-prices v c.falls);
        size = length-prices v ∙ c.size;
        adds_up = sum-prices v c.falls ∙ real;
        label = real-label o.goods l.mesh L l.start v real;
        improper = not;
      }

  -- The prices and the label of the newest corner, where it is an improperly labelled price point.
  pub improper-is : (x : List ℕ) (n : ℕ) → Improper T L o l x n → (prices_on T L o l l.newest ≡ x) × (label_on T L o l l.newest ≡ n)
  improper-is x n i =
      let prices : prices_on T L o l l.newest ≡ x = ap to_prices i.corner ∙ prices-levels x in
      let real : first (corner_on T L o l l.newest) ≡ l.mesh = ap first i.corner ∙ first-levels x ∙ i.adds_up in
      (prices, real-label o.goods l.mesh L l.start _ real ∙ ap (L o.goods l.mesh) prices ∙ sym i.label)

  pub improper-not : (x : List ℕ) (n : ℕ) → Improper T L o l x n → ProperOn T L o l → ⊥
  improper-not x n i proper =
      let e = improper-is x n i in
      i.improper (subst₂ (Proper o.goods) e.0 e.1 proper)

  -- The corner that is dropped is the only one, and behind it there is no other wall than the real one.
  pub drops-once : (d e : ℕ) → DropsOn T L o l d → DropsOn T L o l e → d ≡ e
  drops-once d e = one-double (T o.goods l.mesh) L l.start two one law h.admits l.before l.cell l.newest d e h.trail

  pub real-wall : (d : ℕ) (w : Wall) → DropsOn T L o l d → across_on T L o l d ≡ wall w → w ≡ real_wall
  real-wall d w = trail-wall (T o.goods l.mesh) L l.start two one law h.admits l.before l.cell l.newest d w h.trail

  module _ (d : ℕ) (drops : DropsOn T L o l d) where
    -- The label at a kept place tells the place.
    pub label-once : (i k : ℕ) → i ≤ o.goods → k ≤ o.goods → (i ≡ d → ⊥) → (k ≡ d → ⊥) → label_on T L o l i ≡ label_on T L o l k → i ≡ k
    label-once = kept-apart (T o.goods l.mesh) L l.start two one law h.admits l.before l.cell l.newest d h.trail drops

    kept-proper : (i : ℕ) → i ≤ o.goods → Proper o.goods (prices_on T L o l i) (label_on T L o l i)
    kept-proper i low =
        ⊎_elim
        (λ newest. rw newest drops.proper)
        (λ older. (trail-settled (T o.goods l.mesh) L l.start two one law h.admits l.before l.cell l.newest h.trail).proper i low older)
        (cases_eq i l.newest)

    module _ (real : across_on T L o l d ≡ wall real_wall) where
      kept_real : (i : ℕ) → i ≤ o.goods → (i ≡ d → ⊥) → On l.mesh real_wall (corner_on T L o l i)
      kept_real i low other =
          let k = places-but o.goods d i low drops.place other in
          subst (λ j. first (corner_on T L o l j) ≡ l.mesh) k.2 ((law.at_wall l.cell is-cell d drops.place real_wall real).1 k.0 k.1)

      kept_label : (i : ℕ) → i ≤ o.goods → (i ≡ d → ⊥) → label_on T L o l i ≡ L o.goods l.mesh (prices_on T L o l i)
      kept_label i low other = real-label o.goods l.mesh L l.start (corner_on T L o l i) (kept_real i low other)

      keeps-at : (j i : ℕ) → i ≤ o.goods → (i ≡ d → ⊥) → label_on T L o l i ≡ j → Keeps T L o l d j i
      keeps-at j i low other is =
          record {
            place = low;
            kept = other;
            real = kept_real i low other;
            label = sym (kept_label i low other) ∙ is;
            proper = rw (← is) (kept-proper i low);
          }

      pub arrived_cell : ArrivedCell T L o l d
      arrived_cell =
          record {
            dropped = drops.place;
            keeps = λ i low other. (label_on T L o l i, keeps-at (label_on T L o l i) i low other refl);
            each = λ j good. let f = good-found (T o.goods l.mesh) L l.start two one law h.admits l.before l.cell l.newest d h.trail drops j good.0 good.1 in (f.0, keeps-at j f.0 f.1 f.2 f.3);
            once = λ j i k a b. label-once i k a.place b.place a.kept b.kept (kept_label i a.place a.kept ∙ a.label ∙ sym (kept_label k b.place b.kept ∙ b.label));
          }
