-- The walk on one mesh of any triangulation that keeps the laws.
--   trail-cell, trail-newest     it stands in a cell, its newest corner at one of its places
--   trail-settled                the other labels are proper and pairwise different
--   trail-double, one-double     a proper newest label has just one double
--   trail-single                 no cell is entered twice
--   trail-bound                  no more cells than (D + 1)^g - D^g
--   trail-wall                   the only wall that it meets is the real one
--   trail-real                   only a real corner is improperly labelled
--   good-found, kept-apart       where the corner at d is dropped, each good labels just one of the others
use Rattle.std.proofs.Common.{◌≡◌, ℕ, suc, ◌<◌, ◌≤◌, T, List, [], ◌∷◌, length, get_or, sym, refl, ap, ◌∙◌, subst, inl, inr, arith}
use Rattle.std.proofs.lemmas.Bool.{cases_eq}
use Rattle.labelling.specs.Labels.{Rule}
use Rattle.mesh.specs.Prices.{price, first, to_prices}
use Rattle.mesh.proofs.Levels.{first-levels}
use Rattle.cells.specs.Corners.{Wall, outer_wall, real_wall, good_wall, On, outer_label, skip}
use Rattle.cells.specs.Counting.{bound}
use Rattle.cells.specs.Triangulation.{Shape, wall, moved, Mesh, Lawful, FacetOn, Neighbour}
use Rattle.cells.proofs.Addresses.{addresses-bounded}
use Rattle.path.specs.Legs.{label_at, ProperAt, Drops}
use Rattle.path.specs.Lists.{In, Single}
use Rattle.path.proofs.Trail.{Trail, Settled}
use Rattle.cells.proofs.Places.{among, among_below, skip-le, skip-other, skip-apart, skip-among}
use Rattle.path.proofs.Outer.{outer-label}
use Rattle.path.proofs.Settling.{settled-start, settled-kept, settled-next, settled-each, outer-at}
use Rattle.path.proofs.Singles.{in-get_or, single-apart}

module _ {g D : ℕ} (M : Mesh Shape g D) (L : Rule) (c : List ℕ) (two : 2 ≤ g) (one : 1 ≤ D) (lawful : Lawful M) (admits : T (M.admitted c)) where
  pub trail-cell : (before : List Shape) (a : Shape) (n : ℕ) → Trail M L c before a n → M.is_cell a
  trail-cell [] a n t = subst M.is_cell (sym t.0) (lawful.start_cell c admits)
  trail-cell (b ∷ bs) a n (m, d, t, drops, way) = (lawful.neighbour b (trail-cell bs b m t) d drops.place a n way).cell

  -- The cell that the walk enters is the neighbour of the one before.
  entered : (bs : List Shape) (b : Shape) (m d : ℕ) (a : Shape) (n : ℕ) → Trail M L c bs b m → Drops M L c b m d → M.across b d ≡ moved a n → Neighbour M b d a n
  entered bs b m d a n t drops way = lawful.neighbour b (trail-cell bs b m t) d drops.place a n way

  pub trail-newest : (before : List Shape) (a : Shape) (n : ℕ) → Trail M L c before a n → n ≤ g
  trail-newest [] a n t = subst (λ k. k ≤ g) (sym t.1) (lawful.home_place c admits)
  trail-newest (b ∷ bs) a n (m, d, t, drops, way) = (entered bs b m d a n t drops way).place

  pub trail-settled : (before : List Shape) (a : Shape) (n : ℕ) → Trail M L c before a n → Settled M L c a n
  trail-settled [] a n t = subst (λ z. Settled M L c z n) (sym t.0) (subst (Settled M L c (M.start c)) (sym t.1) (settled-start M L c lawful admits))
  trail-settled (b ∷ bs) a n (m, d, t, drops, way) =
      settled-next M L c b d a n (entered bs b m d a n t drops way) (settled-kept M L c b m d (trail-settled bs b m t) drops)

  pub trail-double : (before : List Shape) (a : Shape) (n : ℕ) → Trail M L c before a n → ProperAt M L c a n → (d : ℕ) × Drops M L c a n d
  trail-double before a n t proper =
      let r = settled-each M L c a n (trail-newest before a n t) (trail-settled before a n t) (label_at M L c a n) proper.low proper.high in
      (r.0, record { proper = proper; place = r.1; other = r.2; same = r.3 })

  pub one-double : (before : List Shape) (a : Shape) (n d e : ℕ) → Trail M L c before a n → Drops M L c a n d → Drops M L c a n e → d ≡ e
  one-double before a n d e t x y =
      (trail-settled before a n t).apart d e x.place y.place x.other y.other (x.same ∙ sym y.same)

  -- The labels of the corners that are kept.
  kept : (before : List Shape) (a : Shape) (n d : ℕ) → Trail M L c before a n → Drops M L c a n d → Settled M L c a d
  kept before a n d t drops = settled-kept M L c a n d (trail-settled before a n t) drops

  pub kept-apart : (before : List Shape) (a : Shape) (n d : ℕ) → Trail M L c before a n → Drops M L c a n d
      → (i k : ℕ) → i ≤ g → k ≤ g → (i ≡ d → ⊥) → (k ≡ d → ⊥) → label_at M L c a i ≡ label_at M L c a k → i ≡ k
  kept-apart before a n d t drops = (kept before a n d t drops).apart

  -- The labels of the corners that are kept are the goods, each once.
  pub good-found : (before : List Shape) (a : Shape) (n d : ℕ) → Trail M L c before a n → Drops M L c a n d
      → (j : ℕ) → 1 ≤ j → j ≤ g → (i : ℕ) × (i ≤ g) × (i ≡ d → ⊥) × (label_at M L c a i ≡ j)
  good-found before a n d t drops = settled-each M L c a d drops.place (kept before a n d t drops)

  -- Where the walk comes from b, whose corner at d it drops, the cell a lies across, and n is the place of the new corner there.
  module _ (b : Shape) (d : ℕ) (a : Shape) (n : ℕ) (settled : Settled M L c a n) (back : M.across a n ≡ moved b d) where
    -- The place n is not where the walk entered a first: across that lies the cell before, or a wall.
    not-newest : (bs : List Shape) (x : Shape) (m : ℕ) → Trail M L c bs x m → (In b bs → ⊥) → a ≡ x → n ≡ m → ⊥
    not-newest [] x m t out same here =
        let no_way = lawful.no_way (M.start c) (lawful.start_cell c admits) (M.home c) (lawful.home_place c admits) outer_wall tt (lawful.starts c admits).outer in
        let is-start : a ≡ M.start c = same ∙ t.0 in
        let is_home : n ≡ M.home c = here ∙ t.1 in
        let stops : M.across (M.start c) (M.home c) ≡ wall no_way.0 = no_way.1 in
        let z : ◌≡◌ {A = ℕ} 0 1 = cc in
        omega arith
    not-newest (y ∷ ys) x m (k, e, t, drops, way) out same here =
        let returns = (entered ys y k e x m t drops way).back in
        out (inl cc)

    -- The cell a is none of the cells bs that the walk went through before e, if b is none of them and e is not b with its newest corner at d.
    fresh : (bs : List Shape) (e : Shape) (k : ℕ) → Trail M L c bs e k → (e ≡ b → k ≡ d → ⊥) → (In b bs → ⊥) → In a bs → ⊥
    fresh [] e k t last out here = here
    fresh (x ∷ xs) e k (m, f, t, drops, way) last out (inl same) =
        elim (cases_eq m n) [
          | inl here ↦ not-newest xs x m t (λ i. out (inr i)) same (sym here)
          | inr not-m ↦ elim (cases_eq f n) [
            | inl here ↦ last (cc) (cc)
            | inr not_f ↦ drops.other (settled.apart f m drops.place (trail-newest xs x m t) not_f not-m (subst (λ z. label_at M L c z f ≡ label_at M L c z m) (sym same) drops.same))
          ]
        ]
    fresh (x ∷ xs) e k (m, f, t, drops, way) last out (inr later) = fresh xs x m t (λ e h. out (inl (sym e))) (λ i. out (inr i)) later

  pub trail-single : (before : List Shape) (a : Shape) (n : ℕ) → Trail M L c before a n → Single (a ∷ before)
  trail-single [] a n t = (λ i. i, tt)
  trail-single (b ∷ bs) a n (m, d, t, drops, way) =
      let next = entered bs b m d a n t drops way in
      let rest = trail-single bs b m t in
      let settled = settled-next M L c b d a n next (kept bs b m d t drops) in (
        elim [ inl e ↦ next.other e | inr i ↦ fresh b d a n settled next.back bs b m t (λ _ h. drops.other (sym h)) rest.0 i ],
        rest,
      )

  -- All that the walk went through are cells, the start cell among them.
  trail-cells : (before : List Shape) (a : Shape) (n : ℕ) → Trail M L c before a n → (x : Shape) → In x (a ∷ before) → M.is_cell x
  trail-cells [] a n t x (inl e) = subst M.is_cell (sym e) (trail-cell [] a n t)
  trail-cells [] a n t x (inr i) = absurd i
  trail-cells (b ∷ bs) a n t x (inl e) = subst M.is_cell (sym e) (trail-cell (b ∷ bs) a n t)
  trail-cells (b ∷ bs) a n t x (inr i) = trail-cells bs b t.0 t.2 x i

  trail-start : (before : List Shape) (a : Shape) (n : ℕ) → Trail M L c before a n → In (M.start c) (a ∷ before)
  trail-start [] a n t = inl (sym t.0)
  trail-start (b ∷ bs) a n (m, d, t, drops, way) = inr (trail-start bs b m t)

  pub trail-bound : (before : List Shape) (a : Shape) (n : ℕ) → Trail M L c before a n → suc (length before) ≤ bound g D
  trail-bound before a n t =
      let cells : List Shape = a ∷ before in
      let cell : (i : ℕ) → i < length cells → M.is_cell (get_or cells i a) = λ i h. trail-cells before a n t (get_or cells i a) (in-get_or a cells i h) in
      addresses-bounded g D (length cells) (λ i. M.address (get_or cells i a)) (λ i h. lawful.address_size (get_or cells i a) (cell i h))
      (λ i h. lawful.address_small (get_or cells i a) (cell i h)) (λ i h. lawful.address_full (get_or cells i a) (cell i h))
      (λ i j hi hj e. single-apart a cells (trail-single before a n t) i j hi hj (lawful.addressed (get_or cells i a) (get_or cells j a) (cell i hi) (cell j hj) e))

  -- A corner that is kept lies on the wall that all of these lie on.
  on-kept : (w : Wall) (a : Shape) (d i : ℕ) → FacetOn M w a d → d ≤ g → i ≤ g → (i ≡ d → ⊥) → On D w (M.corner a i)
  on-kept w a d i on hd hi ne = subst (λ p. On D w (M.corner a p)) (skip-among d i ne) (on (among d i) (among_below g d i hd hi ne))

  -- The kept corners do not all lie on the wall of a good: one of them is labelled by it, and has a price of it.
  not_good : (before : List Shape) (a : Shape) (n d j : ℕ) → Trail M L c before a n → Drops M L c a n d → 1 ≤ j → j ≤ g → FacetOn M (good_wall j) a d → ⊥
  not_good before a n d j t drops low high on =
      let r = good-found before a n d t drops j low high in
      let priced : 0 < price (to_prices (M.corner a r.0)) (label_at M L c a r.0) = ((kept before a n d t drops).proper r.0 r.1 r.2).priced in
      let none : price (to_prices (M.corner a r.0)) j ≡ 0 = on-kept (good_wall j) a d r.0 on drops.place r.1 r.2 in
      omega (arith, ap (price (to_prices (M.corner a r.0))) r.3)

  -- If they all lay on the outer wall, the walk would be in its start cell.
  outer_start : (before : List Shape) (a : Shape) (n d : ℕ) → Trail M L c before a n → Drops M L c a n d → FacetOn M outer_wall a d → a ≡ M.start c
  outer_start before a n d t drops on =
      let s = kept before a n d t drops in
      let is : (k : ℕ) → k < g → label_at M L c a (skip d k) ≡ outer_label c (M.corner a (skip d k)) = λ k h. outer-label g D L c (M.corner a (skip d k)) (on k h) in
      lawful.only_start c admits a (trail-cell before a n t) d drops.place
      (record {
        outer = on;
        low = λ k h. subst (λ l. 1 ≤ l) (is k h) (s.proper (skip d k) (skip-le g d k h) (skip-other d k)).low;
        high = λ k h. subst (λ l. l ≤ g) (is k h) (s.proper (skip d k) (skip-le g d k h) (skip-other d k)).high;
        apart = λ i k hi hk e. skip-apart d i k
            (s.apart (skip d i) (skip d k) (skip-le g d i hi) (skip-le g d k hk) (skip-other d i) (skip-other d k) (is i hi ∙ e ∙ sym (is k hk)));
      })

  -- But there its newest corner is real, and later it does not come back.
  not-outer : (before : List Shape) (a : Shape) (n d : ℕ) → Trail M L c before a n → Drops M L c a n d → FacetOn M outer_wall a d → ⊥
  not-outer [] a n d t drops on =
      let outer : first (M.corner a n) ≡ suc D = on-kept outer_wall a d n on drops.place (trail-newest [] a n t) (λ e. drops.other (sym e)) in
      let start : M.corner a n ≡ M.corner (M.start c) (M.home c) = ap (λ z. M.corner z n) t.0 ∙ ap (M.corner (M.start c)) t.1 in
      omega (arith, ap first (start ∙ lawful.home_corner c admits), first-levels c, (lawful.points c admits).1)
  not-outer (b ∷ bs) a n d t drops on =
      (trail-single (b ∷ bs) a n t).0 (subst (λ z. In z (b ∷ bs)) (sym (outer_start (b ∷ bs) a n d t drops on)) (trail-start bs b t.0 t.2))

  pub trail-wall : (before : List Shape) (a : Shape) (n d : ℕ) (w : Wall) → Trail M L c before a n → Drops M L c a n d → M.across a d ≡ wall w → w ≡ real_wall
  trail-wall before a n d real_wall t drops way = refl
  trail-wall before a n d outer_wall t drops way = absurd (not-outer before a n d t drops (lawful.at_wall a (trail-cell before a n t) d drops.place outer_wall way).1)
  trail-wall before a n d (good_wall j) t drops way =
      let r = lawful.at_wall a (trail-cell before a n t) d drops.place (good_wall j) way in
      absurd (not_good before a n d j t drops r.0.0 r.0.1 r.1)

  pub trail-real : (before : List Shape) (a : Shape) (n : ℕ) → Trail M L c before a n → (ProperAt M L c a n → ⊥) → first (M.corner a n) ≡ D
  trail-real before a n t improper =
      let cell = trail-cell before a n t in
      let place = trail-newest before a n t in
      elim (lawful.corners a cell n place).top [
        | inl real ↦ real
        | inr outer ↦ absurd (improper (outer-at M L c lawful admits a cell n place outer))
      ]
