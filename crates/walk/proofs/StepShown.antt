-- A step of a run is a step of its path.
--   step-idle       a run that is not walking refuses
--   step-halts      an improper label halts it
--   step-double     a proper one has a double
--   step-crosses    the run goes where the way across the dropped corner leads
use Rattle.std.proofs.Common.{◌≡◌, ℕ, ◌≤◌, true, false, ◌&&◌, ltb, leb, List, [], ◌∷◌, sym, refl, ap, ◌∙◌, subst, arith}
use Rattle.std.proofs.lemmas.Bool.{false≢true, both_ways, leb-true, ltb-true, lt-ltb, le-leb, and_parts, and_from, cond-true}
use Rattle.mesh.specs.Prices.{price, to_prices}
use Rattle.labelling.specs.Labels.{Rule, Proper}
use Rattle.cells.specs.Corners.{real_wall, outer_wall, good_wall}
use Rattle.cells.specs.Triangulation.{Shape, Across, wall, moved, Mesh, Lawful}
use Rattle.path.specs.Legs.{label}
use Rattle.path.specs.Path.{Opening, Call, step, Stage, walking, arrived, halted, Answer, named, refused, Path, refuses, corner_on, label_on, ProperOn, DropsOn, across_on, Steps, halts, arrives, moves, not_walking, Leads}
use Rattle.path.proofs.OneLeg.{real-wall}
use Rattle.path.proofs.Sound.{Sound, sound, room}
use Rattle.path.proofs.Theorems.{claimed}
use Rattle.state.specs.Views.{View, view_of, levels_at, walks_at, is_proper, NoCarrier, Carrier, halting}
use Rattle.state.specs.declared.record.State.{State}
use Rattle.walk.specs.Records.{crossed}
use Rattle.walk.specs.Showing.{standing, Goes}
use Rattle.walk.proofs.Standing.{label_now, levels-shown, label-shown, label-now, on-mesh, in_cell, place-there, newest-double}
use Rattle.walk.proofs.Tables.{on_halt, on_arrival, on_entry, halted-view, arrived-view, entered-view}

walks_at-is : (stage : Stage) → walks_at stage ≡ true → stage ≡ walking
walks_at-is walking h = refl
walks_at-is (arrived d) h = absurd (false≢true h)
walks_at-is (halted x l) h = absurd (false≢true h)

-- No other wall is the real one.
outer-real : outer_wall ≡ real_wall → ⊥
outer-real e = let z : ◌≡◌ {A = ℕ} 0 1 = cc in omega arith

good-real : (j : ℕ) → good_wall j ≡ real_wall → ⊥
good-real j e = let z : ◌≡◌ {A = ℕ} 0 1 = cc in omega arith

-- The test of a proper label.
proper-true : (g : ℕ) (u : List ℕ) (l : ℕ) → is_proper g u l ≡ true → Proper g (to_prices u) l
proper-true g u l h =
    let first = and_parts (leb 1 l) (leb l g && ltb 0 (price (to_prices u) l)) h in
    let rest = and_parts (leb l g) (ltb 0 (price (to_prices u) l)) first.1 in
    record { low = leb-true 1 l first.0; high = leb-true l g rest.0; priced = ltb-true 0 (price (to_prices u) l) rest.1 }

proper-false : (g : ℕ) (u : List ℕ) (l : ℕ) → is_proper g u l ≡ false → Proper g (to_prices u) l → ⊥
proper-false g u l h p =
    both_ways (is_proper g u l) h
    (and_from (leb 1 l) (leb l g && ltb 0 (price (to_prices u) l)) (le-leb 1 l p.low)
    (and_from (leb l g) (ltb 0 (price (to_prices u) l)) (le-leb l g p.high) (lt-ltb 0 (price (to_prices u) l) p.priced)))

module _ (T : (g D : ℕ) → Mesh Shape g D) (L : Rule) (o : Opening) (lawful : (g D : ℕ) → 2 ≤ g → 1 ≤ D → Lawful (T g D)) (calls : List Call) (p : Path)
    (leads : Leads T L o calls p) where
  sane : Sound T L o p
  sane = sound T L o lawful calls p leads

  newest-there : p.leg.newest ≤ o.goods
  newest-there = place-there T L o lawful p sane

  -- A step by the rules of a path.
  goes : (r : Path) → Steps T L o p r → (s : State) → view_of s ≡ standing T L o r → Goes T L o calls step r.said s
  goes r steps s shows = record { path = r; leads = (p, leads, steps); says = refl; shows = shows; claim = claimed T L o lawful (step ∷ calls) r (p, leads, steps) }

  pub step-idle : (v : View) → v ≡ standing T L o p → walks_at v.sight.stage ≡ false → (s : State) → view_of s ≡ v → Goes T L o calls step (refused (8, [])) s
  step-idle v e = rw e (λ idle s shows. goes (refuses p 8) (not_walking (λ walks. both_ways (walks_at p.stage) idle (ap walks_at walks)) refl) s shows)

  -- At the levels u of the newest corner.
  halts_at : (u : List ℕ) → u ≡ corner_on T L o p.leg p.leg.newest → p.stage ≡ walking
      → is_proper o.goods u (label o.goods p.leg.mesh L p.leg.start u) ≡ false
      → (s : State) → view_of s ≡ halting (standing T L o p) (label o.goods p.leg.mesh L p.leg.start u)
      → Goes T L o calls step (named (to_prices u) (label o.goods p.leg.mesh L p.leg.start u)) s
  halts_at u e =
      rw e
      (λ walks not-proper s shows.
      let improper = proper-false o.goods (corner_on T L o p.leg p.leg.newest) (label_on T L o p.leg p.leg.newest) not-proper in
      goes (on_halt T L o p) (halts (record { walks = walks; improper = improper; then = refl })) s (shows ∙ halted-view T L o p newest-there))

  pub step-halts : (v : View) → v ≡ standing T L o p → walks_at v.sight.stage ≡ true
      → is_proper v.sight.goods (levels_at v v.newest) (label_now L v) ≡ false
      → (s : State) → view_of s ≡ halting v (label_now L v) → Goes T L o calls step (named (to_prices (levels_at v v.newest)) (label_now L v)) s
  step-halts v e = rw e (λ walks. halts_at _ (levels-shown T L o p p.leg.newest newest-there) (walks_at-is p.stage walks))

  -- The newest label is proper by its test.
  proper-here : is_proper o.goods (levels_at (standing T L o p) p.leg.newest) (label_now L (standing T L o p)) ≡ true → ProperOn T L o p.leg
  proper-here h =
      subst (λ u. Proper o.goods (to_prices u) (label o.goods p.leg.mesh L p.leg.start u)) (levels-shown T L o p p.leg.newest newest-there)
      (proper-true o.goods (levels_at (standing T L o p) p.leg.newest) (label_now L (standing T L o p)) h)

  pub step-double : (v : View) → v ≡ standing T L o p → walks_at v.sight.stage ≡ true
      → is_proper v.sight.goods (levels_at v v.newest) (label_now L v) ≡ true → NoCarrier v (label_now L v) v.newest → ⊥
  step-double v e =
      rw e
      (λ walks proper none.
      let double = newest-double T L o lawful p sane (proper-here proper) in
      let d = double.0 in
      let drops = double.1 in
      none d drops.place drops.other (label-shown T L o p d drops.place drops.other ∙ drops.same ∙ sym (label-now T L o p newest-there)))

  -- The corner that carries the newest label is the one that is dropped.
  drops-here : is_proper o.goods (levels_at (standing T L o p) p.leg.newest) (label_now L (standing T L o p)) ≡ true
      → (d : ℕ) → Carrier (standing T L o p) (label_now L (standing T L o p)) p.leg.newest d → DropsOn T L o p.leg d
  drops-here proper d (place, other, carries) =
      record {
        proper = proper-here proper;
        place = place;
        other = other;
        same = sym (label-shown T L o p d place other) ∙ carries ∙ label-now T L o p newest-there;
      }

  -- By what lies across the dropped corner.
  crosses-at : p.stage ≡ walking → (d : ℕ) → DropsOn T L o p.leg d → (x : Across Shape) → across_on T L o p.leg d ≡ x → (a : Answer) (s : State)
      → (a, view_of s) ≡ crossed (T o.goods p.leg.mesh) (standing T L o p) d (label_on T L o p.leg p.leg.newest) x
      → Goes T L o calls step a s
  crosses-at walks d drops (wall real_wall) way a s e =
      rw (ap (λ z. z.0) e)
      (goes (on_arrival T L o p d) (arrives (record { walks = walks; dropped = d; drops = drops; real = way; then = refl })) s
      (ap (λ z. z.1) e ∙ arrived-view T L o p newest-there d))
  crosses-at walks d drops (wall outer_wall) way a s e = absurd (outer-real (real-wall T L o lawful p.leg sane.goods sane.leg d outer_wall drops way))
  crosses-at walks d drops (wall (good_wall j)) way a s e = absurd (good-real j (real-wall T L o lawful p.leg sane.goods sane.leg d (good_wall j) drops way))
  crosses-at walks d drops (moved b k) way a s e =
      let free = room T L o lawful p sane in
      let enters = e ∙ cond-true _ _ _ (lt-ltb _ _ free) in
      let next = (on-mesh T L o lawful p sane).neighbour p.leg.cell (in_cell T L o lawful p sane) d drops.place b k way in
      rw (ap (λ z. z.0) enters)
      (goes (on_entry T L o p b k) (moves (record { walks = walks; dropped = d; drops = drops; next = b; place = k; moves = way; room = free; then = refl })) s
      (ap (λ z. z.1) enters ∙ entered-view T L o p newest-there walks d b k next))

  pub step-crosses : (v : View) → v ≡ standing T L o p → walks_at v.sight.stage ≡ true
      → is_proper v.sight.goods (levels_at v v.newest) (label_now L v) ≡ true → (d : ℕ) → Carrier v (label_now L v) v.newest d
      → (a : Answer) (s : State)
      → (a, view_of s) ≡ crossed (T v.sight.goods v.sight.mesh) v d (label_now L v) ((T v.sight.goods v.sight.mesh).across v.cell d)
      → Goes T L o calls step a s
  step-crosses v e =
      rw e
      (λ walks proper d carrier a s is.
      crosses-at (walks_at-is p.stage walks) d (drops-here proper d carrier) (across_on T L o p.leg d) refl a s
      (is ∙ ap (λ l. crossed (T o.goods p.leg.mesh) (standing T L o p) d l (across_on T L o p.leg d)) (label-now T L o p newest-there)))
