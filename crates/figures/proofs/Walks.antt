-- Walks by computation: where so many steps from an opening lead, and a test that they lead there.
--   is_proper, drops_on, dropped   whether a label is proper, whether a corner is dropped, and which one is
--   after, passes                the path after one more step, and its test
--   walk, passable               the path after so many steps, and its test
--   walk-leads                   where the test passes, the steps lead to that path
use Rattle.std.proofs.Common.{◌≡◌, ℕ, zero, suc, Bool, true, false, cond, not, ◌&&◌, T as Holds, eqb, ltb, leb, List, [], replicate, sym, refl, subst, le→leb, eqb→eq, ltb→lt, lt→ltb, leb→le, T_not}
use lib.Dec.{eqb_refl}
use Rattle.mesh.specs.Prices.{price}
use Rattle.mesh.specs.Range.{fit_goods, fit_mesh}
use Rattle.labelling.specs.Labels.{Rule, Proper}
use Rattle.cells.specs.Corners.{outer_wall, real_wall, good_wall}
use Rattle.cells.specs.Triangulation.{Shape, Across, wall, moved, Mesh}
use Rattle.path.specs.Path.{Opening, step, Leg, Stage, walking, arrived, halted, began, went, ticket, named, Path, total_of, limit, stepped, enters, begins, prices_on, label_on, DropsOn, across_on, Steps, halts, arrives, moves, Leads}

both : (a b : Bool) → Holds (a && b) → Holds a × Holds b
both true b h = (tt, h)
both false b h = absurd h

and : (a b : Bool) → Holds a → Holds b → Holds (a && b)
and true b h k = k
and false b h k = h

-- The label l is proper at the prices x of g goods.
abbrev pub is_proper : ℕ → List ℕ → ℕ → Bool
is_proper g x l = leb 1 l && (leb l g && ltb 0 (price x l))

proper-by : (g : ℕ) (x : List ℕ) (l : ℕ) → Holds (is_proper g x l) → Proper g x l
proper-by g x l h =
    let p = both (leb 1 l) _ h in
    let q = both (leb l g) _ p.1 in
    record { low = leb→le 1 l p.0; high = leb→le l g q.0; priced = ltb→lt 0 (price x l) q.1 }

by-proper : (g : ℕ) (x : List ℕ) (l : ℕ) → Proper g x l → Holds (is_proper g x l)
by-proper g x l p = and (leb 1 l) _ (le→leb 1 l p.low) (and (leb l g) _ (le→leb l g p.high) (lt→ltb 0 (price x l) p.priced))

-- The largest number from 1 to n that passes the test; 0 if there is none.
abbrev pub sought : ℕ → (ℕ → Bool) → ℕ
sought zero test = 0
sought (suc n) test = cond (test (suc n)) (suc n) (sought n test)

abbrev pub is_walking : Stage → Bool
is_walking walking = true
is_walking (arrived d) = false
is_walking (halted x l) = false

walking-by : (s : Stage) → Holds (is_walking s) → s ≡ walking
walking-by walking h = refl
walking-by (arrived d) h = absurd h
walking-by (halted x l) h = absurd h

module _ (T : (g D : ℕ) → Mesh Shape g D) (L : Rule) (o : Opening) where
  -- The newest label of the leg is proper.
  abbrev pub proper_on : Leg → Bool
  proper_on l = is_proper o.goods (prices_on T L o l l.newest) (label_on T L o l l.newest)

  -- The corner at d has the newest label and is not the newest.
  abbrev pub drops_on : Leg → ℕ → Bool
  drops_on l d = leb d o.goods && (not (eqb d l.newest) && eqb (label_on T L o l d) (label_on T L o l l.newest))

  drops-by : (l : Leg) (d : ℕ) → Holds (proper_on l) → Holds (drops_on l d) → DropsOn T L o l d
  drops-by l d proper h =
      let p = both (leb d o.goods) _ h in
      let q = both (not (eqb d l.newest)) _ p.1 in
      record {
        proper = proper-by _ _ _ proper;
        place = leb→le d _ p.0;
        other = λ e. T_not (eqb d l.newest) q.0 (subst (λ n. Holds (eqb d n)) e (eqb_refl d));
        same = eqb→eq _ _ q.1;
      }

  -- The place of the dropped corner, and what lies across it.
  abbrev pub dropped : Leg → ℕ
  dropped l = sought o.goods (drops_on l)

  abbrev pub ahead : Leg → Across Shape
  ahead l = across_on T L o l (dropped l)

  -- The path after a step from q with x ahead, and whether there is a way on.
  abbrev pub onto : Path → Across Shape → Path
  onto q (wall w) =
      record { leg = stepped q.leg; earlier = q.earlier; stage = arrived (dropped q.leg); said = ticket o.number q.leg.mesh }
  onto q (moved b k) = record { leg = enters q.leg b k; earlier = q.earlier; stage = walking; said = went }

  abbrev pub way : Path → Across Shape → Bool
  way q (wall outer_wall) = false
  way q (wall real_wall) = true
  way q (wall (good_wall j)) = false
  way q (moved b k) = ltb (total_of q) limit

  onto-steps : (q : Path) → q.stage ≡ walking → DropsOn T L o q.leg (dropped q.leg)
      → (x : Across Shape) → ahead q.leg ≡ x → Holds (way q x) → Steps T L o q (onto q x)
  onto-steps q w d (wall outer_wall) e h = absurd h
  onto-steps q w d (wall real_wall) e h = arrives (record { walks = w; dropped = dropped q.leg; drops = d; real = e; then = refl })
  onto-steps q w d (wall (good_wall j)) e h = absurd h
  onto-steps q w d (moved b k) e h =
      moves (record { walks = w; dropped = dropped q.leg; drops = d; next = b; place = k; moves = e; room = ltb→lt _ _ h; then = refl })

  -- The path after a step from q that halts.
  abbrev pub halt : Path → Path
  halt q =
      let x = prices_on T L o q.leg q.leg.newest in
      let l = label_on T L o q.leg q.leg.newest in
      record { leg = stepped q.leg; earlier = q.earlier; stage = halted x l; said = named x l }

  -- The path after a step from q, and its test.
  abbrev pub after : Path → Path
  after q = cond (proper_on q.leg) (onto q (ahead q.leg)) (halt q)

  abbrev pub passes : Path → Bool
  passes q = is_walking q.stage && cond (proper_on q.leg) (drops_on q.leg (dropped q.leg) && way q (ahead q.leg)) true

  after-steps : (q : Path) → Holds (passes q) → Steps T L o q (after q)
  after-steps q h = go (proper_on q.leg) refl (both (is_walking q.stage) _ h).1
    where
      walks : q.stage ≡ walking
      walks = walking-by q.stage (both (is_walking q.stage) _ h).0

      go : (b : Bool) → proper_on q.leg ≡ b → Holds (cond b (drops_on q.leg (dropped q.leg) && way q (ahead q.leg)) true)
          → Steps T L o q (cond b (onto q (ahead q.leg)) (halt q))
      go true e k =
          let p = both (drops_on q.leg (dropped q.leg)) _ k in
          onto-steps q walks (drops-by q.leg (dropped q.leg) (subst Holds (sym e) tt) p.0) (ahead q.leg) refl p.1
      go false e k = halts (record { walks = walks; improper = λ p. subst Holds e (by-proper _ _ _ p); then = refl })

  -- The path after n steps, and its test.
  abbrev pub walk : ℕ → Path
  walk zero = record { leg = begins T L o o.mesh o.start; earlier = []; stage = walking; said = began }
  walk (suc n) = after (walk n)

  abbrev pub passable : ℕ → Bool
  passable zero = fit_goods o.goods && (fit_mesh o.goods o.mesh && (T o.goods o.mesh).admitted o.start)
  passable (suc n) = passable n && passes (walk n)

  pub walk-leads : (n : ℕ) → Holds (passable n) → Leads T L o (replicate n step) (walk n)
  walk-leads zero h =
      let p = both (fit_goods o.goods) _ h in
      let q = both (fit_mesh o.goods o.mesh) _ p.1 in
      record { goods = p.0; mesh = q.0; admits = q.1; then = refl }
  walk-leads (suc n) h =
      let p = both (passable n) _ h in
      (walk n, walk-leads n p.0, after-steps (walk n) p.1)
