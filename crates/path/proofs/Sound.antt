-- Every leg of a path is a walk on one mesh, and the stage is what its last step made it.
--   OnTrail    a leg is a walk on its mesh
--   Ending     what a stage says of the leg
--   Sound      all of it, of a path
use Rattle.std.proofs.Common.{◌≡◌, ℕ, suc, ◌*◌, ◌^◌, ◌<◌, ◌≤◌, T as Holds, List, [], ◌∷◌, length, refl, ap, subst, mul-le-mul_right, arith}
use Rattle.std.specs.List.{AllByRecursion}
use Rattle.mesh.specs.Range.{most, fit_goods, fit_mesh}
use Rattle.labelling.specs.Labels.{Rule}
use Rattle.cells.specs.Corners.{real_wall}
use Rattle.cells.specs.Counting.{bound}
use Rattle.cells.specs.Triangulation.{Shape, wall, Mesh, Lawful}
use Rattle.path.specs.Path.{Opening, Call, step, look, look_for, refine, Leg, Stage, walking, arrived, halted, Answer, Path, entered, total_of, limit, entries, saying, prices_on, label_on, ProperOn, DropsOn, across_on, Halts, Arrives, Moves, Steps, halts, arrives, moves, not_walking, blocked, Finds, finds, not_arrived, no_good, Refines, refines, not_accepted, no_factor, too_fine, not_admitted, Opens, Leads}
use Rattle.path.proofs.Powers.{in-range, range-in, past_more, few}
use Rattle.path.proofs.OneMesh.{trail-bound}
use Rattle.path.proofs.Trail.{Trail}

module _ (T : (g D : ℕ) → Mesh Shape g D) (L : Rule) (o : Opening) where
  pub record OnTrail (l : Leg) : Type 0 where
    pub mesh : Holds (fit_mesh o.goods l.mesh)
    pub admits : Holds ((T o.goods l.mesh).admitted l.start)
    pub trail : Trail (T o.goods l.mesh) L l.start l.before l.cell l.newest

  -- What the stage says of the leg, and of its granted steps: each of them but the last entered a cell, and the last did too while the walk goes on.
  abbrev pub Ending : Leg → Stage → Type 0
  Ending l walking = l.steps ≡ length l.before
  Ending l (arrived d) = DropsOn T L o l d × (across_on T L o l d ≡ wall real_wall) × (l.steps ≡ suc (length l.before))
  Ending l (halted x n) = (ProperOn T L o l → ⊥) × (x ≡ prices_on T L o l l.newest) × (n ≡ label_on T L o l l.newest) × (l.steps ≡ suc (length l.before))

  pub record Sound (p : Path) : Type 0 where
    pub goods : Holds (fit_goods o.goods)
    pub leg : OnTrail p.leg
    pub earlier : AllByRecursion OnTrail p.earlier
    pub ending : Ending p.leg p.stage
    -- before the latest leg on the mesh D at most D^g cells were entered
    pub past : entries p.earlier ≤ p.leg.mesh ^ o.goods

  -- Another answer alters nothing of it.
  pub sound-saying : (q : Path) (a : Answer) → Sound q → Sound (saying q a)
  sound-saying q a s = record { goods = s.goods; leg = s.leg; earlier = s.earlier; ending = s.ending; past = s.past }

  -- The path p is q with another answer.
  pub sound-said : (q p : Path) (a : Answer) → p ≡ saying q a → Sound q → Sound p
  sound-said q p a e s = rw e (sound-saying q a s)

  sound-opened : (p : Path) → Opens T L o p → Sound p
  sound-opened p h =
      rw h.then
      (record { goods = h.goods; leg = record { mesh = h.mesh; admits = h.admits; trail = (refl, refl) }; earlier = tt; ending = refl; past = omega arith })

  -- The walk goes on while it is walking.
  walked : (q : Path) → Sound q → q.stage ≡ walking → q.leg.steps ≡ length q.leg.before
  walked q s e = subst (Ending q.leg) e s.ending

  sound-halted : (q p : Path) → Sound q → Halts T L o q p → Sound p
  sound-halted q p s h =
      rw h.then
      (record {
        goods = s.goods;
        leg = record { mesh = s.leg.mesh; admits = s.leg.admits; trail = s.leg.trail };
        earlier = s.earlier;
        ending = (h.improper, refl, refl, ap suc (walked q s h.walks));
        past = s.past;
      })

  sound-arrived : (q p : Path) → Sound q → Arrives T L o q p → Sound p
  sound-arrived q p s h =
      rw h.then
      (record {
        goods = s.goods;
        leg = record { mesh = s.leg.mesh; admits = s.leg.admits; trail = s.leg.trail };
        earlier = s.earlier;
        ending = (h.drops, h.real, ap suc (walked q s h.walks));
        past = s.past;
      })

  sound-moved : (q p : Path) → Sound q → Moves T L o q p → Sound p
  sound-moved q p s h =
      rw h.then
      (record {
        goods = s.goods;
        leg = record { mesh = s.leg.mesh; admits = s.leg.admits; trail = (q.leg.newest, h.dropped, s.leg.trail, h.drops, h.moves) };
        earlier = s.earlier;
        ending = ap suc (walked q s h.walks);
        past = s.past;
      })

  sound-stepped : (q p : Path) → Sound q → Steps T L o q p → Sound p
  sound-stepped q p s (halts h) = sound-halted q p s h
  sound-stepped q p s (arrives h) = sound-arrived q p s h
  sound-stepped q p s (moves h) = sound-moved q p s h
  sound-stepped q p s (not_walking n e) = sound-said q p _ e s
  sound-stepped q p s (blocked w d h b e) = sound-said q p _ e s

  sound-found : (j : ℕ) (q p : Path) → Sound q → Finds T L o j q p → Sound p
  sound-found j q p s (finds d i a g c e) = sound-said q p _ e s
  sound-found j q p s (not_arrived n e) = sound-said q p _ e s
  sound-found j q p s (no_good a n e) = sound-said q p _ e s

  module _ (lawful : (g D : ℕ) → 2 ≤ g → 1 ≤ D → Lawful (T g D)) where
    -- On a leg no more cells were entered than the bound of its mesh.
    pub leg-bound : (l : Leg) → Holds (fit_goods o.goods) → OnTrail l → length (entered l) ≤ bound o.goods l.mesh
    leg-bound l goods h =
        let two = (in-range 2 8 o.goods goods).0 in
        let one = (in-range 1 (most o.goods) l.mesh h.mesh).0 in
        trail-bound (T o.goods l.mesh) L l.start two one (lawful o.goods l.mesh two one) h.admits l.before l.cell l.newest h.trail

    sound-refined : (number mesh f : ℕ) (q p : Path) → Sound q → Refines T L o number mesh f q p → Sound p
    sound-refined number mesh f q p s (refines a factor fits d i at c admits e) =
        let one = (in-range 1 (most o.goods) q.leg.mesh s.leg.mesh).0 in
        let low : 1 ≤ f * q.leg.mesh = omega (arith, mul-le-mul_right q.leg.mesh factor.0) in
        rw e
        (record {
          goods = s.goods;
          leg = record { mesh = range-in 1 (most o.goods) (f * q.leg.mesh) low fits; admits = admits; trail = (refl, refl) };
          earlier = (s.leg, s.earlier);
          ending = refl;
          past = past_more o.goods q.leg.mesh f (length (entered q.leg)) (entries q.earlier) factor.0 one (leg-bound q.leg s.goods s.leg) s.past;
        })
    sound-refined number mesh f q p s (not_accepted n e) = sound-said q p _ e s
    sound-refined number mesh f q p s (no_factor a n e) = sound-said q p _ e s
    sound-refined number mesh f q p s (too_fine a factor n e) = sound-said q p _ e s
    sound-refined number mesh f q p s (not_admitted a factor fits d i at c n e) = sound-said q p _ e s

    pub sound : (calls : List Call) (p : Path) → Leads T L o calls p → Sound p
    sound [] p h = sound-opened p h
    sound (step ∷ calls) p (q, before, h) = sound-stepped q p (sound calls q before) h
    sound (look ∷ calls) p (q, before, h) = sound-said q p _ h (sound calls q before)
    sound (look_for j ∷ calls) p (q, before, h) = sound-found j q p (sound calls q before) h
    sound (refine number mesh f ∷ calls) p (q, before, h) = sound-refined number mesh f q p (sound calls q before) h

    -- There is room for one more cell.
    pub room : (p : Path) → Sound p → total_of p < limit
    room p s = few o.goods p.leg.mesh _ _ s.goods s.leg.mesh (leg-bound p.leg s.goods s.leg) s.past
