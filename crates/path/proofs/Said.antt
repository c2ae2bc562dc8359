-- What the last answer tells of the stage: a walk that named a corner has halted there, and nothing is refused with 10.
use Rattle.std.proofs.Common.{◌≡◌, ℕ, ◌≤◌, List, [], ◌∷◌, refl, ap, subst, inl, inr, arith}
use Rattle.mesh.specs.Refusals.{Told}
use Rattle.labelling.specs.Labels.{Rule}
use Rattle.cells.specs.Triangulation.{Shape, Mesh, Lawful}
use Rattle.path.specs.Path.{Opening, Call, step, look, look_for, refine, Stage, halted, Answer, began, went, ticket, named, sight, prices, refused, Path, DropsOn, Blocked, Steps, halts, arrives, moves, not_walking, blocked, Finds, finds, not_arrived, no_good, Refines, refines, not_accepted, no_factor, too_fine, not_admitted, Leads}
use Rattle.path.proofs.Sound.{Sound, sound, room}
use Rattle.path.proofs.OneLeg.{real-wall}

abbrev pub Tells : Stage → Answer → Type 0
Tells s began = Unit {0}
Tells s went = Unit {0}
Tells s (ticket number mesh) = Unit {0}
Tells s (named x n) = s ≡ halted x n
Tells s (sight v) = Unit {0}
Tells s (prices x) = Unit {0}
Tells s (refused t) = t ≡ (10, []) → ⊥

not-ten : (n : ℕ) → (n ≡ 10 → ⊥) → ◌≡◌ {A = Told} (n, []) (10, []) → ⊥
not-ten n other e = other (ap (λ t. t.0) e)

module _ (T : (g D : ℕ) → Mesh Shape g D) (L : Rule) (o : Opening) (lawful : (g D : ℕ) → 2 ≤ g → 1 ≤ D → Lawful (T g D)) where
  -- A walk is never blocked.
  pub open-way : (q : Path) → Sound T L o q → (d : ℕ) → DropsOn T L o q.leg d → Blocked T L o q d → ⊥
  open-way q s d drops (inl (w, across, other)) = other (real-wall T L o lawful q.leg s.goods s.leg d w drops across)
  open-way q s d drops (inr (b, k, across, full)) = let r = room T L o lawful q s in omega arith

  step-tells : (q p : Path) → Sound T L o q → Steps T L o q p → Tells p.stage p.said
  step-tells q p s (halts h) = rw h.then refl
  step-tells q p s (arrives h) = rw h.then tt
  step-tells q p s (moves h) = rw h.then tt
  step-tells q p s (not_walking n e) = rw e (not-ten 8 (λ z. omega arith))
  step-tells q p s (blocked w d h b e) = absurd (open-way q s d h b)

  find-tells : (j : ℕ) (q p : Path) → Finds T L o j q p → Tells p.stage p.said
  find-tells j q p (finds d i a g c e) = rw e tt
  find-tells j q p (not_arrived n e) = rw e (not-ten 9 (λ z. omega arith))
  find-tells j q p (no_good a n e) = rw e (not-ten 11 (λ z. omega arith))

  refine-tells : (number mesh f : ℕ) (q p : Path) → Refines T L o number mesh f q p → Tells p.stage p.said
  refine-tells number mesh f q p (refines a factor fits d i at c admits e) = rw e tt
  refine-tells number mesh f q p (not_accepted n e) = rw e (not-ten 5 (λ z. omega arith))
  refine-tells number mesh f q p (no_factor a n e) = rw e (not-ten 6 (λ z. omega arith))
  refine-tells number mesh f q p (too_fine a factor n e) = rw e (not-ten 7 (λ z. omega arith))
  refine-tells number mesh f q p (not_admitted a factor fits d i at c n e) = rw e (not-ten 4 (λ z. omega arith))

  pub tells : (calls : List Call) (p : Path) → Leads T L o calls p → Tells p.stage p.said
  tells [] p h = rw h.then tt
  tells (step ∷ calls) p (q, before, h) = step-tells q p (sound T L o lawful calls q before) h
  tells (look ∷ calls) p (q, before, h) = rw h tt
  tells (look_for j ∷ calls) p (q, before, h) = find-tells j q p h
  tells (refine number mesh f ∷ calls) p (q, before, h) = refine-tells number mesh f q p h

  pub names : (calls : List Call) (p : Path) → Leads T L o calls p → (x : List ℕ) (n : ℕ) → p.said ≡ named x n → p.stage ≡ halted x n
  names calls p h x n e = subst (Tells p.stage) e (tells calls p h)

  pub never_ten : (calls : List Call) (p : Path) → Leads T L o calls p → p.said ≡ refused (10, []) → ⊥
  never_ten calls p h e = subst (Tells p.stage) e (tells calls p h) refl
