-- What is claimed of a path, from what is known of its legs and its stage.
--   all-single, all-bounded, totalled    of all legs: no cell twice, the bound, and the total
--   stands, ends                         a walk goes on or has ended, and it has ended after so many steps
--   halts_only, halts_there, no_halt     a walk halts just where the newest corner is not properly labelled
--   arrives_in                           the cell of an arrival
use Rattle.std.proofs.Common.{◌≡◌, ℕ, ◌≤◌, T as Holds, ◌⊎◌, List, [], ◌∷◌, length, refl, subst, ap₂, inl, inr, ⊎_elim, arith}
use Rattle.std.specs.List.{AllByRecursion}
use Rattle.std.proofs.ByRecursion.{All-weaker}
use Rattle.mesh.specs.Range.{fit_goods}
use Rattle.labelling.specs.Labels.{Rule}
use Rattle.cells.specs.Counting.{bound}
use Rattle.cells.specs.Triangulation.{Shape, Mesh, Lawful}
use Rattle.path.specs.Claim.{DifferentIn, AllProper, Improper, Ended, by_wall, by_halt, ArrivedCell}
use Rattle.path.specs.Lists.{Single}
use Rattle.path.specs.Path.{Opening, Leg, Stage, walking, arrived, halted, named, Path, entered, entries, Steps, halts, arrives, moves, not_walking, blocked}
use Rattle.path.proofs.Different.{all-different}
use Rattle.path.proofs.Sound.{OnTrail, Ending, Sound, leg-bound}
use Rattle.path.proofs.OneLeg.{leg-single, improper-at, improper-is, improper-not, arrived_cell}

pub totalled : (ls : List Leg) → AllByRecursion (λ l. Single (entered l)) ls → DifferentIn ls (entries ls)
totalled [] h = refl
totalled (l ∷ ls) h = (length (entered l), entries ls, all-different (entered l) h.0, totalled ls h.1, refl)

module _ (T : (g D : ℕ) → Mesh Shape g D) (L : Rule) (o : Opening) (lawful : (g D : ℕ) → 2 ≤ g → 1 ≤ D → Lawful (T g D)) where
  pub all-single : (ls : List Leg) → Holds (fit_goods o.goods) → AllByRecursion (OnTrail T L o) ls → AllByRecursion (λ l. Single (entered l)) ls
  all-single ls goods h = All-weaker _ _ (λ l on. leg-single T L o lawful l goods on) ls h

  pub all-bounded : (ls : List Leg) → Holds (fit_goods o.goods) → AllByRecursion (OnTrail T L o) ls
      → AllByRecursion (λ l. length (entered l) ≤ bound o.goods l.mesh) ls
  all-bounded ls goods h = All-weaker _ _ (λ l on. leg-bound T L o lawful l goods on) ls h

  module _ (p : Path) (s : Sound T L o p) where
    pub stands : (p.stage ≡ walking) ⊎ Ended T L o p
    stands = at p.stage refl s.ending
      where
        at : (stage : Stage) → p.stage ≡ stage → Ending T L o p.leg stage → (p.stage ≡ walking) ⊎ Ended T L o p
        at walking e h = inl e
        at (arrived d) e h = inr (by_wall d e h.0 h.1)
        at (halted x n) e h = inr (by_halt x n e)

    pub ends : bound o.goods p.leg.mesh ≤ p.leg.steps → Ended T L o p
    ends many =
        ⊎_elim
        (λ e. let steps : p.leg.steps ≡ length p.leg.before = subst (Ending T L o p.leg) e s.ending in
        absurd (omega (arith, leg-bound T L o lawful p.leg s.goods s.leg)))
        (λ ended. ended)
        stands

    pub halts_only : (x : List ℕ) (n : ℕ) → p.stage ≡ halted x n → Improper T L o p.leg x n
    halts_only x n e =
        let h = subst (Ending T L o p.leg) e s.ending in rw (h.1, h.2) (improper-at T L o lawful p.leg s.goods s.leg h.0)

    pub halts_there : p.stage ≡ walking → (x : List ℕ) (n : ℕ) → Improper T L o p.leg x n → (r : Path) → Steps T L o p r
        → (r.stage ≡ halted x n) × (r.said ≡ named x n)
    halts_there walks x n i r (halts h) =
        let e = improper-is T L o lawful p.leg s.goods s.leg x n i in rw h.then (ap₂ halted e.0 e.1, ap₂ named e.0 e.1)
    halts_there walks x n i r (arrives h) = absurd (improper-not T L o lawful p.leg s.goods s.leg x n i h.drops.proper)
    halts_there walks x n i r (moves h) = absurd (improper-not T L o lawful p.leg s.goods s.leg x n i h.drops.proper)
    halts_there walks x n i r (not_walking not e) = absurd (not walks)
    halts_there walks x n i r (blocked w d drops b e) = absurd (improper-not T L o lawful p.leg s.goods s.leg x n i drops.proper)

    pub no_halt : AllProper o.goods p.leg.mesh L → (x : List ℕ) (n : ℕ) → p.stage ≡ halted x n → ⊥
    no_halt all x n e =
        let i = halts_only x n e in i.improper (rw i.label (all x i.size i.adds_up))

    pub arrives_in : (d : ℕ) → p.stage ≡ arrived d → ArrivedCell T L o p.leg d
    arrives_in d e =
        let h = subst (Ending T L o p.leg) e s.ending in arrived_cell T L o lawful p.leg s.goods s.leg d h.0 h.1
