-- What the view of a path shows at a place, and a call that leaves it as it is.
--   arrived-is, arrived-not    the stage is that of an arrival, or of none
--   label-shown       where the path has arrived, every place shows its label
--   carries           so a carrier of a label is a kept corner with it
--   carried           and each good has one
--   goes              one more call, by the path that it makes
--   saying-goes       a call that alters nothing but the answer
use Rattle.std.proofs.Common.{◌≡◌, ℕ, ◌≤◌, cond, eqb, List, ◌∷◌, Some, None, sym, refl, ap, ◌∙◌, arith}
use Rattle.labelling.specs.Labels.{Rule}
use Rattle.cells.specs.Triangulation.{Shape, Mesh, Lawful}
use Rattle.path.specs.Path.{Opening, Call, Answer, Stage, walking, arrived, halted, Path, Good, saying, label_on, newest_shown, Carries, Does, Leads}
use Rattle.path.proofs.OneLeg.{real-label}
use Rattle.path.proofs.Theorems.{claimed}
use Rattle.state.specs.Views.{view_of, label_at, arrived_at, Carrier, NoCarrier}
use Rattle.state.specs.declared.record.State.{State}
use Rattle.walk.specs.Showing.{standing, Goes}
use Rattle.walk.proofs.Standing.{cond_same, corner-shown}

pub arrived-is : (stage : Stage) (d : ℕ) → arrived_at stage ≡ Some d → stage ≡ arrived d
arrived-is walking d e = let z : ◌≡◌ {A = ℕ} 0 1 = cc in absurd (omega arith)
arrived-is (arrived k) d e = cc
arrived-is (halted x l) d e = let z : ◌≡◌ {A = ℕ} 0 1 = cc in absurd (omega arith)

pub arrived-not : (stage : Stage) (d : ℕ) → arrived_at stage ≡ None → stage ≡ arrived d → ⊥
arrived-not stage d e is = let z : ◌≡◌ {A = ℕ} 0 1 = cc in omega arith

module _ (T : (g D : ℕ) → Mesh Shape g D) (L : Rule) (o : Opening) (p : Path) where
  module _ (d : ℕ) (there : p.stage ≡ arrived d) where
    pub label-shown : (i : ℕ) → i ≤ o.goods → label_at (standing T L o p) i ≡ label_on T L o p.leg i
    label-shown i h =
        let n = label_on T L o p.leg i in
        ap (λ c. c.1) (corner-shown T L o p i h)
        ∙ ap (λ stage. cond (eqb i p.leg.newest) (newest_shown T L o stage n) n) there
        ∙ cond_same (eqb i p.leg.newest) n

    pub carries : (j i : ℕ) → Carrier (standing T L o p) j d i → Carries T L o p.leg d j i
    carries j i c = record { place = c.0; kept = c.1; has = sym (label-shown i c.0) ∙ c.2 }

module _ (T : (g D : ℕ) → Mesh Shape g D) (L : Rule) (o : Opening) (lawful : (g D : ℕ) → 2 ≤ g → 1 ≤ D → Lawful (T g D)) (calls : List Call) (p : Path)
    (leads : Leads T L o calls p) where
  pub carried : (d : ℕ) → p.stage ≡ arrived d → (j : ℕ) → Good o.goods j → NoCarrier (standing T L o p) j d → ⊥
  carried d there j good none =
      let r = ((claimed T L o lawful calls p leads).arrived_cell d there).each j good in
      none r.0 r.1.place r.1.kept
      (label-shown T L o p d there r.0 r.1.place ∙ real-label o.goods p.leg.mesh L p.leg.start _ r.1.real ∙ r.1.label)

  pub goes : (call : Call) (q : Path) → Does T L o call p q → (a : Answer) → q.said ≡ a → (s : State) → view_of s ≡ standing T L o q → Goes T L o calls call a s
  goes call q does a says s shows =
      let longer : Leads T L o (call ∷ calls) q = (p, leads, does) in
      record { path = q; leads = longer; says = says; shows = shows; claim = claimed T L o lawful (call ∷ calls) q longer }

  pub saying-goes : (call : Call) (a : Answer) → Does T L o call p (saying p a) → (s : State) → view_of s ≡ standing T L o p → Goes T L o calls call a s
  saying-goes call a does s shows = goes call (saying p a) does a refl s shows
