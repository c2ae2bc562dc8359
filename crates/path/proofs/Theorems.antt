-- The claim holds of every path, and an opening with its calls has one path.
use Rattle.std.proofs.Common.{◌≡◌, ℕ, ◌≤◌, List, [], ◌∷◌, sym, ◌∙◌, subst, arith}
use Rattle.std.specs.List.{AllByRecursion}
use Rattle.labelling.specs.Labels.{Rule}
use Rattle.cells.specs.Triangulation.{Shape, Mesh, Lawful}
use Rattle.path.specs.Claim.{Claim}
use Rattle.path.specs.Lists.{Different}
use Rattle.path.specs.Path.{Opening, Call, Path, entered, legs, Does, Leads}
use Rattle.path.proofs.Different.{single-shorter, all-different}
use Rattle.path.proofs.Sound.{OnTrail, sound}
use Rattle.path.proofs.Same.{call_same}
use Rattle.path.proofs.Said.{names, never_ten}
use Rattle.path.proofs.Claims.{all-single, all-bounded, totalled, stands, ends, halts_only, halts_there, no_halt, arrives_in}

-- A list has one number of different elements.
pub different-once : {A : Type 0} (xs : List A) (n m : ℕ) → Different xs n → Different xs m → n ≡ m
different-once xs n m some other =
    let up = single-shorter some.each other.each some.single (λ x h. other.all x (some.only x h)) in
    let down = single-shorter other.each some.each other.single (λ x h. some.all x (other.only x h)) in
    omega (arith, some.size, other.size)

module _ (T : (g D : ℕ) → Mesh Shape g D) (L : Rule) (o : Opening) (lawful : (g D : ℕ) → 2 ≤ g → 1 ≤ D → Lawful (T g D)) where
  pub claimed : (calls : List Call) (p : Path) → Leads T L o calls p → Claim T L o p
  claimed calls p h =
      let s = sound T L o lawful calls p h in
      let on : AllByRecursion (OnTrail T L o) (legs p) = (s.leg, s.earlier) in
      let once = all-single T L o lawful (legs p) s.goods on in
      record {
        once = once;
        count = all-different (entered p.leg) once.0;
        total = totalled (legs p) once;
        bounded = all-bounded T L o lawful (legs p) s.goods on;
        ends = ends T L o lawful p s;
        stands = stands T L o lawful p s;
        halts_only = halts_only T L o lawful p s;
        names = names T L o lawful calls p h;
        halts_there = halts_there T L o lawful p s;
        no_halt = no_halt T L o lawful p s;
        never_ten = never_ten T L o lawful calls p h;
        arrived_cell = arrives_in T L o lawful p s;
      }

  pub determined : (calls : List Call) (p q : Path) → Leads T L o calls p → Leads T L o calls q → p ≡ q
  determined [] p q h k = h.then ∙ sym k.then
  determined (call ∷ calls) p q (x, before, h) (y, also, k) =
      let same = determined calls x y before also in
      call_same T L o lawful x (sound T L o lawful calls x before) call p q h (subst (λ z. Does T L o call z q) (sym same) k)
