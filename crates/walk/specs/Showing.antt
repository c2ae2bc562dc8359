-- How the record of a run shows a path.
--   opening_of  an opening, in the words of the path
--   standing    what the record says where the run stands as the path does
--   Came        the record came from an opening and calls
--   Goes        one more call: its answer, and the record that it leaves
--   opened      what opening answers
--   Makes       a call on a run: what it answers and leaves, wherever the run came from
--   SameBorrows    two runs over the same triangulation and labelling
use Rattle.std.specs.Prelude.{◌≡◌, ℕ, List, [], ◌∷◌, Ok, Result}
use Rattle.mesh.specs.Range.{fit_goods, fit_mesh, prices_add_up}
use Rattle.mesh.specs.Refusals.{Told, insist}
use Rattle.labelling.specs.Labels.{Rule}
use Rattle.cells.specs.Triangulation.{Shape, Mesh}
use Rattle.path.specs.Claim.{Claim}
use Rattle.path.specs.Path.{Opening as PathOpening, Call, Answer, walking, began, Path, begins, seen, Leads}
use Rattle.state.specs.Views.{View, view_of}
use Rattle.state.specs.declared.record.State.{State}
use Rattle.walk.specs.declared.run.Opening.{Opening}
use Rattle.walk.specs.declared.run.Run.{Run}

abbrev pub opening_of : Opening → PathOpening
opening_of o = record { number = o.number; goods = o.goods; mesh = o.mesh; start = o.start.now }

module _ (T : (g D : ℕ) → Mesh Shape g D) (L : Rule) (o : PathOpening) where
  -- Its number, its start, its cell, its newest corner, and all that a look shows.
  abbrev pub standing : Path → View
  standing p = record { number = o.number; start = p.leg.start; cell = p.leg.cell; newest = p.leg.newest; sight = seen T L o p }

  -- The record came from the opening and the calls, the latest first.
  pub record Came (calls : List Call) (s : State) : Type 0 where
    pub path : Path
    pub leads : Leads T L o calls path
    pub shows : view_of s ≡ standing path

  -- After the calls one more was made, which answered a and left the record s: answer and record are those of the longer list, and the claim holds of its path.
  pub record Goes (calls : List Call) (call : Call) (a : Answer) (s : State) : Type 0 where
    pub path : Path
    pub leads : Leads T L o (call ∷ calls) path
    pub says : path.said ≡ a
    pub shows : view_of s ≡ standing path
    pub claim : Claim T L o path

  -- The path where no call was made yet.
  abbrev pub opening : Path
  opening = record { leg = begins T L o o.mesh o.start; earlier = []; stage = walking; said = began }

  -- Opening a run: 1 to 3 as for a price point, then 4 for a start that is not admitted.
  abbrev pub opened : Result View Told
  opened =
      insist (fit_goods o.goods) 1 (insist (fit_mesh o.goods o.mesh) 2 (insist (prices_add_up o.goods o.mesh o.start) 3
      (insist ((T o.goods o.mesh).admitted o.start) 4 (Ok (standing opening)))))

-- Whatever opening and calls the record of the run r came from: one more call was made on it, which answered a and left the record t.
abbrev pub Makes : {A B : Type 0} → (A → (g D : ℕ) → Mesh Shape g D) → (B → Rule) → Run A B → Call → Answer → State → Type 0
Makes meaning rule r call a t =
    (o : PathOpening) (calls : List Call) → Came (meaning r.tri.now) (rule r.labels.now) o calls r.state → Goes (meaning r.tri.now) (rule r.labels.now) o calls call a t

-- The run w borrows the triangulation and the labelling that the run v does.
abbrev pub SameBorrows : {A B : Type 0} → Run A B → Run A B → Type 0
SameBorrows v w = (w.tri.now ≡ v.tri.now) × (w.labels.now ≡ v.labels.now)
