-- Stepping a run to its arrival.
--   is_move, ticket_in    what a step answered
--   more                so many steps after some calls
--   AllMove             some steps all moved
--   Stopped, Reaches    why stepping stopped, and where
use Rattle.std.specs.Prelude.{◌≡◌, ℕ, zero, suc, ◌-◌, ◌≤◌, Bool, true, false, ◌⊎◌, List, ◌∷◌, Some, None, Ok, Err, Option, Result, ◌≢◌}
use Rattle.mesh.specs.declared.refusal.Refusal.{Refusal}
use Rattle.labelling.specs.Labels.{Rule}
use Rattle.cells.specs.Triangulation.{Shape, Mesh}
use Rattle.path.specs.Path.{Opening, Call, step, Answer, went, ticket, Path, Leads}
use Rattle.state.specs.Views.{view_of}
use Rattle.state.specs.declared.record.State.{State}
use Rattle.walk.specs.Showing.{standing}
use Rattle.walk.specs.declared.run.Progress.{Progress}
use Rattle.walk.specs.declared.run.Progress.TheVariants.{Moved, Arrived, Halted}
use Rattle.walk.specs.declared.run.Ticket.{Ticket}

-- The step moved.
abbrev pub is_move : Result Progress Refusal → Bool
is_move (Ok Moved) = true
is_move (Ok (Arrived t)) = false
is_move (Ok (Halted h)) = false
is_move (Err e) = false

-- The ticket of a step that arrived.
abbrev pub ticket_in : Result Progress Refusal → Option Ticket
ticket_in (Ok Moved) = None
ticket_in (Ok (Arrived t)) = Some t
ticket_in (Ok (Halted h)) = None
ticket_in (Err e) = None

abbrev pub more : ℕ → List Call → List Call
more zero calls = calls
more (suc n) calls = step ∷ more n calls

-- Of so many steps: the last one arrived with the ticket; or the most steps were made and the last one moved too; or the last one neither moved nor arrived.
abbrev pub Stopped : ℕ → ℕ → Answer → Option Ticket → Type 0
Stopped made most said (Some t) = (1 ≤ made) × (said ≡ ticket t.number t.mesh)
Stopped made most said None =
    ((made ≡ most) × (1 ≤ made → said ≡ went)) ⊎ ((1 ≤ made) × (said ≢ went) × ((number mesh : ℕ) → said ≢ ticket number mesh))

module _ (T : (g D : ℕ) → Mesh Shape g D) (L : Rule) (o : Opening) (calls : List Call) where
  -- After the calls each of the first n steps moves.
  abbrev pub AllMove : ℕ → Type 0
  AllMove n = (i : ℕ) → 1 ≤ i → i ≤ n → (p : Path) → Leads T L o (more i calls) p → p.said ≡ went

  -- After the calls at most so many steps were made, each but the last moved, and they left the record s.
  pub record Reaches (most : ℕ) (r : Option Ticket) (s : State) : Type 0 where
    pub made : ℕ
    pub few : made ≤ most
    pub path : Path
    pub leads : Leads T L o (more made calls) path
    pub shows : view_of s ≡ standing T L o path
    pub moved : AllMove (made - 1)
    pub stopped : Stopped made most path.said r
