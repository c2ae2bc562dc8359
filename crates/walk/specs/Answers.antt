-- What the calls of a run answer, in the words of the path.
use Rattle.std.specs.Prelude.{◌≡◌, ℕ, List, take, Ok, Err, Result}
use Rattle.mesh.specs.Refusals.{told}
use Rattle.mesh.specs.declared.refusal.Refusal.{Refusal}
use Rattle.path.specs.Path.{Answer, began, went, ticket, named, prices, refused, Sight}
use Rattle.state.specs.Views.{corners_of, stage_of}
use Rattle.state.specs.declared.record.State.{State}
use Rattle.walk.specs.declared.run.Look.{Look}
use Rattle.walk.specs.declared.run.Progress.{Progress}
use Rattle.walk.specs.declared.run.Progress.TheVariants.{Moved, Arrived, Halted}
use Rattle.walk.specs.declared.run.Ticket.{Ticket}

-- What a step answers, with g goods.
abbrev pub stepped : ℕ → Result Progress Refusal → Answer
stepped g (Ok Moved) = went
stepped g (Ok (Arrived t)) = ticket t.number t.mesh
stepped g (Ok (Halted h)) = named (take g h.prices) h.label
stepped g (Err e) = refused (told e)

-- What a look shows.
abbrev pub looked : Look → Sight
looked s =
    record {
      stage = stage_of s.goods s.stage;
      goods = s.goods;
      mesh = s.mesh;
      count = s.count;
      total = s.total;
      corners = corners_of s.goods s.corners;
    }

-- What looking for a label answers, with g goods.
abbrev pub found : ℕ → Result (List ℕ) Refusal → Answer
found g (Ok x) = prices (take g x)
found g (Err e) = refused (told e)

-- What refining answers.
abbrev pub refined : Result (Unit {0}) (Refusal × Ticket) → Answer
refined (Ok u) = began
refined (Err e) = refused (told e.0)

-- The record of a run on a finer mesh, or a refusal: what is answered, and the record that the run has then, where it had s.
abbrev pub made_finer : Result State Refusal → Answer
made_finer (Ok t) = began
made_finer (Err e) = refused (told e)

abbrev pub after : State → Result State Refusal → State
after s (Ok t) = t
after s (Err e) = s

-- A refusal hands the ticket back and leaves the record as it was.
abbrev pub HandedBack : Ticket → State → Result (Unit {0}) (Refusal × Ticket) → State → Type 0
HandedBack t s (Ok u) w = Unit {0}
HandedBack t s (Err e) w = (e.1 ≡ t) × (w ≡ s)
