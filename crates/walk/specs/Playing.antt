-- A list of calls, played from an opening.
--   call_of, said_of    a call and an answer, in the words of the path
--   Plays             what was answered last, and what a look shows then, are those of the path of all the calls; the claim holds of it
--   PlayAnswer        what playing answers
use Rattle.std.specs.Prelude.{◌≡◌, ℕ, List, take, Ok, Err, Result}
use Rattle.mesh.specs.Refusals.{told}
use Rattle.mesh.specs.declared.refusal.Refusal.{Refusal}
use Rattle.labelling.specs.Labels.{Rule}
use Rattle.cells.specs.Triangulation.{Shape, Mesh}
use Rattle.path.specs.Claim.{Claim}
use Rattle.path.specs.Path.{Opening, Call as PathCall, step, look, look_for, refine, Answer, began, went, ticket, named, sight, prices, refused, Path, seen, Leads}
use Rattle.walk.specs.Answers.{looked}
use Rattle.walk.specs.Showing.{opened}
use Rattle.walk.specs.declared.play.Call.{Call}
use Rattle.walk.specs.declared.play.Call.TheVariants.{Step, Look, LookFor, Refine}
use Rattle.walk.specs.declared.play.Played.{Played}
use Rattle.walk.specs.declared.play.Said.{Said}
use Rattle.walk.specs.declared.play.Said.TheVariants.{Began, Moved, Arrived, Halted, Seen, Found}

abbrev pub call_of : Call → PathCall
call_of Step = step
call_of Look = look
call_of (LookFor j) = look_for j
call_of (Refine number mesh factor) = refine number mesh factor

-- With g goods.
abbrev pub said_of : ℕ → Result Said Refusal → Answer
said_of g (Ok Began) = began
said_of g (Ok Moved) = went
said_of g (Ok (Arrived number mesh)) = ticket number mesh
said_of g (Ok (Halted h)) = named (take g h.prices) h.label
said_of g (Ok (Seen k)) = sight (looked k)
said_of g (Ok (Found x)) = prices (take g x)
said_of g (Err e) = refused (told e)

module _ (T : (g D : ℕ) → Mesh Shape g D) (L : Rule) (o : Opening) (calls : List PathCall) where
  -- The calls are given with the latest first.
  pub record Plays (r : Played) : Type 0 where
    pub path : Path
    pub leads : Leads T L o calls path
    pub says : path.said ≡ said_of o.goods r.last
    pub sees : looked r.look ≡ seen T L o path
    pub claim : Claim T L o path

  -- The opening's refusal, or all calls are played.
  abbrev pub PlayAnswer : Result Played Refusal → Type 0
  PlayAnswer (Ok r) = Plays r
  PlayAnswer (Err e) = opened T L o ≡ Err (told e)
