-- Calls in play.
--   InPlay         after the calls: their path, what it said last, and the record that shows it
--   play-first     a run that was opened
--   play-more      one more call
--   calls-more     one more call of a list, the latest first
--   turn           one turn of the loop over the calls
--   play-ends      what is played is what the last look and the last answer say
use Rattle.std.proofs.Common.{◌≡◌, ℕ, ◌+◌, ◌<◌, ◌≤◌, List, [], ◌∷◌, Result, map, reverse, length, get_or, take, sym, ap, ◌∙◌, subst}
use Rattle.std.proofs.lemmas.List.{map_more, reverse-append, take_all}
use Rattle.mesh.specs.declared.refusal.Refusal.{Refusal}
use Rattle.labelling.specs.Labels.{Rule}
use Rattle.cells.specs.Triangulation.{Shape, Mesh, Lawful}
use Rattle.path.specs.Path.{Opening, Call as PathCall, Answer, began, Path, Leads}
use Rattle.path.proofs.Theorems.{claimed}
use Rattle.state.specs.Views.{view_of, goods_of, sight_of}
use Rattle.state.specs.declared.record.State.{State}
use Rattle.walk.specs.Answers.{looked}
use Rattle.walk.specs.Playing.{call_of, said_of, Plays}
use Rattle.walk.specs.Showing.{standing, Came, Goes}
use Rattle.walk.specs.declared.play.Call.{Call}
use Rattle.walk.specs.declared.play.Said.{Said}
use Rattle.walk.specs.declared.run.Look.{Look}

pub calls-more : (calls : List Call) (i : ℕ) (d : Call) → i < length calls
    → reverse (map call_of (take (i + 1) calls)) ≡ call_of (get_or calls i d) ∷ reverse (map call_of (take i calls))
calls-more calls i d low = ap reverse (map_more call_of calls i d low) ∙ reverse-append (map call_of (take i calls)) (call_of (get_or calls i d) ∷ [])

module _ (T : (g D : ℕ) → Mesh Shape g D) (L : Rule) (o : Opening) where
  pub record InPlay (calls : List PathCall) (a : Answer) (s : State) : Type 0 where
    pub path : Path
    pub leads : Leads T L o calls path
    pub says : path.said ≡ a
    pub shows : view_of s ≡ standing T L o path

  pub play-first : (s : State) → Came T L o [] s → InPlay [] began s
  play-first s came = record { path = came.path; leads = came.leads; says = ap (λ p. p.said) came.leads.then; shows = came.shows }

  pub play-more : (calls : List PathCall) (a : Answer) (s : State) → InPlay calls a s → (call : PathCall) (b : Answer) (t : State)
      → (Came T L o calls s → Goes T L o calls call b t) → InPlay (call ∷ calls) b t
  play-more calls a s now call b t goes =
      let next = goes (record { path = now.path; leads = now.leads; shows = now.shows }) in
      record { path = next.path; leads = next.leads; says = next.says; shows = next.shows }

  pub goods-same : (calls : List PathCall) (a : Answer) (s : State) → InPlay calls a s → s.start.grid.goods ≡ o.goods
  goods-same calls a s now = ap (λ v. v.sight.goods) now.shows

  pub play-ends : (lawful : (g D : ℕ) → 2 ≤ g → 1 ≤ D → Lawful (T g D)) (all : List Call) (i : ℕ) → length all ≤ i → (last : Result Said Refusal) (s : State) (k : Look)
      → InPlay (reverse (map call_of (take i all))) (said_of o.goods last) s → looked k ≡ sight_of s → Plays T L o (reverse (map call_of all)) (record { last = last; look = k })
  play-ends lawful all i past last s k now sees =
      let calls : List PathCall = reverse (map call_of all) in
      let leads : Leads T L o calls now.path = subst (λ (xs : List Call). Leads T L o (reverse (map call_of xs)) now.path) (take_all i all past) now.leads in
      record {
        path = now.path;
        leads = leads;
        says = now.says;
        sees = sees ∙ ap (λ v. v.sight) now.shows;
        claim = claimed T L o lawful calls now.path leads;
      }

-- One turn of the loop over a list of calls, on a run that borrows what it was opened with.
pub turn : {A B : Type 0} (meaning : A → (g D : ℕ) → Mesh Shape g D) (rule : B → Rule) (o : Opening) (t t' : A) (l l' : B) → t ≡ t' → l ≡ l'
    → (all : List Call) (i : ℕ) (d : Call) → i < length all → (last said : Result Said Refusal) (s w : State)
    → InPlay (meaning t) (rule l) o (reverse (map call_of (take i all))) (said_of o.goods last) s
    → ((o : Opening) (calls : List PathCall) → Came (meaning t') (rule l') o calls s → Goes (meaning t') (rule l') o calls (call_of (get_or all i d)) (said_of (goods_of s) said) w)
    → InPlay (meaning t) (rule l) o (reverse (map call_of (take (i + 1) all))) (said_of o.goods said) w
turn {A} {B} meaning rule o t t' l l' e h all i d low last said s w now goes =
    let before = reverse (map call_of (take i all)) in
    let same = goods-same (meaning t) (rule l) o before (said_of o.goods last) s now in
    let here : (o : Opening) (calls : List PathCall) → Came (meaning t) (rule l) o calls s → Goes (meaning t) (rule l) o calls (call_of (get_or all i d)) (said_of (goods_of s) said) w
    = subst (λ (x : A). (o : Opening) (calls : List PathCall) → Came (meaning x) (rule l) o calls s → Goes (meaning x) (rule l) o calls (call_of (get_or all i d)) (said_of (goods_of s) said) w) (sym e)
    (subst (λ (x : B). (o : Opening) (calls : List PathCall) → Came (meaning t') (rule x) o calls s → Goes (meaning t') (rule x) o calls (call_of (get_or all i d)) (said_of (goods_of s) said) w) (sym h) goes) in
    let next = play-more (meaning t) (rule l) o before (said_of o.goods last) s now (call_of (get_or all i d)) (said_of (goods_of s) said) w (here o before) in
    subst (λ (calls : List PathCall). InPlay (meaning t) (rule l) o calls (said_of o.goods said) w) (sym (calls-more all i d low))
    (subst (λ (g : ℕ). InPlay (meaning t) (rule l) o (call_of (get_or all i d) ∷ before) (said_of g said) w) same next)
