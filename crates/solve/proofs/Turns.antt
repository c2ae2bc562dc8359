-- Turns of stepping.
--   Stepped, OneStep    so many steps were made, and moved; one more was made
--   ends                the most steps were made
--   turn, last_turn     a turn of the loop: one more step was made, and it moved or did not
use Rattle.std.proofs.Common.{◌≡◌, ℕ, suc, ◌+◌, ◌<◌, ◌≤◌, true, false, List, None, Ok, Err, Option, Result, sym, refl, ap, ◌∙◌, subst, inl, inr, ⊎_elim, add-one, arith}
use Rattle.std.proofs.lemmas.Bool.{cases_lt}
use Rattle.mesh.specs.declared.refusal.Refusal.{Refusal}
use Rattle.labelling.specs.Labels.{Rule}
use Rattle.cells.specs.Triangulation.{Shape, Mesh, Lawful}
use Rattle.path.specs.Path.{Opening, Call, step, Answer, went, Path, Leads}
use Rattle.path.proofs.Theorems.{determined}
use Rattle.state.specs.Views.{goods_of}
use Rattle.state.specs.declared.record.State.{State}
use Rattle.walk.specs.Answers.{stepped}
use Rattle.walk.specs.Showing.{Came, Goes}
use Rattle.walk.specs.declared.run.Progress.{Progress}
use Rattle.walk.specs.declared.run.Progress.TheVariants.{Moved, Arrived, Halted}
use Rattle.walk.specs.declared.run.Ticket.{Ticket}
use Rattle.solve.specs.Reaching.{is_move, ticket_in, more, Stopped, AllMove, Reaches}

-- A step that moved says so.
says-went : (g : ℕ) (a : Result Progress Refusal) → is_move a ≡ true → stepped g a ≡ went
says-went g (Ok Moved) moves = refl
says-went g (Ok (Arrived t)) moves = cc
says-went g (Ok (Halted h)) moves = cc
says-went g (Err r) moves = cc

-- A step that did not move arrived with its ticket, or did neither.
stopped-at : (g made most : ℕ) (said : Answer) (a : Result Progress Refusal) → is_move a ≡ false → said ≡ stepped g a → Stopped (suc made) most said (ticket_in a)
stopped-at g made most said (Ok Moved) stays is = cc
stopped-at g made most said (Ok (Arrived t)) stays is = (omega arith, is)
stopped-at g made most said (Ok (Halted h)) stays is = inr (omega arith, λ e. (cc), λ number mesh e. (cc))
stopped-at g made most said (Err r) stays is = inr (omega arith, λ e. (cc), λ number mesh e. (cc))

-- One more step moved, since there is one path of the calls.
all_moved : (T : (g D : ℕ) → Mesh Shape g D) (L : Rule) (o : Opening) (calls : List Call) (lawful : (g D : ℕ) → 2 ≤ g → 1 ≤ D → Lawful (T g D)) (n : ℕ)
    → AllMove T L o calls n → (p : Path) → Leads T L o (more (suc n) calls) p → p.said ≡ went → AllMove T L o calls (suc n)
all_moved T L o calls lawful n before p leads says i low high q there =
    ⊎_elim
    (λ less. before i low (omega (arith, less)) q there)
    (λ last.
    let same : i ≡ suc n = omega (arith, last) in
    let here : Leads T L o (more (suc n) calls) q = subst (λ (k : ℕ). Leads T L o (more k calls) q) same there in
    ap (λ (r : Path). r.said) (determined T L o lawful (more (suc n) calls) q p here leads) ∙ says)
    (cases_lt i (suc n))

module _ (T : (g D : ℕ) → Mesh Shape g D) (L : Rule) where
  -- After the calls so many steps were made, which all moved, and left the record w.
  pub record Walked (o : Opening) (calls : List Call) (made : ℕ) (w : State) : Type 0 where
    pub came : Came T L o (more made calls) w
    pub moved : AllMove T L o calls made

  -- Whatever opening and calls left the record s, so many steps after them all moved and left the record w.
  abbrev pub Stepped : ℕ → State → State → Type 0
  Stepped made s w = (o : Opening) (calls : List Call) → Came T L o calls s → Walked o calls made w

  -- A step that answered a made u of the record w.
  abbrev pub OneStep : Result Progress Refusal → State → State → Type 0
  OneStep a w u = (o : Opening) (calls : List Call) → Came T L o calls w → Goes T L o calls step (stepped (goods_of w) a) u

  -- Whatever opening and calls left the record s, stepping on answers r and leaves the record w.
  abbrev pub Ends : ℕ → Option Ticket → State → State → Type 0
  Ends most r s w = (o : Opening) (calls : List Call) → Came T L o calls s → Reaches T L o calls most r w

  pub ends : (made most : ℕ) (s w : State) → made ≡ most → Stepped made s w → Ends most None s w
  ends made most s w all before o calls came =
      let last = before o calls came in
      let p = last.came.path in
      record {
        made = made;
        few = omega arith;
        path = p;
        leads = last.came.leads;
        shows = last.came.shows;
        moved = λ i low high. last.moved i low (omega arith);
        stopped = inl (all, λ some. last.moved made some (omega arith) p last.came.leads);
      }

  module _ (made : ℕ) (s w u : State) (a : Result Progress Refusal) (before : Stepped made s w) (now : OneStep a w u) where
    pub stops : (most : ℕ) → made < most → is_move a ≡ false → Ends most (ticket_in a) s u
    stops most room stays o calls came =
        let earlier = before o calls came in
        let next = now o (more made calls) earlier.came in
        record {
          made = suc made;
          few = omega arith;
          path = next.path;
          leads = next.leads;
          shows = next.shows;
          moved = λ i low high. earlier.moved i low (omega arith);
          stopped = stopped-at (goods_of w) made most next.path.said a stays next.says;
        }

    pub one_more : ((g D : ℕ) → 2 ≤ g → 1 ≤ D → Lawful (T g D)) → is_move a ≡ true → Stepped (made + 1) s u
    one_more lawful moves o calls came =
        let earlier = before o calls came in
        let next = now o (more made calls) earlier.came in
        rw add-one
        (record {
          came = record { path = next.path; leads = next.leads; shows = next.shows };
          moved = all_moved T L o calls lawful made earlier.moved next.path next.leads (next.says ∙ says-went (goods_of w) a moves);
        })

-- The same of a run that borrows what it did at the start.
module _ {A B : Type 0} (meaning : A → (g D : ℕ) → Mesh Shape g D) (rule : B → Rule) (t t' : A) (l l' : B) (tri : t ≡ t') (labels : l ≡ l') (made : ℕ) (s w u : State)
    (a : Result Progress Refusal) (before : Stepped (meaning t') (rule l') made s w) (now : OneStep (meaning t) (rule l) a w u) where
  now-too : OneStep (meaning t') (rule l') a w u
  now-too = subst (λ (x : A). OneStep (meaning x) (rule l') a w u) tri (subst (λ (y : B). OneStep (meaning t) (rule y) a w u) labels now)

  pub turn : ((g D : ℕ) → 2 ≤ g → 1 ≤ D → Lawful (meaning t' g D)) → is_move a ≡ true → Stepped (meaning t') (rule l') (made + 1) s u
  turn = one_more (meaning t') (rule l') made s w u a before now-too

  pub last_turn : (most : ℕ) → made < most → is_move a ≡ false → (r : Option Ticket) → r ≡ ticket_in a → Ends (meaning t') (rule l') most r s u
  last_turn most room stays r is =
      subst (λ (x : Option Ticket). Ends (meaning t') (rule l') most x s u) (sym is)
      (stops (meaning t') (rule l') made s w u a before now-too most room stays)
