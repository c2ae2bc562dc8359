-- One turn of reading: from what is held to what is held after one more field, or to the fault.
--   held-goods, held-name, held-sum, held-trader    what is held after each kind of field
--   trader-off                                      weights that do not add up are the fault of the file
-- What else a reader cites is passed on from the files below.
use Rattle.std.proofs.Common.{◌≡◌, ℕ, ◌+◌, ◌-◌, ◌*◌, ◌<◌, ◌≤◌, true, false, eqb, ◌≢◌, List, [], ◌∷◌, ◌++◌, map, length, get_or, take, drop, set, Ok, sum, sym, ap, ◌∙◌, subst, ⊎_elim, arith}
use Rattle.std.proofs.lemmas.List.{length-set, length_push, length-take-le, take_more_set, take_all, take-append-le, get_or-set_same, get_or-set_other, drop_at, map_push}
use Rattle.std.proofs.lemmas.Bool.{and_parts, and_right, leb-true, eqb-true, ne_eqb, cases_lt}
use Rattle.std.proofs.ByRecursion.{All-push}
use Rattle.mesh.specs.Range.{fit_goods}
use Rattle.trade.specs.Trade as trade
use Rattle.layout.specs.Layout.{two, field, NameFits, fit_sum, TraderFits}
use Rattle.layout.specs.Faults.{empty, naming, trading, bytes_of, Sound, due, values, length_fits, value_fits, weights_fit, check, flaw, FieldFault}
use Rattle.layout.proofs.Steps.{one_name, the_sum, one-trader, all-print, values-both}
use Rattle.market.specs.Rows.{trader_in, traders_in, names_in, cut}
use Rattle.market.specs.Fields.{field_for}
use Rattle.market.specs.declared.rows.Numbers.{Numbers}
use Rattle.market.specs.declared.rows.Trader.{Trader}
use Rattle.market.specs.declared.rows.Span.{Span}
use Rattle.market.specs.Adding.{Written, due_in, with_goods, with_name, with_sum, with_trader}
use Rattle.market.specs.Held.{beginning_of, Held}
use Rattle.market.specs.Reading.{economy_of, name_at, span_of, Placed}
use Rattle.market.proofs.Stages.{is-empty, is-naming, is-trading, turn, goods-turn, name-turn, sum-turn, trader-turn}
use Rattle.market.proofs.Grown.{one_byte, two_bytes}
use Rattle.market.proofs.Fitting.{all_short}
use Rattle.market.proofs.Standing.{names-many, traders-many, sound-naming, sound-trading, no-sum-yet, whole, place_is}
use Rattle.market.proofs.NextField.{good-field, said_more}
pub use Rattle.market.proofs.FieldTells.{Answer, field_told, early-passes, early-fails, field-refused}
pub use Rattle.market.proofs.Standing.{held_start, goods-few, held-due, held-ended, held-fault}
pub use Rattle.market.proofs.NextField.{field-within, goods-length, sum-length, name-room, trader-room}
pub use Rattle.market.proofs.Endings.{held_whole, held-market, reads_all}

-- One name more is marked at its place, if that is where the names before it end.
placed-more : (file : List ℕ) (n : Numbers) (s : Span) (body : List ℕ) → Placed file n → n.named < length n.names
    → length (names_in file n.named n.names) ≡ n.named
    → names_in file (n.named + 1) (set n.names n.named s) ≡ names_in file n.named n.names ++ body ∷ []
    → s.at ≡ length (bytes_of (naming n.goods (names_in file n.named n.names))) + 3
    → Placed file (with_name n s)
placed-more file n s body placed room many names here j low high =
    ⊎_elim old new (cases_lt (j - 1) n.named)
  where
    front : j - 1 ≤ n.named → take (j - 1) (names_in file (n.named + 1) (set n.names n.named s)) ≡ take (j - 1) (names_in file n.named n.names)
    front h = ap (take (j - 1)) names ∙ take-append-le (j - 1) (names_in file n.named n.names) (body ∷ []) (omega (arith, many, h))

    old : j - 1 < n.named → (span_of (with_name n s) j).at ≡ name_at (economy_of file (with_name n s)) j
    old h =
        let apart : j - 1 ≢ n.named = λ e. omega (arith, e, h) in
        ap (λ x. x.at) (get_or-set_other n.names n.named (j - 1) s (record { at = 0; len = 0 }) apart) ∙ placed j low (omega (arith, h))
        ∙ sym (ap (λ xs. length (bytes_of (naming n.goods xs)) + 3) (front (omega (arith, h))))

    new : n.named ≤ j - 1 → (span_of (with_name n s) j).at ≡ name_at (economy_of file (with_name n s)) j
    new h =
        let same : j - 1 ≡ n.named = omega (arith, h, high) in
        ap (λ k. (get_or (set n.names n.named s) k (record { at = 0; len = 0 })).at) same
        ∙ ap (λ x. x.at) (get_or-set_same n.names n.named s (record { at = 0; len = 0 }) room) ∙ here
        ∙ sym (ap (λ xs. length (bytes_of (naming n.goods xs)) + 3) (front (omega (arith, same)) ∙ take_all (j - 1) (names_in file n.named n.names) (omega (arith, many, same))))

module _ (file : List ℕ) (at : ℕ) (n : Numbers) (held : Held file at n) (body : List ℕ) (place : ℕ) where
  pub held-goods : ◌≡◌ {A = Answer} (Ok (1, body, place)) (field_for (due_in n) (drop at file) at)
      → Held file (at + 3 + length body) (with_goods n (get_or body 0 0))
  held-goods e =
      let good = good-field file at n held body place 1 e in
      let at_turn = goods-turn n (due_in n) good.tag (turn n) in
      let nothing = held.no_goods at_turn.1 in
      let g : ℕ = get_or body 0 0 in
      let one : body ≡ g ∷ [] = one_byte body (eqb-true _ _ (subst (λ d. length_fits d (length body) ≡ true) at_turn.0 good.size)) in
      let fit : fit_goods g ≡ true = subst (λ d. value_fits d body ≡ true) at_turn.0 good.value in
      let some : 2 ≤ g = leb-true 2 g (and_parts _ _ fit).0 in
      let is : beginning_of file (with_goods n g) ≡ naming g [] =
      is-naming file (with_goods n g) (omega arith) nothing.1 ∙ ap (λ k. naming g (names_in file k n.names)) nothing.0
      in
      record {
        within = good.within;
        bytes =
            said_more file at n held body place 1 good empty (naming g []) (is-empty file n at_turn.1) (ap (field 1) (sym one))
            ∙ ap bytes_of (sym is);
        sound = subst Sound (sym is) (fit, omega arith, tt);
        names_room = held.names_room;
        traders_room = held.traders_room;
        few_names = held.few_names;
        few_traders = held.few_traders;
        no_goods = λ z. nothing;
        no_sum = held.no_sum;
        placed = λ j low high. absurd (omega (arith, nothing.0));
      }

  pub held-name : ◌≡◌ {A = Answer} (Ok (2, body, place)) (field_for (due_in n) (drop at file) at)
      → Held file (at + 3 + length body) (with_name n (record { at = place + 3; len = length body }))
  held-name e =
      let good = good-field file at n held body place 2 e in
      let at_turn = name-turn n (due_in n) good.tag (turn n) in
      let some = at_turn.1 in
      let none : n.sum ≡ 0 = no-sum-yet file at n held some at_turn.2 in
      let sound = sound-naming file at n held some none in
      let span : Span = record { at = place + 3; len = length body } in
      let old : List (List ℕ) = names_in file n.named n.names in
      let room : n.named < length n.names = omega (arith, name-room file at n held body place e, held.names_room) in
      let names : names_in file (n.named + 1) (set n.names n.named span) ≡ old ++ body ∷ [] =
      ap (map (cut file)) (take_more_set n.names n.named span room) ∙ map_push (cut file) (take n.named n.names) span
      ∙ ap (λ b. old ++ b ∷ []) (ap (λ k. cut file (record { at = k + 3; len = length body })) good.here ∙ good.marked)
      in
      let is : beginning_of file (with_name n span) ≡ naming n.goods (old ++ body ∷ []) =
      is-naming file (with_name n span) some none ∙ ap (naming n.goods) names
      in
      let many : length old + 1 ≤ n.goods = omega (arith, names-many file at n held, at_turn.2) in
      let fits : NameFits body = record {
        size = subst (λ d. length_fits d (length body) ≡ true) at_turn.0 good.size;
        prints = all-print body (subst (λ d. value_fits d body ≡ true) at_turn.0 good.value);
      } in
      record {
        within = good.within;
        bytes =
            said_more file at n held body place 2 good (naming n.goods old) (naming n.goods (old ++ body ∷ [])) (is-naming file n some none)
            (one_name n.goods old body)
            ∙ ap bytes_of (sym is);
        sound = subst Sound (sym is) (sound.0, rw length_push many, All-push NameFits old body sound.2 fits);
        names_room = length-set n.names n.named span ∙ held.names_room;
        traders_room = held.traders_room;
        few_names = omega (arith, name-room file at n held body place e);
        few_traders = held.few_traders;
        no_goods = λ z. absurd (omega (arith, some, z));
        no_sum = held.no_sum;
        placed =
            placed-more file n span body held.placed room (names-many file at n held) names
            (ap (λ k. k + 3) (good.here ∙ sym (place_is file at n held) ∙ ap (λ b. length (bytes_of b)) (is-naming file n some none)));
      }

  pub held-sum : ◌≡◌ {A = Answer} (Ok (3, body, place)) (field_for (due_in n) (drop at file) at) → (low : get_or body 1 0 < 256)
      → Held file (at + 3 + length body) (with_sum n (256 * get_or body 0 0 + get_or body 1 0))
  held-sum e low =
      let good = good-field file at n held body place 3 e in
      let at_turn = sum-turn n (due_in n) good.tag (turn n) in
      let some = at_turn.1 in
      let none = at_turn.3 in
      let sound = sound-naming file at n held some none in
      let S : ℕ = 256 * get_or body 0 0 + get_or body 1 0 in
      let old : List (List ℕ) = names_in file n.named n.names in
      let both : body ≡ two S = two_bytes body (eqb-true _ _ (subst (λ d. length_fits d (length body) ≡ true) at_turn.0 good.size)) low in
      let fit : fit_sum S ≡ true = subst (λ d. value_fits d body ≡ true) at_turn.0 good.value in
      let more : 1 ≤ S = leb-true 1 S (and_parts _ _ fit).0 in
      let is : beginning_of file (with_sum n S) ≡ trading n.goods old S [] =
      is-trading file (with_sum n S) some (omega arith)
      ∙ ap (λ k. trading n.goods old S (traders_in n.goods (take k n.traders))) (held.no_sum none)
      in
      record {
        within = good.within;
        bytes =
            said_more file at n held body place 3 good (naming n.goods old) (trading n.goods old S []) (is-naming file n some none)
            (the_sum n.goods old S ∙ ap (λ b. bytes_of (naming n.goods old) ++ field 3 b) (sym both))
            ∙ ap bytes_of (sym is);
        sound = subst Sound (sym is) (sound.0, omega (arith, names-many file at n held, at_turn.2, sound.1), sound.2, fit, omega arith, tt);
        names_room = held.names_room;
        traders_room = held.traders_room;
        few_names = held.few_names;
        few_traders = held.few_traders;
        no_goods = λ z. absurd (omega (arith, some, z));
        no_sum = λ z. absurd (omega (arith, more, z));
        placed = held.placed;
      }

  module _ (t : Trader) (written : Written body n.goods t) (few : n.goods ≤ 8)
      (told-so : ◌≡◌ {A = Answer} (Ok (4, body, place)) (field_for (due_in n) (drop at file) at)) where
    pub held-trader : sum (take n.goods t.weighs) ≡ n.sum → Held file (at + 3 + length body) (with_trader n t)
    held-trader adds =
        let good = good-field file at n held body place 4 told-so in
        let at_turn = trader-turn n (due_in n) good.tag (turn n) in
        let some = at_turn.1 in
        let more = at_turn.2 in
        let sound = sound-trading file at n held some more in
        let g : ℕ = n.goods in
        let names : List (List ℕ) = names_in file n.named n.names in
        let old : List trade.Trader = traders_in g (take n.filled n.traders) in
        let new : trade.Trader = trader_in g t in
        let room : n.filled < length n.traders = omega (arith, at_turn.3, held.traders_room) in
        let traders : traders_in g (take (n.filled + 1) (set n.traders n.filled t)) ≡ old ++ new ∷ [] =
        ap (map (trader_in g)) (take_more_set n.traders n.filled t room) ∙ map_push (trader_in g) (take n.filled n.traders) t
        in
        let is : beginning_of file (with_trader n t) ≡ trading g names n.sum (old ++ new ∷ []) =
        is-trading file (with_trader n t) some more ∙ ap (trading g names n.sum) traders
        in
        let fits : TraderFits g n.sum new = record {
          fair = record {
            owned = length-take-le g t.owns (omega (arith, few, written.owns_room));
            weighed = length-take-le g t.weighs (omega (arith, few, written.weighs_room));
            shares = adds;
          };
          owned = all_short (take g t.owns) written.owns_short;
          weighed = all_short (take g t.weighs) written.weighs_short;
        } in
        record {
          within = good.within;
          bytes =
              said_more file at n held body place 4 good (trading g names n.sum old) (trading g names n.sum (old ++ new ∷ [])) (is-trading file n some more)
              (one-trader g names n.sum old new ∙ ap (λ b. bytes_of (trading g names n.sum old) ++ field 4 b) (sym written.bytes))
              ∙ ap bytes_of (sym is);
          sound =
              subst Sound (sym is) (
                sound.0,
                names-many file at n held ∙ sound.1,
                sound.2,
                sound.3,
                rw length_push (omega (arith, traders-many file at n held, at_turn.3)),
                All-push (TraderFits g n.sum) old new sound.4 fits,
              );
          names_room = held.names_room;
          traders_room = length-set n.traders n.filled t ∙ held.traders_room;
          few_names = held.few_names;
          few_traders = omega (arith, at_turn.3);
          no_goods = λ z. absurd (omega (arith, some, z));
          no_sum = λ z. absurd (omega (arith, more, z));
          placed = held.placed;
        }

    pub trader-off : (sum (take n.goods t.weighs) ≡ n.sum → ⊥) → FieldFault file (25, place ∷ [])
    trader-off off =
        let good = good-field file at n held body place 4 told-so in
        let at_turn = trader-turn n (due_in n) good.tag (turn n) in
        let weighs : drop n.goods (values body) ≡ take n.goods t.weighs =
        ap (λ b. drop n.goods (values b)) written.bytes ∙ ap (drop n.goods) (values-both (take n.goods t.owns) (take n.goods t.weighs))
        ∙ drop_at (take n.goods t.owns) (take n.goods t.weighs) n.goods (length-take-le n.goods t.owns (omega (arith, few, written.owns_room)))
        in
        let wrong : weights_fit (due_in n) body ≡ false =
        ap (λ d. weights_fit d body) at_turn.0 ∙ ap (λ ws. eqb (sum ws) n.sum) weighs ∙ ne_eqb _ _ off
        in
        let number : flaw (due (beginning_of file n)) (drop at file) ≡ 25 =
        ap (λ d. flaw d (drop at file)) (sym (held-due file at n held))
        ∙ early-passes (due_in n) (drop at file) (field_told (due_in n) (drop at file) at 4 place body told-so).0
        ∙ ap (λ b. check (weights_fit (due_in n) b) 25 0) (sym good.is) ∙ ap (λ b. check b 25 0) wrong
        in
        record {
          said = beginning_of file n;
          rest = drop at file;
          sound = held.sound;
          bytes = whole file at n held;
          goes_on = held-ended file at n held ∙ and_right _ _ (ne_eqb at (length file) (λ z. omega (arith, good.within, z)));
          wrong = omega (arith, number);
          tells =
              ap (λ k. (25, k ∷ [])) (good.here ∙ sym (place_is file at n held))
              ∙ ap (λ k. (k, length (bytes_of (beginning_of file n)) ∷ [])) (sym number);
        }
