-- What is held of a file, put to use.
--   held_start                     at the start nothing is held
--   sound-naming, sound-trading    what is known of the numbers at each stage
--   held-due, held-ended           the field that is due, and whether the file has ended
--   held-fault                     a refused field is the fault of the file
use Rattle.std.proofs.Common.{◌≡◌, ℕ, ◌<◌, ◌≤◌, true, false, ◌&&◌, eqb, ltb, List, [], ◌∷◌, ◌++◌, length, take, drop, Err, sym, refl, ap, ◌∙◌, subst, inl, inr, arith, lit≤}
use Rattle.std.specs.List.{AllByRecursion}
use Rattle.std.proofs.lemmas.List.{length-map, length-take-le, length-drop, take-append-drop}
use Rattle.std.proofs.lemmas.Bool.{and_parts, leb-true, eq-eqb, ne_eqb, le-ltb, cases_eq}
use Rattle.std.proofs.lemmas.Bool.Decides.{nat_tests}
use Rattle.mesh.specs.Refusals.{Told}
use Rattle.mesh.specs.Range.{fit_goods}
use Rattle.layout.specs.Layout.{NameFits, fit_sum, TraderFits}
use Rattle.layout.specs.Faults.{naming, trading, bytes_of, Sound, due, ended, flaw, FieldFault}
use Rattle.market.specs.Rows.{traders_in, names_in}
use Rattle.market.specs.Fields.{field_for}
use Rattle.market.specs.declared.rows.Numbers.{Numbers}
use Rattle.market.specs.Adding.{due_in, unsaid}
use Rattle.market.specs.Held.{beginning_of, Held}
use Rattle.market.proofs.FieldTells.{Answer, field-refused}
use Rattle.market.proofs.Stages.{is-empty, is-naming, is-trading}

pub held_start : (file : List ℕ) → Held file 0 unsaid
held_start file = record {
  within = omega arith;
  bytes = refl;
  sound = tt;
  names_room = refl;
  traders_room = refl;
  few_names = lit≤ tt;
  few_traders = lit≤ tt;
  no_goods = λ z. (refl, refl);
  no_sum = λ z. refl;
  placed = λ j low high. absurd (omega arith);
}

module _ (file : List ℕ) (at : ℕ) (n : Numbers) (held : Held file at n) where
  pub names-many : length (names_in file n.named n.names) ≡ n.named
  names-many = rw length-map (length-take-le n.named n.names (omega (arith, held.few_names, held.names_room)))

  pub traders-many : length (traders_in n.goods (take n.filled n.traders)) ≡ n.filled
  traders-many = rw length-map (length-take-le n.filled n.traders (omega (arith, held.few_traders, held.traders_room)))

  pub sound-naming : 0 < n.goods → n.sum ≡ 0
      → (fit_goods n.goods ≡ true) × (n.named ≤ n.goods) × AllByRecursion NameFits (names_in file n.named n.names)
  sound-naming some none =
      let sound : Sound (naming n.goods (names_in file n.named n.names)) = subst Sound (is-naming file n some none) held.sound in
      (sound.0, omega (arith, sound.1, names-many), sound.2)

  pub sound-trading : 0 < n.goods → 0 < n.sum
      → (fit_goods n.goods ≡ true) × (n.named ≡ n.goods) × AllByRecursion NameFits (names_in file n.named n.names) × (fit_sum n.sum ≡ true)
      × AllByRecursion (TraderFits n.goods n.sum) (traders_in n.goods (take n.filled n.traders))
  sound-trading some more =
      let sound : Sound (trading n.goods (names_in file n.named n.names) n.sum (traders_in n.goods (take n.filled n.traders))) =
      subst Sound (is-trading file n some more) held.sound
      in
      (sound.0, sym names-many ∙ sound.1, sound.2, sound.3, sound.5)

  -- While a name is lacking, there is no sum.
  pub no-sum-yet : 0 < n.goods → n.named < n.goods → n.sum ≡ 0
  no-sum-yet some lacking =
      elim (cases_eq n.sum 0) [ inl none ↦ none | inr more ↦ absurd (omega (arith, lacking, (sound-trading some (omega (arith, more))).1)) ]

  -- The three stages.
  pub by-stage : (P : Type 0) → (n.goods ≡ 0 → P) → (0 < n.goods → n.sum ≡ 0 → P) → (0 < n.goods → 0 < n.sum → P) → P
  by-stage P a b c =
      elim (cases_eq n.goods 0) [
        | inl none ↦ a none
        | inr some ↦ elim (cases_eq n.sum 0) [
          | inl none ↦ b (omega (arith, some)) none
          | inr more ↦ c (omega (arith, some)) (omega (arith, more))
        ]
      ]

  pub goods-few : n.goods ≤ 8
  goods-few =
      by-stage (n.goods ≤ 8) (λ none. omega arith) (λ some none. leb-true _ _ (and_parts _ _ (sound-naming some none).0).1)
      (λ some more. leb-true _ _ (and_parts _ _ (sound-trading some more).0).1)

  pub held-due : due_in n ≡ due (beginning_of file n)
  held-due =
      by-stage (due_in n ≡ due (beginning_of file n))
      (λ none. rw (eq-eqb n.goods 0 none))
      (λ some none. rw (ne_eqb n.goods 0 (λ z. omega arith), eq-eqb n.sum 0 none, names-many))
      (λ some more.
      let named : ltb n.named n.goods ≡ false = le-ltb n.named n.goods (omega (arith, (sound-trading some more).1)) in
      rw (ne_eqb n.goods 0 (λ z. omega arith), ne_eqb n.sum 0 (λ z. omega arith), traders-many, named))

  pub held-ended : ended (beginning_of file n) (drop at file) ≡ (ltb 0 n.filled && eqb at (length file))
  held-ended =
      by-stage (ended (beginning_of file n) (drop at file) ≡ (ltb 0 n.filled && eqb at (length file)))
      (λ none. rw (is-empty file n none, held.no_sum (held.no_goods none).1))
      (λ some none. rw (is-naming file n some none, held.no_sum none))
      (λ some more. rw (is-trading file n some more, traders-many) (ap (λ b. ltb 0 n.filled && b) same_end))
    where
      same_end : eqb (length (drop at file)) 0 ≡ eqb at (length file)
      same_end = let h = held.within in rw length-drop (grind (arith, nat_tests))

  pub whole : file ≡ bytes_of (beginning_of file n) ++ drop at file
  whole = sym (take-append-drop at file) ∙ ap (λ b. b ++ drop at file) held.bytes

  pub place_is : length (bytes_of (beginning_of file n)) ≡ at
  place_is = sym (ap length held.bytes) ∙ length-take-le at file held.within

  -- A refused field is the fault of the file, if the file has not ended.
  pub held-fault : (ltb 0 n.filled && eqb at (length file)) ≡ false → (t : Told) → ◌≡◌ {A = Answer} (Err t) (field_for (due_in n) (drop at file) at)
      → FieldFault file t
  held-fault on t e =
      let told-so = field-refused (due_in n) (drop at file) at t e in
      record {
        said = beginning_of file n;
        rest = drop at file;
        sound = held.sound;
        bytes = whole;
        goes_on = held-ended ∙ on;
        wrong = subst (λ d. 0 < flaw d (drop at file)) held-due told-so.0;
        tells =
            told-so.1 ∙ ap (λ d. (flaw d (drop at file), at ∷ [])) held-due
            ∙ ap (λ k. (flaw (due (beginning_of file n)) (drop at file), k ∷ [])) (sym place_is);
      }
