-- One field that was granted.
--   Good            what is known of it
--   good-field      every granted field is good
--   said_more       the bytes of the file up to its end
--   goods-length, sum-length         its body is as long as it must be
--   field-within, name-room, trader-room    it lies in the file, and there is room for what it says
use Rattle.std.proofs.Common.{◌≡◌, ℕ, ◌+◌, ◌*◌, ◌<◌, ◌≤◌, true, List, ◌++◌, length, take, drop, Ok, sym, refl, ap, ◌∙◌, subst, arith}
use Rattle.std.proofs.lemmas.List.{length-drop}
use Rattle.std.proofs.lemmas.Bool.{eqb-true}
use Rattle.layout.specs.Layout.{field}
use Rattle.layout.specs.Faults.{Beginning, bytes_of, Due, tag_of, length_of, body_of, length_fits, value_fits}
use Rattle.market.specs.Rows.{cut}
use Rattle.market.specs.Fields.{due_tag, field_for}
use Rattle.market.specs.declared.rows.Numbers.{Numbers}
use Rattle.market.specs.Adding.{due_in}
use Rattle.market.specs.Held.{beginning_of, Held}
use Rattle.market.proofs.FieldTells.{Answer, passed, field_told}
use Rattle.market.proofs.Stages.{turn, goods-turn, name-turn, sum-turn, trader-turn, tag-due, size_small}
use Rattle.market.proofs.Grown.{body-length, field-more, cut-body}
use Rattle.market.proofs.Standing.{goods-few}

-- A field that was granted where d is due: its bytes lie in the file, after the first `at`, and pass the checks.
pub record Good (d : Due) (file : List ℕ) (at t : ℕ) (body : List ℕ) (place : ℕ) : Type 0 where
  pub here : place ≡ at
  pub is : body ≡ body_of (drop at file)
  pub tag : t ≡ due_tag d
  pub size : length_fits d (length body) ≡ true
  pub value : value_fits d body ≡ true
  pub within : at + 3 + length body ≤ length file
  pub bytes : take (at + 3 + length body) file ≡ take at file ++ field t body
  pub marked : cut file (record { at = at + 3; len = length body }) ≡ body

module _ (file : List ℕ) (at : ℕ) (n : Numbers) (held : Held file at n) (body : List ℕ) (place : ℕ) where
  -- What a granted field brings.
  pub good-field : (t : ℕ) → ◌≡◌ {A = Answer} (Ok (t, body, place)) (field_for (due_in n) (drop at file) at) → Good (due_in n) file at t body place
  good-field t e =
      let told-so = field_told (due_in n) (drop at file) at t place body e in
      let ok = passed (due_in n) (drop at file) told-so.0 in
      let size = body-length (drop at file) ok.head ok.whole in
      let few : length_of (drop at file) ≤ 32 = size_small n (due_in n) (length_of (drop at file)) (goods-few file at n held) (turn n) ok.size in
      let tag : tag_of (drop at file) ≡ t = tag-due (due_in n) (tag_of (drop at file)) ok.tag ∙ sym told-so.1 in
      rw told-so.2
      record {
        here = told-so.3;
        is = refl;
        tag = told-so.1;
        size = rw size ok.size;
        value = ok.value;
        within = omega (arith, length-drop at file, ok.head, ok.whole, held.within);
        bytes = rw tag at (field-more file at held.within ok.head few ok.whole);
        marked = cut-body file at held.within ok.head ok.whole;
      }

  -- The bytes after it, where it says one thing more.
  pub said_more : (t : ℕ) → Good (due_in n) file at t body place → (was will : Beginning) → beginning_of file n ≡ was
      → bytes_of will ≡ bytes_of was ++ field t body → take (at + 3 + length body) file ≡ bytes_of will
  said_more t good was will is more = good.bytes ∙ ap (λ b. b ++ field t body) (held.bytes ∙ ap bytes_of is) ∙ sym more

  -- Any good field lies within the file.
  pub field-within : (t : ℕ) → ◌≡◌ {A = Answer} (Ok (t, body, place)) (field_for (due_in n) (drop at file) at)
      → (place ≡ at) × (at + 3 + length body ≤ length file)
  field-within t e = let good = good-field t e in (good.here, good.within)

  pub goods-length : ◌≡◌ {A = Answer} (Ok (1, body, place)) (field_for (due_in n) (drop at file) at) → length body ≡ 1
  goods-length e =
      let good = good-field 1 e in
      eqb-true _ _ (subst (λ d. length_fits d (length body) ≡ true) (goods-turn n (due_in n) good.tag (turn n)).0 good.size)

  pub sum-length : ◌≡◌ {A = Answer} (Ok (3, body, place)) (field_for (due_in n) (drop at file) at) → length body ≡ 2
  sum-length e =
      let good = good-field 3 e in
      eqb-true _ _ (subst (λ d. length_fits d (length body) ≡ true) (sum-turn n (due_in n) good.tag (turn n)).0 good.size)

  pub name-room : ◌≡◌ {A = Answer} (Ok (2, body, place)) (field_for (due_in n) (drop at file) at) → n.named < 8
  name-room e = let good = good-field 2 e in omega (arith, (name-turn n (due_in n) good.tag (turn n)).2, goods-few file at n held)

  pub trader-room : ◌≡◌ {A = Answer} (Ok (4, body, place)) (field_for (due_in n) (drop at file) at)
      → (n.filled < 16) × (length body ≡ 4 * n.goods)
  trader-room e =
      let good = good-field 4 e in
      let at_turn = trader-turn n (due_in n) good.tag (turn n) in
      (at_turn.3, eqb-true _ _ (subst (λ d. length_fits d (length body) ≡ true) at_turn.0 good.size))
