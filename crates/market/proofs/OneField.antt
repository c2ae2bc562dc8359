-- What reading one field comes to, from what its parts promise.
--   refused               what is refused is the fault of the file
--   fits                  a field lies in the file
--   goods-body, ..        what the field of an arm has for a body
--   goods-next, ..        what is held after it
use Rattle.std.proofs.Common.{◌≡◌, ℕ, ◌+◌, ◌*◌, ◌<◌, ◌≤◌, true, false, ◌&&◌, eqb, ltb, List, [], ◌∷◌, length, get_or, take, drop, sum, Ok, Err, Bor, sym, refl, ap, ◌∙◌, subst, arith}
use Rattle.std.proofs.lemmas.List.{get_or-drop}
use Rattle.std.proofs.lemmas.Bool.{eqb-true, eqb-false}
use Rattle.labelling.specs.Bytes.{Bytes, take-bytes}
use Rattle.mesh.specs.Refusals.{Told}
use Rattle.layout.specs.Faults.{Due, length_of, FieldFault}
use Rattle.market.specs.Adding.{Written, due_in, with_goods, with_name, with_sum, with_trader}
use Rattle.market.specs.Fields.{field_of, field_for}
use Rattle.market.specs.Held.{Held}
use Rattle.market.specs.declared.field.Field.{Field}
use Rattle.market.specs.declared.field.Field.TheVariants.{Goods, Name, Sum, Trader}
use Rattle.market.specs.declared.rows.Numbers.{Numbers}
use Rattle.market.specs.declared.rows.Trader as row
use Rattle.market.proofs.Turns.{Answer, field_told, goods-few, held-fault, field-within, goods-length, sum-length, held-goods, held-name, held-sum, trader-room, held-trader, trader-off}

-- The bytes of a body are bytes of the file.
body_bytes : (file : List ℕ) (at n i : ℕ) → Bytes file → get_or (take n (drop 3 (drop at file))) i 0 < 256
body_bytes file at n i all =
    let rest : Bytes (drop 3 (drop at file)) = λ k. rw (get_or-drop 3 (drop at file) k 0, get_or-drop at file (3 + k) 0) (all (at + (3 + k))) in
    omega (arith, take-bytes n (drop 3 (drop at file)) rest i)

-- Numbers m are held at the end of a field at a place, whose body is b.
abbrev pub Next : List ℕ → ℕ → List ℕ → Numbers → Type 0
Next file at b m = (at < at + 3 + length b) × Held file (at + 3 + length b) m

module _ (file : List ℕ) (at : ℕ) (n : Numbers) (held : Held file at n) (d : Due) (same : d ≡ due_in n) where
  pub refused : (ltb 0 n.filled && eqb at (length file)) ≡ false → (t : Told) → ◌≡◌ {A = Answer} (Err t) (field_for d (drop at file) at) → FieldFault file t
  refused goes_on t told = held-fault file at n held goes_on t (told ∙ ap (λ x. field_for x (drop at file) at) same)

  module _ (f : Field) (told : ◌≡◌ {A = Answer} (Ok (field_of f)) (field_for d (drop at file) at)) where
    -- What was told, for the field of an arm.
    arm : (g : Field) → f ≡ g → ◌≡◌ {A = Answer} (Ok (field_of g)) (field_for (due_in n) (drop at file) at)
    arm g is = ap (λ x. Ok (field_of x)) (sym is) ∙ told ∙ ap (λ x. field_for x (drop at file) at) same

    pub fits : at + 3 + length (field_of f).1 ≤ length file
    fits = (field-within file at n held (field_of f).1 (field_of f).2 (field_of f).0 (arm f refl)).1

    module _ (body : Bor (List ℕ)) (place : ℕ) where
      pub goods-body : f ≡ Goods body place → length body.now ≡ 1
      goods-body is = goods-length file at n held body.now place (arm (Goods body place) is)

      pub sum-body : f ≡ Sum body place → length body.now ≡ 2
      sum-body is = sum-length file at n held body.now place (arm (Sum body place) is)

      pub trader-body : f ≡ Trader body place → (n.goods ≤ 8) × (length body.now ≡ 4 * n.goods)
      trader-body is = (goods-few file at n held, (trader-room file at n held body.now place (arm (Trader body place) is)).1)

      pub weights-off : f ≡ Trader body place → (t : row.Trader) → Written body.now n.goods t → false ≡ eqb (sum (take n.goods t.weighs)) n.sum
          → FieldFault file (25, place ∷ [])
      weights-off is t written off =
          trader-off file at n held body.now place t written (goods-few file at n held) (arm (Trader body place) is) (eqb-false _ _ (sym off))

      module _ (b : List ℕ) (measured : b ≡ (field_of f).1) (m : Numbers) where
        -- The place after it, by the body that the code measured.
        moved_on : (g : Field) → f ≡ g → (after : Numbers) → m ≡ after → Held file (at + 3 + length (field_of g).1) after → Next file at b m
        moved_on g is after new held =
            (omega arith, subst (λ x. Held file (at + 3 + length b) x) (sym new) (subst (λ x. Held file (at + 3 + length x) after) (sym (measured ∙ ap (λ x. (field_of x).1) is)) held))

        pub goods-next : f ≡ Goods body place → m ≡ with_goods n (get_or body.now 0 0) → Next file at b m
        goods-next is new = moved_on (Goods body place) is _ new (held-goods file at n held body.now place (arm (Goods body place) is))

        pub name-next : f ≡ Name body place → m ≡ with_name n (record { at = place + 3; len = length body.now }) → Next file at b m
        name-next is new = moved_on (Name body place) is _ new (held-name file at n held body.now place (arm (Name body place) is))

        pub sum-next : f ≡ Sum body place → Bytes file → m ≡ with_sum n (256 * get_or body.now 0 0 + get_or body.now 1 0) → Next file at b m
        sum-next is bytes new =
            let told-so = arm (Sum body place) is in
            let tells = field_told (due_in n) (drop at file) at 3 place body.now told-so in
            let low : get_or body.now 1 0 < 256 = rw tells.2 (body_bytes file at (length_of (drop at file)) 1 bytes) in
            moved_on (Sum body place) is _ new (held-sum file at n held body.now place told-so low)

        pub trader-next : f ≡ Trader body place → (t : row.Trader) → Written body.now n.goods t → true ≡ eqb (sum (take n.goods t.weighs)) n.sum
            → m ≡ with_trader n t → Next file at b m
        trader-next is t written adds new =
            moved_on (Trader body place) is _ new
            (held-trader file at n held body.now place t written (goods-few file at n held) (arm (Trader body place) is) (eqb-true _ _ (sym adds)))
