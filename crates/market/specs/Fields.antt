-- What reading one field answers.
use Rattle.std.specs.Prelude.{ℕ, ◌+◌, cond, List, [], ◌∷◌, length, Ok, Err, Some, None, Option, Result, ◌==◌, nat_le}
use Rattle.mesh.specs.Refusals.{Told}
use Rattle.layout.specs.Faults as layout
use Rattle.layout.specs.Faults.{tag_of, length_of, body_of, tag_due, length_fits, value_fits, check}
use Rattle.market.specs.declared.field.Due.{Due}
use Rattle.market.specs.declared.field.Due.TheVariants as due
use Rattle.market.specs.declared.field.Field.{Field}
use Rattle.market.specs.declared.field.Field.TheVariants as field

-- Which field is due, if any.
abbrev pub due_of : Option Due → layout.Due
due_of (Some due.Goods) = layout.goods_due
due_of (Some due.Name) = layout.name_due
due_of (Some due.Sum) = layout.sum_due
due_of (Some (due.Trader g S)) = layout.trader_due g S
due_of None = layout.nothing_due

-- A field by its tag, its body, and the place of its tag byte.
abbrev pub field_of : Field → ℕ × List ℕ × ℕ
field_of (field.Goods body place) = (1, body.now, place)
field_of (field.Name body place) = (2, body.now, place)
field_of (field.Sum body place) = (3, body.now, place)
field_of (field.Trader body place) = (4, body.now, place)

abbrev pub due_tag : layout.Due → ℕ
due_tag layout.goods_due = 1
due_tag layout.name_due = 2
due_tag layout.sum_due = 3
due_tag (layout.trader_due g S) = 4
due_tag layout.nothing_due = 0

-- The checks of a field in their order, all but that of a trader's weights.
abbrev pub early : layout.Due → List ℕ → ℕ
early d bytes =
    check (nat_le 3 (length bytes)) 21
    (check (tag_due d (tag_of bytes)) 22
    (check (length_fits d (length_of bytes)) 23
    (check (nat_le (3 + length_of bytes) (length bytes)) 21
    (check (value_fits d (body_of bytes)) 24 0))))

-- The field at the head of the bytes, which stand at a place of the file, where d is due.
abbrev pub field_for : layout.Due → List ℕ → ℕ → Result (ℕ × List ℕ × ℕ) Told
field_for d bytes place = cond (early d bytes == 0) (Ok (due_tag d, body_of bytes, place)) (Err (early d bytes, place ∷ []))
