-- What a refusal tells: its number, and the values that it carries.
-- Contracts speak of a refusal through `told` alone, so that a new case is one more line here and no proof notices.
use Rattle.std.specs.Prelude.{ℕ, Bool, cond, List, [], ◌∷◌, Some, None, Ok, Err, Option, Result}
use Rattle.mesh.specs.declared.refusal.Refusal.{Refusal}
use Rattle.mesh.specs.declared.refusal.Refusal.TheVariants.{GoodsOutOfRange, MeshOutOfRange, NotAPricePoint, NotAdmitted, TicketNotAccepted, FactorOutOfRange, FinerThanFinest, NotWalking, NotArrived, WayBlocked, NoSuchGood, NoSuchPlace, SheetMeshOutOfRange, SheetLength, Truncated, TagNotDue, LengthWrong, ValueOutOfRange, WeightsOffSum, GoodUnowned}

-- A refusal's number with the values that it carries.
abbrev pub Told : Type 0
Told = ℕ × List ℕ

abbrev pub told : Refusal → Told
told GoodsOutOfRange = (1, [])
told MeshOutOfRange = (2, [])
told NotAPricePoint = (3, [])
told NotAdmitted = (4, [])
told TicketNotAccepted = (5, [])
told FactorOutOfRange = (6, [])
told FinerThanFinest = (7, [])
told NotWalking = (8, [])
told NotArrived = (9, [])
told WayBlocked = (10, [])
told NoSuchGood = (11, [])
told NoSuchPlace = (12, [])
told SheetMeshOutOfRange = (15, [])
told SheetLength = (16, [])
told (Truncated place) = (21, place ∷ [])
told (TagNotDue place) = (22, place ∷ [])
told (LengthWrong place) = (23, place ∷ [])
told (ValueOutOfRange place) = (24, place ∷ [])
told (WeightsOffSum place) = (25, place ∷ [])
told (GoodUnowned good) = (26, good ∷ [])

-- An answer by what it means: f of what was granted, or what the refusal tells.
abbrev pub answered : {A B : Type 0} → (A → B) → Result A Refusal → Result B Told
answered f (Ok x) = Ok (f x)
answered f (Err e) = Err (told e)

-- The refusal with this number, carrying nothing, unless the test holds: written one in another, these are checks in their order.
abbrev pub insist : {B : Type 0} → Bool → ℕ → Result B Told → Result B Told
insist test number go = cond test go (Err (number, []))

-- The first of some values, if there is one.
abbrev pub head_of : List ℕ → Option ℕ
head_of [] = None
head_of (n ∷ ns) = Some n

-- The value that a refusal carries, where it carries one.
abbrev pub carried_by : Told → Option ℕ
carried_by t = head_of t.1
