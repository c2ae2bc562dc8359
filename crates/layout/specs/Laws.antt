-- A byte string is the file of one valid economy at most, has one fault at most, and never both.
use Rattle.std.specs.Prelude.{◌≡◌, ℕ, List}
use Rattle.mesh.specs.Refusals.{Told}
use Rattle.layout.specs.Layout.{Economy, file_of, Valid}
use Rattle.layout.specs.Faults.{Fault}

abbrev pub OneEconomy : Type 0
OneEconomy = (e f : Economy) → Valid e → Valid f → file_of e ≡ file_of f → e ≡ f

abbrev pub OneFault : Type 0
OneFault = (file : List ℕ) (t u : Told) → Fault file t → Fault file u → t ≡ u

abbrev pub NoFileHasAFault : Type 0
NoFileHasAFault = (e : Economy) (t : Told) → Valid e → Fault (file_of e) t → ⊥
