use Rattle.std.proofs.Common.{[], ◌∷◌, refl}
use Rattle.labelling.specs.Labels.{Rule}
use Rattle.labelling.specs.Sheets.{sheet_rule}
use Rattle.todd_laws.specs.K1.{k1}
use Rattle.todd_laws.specs.J1.{j1}
use Rattle.figures.specs.Examples.{swap_rule, from_first}
use Rattle.figures.proofs.Walks.{walk, walk-leads}
use Rattle.figures.proofs.worked_examples.Goals as goal

-- The labels of the sheet that halts the walk.
abbrev wrong_start : Rule
wrong_start = sheet_rule 4 (2 ∷ 1 ∷ 1 ∷ 2 ∷ 2 ∷ [])

pub returns : goal.returns
returns c = record {
  levels = refl;
  prices = refl;
  first_short = refl;
  second_spare = refl;
  label_second = refl;
  label_first = refl;
  label_priced = refl;
  file = refl;
  cells_1_2 = refl;
  cells_4_2 = refl;
  cells_2_3 = refl;
  k1_first = refl;
  k1_second = (_, refl, refl);
  k1_third = refl;
  k1_last = refl;
  j1_first = refl;
  j1_admits = refl;
  j1_does_not = refl;
  k1_arrives = record { path = walk k1 swap_rule from_first 6; leads = walk-leads k1 swap_rule from_first 6 tt; said = refl; count = refl };
  j1_arrives = record { path = walk j1 swap_rule from_first 6; leads = walk-leads j1 swap_rule from_first 6 tt; said = refl; count = refl };
  sheet_halts = record { path = walk k1 wrong_start from_first 1; leads = walk-leads k1 wrong_start from_first 1 tt; said = refl; count = refl };
}
