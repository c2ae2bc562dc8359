use Rattle.std.proofs.Common.{◌%◌, eqb, ◌&&◌, refl, ◌∙◌, rules, tests}
use Rattle.std.specs.List.{list_all}
use Rattle.std.proofs.lemmas.Iterator.{YieldsList-from_slice}
use Rattle.std.proofs.lemmas.Iterator.Search.{all_from_yields_List}
use Rattle.std.proofs.lemmas.List.Recursion.{same_from_clauses}
use Rattle.todd_laws.specs.J1.{all_even}
use Rattle.todd.proofs.start.all_even.Goals as goal

pub returns : goal.returns
returns c =
    all_from_yields_List (λ n. eqb (n % 2) 0) _ _ _ c.all.ensures.ran (YieldsList-from_slice c.args.numbers.now cc) (λ x b q k. search (rules, tests))
    ∙ same_from_clauses (list_all (λ n. eqb (n % 2) 0)) all_even (λ n b. eqb (n % 2) 0 && b) refl (λ _ _. refl) (λ _ _. refl) c.args.numbers.now
