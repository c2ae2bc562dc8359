use Rattle.std.proofs.Common.{leb, rules}
use Rattle.std.proofs.lemmas.Fn.{always_returns_same}
use Rattle.mesh.proofs.Levels.{falls-answer}
use Rattle.mesh.proofs.point.levels.fall.Goals as goal

pub returns : goal.returns
returns c =
    falls-answer c.args.levels.now _ (c.is_sorted_by.ensures.cases (λ level next. leb next level) (always_returns_same _ _ _ (λ a r f k. search rules)))
