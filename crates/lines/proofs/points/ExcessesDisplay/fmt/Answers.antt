use Rattle.std.proofs.Common.{arith, rules}
use Rattle.std.proofs.Output.{has_written_append, has_written_of_eq}
use Rattle.std.specs.Fmt.{signed_decimal}
use Rattle.market.specs.Markets.{excess_at}
use Rattle.lines.proofs.OneMore.{one_good_more}
use Rattle.lines.proofs.points.ExcessesDisplay.fmt.Goals as goal

pub loop-good-preserved : goal.loop-good-preserved
loop-good-preserved g c = λ plain.
    has_written_of_eq _ _ _ _ _ (one_good_more signed_decimal (excess_at c.args.self.now.market.now c.args.self.now.point.now) c.loop-good.good _ (omega arith) (omega arith))
    (has_written_append _ _ _ _ _ _ (c.loop-good.invariant plain) (search rules))

pub returns-in_ok-write-clause-writes : goal.returns-in_ok-write-clause-writes
returns-in_ok-write-clause-writes g c = λ plain done.
    has_written_of_eq _ _ _ _ _ (one_good_more signed_decimal (excess_at c.args.self.now.market.now c.args.self.now.point.now) c.loop-good.good _ (omega arith) (omega arith))
    (has_written_append _ _ _ _ _ _ (c.loop-good.invariant plain) (search rules))
