use Rattle.std.proofs.Common.{length}
use Rattle.input.proofs.Pairs.{all_written}
use Rattle.input.proofs.hexadecimal.decode.Goals as goal

pub returns-clause-bytes : goal.returns-clause-bytes
returns-clause-bytes c =
    all_written c.args.digits.now c.loop-i.room c.as_chunks.result.0.now (length c.args.room.now) c.min-count.result c.loop-i.i
    c.as_chunks.ensures.front c.as_chunks.ensures.front_len c.min-count.ensures c.loop-i-test.false c.loop-i.auto.i-end c.loop-i.invariant
