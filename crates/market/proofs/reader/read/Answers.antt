use Rattle.std.proofs.Common.{inl}
use Rattle.std.proofs.lemmas.Result.{err_from_is_err_and}
use Rattle.market.proofs.Turns.{reads_all}
use Rattle.market.proofs.Finished.{end-tells, market-numbers, whole-market, unowned-fault}
use Rattle.market.proofs.reader.read.Goals as goal

pub returns-in_err-at : goal.returns-in_err-at
returns-in_err-at c =
    let p = err_from_is_err_and c.from_residual.result c.from_residual.ensures.1 in
    rw (p.1, p.2) (reads_all c.args.file.now _ (inl c.in_err-at.ensures))

pub with-market-requires : goal.with-market-requires
with-market-requires c =
    let end = end-tells _ _ _ c.loop-numbers-test.ensures in
    market-numbers c.args.file.now c.loop-numbers.at c.loop-numbers.numbers c.loop-numbers.invariant end.0

pub returns-in-Some : goal.returns-in-Some
returns-in-Some c =
    let end = end-tells _ _ _ c.loop-numbers-test.ensures in
    unowned-fault c.args.file.now c.loop-numbers.at c.loop-numbers.numbers c.loop-numbers.invariant end.0 end.1
    c.with-market.result c.with-market.ensures c.in-Some.good c.in-Some.ensures

pub returns-in-None : goal.returns-in-None
returns-in-None c =
    let end = end-tells _ _ _ c.loop-numbers-test.ensures in
    whole-market c.args.file.now c.loop-numbers.at c.loop-numbers.numbers c.loop-numbers.invariant end.0 end.1
    c.with-market.result c.with-market.ensures c.in-None.ensures
