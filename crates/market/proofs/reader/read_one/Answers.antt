use Rattle.std.proofs.Common.{length, ap, arith}
use Rattle.std.proofs.lemmas.Result.{err_from_is_err_and}
use Rattle.market.proofs.OneField.{refused, fits, goods-body, sum-body, trader-body, weights-off, goods-next, name-next, sum-next, trader-next}
use Rattle.market.proofs.reader.read_one.Goals as goal

pub returns-in_err-field : goal.returns-in_err-field
returns-in_err-field c =
    let p = err_from_is_err_and c.from_residual.result c.from_residual.ensures.1 in
    rw (p.1, p.2) (refused _ _ _ c.requires.held _ c.due.ensures c.requires.goes_on _ c.in_err-field.ensures)

pub overflow_add-end-2 : goal.overflow_add-end-2
overflow_add-end-2 c = omega (arith, fits _ _ _ c.requires.held _ c.due.ensures _ c.in_ok-field.ensures, ap length c.body.ensures)

pub add_goods-requires : goal.add_goods-requires
add_goods-requires c = goods-body _ _ _ c.requires.held _ c.due.ensures _ c.in_ok-field.ensures _ _ c.in-Goods.is

pub add_sum-requires : goal.add_sum-requires
add_sum-requires c = sum-body _ _ _ c.requires.held _ c.due.ensures _ c.in_ok-field.ensures _ _ c.in-Sum.is

pub of-trader-requires : goal.of-trader-requires
of-trader-requires c = trader-body _ _ _ c.requires.held _ c.due.ensures _ c.in_ok-field.ensures _ _ c.in-Trader.is

pub returns-then-not-adds_up_to : goal.returns-then-not-adds_up_to
returns-then-not-adds_up_to c =
    weights-off _ _ _ c.requires.held _ c.due.ensures _ c.in_ok-field.ensures _ _ c.in-Trader.is _ c.of-trader.ensures c.if-not-adds_up_to.ensures

pub returns-in-Goods : goal.returns-in-Goods
returns-in-Goods c =
    goods-next _ _ _ c.requires.held _ c.due.ensures _ c.in_ok-field.ensures _ _ _ c.body.ensures _ c.in-Goods.is c.add_goods.ensures

pub returns-in-Name : goal.returns-in-Name
returns-in-Name c =
    name-next _ _ _ c.requires.held _ c.due.ensures _ c.in_ok-field.ensures _ _ _ c.body.ensures _ c.in-Name.is c.add_name.ensures

pub returns-in-Sum : goal.returns-in-Sum
returns-in-Sum c =
    sum-next _ _ _ c.requires.held _ c.due.ensures _ c.in_ok-field.ensures _ _ _ c.body.ensures _ c.in-Sum.is
    (λ i. omega (arith, c.type_inv.file i)) c.add_sum.ensures

pub returns-else-not-adds_up_to : goal.returns-else-not-adds_up_to
returns-else-not-adds_up_to c =
    trader-next _ _ _ c.requires.held _ c.due.ensures _ c.in_ok-field.ensures _ _ _ c.body.ensures _ c.in-Trader.is
    _ c.of-trader.ensures c.if-not-adds_up_to.ensures c.add_trader.ensures
