use Rattle.std.proofs.Common.{rules, ◌≡◌, ◌&&◌, Bool, true, false, ℕ}
use Rattle.std.specs.Prelude.{◌==◌}
use Rattle.std.specs.Option.{unwrap_or}
use Rattle.std.proofs.lemmas.Iterator.{first_from_Range}
use Rattle.mesh.specs.Points.{goods_of, prices_of}
use Rattle.trade.specs.Trade.{clears}
use Rattle.market.specs.Markets.{traders_of}
use Rattle.market.proofs.LabelSearch.{label-is, label-found}
use Rattle.market.proofs.market.excess.MarketLabelling.label.Goals as goal

pub returns : goal.returns
returns c =
    let m = c.args.self.now in
    let p = c.args.point.now in
    let test : ℕ → Bool = λ j. goods_of p == m.numbers.goods && clears m.numbers.sum (traders_of m) (prices_of p) j in
    let sought = first_from_Range _ _ _ _ (λ j. true ≡ test j) (λ j. false ≡ test j) c.find.ensures.ran (λ x q called. cc) (λ x q called. (search rules, cc)) in
    let is : c.map_or.result ≡ unwrap_or c.find.result 0 = search rules in
    record { value = label-is m p c.find.result sought _ is; found = label-found m p c.find.result sought _ is }
