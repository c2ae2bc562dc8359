use Rattle.std.proofs.Common.{Ok, ap, ◌∙◌}
use Rattle.market.proofs.NameParts.{name-is, name-stands}
use Rattle.market.proofs.market.Market.name_in.Goals as goal

pub returns : goal.returns
returns c =
    let file = c.args.file.now in
    let here = ap Ok c.of.ensures ∙ name-is file c.args.self.now c.args.good c.in_ok-span.span _ c.in_ok-span.ensures in
    record { value = here; place = name-stands file c.args.self.now c.args.good c.of.result.now here }
