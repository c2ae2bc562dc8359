use Rattle.market_walks.proofs.MarketWalks.{no-halts}
use Rattle.market_walks.proofs.never_halts.Goals as goal

pub returns : goal.returns
returns b c = λ o calls p own leads.
    no-halts _ (λ g D two one. b.met.T.Triangulation.lawful c.args.tri.now g D two one) c.args.market.now o own calls p leads
