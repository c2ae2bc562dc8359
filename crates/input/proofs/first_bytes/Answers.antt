use Rattle.std.proofs.Common.{◌≡◌, ◌++◌, take, sym, ap, ◌∙◌, arith}
use Rattle.std.proofs.lemmas.Result.{IfOk-weaker}
use Rattle.std.specs.Io.Iter.{bytes_remaining}
use Rattle.input.proofs.FirstBytes.{first_read, when_known}
use Rattle.input.proofs.first_bytes.Goals as goal

pub returns-clause-first : goal.returns-clause-first
returns-clause-first g c =
    let many : c.take.result.n ≡ c.args.most = omega arith in
    IfOk-weaker c.try_collect.result _ _
    (λ bytes ran. when_known (g.R.Read.remaining c.args.input) (λ xs. bytes.items ≡ take c.args.most xs)
    (λ xs here.
    first_read _ (bytes_remaining g.R.Read.remaining) (λ v. v.items) _ (λ s r t given. given) (λ p x q pushed. (pushed.0, sym pushed.1, pushed.2.0))
    c.args.most xs ran.0 c.take.result ran.1 bytes many (ap (bytes_remaining g.R.Read.remaining) c.take.ensures.source ∙ c.bytes.ensures ∙ here) ran.2 ran.4
    ∙ ap (λ w. w ++ take c.args.most xs) ran.3.0)) c.try_collect.ensures.ran
