use Rattle.std.proofs.lemmas.Result.{IfOk-weaker}
use Rattle.denial_explain.specs.Explained.{Explains}
use Rattle.why_text.specs.WhyText.{WalksIn, counted_in, shown_in}
use Rattle.why_text.proofs.Walks.{walks_of}
use Rattle.why_text.proofs.why.explained.Goals as goal

pub returns-clause-walks : goal.returns-clause-walks
returns-clause-walks c =
    let d = c.args.station.now in
    let v = c.args.reading.now in
    let op = c.args.op in
    IfOk-weaker c.explain.result (λ e. Explains d v op e)
    (λ e. WalksIn d (counted_in e.rule d (shown_in e.rule v e.op)) e) (λ e h. walks_of d v op e h)
    c.explain.ensures.explains
