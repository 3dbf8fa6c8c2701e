use Rattle.std.proofs.Common.{◌∙◌, ℕ, List, [], ◌∷◌, ◌++◌, ap, codes, decimal}
use Rattle.std.proofs.lemmas.Result.{on_ok_weaker}
use Rattle.reservation_core.specs.Lines.{kind_of}
use Rattle.reservation_core.specs.ReportLines.{message_name}
use Rattle.log_replay.proofs.Grown.{grown}
use Rattle.log_replay.proofs.report_lines.push_sent.Goals as goal

pub returns : goal.returns
returns c =
    let text = c.args.text.now in
    let gap : List ℕ = 32 ∷ [] in
    let sent : List ℕ = codes "send " ++ decimal c.args.number in
    let name : List ℕ = message_name (kind_of c.args.frame.now.body) in
    let to : List ℕ = decimal c.args.frame.now.to.0 in
    let named : List ℕ = (sent ++ gap) ++ name in
    let one = grown text (codes "send ") (decimal c.args.number) _ _ c.in_ok-push.ensures.ok
    c.in_ok-push_decimal.ensures.ok in
    let two = grown text sent gap _ _ one c.in_ok-push-2.ensures.ok in
    let three = grown text (sent ++ gap) name _ _ two (c.in_ok-push-3.ensures.ok
    ∙ ap (λ (x : List ℕ). c.push-2.new.self ++ x) c.message_name.ensures) in
    let four = grown text named gap _ _ three c.in_ok-push-4.ensures.ok in
    let five = grown text (named ++ gap) to _ _ four (c.in_ok-push_decimal-2.ensures.ok
    ∙ ap (λ (n : ℕ). c.push-4.new.self ++ decimal n) c.from.ensures) in
    let six = grown text ((named ++ gap) ++ to) gap _ _ five c.in_ok-push-5.ensures.ok in
    let seven = grown text (((named ++ gap) ++ to) ++ gap) (decimal c.args.frame.now.round) _ _ six
    c.in_ok-push_decimal-3.ensures.ok in
    on_ok_weaker c.push-6.result (λ last. last ∙ ap (λ (x : List ℕ). x ++ 10 ∷ []) seven) c.push-6.ensures.ok
