use Rattle.std.proofs.Common.{◌≡◌, ◌∙◌, ◌+◌, ◌++◌, suc, List, ℕ, sym, ap}
use Rattle.equation_text.specs.Reading.{front_text}
use Rattle.equation_text.specs.Faults.{feeds}
use Rattle.equation_text.proofs.FirstFault.{none_without, first_behind}
use Rattle.equation_text.proofs.undefined.undefined_line.Goals as goal

pub returns-in_default : goal.returns-in_default
returns-in_default c = λ j has. c.in_default.ensures.none has.body (has.is ∙ ap (λ (z : List ℕ). z ++ has.body) (sym
    (c.bytes.ensures ∙ c.in_ok-front.ensures)))

pub returns-in_default-lines_before : goal.returns-in_default-lines_before
returns-in_default-lines_before c =
    let front = c.bytes.ensures ∙ c.in_ok-front.ensures in
    none_without c.args.station.now c.args.text.now c.in-Some.body.now (c.in-Some.ensures.some ∙ ap (λ
    (z : List ℕ). z ++ c.in-Some.body.now) front) c.in_default-lines_before.ensures

pub returns : goal.returns
returns c =
    let front = c.bytes.ensures ∙ c.in_ok-front.ensures in
    let front_lines : c.line_behind.result ≡ suc (feeds (front_text c.args.station.now)) = c.line_behind.ensures
    ∙ ap (λ (z : List ℕ). suc (feeds z)) (c.bytes-2.ensures ∙ c.in_ok-front.ensures) in
    first_behind c.args.station.now c.args.text.now c.in-Some.body.now (c.in-Some.ensures.some ∙ ap (λ
    (z : List ℕ). z ++ c.in-Some.body.now) front) c.in-Some-lines_before.count
    (c.line_behind.result + c.in-Some-lines_before.count) c.in-Some-lines_before.ensures (ap (λ
    n. n + c.in-Some-lines_before.count) front_lines)
