use Rattle.std.proofs.Common.{◌≡◌, arith}
use Rattle.std.proofs.lemmas.Fmt.{parse-decimal}
use Rattle.text_lines.proofs.decimals.parsed.Goals as goal

pub returns-in-Ok : goal.returns-in-Ok
returns-in-Ok c = λ n small is.
    let read = parse-decimal 32 n c.args.text.now c.parse.result (omega (arith, small)) (omega
    (arith, small)) is c.parse.ensures.value.0 in
    let came = c.in-Ok.is in
    let number : c.in-Ok.number ≡ n = cc (read, came) in
    number

pub returns-in-Err : goal.returns-in-Err
returns-in-Err c = λ n small is.
    let read = parse-decimal 32 n c.args.text.now c.parse.result (omega (arith, small)) (omega
    (arith, small)) is c.parse.ensures.value.0 in
    let came = c.in-Err.is in
    cc (read, came)
