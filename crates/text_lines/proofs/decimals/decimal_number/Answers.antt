use Rattle.std.proofs.Common.{sym, subst, arith, List, ℕ}
use Rattle.std.specs.Str.{IsAscii}
use Rattle.std.proofs.lemmas.Fmt.{IsAscii-decimal}
use Rattle.std.proofs.lemmas.Str.{IsUtf8-from_ascii}
use Rattle.text_lines.proofs.decimals.decimal_number.Goals as goal

pub returns-in_default-clause-none : goal.returns-in_default-clause-none
returns-in_default-clause-none c = λ n is. c.in_default.ensures.cases.0 (IsUtf8-from_ascii c.args.word.now
    (subst (λ (bs : List ℕ). IsAscii bs) (sym is.written) (IsAscii-decimal n (omega (arith, is.small)))))
