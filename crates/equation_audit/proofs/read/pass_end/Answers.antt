use Rattle.std.proofs.Common.{◌≡◌, true, inl, refl}
use Rattle.equation_audit.proofs.RestLemmas.{never_out}
use Rattle.equation_audit.proofs.read.pass_end.Goals as goal

pub returns-then-not-is_end-clause-err : goal.returns-then-not-is_end-clause-err
returns-then-not-is_end-clause-err c =
    rw c.refused-then-not-is_end.ensures (λ d. inl (record {
      line = c.in-Some.line.now;
      rest = _;
      stands = c.in-Some.ensures.some;
      fault = inl (
        never_out c.in-Some.line.now (λ e. let yes : c.is_end.result ≡ true = c.is_end.ensures.1 e in
            let not_so = c.if-not-is_end.true in cc),
        refl,
      );
    }))
