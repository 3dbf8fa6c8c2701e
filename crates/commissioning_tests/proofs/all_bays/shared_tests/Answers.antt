use Rattle.std.proofs.Common.{sym, subst}
use Rattle.judge_pool.proofs.ErrorLemmas.{passed_on}
use Rattle.commissioning_tests.specs.declared.refusal.TestsRefusal.{TestsRefusal}
use Rattle.commissioning_tests.specs.Refusing.{IsRefusal, IsWideBeyond}
use Rattle.commissioning_tests.proofs.all_bays.shared_tests.Goals as goal

pub returns-in_err-tests-clause-refusal : goal.returns-in_err-tests-clause-refusal
returns-in_err-tests-clause-refusal c =
    passed_on _ _ c.from_residual-in_err-tests.result c.from_residual-in_err-tests.ensures.1 (λ e same.
    subst (λ (r : TestsRefusal). IsRefusal (IsWideBeyond c.args.station.now c.args.bay.0 c.args.limit) r) (sym same)
    c.in_err-tests.ensures.refusal)
