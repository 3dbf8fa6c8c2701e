use Rattle.std.proofs.Common.{◌≡◌, ℕ, false, true, refl, ap, sym, subst}
use Rattle.ilk_base.specs.declared.words.BayId.{BayId}
use Rattle.judge_pool.proofs.ErrorLemmas.{passed_on}
use Rattle.commissioning_tests.specs.declared.refusal.TestsRefusal.{TestsRefusal}
use Rattle.commissioning_tests.specs.Refusing.{IsNarrowBy, IsRefusal, IsWideBay}
use Rattle.commissioning_tests.proofs.LeadLemmas.{tests_less, tests_more}
use Rattle.commissioning_tests.proofs.RefusalLemmas.{upto_less, upto_more, refusal_of}
use Rattle.commissioning_tests.proofs.all_bays.add_tests.Goals as goal

pub returns-then-not-is_tested-clause-tests : goal.returns-then-not-is_tested-clause-tests
returns-then-not-is_tested-clause-tests c =
    tests_less c.args.station.now c.args.leads.now c.args.part.0 c.args.all.now.items c.requires.before
    (λ tested. let both : false ≡ true = c.if-not-is_tested.ensures.1 tested in cc both)

pub returns-clause-tests : goal.returns-clause-tests
returns-clause-tests c =
    rw c.in_ok-push.ensures.items (tests_more c.args.station.now c.args.leads.now c.args.part.0 c.args.all.now.items
    c.in_ok-tests.tests c.requires.before (c.if-not-is_tested.ensures.0 refl)
    (ap (λ (b : BayId). b.0) c.in_ok-tests.ensures.bay) c.in_ok-tests.ensures.are)

pub returns-then-not-is_tested-clause-narrow : goal.returns-then-not-is_tested-clause-narrow
returns-then-not-is_tested-clause-narrow c =
    upto_less c.args.station.now c.args.leads.now c.args.part.0 c.requires.narrow
    (λ tested. let both : false ≡ true = c.if-not-is_tested.ensures.1 tested in cc both)

pub returns-clause-narrow : goal.returns-clause-narrow
returns-clause-narrow c =
    let (steps, narrow) = c.in_ok-tests.ensures.narrow in
    upto_more c.args.station.now c.args.leads.now c.args.part.0 c.requires.narrow steps
    (subst (λ (l : ℕ). IsNarrowBy c.args.station.now steps c.args.part.0 l) c.requires.limit narrow)

pub returns-in_err-tests-clause-refusal : goal.returns-in_err-tests-clause-refusal
returns-in_err-tests-clause-refusal c =
    passed_on _ _ c.from_residual.result c.from_residual.ensures.1 (λ e same.
    subst (λ (r : TestsRefusal). IsRefusal (IsWideBay c.args.station.now) r) (sym same)
    (refusal_of c.args.station.now c.args.leads.now c.args.part.0 c.args.limit c.requires.leads c.requires.narrow
    (c.if-not-is_tested.ensures.0 refl) c.requires.limit _ c.in_err-tests.ensures.refusal))
