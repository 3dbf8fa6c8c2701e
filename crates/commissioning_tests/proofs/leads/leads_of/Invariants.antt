use Rattle.commissioning_tests.proofs.LeadLemmas.{LeadsUpto}
use Rattle.commissioning_tests.proofs.leads.leads_of.Given as goal

abbrev pub invariant-loop-part : goal.invariant-loop-part
invariant-loop-part l = LeadsUpto l.station l.leads.items l.part
