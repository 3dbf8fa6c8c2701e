use Rattle.std.proofs.Common.{◌≡◌, ◌≢◌, ℕ, ◌<◌, slice_get, Some}
use Rattle.exchange_plan.specs.declared.planned.PartnerBits.{PartnerBits}
use Rattle.exchange_plan.proofs.planned.bits_of.Given as goal

abbrev pub invariant-loop-partner : goal.invariant-loop-partner
invariant-loop-partner l =
    (i : ℕ) (x : PartnerBits) → i < l.partner-index → slice_get l.list i ≡ Some x → x.bay.0 ≢ l.bay.0
