-- A record that tells a second time where a switch stands at first, and the fault of a record.
use Rattle.std.proofs.Common.{◌≡◌, ◌<◌, ℕ, zero, suc, true, List, [], ◌∷◌, length, get_or, Ok, Err, Result, Contains}
use Rattle.std.proofs.Common.{refl, sym, ap, subst, arith}
use Rattle.std.specs.Prelude.{IfErr}
use Rattle.station_graph.specs.Diagram.{Diagram, IsStation, switch_path}
use Rattle.reservation_core.specs.declared.values.LogEvent.{LogEvent}
use Rattle.reservation_core.specs.declared.values.LogEvent.TheVariants.{At as TellsAt, Step as TellsStep}
use Rattle.log_replay.specs.declared.kinds.RecordKind.{RecordKind}
use Rattle.log_replay.specs.declared.kinds.RecordKind.TheVariants.{At, Command, Sense, Begin, End, Deliver, Tick}
use Rattle.log_replay.specs.declared.kinds.RecordKind.TheVariants.{Withdraw, Restart, Part, Cut}
use Rattle.log_replay.specs.declared.limits.TheConstants.{MOST_RECORDS}
use Rattle.log_replay.specs.Records.{RecordSays, event_row, is_again}
use Rattle.log_replay.specs.RecordFaults.{kind_name, record_row, IsOfKind, IsKnown, IsWord, IsAgain, KindFault}
use Rattle.log_replay.specs.RecordFaults.{RecordFault}

-- what is told again is told by a record `at`
again_is_at : (k : RecordKind) → kind_name k ≡ kind_name At → k ≡ At
again_is_at At is = refl
again_is_at Command is = cc is
again_is_at Sense is = cc is
again_is_at Begin is = cc is
again_is_at End is = cc is
again_is_at Deliver is = cc is
again_is_at Tick is = cc is
again_is_at Withdraw is = cc is
again_is_at Restart is = cc is
again_is_at Part is = cc is
again_is_at Cut is = cc is

-- a record that tells again where a switch stands
pub record ToldAgain (d : Diagram) (before : List LogEvent) (k : RecordKind) (first second : List ℕ) : Type 0 where
  pub is_at : k ≡ At
  pub known : IsKnown d k first
  pub word : IsWord k second
  pub again : IsAgain d before k first

pub there : (paths : List (List ℕ)) (i : ℕ) → i < length paths → Contains paths (get_or paths i [])
there paths i lt = (i, lt, same paths i lt)
  where
    same : (xs : List (List ℕ)) (k : ℕ) → k < length xs → get_or xs k (get_or xs k []) ≡ get_or xs k []
    same [] k low = refl
    same (x ∷ xs) zero low = refl
    same (x ∷ xs) (suc k) low = same xs k (omega (arith, low))

pub told_again : (d : Diagram) (before : List LogEvent) (k : RecordKind) (first second : List ℕ) (e : LogEvent) →
    IsStation d → RecordSays d (record_row k first second) e → is_again before e ≡ true
    → ToldAgain d before k first second
told_again d before k first second (TellsStep e) station says again = cc again
told_again d before k first second (TellsAt i closed) station says again =
    let named : kind_name k ≡ kind_name At = ap (λ (row : List (List ℕ)). get_or row 0 []) says.written in
    let path : first ≡ switch_path d i.0 = ap (λ (row : List (List ℕ)). get_or row 1 []) says.written in
    let at : k ≡ At = again_is_at k named in
    let written : record_row At first second ≡ event_row d (TellsAt i closed) =
    subst (λ (x : RecordKind). record_row x first second ≡ event_row d (TellsAt i closed)) at says.written in
    let it : ToldAgain d before At first second = record {
      is_at = refl;
      known = subst (Contains d.switch_paths) (sym path)
          (there d.switch_paths i.0 (omega (arith, says.told, station.items.paths)));
      word = (closed, ap (λ (row : List (List ℕ)). get_or row 2 []) written);
      again = (i.0, path, says.told, again);
    } in
    subst (λ (x : RecordKind). ToldAgain d before x first second) (sym at) it

pub fault_of_kind : (d : Diagram) (before : List LogEvent) (k : RecordKind) (row : List (List ℕ))
    (r : Result LogEvent ℕ) → length before < MOST_RECORDS → IsOfKind row k → IfErr r (KindFault d before k row) →
    IfErr r (RecordFault d before row)
fault_of_kind d before k row (Ok e) few named fault = fault
fault_of_kind d before k row (Err n) few named fault = RecordFault.of_kind k few named fault
