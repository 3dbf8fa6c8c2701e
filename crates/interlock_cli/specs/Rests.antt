-- What each command is given once it has the station of its drawing, in the order in which it is judged, and what it
-- writes: the rest of its form.
use Rattle.std.specs.Prelude.{◌≡◌, ℕ, List}
use Rattle.ilk_base.specs.declared.words.Direction.{Direction}
use Rattle.station_graph.specs.Diagram.{Diagram}
use Rattle.station_state.specs.StateText.{IsStateText}
use Rattle.station_equations.specs.CompileText.{IsCompileText}
use Rattle.exchange_plan.specs.PlanText.{IsPlanText}
use Rattle.program_text.specs.ProgramText.{IsProgramText}
use Rattle.program_text.specs.BayText.{IsBayProgramText}
use Rattle.commissioning_tests.specs.Refusing.{IsWideBay, IsThatWideBay}
use Rattle.tests_text.specs.TestsText.{IsStationTestsText, IsTestsText}
use Rattle.release_texts.specs.CheckText.{IsCheckText}
use Rattle.release_texts.specs.ExplainText.{IsExplainText}
use Rattle.release_texts.specs.DenialsText.{IsDenialsText}
use Rattle.why_text.specs.WhyText.{IsWhyText}
use Rattle.interlock_cli.specs.Formats.{Drawing, Positions, CertainPositions, OrderOf, LogOf, TripLogOf, BlocksOf}
use Rattle.interlock_cli.specs.Formats.{SwitchOf, BayOf}
use Rattle.interlock_cli.specs.Form.{Form, Write, Take, Serve, File, Word}
use Rattle.interlock_cli.specs.OrderWrites.{OrderWrites}
use Rattle.interlock_cli.specs.ReplayWrites.{ReplayWrites}
use Rattle.interlock_cli.specs.TripsWrites.{TripsWrites}
use Rattle.interlock_cli.specs.AuditWrites.{AuditWrites}
use Rattle.interlock_cli.specs.WorkWrites.{WorkWrites}
use Rattle.interlock_cli.specs.CompareWrites.{CompareWrites}
use Rattle.interlock_cli.specs.TestsWrites.{TestsWrites}
use Rattle.interlock_cli.specs.declared.end.Outcome.{Outcome}
use Rattle.interlock_cli.specs.declared.end.Outcome.TheVariants.{Done}

-- A text with which the call ends Done.
abbrev pub IsDoneWith : (List ℕ → Type 0) → Outcome → List ℕ → Type 0
IsDoneWith IsText outcome text = (outcome ≡ Done) × IsText text

-- `check`: the positions, and then its text.
abbrev pub check_rest : List ℕ → Diagram → Form
check_rest positions d = Take (File positions) (Positions d) (λ words. Write (IsDoneWith (IsCheckText d words)))

-- `explain`: the positions, and the path of the switch.
abbrev pub explain_rest : List ℕ → Direction → List ℕ → Diagram → Form
explain_rest positions direction switch d =
    Take (File positions) (Positions d) (λ words.
    Take (Word switch) (SwitchOf d) (λ path. Write (IsDoneWith (IsExplainText d words direction path))))

-- `explain` of all that is denied: the positions.
abbrev pub denials_rest : List ℕ → Diagram → Form
denials_rest positions d = Take (File positions) (Positions d) (λ words. Write (IsDoneWith (IsDenialsText d words)))

-- `why`: as `explain`, with the text for people.
abbrev pub why_rest : List ℕ → Direction → List ℕ → Diagram → Form
why_rest positions direction switch d =
    Take (File positions) (Positions d) (λ words.
    Take (Word switch) (SwitchOf d) (λ path. Write (IsDoneWith (IsWhyText d words direction path))))

-- `state`: the positions.
abbrev pub state_rest : List ℕ → Diagram → Form
state_rest positions d = Take (File positions) (Positions d) (λ words. Write (IsDoneWith (IsStateText d words)))

-- `order`: positions that leave none open, and the steps.
abbrev pub order_rest : List ℕ → List ℕ → Diagram → Form
order_rest positions order d =
    Take (File positions) (CertainPositions d) (λ start.
    Take (File order) (OrderOf d) (λ steps. Write (OrderWrites d start steps)))

-- `replay`: the log.
abbrev pub replay_rest : List ℕ → Diagram → Form
replay_rest log d = Take (File log) (LogOf d) (λ events. Write (ReplayWrites d events))

-- `audit`: the equations.
abbrev pub audit_rest : List ℕ → Diagram → Form
audit_rest equations d = Take (File equations) (BlocksOf d) (λ es. Write (AuditWrites d es))

-- `node`: the path of the bay, whose node then serves the input.
abbrev pub node_rest : List ℕ → Diagram → Form
node_rest bay d = Take (Word bay) (BayOf d) (λ b. Serve d b)

-- `compile`: nothing more.
abbrev pub compile_rest : Diagram → Form
compile_rest d = Write (IsDoneWith (IsCompileText d))

-- `trips`: the log, in which breakers may trip.
abbrev pub trips_rest : List ℕ → Diagram → Form
trips_rest log d = Take (File log) (TripLogOf d) (λ events. Write (TripsWrites d events))

-- `plan`: nothing more.
abbrev pub plan_rest : Diagram → Form
plan_rest d = Write (IsDoneWith (IsPlanText d))

-- `program`: nothing more.
abbrev pub program_rest : Diagram → Form
program_rest d = Write (IsDoneWith (IsProgramText d))

-- `program` of a bay: the path of the bay.
abbrev pub bay_program_rest : List ℕ → Diagram → Form
bay_program_rest bay d = Take (Word bay) (BayOf d) (λ b. Write (IsDoneWith (IsBayProgramText d b)))

-- `compare`: the new drawing, held against the old one.
abbrev pub compare_rest : List ℕ → Diagram → Form
compare_rest new d = Take (File new) Drawing (λ e. Write (CompareWrites d e))

-- `tests` of one bay: its path.
abbrev pub tests_rest : List ℕ → Diagram → Form
tests_rest bay d = Take (Word bay) (BayOf d) (λ b. Write (TestsWrites (IsTestsText d b) (IsThatWideBay d b)))

-- `tests` of the whole station: nothing more.
abbrev pub station_tests_rest : Diagram → Form
station_tests_rest d = Write (TestsWrites (IsStationTestsText d) (IsWideBay d))

-- `work`: the texts of the positions and of the log, which the program makes.
abbrev pub work_rest : List ℕ → List ℕ → Diagram → Form
work_rest positions log d =
    Take (Word positions) (Positions d) (λ words.
    Take (Word log) (LogOf d) (λ events. Write (WorkWrites d words events)))
