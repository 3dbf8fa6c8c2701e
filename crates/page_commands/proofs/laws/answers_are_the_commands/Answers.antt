use Rattle.station_graph.proofs.PathLemmas.{Contains-from_slice_get}
use Rattle.station_state.specs.StateText.{IsStateText}
use Rattle.release_texts.specs.CheckText.{IsCheckText}
use Rattle.release_texts.specs.ExplainText.{IsExplainText}
use Rattle.why_text.specs.WhyText.{IsWhyText}
use Rattle.page_questions.specs.Questions.{SaysCheck, SaysState, SaysExplain, SaysWhy, SaysOrder}
use Rattle.page_questions.specs.Questions.{RefusesPositions, RefusesExplain, RefusesOrder}
use Rattle.interlock_cli.specs.Rests.{check_rest, state_rest, explain_rest, why_rest, order_rest}
use Rattle.page_commands.proofs.Answers.{of_drawing, of_words, of_words_path, of_order}
use Rattle.page_commands.proofs.Refusals.{refused_alike}
use Rattle.page_commands.proofs.laws.answers_are_the_commands.Goals as goal

pub returns-clause-check : goal.returns-clause-check
returns-clause-check c = λ held station positions drawing given at_drawing at.
    let a =
    of_drawing held station drawing at_drawing (check_rest positions) (λ d. SaysCheck d given)
    (λ d. RefusesPositions d given) (λ d. of_words held positions given at d (IsCheckText d)) in
    record { writes = a.writes; refuses = a.refuses }

pub returns-clause-state : goal.returns-clause-state
returns-clause-state c = λ held station positions drawing given at_drawing at.
    let a =
    of_drawing held station drawing at_drawing (state_rest positions) (λ d. SaysState d given)
    (λ d. RefusesPositions d given) (λ d. of_words held positions given at d (IsStateText d)) in
    record { writes = a.writes; refuses = a.refuses }

pub returns-clause-explain : goal.returns-clause-explain
returns-clause-explain c = λ held station positions drawing given direction path at_drawing at.
    let a =
    of_drawing held station drawing at_drawing (explain_rest positions direction path)
    (λ d. SaysExplain d given direction path) (λ d. RefusesExplain d given path)
    (λ d. of_words_path held positions given at d path (λ words p. IsExplainText d words direction p)
    (λ words text t. Contains-from_slice_get d.switch_paths t.op.switch.0 path t.named)) in
    record { writes = a.writes; refuses = a.refuses }

pub returns-clause-why : goal.returns-clause-why
returns-clause-why c = λ held station positions drawing given direction path at_drawing at.
    let a =
    of_drawing held station drawing at_drawing (why_rest positions direction path)
    (λ d. SaysWhy d given direction path) (λ d. RefusesExplain d given path)
    (λ d. of_words_path held positions given at d path (λ words p. IsWhyText d words direction p)
    (λ words text t. Contains-from_slice_get d.switch_paths t.op.switch.0 path t.named)) in
    record { writes = a.writes; refuses = a.refuses }

pub returns-clause-order : goal.returns-clause-order
returns-clause-order c = λ held station positions order drawing given steps at_drawing at at_order.
    let a =
    of_drawing held station drawing at_drawing (order_rest positions order) (λ d. SaysOrder d given steps)
    (λ d. RefusesOrder d given steps) (λ d. of_order held positions given at d order steps at_order) in
    record { writes = a.writes; refuses = a.refuses }

pub returns-clause-drawing : goal.returns-clause-drawing
returns-clause-drawing c = refused_alike
