-- What is said of the rest of a form, once the station of its drawing is there.
use Rattle.std.proofs.Common.{◌≡◌, ◌⊎◌, ℕ, List, Option, Result, Ok, refl, inl, inr, subst}
use Rattle.std.specs.Prelude.{IfOk, IfErr}
use Rattle.std.proofs.lemmas.Result.{IfOk-weaker, IfErr-weaker}
use Rattle.station_graph.specs.Diagram.{Diagram}
use Rattle.ssd_read.specs.StandsFor.{Stands}
use Rattle.release_compile.specs.Judging.{KeepsLimits}
use Rattle.interlock_cli.specs.Formats.{Drawing}
use Rattle.interlock_cli.specs.Form.{Form, Take, Origin, Word, Gives, FormStops}
use Rattle.interlock_cli.specs.Rests.{work_rest}
use Rattle.interlock_cli.specs.Judging.{Drawn, BuildFails, Onward}
use Rattle.interlock_cli.specs.declared.end.Output.{Output}
use Rattle.interlock_cli.specs.declared.end.End.{End}
use Rattle.interlock_cli.proofs.Drawings.{drawn_given, drawn_fails}
use Rattle.interlock_cli.proofs.Later.{onward_same, says_later, stops_later}

module _ {held later : List ℕ → Option (List ℕ)} {before between : List ℕ → ℕ}
    (onward : Onward held later before between) (origin : Origin) (d : Diagram) (drawing : Drawn held origin d)
    (rest : Diagram → Form) where
  -- it has to write what the rest says
  gives : (output : Output) → KeepsLimits d × Gives (rest d) later output →
      Gives (Take origin Drawing rest) held output
  gives output (keeps, says) = (
    d,
    drawn_given held origin d drawing keeps,
    says_later onward (rest d) output.outcome output.text says,
  )

  pub rest_gives : (r : Result Output End) → IfOk r (λ output. KeepsLimits d × Gives (rest d) later output) →
      IfOk r (Gives (Take origin Drawing rest) held)
  rest_gives r =
      IfOk-weaker r (λ output. KeepsLimits d × Gives (rest d) later output)
      (Gives (Take origin Drawing rest) held) gives

  -- it stops where the station has no judge, or the rest stops
  stops : (after : List ℕ → ℕ) (end : End) →
      BuildFails d end ⊎ (KeepsLimits d × FormStops (rest d) later between after end) →
      FormStops (Take origin Drawing rest) held before after end
  stops after end (inl fails) = inl (drawn_fails held before after origin d end drawing fails)
  stops after end (inr (keeps, stop)) =
      inr (d, drawn_given held origin d drawing keeps, stops_later onward after (rest d) end stop)

  pub rest_stops : (after : List ℕ → ℕ) (r : Result Output End) →
      IfErr r (λ end. BuildFails d end ⊎ (KeepsLimits d × FormStops (rest d) later between after end)) →
      IfErr r (FormStops (Take origin Drawing rest) held before after)
  rest_stops after r =
      IfErr-weaker r (λ end. BuildFails d end ⊎ (KeepsLimits d × FormStops (rest d) later between after end))
      (FormStops (Take origin Drawing rest) held before after) (stops after)

-- over the drawing of a text, and with the texts of a made station
module _ (held : List ℕ → Option (List ℕ)) (d : Diagram) (text positions log made_positions made_log : List ℕ)
    (stands : Stands text (Ok d)) (is_positions : made_positions ≡ positions) (is_log : made_log ≡ log) where
  pub made_gives : (r : Result Output End)
      → IfOk r (λ output. KeepsLimits d × Gives (work_rest made_positions made_log d) held output) →
      IfOk r (Gives (Take (Word text) Drawing (work_rest positions log)) held)
  made_gives r gives =
      let P : List ℕ → List ℕ → Type 0 = λ p l. IfOk r
      (λ output. KeepsLimits d × Gives (work_rest p l d) held output) in
      let onward : Onward held held (λ n. 0) (λ n. 0) = onward_same in
      rest_gives onward (Word text) d (text, refl, stands) (work_rest positions log) r
      (subst (λ (l : List ℕ). P positions l) is_log (subst (λ (p : List ℕ). P p made_log) is_positions gives))

  pub made_stops : (before after : List ℕ → ℕ) (r : Result Output End)
      → IfErr r (λ end. BuildFails d end
      ⊎ (KeepsLimits d × FormStops (work_rest made_positions made_log d) held before after end)) →
      IfErr r (FormStops (Take (Word text) Drawing (work_rest positions log)) held before after)
  made_stops before after r stops =
      let P : List ℕ → List ℕ → Type 0 = λ p l. IfErr r
      (λ end. BuildFails d end ⊎ (KeepsLimits d × FormStops (work_rest p l d) held before after end)) in
      let onward : Onward held held before before = onward_same in
      rest_stops onward (Word text) d (text, refl, stands) (work_rest positions log) after r
      (subst (λ (l : List ℕ). P positions l) is_log (subst (λ (p : List ℕ). P p made_log) is_positions stops))
