use Rattle.std.proofs.Common.{◌≡◌, ℕ, ◌≤◌, ◌++◌, List, [], ◌∷◌, length, get_or, None, refl, arith, sym, subst, ap, ◌∙◌}
use Rattle.std.specs.Prelude.{codes}
use Rattle.std.proofs.lemmas.Result.{on_ok_weaker}
use Rattle.ilk_base.specs.declared.words.Kind.TheVariants.{Infeed}
use Rattle.ssd_read.specs.Steps.{Step, infeed_steps, switch_step, tap_step}
use Rattle.station_lines.specs.Rows.{row_text}
use Rattle.station_lines.specs.Lines.{AddsSteps}
use Rattle.station_lines.proofs.StepsText.{adds_both, adds_row}
use Rattle.station_lines.proofs.steps.push_infeed.Goals as goal

split : (part : ℕ) (name ns : List ℕ) → 1 ≤ length ns → infeed_steps part name ns
    ≡ (switch_step part name Infeed (get_or ns 0 0) None ∷ []) ++ (tap_step part (get_or ns 0 0) ∷ [])
split part name [] h = absurd (omega arith)
split part name (a ∷ ns) h = refl

pub returns-in_ok-push_three-in-len1-up : goal.returns-in_ok-push_three-in-len1-up
returns-in_ok-push_three-in-len1-up c = λ part name.
    let nodes : List (List ℕ) = c.args.station.now.node_paths in
    let word : List ℕ = c.args.word.now in
    let path : List ℕ = c.args.path.now in
    let n : ℕ = get_or c.args.nodes.now 0 0 in
    let first : Step = switch_step part name Infeed n None in
    let then : Step = tap_step part n in
    let old : List ℕ = c.args.text.now in
    let mid : List ℕ = c.push_three.new.text in
    let new : List ℕ = c.push_tap.new.text in
    on_ok_weaker c.push_tap.result
    (λ h. subst (λ (ss : List Step). AddsSteps nodes word path ss old new)
    (sym (split part name c.args.nodes.now c.in-len1-up.len_at_least))
    (adds_both nodes word path (first ∷ []) (then ∷ []) old mid new
    (adds_row nodes word path first old mid (c.in_ok-push_three-in-len1-up.ensures
    ∙ ap (λ (p : List ℕ). old ++ row_text (codes "infeed" ∷ path ∷ p ∷ [])) c.node_path.ensures)) h))
    (c.push_tap.ensures part)
