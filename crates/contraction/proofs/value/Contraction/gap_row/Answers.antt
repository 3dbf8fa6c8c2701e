use Rattle.std.proofs.Common.{◌≡◌, ◌++◌, ℕ, List, ap, sym, ◌∙◌}
use Rattle.contraction.specs.Answers.{Answers, IsContraction}
use Rattle.contraction.specs.Rows.{gap_bytes, gap_row}
use Rattle.contraction.proofs.ViewLemmas.{gap_rows}
use Rattle.contraction.proofs.value.Contraction.gap_row.Goals as goal

pub returns-clause-tells : goal.returns-clause-tells
returns-clause-tells c =
    let me : Answers = c.args.self.now in
    let is : c.push_gap.new.text ≡ gap_row me =
    c.in_ok-push_gap.ensures ∙ ap (λ (t : List ℕ). t ++ gap_bytes me) c.in_ok-text.ensures.row in
    let told = gap_rows me in
    let well : IsContraction me = c.row_start.ensures.answers in
    λ other w. (λ e. (told other well w).0 (sym is ∙ e), λ h. is ∙ (told other well w).1 h)
