use Rattle.std.proofs.Common.{◌≡◌, ◌++◌, ℕ, List, ap, sym, ◌∙◌}
use Rattle.contraction.specs.Answers.{Answers, IsContraction}
use Rattle.contraction.specs.Rows.{words, gap_bytes, load_bytes, whole_row}
use Rattle.contraction.proofs.ViewLemmas.{whole_rows}
use Rattle.contraction.proofs.value.Contraction.row.Goals as goal

pub returns-clause-tells : goal.returns-clause-tells
returns-clause-tells c =
    let me : Answers = c.args.self.now in
    let with_gap : c.push_gap.new.text ≡ words me.kept ++ gap_bytes me =
    c.in_ok-push_gap.ensures ∙ ap (λ (t : List ℕ). t ++ gap_bytes me) c.in_ok-text.ensures.row in
    let is : c.push_load.new.text ≡ whole_row me =
    c.in_ok-push_load.ensures ∙ ap (λ (t : List ℕ). t ++ load_bytes me) with_gap in
    let told = whole_rows me in
    let well : IsContraction me = c.row_start.ensures.answers in
    λ other w. (λ e. (told other well w).0 (sym is ∙ e), λ h. is ∙ (told other well w).1 h)
