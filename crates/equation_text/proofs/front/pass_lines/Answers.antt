use Rattle.std.proofs.Common.{◌≡◌, ◌∙◌, ◌++◌, ◌∷◌, [], List, ℕ, sym, ap, append-nil, append_assoc}
use Rattle.equation_text.proofs.WholeText.{whole_line, whole_more, whole_rest, whole_none}
use Rattle.equation_text.proofs.front.pass_lines.Goals as goal

pub loop-line-preserved : goal.loop-line-preserved
loop-line-preserved c =
    let inv = c.loop-line.invariant in
    let line = c.in-Some.line.now in
    let more = c.in-Some.more.now in
    let rest = c.in-Some-behind_line.rest.now in
    let cut = c.in-Some.ensures.some.is in
    let grow : (tail : List ℕ) → inv.before ++ (line ++ 10 ∷ tail) ≡ (inv.before ++ (line ++ 10 ∷ [])) ++ tail =
    λ tail. ap (λ (z : List ℕ). inv.before ++ z) (sym (append_assoc line (10 ∷ []) tail))
    ∙ sym (append_assoc inv.before (line ++ 10 ∷ []) tail) in
    record {
      before = inv.before ++ (line ++ 10 ∷ []);
      whole = whole_more inv.before (line ++ 10 ∷ []) inv.whole (whole_line line);
      lines = inv.lines ∙ ap (λ (z : List ℕ). inv.before ++ z) cut ∙ grow more;
      passed = inv.passed ∙ ap (λ (z : List ℕ). inv.before ++ z) c.in-Some-behind_line.ensures.some ∙ grow rest;
      rest = whole_rest c.loop-line.wanted.now line more inv.rest cut;
    }

pub returns-clause-passed : goal.returns-clause-passed
returns-clause-passed c = λ _.
    let inv = c.loop-line.invariant in
    let none = whole_none c.loop-line.wanted.now inv.rest c.in_default.ensures.none in
    let all = inv.lines ∙ ap (λ (z : List ℕ). inv.before ++ z) none ∙ append-nil inv.before in
    inv.passed ∙ ap (λ (z : List ℕ). z ++ c.loop-line.left.text.now) (sym all)
