use Rattle.std.proofs.Common.{◌∙◌, ◌++◌, List, ℕ, sym, ap}
use Rattle.std.specs.Prelude.{decimal, codes}
use Rattle.std.proofs.lemmas.List.{append_cancel_left}
use Rattle.equation_text.proofs.SaidLemmas.{head_parts}
use Rattle.equation_text.proofs.words.behind_number.Goals as goal

pub returns-in_default-clause-none : goal.returns-in_default-clause-none
returns-in_default-clause-none c = λ rest is. c.in_default.ensures.none (decimal c.args.n ++ (codes " " ++ rest)) (is
    ∙ head_parts c.args.head.now c.args.n rest)

pub returns-in_default-behind-clause-none : goal.returns-in_default-behind-clause-none
returns-in_default-behind-clause-none c = λ rest is.
    let behind = append_cancel_left c.args.head.now c.in-Some.rest.now (decimal c.args.n ++ (codes " " ++ rest))
    (sym c.in-Some.ensures.some ∙ is ∙ head_parts c.args.head.now c.args.n rest) in
    let digits = c.as_bytes.ensures.value ∙ c.format.ensures.text in
    c.in_default-behind.ensures.none (codes " " ++ rest) (behind ∙ ap (λ (ds : List ℕ). ds ++ (codes " " ++ rest))
    (sym digits))

pub returns-in_default-behind-2-clause-none : goal.returns-in_default-behind-2-clause-none
returns-in_default-behind-2-clause-none c = λ rest is.
    let behind = append_cancel_left c.args.head.now c.in-Some.rest.now (decimal c.args.n ++ (codes " " ++ rest))
    (sym c.in-Some.ensures.some ∙ is ∙ head_parts c.args.head.now c.args.n rest) in
    let digits = c.as_bytes.ensures.value ∙ c.format.ensures.text in
    let blank = append_cancel_left (decimal c.args.n) c.in-Some-behind.rest.now (codes " " ++ rest) (ap (λ
    (ds : List ℕ). ds ++ c.in-Some-behind.rest.now) (sym digits) ∙ sym c.in-Some-behind.ensures.some ∙ behind) in
    c.in_default-behind-2.ensures.none rest blank

pub returns-clause-some : goal.returns-clause-some
returns-clause-some c =
    let digits = c.as_bytes.ensures.value ∙ c.format.ensures.text in
    c.in-Some.ensures.some
    ∙ ap (λ (z : List ℕ). c.args.head.now ++ z) (c.in-Some-behind.ensures.some ∙ ap (λ
    (ds : List ℕ). ds ++ c.in-Some-behind.rest.now) digits ∙ ap (λ
    (z : List ℕ). decimal c.args.n ++ z) c.in-Some-behind-2.ensures.some)
    ∙ sym (head_parts c.args.head.now c.args.n c.in-Some-behind-2.rest.now)
