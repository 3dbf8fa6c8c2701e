use Rattle.std.proofs.Common.{◌∙◌, List, length, sym, ap, arith, Some}
use Rattle.std.specs.Prelude.{slice_get}
use Rattle.std.proofs.lemmas.Fmt.{decimal_injective}
use Rattle.std.proofs.lemmas.Option.{slice_get_within}
use Rattle.station_equations.specs.declared.goal.Goal.{Goal}
use Rattle.equation_text.proofs.WordLemmas.{true_false, none_told, some_told}
use Rattle.equation_text.proofs.NodeFits.{part_words}
use Rattle.equation_text.proofs.OnceLemmas.{goals_once}
use Rattle.equation_text.proofs.node_lines.read_part_node.Goals as goal

pub returns-in_default : goal.returns-in_default
returns-in_default c = λ x h.
    let lt = slice_get_within c.args.counts.now h.part (length h.goals) h.indices in
    let words =
    part_words c.args.words.now c.first_word.result.0.now c.first_word.result.1.now h.part h.goals
    c.first_word.ensures (omega (arith, lt, c.requires)) h.are in
    c.in_default.ensures.none h.part (record { small = omega (arith, lt, c.requires); written = words.0 })

pub returns-in_default-found : goal.returns-in_default-found
returns-in_default-found c = λ x h.
    let lt = slice_get_within c.args.counts.now h.part (length h.goals) h.indices in
    let words =
    part_words c.args.words.now c.first_word.result.0.now c.first_word.result.1.now h.part h.goals
    c.first_word.ensures (omega (arith, lt, c.requires)) h.are in
    none_told c.in_ok-found.found _ _ c.in_default-found.is c.in_ok-found.ensures h.goals h.later words.1

pub returns-then-not-has_indices : goal.returns-then-not-has_indices
returns-then-not-has_indices c = λ x h.
    let lt = slice_get_within c.args.counts.now h.part (length h.goals) h.indices in
    let words =
    part_words c.args.words.now c.first_word.result.0.now c.first_word.result.1.now h.part h.goals
    c.first_word.ensures (omega (arith, lt, c.requires)) h.are in
    let part = decimal_injective c.in-Some.part h.part (omega (arith, c.in-Some.ensures.some.small)) (omega
    (arith, lt, c.requires)) (sym c.in-Some.ensures.some.written ∙ words.0) in
    let told = some_told c.in_ok-found.found _ _ c.in-Some-found.goals c.in-Some-found.is c.in_ok-found.ensures in
    let goals = goals_once c.args.n c.in-Some-found.goals.items h.goals told.0 h.later (sym told.1 ∙ words.1) in
    true_false (sym (c.has_indices.ensures.1 (ap (λ k. slice_get c.args.counts.now k) part ∙ h.indices ∙ ap (λ
    (gs : List Goal). Some (length gs)) (sym (c.deref.ensures.value ∙ goals)))) ∙ c.if-not-has_indices.true)

pub overflow_cast-part : goal.overflow_cast-part
overflow_cast-part c =
    let has = c.has_indices.ensures.0 c.if-not-has_indices.false in
    let lt = slice_get_within c.args.counts.now c.in-Some.part _ has in
    omega (arith, lt, c.requires)
