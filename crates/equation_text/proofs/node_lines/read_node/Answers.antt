use Rattle.std.proofs.Common.{◌∙◌, sym, inl, inr}
use Rattle.std.specs.Prelude.{codes}
use Rattle.std.proofs.lemmas.List.{append_cancel_left}
use Rattle.equation_text.specs.Words.{numbered_head}
use Rattle.equation_text.proofs.WordLemmas.{none_told}
use Rattle.equation_text.proofs.NodeSaid.{words_of, node_said, part_or_switch, of_part, of_switch}
use Rattle.equation_text.proofs.node_lines.read_node.Goals as goal

pub returns-in_default : goal.returns-in_default
returns-in_default c = λ x h. c.in_default.ensures.none (words_of x) (h.is ∙ node_said c.args.n x)

pub returns-in_default-found : goal.returns-in_default-found
returns-in_default-found c = λ x h.
    let words = append_cancel_left (numbered_head (codes "node ") c.args.n) c.in-Some.rest.now (words_of x)
    (sym c.in-Some.ensures.some ∙ h.is ∙ node_said c.args.n x) in
    none_told c.in_ok-found.found _ _ c.in_default-found.is c.in_ok-found.ensures x
    (of_part c.args.switches c.args.counts.now c.args.n x c.in-Some-behind.words.now h.may
    (sym c.in-Some-behind.ensures.some ∙ words))

pub returns-in_default-behind-2 : goal.returns-in_default-behind-2
returns-in_default-behind-2 c = λ x h.
    let words = append_cancel_left (numbered_head (codes "node ") c.args.n) c.in-Some.rest.now (words_of x)
    (sym c.in-Some.ensures.some ∙ h.is ∙ node_said c.args.n x) in
    elim (part_or_switch x) [
      | inl p ↦ c.in_default-behind.ensures.none p.0 (words ∙ p.1)
      | inr s ↦ c.in_default-behind-2.ensures.none s.0 (words ∙ s.1)
    ]

pub returns-in_default-read_switch_node : goal.returns-in_default-read_switch_node
returns-in_default-read_switch_node c = λ x h.
    let words = append_cancel_left (numbered_head (codes "node ") c.args.n) c.in-Some.rest.now (words_of x)
    (sym c.in-Some.ensures.some ∙ h.is ∙ node_said c.args.n x) in
    c.in_default-read_switch_node.ensures.none x
    (of_switch c.args.switches c.args.counts.now c.args.n x c.in-Some-behind-2.words.now h.may
    (sym c.in-Some-behind-2.ensures.some ∙ words))
