use Rattle.std.proofs.Common.{◌≡◌, List, ℕ, refl, sym, ◌∙◌, subst}
use Rattle.std.proofs.lemmas.Option.{slice_get_read, same_Some}
use Rattle.contraction.specs.Answers.{Answers}
use Rattle.judge_pool.specs.Pooling.{Selects}
use Rattle.judge_pool.proofs.BatchLemmas.{selects_other}
use Rattle.judge_pool.proofs.pool.Pool.select.Goals as goal

pub returns-clause-grew : goal.returns-clause-grew
returns-clause-grew c = selects_other c.args.self.now c.take-held.new.self c.requires.pool

pub returns-clause-selects : goal.returns-clause-selects
returns-clause-selects c x y nodes at_x at_y at_nodes =
    let p = c.args.self.now in
    let k = c.args.key in
    let s = c.in_ok-selection.selection.value in
    let a : Answers = c.index-x.result.now in
    let b : Answers = c.index-y.result.now in
    let list : List ℕ = c.index-nodes.result.now in
    let is_x : a ≡ x =
    same_Some a x (sym (slice_get_read p.values.items _ k.first a refl c.requires.fits.first c.index-x.ensures) ∙ at_x)
    in
    let is_y : b ≡ y =
    same_Some b y
    (sym (slice_get_read p.values.items _ k.second b refl c.requires.fits.second c.index-y.ensures) ∙ at_y) in
    let is_list : list ≡ nodes =
    same_Some list nodes
    (sym (slice_get_read p.keeps.items _ k.keep list refl c.requires.fits.keep c.index-nodes.ensures) ∙ at_nodes) in
    let selects : Selects a b list c.in_ok-selection.selection.value = record {
      first = c.in_ok-selection.ensures.first ∙ c.nodes.ensures.nodes;
      second = c.in_ok-selection.ensures.second ∙ c.nodes-2.ensures.nodes;
      asked = c.in_ok-selection.ensures.nodes;
    } in
    subst (λ z. Selects z y nodes s) is_x
    (subst (λ z. Selects a z nodes s) is_y (subst (λ l. Selects a b l s) is_list selects))
