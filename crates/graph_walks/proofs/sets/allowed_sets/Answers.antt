use Rattle.std.proofs.Common.{◌≡◌, ℕ, ◌<◌, List, Bool, false, length, map, replicate, get_or, sym, ap, ◌∙◌, add-one, arith}
use Rattle.std.specs.Prelude.{slice_set}
use Rattle.std.proofs.lemmas.List.{length-map, length-replicate}
use Rattle.decision_graphs.specs.Label.{Layer}
use Rattle.decision_graphs.specs.Reaching.{set_at}
use Rattle.graph_walks.specs.Walks.{set_for}
use Rattle.graph_walks.proofs.SetLemmas.{made_to, made_none, made_length, made_next, made_more, made_all, sizes_two}
use Rattle.graph_walks.proofs.sets.allowed_sets.Goals as goal

layer_count : (ls : List Layer) (n : ℕ) → map (λ (x : Layer). x.choices) ls ≡
    replicate n 2 → length ls ≡ n
layer_count ls n e =
    sym (length-map ls (λ (x : Layer). x.choices)) ∙ (ap length e ∙ length-replicate n 2)

pub loop-j-init : goal.loop-j-init
loop-j-init c = c.in_ok-sets.ensures.empty ∙ made_none c.args.graph.now.layers c.args.free.now c.requires

pub allow-requires-clause-layer : goal.allow-requires-clause-layer
allow-requires-clause-layer c =
    omega (
      arith,
      ap length c.loop-j.invariant,
      made_length c.args.free.now c.loop-j.j,
      c.loop-j-test.true,
      c.layers-layers.ensures.count,
      layer_count c.args.graph.now.layers (length c.args.free.now) c.requires,
    )

pub allow-requires-clause-none : goal.allow-requires-clause-none
allow-requires-clause-none c =
    let lt : c.loop-j.j < length c.args.free.now =
    omega (
      arith,
      c.loop-j-test.true,
      c.layers-layers.ensures.count,
      layer_count c.args.graph.now.layers (length c.args.free.now) c.requires,
    ) in
    ap (λ s. set_at s c.loop-j.j) c.loop-j.invariant ∙ made_next c.args.free.now c.loop-j.j lt

pub loop-j-preserved : goal.loop-j-preserved
loop-j-preserved c =
    let fs : List Bool = c.args.free.now in
    let j = c.loop-j.j in
    let lt : j < length fs =
    omega (
      arith,
      c.loop-j-test.true,
      c.layers-layers.ensures.count,
      layer_count c.args.graph.now.layers (length fs) c.requires,
    ) in
    c.allow.ensures
    ∙ (ap (λ s. slice_set s j (set_for (get_or fs j false))) c.loop-j.invariant
    ∙ (made_more fs j lt ∙ ap (made_to fs) (sym (add-one j))))

pub returns-clause-sets : goal.returns-clause-sets
returns-clause-sets c =
    let fs : List Bool = c.args.free.now in
    let done : c.loop-j.j ≡ length fs =
    omega (
      arith,
      c.loop-j.auto.j-end,
      c.loop-j-test.false,
      c.layers-layers.ensures.count,
      layer_count c.args.graph.now.layers (length fs) c.requires,
    ) in
    c.loop-j.invariant ∙ (ap (made_to fs) done ∙ made_all fs)

pub returns-clause-fit : goal.returns-clause-fit
returns-clause-fit c =
    let fs : List Bool = c.args.free.now in
    let done : c.loop-j.j ≡ length fs =
    omega (
      arith,
      c.loop-j.auto.j-end,
      c.loop-j-test.false,
      c.layers-layers.ensures.count,
      layer_count c.args.graph.now.layers (length fs) c.requires,
    ) in
    ap (map length) (c.loop-j.invariant ∙ (ap (made_to fs) done ∙ made_all fs)) ∙ (sizes_two fs ∙ sym c.requires)
