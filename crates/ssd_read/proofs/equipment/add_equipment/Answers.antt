use Rattle.std.proofs.Common.{◌≡◌, ◌∙◌, ◌++◌, ℕ, List, [], true, ap, sym, subst}
use Rattle.std.specs.Option.{unwrap_or}
use Rattle.ssd_read.specs.declared.types.Use.{Use}
use Rattle.ssd_read.specs.declared.types.Use.TheVariants as uses
use Rattle.ssd_read.specs.Elements.{element_at, element_name}
use Rattle.ssd_read.specs.Ends.{nodes_at, use_of, are_apart}
use Rattle.ssd_read.specs.Types.{use_of_type}
use Rattle.ssd_read.specs.Steps.{use_steps, breaker_steps, disconnector_steps, infeed_steps}
use Rattle.ssd_read.specs.Steps.{links_along, is_bond, lone_tap}
use Rattle.ssd_read.specs.Seen.{Builds, AreNodes, MayTakeSwitch}
use Rattle.ssd_read.proofs.Used.{breaker_apart, disconnector_apart, no_use_fault}
use Rattle.ssd_read.proofs.equipment.add_equipment.Goals as goal

pub add_breaker-requires-clause-nodes : goal.add_breaker-requires-clause-nodes
add_breaker-requires-clause-nodes c =
    subst (AreNodes c.args.builder.now) (sym (c.deref.ensures.value ∙ c.in_ok-nodes.ensures)) c.requires.nodes

pub add_breaker-requires-clause-apart : goal.add_breaker-requires-clause-apart
add_breaker-requires-clause-apart c =
    let x = element_at c.args.drawing.now c.args.i in
    let used : use_of x.entry ≡ uses.Breaker = ap use_of_type (sym c.kind-kind.ensures) ∙ sym c.in-Breaker.ensures in
    subst (λ (ns : List ℕ). are_apart ns ≡ true) (sym (c.deref.ensures.value ∙ c.in_ok-nodes.ensures))
    (breaker_apart x.entry.at c.args.ends.now (no_use_fault x c.args.ends.now uses.Breaker c.requires.role used
    c.requires.fault))

pub add_breaker-requires-clause-room : goal.add_breaker-requires-clause-room
add_breaker-requires-clause-room c =
    let named = c.name_or_nothing-name.ensures ∙ ap (λ o. unwrap_or o []) c.name.ensures in
    subst (MayTakeSwitch c.args.builder.now c.args.part.0) (sym named) c.requires.room

pub add_disconnector-requires-clause-nodes : goal.add_disconnector-requires-clause-nodes
add_disconnector-requires-clause-nodes c =
    subst (AreNodes c.args.builder.now) (sym (c.deref-in-Disconnector.ensures.value ∙ c.in_ok-nodes.ensures))
    c.requires.nodes

pub add_disconnector-requires-clause-apart : goal.add_disconnector-requires-clause-apart
add_disconnector-requires-clause-apart c =
    let x = element_at c.args.drawing.now c.args.i in
    let used : use_of x.entry ≡ uses.Disconnector = ap use_of_type (sym c.kind-kind.ensures)
    ∙ sym c.in-Disconnector.ensures in
    subst (λ (ns : List ℕ). are_apart ns ≡ true) (sym (c.deref-in-Disconnector.ensures.value ∙ c.in_ok-nodes.ensures))
    (disconnector_apart x.entry.at c.args.ends.now (no_use_fault x c.args.ends.now uses.Disconnector c.requires.role
    used c.requires.fault))

pub add_disconnector-requires-clause-room : goal.add_disconnector-requires-clause-room
add_disconnector-requires-clause-room c =
    let named = c.name_or_nothing-name.ensures ∙ ap (λ o. unwrap_or o []) c.name.ensures in
    subst (MayTakeSwitch c.args.builder.now c.args.part.0) (sym named) c.requires.room

pub add_infeed-requires-clause-nodes : goal.add_infeed-requires-clause-nodes
add_infeed-requires-clause-nodes c =
    subst (AreNodes c.args.builder.now) (sym (c.deref-in-Infeed.ensures.value ∙ c.in_ok-nodes.ensures)) c.requires.nodes

pub add_infeed-requires-clause-room : goal.add_infeed-requires-clause-room
add_infeed-requires-clause-room c =
    let named = c.name_or_nothing-name.ensures ∙ ap (λ o. unwrap_or o []) c.name.ensures in
    subst (MayTakeSwitch c.args.builder.now c.args.part.0) (sym named) c.requires.room

pub add_other-requires-clause-nodes : goal.add_other-requires-clause-nodes
add_other-requires-clause-nodes c =
    subst (AreNodes c.args.builder.now) (sym (c.deref-in-Other.ensures.value ∙ c.in_ok-nodes.ensures)) c.requires.nodes

pub returns-in-Breaker : goal.returns-in-Breaker
returns-in-Breaker c =
    let e = (element_at c.args.drawing.now c.args.i).entry in
    let used : use_of e ≡ uses.Breaker = ap use_of_type (sym c.kind-kind.ensures) ∙ sym c.in-Breaker.ensures in
    let named = c.name_or_nothing-name.ensures ∙ ap (λ o. unwrap_or o []) c.name.ensures in
    let nodes = c.deref.ensures.value ∙ c.in_ok-nodes.ensures in
    subst (λ (u : Use). Builds c.args.builder.now (use_steps u e c.args.part.0 (nodes_at c.args.ends.now))
    c.add_breaker.result c.add_breaker.new.builder) (sym used)
    (subst (λ (ns : List ℕ). Builds c.args.builder.now (breaker_steps c.args.part.0 (element_name e) ns)
    c.add_breaker.result c.add_breaker.new.builder) nodes
    (subst (λ (name : List ℕ). Builds c.args.builder.now (breaker_steps c.args.part.0 name c.deref.result.now)
    c.add_breaker.result c.add_breaker.new.builder) named c.add_breaker.ensures))

pub returns-in-Disconnector : goal.returns-in-Disconnector
returns-in-Disconnector c =
    let e = (element_at c.args.drawing.now c.args.i).entry in
    let used : use_of e ≡ uses.Disconnector = ap use_of_type (sym c.kind-kind.ensures)
    ∙ sym c.in-Disconnector.ensures in
    let named = c.name_or_nothing-name.ensures ∙ ap (λ o. unwrap_or o []) c.name.ensures in
    let nodes = c.deref-in-Disconnector.ensures.value ∙ c.in_ok-nodes.ensures in
    subst (λ (u : Use). Builds c.args.builder.now (use_steps u e c.args.part.0 (nodes_at c.args.ends.now))
    c.add_disconnector.result c.add_disconnector.new.builder) (sym used)
    (subst (λ (ns : List ℕ). Builds c.args.builder.now (disconnector_steps c.args.part.0 (element_name e) ns)
    c.add_disconnector.result c.add_disconnector.new.builder) nodes
    (subst (λ (name : List ℕ). Builds c.args.builder.now (disconnector_steps c.args.part.0 name
    c.deref-in-Disconnector.result.now) c.add_disconnector.result c.add_disconnector.new.builder) named
    c.add_disconnector.ensures))

pub returns-in-Infeed : goal.returns-in-Infeed
returns-in-Infeed c =
    let e = (element_at c.args.drawing.now c.args.i).entry in
    let used : use_of e ≡ uses.Infeed = ap use_of_type (sym c.kind-kind.ensures) ∙ sym c.in-Infeed.ensures in
    let named = c.name_or_nothing-name.ensures ∙ ap (λ o. unwrap_or o []) c.name.ensures in
    let nodes = c.deref-in-Infeed.ensures.value ∙ c.in_ok-nodes.ensures in
    subst (λ (u : Use). Builds c.args.builder.now (use_steps u e c.args.part.0 (nodes_at c.args.ends.now))
    c.add_infeed.result c.add_infeed.new.builder) (sym used)
    (subst (λ (ns : List ℕ). Builds c.args.builder.now (infeed_steps c.args.part.0 (element_name e) ns)
    c.add_infeed.result c.add_infeed.new.builder) nodes
    (subst (λ (name : List ℕ). Builds c.args.builder.now (infeed_steps c.args.part.0 name c.deref-in-Infeed.result.now)
    c.add_infeed.result c.add_infeed.new.builder) named c.add_infeed.ensures))

pub returns : goal.returns
returns c =
    let e = (element_at c.args.drawing.now c.args.i).entry in
    let other : use_of e ≡ uses.Other = ap use_of_type (sym c.kind-kind.ensures) ∙ sym c.in-Other.ensures in
    let nodes = c.deref-in-Other.ensures.value ∙ c.in_ok-nodes.ensures in
    subst (λ (u : Use). Builds c.args.builder.now (use_steps u e c.args.part.0 (nodes_at c.args.ends.now))
    c.add_other.result c.add_other.new.builder) (sym other)
    (subst (λ (ns : List ℕ). Builds c.args.builder.now (links_along (is_bond e) c.args.part.0 ns ++ lone_tap e
    c.args.part.0 ns) c.add_other.result c.add_other.new.builder) nodes
    (c.add_other.ensures.builds e c.kind-kind.ensures))
