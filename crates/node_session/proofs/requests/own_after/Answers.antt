use Rattle.std.proofs.Common.{◌≡◌, ◌∙◌, sym, subst, List, ℕ, Contains}
use Rattle.std.proofs.lemmas.List.{append_cancel_left}
use Rattle.station_graph.proofs.PathLemmas.{Contains-from_slice_get}
use Rattle.node_session.proofs.Naming.{not_own}
use Rattle.node_session.proofs.requests.own_after.Goals as goal

pub returns-in_default-switch_of_path-clause-none : goal.returns-in_default-switch_of_path-clause-none
returns-in_default-switch_of_path-clause-none c = λ i names.
    let same : names.path ≡ c.in-Some.path.now =
    append_cancel_left c.args.head.now names.path c.in-Some.path.now (sym names.written ∙ c.in-Some.ensures.some) in
    c.in_default-switch_of_path.ensures.none
    (subst (λ (p : List ℕ). Contains c.args.station.now.switch_paths p) same
    (Contains-from_slice_get c.args.station.now.switch_paths i names.path names.named))

pub returns-then-not-is_own-clause-none : goal.returns-then-not-is_own-clause-none
returns-then-not-is_own-clause-none c =
    not_own c.args.station.now c.args.bay.0 c.args.head.now c.args.line.now c.in-Some.path.now
    c.in-Some-switch_of_path.id.0 c.is_station.ensures.paths_differ.switches c.in-Some.ensures.some
    c.in-Some-switch_of_path.ensures.found
    (λ own. let t = c.is_own.ensures.1 own in let f = c.if-not-is_own.true in cc)
