use Rattle.std.proofs.Common.{◌≡◌, ℕ, ◌<◌, ◌++◌, ◌∷◌, [], length, List, Contains, arith, subst, sym, ap, ◌∙◌}
use Rattle.std.specs.String.{string_bytes}
use Rattle.station_graph.specs.declared.items.Switch.{Switch}
use Rattle.station_graph.specs.Diagram.{Diagram, SwitchFits, switches_in, bay_count}
use Rattle.station_graph.specs.declared.limits.TheConstants.{BAYS, SWITCHES, BAY_SWITCHES}
use Rattle.station_graph.specs.Building.{FollowsLast, path_in_part}
use Rattle.station_graph.specs.DraftInside.{draft_of}
use Rattle.station_graph.proofs.DraftItems.{IsDraft-switch, CountsBays-switch, bay_count-new, bay_count-known}
use Rattle.station_graph.proofs.DraftItems.{with_switch}
use Rattle.station_graph.proofs.builder.Builder.switch.Goals as goal
use Rattle.station_graph.proofs.builder.Builder.switch.Goals.{else-in_part-eq0-via-then-in_part-eq0+else-bays-eq-BAYS}
use Rattle.station_graph.proofs.builder.Builder.switch.Goals.{else-in_part-eq0-via-else-in_part-eq0}
use Rattle.station_graph.proofs.builder.Builder.switch.Goals.{then-in_part-eq0-2, else-in_part-eq0-2}

pub invariant_of-self-2 : goal.invariant_of-self-2
invariant_of-self-2 c =
    let d = draft_of c.self.inside in
    let x = c.args.item in
    let at = c.self.view_is in
    let switches = c.push_reserved.new.self.items in
    let paths = c.push.new.self in
    let p = string_bytes c.in_ok-path.path in
    let more : switches ≡ d.switches ++ x ∷ [] =
    c.push_reserved.ensures.items ∙ ap (λ (xs : List Switch). xs ++ x ∷ []) c.in_ok-reserve.ensures.items in
    let room : length d.switches < SWITCHES =
    omega (arith, c.self.inside.switches.ok.0, c.self.invariant.0.items.switches_few) in
    let fits : SwitchFits d x = subst (λ (e : Diagram). SwitchFits e x) (sym at) c.requires.fits in
    let follows : FollowsLast d x.bay.0 = subst (λ (e : Diagram). FollowsLast e x.bay.0) (sym at) c.requires.order in
    let in_part : c.switches_in-in_part.result ≡ switches_in d x.bay.0 =
    subst (λ (e : Diagram). c.switches_in-in_part.result ≡ switches_in e x.bay.0) (sym at)
    c.switches_in-in_part.ensures.count in
    let path_is : p ≡ path_in_part d x.bay.0 c.args.name.now =
    subst (λ (e : Diagram). p ≡ path_in_part e x.bay.0 c.args.name.now) (sym at) c.in_ok-path.ensures.path in
    let bays : c.bay_count-bays.result ≡ bay_count d =
    subst (λ (e : Diagram). c.bay_count-bays.result ≡ bay_count e) (sym at) c.bay_count-bays.ensures.count in
    let new : ¬ Contains d.switch_paths p = λ there.
    c.requires.new (subst (λ (e : Diagram). Contains e.switch_paths (path_in_part e x.bay.0 c.args.name.now)) at
    (subst (λ (q : List ℕ). Contains d.switch_paths q) path_is there)) in
    let bay_room : switches_in d x.bay.0 < BAY_SWITCHES = omega arith in
    let bays_room : switches_in d x.bay.0 ≡ 0 → bay_count d < BAYS = λ none. elim c.else-in_part-eq0.branch [
      | else-in_part-eq0-via-then-in_part-eq0+else-bays-eq-BAYS w ↦ omega arith
      | else-in_part-eq0-via-else-in_part-eq0 w ↦ absurd (omega arith)
    ] in
    let counted : c.if-in_part-eq0-2.self ≡ bay_count (with_switch d switches paths p x more c.in_ok-push.ensures.ok
    room fits follows) = elim c.if-in_part-eq0-2.branch [
      | then-in_part-eq0-2 w ↦ omega (
        arith,
        bay_count-new d switches paths p x more c.in_ok-push.ensures.ok room fits
            follows (omega arith),
      )
      | else-in_part-eq0-2 w ↦ omega (
        arith,
        bay_count-known d switches paths p x more c.in_ok-push.ensures.ok room fits
            follows (omega arith),
      )
    ] in
    let counts = CountsBays-switch d switches paths p x more c.in_ok-push.ensures.ok room fits follows
    c.if-in_part-eq0-2.self counted in (
      IsDraft-switch d switches paths p x more c.in_ok-push.ensures.ok room fits follows new bay_room bays_room
          c.self.invariant.0,
      rw in_part counts,
    )
