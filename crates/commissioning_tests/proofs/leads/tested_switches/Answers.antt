use Rattle.std.proofs.Common.{◌≡◌, ◌≢◌, ◌==◌, ℕ, ◌<◌, Bool, length, Some, true, slice_index, get_or, ap, ◌∙◌, arith, eq-eqb, ne_eqb}
use Rattle.std.proofs.lemmas.Option.{get_or_from_slice_get, slice_get-get_or, slice_get_within}
use Rattle.std.proofs.lemmas.List.Sums.{count_by_more_yes, count_by_more_no}
use Rattle.station_graph.specs.declared.items.Switch.{Switch}
use Rattle.commissioning_tests.proofs.leads.tested_switches.Goals as goal
use Rattle.commissioning_tests.proofs.leads.tested_switches.Goals.{then-leads_itself, else-leads_itself}

pub loop-s-preserved : goal.loop-s-preserved
loop-s-preserved c =
    let p : Switch → Bool = λ x. slice_index c.args.leads.now x.bay.0 == x.bay.0 in
    let xs = c.args.station.now.switches in
    let x = c.switch.result in
    let within = slice_get_within xs c.loop-s.s x c.switch.ensures.value in
    let there : get_or xs c.loop-s.s x ≡ x = get_or_from_slice_get xs c.loop-s.s x x c.switch.ensures.value in
    elim c.if-leads_itself.branch [
      | then-leads_itself w ↦
          let own = c.leads_itself.ensures.0 w.if-leads_itself.true in
          let is : p x ≡ true = eq-eqb _ _ (get_or_from_slice_get c.args.leads.now x.bay.0 x.bay.0 0 own) in
          omega (arith, w.count-is, c.loop-s.invariant, count_by_more_yes p xs c.loop-s.s x within (ap p there ∙ is))
      | else-leads_itself w ↦
          let room : x.bay.0 < length c.args.leads.now = omega (arith, c.requires.len, c.switch.ensures.fits.part_in) in
          let other : slice_index c.args.leads.now x.bay.0 ≢ x.bay.0 =
          λ e. let both : c.leads_itself.result ≡ true =
          c.leads_itself.ensures.1 (slice_get-get_or c.args.leads.now x.bay.0 0 room ∙ ap (λ (k : ℕ). Some k) e) in
          cc (both, w.if-leads_itself.false) in
          omega (arith, w.count-is, c.loop-s.invariant, count_by_more_no p xs c.loop-s.s x within (ap p there ∙ ne_eqb _ _ other))
    ]
