use Rattle.std.proofs.Common.{◌≡◌, ◌∙◌, ℕ, List, ap, inl, inr, slice_get, get_or, Some, arith, sym, subst, rules}
use Rattle.std.proofs.lemmas.Bool.{cases_lt}
use Rattle.std.proofs.lemmas.Option.{slice_get-get_or, get_or_from_slice_get}
use Rattle.ilk_base.specs.declared.words.Kind.TheVariants.{Infeed}
use Rattle.station_graph.specs.declared.items.Switch.{Switch}
use Rattle.station_graph.specs.declared.items.Tap.{Tap}
use Rattle.station_graph.specs.Diagram.{TapAmong}
use Rattle.station_graph.proofs.accepts.all_tapped.Goals as goal

tapped_at : (xs : List Switch) (taps : List Tap) (i k : ℕ) (d x : Switch) → k ≡ i → slice_get xs k ≡ Some x →
    ((get_or xs i d).kind ≡ Infeed → TapAmong taps (get_or xs i d).first.0) → x.kind ≡ Infeed → TapAmong taps x.first.0
tapped_at xs taps i k d x here at h =
    let is : get_or xs i d ≡ x = ap (λ j. get_or xs j d) (sym here) ∙ get_or_from_slice_get xs k x d at in
    subst (λ (y : Switch). y.kind ≡ Infeed → TapAmong taps y.first.0) is h

pub returns-then-not-is_tapped : goal.returns-then-not-is_tapped
returns-then-not-is_tapped c = (
  λ e. cc,
  λ all.
      let true_too = c.is_tapped.ensures.1 (all c.loop-switch.switch-index _ (slice_get-get_or c.args.switches.now
      c.loop-switch.switch-index _ (omega arith))) in
      cc,
)

pub loop-switch-preserved : goal.loop-switch-preserved
loop-switch-preserved c = λ k x below at kind. elim (cases_lt k c.loop-switch.switch-index) [
  | inl less ↦ c.loop-switch.invariant k x less at kind
  | inr more ↦
      tapped_at c.args.switches.now c.args.taps.now c.loop-switch.switch-index k _ x (omega (arith, below)) at
      (c.is_tapped.ensures.0 (search rules)) kind
]
