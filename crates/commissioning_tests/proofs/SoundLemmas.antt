-- No node is both energisable and earthable exactly where closing no closed infeed breaks a rule.
use Rattle.std.proofs.Common.{◌≡◌, ◌≢◌, ℕ, ◌<◌, Bool, false, List, length, slice_get, Some, refl, sym, ap, ◌∙◌, subst, inl, inr}
use Rattle.std.proofs.Common.{slice_set}
use Rattle.std.proofs.lemmas.Option.{same_Some, slice_get_within}
use Rattle.ilk_base.specs.declared.words.Kind.{Kind}
use Rattle.ilk_base.specs.declared.words.Kind.TheVariants.{Breaker, Disconnector, Earthing, Infeed}
use Rattle.station_graph.specs.declared.items.Switch.{Switch}
use Rattle.station_graph.specs.Diagram.{Diagram, IsTwoEnded}
use Rattle.station_graph.specs.Connection.{Item, a_switch, a_link, a_tap, ItemBetween, Touching, Coupled}
use Rattle.station_graph.specs.Connection.{with_breakers_closed}
use Rattle.station_graph.specs.Supply.{Apart, ClosedAt, Earthable}
use Rattle.station_graph.proofs.LinkedLemmas.{linked_self, linked_sym, linked_trans, linked_weaker}
use Rattle.station_graph.proofs.PartialEdges.{touching_back}
use Rattle.station_graph.proofs.PositionLemmas.{close_breakers_at, slice_get-set_other}
use Rattle.commissioning_tests.specs.Growing.{FeedsEarth}

not_infeed : (k : Kind) → IsTwoEnded k → k ≢ Infeed
not_infeed Breaker t e = cc e
not_infeed Disconnector t e = cc e
not_infeed Earthing t e = cc e
not_infeed Infeed t e = absurd t

-- ---- what an infeed leaves as it is

module _ (d : Diagram) (i : ℕ) (x : Switch) (listed : slice_get d.switches i ≡ Some x) (is : x.kind ≡ Infeed) where
  elsewhere : (j : ℕ) (y : Switch) → slice_get d.switches j ≡ Some y → y.kind ≢ Infeed → j ≢ i
  elsewhere j y at other e =
      other (ap (λ (z : Switch). z.kind) (same_Some y x (sym at ∙ (ap (slice_get d.switches) e ∙ listed))) ∙ is)

  module _ (v w : List Bool) (same : (j : ℕ) → j ≢ i → slice_get v j ≡ slice_get w j) where
    between : (item : Item) (a b : ℕ) → ItemBetween false d (with_breakers_closed d v) item a b →
        ItemBetween false d (with_breakers_closed d w) item a b
    between (a_switch j) a b h = record {
      switch = h.switch;
      second = h.second;
      listed = h.listed;
      two_ended = h.two_ended;
      has_second = h.has_second;
      closed =
          sym (close_breakers_at d.switches v w j
          (same j (elsewhere j h.switch h.listed (not_infeed h.switch.kind h.two_ended)))) ∙ h.closed;
      ends = h.ends;
    }
    between (a_link j) a b h = record { link = h.link; listed = h.listed; counts = h.counts; ends = h.ends }
    between (a_tap j) a b h = absurd h

    coupled_over : (a b : ℕ) → Coupled d v a b → Coupled d w a b
    coupled_over a b l =
        linked_weaker (Touching false d (with_breakers_closed d v)) (Touching false d (with_breakers_closed d w))
        (λ p q e. record { item = e.item; among = e.among; between = between e.item p q e.between }) a b l

    earthable_over : (n : ℕ) → Earthable d v n → Earthable d w n
    earthable_over n (m, l, at) = (
      m,
      coupled_over n m l,
      record {
        number = at.number;
        switch = at.switch;
        listed = at.listed;
        is_kind = at.is_kind;
        closed =
            sym (same at.number
            (elsewhere at.number at.switch at.listed (λ e. let both : Earthing ≡ Infeed = sym at.is_kind ∙ e in cc both)))
            ∙ at.closed;
        stands = at.stands;
      },
    )

-- ---- a closed infeed whose closing breaks the second rule

pub not_apart : (d : Diagram) (v : List Bool) (i : ℕ) → FeedsEarth d v i → ¬ Apart d v
not_apart d v i f sound = elim f.breaks.1 [
  | inl h ↦
      let same : h.switch ≡ f.switch = same_Some h.switch f.switch (sym h.moves ∙ f.listed) in
      not_infeed h.switch.kind h.is_two_ended (ap (λ (z : Switch). z.kind) same ∙ f.is_infeed)
  | inr h ↦
      let same : h.switch ≡ f.switch = same_Some h.switch f.switch (sym h.moves ∙ f.listed) in
      let n : ℕ = f.switch.first.0 in
      let without : List Bool = slice_set v i false in
      let earthed : Earthable d without n =
      subst (λ (z : Switch). Earthable d without z.first.0) same h.earthable in
      let here : ClosedAt d v Infeed n =
      record {
        number = i;
        switch = f.switch;
        listed = f.listed;
        is_kind = f.is_infeed;
        closed = f.closed;
        stands = refl;
      } in
      sound n (n, linked_self (Touching false d (with_breakers_closed d v)) n, here)
      (earthable_over d i f.switch f.listed f.is_infeed without v (λ j ne. slice_get-set_other v i j false ne) n earthed)
]

feeds : (d : Diagram) (v : List Bool) (n m : ℕ) → Coupled d v n m → (at : ClosedAt d v Infeed m) → Earthable d v n →
    FeedsEarth d v at.number
feeds d v n m l at (k, r, by) =
    let x = at.switch in
    let without : List Bool = slice_set v at.number false in
    let joins = Touching false d (with_breakers_closed d v) in
    let back : Coupled d v m n = linked_sym joins (touching_back false d (with_breakers_closed d v)) n m l in
    let all : Earthable d v m = (k, linked_trans joins m n k back r, by) in
    let there : Earthable d v x.first.0 = subst (λ (z : ℕ). Earthable d v z) (sym at.stands) all in
    record {
      switch = x;
      listed = at.listed;
      is_infeed = at.is_kind;
      closed = at.closed;
      breaks = (
        λ h.
            let same : h.switch ≡ x = same_Some h.switch x (sym h.moves ∙ at.listed) in
            let both : Earthing ≡ Infeed =
            sym h.is_earthing ∙ (ap (λ (z : Switch). z.kind) same ∙ at.is_kind) in
            cc both,
        inr (record {
          switch = x;
          moves = at.listed;
          closes = refl;
          is_infeed = at.is_kind;
          earthable =
              earthable_over d at.number x at.listed at.is_kind v without
              (λ j ne. sym (slice_get-set_other v at.number j false ne)) x.first.0 there;
        }),
      );
    }

pub apart_if : (d : Diagram) (v : List Bool) → ((i : ℕ) → i < length d.switches → ¬ FeedsEarth d v i) → Apart d v
apart_if d v none n (m, l, at) earthed =
    none at.number (slice_get_within d.switches at.number at.switch at.listed) (feeds d v n m l at earthed)
