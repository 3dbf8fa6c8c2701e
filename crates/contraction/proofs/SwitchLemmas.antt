-- The value of one switch stands for it.
use Rattle.std.proofs.Common.{◌≡◌, ℕ, ◌⊎◌, ◌↔◌, zero, suc, Bool, true, false, IsTrue, List, [], ◌∷◌, slice_get, Some}
use Rattle.std.proofs.Common.{refl, sym, ◌∙◌, ap, subst, inl, inr}
use Rattle.ilk_base.specs.declared.words.Kind.{Kind}
use Rattle.ilk_base.specs.declared.words.Kind.TheVariants.{Breaker, Disconnector, Earthing, Infeed}
use Rattle.ilk_base.specs.declared.words.NodeId.{NodeId}
use Rattle.station_graph.specs.declared.items.Switch.{Switch}
use Rattle.station_graph.specs.Diagram.{Diagram, IsTwoEnded}
use Rattle.station_graph.specs.Connection.{a_switch, close_breakers, unless_breaker, with_breakers_closed}
use Rattle.station_graph.specs.Views.{ClosedAtBy}
use Rattle.contraction.specs.Answers.{Answers}
use Rattle.contraction.specs.Stands.{StandsFor}
use Rattle.contraction.specs.Single.{Only, IsPair, IsSingle}
use Rattle.station_graph.specs.Sharing.{Touches, AtSwitch}
use Rattle.contraction.specs.Answers.{Keeps}
use Rattle.contraction.proofs.ItemLemmas.{JoinsWhere, pair_stands, single_stands}

-- the entry of a switch where every breaker counts as closed
pub close_breakers_entry : (xs : List Switch) (v : List Bool) (i : ℕ) (x : Switch) (b : Bool) →
    slice_get xs i ≡ Some x → slice_get v i ≡ Some b →
    slice_get (close_breakers xs v) i ≡ Some (unless_breaker x.kind b)
close_breakers_entry [] v i x b e f = cc
close_breakers_entry (y ∷ ys) [] i x b e f = cc
close_breakers_entry (y ∷ ys) (c ∷ v) zero x b e f =
    let same : y ≡ x = cc in
    let is : c ≡ b = cc in
    ap (λ k. Some (unless_breaker y.kind k)) is ∙ ap (λ (s : Switch). Some (unless_breaker s.kind b)) same
close_breakers_entry (y ∷ ys) (c ∷ v) (suc i) x b e f = close_breakers_entry ys v i x b e f

two_ended_kind : (k kind : Kind) → IsTwoEnded k → (kind ≡ Infeed) ⊎ (kind ≡ Earthing) → k ≡ kind → ⊥
two_ended_kind Breaker kind t (inl e) f = cc
two_ended_kind Breaker kind t (inr e) f = cc
two_ended_kind Disconnector kind t (inl e) f = cc
two_ended_kind Disconnector kind t (inr e) f = cc
two_ended_kind Earthing kind t h f = t
two_ended_kind Infeed kind t h f = t

module _ (d : Diagram) (v : List Bool) (i : ℕ) (x : Switch) (closed : Bool) (listed : slice_get d.switches i ≡ Some x)
    (at : slice_get v i ≡ Some closed) where
  joins_where : (bonds_only : Bool) (u : List Bool) (bit : Bool) (n : NodeId) → x.second ≡ Some n → IsTwoEnded x.kind →
      slice_get u i ≡ Some bit → JoinsWhere bonds_only d u (a_switch i) x.first.0 n.0 bit
  joins_where bonds_only u bit n second two is = record {
    only = λ a b h. let on : slice_get u i ≡ Some true = h.closed in cc;
    joins = λ e a b ends. record {
      switch = x;
      second = n;
      listed = listed;
      two_ended = two;
      has_second = second;
      closed = is ∙ ap Some e;
      ends = ends;
    };
  }

  -- the switch that stands at a node is this one
  same_switch : (kind : Kind) (n : ℕ) → ClosedAtBy (Only (a_switch i)) d v kind n →
      (x.kind ≡ kind) × (closed ≡ true) × (x.first.0 ≡ n)
  same_switch kind n h =
      let number : h.at.number ≡ i = cc (h.among) in
      let there : slice_get d.switches i ≡ Some h.at.switch =
      subst (λ k. slice_get d.switches k ≡ Some h.at.switch) number h.at.listed in
      let same : h.at.switch ≡ x = cc in
      let on : slice_get v i ≡ Some true = subst (λ k. slice_get v k ≡ Some true) number h.at.closed in (
        sym (ap (λ (s : Switch). s.kind) same) ∙ h.at.is_kind,
        cc (on, at),
        sym (ap (λ (s : Switch). s.first.0) same) ∙ h.at.stands,
      )

  pub switch_pair_stands : (n : NodeId) (c : Answers) → x.second ≡ Some n → IsTwoEnded x.kind →
      IsPair x.first.0 n.0 (unless_breaker x.kind closed) closed closed c → StandsFor (Only (a_switch i)) d v c
  switch_pair_stands n c second two is =
      pair_stands d (a_switch i) v x.first.0 n.0 (unless_breaker x.kind closed) closed closed c is
      (joins_where false (with_breakers_closed d v) (unless_breaker x.kind closed) n second two
      (close_breakers_entry d.switches v i x closed listed at))
      (joins_where false v closed n second two at)
      (joins_where true v closed n second two at)
      (λ kind m k h. two_ended_kind x.kind kind two k (same_switch kind m h).0)
      (λ m tap. cc (tap.among))

  stands_here : (kind : Kind) → x.kind ≡ kind → closed ≡ true → ClosedAtBy (Only (a_switch i)) d v kind x.first.0
  stands_here kind is on = record {
    at = record { number = i; switch = x; listed = listed; is_kind = is; closed = at ∙ ap Some on; stands = refl };
    among = refl;
  }

  pub switch_single_stands : (feeds earths : Bool) (c : Answers) →
      (IsTrue feeds ↔ ((x.kind ≡ Infeed) × (closed ≡ true))) →
      (IsTrue earths ↔ ((x.kind ≡ Earthing) × (closed ≡ true))) → IsSingle x.first.0 feeds earths feeds feeds c →
      StandsFor (Only (a_switch i)) d v c
  switch_single_stands feeds earths c f e is =
      let fed : (n : ℕ) → ClosedAtBy (Only (a_switch i)) d v Infeed n → feeds ≡ true = λ n h.
      let s = same_switch Infeed n h in
      f.1 (s.0, s.1) in
      let feeding : feeds ≡ true → ClosedAtBy (Only (a_switch i)) d v Infeed x.first.0 = λ on.
      let s = f.0 on in
      stands_here Infeed s.0 s.1 in
      single_stands d (a_switch i) v x.first.0
      feeds earths feeds feeds c is
      (λ n h. (fed n h, fed n h))
      (λ on. elim on [ inl e1 ↦ feeding e1 | inr e1 ↦ feeding e1 ])
      (λ n h. let s = same_switch Earthing n h in e.1 (s.0, s.1))
      (λ on. let s = e.0 on in stands_here Earthing s.0 s.1)
      (λ n h. elim h [ inl t ↦ fed n t | inr t ↦ absurd (cc (t.among)) ])
      (λ on. inl (feeding on))

-- two ends that are kept are the nodes of the switch
pub switch_nodes : (d : Diagram) (i : ℕ) (x : Switch) (second : NodeId) (kept : List ℕ) →
    slice_get d.switches i ≡ Some x → x.second ≡ Some second →
    ((n : ℕ) → Keeps kept n ↔ ((n ≡ x.first.0) ⊎ (n ≡ second.0))) → (n : ℕ) → Keeps kept n ↔ Touches d (a_switch i) n
switch_nodes d i x second kept listed has ends n = (
  λ k. (x, listed, elim ((ends n).0 k) [ inl e ↦ inl (sym e) | inr e ↦ inr (second, has, sym e) ]),
  λ (y, there, at).
      let same : y ≡ x = cc (there, listed) in
      (ends n).1 (elim (subst (λ (z : Switch). AtSwitch z n) same at) [
        | inl e ↦ inl (sym e)
        | inr (m, is, e) ↦ inr (let one : m ≡ second = cc (is, has) in sym e ∙ ap (λ (k : NodeId). k.0) one)
      ]),
)
