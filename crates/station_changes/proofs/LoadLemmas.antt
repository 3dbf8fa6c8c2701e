-- What more closed switches join.
use Rattle.std.proofs.Common.{◌≡◌, ◌≢◌, ℕ, zero, suc, Bool, true, false, List, [], ◌∷◌, slice_get, slice_set, Some, sym, subst}
use Rattle.std.proofs.Common.{ap, ◌∙◌, inl, inr}
use Rattle.std.proofs.lemmas.Bool.Decides.{eqb_tells}
use Rattle.std.proofs.lemmas.Option.{same_Some}
use Rattle.ilk_base.specs.declared.words.Kind.{Kind}
use Rattle.ilk_base.specs.declared.words.Kind.TheVariants.{Breaker, Disconnector, Earthing, Infeed}
use Rattle.ilk_base.specs.declared.words.Op.{Op}
use Rattle.ilk_base.specs.declared.words.NodeId.{NodeId}
use Rattle.station_graph.specs.declared.items.Switch.{Switch}
use Rattle.station_graph.specs.Diagram.{Diagram, IsTwoEnded}
use Rattle.station_graph.specs.Connection.{Item, a_switch, a_link, a_tap, ItemBetween, Touching, LeadsTo, Joined, Bonded}
use Rattle.station_graph.specs.Supply.{Live, Quiet}
use Rattle.station_graph.specs.CentralRules.{before, GapCarriesLoad, BreaksLoad, BreaksClosing}
use Rattle.station_graph.proofs.PositionLemmas.{slice_get-set_other}
use Rattle.station_changes.specs.Covers.{Covers, NoEarth}

two_ended_other : (k : Kind) → IsTwoEnded k → k ≢ Earthing
two_ended_other Breaker h e = cc e
two_ended_other Disconnector h e = cc e
two_ended_other Earthing h e = absurd h
two_ended_other Infeed h e = absurd h

infeed_other : (k : Kind) → k ≡ Infeed → k ≢ Earthing
infeed_other Breaker h e = cc e
infeed_other Disconnector h e = cc e
infeed_other Earthing h e = cc h
infeed_other Infeed h e = cc e

-- what was set to false is not true
set_false : (xs : List Bool) (m : ℕ) → slice_get (slice_set xs m false) m ≡ Some true → ⊥
set_false [] m e = cc e
set_false (x ∷ xs) zero e = cc e
set_false (x ∷ xs) (suc m) e = set_false xs m e

module _ (d : Diagram) (v w : List Bool) (covers : Covers d v w) where
  between_more : (bonds : Bool) (i : Item) (a b : ℕ) → ItemBetween bonds d v i a b → ItemBetween bonds d w i a b
  between_more bonds (a_switch i) a b h = record {
    switch = h.switch;
    second = h.second;
    listed = h.listed;
    two_ended = h.two_ended;
    has_second = h.has_second;
    closed = covers i h.switch h.listed (two_ended_other h.switch.kind h.two_ended) h.closed;
    ends = h.ends;
  }
  between_more bonds (a_link i) a b h = h
  between_more bonds (a_tap i) a b h = absurd h

  touching_more : (bonds : Bool) (a b : ℕ) → Touching bonds d v a b → Touching bonds d w a b
  touching_more bonds a b h = record {
    item = h.item;
    among = h.among;
    between = between_more bonds h.item a b h.between;
  }

  leads_more : (bonds : Bool) (a : ℕ) (rest : List ℕ) (b : ℕ) → LeadsTo (Touching bonds d v) a rest b →
      LeadsTo (Touching bonds d w) a rest b
  leads_more bonds a [] b h = h
  leads_more bonds a (c ∷ rest) b h = (touching_more bonds a c h.0, leads_more bonds c rest b h.1)

  joined_more : (a b : ℕ) → Joined d v a b → Joined d w a b
  joined_more a b h = record { after = h.after; leads = leads_more false a h.after b h.leads }

  bonded_more : (a b : ℕ) → Bonded d v a b → Bonded d w a b
  bonded_more a b h = record { after = h.after; leads = leads_more true a h.after b h.leads }

  live_more : (n : ℕ) → Live d v n → Live d w n
  live_more n h = (
    h.0,
    joined_more n h.0 h.1,
    record {
      number = h.2.number;
      switch = h.2.switch;
      listed = h.2.listed;
      is_kind = h.2.is_kind;
      closed = covers h.2.number h.2.switch h.2.listed (infeed_other h.2.switch.kind h.2.is_kind) h.2.closed;
      stands = h.2.stands;
    },
  )

  quiet_less : (n : ℕ) → Quiet d w n → Quiet d v n
  quiet_less n h m tap joined = h m tap (joined_more n m joined)

  before_covers : (m : ℕ) → Covers d (slice_set v m false) (slice_set w m false)
  before_covers m i x listed other closed = elim (eqb_tells i m) [
    | inl p ↦ absurd (set_false v m (subst (λ (k : ℕ). slice_get (slice_set v m false) k ≡ Some true) p.1 closed))
    | inr p ↦
        slice_get-set_other w m i false p.1
        ∙ covers i x listed other (sym (slice_get-set_other v m i false p.1) ∙ closed)
  ]

-- the gap carries load between
carries_between : (d : Diagram) (few v many : List Bool) (a b : ℕ) → Covers d few v → Covers d v many →
    GapCarriesLoad d few a b → GapCarriesLoad d many a b → GapCarriesLoad d v a b
carries_between d few v many a b low high f h = record {
  live = elim f.live [
    | inl x ↦ inl (live_more d few v low a x)
    | inr x ↦ inr (live_more d few v low b x)
  ];
  first_loaded = λ q. f.first_loaded (quiet_less d few v low a q);
  second_loaded = λ q. f.second_loaded (quiet_less d few v low b q);
  not_bonded = λ j. h.not_bonded (bonded_more d v many high a b j);
}

same_some : {X : Type 0} (x y : X) → Some x ≡ Some y → x ≡ y
same_some x y e = same_Some x y e

pub load_between : (d : Diagram) (few v many : List Bool) (op : Op) → Covers d few v → Covers d v many →
    BreaksLoad d few op → BreaksLoad d many op → BreaksLoad d v op
load_between d few v many op low high f h =
    let m = op.switch.0 in
    let same : h.switch ≡ f.switch = same_some h.switch f.switch (sym h.moves ∙ f.moves) in
    let second : h.second ≡ f.second =
    same_some h.second f.second (sym h.has_second ∙ (ap (λ (x : Switch). x.second) same ∙ f.has_second)) in
    let there : GapCarriesLoad d (before many op) f.switch.first.0 f.second.0 =
    subst (λ (x : Switch). GapCarriesLoad d (before many op) x.first.0 f.second.0) same
    (subst (λ (n : NodeId). GapCarriesLoad d (before many op) h.switch.first.0 n.0) second h.load) in
    record {
      switch = f.switch;
      second = f.second;
      moves = f.moves;
      is_disconnector = f.is_disconnector;
      has_second = f.has_second;
      load = carries_between d (before few op) (before v op) (before many op) f.switch.first.0 f.second.0
          (before_covers d few v low m) (before_covers d v many high m) f.load there;
    }

pub no_gap : (d : Diagram) (v : List Bool) (op : Op) → NoEarth d v → BreaksClosing d v op → ⊥
no_gap d v op none b =
    let at = b.earthable.2 in
    elim (eqb_tells at.number op.switch.0) [
      | inl p ↦
          let same : at.switch ≡ b.switch =
          same_some at.switch b.switch (sym at.listed ∙ (ap (slice_get d.switches) p.1 ∙ b.moves)) in
          two_ended_other b.switch.kind b.is_two_ended (ap (λ (x : Switch). x.kind) (sym same) ∙ at.is_kind)
      | inr p ↦
          none at.number at.switch at.listed at.is_kind
          (sym (slice_get-set_other v op.switch.0 at.number true p.1) ∙ at.closed)
    ]
