-- Two diagrams with the same items but for their parts give the same views.
use Rattle.std.proofs.Common.{◌≡◌, ℕ, Bool, true, false, List, [], ◌∷◌, slice_get, Some, refl, sym, ap, ◌∙◌, subst, inl}
use Rattle.std.proofs.Common.{inr}
use Rattle.std.specs.Prelude.{◌⊎◌, ◌↔◌}
use Rattle.ilk_base.specs.declared.words.Kind.{Kind}
use Rattle.ilk_base.specs.declared.words.NodeId.{NodeId}
use Rattle.station_graph.specs.declared.items.Switch.{Switch}
use Rattle.station_graph.specs.declared.items.Link.{Link}
use Rattle.station_graph.specs.declared.items.Tap.{Tap}
use Rattle.station_graph.specs.Diagram.{Diagram, IsTwoEnded}
use Rattle.station_graph.specs.Connection.{Item, a_switch, a_link, a_tap, ItemBetween, AreEnds, TouchingBy, LeadsTo}
use Rattle.station_graph.specs.Connection.{Linked, with_breakers_closed}
use Rattle.station_graph.specs.Sharing.{AtSwitch, AtLink, AtTap, Touches, TouchedBy}
use Rattle.station_graph.specs.Supply.{ClosedAt}
use Rattle.station_graph.specs.Views.{JoinedBy, BondedBy, CoupledBy, ClosedAtBy, HasTapBy, EnergisableBy, EarthableBy}
use Rattle.station_graph.specs.Views.{FedBy, TappedBy}
use Rattle.contraction.specs.Answers.{Answers}
use Rattle.contraction.specs.Stands.{GapStandsFor, LoadStandsFor, StandsFor}
use Rattle.judge_pool.specs.declared.view.View.{View}
use Rattle.judge_pool.specs.declared.view.View.TheVariants.{Gap, Load}
use Rattle.judge_pool.specs.Seen.{SeenFor}

-- The second switch is the first, but for its part.
pub record IsBody (x y : Switch) : Type 0 where
  pub kind : y.kind ≡ x.kind
  pub first : y.first ≡ x.first
  pub second : y.second ≡ x.second

-- The second link is the first, but for its part.
pub record IsLinkBody (x y : Link) : Type 0 where
  pub first : y.first ≡ x.first
  pub second : y.second ≡ x.second
  pub bond : y.bond ≡ x.bond

-- The second diagram has the items of the first, but for their parts.
pub record HasItems (d e : Diagram) : Type 0 where
  pub switches : (i : ℕ) (x : Switch) → slice_get d.switches i ≡ Some x →
      (y : Switch) × (slice_get e.switches i ≡ Some y) × IsBody x y
  pub links : (i : ℕ) (x : Link) → slice_get d.links i ≡ Some x →
      (y : Link) × (slice_get e.links i ≡ Some y) × IsLinkBody x y
  pub taps : (i : ℕ) (x : Tap) → slice_get d.taps i ≡ Some x →
      (y : Tap) × (slice_get e.taps i ≡ Some y) × (y.node ≡ x.node)
  pub closed : (v : List Bool) → with_breakers_closed e v ≡ with_breakers_closed d v

module _ (d e : Diagram) (has : HasItems d e) where
  between : (bonds : Bool) (v : List Bool) (item : Item) (a b : ℕ) → ItemBetween bonds d v item a b →
      ItemBetween bonds e v item a b
  between bonds v (a_switch i) a b h =
      let (y, at, body) = has.switches i h.switch h.listed in
      record {
        switch = y;
        second = h.second;
        listed = at;
        two_ended = subst (λ (k : Kind). IsTwoEnded k) (sym body.kind) h.two_ended;
        has_second = body.second ∙ h.has_second;
        closed = h.closed;
        ends = subst (λ (n : NodeId). AreEnds n.0 h.second.0 a b) (sym body.first) h.ends;
      }
  between bonds v (a_link i) a b h =
      let (y, at, body) = has.links i h.link h.listed in
      record {
        link = y;
        listed = at;
        counts = λ only. body.bond ∙ h.counts only;
        ends =
            subst (λ (n : NodeId). AreEnds n.0 y.second.0 a b) (sym body.first)
            (subst (λ (n : NodeId). AreEnds h.link.first.0 n.0 a b) (sym body.second) h.ends);
      }
  between bonds v (a_tap i) a b h = absurd h

  module _ (These : Item → Type 0) where
    leads : (bonds : Bool) (v : List Bool) (ns : List ℕ) (a b : ℕ) → LeadsTo (TouchingBy These bonds d v) a ns b →
        LeadsTo (TouchingBy These bonds e v) a ns b
    leads bonds v [] a b h = h
    leads bonds v (n ∷ ns) a b h = (
      record {
        item = h.0.item;
        among = h.0.among;
        between = between bonds v h.0.item a n h.0.between;
      },
      leads bonds v ns n b h.1,
    )

    linked : (bonds : Bool) (v : List Bool) (a b : ℕ) → Linked (TouchingBy These bonds d v) a b →
        Linked (TouchingBy These bonds e v) a b
    linked bonds v a b h = record { after = h.after; leads = leads bonds v h.after a b h.leads }

    pub joined_on : (v : List Bool) (a b : ℕ) → JoinedBy These d v a b → JoinedBy These e v a b
    joined_on v a b h = linked false v a b h

    pub bonded_on : (v : List Bool) (a b : ℕ) → BondedBy These d v a b → BondedBy These e v a b
    bonded_on v a b h = linked true v a b h

    pub coupled_on : (v : List Bool) (a b : ℕ) → CoupledBy These d v a b → CoupledBy These e v a b
    coupled_on v a b h =
        subst (λ w. JoinedBy These e w a b) (sym (has.closed v)) (linked false (with_breakers_closed d v) a b h)

    closed_on : (v : List Bool) (kind : Kind) (n : ℕ) → ClosedAtBy These d v kind n → ClosedAtBy These e v kind n
    closed_on v kind n h =
        let (y, at, body) = has.switches h.at.number h.at.switch h.at.listed in
        record {
          at = record {
            number = h.at.number;
            switch = y;
            listed = at;
            is_kind = body.kind ∙ h.at.is_kind;
            closed = h.at.closed;
            stands = ap (λ (m : NodeId). m.0) body.first ∙ h.at.stands;
          };
          among = h.among;
        }

    tap_on : (n : ℕ) → HasTapBy These d n → HasTapBy These e n
    tap_on n h =
        let (y, at, same) = has.taps h.number h.tap h.listed in
        record {
          number = h.number;
          tap = y;
          listed = at;
          stands = ap (λ (m : NodeId). m.0) same ∙ h.stands;
          among = h.among;
        }

    pub energisable_on : (v : List Bool) (n : ℕ) → EnergisableBy These d v n → EnergisableBy These e v n
    energisable_on v n (m, c, at) = (m, coupled_on v n m c, closed_on v _ m at)

    pub earthable_on : (v : List Bool) (n : ℕ) → EarthableBy These d v n → EarthableBy These e v n
    earthable_on v n (m, c, at) = (m, coupled_on v n m c, closed_on v _ m at)

    pub fed_on : (v : List Bool) (n : ℕ) → FedBy These d v n → FedBy These e v n
    fed_on v n (m, c, at) = (m, joined_on v n m c, closed_on v _ m at)

    pub tapped_on : (v : List Bool) (n : ℕ) → TappedBy These d v n → TappedBy These e v n
    tapped_on v n (m, c, at) = (m, joined_on v n m c, tap_on m at)

  pub touches_on : (item : Item) (n : ℕ) → Touches d item n → Touches e item n
  touches_on (a_switch i) n (x, at, t) =
      let (y, there, body) = has.switches i x at in (
        y,
        there,
        elim t [
          | inl f ↦ inl (ap (λ (m : NodeId). m.0) body.first ∙ f)
          | inr s ↦ inr (s.0, body.second ∙ s.1, s.2)
        ],
      )
  touches_on (a_link i) n (x, at, t) =
      let (y, there, body) = has.links i x at in (
        y,
        there,
        elim t [
          | inl f ↦ inl (ap (λ (m : NodeId). m.0) body.first ∙ f)
          | inr s ↦ inr (ap (λ (m : NodeId). m.0) body.second ∙ s)
        ],
      )
  touches_on (a_tap i) n (x, at, t) =
      let (y, there, same) = has.taps i x at in
      (y, there, ap (λ (m : NodeId). m.0) same ∙ t)

  pub touched_on : (These : Item → Type 0) (n : ℕ) → TouchedBy These d n → TouchedBy These e n
  touched_on These n t = record {
    item = t.item;
    among = t.among;
    touches = touches_on t.item n t.touches;
  }

-- the views are the same
module _ (d e : Diagram) (there : HasItems d e) (back : HasItems e d) (These : Item → Type 0) (v : List Bool)
    (c : Answers) where
  gap_on : GapStandsFor These d v c → GapStandsFor These e v c
  gap_on s = record {
    coupled = λ a b ka kb. (
      λ x. coupled_on d e there These v a b ((s.coupled a b ka kb).0 x),
      λ x. (s.coupled a b ka kb).1 (coupled_on e d back These v a b x),
    );
    energisable = λ a ka. (
      λ x. energisable_on d e there These v a ((s.energisable a ka).0 x),
      λ x. (s.energisable a ka).1 (energisable_on e d back These v a x),
    );
    earthable = λ a ka. (
      λ x. earthable_on d e there These v a ((s.earthable a ka).0 x),
      λ x. (s.earthable a ka).1 (earthable_on e d back These v a x),
    );
  }

  loaded_there : (a : ℕ) → FedBy These d v a ⊎ TappedBy These d v a → FedBy These e v a ⊎ TappedBy These e v a
  loaded_there a (inl f) = inl (fed_on d e there These v a f)
  loaded_there a (inr t) = inr (tapped_on d e there These v a t)

  loaded_back : (a : ℕ) → FedBy These e v a ⊎ TappedBy These e v a → FedBy These d v a ⊎ TappedBy These d v a
  loaded_back a (inl f) = inl (fed_on e d back These v a f)
  loaded_back a (inr t) = inr (tapped_on e d back These v a t)

  load_on : LoadStandsFor These d v c → LoadStandsFor These e v c
  load_on s = record {
    joined = λ a b ka kb. (
      λ x. joined_on d e there These v a b ((s.joined a b ka kb).0 x),
      λ x. (s.joined a b ka kb).1 (joined_on e d back These v a b x),
    );
    bonded = λ a b ka kb. (
      λ x. bonded_on d e there These v a b ((s.bonded a b ka kb).0 x),
      λ x. (s.bonded a b ka kb).1 (bonded_on e d back These v a b x),
    );
    fed = λ a ka.
        (λ x. fed_on d e there These v a ((s.fed a ka).0 x), λ x. (s.fed a ka).1 (fed_on e d back These v a x));
    loaded = λ a ka.
        (λ x. loaded_there a ((s.loaded a ka).0 x), λ x. (s.loaded a ka).1 (loaded_back a x));
  }

  pub stands_on : StandsFor These d v c → StandsFor These e v c
  stands_on s = record { gap = gap_on s.gap; load = load_on s.load }

  pub seen_on : (view : View) → SeenFor view These d v c → SeenFor view These e v c
  seen_on Gap s = gap_on s
  seen_on Load s = load_on s
