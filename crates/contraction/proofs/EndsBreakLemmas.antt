-- The answers of all items but the moved switch give the answer of `Breaks`.
use Rattle.std.proofs.Common.{◌≡◌, ◌≢◌, ℕ, ◌<◌, ◌⊎◌, ◌↔◌, Bool, true, false, List, length, Option, Some, None, refl}
use Rattle.std.proofs.Common.{sym, ◌∙◌, ap, subst, inl, inr, arith}
use Rattle.std.proofs.lemmas.Option.{slice_get_within}
use Rattle.ilk_base.specs.declared.words.Kind.{Kind}
use Rattle.ilk_base.specs.declared.words.Kind.TheVariants.{Breaker, Disconnector, Earthing, Infeed}
use Rattle.ilk_base.specs.declared.words.NodeId.{NodeId}
use Rattle.ilk_base.specs.declared.words.Op.{Op}
use Rattle.ilk_base.specs.declared.words.Rule.{Rule}
use Rattle.ilk_base.specs.declared.words.Rule.TheVariants.{R1, R2, R3}
use Rattle.std.specs.Prelude.{MatchOption}
use Rattle.station_graph.specs.declared.items.Switch.{Switch}
use Rattle.station_graph.specs.Diagram.{Diagram, IsStation, IsTwoEnded, SwitchFits, node_count}
use Rattle.station_graph.specs.Connection.{a_switch, Coupled}
use Rattle.station_graph.specs.Supply.{Quiet, ClosedAt}
use Rattle.station_graph.specs.CentralRules.{before, after, Moves, BreaksEarthing, BreaksClosing, BreaksFeeding}
use Rattle.station_graph.specs.CentralRules.{BreaksLoad, GapCarriesLoad, Applies, GapBreaks}
use Rattle.station_graph.proofs.PartialEdges.{second_fits}
use Rattle.contraction.specs.Answers.{Answers, Keeps, MarkedAt}
use Rattle.station_graph.specs.Nodes.{Rises}
use Rattle.contraction.specs.Stands.{AllBut, GapStandsFor, LoadStandsFor}
use Rattle.contraction.specs.Ends.{EndsKept, EndsEarthing, EndsFeeding, EndsClosing, EndsLoad, EndsGap}
use Rattle.contraction.proofs.SupplyLemmas.{marked_or_not}
use Rattle.contraction.proofs.EndsLemmas.{coupled_to_rest, open_rest, live_rest, loaded_rest, quiet_rest}
use Rattle.contraction.proofs.EndsLemmas.{closed_coupled_to}

earthing_one : (k : Kind) → k ≡ Earthing → ¬ IsTwoEnded k
earthing_one Breaker e t = cc
earthing_one Disconnector e t = cc
earthing_one Earthing e t = t
earthing_one Infeed e t = t

infeed_one : (k : Kind) → k ≡ Infeed → ¬ IsTwoEnded k
infeed_one Breaker e t = cc
infeed_one Disconnector e t = cc
infeed_one Earthing e t = t
infeed_one Infeed e t = t

two_no_infeed : (k : Kind) → IsTwoEnded k → k ≢ Infeed
two_no_infeed Breaker t e = cc
two_no_infeed Disconnector t e = cc
two_no_infeed Earthing t e = t
two_no_infeed Infeed t e = t

two_no_earthing : (k : Kind) → IsTwoEnded k → k ≢ Earthing
two_no_earthing Breaker t e = cc
two_no_earthing Disconnector t e = cc
two_no_earthing Earthing t e = t
two_no_earthing Infeed t e = t

has_second_at : (d : Diagram) (x : Switch) (o : Option NodeId) → x.second ≡ o → SwitchFits d x → IsTwoEnded x.kind →
    (n : NodeId) × (x.second ≡ Some n)
has_second_at d x (Some n) e fits two = (n, e)
has_second_at d x None e fits two =
    absurd
    (subst (λ s. MatchOption s (¬ IsTwoEnded x.kind)
    (λ m. IsTwoEnded x.kind × (m.0 < node_count d) × (m.0 ≢ x.first.0))) e fits.second two)

module _ (d : Diagram) (station : IsStation d) (v : List Bool) (fits : length v ≡ length d.switches) (op : Op)
    (x : Switch) (moves : Moves d op x) (c : Answers) (kept : EndsKept c.kept x) where
  m_in : op.switch.0 < length v
  m_in = omega (arith, slice_get_within d.switches op.switch.0 x moves)

  x_fits : SwitchFits d x
  x_fits = station.items.switches_fit op.switch.0 x moves

  moved_same : (y : Switch) → Moves d op y → y ≡ x
  moved_same y other = cc (other, moves)

  module _ (q : NodeId) (second : x.second ≡ Some q) where
    two : IsTwoEnded x.kind
    two = (second_fits d x q x_fits second).0

  no_infeed : x.kind ≡ Disconnector → x.kind ≢ Infeed
  no_infeed e f = cc

  -- the gap half
  module _ (stands : GapStandsFor (AllBut (a_switch op.switch.0)) d v c) where
    earthing_there : EndsEarthing c x op.direction → BreaksEarthing d v op
    earthing_there h = record {
      switch = x;
      moves = moves;
      closes = h.closes;
      is_earthing = h.is_earthing;
      energisable =
          (coupled_to_rest d op.switch.0 x moves v false Infeed (earthing_one x.kind h.is_earthing)
          (λ e. let f = h.is_earthing in cc) x.first.0).1 ((stands.energisable x.first.0 kept.first).0 h.energisable);
    }

    earthing_back : BreaksEarthing d v op → EndsEarthing c x op.direction
    earthing_back h =
        let same : h.switch ≡ x = moved_same h.switch h.moves in
        let is : x.kind ≡ Earthing = ap (λ (s : Switch). s.kind) (sym same) ∙ h.is_earthing in
        let en = subst
        (λ (s : Switch). (n : ℕ) × Coupled d (before v op) s.first.0 n × ClosedAt d (before v op) Infeed n) same
        h.energisable in
        record {
          closes = h.closes;
          is_earthing = is;
          energisable =
              (stands.energisable x.first.0 kept.first).1 ((coupled_to_rest d op.switch.0 x moves v false Infeed
              (earthing_one x.kind is) (λ e. cc) x.first.0).0 en);
        }

    feeding_there : EndsFeeding c x op.direction → BreaksFeeding d v op
    feeding_there h = record {
      switch = x;
      moves = moves;
      closes = h.closes;
      is_infeed = h.is_infeed;
      earthable =
          (coupled_to_rest d op.switch.0 x moves v false Earthing (infeed_one x.kind h.is_infeed)
          (λ e. let f = h.is_infeed in cc) x.first.0).1 ((stands.earthable x.first.0 kept.first).0 h.earthable);
    }

    feeding_back : BreaksFeeding d v op → EndsFeeding c x op.direction
    feeding_back h =
        let same : h.switch ≡ x = moved_same h.switch h.moves in
        let is : x.kind ≡ Infeed = ap (λ (s : Switch). s.kind) (sym same) ∙ h.is_infeed in
        let ea = subst
        (λ (s : Switch). (n : ℕ) × Coupled d (before v op) s.first.0 n × ClosedAt d (before v op) Earthing n) same
        h.earthable in
        record {
          closes = h.closes;
          is_infeed = is;
          earthable =
              (stands.earthable x.first.0 kept.first).1 ((coupled_to_rest d op.switch.0 x moves v false Earthing
              (infeed_one x.kind is) (λ e. cc) x.first.0).0 ea);
        }

    closing_there : EndsClosing c x op.direction → BreaksClosing d v op
    closing_there h =
        let t = two h.second h.has_second in
        let q = h.second in
        let kq = kept.second q h.has_second in
        record {
          switch = x;
          moves = moves;
          closes = h.closes;
          is_two_ended = t;
          energisable =
              (closed_coupled_to d op.switch.0 x moves v m_in q h.has_second t Infeed (two_no_infeed x.kind t)).1
              (elim h.meets.0 [
                | inl e ↦ inl ((stands.energisable x.first.0 kept.first).0 e)
                | inr e ↦ inr ((stands.energisable q.0 kq).0 e)
              ]);
          earthable =
              (closed_coupled_to d op.switch.0 x moves v m_in q h.has_second t Earthing (two_no_earthing x.kind t)).1
              (elim h.meets.1 [
                | inl e ↦ inl ((stands.earthable x.first.0 kept.first).0 e)
                | inr e ↦ inr ((stands.earthable q.0 kq).0 e)
              ]);
        }

    closing_back : BreaksClosing d v op → EndsClosing c x op.direction
    closing_back h =
        let same : h.switch ≡ x = moved_same h.switch h.moves in
        let t : IsTwoEnded x.kind = subst (λ (s : Switch). IsTwoEnded s.kind) same h.is_two_ended in
        let (q, has) = has_second_at d x x.second refl x_fits t in
        let kq = kept.second q has in
        let en = subst (λ (s : Switch). (n : ℕ) × Coupled d (after v op) s.first.0 n × ClosedAt d (after v op) Infeed n)
        same h.energisable in
        let ea = subst
        (λ (s : Switch). (n : ℕ) × Coupled d (after v op) s.first.0 n × ClosedAt d (after v op) Earthing n) same
        h.earthable in
        record {
          second = q;
          closes = h.closes;
          has_second = has;
          meets = (
            elim ((closed_coupled_to d op.switch.0 x moves v m_in q has t Infeed (two_no_infeed x.kind t)).0 en) [
              | inl e ↦ inl ((stands.energisable x.first.0 kept.first).1 e)
              | inr e ↦ inr ((stands.energisable q.0 kq).1 e)
            ],
            elim ((closed_coupled_to d op.switch.0 x moves v m_in q has t Earthing (two_no_earthing x.kind t)).0 ea) [
              | inl e ↦ inl ((stands.earthable x.first.0 kept.first).1 e)
              | inr e ↦ inr ((stands.earthable q.0 kq).1 e)
            ],
          );
        }

    second_rule_back : Applies R2 d v op → EndsClosing c x op.direction ⊎ EndsFeeding c x op.direction
    second_rule_back (inl h) = inl (closing_back h)
    second_rule_back (inr h) = inr (feeding_back h)

    second_rule_there : EndsClosing c x op.direction ⊎ EndsFeeding c x op.direction → Applies R2 d v op
    second_rule_there (inl h) = inl (closing_there h)
    second_rule_there (inr h) = inr (feeding_there h)

    -- THE ENDS TELL THE FIRST TWO RULES BY THE GAP VIEW
    pub gap_tells : (answer : Option Rule) → EndsGap c x op.direction answer → GapBreaks d v op answer
    gap_tells None h = (λ a. h.0 (earthing_back a), λ a. h.1 (second_rule_back a))
    gap_tells (Some R1) h = earthing_there h
    gap_tells (Some R2) h = (λ a. h.0 (earthing_back a), second_rule_there h.1)
    gap_tells (Some R3) h = h

  -- the load half
  module _ (rises : Rises c.kept) (stands : LoadStandsFor (AllBut (a_switch op.switch.0)) d v c) where
    load_there : EndsLoad c x → BreaksLoad d v op
    load_there h =
        let q = h.second in
        let kq = kept.second q h.has_second in
        let other = no_infeed h.is_disconnector in
        let m = op.switch.0 in
        record {
          switch = x;
          second = q;
          moves = moves;
          is_disconnector = h.is_disconnector;
          has_second = h.has_second;
          load = record {
            live = elim h.load.0 [
              | inl e ↦ inl ((live_rest d m x moves v m_in other x.first.0).1 ((stands.fed x.first.0 kept.first).0 e))
              | inr e ↦ inr ((live_rest d m x moves v m_in other q.0).1 ((stands.fed q.0 kq).0 e))
            ];
            first_loaded =
                loaded_rest d m x moves v m_in station.infeeds_tapped x.first.0
                ((stands.loaded x.first.0 kept.first).0 h.load.1);
            second_loaded =
                loaded_rest d m x moves v m_in station.infeeds_tapped q.0 ((stands.loaded q.0 kq).0 h.load.2);
            not_bonded =
                λ l. h.load.3 ((stands.bonded x.first.0 q.0 kept.first kq).1
                ((open_rest d m x moves true v m_in x.first.0 q.0).0 l));
          };
        }

    -- a node that is not quiet is marked as loaded
    marked_loaded : (n : ℕ) → Keeps c.kept n → ¬ Quiet d (before v op) n → MarkedAt c.kept c.loaded n
    marked_loaded n k not_quiet = elim (marked_or_not c.kept c.loaded n rises k) [
      | inl m ↦ m
      | inr none ↦ absurd (not_quiet (quiet_rest d op.switch.0 x moves v m_in n (λ h. none ((stands.loaded n k).1 h))))
    ]

    load_back : BreaksLoad d v op → EndsLoad c x
    load_back h =
        let same : h.switch ≡ x = moved_same h.switch h.moves in
        let q = h.second in
        let is : x.kind ≡ Disconnector = ap (λ (s : Switch). s.kind) (sym same) ∙ h.is_disconnector in
        let has : x.second ≡ Some q = ap (λ (s : Switch). s.second) (sym same) ∙ h.has_second in
        let load : GapCarriesLoad d (before v op) x.first.0 q.0 =
        subst (λ (s : Switch). GapCarriesLoad d (before v op) s.first.0 q.0) same h.load in
        let kq = kept.second q has in
        let other = no_infeed is in
        let m = op.switch.0 in
        record {
          second = q;
          is_disconnector = is;
          has_second = has;
          load = (
            elim load.live [
              | inl e ↦ inl ((stands.fed x.first.0 kept.first).1 ((live_rest d m x moves v m_in other x.first.0).0 e))
              | inr e ↦ inr ((stands.fed q.0 kq).1 ((live_rest d m x moves v m_in other q.0).0 e))
            ],
            marked_loaded x.first.0 kept.first load.first_loaded,
            marked_loaded q.0 kq load.second_loaded,
            λ s. load.not_bonded
                ((open_rest d m x moves true v m_in x.first.0 q.0).1 ((stands.bonded x.first.0 q.0 kept.first kq).0 s)),
          );
        }

    -- THE ENDS TELL THE THIRD RULE BY THE LOAD VIEW
    pub load_tells : EndsLoad c x ↔ Applies R3 d v op
    load_tells = (load_there, load_back)
