-- Two vectors with the same positions in bay c that stand alike in each other part give the same answer
-- of `Breaks` for each operation of c.
use Rattle.std.proofs.Common.{◌≡◌, ◌≢◌, ℕ, Bool, true, false, List, slice_get, slice_set, Option, Some, None, refl}
use Rattle.std.proofs.Common.{sym, ◌∙◌, ap, subst, inl, inr}
use Rattle.std.proofs.lemmas.Bool.{cases_eq}
use Rattle.ilk_base.specs.declared.words.Kind.{Kind}
use Rattle.ilk_base.specs.declared.words.Kind.TheVariants.{Earthing, Infeed}
use Rattle.ilk_base.specs.declared.words.Rule.{Rule}
use Rattle.ilk_base.specs.declared.words.Rule.TheVariants.{R1, R2, R3}
use Rattle.ilk_base.specs.declared.words.Op.{Op}
use Rattle.ilk_base.specs.declared.words.NodeId.{NodeId}
use Rattle.station_graph.specs.declared.items.Switch.{Switch}
use Rattle.station_graph.specs.Diagram.{Diagram, HasTap, InfeedsTapped, IsStation}
use Rattle.station_graph.specs.Connection.{a_switch, Touching, Linked, Joined, Bonded, Coupled, with_breakers_closed}
use Rattle.station_graph.specs.Supply.{ClosedAt, Live, Quiet, Energisable, Earthable}
use Rattle.station_graph.specs.CentralRules.{before, after, Moves, Applies, Breaks}
use Rattle.station_graph.proofs.LinkedLemmas.{linked_weaker, linked_trans}
use Rattle.station_graph.specs.Sharing.{OfPart, TouchedBy, IsShared}
use Rattle.station_graph.specs.Views.{CoupledBy, ClosedAtBy, HasTapBy, FedBy, tapped, fed, SupplyBy, SameGapView}
use Rattle.station_graph.specs.Views.{SameLoadView}
use Rattle.station_graph.specs.Alike.{SamePositions, SameAnswers, SameFor}
use Rattle.station_graph.proofs.WalkLemmas.{Hop, Reaches, reaches, hops_between, any_from_hops, any_from_within}
use Rattle.station_graph.proofs.MixLemmas.{one_part}
use Rattle.station_graph.proofs.PositionLemmas.{slice_get-set_other, slice_get-set_both, SamePositions-sym}
use Rattle.station_graph.proofs.PositionLemmas.{SameGapView-positions, SameLoadView-positions, SameGapView-sym}
use Rattle.station_graph.proofs.PositionLemmas.{SameLoadView-sym, SameGapView-trans, SameLoadView-trans}
use Rattle.station_graph.proofs.PartWalks.{JoinsIn, parts_from_station, station_from_parts, MattersTo, parts_meet}
use Rattle.station_graph.proofs.TouchLemmas.{closed_touches, tap_touches}

-- Two vectors, and parts whose kept nodes are joined alike in both.
module _ (d : Diagram) (c : ℕ) (bonds_only : Bool) (v w : List Bool) (same : (part a b : ℕ) → MattersTo d c part a →
    MattersTo d c part b → Linked (JoinsIn bonds_only d v part) a b → Linked (JoinsIn bonds_only d w part) a b) where
  hops_same : (a b : ℕ) → Linked (Hop (JoinsIn bonds_only d v) (MattersTo d c)) a b →
      Linked (Hop (JoinsIn bonds_only d w) (MattersTo d c)) a b
  hops_same = linked_weaker (Hop (JoinsIn bonds_only d v) (MattersTo d c)) (Hop (JoinsIn bonds_only d w)
      (MattersTo d c))
      (λ a b h. record { set = h.set; from = h.from; to = h.to; within = same h.set a b h.from h.to h.within })

  links_same : (i j a b : ℕ) → MattersTo d c i a → MattersTo d c j b → Linked (Touching bonds_only d v) a b →
      Linked (Touching bonds_only d w) a b
  links_same i j a b ka kb l =
      station_from_parts bonds_only d w a b
      (any_from_hops (JoinsIn bonds_only d w) (MattersTo d c) a b
      (hops_same a b
      (hops_between ℕ cases_eq (JoinsIn bonds_only d v) (λ part n. TouchedBy (OfPart d part) d n) (MattersTo d c)
      (parts_meet d c bonds_only v) i j a b ka kb
      (parts_from_station bonds_only d v a b l))))

  -- the last stretch of a walk to a node that a part touches
  record LastStretch (part a b : ℕ) : Type 0 where
    last : ℕ
    before_it : Linked (Touching bonds_only d w) a last
    kept : MattersTo d c part last
    within : Linked (JoinsIn bonds_only d v part) last b

  ends_in : (i part a b : ℕ) → MattersTo d c i a → TouchedBy (OfPart d part) d b →
      Linked (Touching bonds_only d v) a b → LastStretch part a b
  ends_in i part a b ka tb l =
      let r : Reaches (JoinsIn bonds_only d v) (MattersTo d c) part a b =
      reaches ℕ cases_eq (JoinsIn bonds_only d v) (λ p n. TouchedBy (OfPart d p) d n) (MattersTo d c)
      (parts_meet d c bonds_only v) i part a b ka (inl tb) (parts_from_station bonds_only d v a b l) in
      record {
        last = r.last;
        before_it = station_from_parts bonds_only d w a r.last (any_from_hops (JoinsIn bonds_only d w) (MattersTo d c) a
            r.last (hops_same a r.last r.hops));
        kept = r.kept;
        within = r.within;
      }

-- what a part joins the station joins
station_from_part : (bonds_only : Bool) (d : Diagram) (v : List Bool) (part a b : ℕ) →
    Linked (JoinsIn bonds_only d v part) a b → Linked (Touching bonds_only d v) a b
station_from_part bonds_only d v part a b l = station_from_parts bonds_only d v a b
    (any_from_within (JoinsIn bonds_only d v) part a b l)

module _ (d : Diagram) (c : ℕ) (v w : List Bool) (h : SameFor d c v w) where
  -- the gap view of a part on what matters to c
  gap : (part : ℕ) → SameGapView (MattersTo d c part) (OfPart d part) d v w
  gap part = elim (cases_eq part c) [
    | inl e ↦ subst (λ p. SameGapView (MattersTo d c p) (OfPart d p) d v w) (sym e)
        (SameGapView-positions (MattersTo d c c) (OfPart d c) d v w h.own)
    | inr ne ↦
        let g : SameGapView (IsShared d part) (OfPart d part) d v w = (h.others part ne).gap in
        let shared : (n : ℕ) → MattersTo d c part n → IsShared d part n =
        λ n k. elim k.why [ inl e ↦ absurd (ne e) | inr s ↦ s ] in
        record {
          coupled = λ a b ka kb. g.coupled a b (shared a ka) (shared b kb);
          energisable = λ a ka. g.energisable a (shared a ka);
          earthable = λ a ka. g.earthable a (shared a ka);
        }
  ]

  load : (part : ℕ) → SameLoadView (MattersTo d c part) (OfPart d part) d v w
  load part = elim (cases_eq part c) [
    | inl e ↦ subst (λ p. SameLoadView (MattersTo d c p) (OfPart d p) d v w) (sym e)
        (SameLoadView-positions (MattersTo d c c) (OfPart d c) d v w h.own)
    | inr ne ↦
        let g : SameLoadView (IsShared d part) (OfPart d part) d v w = (h.others part ne).load in
        let shared : (n : ℕ) → MattersTo d c part n → IsShared d part n =
        λ n k. elim k.why [ inl e ↦ absurd (ne e) | inr s ↦ s ] in
        record {
          joined = λ a b ka kb. g.joined a b (shared a ka) (shared b kb);
          bonded = λ a b ka kb. g.bonded a b (shared a ka) (shared b kb);
          supply = λ a ka s. g.supply a (shared a ka) s;
        }
  ]

  part_coupled : (part a b : ℕ) → MattersTo d c part a → MattersTo d c part b →
      Linked (JoinsIn false d (with_breakers_closed d v) part) a b →
      Linked (JoinsIn false d (with_breakers_closed d w) part) a b
  part_coupled part a b ka kb = ((gap part).coupled a b ka kb).0

  part_joined : (part a b : ℕ) → MattersTo d c part a → MattersTo d c part b → Linked (JoinsIn false d v part) a b →
      Linked (JoinsIn false d w part) a b
  part_joined part a b ka kb = ((load part).joined a b ka kb).0

  part_bonded : (part a b : ℕ) → MattersTo d c part a → MattersTo d c part b → Linked (JoinsIn true d v part) a b →
      Linked (JoinsIn true d w part) a b
  part_bonded part a b ka kb = ((load part).bonded a b ka kb).0

  -- at nodes of c
  bonded_alike : (a b : ℕ) → MattersTo d c c a → MattersTo d c c b → Bonded d v a b → Bonded d w a b
  bonded_alike a b ka kb = links_same d c true v w part_bonded c c a b ka kb

  coupled_to_alike : (kind : Kind) → ((part n : ℕ) → MattersTo d c part n → (m : ℕ) × CoupledBy (OfPart d part) d v n m
      × ClosedAtBy (OfPart d part) d v kind m → (m : ℕ) × CoupledBy (OfPart d part) d w n m
      × ClosedAtBy (OfPart d part) d w kind m) → (a : ℕ) → MattersTo d c c a → (m : ℕ) × Coupled d v a m
      × ClosedAt d v kind m → (m : ℕ) × Coupled d w a m × ClosedAt d w kind m
  coupled_to_alike kind in_part a ka (m, l, at) =
      let part : ℕ = at.switch.bay.0 in
      let here : ClosedAtBy (OfPart d part) d v kind m = record { at = at; among = (at.switch, at.listed, refl) } in
      let e : LastStretch d c false (with_breakers_closed d v) (with_breakers_closed d w) part_coupled part a m =
      ends_in d c false (with_breakers_closed d v) (with_breakers_closed d w) part_coupled c part a m ka
      (closed_touches (OfPart d part) d v kind m here) l in
      let there = in_part part e.last e.kept (m, e.within, here) in (
        there.0,
        linked_trans (Touching false d (with_breakers_closed d w)) a e.last there.0 e.before_it
            (station_from_part false d (with_breakers_closed d w) part e.last there.0 there.1),
        there.2.at,
      )

  energisable_alike : (a : ℕ) → MattersTo d c c a → Energisable d v a → Energisable d w a
  energisable_alike = coupled_to_alike Infeed (λ part n k. ((gap part).energisable n k).0)

  earthable_alike : (a : ℕ) → MattersTo d c c a → Earthable d v a → Earthable d w a
  earthable_alike = coupled_to_alike Earthing (λ part n k. ((gap part).earthable n k).0)

  live_alike : (a : ℕ) → MattersTo d c c a → Live d v a → Live d w a
  live_alike a ka (m, l, at) =
      let part : ℕ = at.switch.bay.0 in
      let here : ClosedAtBy (OfPart d part) d v Infeed m = record { at = at; among = (at.switch, at.listed, refl) } in
      let e : LastStretch d c false v w part_joined part a m = ends_in d c false v w part_joined c part a m ka
      (closed_touches (OfPart d part) d v Infeed m here) l in
      let there : FedBy (OfPart d part) d w e.last = ((load part).supply e.last e.kept fed).0 (m, e.within, here) in (
        there.0,
        linked_trans (Touching false d w) a e.last there.0 e.before_it (station_from_part false d w part e.last
            there.0 there.1),
        there.2.at,
      )

  quiet_alike : InfeedsTapped d → (a : ℕ) → MattersTo d c c a → Quiet d w a → Quiet d v a
  quiet_alike infeeds a ka quiet m (i, x, listed, at) l =
      let part : ℕ = x.part.0 in
      let here : HasTapBy (OfPart d part) d m = record {
        number = i;
        tap = x;
        listed = listed;
        stands = at;
        among = (x, listed, refl);
      } in
      let e : LastStretch d c false v w part_joined part a m = ends_in d c false v w part_joined c part a m ka
      (tap_touches (OfPart d part) d m here) l in
      let joins : (n : ℕ) → Linked (JoinsIn false d w part) e.last n → Joined d w a n =
      λ n k. linked_trans (Touching false d w) a e.last n e.before_it (station_from_part false d w part e.last n k) in
      let not_fed : ¬ FedBy (OfPart d part) d w e.last =
      λ (n, k, infeed). quiet n (let there : HasTap d infeed.at.switch.first.0 =
      infeeds infeed.at.number infeed.at.switch infeed.at.listed infeed.at.is_kind in
      subst (λ p. HasTap d p) infeed.at.stands there) (joins n k) in
      let was_not_fed : ¬ FedBy (OfPart d part) d v e.last =
      λ was. not_fed (((load part).supply e.last e.kept fed).0 was) in
      let there : SupplyBy (OfPart d part) d w e.last tapped = ((load part).supply e.last e.kept tapped).0
      (was_not_fed, (m, e.within, here)) in
      let tap : HasTapBy (OfPart d part) d there.1.0 = there.1.2 in
      quiet there.1.0 (tap.number, tap.tap, tap.listed, tap.stands) (joins there.1.0 there.1.1)

SameFor-sym : (d : Diagram) (c : ℕ) (v w : List Bool) → SameFor d c v w → SameFor d c w v
SameFor-sym d c v w h = record {
  own = SamePositions-sym (OfPart d c) v w h.own;
  others = λ part ne. record {
    gap = SameGapView-sym (IsShared d part) (OfPart d part) d v w (h.others part ne).gap;
    load = SameLoadView-sym (IsShared d part) (OfPart d part) d v w (h.others part ne).load;
  };
}

-- where a switch of c is moved alike in both, they stay the same for c
SameFor-moved : (d : Diagram) (c : ℕ) (v w : List Bool) (i : ℕ) (b : Bool) → OfPart d c (a_switch i) → SameFor d c v w →
    SameFor d c (slice_set v i b) (slice_set w i b)
SameFor-moved d c v w i b of_c h =
    let stays : (u : List Bool) (j : ℕ) → j ≢ i → slice_get (slice_set u i b) j ≡ slice_get u j =
    λ u j ne. slice_get-set_other u i j b ne in
    let elsewhere : (part : ℕ) → part ≢ c → (u : List Bool) → SamePositions (OfPart d part) (slice_set u i b) u =
    λ part ne u j of_p. stays u j
    (λ e. ne (one_part d part c i (subst (λ k. OfPart d part (a_switch k)) e of_p) of_c)) in
    record {
      own = λ j of_j. elim (cases_eq j i) [
        | inl e ↦ subst (λ k. slice_get (slice_set v i b) k ≡ slice_get (slice_set w i b) k) (sym e)
            (slice_get-set_both v w i b (h.own i of_c))
        | inr ne ↦ stays v j ne ∙ h.own j of_j ∙ sym (stays w j ne)
      ];
      others = λ part ne.
          let K = IsShared d part in
          let I = OfPart d part in
          let v1 : List Bool = slice_set v i b in
          let w1 : List Bool = slice_set w i b in
          record {
            gap = SameGapView-trans K I d v1 v w1 (SameGapView-positions K I d v1 v (elsewhere part ne v))
                (SameGapView-trans K I d v w w1 (h.others part ne).gap
                (SameGapView-sym K I d w1 w (SameGapView-positions K I d w1 w (elsewhere part ne w))));
            load = SameLoadView-trans K I d v1 v w1 (SameLoadView-positions K I d v1 v (elsewhere part ne v))
                (SameLoadView-trans K I d v w w1 (h.others part ne).load
                (SameLoadView-sym K I d w1 w (SameLoadView-positions K I d w1 w (elsewhere part ne w))));
          };
    }

-- the ends of the moved switch matter to its bay
first_matters : (d : Diagram) (c : ℕ) (op : Op) (x : Switch) → OfPart d c (a_switch op.switch.0) → Moves d op x →
    MattersTo d c c x.first.0
first_matters d c op x of_c moves = record {
  here = record {
    item = a_switch op.switch.0;
    among = of_c;
    touches =
        (x, moves, inl refl);
  };
  why = inl refl;
}

second_matters : (d : Diagram) (c : ℕ) (op : Op) (x : Switch) (n : NodeId) → OfPart d c (a_switch op.switch.0) →
    Moves d op x → x.second ≡ Some n → MattersTo d c c n.0
second_matters d c op x n of_c moves e = record {
  here = record {
    item = a_switch op.switch.0;
    among = of_c;
    touches =
        (x, moves, inr (n, e, refl));
  };
  why = inl refl;
}

module _ (d : Diagram) (infeeds : InfeedsTapped d) (c : ℕ) (op : Op) (of_c : OfPart d c (a_switch op.switch.0)) where
  applies_alike : (v w : List Bool) → SameFor d c v w → (rule : Rule) → Applies rule d v op → Applies rule d w op
  applies_alike v w h R1 b = record {
    switch = b.switch;
    moves = b.moves;
    closes = b.closes;
    is_earthing = b.is_earthing;
    energisable = energisable_alike d c (before v op) (before w op) (SameFor-moved d c v w op.switch.0 false of_c h)
        b.switch.first.0 (first_matters d c op b.switch of_c b.moves) b.energisable;
  }
  applies_alike v w h R2 (inl b) =
      let s = SameFor-moved d c v w op.switch.0 true of_c h in
      let k = first_matters d c op b.switch of_c b.moves in
      inl (record {
        switch = b.switch;
        moves = b.moves;
        closes = b.closes;
        is_two_ended = b.is_two_ended;
        energisable = energisable_alike d c (after v op) (after w op) s b.switch.first.0 k b.energisable;
        earthable = earthable_alike d c (after v op) (after w op) s b.switch.first.0 k b.earthable;
      })
  applies_alike v w h R2 (inr b) = inr (record {
    switch = b.switch;
    moves = b.moves;
    closes = b.closes;
    is_infeed = b.is_infeed;
    earthable = earthable_alike d c (before v op) (before w op) (SameFor-moved d c v w op.switch.0 false of_c h)
        b.switch.first.0 (first_matters d c op b.switch of_c b.moves) b.earthable;
  })
  applies_alike v w h R3 b =
      let s = SameFor-moved d c v w op.switch.0 false of_c h in
      let v0 : List Bool = before v op in
      let w0 : List Bool = before w op in
      let k = first_matters d c op b.switch of_c b.moves in
      let j = second_matters d c op b.switch b.second of_c b.moves b.has_second in
      record {
        switch = b.switch;
        second = b.second;
        moves = b.moves;
        is_disconnector = b.is_disconnector;
        has_second = b.has_second;
        load = record {
          live = elim b.load.live [
            | inl l ↦ inl (live_alike d c v0 w0 s b.switch.first.0 k l)
            | inr l ↦ inr (live_alike d c v0 w0 s b.second.0 j l)
          ];
          first_loaded = λ q. b.load.first_loaded (quiet_alike d c v0 w0 s infeeds b.switch.first.0 k q);
          second_loaded = λ q. b.load.second_loaded (quiet_alike d c v0 w0 s infeeds b.second.0 j q);
          not_bonded = λ l. b.load.not_bonded (bonded_alike d c w0 v0 (SameFor-sym d c v0 w0 s) b.switch.first.0
              b.second.0 k j l);
        };
      }

  breaks_alike : (v w : List Bool) → SameFor d c v w → (answer : Option Rule) → Breaks d v op answer →
      Breaks d w op answer
  breaks_alike v w h None b =
      let s = SameFor-sym d c v w h in
      (λ a. b.0 (applies_alike w v s R1 a), λ a. b.1 (applies_alike w v s R2 a), λ a. b.2 (applies_alike w v s R3 a))
  breaks_alike v w h (Some R1) b = applies_alike v w h R1 b
  breaks_alike v w h (Some R2) b =
      let s = SameFor-sym d c v w h in
      (λ a. b.0 (applies_alike w v s R1 a), applies_alike v w h R2 b.1)
  breaks_alike v w h (Some R3) b =
      let s = SameFor-sym d c v w h in
      (λ a. b.0 (applies_alike w v s R1 a), λ a. b.1 (applies_alike w v s R2 a), applies_alike v w h R3 b.2)

-- THE LAW ON ALIKE POSITIONS
pub same_answers : (d : Diagram) (c : ℕ) (v w : List Bool) → IsStation d → SameFor d c v w → SameAnswers d c v w
same_answers d c v w station h op of_c answer = (
  breaks_alike d station.infeeds_tapped c op of_c v w h answer,
  breaks_alike d station.infeeds_tapped c op of_c w v (SameFor-sym d c v w h) answer,
)
