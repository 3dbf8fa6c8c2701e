-- What a release depends on, by the third rule alone, and by the second with the breakers held.
use Rattle.std.proofs.Common.{◌≡◌, ◌≢◌, ℕ, Bool, true, false, List, slice_get, Some}
use Rattle.std.proofs.Common.{sym, ap, ◌∙◌, inl, inr}
use Rattle.std.proofs.lemmas.Option.{same_Some}
use Rattle.ilk_base.specs.declared.words.Kind.TheVariants.{Breaker, Disconnector, Earthing, Infeed}
use Rattle.ilk_base.specs.declared.words.Op.{Op}
use Rattle.ilk_base.specs.declared.words.Rule.{Rule}
use Rattle.ilk_base.specs.declared.words.Rule.TheVariants.{R1, R2, R3}
use Rattle.station_graph.specs.declared.items.Switch.{Switch}
use Rattle.station_graph.specs.Diagram.{Diagram}
use Rattle.station_graph.specs.Connection.{SameButBreakers}
use Rattle.station_graph.specs.CentralRules.{LoadBreaks, Applies}
use Rattle.station_graph.proofs.GapLemmas.{none_parts, gap_parts, gap_same}
use Rattle.station_changes.specs.Covers.{Covers, NoEarth, Moves}
use Rattle.release_dependence.specs.Depends.{DependsOn, DifferAt, Turns, LoadTurns, TurnsAtEnd}
use Rattle.station_changes.proofs.LoadLemmas.{load_between, no_gap}
use Rattle.station_changes.proofs.EndLemmas.{at_end, not_third}
use Rattle.release_dependence.proofs.TurnLemmas.{turned, differ_turned, no_earth, no_earth_other}
use Rattle.release_dependence.proofs.TurnLemmas.{fewer_earthed, more_than_earthed, none_earthed}
use Rattle.release_dependence.proofs.TurnLemmas.{breakers_to, breakers_other, between_breakers, breakers_at}

-- an operation of a disconnector breaks neither of the first two rules where no earthing switch is closed
module _ (d : Diagram) (op : Op) (moves : Moves Disconnector d op) where
  pub not_first : (v : List Bool) → ¬ Applies R1 d v op
  not_first v h =
      let same : h.switch ≡ moves.switch = same_Some h.switch moves.switch (sym h.moves ∙ moves.listed) in
      let e : Earthing ≡ Disconnector =
      sym h.is_earthing ∙ (ap (λ (x : Switch). x.kind) same ∙ moves.is_kind) in
      cc e

  pub not_second : (v : List Bool) → NoEarth d v → ¬ Applies R2 d v op
  not_second v none h = elim h [
    | inl closing ↦ no_gap d v op none closing
    | inr feeding ↦
        let same : feeding.switch ≡ moves.switch =
        same_Some feeding.switch moves.switch (sym feeding.moves ∙ moves.listed) in
        let e : Infeed ≡ Disconnector =
        sym feeding.is_infeed ∙ (ap (λ (x : Switch). x.kind) same ∙ moves.is_kind) in
        cc e
  ]

-- vectors that differ in an earthing switch cover each other
earth_covers : (d : Diagram) (s : ℕ) (v w : List Bool) (x : Switch) → slice_get d.switches s ≡ Some x →
    x.kind ≡ Earthing → ((i : ℕ) → i ≢ s → slice_get v i ≡ slice_get w i) → Covers d v w
earth_covers d s v w x at e others i y listed ne closed =
    let apart : i ≢ s = λ same.
    let one : y ≡ x = same_Some y x (sym listed ∙ (ap (λ n. slice_get d.switches n) same ∙ at)) in
    ne (ap (λ (z : Switch). z.kind) one ∙ e) in
    sym (others i apart) ∙ closed

-- a switch that two vectors differ in is no earthing switch, where load differs
module _ (d : Diagram) (op : Op) (s : ℕ) (v w : List Bool) (h : DifferAt d s v w) where
  load_to : (x : Switch) → slice_get d.switches s ≡ Some x → x.kind ≡ Earthing → LoadBreaks d v op →
      LoadBreaks d w op
  load_to x at e load =
      load_between d v w v op (earth_covers d s v w x at e h.others)
      (earth_covers d s w v x at e (λ i ne. sym (h.others i ne))) load load

  load_back : (x : Switch) → slice_get d.switches s ≡ Some x → x.kind ≡ Earthing → LoadBreaks d w op →
      LoadBreaks d v op
  load_back x at e load =
      load_between d w v w op (earth_covers d s w v x at e (λ i ne. sym (h.others i ne)))
      (earth_covers d s v w x at e h.others) load load

  no_earthing : LoadTurns d op v w → (x : Switch) → slice_get d.switches s ≡ Some x → x.kind ≢ Earthing
  no_earthing (inl t) x at e = t.0 (load_back x at e t.1)
  no_earthing (inr t) x at e = t.1 (load_to x at e t.0)

-- load is the same with every earthing switch open
load_open : (d : Diagram) (op : Op) (v : List Bool) → LoadBreaks d v op → LoadBreaks d (turned no_earth d.switches v) op
load_open d op v h =
    load_between d v (turned no_earth d.switches v) v op (more_than_earthed d v) (fewer_earthed d v) h h

open_load : (d : Diagram) (op : Op) (v : List Bool) → LoadBreaks d (turned no_earth d.switches v) op → LoadBreaks d v op
open_load d op v h =
    load_between d (turned no_earth d.switches v) v (turned no_earth d.switches v) op (fewer_earthed d v)
    (more_than_earthed d v) h h

-- where load differs, the release does with every earthing switch open
load_turns : (d : Diagram) (op : Op) (v w : List Bool) → Moves Disconnector d op → LoadTurns d op v w →
    Turns d op R3 (turned no_earth d.switches v) (turned no_earth d.switches w)
load_turns d op v w moves (inl t) = inl (
  (
    not_first d op moves (turned no_earth d.switches v),
    not_second d op moves (turned no_earth d.switches v) (none_earthed d v),
    λ h. t.0 (open_load d op v h),
  ),
  (
    not_first d op moves (turned no_earth d.switches w),
    not_second d op moves (turned no_earth d.switches w) (none_earthed d w),
    load_open d op w t.1,
  ),
)
load_turns d op v w moves (inr t) = inr (
  (
    not_first d op moves (turned no_earth d.switches v),
    not_second d op moves (turned no_earth d.switches v) (none_earthed d v),
    load_open d op v t.0,
  ),
  (
    not_first d op moves (turned no_earth d.switches w),
    not_second d op moves (turned no_earth d.switches w) (none_earthed d w),
    λ h. t.1 (open_load d op w h),
  ),
)

pub depends_by_load : (d : Diagram) (op : Op) (s : ℕ) (v w : List Bool) → Moves Disconnector d op → DifferAt d s v w →
    LoadTurns d op v w → DependsOn d op s
depends_by_load d op s v w moves h turns =
    record {
      v = turned no_earth d.switches v;
      w = turned no_earth d.switches w;
      rule = R3;
      differ = differ_turned no_earth d s v w h
          (λ x at b. no_earth_other x.kind b (no_earthing d op s v w h turns x at));
      turns = load_turns d op v w moves turns;
    }

-- the rules but the second
turn_to_load : (d : Diagram) (op : Op) (v w : List Bool) → Turns d op R3 v w → LoadTurns d op v w
turn_to_load d op v w (inl t) = inl (t.0.2, t.1.2)
turn_to_load d op v w (inr t) = inr (t.0.2, t.1.2)

no_first_turn : (d : Diagram) (op : Op) (v w : List Bool) → Moves Disconnector d op → ¬ Turns d op R1 v w
no_first_turn d op v w moves (inl t) = not_first d op moves w t.1
no_first_turn d op v w moves (inr t) = not_first d op moves v t.0

-- a switch by which the second rule turns is no breaker
module _ (d : Diagram) (op : Op) (s : ℕ) (v w : List Bool) (h : DifferAt d s v w) where
  breaker_same : (x : Switch) → slice_get d.switches s ≡ Some x → x.kind ≡ Breaker → SameButBreakers d v w
  breaker_same x at e i other = h.others i (λ same. other x (ap (λ n. slice_get d.switches n) same ∙ at) e)

  same_breaker : (x : Switch) → slice_get d.switches s ≡ Some x → x.kind ≡ Breaker → SameButBreakers d w v
  same_breaker x at e i other = sym (h.others i (λ same. other x (ap (λ n. slice_get d.switches n) same ∙ at) e))

  no_breaker : Turns d op R2 v w → (x : Switch) → slice_get d.switches s ≡ Some x → x.kind ≢ Breaker
  no_breaker (inl t) x at e =
      ((none_parts d v op).0 t.0).0.1
      ((gap_parts d v op R2).0 (gap_same d w v op (Some R2) (h.second ∙ sym h.first) (same_breaker x at e)
      ((gap_parts d w op R2).1 (t.1, not_third)))).0.1
  no_breaker (inr t) x at e =
      ((none_parts d w op).0 t.1).0.1
      ((gap_parts d w op R2).0 (gap_same d v w op (Some R2) (h.first ∙ sym h.second) (breaker_same x at e)
      ((gap_parts d v op R2).1 (t.0, not_third)))).0.1

module _ (d : Diagram) (op : Op) (s : ℕ) (ends : (c : Bool) → ¬ TurnsAtEnd d op s c) (v w : List Bool)
    (h : DifferAt d s v w) where
  held : (c : Bool) → Turns d op R2 v w →
      Turns d op R2 (turned (breakers_to c) d.switches v) (turned (breakers_to c) d.switches w) → ⊥
  held c turns at = ends c (record {
    v = turned (breakers_to c) d.switches v;
    w = turned (breakers_to c) d.switches w;
    differ = differ_turned (breakers_to c) d s v w h
        (λ x is b. breakers_other c x.kind b (no_breaker d op s v w h turns x is));
    first_at = breakers_at d c v h.first;
    second_at = breakers_at d c w h.second;
    turns = at;
  })

  no_second_turn : ¬ Turns d op R2 v w
  no_second_turn (inl t) =
      at_end d d op op (turned (breakers_to false) d.switches v) (turned (breakers_to false) d.switches w) v w
      (turned (breakers_to true) d.switches v) (turned (breakers_to true) d.switches w) (between_breakers d v)
      (between_breakers d w) (λ x y. held false (inl t) (inl (x, y))) (λ x y. held true (inl t) (inl (x, y))) t.0 t.1
  no_second_turn (inr t) =
      at_end d d op op (turned (breakers_to false) d.switches w) (turned (breakers_to false) d.switches v) w v
      (turned (breakers_to true) d.switches w) (turned (breakers_to true) d.switches v) (between_breakers d w)
      (between_breakers d v) (λ x y. held false (inr t) (inr (y, x))) (λ x y. held true (inr t) (inr (y, x))) t.1 t.0

by_rule : (d : Diagram) (op : Op) (s : ℕ) → Moves Disconnector d op →
    ((v w : List Bool) → DifferAt d s v w → ¬ LoadTurns d op v w) → ((c : Bool) → ¬ TurnsAtEnd d op s c) →
    (rule : Rule) (v w : List Bool) → DifferAt d s v w → ¬ Turns d op rule v w
by_rule d op s moves load ends R1 v w h turns = no_first_turn d op v w moves turns
by_rule d op s moves load ends R2 v w h turns = no_second_turn d op s ends v w h turns
by_rule d op s moves load ends R3 v w h turns = load v w h (turn_to_load d op v w turns)

pub no_dependence : (d : Diagram) (op : Op) (s : ℕ) → Moves Disconnector d op →
    ((v w : List Bool) → DifferAt d s v w → ¬ LoadTurns d op v w) → ((c : Bool) → ¬ TurnsAtEnd d op s c) →
    ¬ DependsOn d op s
no_dependence d op s moves load ends h = by_rule d op s moves load ends h.rule h.v h.w h.differ h.turns
