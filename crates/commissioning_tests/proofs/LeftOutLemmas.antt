-- A controller that leaves out a rule that matters differs from the tests.
use Rattle.std.proofs.Common.{◌≡◌, ◌≢◌, ◌⊎◌, ℕ, zero, suc, ◌+◌, ◌<◌, Bool, true, false, List, [], ◌∷◌, length, get_or, slice_get}
use Rattle.std.proofs.Common.{slice_set, length-set, Option, Some, None, refl, sym, ap, ◌∙◌, subst, inl, inr, arith}
use Rattle.std.proofs.lemmas.Bool.{cases_Bool, cases_eq}
use Rattle.std.proofs.lemmas.Option.{same_Some, slice_get_within, slice_get-get_or}
use Rattle.ilk_base.specs.declared.words.Kind.{Kind}
use Rattle.ilk_base.specs.declared.words.Kind.TheVariants.{Breaker, Disconnector, Earthing, Infeed}
use Rattle.ilk_base.specs.declared.words.Op.{Op}
use Rattle.ilk_base.specs.declared.words.Rule.{Rule}
use Rattle.ilk_base.specs.declared.words.Rule.TheVariants.{R1, R2, R3}
use Rattle.station_graph.specs.declared.items.Switch.{Switch}
use Rattle.station_graph.specs.Diagram.{Diagram, IsStation, IsTwoEnded}
use Rattle.station_graph.specs.Alike.{IsVector}
use Rattle.station_graph.specs.CentralRules.{Applies, Breaks, IsOperation, LoadBreaks}
use Rattle.station_graph.proofs.PositionLemmas.{slice_get-set_other}
use Rattle.station_graph.proofs.SomeAnswer.{some_answer}
use Rattle.judge_intake.proofs.OtherLemmas.{element}
use Rattle.station_changes.specs.Covers.{Covers, Moves}
use Rattle.station_changes.proofs.LoadLemmas.{load_between}
use Rattle.release_dependence.specs.Depends.{DependsOn}
use Rattle.release_dependence.proofs.DependLemmas.{not_first, not_second}
use Rattle.release_dependence.proofs.TurnLemmas.{earth_or}
use Rattle.dependence_search.specs.Turning.{moved}
use Rattle.dependence_search.specs.RuleWalks.{OneIsNone}
use Rattle.dependence_search.proofs.DependLemmas.{moved_vector}
use Rattle.commissioning_tests.specs.declared.values.BayTests.{BayTests}
use Rattle.commissioning_tests.specs.Standing.{StandsFor}
use Rattle.commissioning_tests.specs.Covering.{RuleIsShown, TurnIsShown, AreTestsOf}
use Rattle.commissioning_tests.specs.Controllers.{Controller, Differs, LeavesOut, Matters}

-- ---- which rules apply to which switch

module _ (d : Diagram) (v : List Bool) (op : Op) (x : Switch) (at : slice_get d.switches op.switch.0 ≡ Some x) where
  same_switch : (y : Switch) → slice_get d.switches op.switch.0 ≡ Some y → y.kind ≡ x.kind
  same_switch y there = ap (λ (z : Switch). z.kind) (same_Some y x (sym there ∙ at))

  first_earthing : Applies R1 d v op → x.kind ≡ Earthing
  first_earthing h = sym (same_switch h.switch h.moves) ∙ h.is_earthing

  second_other : Applies R2 d v op → (IsTwoEnded x.kind) ⊎ (x.kind ≡ Infeed)
  second_other (inl h) = inl (subst (λ k. IsTwoEnded k) (same_switch h.switch h.moves) h.is_two_ended)
  second_other (inr h) = inr (sym (same_switch h.switch h.moves) ∙ h.is_infeed)

  third_disconnector : Applies R3 d v op → x.kind ≡ Disconnector
  third_disconnector h = sym (same_switch h.switch h.moves) ∙ h.is_disconnector

not_earthing : (k : Kind) → k ≡ Earthing → (IsTwoEnded k) ⊎ (k ≡ Infeed) → ⊥
not_earthing Breaker e h = cc e
not_earthing Disconnector e h = cc e
not_earthing Earthing e (inl h) = absurd h
not_earthing Earthing e (inr h) = cc h
not_earthing Infeed e h = cc e

-- where the first rule applies no other does
first_alone : (d : Diagram) (v w : List Bool) (op : Op) → Applies R1 d v op → (other : Rule) → other ≢ R1 →
    ¬ Applies other d w op
first_alone d v w op h R1 ne there = ne refl
first_alone d v w op h R2 ne there =
    not_earthing h.switch.kind h.is_earthing (second_other d w op h.switch h.moves there)
first_alone d v w op h R3 ne there =
    let e : Disconnector ≡ Earthing = sym (third_disconnector d w op h.switch h.moves there) ∙ h.is_earthing in
    cc e

-- ---- an earthing switch on which the second rule makes the release depend

earth_covers : (d : Diagram) (s : ℕ) (v w : List Bool) (x : Switch) → slice_get d.switches s ≡ Some x →
    x.kind ≡ Earthing → ((i : ℕ) → i ≢ s → slice_get v i ≡ slice_get w i) → Covers d v w
earth_covers d s v w x at e others i y listed ne closed =
    let apart : i ≢ s = λ same.
    let one : y ≡ x = same_Some y x (sym listed ∙ (ap (λ n. slice_get d.switches n) same ∙ at)) in
    ne (ap (λ (z : Switch). z.kind) one ∙ e) in
    sym (others i apart) ∙ closed

-- the third rule does not look at an earthing switch
pub load_stays : (d : Diagram) (op : Op) (s : ℕ) (v w : List Bool) (x : Switch) → slice_get d.switches s ≡ Some x →
    x.kind ≡ Earthing → ((i : ℕ) → i ≢ s → slice_get v i ≡ slice_get w i) → LoadBreaks d v op → LoadBreaks d w op
load_stays d op s v w x at e others load =
    load_between d v w v op (earth_covers d s v w x at e others)
    (earth_covers d s w v x at e (λ i ne. sym (others i ne))) load load

-- the release depends on an earthing switch
pub record DependsOnEarth (d : Diagram) (op : Op) : Type 0 where
  pub number : ℕ
  pub switch : Switch
  pub listed : slice_get d.switches number ≡ Some switch
  pub is_earthing : switch.kind ≡ Earthing
  pub depends : DependsOn d op number

-- the earthing switches before this one are open
abbrev OpenUpto : Diagram → ℕ → List Bool → Type 0
OpenUpto d i v = (j : ℕ) (x : Switch) → j < i → slice_get d.switches j ≡ Some x → x.kind ≡ Earthing →
    slice_get v j ≢ Some true

one_more_open : (d : Diagram) (i : ℕ) (v : List Bool) → OpenUpto d i v →
    ((x : Switch) → slice_get d.switches i ≡ Some x → x.kind ≡ Earthing → slice_get v i ≢ Some true) →
    OpenUpto d (suc i) v
one_more_open d i v before here j x lt at e closed = elim (cases_eq j i) [
  | inl same ↦
      here x (subst (λ (n : ℕ). slice_get d.switches n ≡ Some x) same at) e
      (subst (λ (n : ℕ). slice_get v n ≡ Some true) same closed)
  | inr other ↦ before j x (omega (arith, lt, other)) at e closed
]

one_opened : (d : Diagram) (i : ℕ) (v w : List Bool) → OpenUpto d i v →
    ((j : ℕ) → j ≢ i → slice_get w j ≡ slice_get v j) → slice_get w i ≡ Some false → OpenUpto d (suc i) w
one_opened d i v w before others opened j x lt at e closed = elim (cases_eq j i) [
  | inl same ↦
      let both : Some false ≡ Some true = sym opened ∙ (ap (slice_get w) (sym same) ∙ closed) in
      cc both
  | inr other ↦ before j x (omega (arith, lt, other)) at e (sym (others j other) ∙ closed)
]

set_same : (v : List Bool) (i : ℕ) (b : Bool) → i < length v → slice_get (slice_set v i b) i ≡ Some b
set_same [] i b lt = absurd (omega (arith, lt))
set_same (x ∷ v) zero b lt = refl
set_same (x ∷ v) (suc i) b lt = set_same v i b (omega (arith, lt))

module _ (d : Diagram) (station : IsStation d) (op : Op) (moves : Moves Disconnector d op) where
  -- with one more earthing switch open, either the release turned or it is as before
  module _ (i : ℕ) (v w : List Bool) (x : Switch) (at : slice_get d.switches i ≡ Some x) (e : x.kind ≡ Earthing)
      (vector : IsVector d v) (long : IsVector d w) (breaks : Breaks d v op (Some R2)) (load : ¬ LoadBreaks d v op)
      (others : (j : ℕ) → j ≢ i → slice_get w j ≡ slice_get v j) (closed : slice_get v i ≡ Some true)
      (opened : slice_get w i ≡ Some false)
      (later : Breaks d w op (Some R2) → ¬ LoadBreaks d w op → DependsOnEarth d op) where
    by_answer : (answer : Option Rule) → Breaks d w op answer → DependsOnEarth d op
    by_answer None released = record {
      number = i;
      switch = x;
      listed = at;
      is_earthing = e;
      depends = record {
        v = w;
        w = v;
        rule = R2;
        differ = record { first = long; second = vector; opened = opened; closed = closed; others = others };
        turns = inl (released, breaks);
      };
    }
    by_answer (Some R1) there = absurd (not_first d op moves w there)
    by_answer (Some R2) there = later there (λ l. load (load_stays d op i w v x at e others l))
    by_answer (Some R3) there = absurd (load (load_stays d op i w v x at e others there.2))

  earth_turns : (k i : ℕ) (v : List Bool) → i + k ≡ length d.switches → IsVector d v → Breaks d v op (Some R2) →
      ¬ LoadBreaks d v op → OpenUpto d i v → DependsOnEarth d op
  earth_turns zero i v all vector breaks load before =
      absurd (not_second d op moves v
      (λ j x at e closed. before j x (omega (arith, slice_get_within d.switches j x at, all)) at e closed) breaks.1)
  earth_turns (suc k) i v all vector breaks load before =
      let next : suc i + k ≡ length d.switches = omega (arith, all) in
      let lt : i < length v = omega (arith, all, vector) in
      let read : slice_get v i ≡ Some (get_or v i false) = slice_get-get_or v i false lt in
      let (x, at) = element d.switches i (omega (arith, all)) in
      elim (earth_or x.kind) [
        | inr other ↦
            earth_turns k (suc i) v next vector breaks load
            (one_more_open d i v before
            (λ y there e closed. other (ap (λ (z : Switch). z.kind) (same_Some x y (sym at ∙ there)) ∙ e)))
        | inl earthing ↦ elim (cases_Bool (get_or v i false)) [
          | inr free ↦
              earth_turns k (suc i) v next vector breaks load
              (one_more_open d i v before
              (λ y there e closed.
              let both : false ≡ true = sym free ∙ same_Some (get_or v i false) true (sym read ∙ closed) in
              cc both))
          | inl closed ↦
              let w : List Bool = slice_set v i false in
              let long : IsVector d w = length-set v i false ∙ vector in
              let others : (j : ℕ) → j ≢ i → slice_get w j ≡ slice_get v j =
              λ j ne. slice_get-set_other v i j false ne in
              let opened : slice_get w i ≡ Some false = set_same v i false lt in
              let answered =
              some_answer d w op station long (slice_get_within d.switches op.switch.0 moves.switch moves.listed) in
              by_answer i v w x at earthing vector long breaks load others (read ∙ ap Some closed) opened
              (λ b l. earth_turns k (suc i) w next long b l (one_opened d i v w before others opened)) answered.0
              answered.1
        ]
      ]

  pub earth_matters : (v : List Bool) → IsVector d v → Breaks d v op (Some R2) → ¬ LoadBreaks d v op →
      DependsOnEarth d op
  earth_matters v vector breaks load =
      let all : 0 + length d.switches ≡ length d.switches = omega arith in
      earth_turns (length d.switches) 0 v all vector breaks load
      (λ j x lt at e closed. absurd (omega (arith, lt)))

-- ---- what the tests then show

-- a switch that stands for an earthing switch is one
stand_earthing : (d : Diagram) (first count s t : ℕ) (x : Switch) → StandsFor d first count s t →
    slice_get d.switches s ≡ Some x → x.kind ≡ Earthing →
    (y : Switch) × (slice_get d.switches t ≡ Some y) × (y.kind ≡ Earthing)
stand_earthing d first count s t x (inl same) at e = (x, subst (λ (n : ℕ). slice_get d.switches n ≡ Some x) same at, e)
stand_earthing d first count s t x (inr h) at e =
    let there = h.exchange.switches s x at in (
      there.switch,
      subst (λ (n : ℕ). slice_get d.switches n ≡ Some there.switch) h.carries there.listed,
      there.same.kind ∙ e,
    )

module _ (d : Diagram) (bay : ℕ) (t : BayTests) (are : AreTestsOf d bay t) (k : ℕ) (op : Op)
    (at : slice_get t.operations.items k ≡ Some op) (within : IsOperation d op) (releases : Controller) where
  -- a line that shows a rule in a vector in which no other applies
  rule_differs : (rule : Rule) → LeavesOut d rule releases → RuleIsShown t.positions.items k rule →
      ((v : List Bool) → Breaks d v op (Some rule) → (other : Rule) → other ≢ rule → ¬ Applies other d v op) →
      Differs releases t
  rule_differs rule leaves shown alone =
      let p = are.tests.positions shown.place shown.position shown.at in
      let v : List Bool = shown.position.closed.items in
      let says : releases op v ≡ true =
      (leaves op v within p.vector).1 (alone v (p.answers.each k op (Some rule) at shown.answer)) in
      record {
        place = shown.place;
        position = shown.position;
        at = shown.at;
        there = inl (record {
          number = k;
          op = op;
          answer = Some rule;
          at = at;
          answer_at = shown.answer;
          differs = λ e. let both : true ≡ false = sym says ∙ e in cc both;
        });
      }

  module _ (moves : Moves Disconnector d op) (leaves : LeavesOut d R2 releases) where
    -- it releases where the third rule does not apply
    says_released : (v : List Bool) → IsVector d v → ¬ LoadBreaks d v op → releases op v ≡ true
    says_released v vector load = (leaves op v within vector).1 alone
      where
        alone : (other : Rule) → other ≢ R2 → ¬ Applies other d v op
        alone R1 ne h = not_first d op moves v h
        alone R2 ne h = ne refl
        alone R3 ne h = load h

    turn_differs : (s : ℕ) (x : Switch) → slice_get d.switches s ≡ Some x → x.kind ≡ Earthing →
        TurnIsShown t.positions.items k s → Differs releases t
    turn_differs s x at_s e shown =
        let p = are.tests.positions shown.place shown.position shown.at in
        let m = p.moves shown.turn.number shown.turn.move shown.turn.at in
        let v : List Bool = shown.position.closed.items in
        let w : List Bool = moved shown.turn.move.switch.0 v in
        let number : shown.turn.move.switch.0 ≡ s = shown.turn.switch in
        let others : (i : ℕ) → i ≢ s → slice_get v i ≡ slice_get w i =
        λ i ne. sym (slice_get-set_other v shown.turn.move.switch.0 i _ (λ same. ne (same ∙ number))) in
        let turns = shown.turn.turns in
        by_turn shown turns.one turns.other turns.one_at turns.other_at
        (p.answers.each k op turns.one at turns.one_at) (m.answers_are.each k op turns.other at turns.other_at)
        (λ l. load_stays d op s v w x at_s e others l)
        (λ l. load_stays d op s w v x at_s e (λ i ne. sym (others i ne)) l) turns.turned
      where
        by_turn : (shown : TurnIsShown t.positions.items k s) (one other : Option Rule) →
            slice_get shown.position.answers.items k ≡ Some one →
            slice_get shown.turn.move.answers.items k ≡ Some other → Breaks d shown.position.closed.items op one →
            Breaks d (moved shown.turn.move.switch.0 shown.position.closed.items) op other →
            (LoadBreaks d shown.position.closed.items op →
            LoadBreaks d (moved shown.turn.move.switch.0 shown.position.closed.items) op) →
            (LoadBreaks d (moved shown.turn.move.switch.0 shown.position.closed.items) op →
            LoadBreaks d shown.position.closed.items op) → OneIsNone one other → Differs releases t
        by_turn shown None None one_at other_at bv bw to back (inl both) = absurd (both.1 refl)
        by_turn shown None None one_at other_at bv bw to back (inr both) = absurd (both.0 refl)
        by_turn shown (Some r) (Some q) one_at other_at bv bw to back (inl both) = cc (both.0)
        by_turn shown (Some r) (Some q) one_at other_at bv bw to back (inr both) = cc (both.1)
        by_turn shown None (Some r) one_at other_at bv bw to back both =
            let v : List Bool = shown.position.closed.items in
            let w : List Bool = moved shown.turn.move.switch.0 v in
            let p = are.tests.positions shown.place shown.position shown.at in
            let says : releases op w ≡ true =
            says_released w (moved_vector d shown.turn.move.switch.0 v p.vector) (λ l. bv.2 (back l)) in
            record {
              place = shown.place;
              position = shown.position;
              at = shown.at;
              there = inr (record {
                number = shown.turn.number;
                move = shown.turn.move;
                at = shown.turn.at;
                differs = record {
                  number = k;
                  op = op;
                  answer = Some r;
                  at = at;
                  answer_at = other_at;
                  differs = λ e. let both : true ≡ false = sym says ∙ e in cc both;
                };
              });
            }
        by_turn shown (Some r) None one_at other_at bv bw to back both =
            let v : List Bool = shown.position.closed.items in
            let p = are.tests.positions shown.place shown.position shown.at in
            let says : releases op v ≡ true = says_released v p.vector (λ l. bw.2 (to l)) in
            record {
              place = shown.place;
              position = shown.position;
              at = shown.at;
              there = inl (record {
                number = k;
                op = op;
                answer = Some r;
                at = at;
                answer_at = one_at;
                differs = λ e. let both : true ≡ false = sym says ∙ e in cc both;
              });
            }

    disconnector_differs : IsStation d → Matters d op R2 → Differs releases t
    disconnector_differs station m =
        let breaks : Breaks d m.v op (Some R2) = (not_first d op moves m.v, m.applies) in
        let earth =
        earth_matters d station op moves m.v m.vector breaks (m.alone R3 (λ e. cc e)) in
        let turn = are.tests.turns k earth.number op at earth.depends in
        let (y, at_y, e) =
        stand_earthing d are.first are.count earth.number turn.stand earth.switch turn.stands earth.listed
        earth.is_earthing in
        turn_differs turn.stand y at_y e turn.shown

  -- a switch that is no disconnector
  other_differs : (x : Switch) → slice_get d.switches op.switch.0 ≡ Some x → x.kind ≢ Disconnector →
      LeavesOut d R2 releases → Matters d op R2 → Differs releases t
  other_differs x at_x other leaves m =
      rule_differs R2 leaves (are.tests.rules k op R2 m.v at m.vector (m.alone R1 (λ e. cc e), m.applies)) alone
    where
      alone : (v : List Bool) → Breaks d v op (Some R2) → (rule : Rule) → rule ≢ R2 → ¬ Applies rule d v op
      alone v breaks R1 ne h = breaks.0 h
      alone v breaks R2 ne h = ne refl
      alone v breaks R3 ne h = other (third_disconnector d v op x at_x h)

disconnector_or : (k : Kind) → (k ≡ Disconnector) ⊎ (k ≢ Disconnector)
disconnector_or Breaker = inr (λ e. cc e)
disconnector_or Disconnector = inl refl
disconnector_or Earthing = inr (λ e. cc e)
disconnector_or Infeed = inr (λ e. cc e)

module _ (d : Diagram) (bay : ℕ) (t : BayTests) (station : IsStation d) (are : AreTestsOf d bay t) (k : ℕ) (op : Op)
    (at : slice_get t.operations.items k ≡ Some op) (releases : Controller) where
  within_by : (x : Switch) → slice_get d.switches op.switch.0 ≡ Some x → IsOperation d op
  within_by x there = slice_get_within d.switches op.switch.0 x there

  first_left_out : LeavesOut d R1 releases → Matters d op R1 → Differs releases t
  first_left_out leaves m =
      rule_differs d bay t are k op at (within_by m.applies.switch m.applies.moves) releases R1 leaves
      (are.tests.rules k op R1 m.v at m.vector m.applies)
      (λ v breaks. first_alone d v v op breaks)

  third_left_out : LeavesOut d R3 releases → Matters d op R3 → Differs releases t
  third_left_out leaves m =
      rule_differs d bay t are k op at (within_by m.applies.switch m.applies.moves) releases R3 leaves
      (are.tests.rules k op R3 m.v at m.vector (m.alone R1 (λ e. cc e), m.alone R2 (λ e. cc e), m.applies)) alone
    where
      alone : (v : List Bool) → Breaks d v op (Some R3) → (rule : Rule) → rule ≢ R3 → ¬ Applies rule d v op
      alone v breaks R1 ne h = breaks.0 h
      alone v breaks R2 ne h = breaks.1 h
      alone v breaks R3 ne h = ne refl

  second_by : (x : Switch) → slice_get d.switches op.switch.0 ≡ Some x → LeavesOut d R2 releases → Matters d op R2 →
      Differs releases t
  second_by x there leaves m = elim (disconnector_or x.kind) [
    | inl is ↦
        disconnector_differs d bay t are k op at (within_by x there) releases
        (record { switch = x; listed = there; is_kind = is }) leaves station m
    | inr other ↦ other_differs d bay t are k op at (within_by x there) releases x there other leaves m
  ]

  second_left_out : LeavesOut d R2 releases → (m : Matters d op R2) → Differs releases t
  second_left_out leaves m = elim m.applies [
    | inl h ↦ second_by h.switch h.moves leaves m
    | inr h ↦ second_by h.switch h.moves leaves m
  ]

  pub left_out_differs : (rule : Rule) → LeavesOut d rule releases → Matters d op rule → Differs releases t
  left_out_differs R1 leaves m = first_left_out leaves m
  left_out_differs R2 leaves m = second_left_out leaves m
  left_out_differs R3 leaves m = third_left_out leaves m
