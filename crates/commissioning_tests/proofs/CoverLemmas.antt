-- What added positions show.
use Rattle.std.proofs.Common.{◌≡◌, ◌⊎◌, ℕ, ◌+◌, ◌*◌, ◌<◌, Bool, List, [], ◌∷◌, length, slice_get, get_or, Option, Some, None, sym, ap}
use Rattle.std.proofs.Common.{◌∙◌, subst, inl, inr, arith}
use Rattle.std.proofs.lemmas.Option.{same_Some, slice_get_within, slice_get-get_or}
use Rattle.ilk_base.specs.declared.words.Op.{Op}
use Rattle.ilk_base.specs.declared.words.Rule.{Rule}
use Rattle.station_graph.specs.Diagram.{Diagram}
use Rattle.station_graph.specs.CentralRules.{Breaks}
use Rattle.station_graph.proofs.AnswerLemmas.{same_answer}
use Rattle.station_graph.proofs.PathLemmas.{slice_get-push}
use Rattle.station_graph.specs.Connection.{a_switch}
use Rattle.release_dependence.specs.Depends.{DependsOn, Turns}
use Rattle.step_graphs.specs.declared.step.Step.{Step}
use Rattle.station_joints.specs.Together.{AreJointSteps}
use Rattle.dependence_search.proofs.LoneLemmas.{IsLone, lone_of, lone_released, lone_unbroken}
use Rattle.dependence_search.specs.Turning.{IsTurning}
use Rattle.commissioning_tests.specs.declared.values.TestPosition.{TestPosition}
use Rattle.commissioning_tests.specs.Answering.{IsPosition, ArePositions}
use Rattle.decision_graphs.specs.Reaching.{IsSet}
use Rattle.commissioning_tests.specs.Covering.{TurnIsShown, RuleIsShown}
use Rattle.commissioning_tests.specs.Growing.{IsAdded, Grows, AreMore, IsCovered, AreCovered}
use Rattle.commissioning_tests.proofs.MoveLemmas.{still, new_last}

-- ---- what is shown stays shown

pub turn_grows : (ps qs : List TestPosition) (k s : ℕ) → Grows ps qs → TurnIsShown ps k s → TurnIsShown qs k s
turn_grows ps qs k s grows t = record {
  place = t.place;
  position = t.position;
  at = grows t.place t.position t.at;
  turn = t.turn;
}

pub rule_grows : (ps qs : List TestPosition) (k : ℕ) (rule : Rule) → Grows ps qs → RuleIsShown ps k rule →
    RuleIsShown qs k rule
rule_grows ps qs k rule grows t = record {
  place = t.place;
  position = t.position;
  at = grows t.place t.position t.at;
  answer = t.answer;
}

pub more_none : (d : Diagram) (ops : List Op) (ps : List TestPosition) → ArePositions d ops ps → AreMore d ops ps ps
more_none d ops ps are = record { are = are; grows = λ i p at. at }

pub more_then : (d : Diagram) (ops : List Op) (ps qs rs : List TestPosition) → AreMore d ops ps qs →
    AreMore d ops qs rs → AreMore d ops ps rs
more_then d ops ps qs rs one two = record { are = two.are; grows = λ i p at. two.grows i p (one.grows i p at) }

pub covered_grows : (d : Diagram) (ops : List Op) (stands : List ℕ) (ps qs : List TestPosition) (k : ℕ) → Grows ps qs →
    IsCovered d ops stands ps k → IsCovered d ops stands qs k
covered_grows d ops stands ps qs k grows c = record {
  answers = c.answers;
  turns = λ s op at here dep. turn_grows ps qs k s grows (c.turns s op at here dep);
  rules = λ rule v op at vector breaks. rule_grows ps qs k rule grows (c.rules rule v op at vector breaks);
}

cases_both : (a b : ℕ) → a < 2 * (b + 1) → (a < 2 * b) ⊎ ((a ≡ 2 * b) ⊎ (a ≡ 2 * b + 1))
cases_both a b less = grind arith

-- the two operations of one more switch
pub covered_both : (d : Diagram) (ops : List Op) (stands : List ℕ) (ps qs : List TestPosition) (n k : ℕ) → k ≡ 2 * n →
    AreCovered d ops stands ps (2 * n) → Grows ps qs → IsCovered d ops stands qs k → IsCovered d ops stands qs (k + 1) →
    AreCovered d ops stands qs (2 * (n + 1))
covered_both d ops stands ps qs n k same are grows opening closing m lt = elim (cases_both m n lt) [
  | inl less ↦ covered_grows d ops stands ps qs m grows (are m less)
  | inr next ↦ elim next [
    | inl even ↦ subst (λ (x : ℕ). IsCovered d ops stands qs x) (same ∙ sym even) opening
    | inr odd ↦ subst (λ (x : ℕ). IsCovered d ops stands qs x) (ap (λ (x : ℕ). x + 1) same ∙ sym odd) closing
  ]
]

-- ---- one more position

module _ (d : Diagram) (ops : List Op) (asked : List Bool) (ps qs : List TestPosition) (v : List Bool)
    (a : IsAdded d ops asked ps qs v) where
  grown : Grows ps qs
  grown i p at = subst (λ (l : List TestPosition). slice_get l i ≡ Some p) (sym a.added) (still ps (a.position ∷ []) i p at)

  pub added_more : ArePositions d ops ps → AreMore d ops ps qs
  added_more are = record {
    are = λ i p at.
        elim (slice_get-push ps a.position p i (subst (λ (l : List TestPosition). slice_get l i ≡ Some p) a.added at)) [
          | inl before ↦ are i p before
          | inr here ↦ subst (λ (q : TestPosition). IsPosition d ops q) here.1 a.is
        ];
    grows = grown;
  }

  here_at : slice_get qs (length ps) ≡ Some a.position
  here_at = subst (λ (l : List TestPosition). slice_get l (length ps) ≡ Some a.position) (sym a.added)
      (new_last ps a.position)

  pub added_turn : (k s : ℕ) (op : Op) → slice_get ops k ≡ Some op → s < length d.switches →
      IsSet asked s → IsTurning d op s v → TurnIsShown qs k s
  added_turn k s op at lt here t = elim (a.shows k s op at lt here t) [
    | inl shown ↦ turn_grows ps qs k s grown shown
    | inr among ↦ record { place = length ps; position = a.position; at = here_at; turn = among }
  ]

  pub added_rule : (k : ℕ) (rule : Rule) (op : Op) → slice_get ops k ≡ Some op → Breaks d v op (Some rule) →
      RuleIsShown qs k rule
  added_rule k rule op at breaks =
      let answers : List (Option Rule) = a.position.answers.items in
      let read : slice_get answers k ≡ Some (get_or answers k None) =
      slice_get-get_or answers k None (omega (arith, slice_get_within ops k op at, a.is.answers.len)) in
      let same : get_or answers k None ≡ Some rule =
      same_answer d v op (get_or answers k None) (Some rule)
      (subst (λ (w : List Bool). Breaks d w op (get_or answers k None)) a.closed
      (a.is.answers.each k op (get_or answers k None) at read)) breaks in
      record { place = length ps; position = a.position; at = here_at; answer = read ∙ ap Some same }

-- the same where the positions before are the ones at hand
pub more_from : (d : Diagram) (ops : List Op) (asked : List Bool) (ps os qs : List TestPosition) (v : List Bool) →
    os ≡ ps → IsAdded d ops asked os qs v → ArePositions d ops ps → AreMore d ops ps qs
more_from d ops asked ps os qs v same a are =
    subst (λ (l : List TestPosition). AreMore d ops l qs) same
    (added_more d ops asked os qs v a (subst (λ (l : List TestPosition). ArePositions d ops l) (sym same) are))

pub depends_within : (d : Diagram) (op : Op) (s : ℕ) → DependsOn d op s → s < length d.switches
depends_within d op s dep =
    omega (arith, slice_get_within dep.v s _ dep.differ.opened, dep.differ.first)

pub same_op : (ops : List Op) (k : ℕ) (x y : Op) → slice_get ops k ≡ Some x → slice_get ops k ≡ Some y → x ≡ y
same_op ops k x y at_x at_y = same_Some x y (sym at_x ∙ at_y)

-- ---- a station of one item alone

module _ (d : Diagram) (ops : List Op) (ss ts : List Step) (j : AreJointSteps d d ss ts) (few : length ss < 2)
    (are : (k : ℕ) (op : Op) → slice_get ops k ≡ Some op → op.switch.0 < length d.switches) where
  lone : (k : ℕ) (op : Op) → slice_get ops k ≡ Some op → IsLone d op.switch.0
  lone k op at =
      let (p, t) = j.old_all.each (a_switch op.switch.0) (are k op at) in
      let one : length ss ≡ 1 = omega (arith, few, slice_get_within ss p t.step t.at) in
      lone_of d ss j.old_all one op.switch.0 (are k op at)

  no_turns : (k : ℕ) (op : Op) (rule : Rule) (v w : List Bool) → slice_get ops k ≡ Some op → Turns d op rule v w → ⊥
  no_turns k op rule v w at (inl t) = lone_unbroken d op (lone k op at) (are k op at) w rule t.1
  no_turns k op rule v w at (inr t) = lone_unbroken d op (lone k op at) (are k op at) v rule t.0

  pub lone_covered : (stands : List ℕ) (ps : List TestPosition) (k : ℕ) → IsCovered d ops stands ps k
  lone_covered stands ps k = record {
    answers = λ op at v vector. (None, lone_released d op (lone k op at) (are k op at) v);
    turns = λ s op at here dep. absurd (no_turns k op dep.rule dep.v dep.w at dep.turns);
    rules = λ rule v op at vector breaks. absurd (lone_unbroken d op (lone k op at) (are k op at) v rule breaks);
  }
