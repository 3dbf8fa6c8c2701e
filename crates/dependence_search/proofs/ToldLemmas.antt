-- What the labels of the walk tell of a position.
use Rattle.std.proofs.Common.{◌≡◌, ℕ, ◌<◌, zero, suc, Bool, List, [], ◌∷◌, Some, length, map, replicate, get_or, slice_get}
use Rattle.std.proofs.Common.{refl, sym, ap, ◌∙◌, arith}
use Rattle.std.proofs.lemmas.Option.{slice_get_within, slice_get-get_or}
use Rattle.ilk_base.specs.declared.words.Op.{Op}
use Rattle.station_graph.specs.Diagram.{Diagram, IsStation, switch_path}
use Rattle.station_graph.specs.Alike.{IsVector}
use Rattle.station_graph.specs.CentralRules.{Breaks}
use Rattle.station_changes.specs.Compare.{SameSwitch, IsJoint}
use Rattle.decision_graphs.specs.Label.{Layer, Layered, layer_at, label_of}
use Rattle.graph_walks.specs.declared.codes.Codes.{Codes}
use Rattle.graph_walks.specs.Walks.{AreTwos, HasTwos, codes_of}
use Rattle.step_graphs.specs.declared.step.Step.{Step}
use Rattle.step_graphs.specs.Moved.{AreGiven}
use Rattle.station_joints.specs.Together.{AreJointSteps}
use Rattle.station_joints.proofs.ChoiceLemmas.{given_choices}
use Rattle.change_search.proofs.TellingLemmas.{labels_answer}
use Rattle.dependence_search.specs.RuleWalks.{IsRuleWalk, rule_of}

-- ---- the walk has two choices in each layer

pub choices_listed : (ls : List Layer) (j : ℕ) → (layer_at ls j).choices ≡ get_or (map (λ (l : Layer). l.choices) ls) j 0
choices_listed [] zero = refl
choices_listed [] (suc j) = refl
choices_listed (l ∷ ls) zero = refl
choices_listed (l ∷ ls) (suc j) = choices_listed ls j

two_there : (n j : ℕ) → j < n → get_or {A = ℕ} (replicate n 2) j 0 ≡ 2
two_there zero j lt = absurd (omega (arith, lt))
two_there (suc n) zero lt = refl
two_there (suc n) (suc j) lt = two_there n j (omega (arith, lt))

pub two_choices : (n : ℕ) (g : Layered) → length g.layers ≡ n → map (λ (l : Layer). l.choices) g.layers ≡ replicate n 2 →
    HasTwos n g
two_choices n g count choices = record {
  count = count;
  choices = λ j lt. choices_listed g.layers j ∙ (ap (λ ks. get_or ks j 0) choices ∙ two_there n j lt);
}

-- ---- a position of one station

same_number : (d : Diagram) (i k : ℕ) → IsStation d → SameSwitch d d i k → i ≡ k
same_number d i k is same =
    let in_i : i < length d.switch_paths = omega (arith, slice_get_within d.switches i same.old same.old_at, is.items.paths) in
    let in_k : k < length d.switch_paths = omega (arith, slice_get_within d.switches k same.new same.new_at, is.items.paths) in
    is.paths_differ.switches i k (switch_path d i) (slice_get-get_or d.switch_paths i [] in_i)
    (slice_get-get_or d.switch_paths k [] in_k ∙ ap Some (sym same.path))

alone : (d : Diagram) (v : List Bool) → IsStation d → IsVector d v → IsJoint d d v v
alone d v is vector = record {
  old = vector;
  new = vector;
  agree = λ i k same. ap (λ n. slice_get v n) (same_number d i k is same);
}

module _ (d : Diagram) (ss ts : List Step) (b : ℕ) (op : Op) (walk : Layered) (codes : List Codes)
    (w : IsRuleWalk d ss b op.switch.0 walk codes) where
  pub as_twos : (v : List Bool) (cs : List ℕ) → AreGiven ss b v cs → AreTwos w.others cs
  as_twos v cs given = record { len = omega (arith, given.count, w.count); small = given.small }

  -- the rule that the operation breaks
  pub told : (v : List Bool) (cs : List ℕ) → IsVector d v → AreGiven ss b v cs → (c : Codes)
      × (slice_get codes (label_of walk cs) ≡ Some c) × Breaks d v op (rule_of op.direction c)
  told v cs vector given = (
    codes_of w.old_gap w.new_gap w.old_load w.new_load cs,
    w.walked.leads cs (as_twos v cs given),
    labels_answer d v op (label_of w.old_gap cs) (label_of w.old_load cs) (w.is_old_gap.says v cs vector given)
        (w.is_old_load.says v cs vector given),
  )

  pub walk_twos : HasTwos w.others walk
  walk_twos = two_choices w.others walk w.walked.count w.walked.choices

  -- there are choices for every position
  pub choices_for : IsStation d → AreJointSteps d d ss ts → b < length ss → (v : List Bool) → IsVector d v →
      (cs : List ℕ) × AreGiven ss b v cs
  choices_for is j within v vector =
      let (cs, given, isolating) = given_choices d d v v (alone d v is vector) ss ts j b within in
      (cs, given.old_given)
