-- What is found in a walk is found in all positions.
use Rattle.std.proofs.Common.{◌≡◌, ℕ, suc, ◌<◌, Bool, true, false, List, length, slice_get, Some, arith}
use Rattle.ilk_base.specs.declared.words.Op.{Op}
use Rattle.ilk_base.specs.declared.words.Rule.{Rule}
use Rattle.station_graph.specs.Diagram.{Diagram}
use Rattle.station_changes.specs.declared.change.Change.{Change}
use Rattle.station_changes.specs.Compare.{IsCommon, IsJoint, IsIsolated, IsChange, Shows}
use Rattle.decision_graphs.specs.Label.{Layered, AreAllowed}
use Rattle.graph_walks.specs.declared.codes.Codes.{Codes}
use Rattle.graph_walks.specs.Walks.{AreTwos}
use Rattle.step_graphs.specs.declared.step.Step.{Step}
use Rattle.station_joints.specs.Together.{AreJointSteps, AreJointlyGiven, AreIsolating}
use Rattle.station_joints.proofs.ChoiceLemmas.{given_choices}
use Rattle.change_search.specs.Telling.{IsSwitchWalk}
use Rattle.change_search.specs.Searching.{LeadsToChange}
use Rattle.change_search.specs.Showing.{AllowIsolating, AllowAll}
use Rattle.change_search.proofs.TellingLemmas.{tells_change}

given_twos : (ss ts : List Step) (b n : ℕ) (u v : List Bool) (cs : List ℕ) → suc n ≡ length ss →
    AreJointlyGiven ss ts b u v cs → AreTwos n cs
given_twos ss ts b n u v cs count given = record {
  len = omega (arith, given.old_given.count, count);
  small = given.old_given.small;
}

module _ (o n : Diagram) (ss ts : List Step) (j : AreJointSteps o n ss ts) (b : ℕ) (in_b : b < length ss)
    (walk : Layered) (codes : List Codes) (x y : Op) (common : IsCommon o n x y)
    (w : IsSwitchWalk o n ss ts b x.switch.0 y.switch.0 walk codes) (change : Change) (rule : Rule) where
  pub isolated_shows : (u v : List Bool) (cs : List ℕ) → IsJoint o n u v → AreJointlyGiven ss ts b u v cs →
      IsIsolated o n u v → LeadsToChange walk codes x.direction change rule cs →
      Shows o n x y change rule (record { old = u; new = v; isolated = true })
  isolated_shows u v cs joint given isolated leads = record {
    joint = joint;
    shows = (tells_change o n ss ts b walk codes x y change rule u v cs w common joint given).0 leads;
    isolated = λ e. isolated;
    none_isolated = λ e. cc;
  }

  module _ (sets : List (List Bool)) where
    pub none_isolated : AllowIsolating ss ts b sets → ((cs : List ℕ) → AreAllowed sets cs →
        ¬ LeadsToChange walk codes x.direction change rule cs) → (u v : List Bool) → IsJoint o n u v →
        IsIsolated o n u v → ¬ IsChange o n x y change rule u v
    none_isolated allow lacks u v joint isolated shown =
        let (cs, given, isolating) = given_choices o n u v joint ss ts j b in_b in
        lacks cs
        ((allow cs w.others w.count).1 (given_twos ss ts b w.others u v cs w.count given, isolating isolated))
        ((tells_change o n ss ts b walk codes x y change rule u v cs w common joint given).1 shown)

    pub none_at_all : AllowAll ss sets → ((cs : List ℕ) → AreAllowed sets cs →
        ¬ LeadsToChange walk codes x.direction change rule cs) → (u v : List Bool) → IsJoint o n u v →
        ¬ IsChange o n x y change rule u v
    none_at_all allow lacks u v joint shown =
        let (cs, given, isolating) = given_choices o n u v joint ss ts j b in_b in
        lacks cs ((allow cs w.others w.count).1 (given_twos ss ts b w.others u v cs w.count given))
        ((tells_change o n ss ts b walk codes x y change rule u v cs w common joint given).1 shown)

  pub other_shows : (u v : List Bool) (cs : List ℕ) → IsJoint o n u v → AreJointlyGiven ss ts b u v cs →
      LeadsToChange walk codes x.direction change rule cs →
      ((u v : List Bool) → IsJoint o n u v → IsIsolated o n u v → ¬ IsChange o n x y change rule u v) →
      Shows o n x y change rule (record { old = u; new = v; isolated = false })
  other_shows u v cs joint given leads lacks = record {
    joint = joint;
    shows = (tells_change o n ss ts b walk codes x y change rule u v cs w common joint given).0 leads;
    isolated = λ e. cc;
    none_isolated = λ e. lacks;
  }

-- the allowed choices are one of two at each place but one
pub isolating_twos : (o n : Diagram) (ss ts : List Step) (b i k : ℕ) (walk : Layered) (codes : List Codes)
    (sets : List (List Bool)) (cs : List ℕ) → IsSwitchWalk o n ss ts b i k walk codes → AllowIsolating ss ts b sets →
    AreAllowed sets cs →
    (suc (length cs) ≡ length ss) × ((j c : ℕ) → slice_get cs j ≡ Some c → c < 2) × AreIsolating ss ts b cs
isolating_twos o n ss ts b i k walk codes sets cs w allow allowed =
    let both = (allow cs w.others w.count).0 allowed in
    (omega (arith, both.0.len, w.count), both.0.small, both.1)

pub all_twos : (o n : Diagram) (ss ts : List Step) (b i k : ℕ) (walk : Layered) (codes : List Codes)
    (sets : List (List Bool)) (cs : List ℕ) → IsSwitchWalk o n ss ts b i k walk codes → AllowAll ss sets →
    AreAllowed sets cs → (suc (length cs) ≡ length ss) × ((j c : ℕ) → slice_get cs j ≡ Some c → c < 2)
all_twos o n ss ts b i k walk codes sets cs w allow allowed =
    let twos = (allow cs w.others w.count).0 allowed in
    (omega (arith, twos.len, w.count), twos.small)
