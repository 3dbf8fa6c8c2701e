-- A layer more of a plan, whose states are given as values.
use Rattle.std.proofs.Common.{◌≡◌, ℕ, ◌*◌, ◌<◌, ◌≤◌, ◌↔◌, suc, List, [], ◌∷◌, ◌++◌, length, slice_get, Some, refl}
use Rattle.std.proofs.Common.{ap, subst, arith, get_or}
use Rattle.std.proofs.lemmas.List.{length-map}
use Rattle.contraction.specs.Answers.{Answers, Keeps}
use Rattle.contraction.specs.Stands.{Among}
use Rattle.decision_graphs.specs.Finished.{layer_with}
use Rattle.decision_graphs.specs.Label.{Layer}
use Rattle.judge_pool.specs.Counted.{AreAtLeast}
use Rattle.judge_pool.specs.Folding.{IsStep, IsExact, ReachesMore}
use Rattle.judge_pool.specs.Layering.{values_at, no_answers}
use Rattle.judge_pool.specs.Plans.{Plan, PlanFits, AreLinked, SameBefore, plan_diagram, ChosenBy, items_of, new_of}
use Rattle.judge_pool.specs.Plans.{NeededBy}
use Rattle.judge_pool.specs.declared.pool.Pool.{Pool}
use Rattle.judge_pool.proofs.CountLemmas.{views_at_least}
use Rattle.judge_pool.proofs.FoldLemmas.{fold_step}
use Rattle.judge_pool.proofs.MadeLemmas.{made_more}

module _ (plan : Plan) (p : Pool) (start : ℕ) (letters : List (List ℕ)) (keeps : List ℕ)
    (linked : AreLinked p start letters keeps) (j k : ℕ) (ids nodes : List ℕ) (at_j : slice_get letters j ≡ Some ids)
    (at_k : slice_get keeps (suc j) ≡ Some k) (at_nodes : slice_get p.keeps.items k ≡ Some nodes)
    (fits : PlanFits plan p start letters keeps) (states : List Answers) (ls : List Layer)
    (old : IsExact p.view (plan_diagram plan) (ChosenBy plan) (items_of plan) (NeededBy plan) j ls states) where
  letters_len : length (values_at p.values.items ids) ≡ length ids
  letters_len = length-map ids (λ i. get_or p.values.items i no_answers)

  pub exact_more : (next : List Answers) (edges : List ℕ) → 0 < length states →
      IsStep p.view nodes states (values_at p.values.items ids) next edges →
      IsExact p.view (plan_diagram plan) (ChosenBy plan) (items_of plan) (NeededBy plan) (suc j)
      (ls ++ layer_with (length ids) (length states) edges ∷ []) next
  exact_more next edges some step =
      subst (λ n. IsExact p.view (plan_diagram plan) (ChosenBy plan) (items_of plan) (NeededBy plan) (suc j)
      (ls ++ layer_with n (length states) edges ∷ []) next) letters_len
      (fold_step p.view (plan_diagram plan) (ChosenBy plan) (items_of plan) (NeededBy plan) j (new_of plan j) ls nodes
      states (values_at p.values.items ids) next edges old step some
      (omega (arith, linked.some j ids at_j, letters_len)) refl (fits.needed (suc j) k nodes at_k at_nodes)
      (λ c v whole chosen. fits.letter j c ids v at_j whole chosen)
      (λ t c x y at_x at_y. fits.meets j c ids x y at_j (old.kept t x at_x) at_y)
      (λ c x y v at_y whole seen. fits.given j c ids x y v at_j at_y whole seen)
      (λ v whole. fits.cover j ids v at_j whole))

  -- where more values than a limit are reached, there are more views before the next layer
  pub reached_more : (most : ℕ) → ReachesMore p.view nodes states (values_at p.values.items ids) most →
      (count : ℕ) × (most < count) × (count ≤ length states * length ids)
      × AreAtLeast (plan_diagram plan) (SameBefore p.view plan (suc j)) count
  reached_more most here =
      let made = made_more p.view (plan_diagram plan) (items_of plan j) (new_of plan j) nodes states
      (values_at p.values.items ids) here.next
      (λ t c x y at_x at_y. fits.meets j c ids x y at_j (old.kept t x at_x) at_y) here.reached
      (λ c x y v at_y whole seen. fits.given j c ids x y v at_j at_y whole seen) old.views.made in
      let kept : (t : ℕ) (r : Answers) → slice_get here.next t ≡ Some r → (n : ℕ) → Keeps r.kept n ↔
      NeededBy plan (suc j) n =
      λ t r at n. (let a = here.reached.kept t r at n in
      let b = fits.needed (suc j) k nodes at_k at_nodes n in
      (λ h. b.0 (a.0 h), λ h. a.1 (b.1 h))) in (
        length here.next,
        here.past,
        omega (arith, here.few, ap (λ n. length states * n) letters_len),
        views_at_least p.view (Among (items_of plan (suc j))) (plan_diagram plan) (NeededBy plan (suc j)) here.next kept
            here.reached.rising here.reached.apart made,
      )
