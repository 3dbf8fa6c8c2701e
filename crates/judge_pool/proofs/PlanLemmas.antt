-- The layers of a plan, one by one.
use Rattle.std.proofs.Common.{◌≡◌, ℕ, ◌<◌, zero, suc, Bool, false, List, [], ◌∷◌, replicate}
use Rattle.std.proofs.Common.{length, get_or, slice_get, Some, refl, sym, ap, ◌∙◌, subst, arith}
use Rattle.std.proofs.lemmas.List.{length-replicate}
use Rattle.std.proofs.lemmas.Option.{slice_get-get_or, get_or_from_slice_get, same_Some}
use Rattle.station_graph.specs.Alike.{IsVector}
use Rattle.contraction.specs.Answers.{Answers}
use Rattle.contraction.specs.Stands.{Among}
use Rattle.decision_graphs.specs.Label.{leads}
use Rattle.judge_pool.specs.declared.pool.Pool.{Pool}
use Rattle.judge_pool.specs.Folding.{StandsIn, IsExact}
use Rattle.judge_pool.specs.Pooling.{Extends}
use Rattle.judge_pool.specs.Layering.{no_answers, values_at}
use Rattle.judge_pool.specs.Plans.{Plan, PlanFits, AreLinked, plan_diagram, ChosenBy, items_of, items_before}
use Rattle.judge_pool.specs.Plans.{NeededBy}
use Rattle.judge_pool.proofs.LayeringLemmas.{AreSound}

-- the values of numbers stay where a pool grows
pub values_more : (old new : List Answers) (ids : List ℕ) → Extends old new →
    ((k i : ℕ) → slice_get ids k ≡ Some i → i < length old) → values_at new ids ≡ values_at old ids
values_more old new [] more within = refl
values_more old new (i ∷ is) more within =
    let here : get_or new i no_answers ≡ get_or old i no_answers =
    get_or_from_slice_get new i (get_or old i no_answers) no_answers
    (more i (get_or old i no_answers) (slice_get-get_or old i no_answers (within 0 i refl))) in
    ap (λ x. x ∷ values_at new is) here
    ∙ ap (λ xs. get_or old i no_answers ∷ xs) (values_more old new is more (λ k j at. within (suc k) j at))

-- ---- the start

pub start_exact : (plan : Plan) (p : Pool) (start : ℕ) (letters : List (List ℕ)) (keeps : List ℕ) → AreSound p →
    AreLinked p start letters keeps → PlanFits plan p start letters keeps →
    IsExact p.view (plan_diagram plan) (ChosenBy plan) (items_of plan) (NeededBy plan) 0 []
    (values_at p.values.items (start ∷ []))
start_exact plan p start letters keeps holds linked fits = record {
  count = refl;
  fits = omega arith;
  kept = λ t r at n.
      let is = value_is t r at in
      let k : ℕ = get_or keeps 0 0 in
      let at_k : slice_get keeps 0 ≡ Some k = slice_get-get_or keeps 0 0 (omega (arith, linked.count)) in
      let nodes : List ℕ = get_or p.keeps.items k [] in
      let at_nodes : slice_get p.keeps.items k ≡ Some nodes =
      slice_get-get_or p.keeps.items k [] (linked.keeps_in 0 k at_k) in
      let a = linked.start_kept r k nodes is at_k at_nodes n in
      let b = fits.needed 0 k nodes at_k at_nodes n in
      (λ h. b.0 (a.0 h), λ h. a.1 (b.1 h));
  rising = λ t r at. holds.rising start r (value_is t r at);
  apart = λ t u a b at_t at_u same. place_is t a at_t ∙ sym (place_is u b at_u);
  stands = λ v cs whole len chosen. at_start v whole (leads [] 0 cs) refl;
  views = record {
    made =
        λ t r at. (let open_all = replicate (length (plan_diagram plan).switches) false in
        let whole = length-replicate (length (plan_diagram plan).switches) false in
        (open_all, whole, fits.start_stands r open_all (value_is t r at) whole));
    cover = λ v whole. (0, at_start v whole 0 refl);
  };
  counted = λ i l at. cc;
}
  where
    at_x : slice_get p.values.items start ≡ Some (get_or p.values.items start no_answers)
    at_x = slice_get-get_or p.values.items start no_answers linked.start_in

    place_is : (t : ℕ) (r : Answers) → slice_get (values_at p.values.items (start ∷ [])) t ≡ Some r → t ≡ 0
    place_is zero r at = refl
    place_is (suc t) r at = cc

    value_is : (t : ℕ) (r : Answers) → slice_get (values_at p.values.items (start ∷ [])) t ≡ Some r →
        slice_get p.values.items start ≡ Some r
    value_is zero r at = at_x ∙ at
    value_is (suc t) r at = cc

    at_start : (v : List Bool) → IsVector (plan_diagram plan) v → (t : ℕ) → 0 ≡ t →
        StandsIn p.view (Among (items_before plan)) (plan_diagram plan) v (values_at p.values.items (start ∷ [])) t
    at_start v whole t e = record {
      value = get_or p.values.items start no_answers;
      listed = ap (slice_get (values_at p.values.items (start ∷ []))) (sym e);
      stands = fits.start_stands (get_or p.values.items start no_answers) v at_x whole;
    }

-- ---- a list of the start alone

pub one_in : (values : List Answers) (start : ℕ) → start < length values → (t i : ℕ) →
    slice_get (start ∷ []) t ≡ Some i → i < length values
one_in values start lt zero i at = subst (λ k. k < length values) (same_Some start i at) lt
one_in values start lt (suc t) i at = cc
