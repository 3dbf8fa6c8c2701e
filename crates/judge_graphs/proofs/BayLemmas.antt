-- The inner graphs of a bay, one by one.
use Rattle.std.proofs.Common.{◌≡◌, ℕ, ◌+◌, ◌<◌, zero, suc, List, [], ◌∷◌, ◌++◌, get_or, slice_get, Option, Some}
use Rattle.std.proofs.Common.{None, map, refl, sym, ap, ◌∙◌, subst, inl, inr, arith}
use Rattle.std.proofs.lemmas.List.{length_push}
use Rattle.std.proofs.lemmas.Option.{slice_get-get_or, slice_get-map}
use Rattle.station_graph.specs.Diagram.{IsStation, part_count}
use Rattle.station_graph.proofs.PathLemmas.{slice_get-push}
use Rattle.contraction.specs.Answers.{Answers}
use Rattle.decision_graphs.specs.Label.{Layered}
use Rattle.judge_pool.specs.declared.view.View.{View}
use Rattle.judge_pool.specs.Lettered.{Lettered}
use Rattle.judge_pool.specs.declared.pool.Pool.{Pool}
use Rattle.judge_pool.specs.Layering.{values_at}
use Rattle.judge_intake.specs.Inputs.{AreCopies}
use Rattle.judge_graphs.specs.declared.graphs.BayGraphs.{BayGraphs}
use Rattle.judge_graphs.specs.BuiltView.{seen_bay, seen_part}
use Rattle.judge_pool.proofs.BridgeLemmas.{from_map}
use Rattle.judge_intake.proofs.PlacesLemmas.{inner_for}
use Rattle.central_rules.specs.Meaning.{IsBay}
use Rattle.judge_graphs.specs.Built.{BayOf, IsInnerAt, AreInner, AreBayGraphs, AreGraphsOf, AreBays}

pub inner_none : (view : View) (a : Lettered) (b first count : ℕ) (names : List Answers) →
    AreInner view a b first count names [] 0
inner_none view a b first count names = record { len = refl; each = λ i g at. absurd (no_graph i g at) }
  where
    no_graph : (i : ℕ) (g : Layered) → slice_get {X = Layered} [] i ≡ Some g → ⊥
    no_graph zero g at = cc
    no_graph (suc i) g at = cc

pub inner_more : (view : View) (a : Lettered) (b first count : ℕ) (names : List Answers) (graphs : List Layered) (n : ℕ)
    (g : Layered) → AreInner view a b first count names graphs n → IsInnerAt view a b first count names n g →
    AreInner view a b first count names (graphs ++ g ∷ []) (n + 1)
inner_more view a b first count names graphs n g are new = record {
  len = omega (arith, length_push graphs g, are.len);
  each = λ i h at. elim (slice_get-push graphs g h i at) [
    | inl before ↦ are.each i h before
    | inr here ↦
        (let e : n ≡ i = sym (here.0 ∙ are.len) in
        subst (λ x. IsInnerAt view a b first count names i x) here.1
        (subst (λ k. IsInnerAt view a b first count names k g) e new))
  ];
}

module _ (a : Lettered) (b : ℕ) (station : IsStation a.diagram) (b_in : b < part_count a.diagram) (q : Pool)
    (values : List Answers) (ids : List ℕ) (copies : AreCopies q values ids) where
  -- the graphs of a bay's switches with copies of the names are those with the names
  pub inner_all_for : (first count : ℕ) (graphs : List Layered) (n : ℕ) →
      AreInner q.view a b first count (values_at q.values.items ids) graphs n →
      AreInner q.view a b first count values graphs n
  inner_all_for first count graphs n h = record {
    len = h.len;
    each = λ i g at.
        let x = h.each i g at in
        record {
          others = x.others;
          one_more = x.one_more;
          graph = inner_for a b station b_in q values ids copies (first + i) first x.others g x.graph;
          labels = x.labels;
          reduced = x.reduced;
          small = x.small;
        };
  }

-- ---- the bays of a station

pub bays_none : (a : Lettered) → AreBays a [] 0
bays_none a = record { len = refl; each = λ b g at. cc }

pub bays_more : (a : Lettered) (bays : List (Option BayOf)) (n : ℕ) (g : Option BayOf) → AreBays a bays n →
    AreGraphsOf a n g → AreBays a (bays ++ g ∷ []) (n + 1)
bays_more a bays n g are new = record {
  len = omega (arith, length_push bays g, are.len);
  each = λ b h at. elim (slice_get-push bays g h b at) [
    | inl before ↦ are.each b h before
    | inr here ↦
        (let e : n ≡ b = sym (here.0 ∙ are.len) in
        subst (λ x. AreGraphsOf a b x) here.1 (subst (λ k. AreGraphsOf a k g) e new))
  ];
}

-- the graphs of a bay of the station
pub bay_listed : (a : Lettered) (bays : List (Option BayOf)) (n b : ℕ) → AreBays a bays n → b < n → IsBay a.diagram b →
    (g : BayOf) × (slice_get bays b ≡ Some (Some g)) × AreBayGraphs a b g
bay_listed a bays n b are lt bay = by (get_or bays b None) (slice_get-get_or bays b None (omega (arith, lt, are.len)))
  where
    by : (x : Option BayOf) → slice_get bays b ≡ Some x →
        (g : BayOf) × (slice_get bays b ≡ Some (Some g)) × AreBayGraphs a b g
    by (Some g) at = (g, at, (are.each b (Some g) at).1)
    by None at = absurd (are.each b None at bay)

-- the graphs of which a view is seen
pub raw_bay : (bays : List (Option BayGraphs)) (b : ℕ) (g : BayOf) → slice_get (map seen_part bays) b ≡ Some (Some g) →
    (x : BayGraphs) × (slice_get bays b ≡ Some (Some x))
raw_bay bays b g at =
    let (part, at_part, is) =
    from_map seen_part (slice_get bays b) (Some g) (sym (slice_get-map seen_part bays b) ∙ at) in
    let (x, some, same) = from_map seen_bay part g is in
    (x, at_part ∙ ap Some some)
