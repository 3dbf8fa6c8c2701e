-- States that are put back on their own nodes.
use Rattle.std.proofs.Common.{◌≡◌, ℕ, ◌<◌, zero, suc, List, [], ◌∷◌, length, get_or, slice_get, Some, sym, ap}
use Rattle.std.proofs.Common.{◌∙◌, subst, arith}
use Rattle.std.proofs.lemmas.List.{length-map}
use Rattle.std.proofs.lemmas.Option.{slice_get_within, slice_get-get_or, get_or_from_slice_get, same_Some}
use Rattle.contraction.specs.Answers.{Answers}
use Rattle.contraction.specs.Renaming.{renamed}
use Rattle.judge_pool.specs.declared.pool.Pool.{Pool}
use Rattle.judge_pool.specs.declared.view.View.{View}
use Rattle.judge_pool.specs.Layering.{no_answers, values_at}
use Rattle.judge_pool.specs.Lying.{StatesFit}
use Rattle.judge_pool.specs.Shapes.{SameAs, AllAs}
use Rattle.judge_pool.specs.Standing.{AreOn}
use Rattle.judge_pool.proofs.BridgeLemmas.{at_number}
use Rattle.judge_pool.proofs.LaidLemmas.{seen_on}
use Rattle.judge_pool.proofs.LayeringLemmas.{Grows}
use Rattle.judge_pool.proofs.MappedPools.{of_mapped}
use Rattle.judge_pool.proofs.ShapeLemmas.{shape_own, renamed_as}

pub start_is : (start t i : ℕ) → slice_get (start ∷ []) t ≡ Some i → start ≡ i
start_is start zero i at = same_Some start i at
start_is start (suc t) i at = cc

-- values on their own nodes are seen as they are
pub seen_self : (view : View) (kept : List ℕ) (values : List Answers) (ids : List ℕ) →
    ((k i : ℕ) → slice_get ids k ≡ Some i → i < length values) →
    ((k i : ℕ) (x : Answers) → slice_get ids k ≡ Some i → slice_get values i ≡ Some x → x.kept ≡ kept) →
    AllAs view (values_at values ids) (seen_on kept values ids)
seen_self view kept values ids within own = record {
  len = sym (length-map (values_at values ids) (renamed kept));
  same = λ k x w at_x at_w.
      let (y, at_y, is_w) = of_mapped (renamed kept) (values_at values ids) k w at_w in
      let one : y ≡ x = same_Some y x (sym at_y ∙ at_x) in
      let (i, at_i, is_x) = at_number values ids k x at_x in
      let there : slice_get values i ≡ Some x =
      slice_get-get_or values i no_answers (within k i at_i) ∙ ap Some is_x in
      let here : SameAs view x (renamed kept x) = record {
        kept = own k i x at_i there;
        shape = renamed_as view x x kept (shape_own view x);
      } in
      subst (λ a. SameAs view x a) (ap (renamed kept) (sym one) ∙ is_w) here;
}

-- what stands on the kept nodes is what is seen there
pub placed_as : (o r : Pool) → Grows o r → (kept states placed : List ℕ) (k : ℕ) →
    slice_get r.keeps.items k ≡ Some kept → AreOn r k states placed →
    ((t i : ℕ) → slice_get states t ≡ Some i → i < length o.values.items) →
    AllAs o.view (seen_on kept o.values.items states) (values_at r.values.items placed)
placed_as o r g kept states placed k at on within = record {
  len =
      length-map (values_at o.values.items states) (renamed kept)
      ∙ (length-map states (λ i. get_or o.values.items i no_answers)
      ∙ (sym on.len ∙ sym (length-map placed (λ i. get_or r.values.items i no_answers))));
  same = λ m w y at_w at_y.
      let (x, at_x, is_w) = of_mapped (renamed kept) (values_at o.values.items states) m w at_w in
      let (i, at_i, is_x) = at_number o.values.items states m x at_x in
      let (t, at_t, is_y) = at_number r.values.items placed m y at_y in
      let there : slice_get o.values.items i ≡ Some x =
      slice_get-get_or o.values.items i no_answers (within m i at_i) ∙ ap Some is_x in
      let h = on.each m i t at_i at_t in
      let same_x : h.x ≡ x = same_Some h.x x (sym h.first ∙ g.values i x there) in
      let same_y : h.y ≡ y = sym (get_or_from_slice_get r.values.items t h.y no_answers h.second) ∙ is_y in
      let same_nodes : h.nodes ≡ kept = same_Some h.nodes kept (sym h.at ∙ at) in
      subst (λ a. SameAs o.view a y) (ap (λ l. renamed l h.x) same_nodes ∙ (ap (renamed kept) same_x ∙ is_w))
      (subst (λ a. SameAs o.view (renamed h.nodes h.x) a) same_y
      (subst (λ v. SameAs v (renamed h.nodes h.x) h.y) g.view h.same));
}

pub placed_in : (r : Pool) (k : ℕ) (states placed : List ℕ) → AreOn r k states placed → (m t : ℕ) →
    slice_get placed m ≡ Some t → t < length r.values.items
placed_in r k states placed on m t at =
    let m_in : m < length states = omega (arith, slice_get_within placed m t at, on.len) in
    let h = on.each m (get_or states m 0) t (slice_get-get_or states m 0 m_in) at in
    slice_get_within r.values.items t h.y h.second

pub states_fit : (o : Pool) (states kept : List ℕ) →
    ((t i : ℕ) → slice_get states t ≡ Some i → i < length o.values.items) →
    ((t i : ℕ) (x : Answers) → slice_get states t ≡ Some i → slice_get o.values.items i ≡ Some x →
    length kept ≡ length x.kept) → StatesFit o states kept
states_fit o states kept within counts t i at =
    let here = slice_get-get_or o.values.items i no_answers (within t i at) in
    (get_or o.values.items i no_answers, here, counts t i (get_or o.values.items i no_answers) at here)
