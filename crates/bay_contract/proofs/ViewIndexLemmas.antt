-- In a layer the views of two vectors are the same exactly where their indices are.
use Rattle.std.proofs.Common.{◌≡◌, ℕ, ◌+◌, Bool, List, length, slice_get, refl, sym, ◌∙◌, ap, subst}
use Rattle.std.proofs.lemmas.Option.{slice_get_within}
use Rattle.station_graph.specs.Diagram.{Diagram}
use Rattle.station_graph.specs.Alike.{IsVector}
use Rattle.contraction.specs.Answers.{Answers, Keeps, SameGap, SameLoad}
use Rattle.contraction.specs.Stands.{StandsFor}
use Rattle.contraction.proofs.ViewLemmas.{gap_told, load_told}
use Rattle.contraction.proofs.ListedLemmas.{list_of}
use Rattle.part_alphabets.specs.declared.fork.Fork.{Fork}
use Rattle.part_alphabets.specs.Layers.{OfLayer, IsKept, SameLayer}
use Rattle.part_alphabets.specs.Diagrams.{ForksLeadTo}
use Rattle.bay_contract.specs.Sorting.{KeepsAt}
use Rattle.part_alphabets.specs.Counting.{AreSoMany}
use Rattle.bay_contract.proofs.Layers.{IsLayer}
use Rattle.bay_contract.proofs.DiagramLemmas.{leads_one}
use Rattle.contraction.proofs.RisingLemmas.{rising_equal}
use Rattle.contraction.proofs.SameLemmas.{gap_self, load_self, gap_fewer, load_fewer}

-- values on the nodes that matter keep one list
pub one_list : (d : Diagram) (part bound : ℕ) (x y : Answers) → KeepsAt d part bound x → KeepsAt d part bound y
    → x.kept ≡ y.kept
one_list d part bound x y kx ky = rising_equal x.kept y.kept kx.value.nodes.rises ky.value.nodes.rises (λ n. (
  λ k.
      (ky.kept n).1 ((kx.kept n).0 k),
  λ k. (kx.kept n).1 ((ky.kept n).0 k),
))

-- values that stand for a layer in vectors with the same view answer the same
pub views_told : (d : Diagram) (part bound : ℕ) (v w : List Bool) (x y : Answers) → KeepsAt d part bound x
    → KeepsAt d part bound y → StandsFor (OfLayer d part bound) d v x → StandsFor (OfLayer d part bound) d w y
    → SameLayer d part bound v w → SameGap x y × SameLoad x y
views_told d part bound v w x y kx ky sx sy same =
    let kept = one_list d part bound x y kx ky in (
      (gap_told (OfLayer d part bound) d v w x y kept sx.gap sy.gap).1 (gap_fewer (IsKept d part bound) (Keeps x.kept)
          (OfLayer d part bound) d v w (λ n. (kx.kept n).0) same.gap),
      (load_told (OfLayer d part bound) d v w x y kept sx.load sy.load).1 (load_fewer (IsKept d part bound)
          (Keeps x.kept) (OfLayer d part bound) d v w (λ n. (kx.kept n).0) same.load),
    )

module _ (d : Diagram) (part first j : ℕ) (values : List Answers) (ranks : List ℕ) (forks : List Fork)
    (h : IsLayer d part first j values ranks forks) where
  -- one index, one view
  pub same_index : (v w : List Bool) (i : ℕ) → IsVector d v → IsVector d w → ForksLeadTo forks v i
      → ForksLeadTo forks w i
      → SameLayer d part (first + j) v w
  same_index v w i vec_v vec_w lv lw =
      let sv = h.stops v vec_v in
      let sw = h.stops w vec_w in
      let same : sv.index ≡ sw.index = leads_one forks v sv.index i sv.leads lv ∙ sym
      (leads_one forks w sw.index i sw.leads lw) in
      let x = sv.value in
      let one : sw.value ≡ x = cc (sv.listed, sw.listed, ap (slice_get values) same) in
      let stands_w : StandsFor (OfLayer d part (first + j)) d w x = subst (λ (y : Answers). StandsFor (OfLayer d part
      (first + j)) d w y) one sw.stands in
      let k = h.keep sv.index x sv.listed in
      record {
        gap = gap_fewer (Keeps x.kept) (IsKept d part (first + j)) (OfLayer d part (first + j)) d v w (λ n.
            (k.kept n).1) ((gap_told (OfLayer d part (first + j)) d v w x x refl sv.stands.gap stands_w.gap).0
            (gap_self x));
        load = load_fewer (Keeps x.kept) (IsKept d part (first + j)) (OfLayer d part (first + j)) d v w (λ n.
            (k.kept n).1) ((load_told (OfLayer d part (first + j)) d v w x x refl sv.stands.load stands_w.load).0
            (load_self x));
      }

  -- one view, one index
  pub same_view : (v w : List Bool) (i k : ℕ) → IsVector d v → IsVector d w → ForksLeadTo forks v i
      → ForksLeadTo forks w k
      → SameLayer d part (first + j) v w → i ≡ k
  same_view v w i k vec_v vec_w lv lw same =
      let sv = h.stops v vec_v in
      let sw = h.stops w vec_w in
      let told = views_told d part (first + j) v w sv.value sw.value (h.keep sv.index sv.value sv.listed)
      (h.keep sw.index sw.value sw.listed) sv.stands sw.stands same in
      leads_one forks v i sv.index lv sv.leads
      ∙ (h.apart sv.index sw.index sv.value sw.value sv.listed sw.listed told.0 told.1
      ∙ leads_one forks w sw.index k sw.leads lw)

-- THE VALUES OF A LAYER COUNT ITS CONTRACTIONS
pub layer_counts : (d : Diagram) (part first j : ℕ) (values : List Answers) (ranks : List ℕ) (forks : List Fork)
    → IsLayer d part first j values ranks forks → AreSoMany d (SameLayer d part (first + j)) (length values)
layer_counts d part first j values ranks forks h =
    let (list, len, holds, some) = list_of (λ i v. IsVector d v × ForksLeadTo forks v i) (length values) (λ i lt. let
    (v, vec, r) = h.rank_in i lt in (v, (vec, h.ranked i lt v vec r))) in
    record {
      list = list;
      distinct = record {
        vectors = λ i v at. (holds i v at).0;
        apart = λ i k v w at_i at_k same. same_view d part first j values ranks forks h v w i k (holds i v at_i).0
            (holds k w at_k).0 (holds i v at_i).1 (holds k w at_k).1 same;
      };
      all = λ v vec.
          let s = h.stops v vec in
          let (w, at) = some s.index (slice_get_within values s.index s.value s.listed) in
          record {
            place = s.index;
            entry = w;
            listed = at;
            same =
                same_index d part first j values ranks forks h v w s.index vec (holds s.index w at).0 s.leads
                (holds s.index w at).1;
          };
      count = len;
    }
