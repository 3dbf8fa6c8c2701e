-- More values than the limit.
use Rattle.std.proofs.Common.{◌≡◌, ℕ, ◌+◌, ◌*◌, ◌/◌, ◌%◌, ◌<◌, ◌≤◌, ◌==◌, zero, suc, Bool, List, [], ◌∷◌, length}
use Rattle.std.proofs.Common.{slice_get, slice_index, Some, refl, sym, ◌∙◌, ap, subst, arith}
use Rattle.std.specs.Prelude.{slice_set}
use Rattle.std.proofs.lemmas.Option.{slice_get_within}
use Rattle.std.proofs.lemmas.List.{length-set}
use Rattle.station_graph.specs.Diagram.{Diagram}
use Rattle.station_graph.specs.Connection.{a_switch}
use Rattle.station_graph.specs.Sharing.{OfPart}
use Rattle.station_graph.specs.Alike.{IsVector}
use Rattle.contraction.specs.Answers.{Answers}
use Rattle.contraction.specs.Stands.{StandsFor}
use Rattle.contraction.proofs.MarkLemmas.{slice_get-set_same}
use Rattle.part_alphabets.specs.declared.fork.Fork.{Fork}
use Rattle.part_alphabets.specs.Layers.{OfLayer, SameLayer}
use Rattle.part_alphabets.specs.Counting.{ArePast}
use Rattle.bay_contract.specs.Sorting.{IsSorted}
use Rattle.bay_contract.proofs.Layers.{IsLayer}
use Rattle.bay_contract.proofs.RankLemmas.{rank_set}
use Rattle.bay_contract.proofs.DiagramLemmas.{leads_one}
use Rattle.contraction.proofs.ListedLemmas.{list_of}
use Rattle.bay_contract.proofs.ViewIndexLemmas.{views_told}

some_value : (xs : List Answers) (i : ℕ) → i < length xs → (x : Answers) × (slice_get xs i ≡ Some x)
some_value [] i lt = absurd (omega arith)
some_value (x ∷ xs) zero lt = (x, refl)
some_value (x ∷ xs) (suc i) lt = some_value xs i (omega arith)

-- in the vector the value of this index stands for the layer
abbrev pub StandsIn : Diagram → ℕ → ℕ → List Answers → ℕ → List Bool → Type 0
StandsIn d part bound news n v = IsVector d v × ((c : Answers) → slice_get news n ≡ Some c
    → StandsFor (OfLayer d part bound) d v c)

module _ (d : Diagram) (part first j : ℕ) (own : OfPart d part (a_switch (first + j))) (values news : List Answers)
    (ranks targets origins : List ℕ) (forks : List Fork) (h : IsLayer d part first j values ranks forks) (places : ℕ)
    (most : places ≤ 2 * length values) (s : IsSorted d part (first + j) values news targets origins places) where
  stands_somewhere : (n : ℕ) → n < length news → (v : List Bool) × StandsIn d part ((first + j) + 1) news n v
  stands_somewhere n lt =
      let in_station = slice_get_within d.switches (first + j) own.0 own.1 in
      let o_in = s.origin_in n lt in
      let half_in : slice_index origins n / 2 < length values = omega (arith, most) in
      let (w, w_vec, w_rank) = h.rank_in (slice_index origins n / 2) half_in in
      let at : slice_get (slice_set w (first + j) (slice_index origins n % 2 == 1)) (first + j) ≡ Some
      (slice_index origins n % 2 == 1) = slice_get-set_same w (first + j) (slice_index origins n % 2 == 1) (omega
      (arith, in_station)) in
      let vec : IsVector d (slice_set w (first + j) (slice_index origins n % 2 == 1)) = length-set w (first + j)
      (slice_index origins n % 2 == 1) ∙ w_vec in
      let r = rank_set first j (first + j) w (slice_index origins n % 2 == 1) (omega arith) ∙ w_rank in
      let leads = h.ranked (slice_index origins n / 2) half_in (slice_set w (first + j)
      (slice_index origins n % 2 == 1)) vec r in
      let st = h.stops (slice_set w (first + j) (slice_index origins n % 2 == 1)) vec in
      let same : st.index ≡ slice_index origins n / 2 = leads_one forks (slice_set w (first + j)
      (slice_index origins n % 2 == 1)) st.index (slice_index origins n / 2) st.leads leads in (
        slice_set w (first + j) (slice_index origins n % 2 == 1),
        (
          vec,
          λ c c_at.
              s.continues (slice_index origins n) c o_in (ap (slice_get news) (s.origin_leads n lt) ∙ c_at) st.value
              (ap (slice_get values) (sym same) ∙ st.listed) (slice_set w (first + j)
              (slice_index origins n % 2 == 1)) st.stands at,
        ),
      )

  pub sorted_past : (limit : ℕ) → limit < length news → ArePast d (SameLayer d part (first + (j + 1))) limit
  sorted_past limit more =
      let e : (first + j) + 1 ≡ first + (j + 1) = omega arith in
      let (list, len, holds, some) = list_of (StandsIn d part ((first + j) + 1) news) (length news) stands_somewhere in
      subst (λ n. ArePast d (SameLayer d part n) limit) e (record {
        list = list;
        distinct = record {
          vectors = λ i v at. (holds i v at).0;
          apart = λ i k v w at_i at_k same.
              let i_in = slice_get_within list i v at_i in
              let k_in = slice_get_within list k w at_k in
              let (x, x_at) = some_value news i (omega (arith, len)) in
              let (y, y_at) = some_value news k (omega (arith, len)) in
              let told = views_told d part ((first + j) + 1) v w x y (s.keep i x x_at) (s.keep k y y_at)
              ((holds i v at_i).1 x x_at) ((holds k w at_k).1 y y_at) same in
              s.apart i k x y x_at y_at told.0 told.1;
        };
        past = omega (arith, len);
      })
