-- How many edges the graphs of a bay have: what is known of some layers or switches is known of all.
use Rattle.std.proofs.Common.{◌≡◌, ℕ, ◌+◌, ◌*◌, ◌<◌, zero, suc, Bool, List, [], ◌∷◌, ◌++◌, refl, sym, ◌∙◌, subst, inl}
use Rattle.std.proofs.Common.{inr, arith}
use Rattle.std.proofs.lemmas.List.{length_push}
use Rattle.std.proofs.lemmas.List.Sums.{sum_by_push}
use Rattle.std.proofs.lemmas.Option.{slice_get_within}
use Rattle.station_graph.specs.Diagram.{Diagram}
use Rattle.station_graph.specs.Alike.{IsVector, Alike}
use Rattle.station_graph.proofs.PathLemmas.{slice_get-push}
use Rattle.part_alphabets.specs.Counting.{AreSoMany}
use Rattle.part_alphabets.specs.PartAlphabets.{Alphabets, size_of}
use Rattle.part_alphabets.specs.Alphabets.{HasIndex, IsAlphabet}
use Rattle.bay_contract.proofs.IndexLemmas.{letters_in, index_alike}
use Rattle.contraction.proofs.ListedLemmas.{list_of}
use Rattle.judge_pool.specs.declared.view.View.{View}
use Rattle.judge_pool.specs.Graphs.{other_of}
use Rattle.judge_pool.specs.Counted.{Size, edges_in, AreAtLeast, SameOuter, SameInner, OuterHas, InnerHas}
use Rattle.judge_pool.specs.Counted.{SwitchHas, SwitchesHave, ViewHas}
use Rattle.judge_pool.proofs.CountLemmas.{at_least_of, at_least_none}

-- AN ALPHABET COUNTS THE DISTINCT CONTRACTIONS OF ITS PART
pub alphabet_counts : (d : Diagram) (a : Alphabets) (part : ℕ) → IsAlphabet d a part →
    AreSoMany d (Alike d part) (size_of a part)
alphabet_counts d a part al =
    let letters = letters_in d a part al in
    let (list, len, holds, some) =
    list_of (λ i v. IsVector d v × HasIndex d a part i v) (size_of a part)
    (λ i lt. let (v, whole, at) = al.given i lt in (v, (whole, (al.examples i lt).has v whole at))) in
    record {
      list = list;
      distinct = record {
        vectors = λ i v at. (holds i v at).0;
        apart =
            λ i k v w at_i at_k same. (index_alike d a part letters v w i k (holds i v at_i).1 (holds k w at_k).1).0
            same;
      };
      all = λ v whole.
          let (i, has) = al.indexed v whole in
          let (w, at) = some i (slice_get_within _ i has.letter has.listed) in
          record {
            place = i;
            entry = w;
            listed = at;
            same = (index_alike d a part letters v w i i has (holds i w at).1).1 refl;
          };
      count = len;
    }

-- ---- from exactly so many to at least so many

module _ (view : View) (d : Diagram) (b : ℕ) where
  pub outer_at_least : (n edges : ℕ) → OuterHas view d b n (AreSoMany d) edges →
      OuterHas view d b n (AreAtLeast d) edges
  outer_at_least n edges h = record {
    sizes = h.sizes;
    len = h.len;
    views = λ j s at. at_least_of d (SameOuter view d b j) s.views (h.views j s at);
    indices = h.indices;
    all = h.all;
  }

  switch_at_least : (m first count edges : ℕ) → SwitchHas view d b m first count (AreSoMany d) edges →
      SwitchHas view d b m first count (AreAtLeast d) edges
  switch_at_least m first count edges h = record {
    others = h.others;
    one_more = h.one_more;
    inner = record {
      sizes = h.inner.sizes;
      len = h.inner.len;
      views = λ i size at. at_least_of d (SameInner view d b m first h.others i) size (h.inner.views i size at);
      all = h.inner.all;
    };
  }

  pub switches_at_least : (first count n edges : ℕ) → SwitchesHave view d b first count n (AreSoMany d) edges →
      SwitchesHave view d b first count n (AreAtLeast d) edges
  switches_at_least first count n edges h = record {
    each = h.each;
    len = h.len;
    graphs = λ i size at. switch_at_least (first + i) first count size (h.graphs i size at);
    all = h.all;
  }

  pub view_at_least : (first count edges : ℕ) → ViewHas view d b first count (AreSoMany d) edges →
      ViewHas view d b first count (AreAtLeast d) edges
  view_at_least first count edges h = record {
    others = h.others;
    one_more = h.one_more;
    outer_edges = h.outer_edges;
    inner_edges = h.inner_edges;
    outer = outer_at_least h.others h.outer_edges h.outer;
    inner = switches_at_least first count count h.inner_edges h.inner;
    all = h.all;
  }

  -- ---- one more layer, one more switch

  outer_more : (Many : (List Bool → List Bool → Type 0) → ℕ → Type 0) (n edges views choices : ℕ) →
      OuterHas view d b n Many edges → Many (SameOuter view d b n) views →
      AreSoMany d (Alike d (other_of 0 b n)) choices → OuterHas view d b (suc n) Many (edges + views * choices)
  outer_more Many n edges views choices h many indices =
      let new : Size = record { views = views; choices = choices } in
      record {
        sizes = h.sizes ++ new ∷ [];
        len = omega (arith, length_push h.sizes new, h.len);
        views = λ j s at. elim (slice_get-push h.sizes new s j at) [
          | inl before ↦ h.views j s before
          | inr here ↦
              subst (λ (z : Size). Many (SameOuter view d b j) z.views) here.1
              (subst (λ k. Many (SameOuter view d b k) views) (sym (here.0 ∙ h.len)) many)
        ];
        indices = λ j s at. elim (slice_get-push h.sizes new s j at) [
          | inl before ↦ h.indices j s before
          | inr here ↦
              subst (λ (z : Size). AreSoMany d (Alike d (other_of 0 b j)) z.choices) here.1
              (subst (λ k. AreSoMany d (Alike d (other_of 0 b k)) choices) (sym (here.0 ∙ h.len)) indices)
        ];
        all = omega (arith, sum_by_push edges_in h.sizes new, h.all);
      }

  pub switches_more : (Many : (List Bool → List Bool → Type 0) → ℕ → Type 0) (first count n edges size : ℕ) →
      SwitchesHave view d b first count n Many edges → SwitchHas view d b (first + n) first count Many size →
      SwitchesHave view d b first count (n + 1) Many (edges + size)
  switches_more Many first count n edges size h new = record {
    each = h.each ++ size ∷ [];
    len = omega (arith, length_push h.each size, h.len);
    graphs = λ i k at. elim (slice_get-push h.each size k i at) [
      | inl before ↦ h.graphs i k before
      | inr here ↦
          subst (λ z. SwitchHas view d b (first + i) first count Many z) here.1
          (subst (λ z. SwitchHas view d b (first + z) first count Many size) (sym (here.0 ∙ h.len)) new)
    ];
    all = omega (arith, sum_by_push (λ (x : ℕ). x) h.each size, h.all);
  }

  pub switches_none : (Many : (List Bool → List Bool → Type 0) → ℕ → Type 0) (first count : ℕ) →
      SwitchesHave view d b first count 0 Many 0
  switches_none Many first count = record { each = []; len = refl; graphs = λ i size at. cc; all = refl }

  -- ---- where there are at least so many edges in some layers, there are in all

  inner_more : (m first others n edges : ℕ) → InnerHas view d b m first others n (AreAtLeast d) edges →
      InnerHas view d b m first others (suc n) (AreAtLeast d) edges
  inner_more m first others n edges h = record {
    sizes = h.sizes ++ 0 ∷ [];
    len = omega (arith, length_push h.sizes 0, h.len);
    views = λ i size at. elim (slice_get-push h.sizes 0 size i at) [
      | inl before ↦ h.views i size before
      | inr here ↦
          subst (λ z. AreAtLeast d (SameInner view d b m first others i) z) here.1
          (at_least_none d (SameInner view d b m first others i))
    ];
    all = omega (arith, sum_by_push (λ (x : ℕ). x) h.sizes 0, h.all);
  }

  pub inner_all : (m first others more n edges : ℕ) → InnerHas view d b m first others n (AreAtLeast d) edges →
      InnerHas view d b m first others (n + more) (AreAtLeast d) edges
  inner_all m first others zero n edges h =
      (let e : n ≡ n + 0 = omega arith in subst (λ k. InnerHas view d b m first others k (AreAtLeast d) edges) e h)
  inner_all m first others (suc more) n edges h =
      let e : suc n + more ≡ n + suc more = omega arith in
      subst (λ k. InnerHas view d b m first others k (AreAtLeast d) edges) e
      (inner_all m first others more (suc n) edges (inner_more m first others n edges h))

  inner_none : (m first others n : ℕ) → InnerHas view d b m first others n (AreAtLeast d) 0
  inner_none m first others n =
      (let e : 0 + n ≡ n = omega arith in
      subst (λ k. InnerHas view d b m first others k (AreAtLeast d) 0) e
      (inner_all m first others n 0 0 (record { sizes = []; len = refl; views = λ i size at. cc; all = refl })))

  pub outer_all : (more n edges : ℕ) →
      ((j : ℕ) → j < n + more → (choices : ℕ) × AreSoMany d (Alike d (other_of 0 b j)) choices) →
      OuterHas view d b n (AreAtLeast d) edges → OuterHas view d b (n + more) (AreAtLeast d) edges
  outer_all zero n edges indices h =
      (let e : n ≡ n + 0 = omega arith in subst (λ k. OuterHas view d b k (AreAtLeast d) edges) e h)
  outer_all (suc more) n edges indices h =
      let (choices, are) = indices n (omega arith) in
      let next = outer_more (AreAtLeast d) n edges 0 choices h (at_least_none d (SameOuter view d b n)) are in
      let same : edges + 0 * choices ≡ edges = omega arith in
      let e : suc n + more ≡ n + suc more = omega arith in
      subst (λ k. OuterHas view d b k (AreAtLeast d) edges) e
      (outer_all more (suc n) edges (λ j lt. indices j (omega (arith, lt)))
      (subst (λ k. OuterHas view d b (suc n) (AreAtLeast d) k) same next))

  pub outer_none : (n : ℕ) → ((j : ℕ) → j < n → (choices : ℕ) × AreSoMany d (Alike d (other_of 0 b j)) choices) →
      OuterHas view d b n (AreAtLeast d) 0
  outer_none n indices =
      (let e : 0 + n ≡ n = omega arith in
      subst (λ k. OuterHas view d b k (AreAtLeast d) 0) e (outer_all n 0 0 (λ j lt. indices j (omega (arith, lt)))
      (record { sizes = []; len = refl; views = λ j s at. cc; indices = λ j s at. cc; all = refl })))

  pub switches_all : (first count more n edges others : ℕ) → suc others ≡ count →
      SwitchesHave view d b first count n (AreAtLeast d) edges →
      SwitchesHave view d b first count (n + more) (AreAtLeast d) edges
  switches_all first count zero n edges others e h =
      (let same : n ≡ n + 0 = omega arith in
      subst (λ k. SwitchesHave view d b first count k (AreAtLeast d) edges) same h)
  switches_all first count (suc more) n edges others e h =
      let new : SwitchHas view d b (first + n) first count (AreAtLeast d) 0 = record {
        others = others;
        one_more = e;
        inner = inner_none (first + n) first others others;
      } in
      let next = switches_more (AreAtLeast d) first count n edges 0 h new in
      let same : edges + 0 ≡ edges = omega arith in
      let all : (n + 1) + more ≡ n + suc more = omega arith in
      subst (λ k. SwitchesHave view d b first count k (AreAtLeast d) edges) all
      (switches_all first count more (n + 1) edges others e
      (subst (λ k. SwitchesHave view d b first count (n + 1) (AreAtLeast d) k) same next))

  -- no edge at all
  pub switches_zero : (first count : ℕ) → SwitchesHave view d b first count count (AreAtLeast d) 0
  switches_zero first zero = switches_none (AreAtLeast d) first zero
  switches_zero first (suc others) =
      (let e : 0 + suc others ≡ suc others = omega arith in
      subst (λ k. SwitchesHave view d b first (suc others) k (AreAtLeast d) 0) e (switches_all first (suc others)
      (suc others) 0 0 others refl (switches_none (AreAtLeast d) first (suc others))))
