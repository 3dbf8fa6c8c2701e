-- The last layer is the alphabet, and the first one.
use Rattle.std.proofs.Common.{◌≡◌, ◌≢◌, ℕ, ◌+◌, ◌*◌, ◌^◌, ◌<◌, ◌≤◌, ◌↔◌, zero, suc, Bool, false, List, [], ◌∷◌, ◌++◌}
use Rattle.std.proofs.Common.{length, slice_get, slice_index, sum, Some, refl, sym, ◌∙◌, ap, subst, inl, inr, arith}
use Rattle.std.proofs.Math.ListN.{replicate}
use Rattle.std.proofs.lemmas.Option.{slice_get_within, get_or_from_slice_get}
use Rattle.std.proofs.lemmas.List.{length-replicate, length_push}
use Rattle.std.proofs.lemmas.List.Sums.{sum_by_push}
use Rattle.station_graph.specs.declared.limits.TheConstants.{BAY_SWITCHES}
use Rattle.station_graph.specs.Diagram.{Diagram, AreSwitchesOf}
use Rattle.station_graph.specs.Sharing.{OfPart}
use Rattle.station_graph.specs.Alike.{IsVector}
use Rattle.station_graph.proofs.LinkedLemmas.{linked_self}
use Rattle.contraction.specs.Answers.{Answers, IsContraction, Keeps}
use Rattle.contraction.specs.Stands.{StandsFor}
use Rattle.contraction.proofs.ItemSets.{stands_over}
use Rattle.part_alphabets.specs.declared.limits.TheConstants.{CONTRACTIONS, LETTERS}
use Rattle.part_alphabets.specs.declared.fork.Fork.{Fork}
use Rattle.part_alphabets.specs.Layers.{OfLayer, IsBase, IsKept, digit, rank, bits}
use Rattle.part_alphabets.specs.Diagrams.{ForkGoes, ForksLeadTo}
use Rattle.bay_contract.specs.Sorting.{KeepsAt}
use Rattle.bay_contract.specs.Building.{IsBuilt}
use Rattle.bay_contract.proofs.Layers.{IsLayer, AreExamples}
use Rattle.std.proofs.lemmas.Bool.{cases_lt, cases_eq}
use Rattle.station_graph.specs.Diagram.{IsStation}
use Rattle.station_graph.specs.Connection.{a_switch}
use Rattle.part_alphabets.specs.Layers.{SameLayer}
use Rattle.part_alphabets.specs.Counting.{AreSoMany, ArePast, StepFits, PartFits, PartIsPast, AreStepSizes}
use Rattle.bay_contract.specs.Building.{AreReversed}
use Rattle.bay_contract.proofs.RankLemmas.{digit_small}
use Rattle.bay_contract.proofs.NextLemmas.{some_at}
use Rattle.bay_contract.proofs.LayerLemmas.{base_over, part_over, kept_at_end}
use Rattle.bay_contract.proofs.DiagramLemmas.{leads_one}
use Rattle.bay_contract.proofs.ForkLemmas.{get_push_old, get_push_new}
use Rattle.bay_contract.proofs.ViewIndexLemmas.{layer_counts}

only_one : (c x : Answers) (i : ℕ) → slice_get (c ∷ []) i ≡ Some x → (i ≡ 0) × (c ≡ x)
only_one c x zero e = (refl, cc)
only_one c x (suc i) e = cc

-- THE BASE IS THE FIRST LAYER
pub layer_zero : (d : Diagram) (part first count : ℕ) (c : Answers) → AreSwitchesOf d part first count
    → IsContraction c → ((n : ℕ) → Keeps c.kept n ↔ IsKept d part first n) → ((v : List Bool)
    → StandsFor (IsBase d part) d v c) → IsLayer d part first 0 (c ∷ []) (0 ∷ []) []
layer_zero d part first count c are is kept stands =
    let e : first ≡ first + 0 = omega arith in
    record {
      keep = λ i x at. subst (λ (y : Answers). KeepsAt d part (first + 0) y) (only_one c x i at).1 (subst
          (λ n. KeepsAt d part n c) e (record { value = is; kept = kept }));
      apart = λ i k x y at_i at_k gap load. (only_one c x i at_i).0 ∙ sym (only_one c y k at_k).0;
      stops = λ v vec. record {
        index = 0;
        value = c;
        listed = refl;
        leads = linked_self (ForkGoes [] v) 0;
        stands = subst (λ n. StandsFor (OfLayer d part n) d v c) e (stands_over (IsBase d part)
            (OfLayer d part first) d v c (base_over d part first count are) (stands v));
        least = omega arith;
      };
      ranks_count = refl;
      rises = λ j k lt in_k. absurd (omega arith);
      ranked = λ i lt v vec r. (let here : 0 ≡ i = omega arith in subst (λ n. ForksLeadTo [] v n) here (linked_self
          (ForkGoes [] v) 0));
      rank_in = λ i lt. let here : i ≡ 0 = omega arith in let zero_at : slice_index (0 ∷ []) i ≡ 0 = ap (slice_index
          (0 ∷ [])) here in (
            replicate (length d.switches) false,
            length-replicate
                (length d.switches) false,
            sym zero_at,
          );
      fit = λ a f at. cc;
      staged = record {
        start = λ f at. cc;
        none = λ e. refl;
        inside = λ a f at. cc;
        next = λ a f g closed at at_next. cc;
        last = λ a f closed at past. cc;
      };
    }

-- THE LAST LAYER IS WHAT IS BUILT
pub alphabet_from_layer : (d : Diagram) (part first count : ℕ) (values : List Answers) (ranks examples : List ℕ)
    (forks : List Fork) → AreSwitchesOf d part first count → IsLayer d part first count values ranks forks
    → AreExamples d first count ranks examples → length examples ≡ length ranks → 0 < length values
    → length values ≤ LETTERS → IsBuilt d part first count values examples forks
alphabet_from_layer d part first count values ranks examples forks are h ex ex_len some few =
    let in_ranks : (i : ℕ) → i < length values → i < length ranks = λ i lt. omega (arith, h.ranks_count) in
    let index_in : (v : List Bool) → IsVector d v → (i : ℕ) → ForksLeadTo forks v i → i < length values = λ v vec i l.
    let s = h.stops v vec in
    let e = leads_one forks v i s.index l s.leads in
    omega (arith, slice_get_within values s.index s.value s.listed) in
    let to_rank : (i : ℕ) (v : List Bool) → i < length values → IsVector d v
    → bits first count v ≡ slice_index examples i → rank first count v ≡ slice_index ranks i = λ i v lt vec b.
    (ex i v (in_ranks i lt) vec).1 b in
    let standing : (v : List Bool) (i : ℕ) (c : Answers) → IsVector d v → ForksLeadTo forks v i
    → slice_get values i ≡ Some c → StandsFor (OfPart d part) d v c = λ v i c vec l at.
    let s = h.stops v vec in
    let e : s.index ≡ i = leads_one forks v s.index i s.leads l in
    let one : s.value ≡ c = cc (s.listed, ap (slice_get values) e, at) in
    stands_over (OfLayer d part (first + count)) (OfPart d part) d v c
    (λ item is. part_over d part first count are item) (subst (λ (y : Answers). StandsFor (OfLayer d part
    (first + count)) d v y) one s.stands) in
    record {
      switches = are;
      size = (some, few);
      contractions = λ i c at. (h.keep i c at).value;
      apart = h.apart;
      kept = λ i c at n.
          let k = (h.keep i c at).kept n in
          let e = kept_at_end d part first count are n in
          (λ x. e.0 (k.0 x), λ x. k.1 (e.1 x));
      leads = λ v vec. let s = h.stops v vec in (s.index, slice_get_within values s.index s.value s.listed, s.leads);
      one = λ v i k p q. leads_one forks v i k p q;
      stands = standing;
      examples_count = ex_len ∙ h.ranks_count;
      example_some = λ i lt. let (v, vec, r) = h.rank_in i lt in (v, vec, (ex i v (in_ranks i lt) vec).0 r);
      example = λ i v lt vec b. h.ranked i lt v vec (to_rank i v lt vec b);
      least = λ i v w vec_v vec_w l b.
          let s = h.stops v vec_v in
          let e = leads_one forks v i s.index l s.leads in
          let r = to_rank i w (index_in v vec_v i l) vec_w b in
          let same_rank = ap (slice_index ranks) e in
          omega (arith, s.least);
      ordered = λ i k v w lt in_k vec_v vec_w bv bw.
          let rv = to_rank i v (omega arith) vec_v bv in
          let rw_is = to_rank k w in_k vec_w bw in
          let up = h.rises i k lt (omega (arith, h.ranks_count)) in
          omega arith;
      fit = h.fit;
    }

-- The numbers of distinct contractions before each of the first j switches, and their sum.
pub record AreSizes (d : Diagram) (part first j total : ℕ) : Type 0 where
  pub sizes : List ℕ
  pub one_each : length sizes ≡ j
  pub counted : (k : ℕ) → k < j → AreSoMany d (SameLayer d part (first + k)) (slice_index sizes k)
  pub all : sum sizes ≡ total

sizes_none : (d : Diagram) (part first total : ℕ) → total ≡ 0 → AreSizes d part first 0 total
sizes_none d part first total e = record {
  sizes = [];
  one_each = refl;
  counted = λ k lt. absurd (omega arith);
  all = sym e;
}

index_at : (xs : List ℕ) (i x : ℕ) → slice_get xs i ≡ Some x → slice_index xs i ≡ x
index_at xs i x h = get_or_from_slice_get xs i x 0 h

sizes_more : (d : Diagram) (part first j total more n : ℕ) → AreSizes d part first j total
    → AreSoMany d (SameLayer d part (first + j)) n → more ≡ total + n → AreSizes d part first (j + 1) more
sizes_more d part first j total more n h many e = record {
  sizes = h.sizes ++ n ∷ [];
  one_each = omega (arith, length_push h.sizes n, h.one_each);
  counted = λ k lt. elim (cases_lt k j) [
    | inl less ↦
        let (x, at) = some_at h.sizes k (omega (arith, h.one_each)) in
        let old : slice_index h.sizes k ≡ x = index_at h.sizes k x at in
        let new : slice_index (h.sizes ++ n ∷ []) k ≡ x = index_at (h.sizes ++ n ∷ []) k x
        (get_push_old h.sizes n x k at) in
        subst (λ m. AreSoMany d (SameLayer d part (first + k)) m) (old ∙ sym new) (h.counted k less)
    | inr more_than ↦
        let here : j ≡ k = omega arith in
        let place : length h.sizes ≡ k = h.one_each ∙ here in
        let new : slice_index (h.sizes ++ n ∷ []) k ≡ n = index_at (h.sizes ++ n ∷ []) k n (subst (λ m. slice_get
        (h.sizes ++ n ∷ []) m ≡ Some n) place (get_push_new h.sizes n)) in
        subst (λ m. AreSoMany d (SameLayer d part (first + k)) m) (sym new) (subst (λ m. AreSoMany d (SameLayer d part
        (first + m)) n) here many)
  ];
  all = sum_by_push (λ x. x) h.sizes n ∙ (ap (λ m. m + n) h.all ∙ sym e);
}

-- WHAT IS KNOWN AFTER SOME STEPS
pub record SoFar (d : Diagram) (part first count j : ℕ) (values : List Answers) (ranks : List ℕ)
    (forks : List Fork) : Type 0 where
  pub layer : IsLayer d part first j values ranks forks
  pub fits : (k : ℕ) → k ≤ j → StepFits d part first count k
  pub few : length values ≤ CONTRACTIONS
  pub last : j ≡ count → length values ≤ LETTERS
  pub steps : length forks ≤ CONTRACTIONS * j
  pub sizes : AreSizes d part first j (length forks)

step_fits : (d : Diagram) (part first count j : ℕ) (values : List Answers) (ranks : List ℕ) (forks : List Fork)
    → IsLayer d part first j values ranks forks → length values ≤ CONTRACTIONS → (j ≡ count → length values ≤ LETTERS)
    → StepFits d part first count j
step_fits d part first count j values ranks forks h few last = record {
  number = length values;
  counted = layer_counts d part first j values ranks forks h;
  on_the_way = few;
  at_end = last;
}

pub so_far_none : (d : Diagram) (part first count : ℕ) (values : List Answers) (ranks : List ℕ) (forks : List Fork)
    → IsLayer d part first 0 values ranks [] → length values ≡ 1 → forks ≡ []
    → SoFar d part first count 0 values ranks forks
so_far_none d part first count values ranks forks h one none =
    let h0 : IsLayer d part first 0 values ranks forks = subst (λ
    (l : List Fork). IsLayer d part first 0 values ranks l) (sym none) h in
    let empty : length forks ≡ 0 = ap length none in
    record {
      layer = h0;
      fits = λ k lt. (let here : 0 ≡ k = omega arith in subst (λ n. StepFits d part first count n) here
          (step_fits d part first count 0 values ranks forks h0 (omega arith) (λ e. omega arith)));
      few = omega arith;
      last = λ e. omega arith;
      steps = omega arith;
      sizes = sizes_none d part first (length forks) empty;
    }

pub so_far_next : (d : Diagram) (part first count j limit : ℕ) (values news : List Answers) (ranks newranks : List ℕ)
    (forks more : List Fork) → SoFar d part first count j values ranks forks → IsLayer d part first
    (j + 1) news newranks more → length news ≤ limit → length more ≡ length forks + length values → (j + 1 ≡ count
    → limit ≡ LETTERS) → limit ≤ CONTRACTIONS → SoFar d part first count (j + 1) news newranks more
so_far_next d part first count j limit values news ranks newranks forks more h next few added is_last most =
    let at_end : j + 1 ≡ count → length news ≤ LETTERS = λ e. (let l = is_last e in omega arith) in
    record {
      layer = next;
      fits = λ k le. elim (cases_lt k (j + 1)) [
        | inl less ↦ h.fits k (omega arith)
        | inr more_than ↦ (let here : j + 1 ≡ k = omega arith in subst (λ n. StepFits d part first count n) here
            (step_fits d part first count (j + 1) news newranks more next (omega arith) at_end))
      ];
      few = omega arith;
      last = at_end;
      steps = omega (arith, added, h.few, h.steps);
      sizes = sizes_more d part first j (length forks) (length more) (length values) h.sizes
          (layer_counts d part first j values ranks forks h.layer) added;
    }

pub so_far_past : (d : Diagram) (part first count j limit : ℕ) (values : List Answers) (ranks : List ℕ)
    (forks : List Fork) → AreSwitchesOf d part first count → SoFar d part first count j values ranks forks → j < count
    → ArePast d (SameLayer d part (first + (j + 1))) limit → (j + 1 ≡ count → limit ≡ LETTERS) → (j + 1 ≢ count
    → limit ≡ CONTRACTIONS) → PartIsPast d part (j + 1)
so_far_past d part first count j limit values ranks forks are h lt past is_last is_way = record {
  first = first;
  count = count;
  switches = are;
  within = (omega arith, omega arith);
  past = elim (cases_eq (j + 1) count) [
    | inl e ↦ inr (e, subst (λ n. ArePast d (SameLayer d part (first + (j + 1))) n) (is_last e) past)
    | inr ne ↦ inl (subst (λ n. ArePast d (SameLayer d part (first + (j + 1))) n) (is_way ne) past)
  ];
  before = λ k less. h.fits k (omega arith);
}

pub own_at : (d : Diagram) (part first count j : ℕ) → AreSwitchesOf d part first count → j < count
    → OfPart d part (a_switch (first + j))
own_at d part first count j are lt =
    let (x, at) = some_at d.switches (first + j) (omega (arith, are.within)) in
    (x, at, (are.those (first + j) x at).1 (omega arith, omega arith))

pub count_few : (d : Diagram) (part first count : ℕ) → IsStation d → AreSwitchesOf d part first count
    → count ≤ BAY_SWITCHES
count_few d part first count s are = let bay = s.items.each_bay_few part in omega (arith, are.counted)

-- positions as bits and ranks tell one another
pub bits_below_more : (p b e q : ℕ) → b < p → e < 2 → q ≡ 2 * p → b + e * p < q
bits_below_more p b zero q lb le e = omega arith
bits_below_more p b (suc zero) q lb le e = omega arith
bits_below_more p b (suc (suc n)) q lb le e = absurd (omega arith)

pub pow_more : (j : ℕ) → 2 ^ suc j ≡ 2 * 2 ^ j
pow_more j = grind arith

pub bits_below : (first j : ℕ) (v : List Bool) → bits first j v < 2 ^ j
bits_below first zero v = omega arith
bits_below first (suc j) v = bits_below_more (2 ^ j) (bits first j v) (digit (slice_get v (first + j))) (2 ^ suc j)
    (bits_below first j v) (digit_small (slice_get v (first + j))) (pow_more j)

pub split : (p b c e f : ℕ) → b < p → c < p → e < 2 → f < 2 → b + e * p ≡ c + f * p → (b ≡ c) × (e ≡ f)
split p b c zero zero lb lc le lf h = (omega arith, refl)
split p b c zero (suc zero) lb lc le lf h = absurd (omega arith)
split p b c (suc zero) zero lb lc le lf h = absurd (omega arith)
split p b c (suc zero) (suc zero) lb lc le lf h = (omega arith, refl)
split p b c (suc (suc n)) f lb lc le lf h = absurd (omega arith)
split p b c zero (suc (suc n)) lb lc le lf h = absurd (omega arith)
split p b c (suc zero) (suc (suc n)) lb lc le lf h = absurd (omega arith)

pub bits_tell : (first j : ℕ) (v w : List Bool) → bits first j v ≡ bits first j w → rank first j v ≡ rank first j w
bits_tell first zero v w h = refl
bits_tell first (suc j) v w h =
    let s = split (2 ^ j) (bits first j v) (bits first j w) (digit (slice_get v (first + j))) (digit (slice_get w
    (first + j))) (bits_below first j v) (bits_below first j w) (digit_small (slice_get v (first + j)))
    (digit_small (slice_get w (first + j))) h in
    let r = bits_tell first j v w s.0 in
    omega (arith, s.1)

pub examples_from : (d : Diagram) (part first count : ℕ) (values : List Answers) (ranks examples : List ℕ)
    (forks : List Fork) → IsLayer d part first count values ranks forks → AreReversed count ranks examples
    → AreExamples d first count ranks examples
examples_from d part first count values ranks examples forks h r i v lt vec = (
  λ e. r.told i first v lt e,
  λ b.
      let (w, w_vec, w_rank) = h.rank_in i (omega (arith, h.ranks_count)) in
      let w_bits = r.told i first w lt w_rank in
      bits_tell first count v w (b ∙ sym w_bits) ∙ w_rank,
)

pub so_far_alphabet : (d : Diagram) (part first count j : ℕ) (values : List Answers) (ranks examples : List ℕ)
    (forks : List Fork) → AreSwitchesOf d part first count → j ≡ count → SoFar d part first count j values ranks forks
    → AreReversed count ranks examples → IsBuilt d part first count values examples forks
so_far_alphabet d part first count j values ranks examples forks are e h r =
    let layer : IsLayer d part first count values ranks forks = subst
    (λ n. IsLayer d part first n values ranks forks) e h.layer in
    let st = layer.stops (replicate (length d.switches) false) (length-replicate (length d.switches) false) in
    alphabet_from_layer d part first count values ranks examples forks are layer
    (examples_from d part first count values ranks examples forks layer r) r.len (omega
    (arith, slice_get_within values st.index st.value st.listed)) (h.last e)

pub so_far_fits : (d : Diagram) (part first count j : ℕ) (values : List Answers) (ranks : List ℕ) (forks : List Fork)
    → AreSwitchesOf d part first count → j ≡ count → SoFar d part first count j values ranks forks → PartFits d part
so_far_fits d part first count j values ranks forks are e h = record {
  first = first;
  count = count;
  switches = are;
  steps = λ k le. h.fits k (omega arith);
}

pub so_far_sizes : (d : Diagram) (part first count j : ℕ) (values : List Answers) (ranks : List ℕ) (forks : List Fork)
    → AreSwitchesOf d part first count → j ≡ count → SoFar d part first count j values ranks forks
    → AreStepSizes d part (length forks)
so_far_sizes d part first count j values ranks forks are e h = record {
  first = first;
  count = count;
  switches = are;
  sizes = h.sizes.sizes;
  one_each = h.sizes.one_each ∙ e;
  counted = λ k lt. h.sizes.counted k (omega arith);
  all = h.sizes.all;
}

-- an example is a position
pub examples_small : (d : Diagram) (part first count : ℕ) (values : List Answers) (examples : List ℕ)
    (forks : List Fork) → IsBuilt d part first count values examples forks → (i : ℕ) → i < length values
    → slice_index examples i < 2 ^ count
examples_small d part first count values examples forks b i lt =
    let (v, vec, s) = b.example_some i lt in
    subst (λ n. n < 2 ^ count) s (bits_below first count v)
