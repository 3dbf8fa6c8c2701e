-- The graphs of one view of a switch, ready for sets and words.
use Rattle.std.proofs.Common.{◌≡◌, ℕ, ◌+◌, ◌-◌, ◌<◌, ◌≤◌, ◌⊎◌, zero, suc, Bool, List, [], ◌∷◌, length, map, get_or}
use Rattle.std.proofs.Common.{slice_get, Some, refl, sym, ap, ◌∙◌, subst, inl, inr, arith}
use Rattle.std.proofs.lemmas.Bool.{cases_lt}
use Rattle.std.proofs.lemmas.Option.{slice_get-get_or}
use Rattle.ilk_base.specs.declared.words.Dbpos.{Dbpos}
use Rattle.station_graph.specs.Diagram.{Diagram, AreSwitchesOf}
use Rattle.station_graph.specs.Connection.{a_switch}
use Rattle.station_graph.specs.Sharing.{OfPart}
use Rattle.contraction.specs.Answers.{Answers}
use Rattle.decision_graphs.specs.Label.{Layer, Layered, layer_at}
use Rattle.decision_graphs.specs.Reaching.{AreSetsOf, IsSet, set_at}
use Rattle.judge_pool.specs.declared.view.View.{View}
use Rattle.release_compile.specs.declared.search.Side.{Side}
use Rattle.judge_pool.specs.Lettered.{Lettered, index_count}
use Rattle.release_compile.specs.Chaining.{AreInARow, IsReady}
use Rattle.judge_pool.specs.Graphs.{other_of, IsInner, IsOwn}
use Rattle.release_compile.specs.Allowed.{OwnAllowed, IsSide}
use Rattle.judge_intake.specs.Coding.{labels_of}
use Rattle.judge_graphs.specs.Built.{ViewOf, AreInner, AreViewGraphs}
use Rattle.judge_graphs.specs.Through.{IsOfOthers, SaysThrough}
use Rattle.judge_graphs.proofs.MergedLemmas.{merged_says}
use Rattle.release_compile.proofs.VerdictLemmas.{set_in, sets_at}

-- the inner graph of a switch of the bay
pub record HasInner (view : View) (a : Lettered) (b m first others : ℕ) (names : List Answers)
    (h : Layered) : Type 0 where
  pub graph : IsInner view a b m first others names h
  pub labels : h.labels ≡ labels_of view

pub inner_of : (view : View) (a : Lettered) (b m first others : ℕ) (names : List Answers) (graphs : List Layered)
    (h : Layered) → AreInner view a b first (suc others) names graphs (suc others) → first ≤ m →
    slice_get graphs (m - first) ≡ Some h → HasInner view a b m first others names h
inner_of view a b m first others names graphs h are low at =
    let x = are.each (m - first) h at in
    let same : x.others ≡ others = omega (arith, x.one_more) in
    let here : first + (m - first) ≡ m = omega (arith, low) in
    record {
      graph =
          subst (λ n. IsInner view a b m first n names h) same
          (subst (λ k. IsInner view a b k first x.others names h) here x.graph);
      labels = x.labels;
    }

-- the inner graph that stands at the place of the switch
listed_at : (view : View) (a : Lettered) (b m first others : ℕ) → IsOwn a.diagram b m first others →
    (g : ViewOf) → AreViewGraphs view a b first (suc others) g → (i : ℕ) (h : Layered) → i ≡ m - first →
    h ≡ get_or g.inner i h → slice_get g.inner (m - first) ≡ Some h
listed_at view a b m first others own g gs i h place is =
    let lt : i < length g.inner = omega (arith, place, own.from, own.below, gs.unmerged.inner.len) in
    ap (slice_get g.inner) (sym place) ∙ (slice_get-get_or g.inner i h lt ∙ ap Some (sym is))

pub inner_at : (view : View) (a : Lettered) (b m first others : ℕ) → IsOwn a.diagram b m first others →
    (g : ViewOf) (gs : AreViewGraphs view a b first (suc others) g) (i : ℕ) (h : Layered) → i ≡ m - first →
    h ≡ get_or g.inner i h → HasInner view a b m first others gs.unmerged.names h
inner_at view a b m first others own g gs i h place is =
    inner_of view a b m first others gs.unmerged.names g.inner h gs.unmerged.inner own.from
    (listed_at view a b m first others own g gs i h place is)

-- what it says behind the merged outer graph
pub record SaysAt (view : View) (a : Lettered) (b m first others : ℕ) (g h : Layered) : Type 0 where
  pub graph : SaysThrough view a b m first others g h
  pub labels : h.labels ≡ labels_of view

pub says_at : (view : View) (a : Lettered) (b m first others : ℕ) → IsOwn a.diagram b m first others →
    (g : ViewOf) → AreViewGraphs view a b first (suc others) g → (i : ℕ) (h : Layered) → i ≡ m - first →
    h ≡ get_or g.inner i h → SaysAt view a b m first others g.merged h
says_at view a b m first others own g gs i h place is =
    let at = listed_at view a b m first others own g gs i h place is in
    let x = gs.unmerged.inner.each (m - first) h at in
    let same : x.others ≡ others = omega (arith, x.one_more) in
    let here : first + (m - first) ≡ m = omega (arith, own.from) in
    record {
      graph =
          subst (λ n. SaysThrough view a b m first n g.merged h) same
          (subst (λ k. SaysThrough view a b k first x.others g.merged h) here
          (merged_says view a b first (suc others) g gs (m - first) h at x));
      labels = x.labels;
    }

-- both in a row
pub in_a_row : (view : View) (a : Lettered) (b m first others : ℕ) (g h : Layered) →
    SaysThrough view a b m first others g h → AreInARow g h
in_a_row view a b m first others g h i = record { some = omega (arith, i.count); labels = i.first_choices }

-- a side of these graphs
pub side_is : (view : View) (a : Lettered) (b m first others : ℕ) (words : List Dbpos) (sets : List (List Bool))
    (s : Side) (g h : Layered) → IsOfOthers a b g → SaysThrough view a b m first others g h → s.outer.now ≡ g →
    s.inner.now ≡ h → IsReady s sets → OwnAllowed first m others words s.inner_sets →
    IsSide view a b m first others words sets s
side_is view a b m first others words sets s g h o i same_g same_h ready own = record {
  outer_is = subst (λ x. IsOfOthers a b x) (sym same_g) o;
  inner_is =
      subst (λ x. SaysThrough view a b m first others x s.inner.now) (sym same_g)
      (subst (λ x. SaysThrough view a b m first others g x) (sym same_h) i);
  ready = ready;
  own = own;
}

-- choices behind the first are two
pub two_choices : (view : View) (a : Lettered) (b m first others : ℕ) (g h : Layered) (sets : List (List Bool)) →
    SaysThrough view a b m first others g h → AreSetsOf h.layers sets → (i c : ℕ) → IsSet (set_at sets (suc i)) c →
    c < 2
two_choices view a b m first others g h sets inner fits i c is =
    let within = set_in (set_at sets (suc i)) c is in
    let len = sets_at h.layers sets (suc i) fits in
    elim (layer_cases i) [
      | inl lt ↦ omega (arith, within, len, inner.choices i lt)
      | inr past ↦ absurd (omega (arith, within, len, past))
    ]
  where
    past_none : (ls : List Layer) (j : ℕ) → length ls ≤ j → (layer_at ls j).choices ≡ 0
    past_none [] zero le = refl
    past_none [] (suc j) le = refl
    past_none (l ∷ ls) zero le = absurd (omega (arith, le))
    past_none (l ∷ ls) (suc j) le = past_none ls j (omega (arith, le))

    layer_cases : (k : ℕ) → (k < others) ⊎ ((layer_at h.layers (suc k)).choices ≡ 0)
    layer_cases k = elim (cases_lt k others) [
      | inl lt ↦ inl lt
      | inr more ↦ inr (past_none h.layers (suc k) (omega (arith, more, inner.count)))
    ]

-- layers with the same choices
choices_equal : (ls ms : List Layer) → length ls ≡ length ms →
    ((j : ℕ) → j < length ls → (layer_at ls j).choices ≡ (layer_at ms j).choices) →
    map (λ (l : Layer). l.choices) ls ≡ map (λ (l : Layer). l.choices) ms
choices_equal [] [] e same = refl
choices_equal [] (m ∷ ms) e same = absurd (omega (arith, e))
choices_equal (l ∷ ls) [] e same = absurd (omega (arith, e))
choices_equal (l ∷ ls) (m ∷ ms) e same =
    let head : l.choices ≡ m.choices = same 0 (omega arith) in
    let rest = choices_equal ls ms (omega (arith, e)) (λ j lt. same (suc j) (omega (arith, lt))) in
    ap (λ (k : ℕ). k ∷ map (λ (x : Layer). x.choices) ls) head ∙ ap (λ (ks : List ℕ). m.choices ∷ ks) rest

-- the sets of one outer graph are those of the other
pub other_sets : (a : Lettered) (b : ℕ) (g h : Layered) (sets : List (List Bool)) → IsOfOthers a b g →
    IsOfOthers a b h → AreSetsOf g.layers sets → AreSetsOf h.layers sets
other_sets a b g h sets og oh are =
    are
    ∙ choices_equal g.layers h.layers (omega (arith, og.count, oh.count))
    (λ j lt. og.choices j lt ∙ sym (oh.choices j (omega (arith, lt, og.count, oh.count))))

-- a layer in which something is allowed
pub set_layer : (ls : List Layer) (sets : List (List Bool)) → AreSetsOf ls sets → (j c : ℕ) → IsSet (set_at sets j) c →
    j < length ls
set_layer ls sets are j c is =
    let within = set_in (set_at sets j) c is in
    let len = sets_at ls sets j are in
    elim (cases_lt j (length ls)) [
      | inl lt ↦ lt
      | inr more ↦ absurd (omega (arith, within, len, none ls j more))
    ]
  where
    none : (ks : List Layer) (i : ℕ) → length ks ≤ i → (layer_at ks i).choices ≡ 0
    none [] zero le = refl
    none [] (suc i) le = refl
    none (l ∷ ks) zero le = absurd (omega (arith, le))
    none (l ∷ ks) (suc i) le = none ks i (omega (arith, le))

-- an allowed index is one of the part's
pub allowed_index : (a : Lettered) (b : ℕ) (g : Layered) (sets : List (List Bool)) → IsOfOthers a b g →
    AreSetsOf g.layers sets → (j c : ℕ) → IsSet (set_at sets j) c → c < index_count a (other_of 0 b j)
allowed_index a b g sets o are j c is =
    let within = set_in (set_at sets j) c is in
    let len = sets_at g.layers sets j are in
    let lt = set_layer g.layers sets are j c is in
    omega (arith, within, len, o.choices j lt)

-- a switch of the bay is one of its numbers
pub own_number : (d : Diagram) (b first count m : ℕ) → AreSwitchesOf d b first count → OfPart d b (a_switch m) →
    (first ≤ m) × (m < first + count)
own_number d b first count m are of_b = (are.those m of_b.0 of_b.1).0 of_b.2

pub own_is : (d : Diagram) (b first count others m : ℕ) → AreSwitchesOf d b first count → OfPart d b (a_switch m) →
    suc others ≡ count → IsOwn d b m first others
own_is d b first count others m are of_b one_more =
    let range = own_number d b first count m are of_b in
    record {
      those = subst (λ n. AreSwitchesOf d b first n) (sym one_more) are;
      from = range.0;
      below = omega (arith, range.1, one_more);
    }
