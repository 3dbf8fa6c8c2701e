-- THE MERGED GRAPH OF A VIEW LEADS THROUGH THE INNER ONES to labels that say what holds.
use Rattle.std.proofs.Common.{◌≡◌, ℕ, ◌+◌, ◌<◌, ◌⊎◌, zero, suc, Bool, List, [], ◌∷◌, length, drop, get_or, slice_get}
use Rattle.std.proofs.Common.{Some, map, refl, sym, ap, ◌∙◌, subst, inl, inr, arith}
use Rattle.std.proofs.lemmas.List.{length-map}
use Rattle.std.proofs.lemmas.Option.{slice_get_within}
use Rattle.decision_graphs.specs.Label.{Layer, Layered, layer_at, label_of, AreChoices, AreLayers, AreReduced}
use Rattle.judge_pool.specs.declared.view.View.{View}
use Rattle.judge_pool.specs.Lettered.{Lettered, letters_in}
use Rattle.judge_pool.specs.Folding.{AreChosen}
use Rattle.judge_pool.specs.Graphs.{other_of, PartChosen, SwitchChosen, LabelSays, IsOuter}
use Rattle.judge_graphs.specs.Built.{ViewOf, AreViewGraphs, IsInnerAt}
use Rattle.judge_graphs.specs.PartnerLabels.{AreOne, AreLeastLabels, IsMerged, IsRenamed}
use Rattle.judge_graphs.specs.Through.{IsOfOthers, SaysThrough}
use Rattle.judge_graphs.proofs.PartnerChoices.{label_below}

-- so many numbers, each a choice of its layer
choices_given : (ls : List Layer) (cs : List ℕ) → length cs ≡ length ls →
    ((i c : ℕ) → slice_get cs i ≡ Some c → c < (layer_at ls i).choices) → AreChoices ls cs
choices_given [] [] e h = tt
choices_given [] (c ∷ cs) e h = absurd (omega (arith, e))
choices_given (l ∷ ls) [] e h = absurd (omega (arith, e))
choices_given (l ∷ ls) (c ∷ cs) e h =
    (h 0 c refl, choices_given ls cs (omega (arith, e)) (λ i d at. h (suc i) d at))

choices_at : (ms ls : List Layer) → map (λ (l : Layer). l.choices) ms ≡ map (λ (l : Layer). l.choices) ls → (j : ℕ) →
    (layer_at ms j).choices ≡ (layer_at ls j).choices
choices_at [] [] e j = refl
choices_at [] (l ∷ ls) e j = absurd (let h : ⊥ = cc in h)
choices_at (m ∷ ms) [] e j = absurd (let h : ⊥ = cc in h)
choices_at (m ∷ ms) (l ∷ ls) e zero = cc
choices_at (m ∷ ms) (l ∷ ls) e (suc j) =
    let tail : map (λ (l : Layer). l.choices) ms ≡ map (λ (l : Layer). l.choices) ls = cc in
    choices_at ms ls tail j

layer_after : (ls : List Layer) (i : ℕ) → layer_at (drop 1 ls) i ≡ layer_at ls (suc i)
layer_after [] i = refl
layer_after (l ∷ ls) i = refl

count_after : (ls : List Layer) (others : ℕ) → length ls ≡ suc others → length (drop 1 ls) ≡ others
count_after [] others e = absurd (omega (arith, e))
count_after (l ∷ ls) others e = omega (arith, e)

some_or_none : (ls : List Layer) → (ls ≡ []) ⊎ (0 < length ls)
some_or_none [] = inl refl
some_or_none (l ∷ ls) = inr (omega arith)

-- an outer graph in which each label is its own name
pub renamed_self : (outer : Layered) (names : List ℕ) → AreLayers outer.labels outer.layers →
    ((x : ℕ) → x < outer.labels → get_or names x 0 ≡ x) → IsRenamed outer names outer
renamed_self outer names fits own = record {
  choices = refl;
  label = λ some cs fit. sym (own (label_of outer cs) (label_below outer cs fits fit));
}

-- it is merged as it is
pub merged_self : (outer : Layered) (inners : List Layered) (names : List ℕ) →
    AreLeastLabels inners outer.labels names → AreLayers outer.labels outer.layers → AreReduced outer.layers →
    ((x : ℕ) → x < outer.labels → get_or names x 0 ≡ x) → IsMerged outer inners outer
merged_self outer inners names least fits reduced own = record {
  names = names;
  least = least;
  renamed = renamed_self outer names fits own;
  labels = refl;
  reduced = reduced;
  fits = fits;
}

module _ (outer : Layered) (inners : List Layered) (merged : Layered) (m : IsMerged outer inners merged)
    (fits : AreLayers outer.labels outer.layers) where
  pub merged_count : length merged.layers ≡ length outer.layers
  merged_count =
      sym (length-map merged.layers (λ (l : Layer). l.choices))
      ∙ (ap length m.renamed.choices ∙ length-map outer.layers (λ (l : Layer). l.choices))

  -- no inner graph tells the labels apart to which the two lead
  pub leads_as_one : (cs : List ℕ) → AreChoices outer.layers cs → AreOne inners (label_of merged cs) (label_of outer cs)
  leads_as_one cs fit = elim (some_or_none outer.layers) [
    | inr some ↦
        (let least = m.least.each (label_of outer cs) (label_below outer cs fits fit) in
        subst (λ x. AreOne inners x (label_of outer cs)) (sym (m.renamed.label some cs fit)) least.one)
    | inl none ↦
        (let no_layers : merged.layers ≡ [] = empty merged.layers (merged_count ∙ ap length none) in
        let here : label_of merged cs ≡ 0 = ap (λ (ls : List Layer). label_of (record { labels = merged.labels; layers = ls }) cs) no_layers in
        let there : label_of outer cs ≡ 0 = ap (λ (ls : List Layer). label_of (record { labels = outer.labels; layers = ls }) cs) none in
        subst (λ x. AreOne inners x (label_of outer cs)) (there ∙ sym here) (λ i g at ds fit_ds. refl))
  ]
    where
      empty : (ls : List Layer) → length ls ≡ 0 → ls ≡ []
      empty [] e = refl
      empty (l ∷ ls) e = absurd (omega (arith, e))

module _ (view : View) (a : Lettered) (b first count : ℕ) (g : ViewOf)
    (graphs : AreViewGraphs view a b first count g) where
  outer_is : IsOuter view a b g.outer graphs.unmerged.names
  outer_is = graphs.unmerged.outer

  pub merged_is : IsOfOthers a b g.merged
  merged_is =
      let same = merged_count g.outer g.inner g.merged graphs.merged outer_is.fits in
      record {
        fits = graphs.merged.fits;
        count = ap suc same ∙ outer_is.count;
        choices = λ j lt.
            choices_at g.merged.layers g.outer.layers graphs.merged.renamed.choices j
            ∙ outer_is.choices j (omega (arith, lt, same));
      }

  -- the choices that a vector gives are choices of the graph
  given : (v : List Bool) (cs : List ℕ) → length cs ≡ length g.outer.layers → AreChosen (PartChosen a b) v cs →
      AreChoices g.outer.layers cs
  given v cs len chosen = choices_given g.outer.layers cs len (λ i c at.
      let has = chosen i c at in
      let within : c < length (letters_in a (other_of 0 b i)) =
      slice_get_within (letters_in a (other_of 0 b i)) c has.letter has.listed in
      omega (arith, within, outer_is.choices i (omega (arith, slice_get_within cs i c at, len))))

  module _ (i : ℕ) (h : Layered) (at : slice_get g.inner i ≡ Some h)
      (is : IsInnerAt view a b first count graphs.unmerged.names i h) where
    given_own : (v : List Bool) (ds : List ℕ) → length ds ≡ is.others → AreChosen (SwitchChosen first (first + i)) v ds →
        AreChoices (drop 1 h.layers) ds
    given_own v ds len chosen =
        choices_given (drop 1 h.layers) ds (len ∙ sym (count_after h.layers is.others is.graph.count)) (λ k c at_d.
        let has = chosen k c at_d in
        let two : (layer_at (drop 1 h.layers) k).choices ≡ 2 =
        ap (λ (l : Layer). l.choices) (layer_after h.layers k)
        ∙ is.graph.choices k (omega (arith, slice_get_within ds k c at_d, len)) in
        omega (arith, has.small, two))

    pub merged_says : SaysThrough view a b (first + i) first is.others g.merged h
    merged_says = record {
      fits = is.graph.fits;
      count = is.graph.count;
      first_choices = is.graph.outer ∙ (outer_is.labels ∙ sym graphs.merged.labels);
      choices = is.graph.choices;
      says = λ v cs ds whole len chosen len_ds own.
          let same = merged_count g.outer g.inner g.merged graphs.merged outer_is.fits in
          let fit = given v cs (len ∙ same) chosen in
          let named = outer_is.named v cs whole (len ∙ same) chosen in
          let one = leads_as_one g.outer g.inner g.merged graphs.merged outer_is.fits cs fit in
          subst (λ x. LabelSays view a.diagram (first + i) v x) (sym (one i h at ds (given_own v ds len_ds own)))
          (is.graph.says v (label_of g.outer cs) ds whole named len_ds own);
    }
