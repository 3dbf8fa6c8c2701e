-- Two values on a selection of the nodes that they keep: what is proved of their fields holds of their answers.
use Rattle.std.proofs.Common.{◌≡◌, ℕ, ◌⊎◌, ◌≤◌, List, length, sym, ◌∙◌, ap, subst, arith}
use Rattle.std.specs.Prelude.{Contains}
use Rattle.station_graph.specs.declared.limits.TheConstants.{NODES}
use Rattle.contraction.specs.declared.layout.Layout.{Layout}
use Rattle.contraction.specs.declared.value.Contraction.TheInside.{Inside}
use Rattle.contraction.specs.declared.selection.Selection.TheInside.{Inside as Chosen}
use Rattle.contraction.specs.Answers.{Answers, Keeps, AreLabels, IsContraction}
use Rattle.contraction.specs.Inside.{answers_of, selected_of, IsLaid}
use Rattle.contraction.specs.Merging.{LabelsFit, RowFits}
use Rattle.contraction.specs.Composing.{IsGapRowOfBoth, IsLoadRowOfBoth}
use Rattle.contraction.specs.Selecting.{Selected, IsLayout, LayoutFits, IsGapText, IsLoadText}
use Rattle.contraction.proofs.MergeLemmas.{merged_nodes, few_nodes, rises_short}
use Rattle.contraction.proofs.OneViewLemmas.{gap_row_of_both, load_row_of_both}

-- what is seen of the values is theirs
inside_seen : (x y sx sy : Answers) (nodes : List ℕ) → x ≡ sx → y ≡ sy →
    ((n : ℕ) → Contains nodes n → Keeps sx.kept n ⊎ Keeps sy.kept n) → (n : ℕ) → Contains nodes n →
    Keeps x.kept n ⊎ Keeps y.kept n
inside_seen x y sx sy nodes ex ey h n has =
    subst (λ (z : Answers). Keeps x.kept n ⊎ Keeps z.kept n) (sym ey)
    (subst (λ (z : Answers). Keeps z.kept n ⊎ Keeps sy.kept n) (sym ex) (h n has))

gap_row_seen : (nodes bytes : List ℕ) (x y sx sy : Answers) → x ≡ sx → y ≡ sy → IsGapRowOfBoth nodes x y bytes →
    IsGapRowOfBoth nodes sx sy bytes
gap_row_seen nodes bytes x y sx sy ex ey h =
    subst (λ l. IsGapRowOfBoth nodes l sy bytes) ex (subst (λ l. IsGapRowOfBoth nodes x l bytes) ey h)

load_row_seen : (nodes bytes : List ℕ) (x y sx sy : Answers) → x ≡ sx → y ≡ sy → IsLoadRowOfBoth nodes x y bytes →
    IsLoadRowOfBoth nodes sx sy bytes
load_row_seen nodes bytes x y sx sy ex ey h =
    subst (λ l. IsLoadRowOfBoth nodes l sy bytes) ex (subst (λ l. IsLoadRowOfBoth nodes x l bytes) ey h)

-- the rows fit the selection
module _ (x y : Inside) (wx : IsContraction (answers_of x)) (wy : IsContraction (answers_of y)) (nodes : List ℕ)
    (s : Layout) (is : IsLayout x.kept y.kept nodes s) where
  pub layout_few : length s.union.kept.items ≤ NODES
  layout_few =
      few_nodes s.union.kept.items (merged_nodes x.kept y.kept s.union.kept.items s.union.first.items
      s.union.second.items wx.nodes wy.nodes is.merged)

  pub layout_fits : LayoutFits s
  layout_fits = record {
    few = layout_few;
    fewer =
        (let short : length s.places.items ≤ length s.union.kept.items =
        rises_short s.places.items (length s.union.kept.items) is.places.rises is.places.below in
        omega (arith, layout_few));
    inside = is.places.below;
  }

  pub first_labels_fit : (l : List ℕ) → AreLabels (length x.kept) l →
      LabelsFit s.union.first.items (length s.union.kept.items) l
  first_labels_fit l w = record {
    len = w.len ∙ sym is.merged.first_len;
    rises = is.merged.first_rises;
    inside = λ k h. is.merged.first_inside k (omega (arith, is.merged.first_len));
    below = λ k h. w.below k (omega (arith, is.merged.first_len));
  }

  pub second_labels_fit : (l : List ℕ) → AreLabels (length y.kept) l →
      LabelsFit s.union.second.items (length s.union.kept.items) l
  second_labels_fit l w = record {
    len = w.len ∙ sym is.merged.second_len;
    rises = is.merged.second_rises;
    inside = λ k h. is.merged.second_inside k (omega (arith, is.merged.second_len));
    below = λ k h. w.below k (omega (arith, is.merged.second_len));
  }

  pub first_gap_fits : RowFits s.union.first.items (length s.union.kept.items) x.gap
  first_gap_fits = record {
    labels = first_labels_fit x.gap.labels wx.coupled;
    first = wx.energisable ∙ sym is.merged.first_len;
    second = wx.earthable ∙ sym is.merged.first_len;
  }

  pub second_gap_fits : RowFits s.union.second.items (length s.union.kept.items) y.gap
  second_gap_fits = record {
    labels = second_labels_fit y.gap.labels wy.coupled;
    first = wy.energisable ∙ sym is.merged.second_len;
    second = wy.earthable ∙ sym is.merged.second_len;
  }

  pub first_load_fits : RowFits s.union.first.items (length s.union.kept.items) x.load
  first_load_fits = record {
    labels = first_labels_fit x.load.labels wx.joined;
    first = wx.fed ∙ sym is.merged.first_len;
    second = wx.loaded ∙ sym is.merged.first_len;
  }

  pub second_load_fits : RowFits s.union.second.items (length s.union.kept.items) y.load
  second_load_fits = record {
    labels = second_labels_fit y.load.labels wy.joined;
    first = wy.fed ∙ sym is.merged.second_len;
    second = wy.loaded ∙ sym is.merged.second_len;
  }

-- ON A SELECTION OF THE NODES THAT BOTH VALUES KEEP
module _ (x y : Inside) (t : Chosen) (sx sy : Answers) (s : Selected) (wx : IsContraction (answers_of x))
    (wy : IsContraction (answers_of y)) (laid : IsLaid t) (ex : answers_of x ≡ sx) (ey : answers_of y ≡ sy)
    (et : selected_of t ≡ s) (ef : s.first ≡ sx.kept) (es : s.second ≡ sy.kept) where
  pub laid_on : IsLayout x.kept y.kept s.nodes t.layout
  laid_on =
      let first : t.first.items ≡ x.kept =
      ap (λ (r : Selected). r.first) et ∙ ef ∙ sym (ap (λ (a : Answers). a.kept) ex) in
      let second : t.second.items ≡ y.kept =
      ap (λ (r : Selected). r.second) et ∙ es ∙ sym (ap (λ (a : Answers). a.kept) ey) in
      subst (λ l. IsLayout x.kept y.kept l t.layout) (ap (λ (r : Selected). r.nodes) et)
      (subst (λ l. IsLayout x.kept l t.nodes.items t.layout) second
      (subst (λ l. IsLayout l t.second.items t.nodes.items t.layout) first laid))

  module _ (inside : (n : ℕ) → Contains s.nodes n → Keeps sx.kept n ⊎ Keeps sy.kept n) (bytes : List ℕ) where
    pub gap_row_on : IsGapText t.layout x.gap y.gap bytes → IsGapRowOfBoth s.nodes sx sy bytes
    gap_row_on h =
        gap_row_seen s.nodes bytes (answers_of x) (answers_of y) sx sy ex ey
        (gap_row_of_both x y wx wy s.nodes t.layout laid_on
        (inside_seen (answers_of x) (answers_of y) sx sy s.nodes ex ey inside) bytes h)

    pub load_row_on : (a b : List ℕ) → a ≡ x.bonded → b ≡ y.bonded →
        IsLoadText t.layout x.load y.load a b bytes → IsLoadRowOfBoth s.nodes sx sy bytes
    load_row_on a b ea eb h =
        load_row_seen s.nodes bytes (answers_of x) (answers_of y) sx sy ex ey
        (load_row_of_both x y wx wy s.nodes t.layout laid_on
        (inside_seen (answers_of x) (answers_of y) sx sy s.nodes ex ey inside) bytes
        (subst (λ l. IsLoadText t.layout x.load y.load x.bonded l bytes) eb
        (subst (λ l. IsLoadText t.layout x.load y.load l b bytes) ea h)))
