-- The composition, from what its steps give.
use Rattle.std.proofs.Common.{◌≡◌, ℕ, ◌<◌, Bool, true, List, length, slice_get, slice_index, Some, ◌∙◌, subst, inl, inr}
use Rattle.std.proofs.Common.{arith, sym}
use Rattle.std.proofs.lemmas.Option.{slice_get_within}
use Rattle.contraction.specs.Answers.{Answers, AreLabels, IsContraction}
use Rattle.contraction.specs.Composing.{LabelsCompose, MarksCompose, Composes}
use Rattle.contraction.specs.Merging.{IsMerged, EdgeOf, MarksClass, LabelsOfBoth, MarksOfBoth, RowOfBoth}
use Rattle.contraction.specs.Inside.{answers_of}
use Rattle.contraction.specs.declared.row.Row.{Row}
use Rattle.contraction.specs.declared.merge.Union.{Union}
use Rattle.contraction.specs.declared.value.Contraction.TheInside.{Inside}
use Rattle.contraction.proofs.MergeLemmas.{merged_nodes}
use Rattle.contraction.proofs.ValueLemmas.{AreLabels-from_keeps, labels_compose, marks_compose, kept_compose}

-- The steps of a composition.
pub record Steps (x y : Answers) (p q : List ℕ) (c : Answers) : Type 0 where
  pub merged : IsMerged x.kept y.kept c.kept p q
  pub coupled : LabelsOfBoth p x.coupled q y.coupled (length c.kept) c.coupled
  pub joined : LabelsOfBoth p x.joined q y.joined (length c.kept) c.joined
  pub bonded : LabelsOfBoth p x.bonded q y.bonded (length c.kept) c.bonded
  pub energisable : MarksOfBoth c.coupled p x.energisable q y.energisable c.energisable
  pub earthable : MarksOfBoth c.coupled p x.earthable q y.earthable c.earthable
  pub fed : MarksOfBoth c.joined p x.fed q y.fed c.fed
  pub loaded : MarksOfBoth c.joined p x.loaded q y.loaded c.loaded

merged_at : (a a1 b b1 k p q : List ℕ) → a ≡ a1 → b ≡ b1 → IsMerged a b k p q → IsMerged a1 b1 k p q
merged_at a a1 b b1 k p q ea eb h = subst (λ x. IsMerged x b1 k p q) ea (subst (λ x. IsMerged a x k p q) eb h)

labels_at : (p p1 la la1 q q1 lb lb1 : List ℕ) (n n1 : ℕ) (labels : List ℕ) → p ≡ p1 → la ≡ la1 → q ≡ q1 → lb ≡ lb1 →
    n ≡ n1 → LabelsOfBoth p la q lb n labels → LabelsOfBoth p1 la1 q1 lb1 n1 labels
labels_at p p1 la la1 q q1 lb lb1 n n1 labels ep ela eq elb en h =
    subst (λ x. LabelsOfBoth x la1 q1 lb1 n1 labels) ep
    (subst (λ x. LabelsOfBoth p x q1 lb1 n1 labels) ela
    (subst (λ x. LabelsOfBoth p la x lb1 n1 labels) eq
    (subst (λ x. LabelsOfBoth p la q x n1 labels) elb
    (subst (λ x. LabelsOfBoth p la q lb x labels) en h))))

-- The steps of `compose`, of which the slices a, b, p, q, la and lb are seen.
pub record Made (x y : Inside) (u : Union) (kept : List ℕ) (gap load : Row) (bonded a b p la q lb : List ℕ) (count : ℕ) : Type 0 where
  pub first_kept : a ≡ x.kept
  pub second_kept : b ≡ y.kept
  pub merged : IsMerged a b u.kept.items u.first.items u.second.items
  pub kept_is : kept ≡ u.kept.items
  pub gap_row : RowOfBoth u x.gap y.gap gap
  pub load_row : RowOfBoth u x.load y.load load
  pub first_places : p ≡ u.first.items
  pub first_labels : la ≡ x.bonded
  pub second_places : q ≡ u.second.items
  pub second_labels : lb ≡ y.bonded
  pub counted : count ≡ length u.kept.items
  pub bonded_row : LabelsOfBoth p la q lb count bonded

module _ (x y : Inside) (u : Union) (kept : List ℕ) (gap load : Row) (bonded a b p la q lb : List ℕ) (count : ℕ)
    (m : Made x y u kept gap load bonded a b p la q lb count) where
  pub union_merged : IsMerged x.kept y.kept u.kept.items u.first.items u.second.items
  union_merged =
      merged_at a x.kept b y.kept u.kept.items u.first.items u.second.items m.first_kept
      m.second_kept m.merged

  steps_merged : Steps (answers_of x) (answers_of y) u.first.items u.second.items
      (answers_of (record { kept = u.kept.items; gap = gap; load = load; bonded = bonded }))
  steps_merged = record {
    merged = union_merged;
    coupled = m.gap_row.labels;
    joined = m.load_row.labels;
    bonded =
        labels_at p u.first.items la x.bonded q u.second.items lb y.bonded count (length u.kept.items) bonded
        m.first_places m.first_labels m.second_places m.second_labels m.counted m.bonded_row;
    energisable = m.gap_row.first;
    earthable = m.gap_row.second;
    fed = m.load_row.first;
    loaded = m.load_row.second;
  }

  pub steps_made : Steps (answers_of x) (answers_of y) u.first.items u.second.items
      (answers_of (record { kept = kept; gap = gap; load = load; bonded = bonded }))
  steps_made =
      subst (λ (k : List ℕ). Steps (answers_of x) (answers_of y) u.first.items u.second.items
      (answers_of (record { kept = k; gap = gap; load = load; bonded = bonded }))) (sym m.kept_is) steps_merged

class_more : (places labels : List ℕ) (m n : List Bool) (i k : ℕ) →
    ((j : ℕ) → slice_get m j ≡ Some true → slice_get n j ≡ Some true) → MarksClass places labels m i k →
    MarksClass places labels n i k
class_more places labels m n i k more h = record {
  entry = h.entry;
  below = h.below;
  marked = more h.entry h.marked;
  stands = h.stands;
}

module _ (x y c : Answers) (p q : List ℕ) (wx : IsContraction x) (wy : IsContraction y) (s : Steps x y p q c) where
  labels : (la lb labels : List ℕ) → AreLabels (length x.kept) la → AreLabels (length y.kept) lb →
      LabelsOfBoth p la q lb (length c.kept) labels → LabelsCompose x.kept la y.kept lb c.kept labels
  labels la lb ls ha hb h =
      labels_compose x.kept y.kept c.kept p q s.merged wx.nodes.rises wy.nodes.rises la lb ha hb ls h

  marks : (la lb ls : List ℕ) → AreLabels (length x.kept) la → AreLabels (length y.kept) lb →
      LabelsOfBoth p la q lb (length c.kept) ls → (ma mb ms : List Bool) → length ma ≡ length x.kept →
      length mb ≡ length y.kept → MarksOfBoth ls p ma q mb ms → MarksCompose x.kept la ma y.kept lb mb c.kept ms
  marks la lb ls ha hb h ma mb ms fa fb k =
      marks_compose x.kept y.kept c.kept p q s.merged wx.nodes.rises wy.nodes.rises la lb ha hb ls h ma mb ms
      (λ i i_in. k.told i (omega (arith, h.len))) fa fb

  pub composed : Composes x y c
  composed = record {
    kept =
        kept_compose x.kept y.kept c.kept p q s.merged wx.nodes.rises wy.nodes.rises x.coupled y.coupled
        wx.coupled wy.coupled;
    coupled = labels x.coupled y.coupled c.coupled wx.coupled wy.coupled s.coupled;
    joined = labels x.joined y.joined c.joined wx.joined wy.joined s.joined;
    bonded = labels x.bonded y.bonded c.bonded wx.bonded wy.bonded s.bonded;
    energisable =
        marks x.coupled y.coupled c.coupled wx.coupled wy.coupled s.coupled x.energisable y.energisable c.energisable
        wx.energisable wy.energisable s.energisable;
    earthable =
        marks x.coupled y.coupled c.coupled wx.coupled wy.coupled s.coupled x.earthable y.earthable c.earthable
        wx.earthable wy.earthable s.earthable;
    fed = marks x.joined y.joined c.joined wx.joined wy.joined s.joined x.fed y.fed c.fed wx.fed wy.fed s.fed;
    loaded =
        marks x.joined y.joined c.joined wx.joined wy.joined s.joined x.loaded y.loaded c.loaded wx.loaded
        wy.loaded s.loaded;
  }

  pub composed_well : IsContraction c
  composed_well = record {
    nodes = merged_nodes x.kept y.kept c.kept p q wx.nodes wy.nodes s.merged;
    coupled =
        AreLabels-from_keeps (EdgeOf p x.coupled (length p) q y.coupled (length q)) (length c.kept) c.coupled s.coupled;
    joined =
        AreLabels-from_keeps (EdgeOf p x.joined (length p) q y.joined (length q)) (length c.kept) c.joined s.joined;
    bonded =
        AreLabels-from_keeps (EdgeOf p x.bonded (length p) q y.bonded (length q)) (length c.kept) c.bonded s.bonded;
    energisable = s.energisable.len ∙ s.coupled.len;
    earthable = s.earthable.len ∙ s.coupled.len;
    fed = s.fed.len ∙ s.joined.len;
    loaded = s.loaded.len ∙ s.joined.len;
    fed_loaded = λ k e.
        let k_in : k < length c.joined = omega (arith, slice_get_within c.fed k true e, s.fed.len) in
        (s.loaded.told k k_in).1
        (elim ((s.fed.told k k_in).0 e) [
          | inl h ↦ inl (class_more p c.joined x.fed x.loaded (length p) (slice_index c.joined k) wx.fed_loaded h)
          | inr h ↦ inr (class_more q c.joined y.fed y.loaded (length q) (slice_index c.joined k) wy.fed_loaded h)
        ]);
  }
