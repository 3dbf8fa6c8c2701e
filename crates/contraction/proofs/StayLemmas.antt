-- Two values on a selection of all nodes of the first, and when both together are the first.
use Rattle.std.proofs.Common.{◌≡◌, ℕ, ◌<◌, ◌⊎◌, ◌↔◌, List, length, slice_index, Some, sym, ◌∙◌, ap, subst, inl, inr, arith}
use Rattle.std.specs.Prelude.{Contains}
use Rattle.std.proofs.lemmas.Option.{slice_get_within, slice_get-get_or, get_or_from_slice_get}
use Rattle.contraction.specs.declared.layout.Layout.{Layout}
use Rattle.contraction.specs.declared.value.Contraction.TheInside.{Inside}
use Rattle.contraction.specs.declared.selection.Selection.TheInside.{Inside as Chosen}
use Rattle.contraction.specs.Answers.{Answers, IsAt, Keeps, IsContraction}
use Rattle.contraction.specs.Composing.{ComposesGap, ComposesLoad}
use Rattle.contraction.specs.Inside.{answers_of, selected_of, IsLaid}
use Rattle.contraction.specs.Merging.{IsMerged}
use Rattle.contraction.specs.Selecting.{Selected, IsLayout}
use Rattle.contraction.specs.Unchanged.{IsAllOf, JoinsNone, AddsNone}
use Rattle.contraction.proofs.SelectionLemmas.{laid_on}
use Rattle.contraction.proofs.UnchangedLemmas.{labels_stay, marks_stay, joins_none, marks_none, of_classes}

module _ (x y : Inside) (wx : IsContraction (answers_of x)) (wy : IsContraction (answers_of y)) (nodes : List ℕ)
    (u : Layout) (is : IsLayout x.kept y.kept nodes u) (all : u.union.kept.items ≡ x.kept) where
  abbrev p : List ℕ
  p = u.union.first.items

  abbrev q : List ℕ
  q = u.union.second.items

  merged : IsMerged x.kept y.kept x.kept p q
  merged = subst (λ l. IsMerged x.kept y.kept l p q) all is.merged

  pub gap_stays : AddsNone x.gap y.gap q ↔ ComposesGap (answers_of x) (answers_of y) (answers_of x)
  gap_stays = (
    λ h. record {
      kept = λ n k. inl k;
      coupled =
          labels_stay x.kept y.kept p q merged x.gap.labels y.gap.labels wx.coupled wy.coupled h.labels;
      energisable =
          marks_stay x.kept y.kept p q merged x.gap.labels y.gap.labels wx.coupled wy.coupled h.labels
          x.gap.first.items y.gap.first.items h.first_steady h.first;
      earthable =
          marks_stay x.kept y.kept p q merged x.gap.labels y.gap.labels wx.coupled wy.coupled h.labels
          x.gap.second.items y.gap.second.items h.second_steady h.second;
    },
    λ h. record {
      first_steady =
          of_classes x.kept y.kept p q merged x.gap.labels y.gap.labels wx.coupled wy.coupled
          x.gap.first.items y.gap.first.items h.energisable wx.energisable;
      second_steady =
          of_classes x.kept y.kept p q merged x.gap.labels y.gap.labels wx.coupled wy.coupled
          x.gap.second.items y.gap.second.items h.earthable wx.earthable;
      labels =
          joins_none x.kept y.kept p q merged x.gap.labels y.gap.labels wx.coupled wy.coupled h.coupled;
      first =
          marks_none x.kept y.kept p q merged x.gap.labels y.gap.labels wx.coupled wy.coupled
          x.gap.first.items y.gap.first.items h.energisable;
      second =
          marks_none x.kept y.kept p q merged x.gap.labels y.gap.labels wx.coupled wy.coupled
          x.gap.second.items y.gap.second.items h.earthable;
    },
  )

  pub load_stays : (JoinsNone x.bonded y.bonded q × AddsNone x.load y.load q) ↔
      ComposesLoad (answers_of x) (answers_of y) (answers_of x)
  load_stays = (
    λ (bonds, h). record {
      kept = λ n k. inl k;
      joined =
          labels_stay x.kept y.kept p q merged x.load.labels y.load.labels wx.joined wy.joined h.labels;
      bonded = labels_stay x.kept y.kept p q merged x.bonded y.bonded wx.bonded wy.bonded bonds;
      fed =
          marks_stay x.kept y.kept p q merged x.load.labels y.load.labels wx.joined wy.joined h.labels
          x.load.first.items y.load.first.items h.first_steady h.first;
      loaded =
          marks_stay x.kept y.kept p q merged x.load.labels y.load.labels wx.joined wy.joined h.labels
          x.load.second.items y.load.second.items h.second_steady h.second;
    },
    λ h. (
      joins_none x.kept y.kept p q merged x.bonded y.bonded wx.bonded wy.bonded h.bonded,
      record {
        first_steady =
            of_classes x.kept y.kept p q merged x.load.labels y.load.labels wx.joined wy.joined
            x.load.first.items y.load.first.items h.fed wx.fed;
        second_steady =
            of_classes x.kept y.kept p q merged x.load.labels y.load.labels wx.joined wy.joined
            x.load.second.items y.load.second.items h.loaded wx.loaded;
        labels =
            joins_none x.kept y.kept p q merged x.load.labels y.load.labels wx.joined wy.joined h.joined;
        first =
            marks_none x.kept y.kept p q merged x.load.labels y.load.labels wx.joined wy.joined
            x.load.first.items y.load.first.items h.fed;
        second =
            marks_none x.kept y.kept p q merged x.load.labels y.load.labels wx.joined wy.joined
            x.load.second.items y.load.second.items h.loaded;
      },
    ),
  )

  -- the selected nodes are the ones that are asked for
  kept_asked : u.kept.items ≡ x.kept → (n : ℕ) → Keeps x.kept n → Contains nodes n
  kept_asked some n k =
      let at : IsAt u.kept.items k.place n = subst (λ l. IsAt l k.place n) (sym some) k.at in
      let k_in : k.place < length u.places.items =
      omega (arith, slice_get_within u.kept.items k.place n at, is.kept.len) in
      let there : IsAt u.union.kept.items (slice_index u.places.items k.place) n = sym (is.kept.told k.place k_in) ∙ at in
      subst (λ m. Contains nodes m) (get_or_from_slice_get u.union.kept.items (slice_index u.places.items k.place) n 0
      there) (is.places.named k.place k_in)

  -- the merged list has what either list has
  asked_kept : ((n : ℕ) → Contains nodes n → Keeps x.kept n ⊎ Keeps y.kept n) → (n : ℕ) →
      Contains nodes n → Keeps x.kept n
  asked_kept inside n has = elim (inside n has) [
    | inl k ↦ k
    | inr k ↦
        let k_in = slice_get_within y.kept k.place n k.at in
        record {
          place = slice_index q k.place;
          at =
              slice_get-get_or x.kept (slice_index q k.place) 0 (merged.second_inside k.place k_in)
              ∙ ap Some
              (merged.second_stands k.place k_in ∙ get_or_from_slice_get y.kept k.place n 0 k.at);
        }
  ]

  pub kept_stays : u.kept.items ≡ x.kept →
      ((n : ℕ) → Contains nodes n → Keeps x.kept n ⊎ Keeps y.kept n) → (n : ℕ) →
      Keeps x.kept n ↔ Contains nodes n
  kept_stays some inside n = (kept_asked some n, asked_kept inside n)

-- what is seen of the values is theirs
module _ (x y : Inside) (t : Chosen) (sx sy : Answers) (s : Selected) (wx : IsContraction (answers_of x))
    (wy : IsContraction (answers_of y)) (laid : IsLaid t) (ex : answers_of x ≡ sx) (ey : answers_of y ≡ sy)
    (et : selected_of t ≡ s) (ef : s.first ≡ sx.kept) (es : s.second ≡ sy.kept) where
  is : IsLayout x.kept y.kept s.nodes t.layout
  is = laid_on x y t sx sy s wx wy laid ex ey et ef es

  module _ (h : IsAllOf s sx.kept) where
    all_seen : t.layout.union.kept.items ≡ x.kept
    all_seen = ap (λ (r : Selected). r.all) et ∙ h.0 ∙ sym (ap (λ (a : Answers). a.kept) ex)

    some_seen : t.layout.kept.items ≡ x.kept
    some_seen = ap (λ (r : Selected). r.kept) et ∙ h.1 ∙ sym (ap (λ (a : Answers). a.kept) ex)

    pub gap_seen : AddsNone x.gap y.gap t.layout.union.second.items ↔ ComposesGap sx sy sx
    gap_seen =
        subst (λ (z : Answers). AddsNone x.gap y.gap t.layout.union.second.items ↔ ComposesGap sx z sx) ey
        (subst (λ (z : Answers). AddsNone x.gap y.gap t.layout.union.second.items ↔ ComposesGap z (answers_of y) z) ex
        (gap_stays x y wx wy s.nodes t.layout is all_seen))

    pub load_seen : (JoinsNone x.bonded y.bonded t.layout.union.second.items
        × AddsNone x.load y.load t.layout.union.second.items) ↔ ComposesLoad sx sy sx
    load_seen =
        subst (λ (z : Answers). (JoinsNone x.bonded y.bonded t.layout.union.second.items
        × AddsNone x.load y.load t.layout.union.second.items) ↔ ComposesLoad sx z sx) ey
        (subst (λ (z : Answers). (JoinsNone x.bonded y.bonded t.layout.union.second.items
        × AddsNone x.load y.load t.layout.union.second.items) ↔ ComposesLoad z (answers_of y) z) ex
        (load_stays x y wx wy s.nodes t.layout is all_seen))

    pub kept_seen : ((n : ℕ) → Contains s.nodes n → Keeps sx.kept n ⊎ Keeps sy.kept n) → (n : ℕ) →
        Keeps sx.kept n ↔ Contains s.nodes n
    kept_seen inside =
        subst (λ (z : Answers). (n : ℕ) → Keeps z.kept n ↔ Contains s.nodes n) ex
        (kept_stays x y wx wy s.nodes t.layout is all_seen some_seen
        (λ n has. subst (λ (z : Answers). Keeps x.kept n ⊎ Keeps z.kept n) (sym ey)
        (subst (λ (z : Answers). Keeps z.kept n ⊎ Keeps sy.kept n) (sym ex) (inside n has))))
