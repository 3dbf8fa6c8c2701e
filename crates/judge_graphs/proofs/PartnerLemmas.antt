-- PARTNERS: another bay is a partner exactly where the graphs of one of the two views tell of its layer.
use Rattle.std.proofs.Common.{◌≡◌, ℕ, ◌+◌, ◌-◌, ◌<◌, ◌⊎◌, ◌↔◌, Bool, true, false, List, length, drop, get_or, slice_get}
use Rattle.std.proofs.Common.{Some, MatchBool, refl, ◌∙◌, inl, inr, arith}
use Rattle.std.proofs.lemmas.Bool.{false≢true}
use Rattle.station_graph.specs.Diagram.{Diagram, AreSwitchesOf}
use Rattle.station_graph.specs.Connection.{a_switch}
use Rattle.station_graph.specs.Sharing.{OfPart}
use Rattle.station_graph.specs.Alike.{Irrelevant, Partner}
use Rattle.decision_graphs.specs.Label.{Layered, label_of}
use Rattle.judge_pool.specs.declared.view.View.{View}
use Rattle.judge_pool.specs.declared.view.View.TheVariants.{Gap, Load}
use Rattle.judge_pool.specs.Lettered.{Lettered, AreLettered}
use Rattle.judge_pool.specs.Graphs.{other_of, PartChosen, LabelSays}
use Rattle.judge_intake.specs.Coding.{labels_of}
use Rattle.judge_graphs.specs.Built.{ViewOf, AreUnmerged, AreTold}
use Rattle.judge_graphs.specs.PartnerLabels.{IsInnerOf, AreInnersOf, TellsOf}
use Rattle.judge_intake.proofs.OtherLemmas.{element, length_after}
use Rattle.judge_graphs.proofs.PartnerChoices.{count_choices}
use Rattle.judge_graphs.proofs.PartnerPlacing.{parts_placing}
use Rattle.judge_graphs.proofs.PartnerTelling.{IsJudged, IsView, told, silent}
use Rattle.judge_graphs.proofs.PartnerAnswers.{Shown, says_same, gap_shows, load_shows}

-- what is shown is a partner
pub partner_shown : (d : Diagram) (b c : ℕ) → Shown d b c → Partner d b c
partner_shown d b c s irrelevant =
    s.not_given ((irrelevant s.one s.other s.one_whole s.other_whole s.differ s.op s.own s.answer).0 s.given)

module _ (d : Diagram) (c first count : ℕ) (those : AreSwitchesOf d c first count)
    (GapChosen LoadChosen : ℕ → ℕ → List Bool → Type 0)
    (gap : Layered) (gap_inners : List Layered)
    (gap_view : IsView d c first count 3 GapChosen (LabelSays Gap d) gap gap_inners)
    (load : Layered) (load_inners : List Layered)
    (load_view : IsView d c first count 2 LoadChosen (LabelSays Load d) load load_inners)
    (j : ℕ) (in_gap : j < length gap.layers) (in_load : j < length load.layers) where
  own_place : (place : ℕ) → place < count → OfPart d c (a_switch (first + place))
  own_place place lt =
      let x = element d.switches (first + place) (omega (arith, lt, those.within)) in
      (x.0, x.1, (those.those (first + place) x.0 x.1).1 (omega arith, omega (arith, lt)))

  -- TOLD: two vectors show it
  pub gap_told : TellsOf gap gap_inners j → Shown d (other_of 0 c j) c
  gap_told dep =
      let t = told d c first count 3 GapChosen (LabelSays Gap d) gap gap_inners gap_view those j in_gap dep in
      gap_shows d (other_of 0 c j) c (first + t.place) t.one t.other t.left t.right (own_place t.place t.place_in)
      t.one_whole t.other_whole t.differ t.left_says t.right_says t.left_in t.right_in t.apart

  pub load_told : TellsOf load load_inners j → Shown d (other_of 0 c j) c
  load_told dep =
      let t = told d c first count 2 LoadChosen (LabelSays Load d) load load_inners load_view those j in_load dep in
      load_shows d (other_of 0 c j) c (first + t.place) t.one t.other t.left t.right (own_place t.place t.place_in)
      t.one_whole t.other_whole t.differ t.left_says t.right_says t.left_in t.right_in t.apart

  -- NOT TOLD: every answer stays
  pub not_told : ¬ TellsOf gap gap_inners j → ¬ TellsOf load load_inners j → Irrelevant d (other_of 0 c j) c
  not_told no_gap no_load v w whole_v whole_w differ op own answer =
      let range = (those.those op.switch.0 own.0 own.1).0 own.2 in
      let place : ℕ = op.switch.0 - first in
      let moves : op.switch.0 ≡ first + place = omega (arith, range.0) in
      let place_in : place < count = omega (arith, range.0, range.1) in
      let g = element gap_inners place (omega (arith, place_in, gap_view.judged.inner_count)) in
      let h = element load_inners place (omega (arith, place_in, load_view.judged.inner_count)) in
      let one = silent d c first count 3 GapChosen (LabelSays Gap d) gap gap_inners gap_view those j in_gap no_gap v w
      whole_v whole_w differ place g.0 g.1 in
      let two = silent d c first count 2 LoadChosen (LabelSays Load d) load load_inners load_view those j in_load
      no_load v w
      whole_v whole_w differ place h.0 h.1 in
      says_same d (first + place) v w one.0 two.0 one.1 one.2 two.1 two.2 op moves answer

  -- EXACTLY THE PARTNERS ARE TOLD
  pub told_exactly : (is : Bool) → (is ≡ true) ↔ (TellsOf gap gap_inners j ⊎ TellsOf load load_inners j) →
      MatchBool is (Partner d (other_of 0 c j) c) (Irrelevant d (other_of 0 c j) c)
  told_exactly true same = elim (same.0 refl) [
    | inl t ↦ partner_shown d (other_of 0 c j) c (gap_told t)
    | inr t ↦ partner_shown d (other_of 0 c j) c (load_told t)
  ]
  told_exactly false same = not_told (λ t. false≢true (same.1 (inl t))) (λ t. false≢true (same.1 (inr t)))

-- ---- the graphs of a bay are such views

module _ (view : View) (a : Lettered) (c first count : ℕ) (outer : Layered) (inners : List Layered)
    (graphs : AreUnmerged view a c first count outer inners) where
  inner_of : (i : ℕ) (x : Layered) → slice_get inners i ≡ Some x → IsInnerOf outer.labels x
  inner_of i x at =
      let e = graphs.inner.each i x at in
      record {
        fits = e.graph.fits;
        reduced = e.reduced;
        some = omega (arith, e.graph.count);
        outer = e.graph.outer ∙ graphs.outer.labels;
      }

  pub inners_of : AreInnersOf outer.labels inners
  inners_of i x at = inner_of i x at

  judged : IsJudged a.diagram first count (labels_of view) (PartChosen a c) (LabelSays view a.diagram) outer inners
  judged = record {
    fits = graphs.outer.fits;
    inner_count = graphs.inner.len;
    inner_graphs = inners_of;
    others = λ i x at. (let e = graphs.inner.each i x at in e.graph.count ∙ e.one_more);
    positions =
        λ i k x at lt. (let e = graphs.inner.each i x at in e.graph.choices k (omega (arith, lt, e.graph.count)));
    few = λ i x at. omega (arith, (graphs.inner.each i x at).labels);
    says = λ i x v cs ds at whole fit chosen fit_ds own.
        let e = graphs.inner.each i x at in
        let named = graphs.outer.named v cs whole (count_choices outer.layers cs fit) chosen in
        e.graph.says v (label_of outer cs) ds whole named
        (count_choices (drop 1 x.layers) ds fit_ds ∙ length_after e.others x.layers e.graph.count) own;
  }

  pub view_is : AreLettered a →
      IsView a.diagram c first count (labels_of view) (PartChosen a c) (LabelSays view a.diagram) outer inners
  view_is are = record {
    judged = judged;
    placing = parts_placing a c outer.layers are graphs.outer.count graphs.outer.choices;
  }

-- WHAT THE GRAPHS OF A BAY TELL is which other parts are its partners
pub are_told : (a : Lettered) (b first count : ℕ) (gap load : ViewOf) (told : List Bool) → AreLettered a →
    AreSwitchesOf a.diagram b first count → AreUnmerged Gap a b first count gap.outer gap.inner →
    AreUnmerged Load a b first count load.outer load.inner
    → length told ≡ length gap.outer.layers
    → ((j : ℕ) → j < length gap.outer.layers → (get_or told j false ≡ true) ↔
    (TellsOf gap.outer gap.inner j ⊎ TellsOf load.outer load.inner j))
    → AreTold a.diagram b told
are_told a b first count gap load told are those gaps loads len tells = record {
  count = omega (arith, len, gaps.outer.count);
  each = λ j lt.
      let in_gap : j < length gap.outer.layers = omega (arith, lt, len) in
      told_exactly a.diagram b first count those (PartChosen a b) (PartChosen a b)
      gap.outer gap.inner (view_is Gap a b first count gap.outer gap.inner gaps are)
      load.outer load.inner (view_is Load a b first count load.outer load.inner loads are)
      j in_gap (omega (arith, in_gap, gaps.outer.count, loads.outer.count)) (get_or told j false) (tells j in_gap);
}
