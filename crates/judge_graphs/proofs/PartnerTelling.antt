-- Where the graphs of one view tell a bay of another bay, and where they do not.
use Rattle.std.proofs.Common.{◌≡◌, ◌≢◌, ℕ, ◌+◌, ◌<◌, ◌≤◌, zero, suc, Bool, false, List, [], ◌∷◌, length, drop, get_or}
use Rattle.std.proofs.Common.{set, replicate, slice_get, Some, refl, sym, ap, ◌∙◌, subst, inl, inr, arith}
use Rattle.std.proofs.lemmas.Bool.{cases_eq}
use Rattle.std.proofs.lemmas.List.{get_or-set_other, length-replicate}
use Rattle.std.proofs.lemmas.Option.{slice_get-get_or, slice_get_within, same_Some}
use Rattle.station_graph.specs.Diagram.{Diagram, AreSwitchesOf}
use Rattle.station_graph.specs.Connection.{a_switch}
use Rattle.station_graph.specs.Sharing.{OfPart}
use Rattle.station_graph.specs.Alike.{IsVector, SamePositions, DifferInPart}
use Rattle.station_graph.proofs.PositionLemmas.{slice_get-set_other}
use Rattle.station_graph.proofs.MixLemmas.{one_part}
use Rattle.decision_graphs.specs.Label.{Layer, Layered, layer_at, label_of, AreChoices, AreLayers}
use Rattle.judge_graphs.specs.PartnerLabels.{AreInnersOf, AreOne, TellsOf}
use Rattle.judge_pool.specs.Folding.{AreChosen}
use Rattle.judge_pool.specs.Graphs.{other_of, SwitchChosen}
use Rattle.judge_intake.proofs.OtherLemmas.{element, switch_not}
use Rattle.judge_graphs.proofs.PartnerChoices.{count_choices, choice_in, choices_set, choices_cons, label_below}
use Rattle.judge_graphs.proofs.PartnerMerging.{tells_cases}
use Rattle.judge_graphs.proofs.PartnerPlacing.{CanPlace, OfOther, choices_of, Given, place_all, own_in, own_placing}

-- The graphs of one view of a bay, whose switches are those from the first on, so many of them: its outer graph, whose
-- choices are what `Chosen` says, and the inner graph of each of its switches, with no more labels than the
-- limit. `Says` says of the vector what the two lead to.
pub record IsJudged (d : Diagram) (first count limit : ℕ) (Chosen : ℕ → ℕ → List Bool → Type 0)
    (Says : ℕ → List Bool → ℕ → Type 0) (outer : Layered) (inners : List Layered) : Type 0 where
  pub fits : AreLayers outer.labels outer.layers
  pub inner_count : length inners ≡ count
  pub inner_graphs : AreInnersOf outer.labels inners
  pub others : (i : ℕ) (g : Layered) → slice_get inners i ≡ Some g → length g.layers ≡ count
  pub positions : (i k : ℕ) (g : Layered) → slice_get inners i ≡ Some g → suc k < length g.layers →
      (layer_at g.layers (suc k)).choices ≡ 2
  pub few : (i : ℕ) (g : Layered) → slice_get inners i ≡ Some g → g.labels ≤ limit
  pub says : (i : ℕ) (g : Layered) (v : List Bool) (cs ds : List ℕ) → slice_get inners i ≡ Some g → IsVector d v →
      AreChoices outer.layers cs → AreChosen Chosen v cs → AreChoices (drop 1 g.layers) ds →
      AreChosen (SwitchChosen first (first + i)) v ds → Says (first + i) v (label_of g (label_of outer cs ∷ ds))

-- They are those of bay c: the choices of the outer graph are what the other parts give.
pub record IsView (d : Diagram) (c first count limit : ℕ) (Chosen : ℕ → ℕ → List Bool → Type 0)
    (Says : ℕ → List Bool → ℕ → Type 0) (outer : Layered) (inners : List Layered) : Type 0 where
  pub judged : IsJudged d first count limit Chosen Says outer inners
  pub placing : CanPlace d outer.layers Chosen (OfOther d c)

after : (ls : List Layer) → 0 < length ls → suc (length (drop 1 ls)) ≡ length ls
after [] some = absurd (omega (arith, some))
after (l ∷ ls) some = refl

layer_after : (ls : List Layer) (k : ℕ) → layer_at (drop 1 ls) k ≡ layer_at ls (suc k)
layer_after [] k = refl
layer_after (l ∷ ls) k = refl

set_at_same : (xs : List ℕ) (i y : ℕ) → i < length xs → slice_get (set xs i y) i ≡ Some y
set_at_same [] i y lt = absurd (omega (arith, lt))
set_at_same (x ∷ xs) zero y lt = refl
set_at_same (x ∷ xs) (suc i) y lt = set_at_same xs i y (omega (arith, lt))

module _ (d : Diagram) (c first count limit : ℕ) (Chosen : ℕ → ℕ → List Bool → Type 0)
    (Says : ℕ → List Bool → ℕ → Type 0) (outer : Layered) (inners : List Layered)
    (view : IsView d c first count limit Chosen Says outer inners) (those : AreSwitchesOf d c first count) (j : ℕ)
    (j_in : j < length outer.layers) where
  -- the own switches of the inner graph i
  module _ (i : ℕ) (g : Layered) (at : slice_get inners i ≡ Some g) where
    rest_count : suc (length (drop 1 g.layers)) ≡ count
    rest_count = after g.layers (view.judged.inner_graphs i g at).some ∙ view.judged.others i g at

    rest_two : (k : ℕ) → k < length (drop 1 g.layers) → (layer_at (drop 1 g.layers) k).choices ≡ 2
    rest_two k lt =
        ap (λ (l : Layer). l.choices) (layer_after g.layers k)
        ∙ view.judged.positions i k g at (omega (arith, lt, after g.layers (view.judged.inner_graphs i g at).some))

    own_can : CanPlace d (drop 1 g.layers) (SwitchChosen first (first + i))
        (λ k item. item ≡ a_switch (other_of first (first + i) k))
    own_can = own_placing d (drop 1 g.layers) first (first + i) count rest_count rest_two those.within

    -- they are of the bay
    own_part : (k : ℕ) → k < length (drop 1 g.layers) → OfPart d c (a_switch (other_of first (first + i) k))
    own_part k lt =
        let range = own_in first (first + i) count k (omega (arith, lt, rest_count)) in
        let x = element d.switches (other_of first (first + i) k) (omega (arith, range.1, those.within)) in
        (x.0, x.1, (those.those (other_of first (first + i) k) x.0 x.1).1 range)

    -- and of no other part
    own_outside : (k p : ℕ) → k < length (drop 1 g.layers) → ¬ OfOther d c p (a_switch (other_of first (first + i) k))
    own_outside k p lt of_other =
        switch_not 0 c p (one_part d (other_of 0 c p) c (other_of first (first + i) k) of_other (own_part k lt))

    -- where they stay, their choices stay
    own_stays : (v w : List Bool) (ds : List ℕ) → AreChoices (drop 1 g.layers) ds →
        ((k : ℕ) → k < length (drop 1 g.layers) →
        slice_get v (other_of first (first + i) k) ≡ slice_get w (other_of first (first + i) k)) →
        AreChosen (SwitchChosen first (first + i)) v ds → AreChosen (SwitchChosen first (first + i)) w ds
    own_stays v w ds fit stay chosen k x e =
        let at_k : k < length (drop 1 g.layers) =
        omega (arith, slice_get_within ds k x e, count_choices (drop 1 g.layers) ds fit) in
        record { small = (chosen k x e).small; stands = sym (stay k at_k) ∙ (chosen k x e).stands }

  -- the choices of the other bays stay where only this one moves
  others_stay : (v w : List Bool) (cs : List ℕ) (new : ℕ) → IsVector d v → IsVector d w →
      SamePositions (λ item. ¬ OfOther d c j item) v w → AreChoices outer.layers cs → AreChosen Chosen v cs →
      Chosen j new w → AreChosen Chosen w (set cs j new)
  others_stay v w cs new whole_v whole_w same fit chosen has k x at = elim (cases_eq k j) [
    | inl e ↦
        let there : slice_get (set cs j new) j ≡ Some x = subst (λ n. slice_get (set cs j new) n ≡ Some x) e at in
        let is : new
        ≡ x =
        same_Some new x (sym (set_at_same cs j new (omega (arith, j_in, count_choices outer.layers cs fit))) ∙ there) in
        subst (λ n. Chosen n x w) (sym e) (subst (λ y. Chosen j y w) is has)
    | inr ne ↦
        view.placing.local v w k x whole_v whole_w
        (λ n here. same n (λ there. ne (view.placing.apart k j n here there)))
        (chosen k x (sym (slice_get-set_other cs j k new ne) ∙ at))
  ]

  -- NOTHING IS TOLD where the graphs do not tell of the layer: what holds of each switch of the bay is the same
  -- in two vectors that differ in the other bay alone
  pub silent : ¬ TellsOf outer inners j → (v w : List Bool) → IsVector d v → IsVector d w →
      DifferInPart d (other_of 0 c j) v w → (i : ℕ) (g : Layered) → slice_get inners i ≡ Some g →
      (label : ℕ) × Says (first + i) v label × Says (first + i) w label
  silent never v w whole_v whole_w differ i g at =
      let cs = choices_of d outer.layers Chosen (OfOther d c) view.placing v whole_v in
      let new = view.placing.given w j whole_w j_in in
      let fit = choices_set outer.layers cs.0 j new.0 cs.1 new.1 in
      let chosen = others_stay v w cs.0 new.0 whole_v whole_w differ cs.1 cs.2 new.2 in
      let ds = choices_of d (drop 1 g.layers) (SwitchChosen first (first + i))
      (λ k item. item ≡ a_switch (other_of first (first + i) k)) (own_can i g at) v whole_v in
      let own_w = own_stays i g at v w ds.0 ds.1
      (λ k lt. differ (other_of first (first + i) k) (own_outside i g at k j lt)) ds.2 in
      let says_v = view.judged.says i g v cs.0 ds.0 at whole_v cs.1 cs.2 ds.1 ds.2 in
      let says_w = view.judged.says i g w (set cs.0 j new.0) ds.0 at whole_w fit chosen ds.1 own_w in (
        label_of g (label_of outer cs.0 ∷ ds.0),
        says_v,
        subst (λ l. Says (first + i) w l) (sym (one cs.0 new.0 cs.1 fit i g at ds.0 ds.1)) says_w,
      )
    where
      one : (cs : List ℕ) (new : ℕ) → AreChoices outer.layers cs → AreChoices outer.layers (set cs j new) →
          AreOne inners (label_of outer cs) (label_of outer (set cs j new))
      one cs new fit fit' =
          elim (tells_cases outer.labels inners (label_of outer cs) (label_of outer (set cs j new))
          view.judged.inner_graphs (label_below outer cs view.judged.fits fit)
          (label_below outer (set cs j new) view.judged.fits fit')) [
            | inl is ↦ is
            | inr t ↦ absurd (never (record {
              one = cs;
              other = set cs j new;
              one_fits = fit;
              other_fits = fit';
              agree = λ k ne. sym (get_or-set_other cs j k new 0 ne);
              place = t.place;
              graph = t.graph;
              listed = t.listed;
              rest = t.rest;
              rest_fits = t.rest_fits;
              apart = t.apart;
            }))
          ]

  -- two vectors that differ in the other bay alone, and a switch of the bay of which other labels hold
  pub record Told : Type 0 where
    pub one : List Bool
    pub other : List Bool
    pub one_whole : IsVector d one
    pub other_whole : IsVector d other
    pub differ : DifferInPart d (other_of 0 c j) one other
    pub place : ℕ
    pub place_in : place < count
    pub left : ℕ
    pub right : ℕ
    pub left_in : left < limit
    pub right_in : right < limit
    pub apart : left ≢ right
    pub left_says : Says (first + place) one left
    pub right_says : Says (first + place) other right

  module _ (t : TellsOf outer inners j) where
    -- the other list is the first with one choice changed
    other_is : (k x : ℕ) → slice_get t.other k ≡ Some x → slice_get (set t.one j (get_or t.other j 0)) k ≡ Some x
    other_is k x at =
        let k_in : k < length t.one = omega (
          arith,
          slice_get_within t.other k x at,
          count_choices outer.layers t.other t.other_fits,
          count_choices outer.layers t.one t.one_fits,
        ) in
        elim (cases_eq k j) [
          | inl e ↦ subst (λ n. slice_get (set t.one j (get_or t.other j 0)) n ≡ Some x) (sym e)
              (set_at_same t.one j (get_or t.other j 0) (subst (λ n. n < length t.one) e k_in)
              ∙ (sym (slice_get-get_or t.other j 0
              (subst (λ n. n < length t.other) e (slice_get_within t.other k x at)))
              ∙ subst (λ n. slice_get t.other n ≡ Some x) e at))
          | inr ne ↦ slice_get-set_other t.one j k (get_or t.other j 0) ne
              ∙ (slice_get-get_or t.one k 0 k_in
              ∙ (ap Some (t.agree k ne)
              ∙ (sym (slice_get-get_or t.other k 0 (slice_get_within t.other k x at)) ∙ at)))
        ]

    label_in : (cs : List ℕ) → AreChoices outer.layers cs → label_of t.graph (label_of outer cs ∷ t.rest) < limit
    label_in cs fit =
        let inner = view.judged.inner_graphs t.place t.graph t.listed in
        omega (
          arith,
          label_below t.graph (label_of outer cs ∷ t.rest) inner.fits (choices_cons t.graph.layers (label_of outer cs)
              t.rest inner.some (omega (arith, label_below outer cs view.judged.fits fit, inner.outer)) t.rest_fits),
          view.judged.few t.place t.graph t.listed,
        )

    -- THE OTHER BAY IS TOLD OF where the graphs tell of its layer
    pub told : Told
    told =
        let base : List Bool = replicate (length d.switches) false in
        let u : Given d (drop 1 t.graph.layers) (SwitchChosen first (first + t.place))
        (λ k item. item ≡ a_switch (other_of first (first + t.place) k)) (own_can t.place t.graph t.listed)
        t.rest base =
        place_all d (drop 1 t.graph.layers) (SwitchChosen first (first + t.place))
        (λ k item. item ≡ a_switch (other_of first (first + t.place) k)) (own_can t.place t.graph t.listed) t.rest base
        t.rest_fits (length-replicate (length d.switches) false) in
        let v : Given d outer.layers Chosen (OfOther d c) view.placing t.one u.vector =
        place_all d outer.layers Chosen (OfOther d c) view.placing t.one u.vector t.one_fits u.whole in
        let w = view.placing.placed v.vector j (get_or t.other j 0) v.whole j_in
        (choice_in outer.layers t.other j t.other_fits j_in) in
        let own_v = own_stays t.place t.graph t.listed u.vector v.vector t.rest t.rest_fits (λ k lt. v.stays
        (other_of first (first + t.place) k) (λ p p_in. own_outside t.place t.graph t.listed k p lt)) u.chosen in
        let own_w = own_stays t.place t.graph t.listed v.vector w.vector t.rest t.rest_fits
        (λ k lt. w.stays (other_of first (first + t.place) k) (own_outside t.place t.graph t.listed k j lt)) own_v in
        let chosen_w : AreChosen Chosen w.vector t.other =
        λ k x at. others_stay v.vector w.vector t.one (get_or t.other j 0) v.whole w.whole w.stays t.one_fits v.chosen
        w.has k x (other_is k x at) in
        record {
          one = v.vector;
          other = w.vector;
          one_whole = v.whole;
          other_whole = w.whole;
          differ = w.stays;
          place = t.place;
          place_in = omega (arith, slice_get_within inners t.place t.graph t.listed, view.judged.inner_count);
          left = label_of t.graph (label_of outer t.one ∷ t.rest);
          right = label_of t.graph (label_of outer t.other ∷ t.rest);
          left_in = label_in t.one t.one_fits;
          right_in = label_in t.other t.other_fits;
          apart = t.apart;
          left_says =
              view.judged.says t.place t.graph v.vector t.one t.rest t.listed v.whole t.one_fits v.chosen
              t.rest_fits own_v;
          right_says =
              view.judged.says t.place t.graph w.vector t.other t.rest t.listed w.whole t.other_fits chosen_w
              t.rest_fits own_w;
        }
