-- The choices that a vector gives to the graphs of a switch.
use Rattle.std.proofs.Common.{◌≡◌, ◌∙◌, ℕ, ◌+◌, ◌-◌, ◌<◌, ◌≤◌, zero, suc, Bool, true, false, eqb, List, [], ◌∷◌, length}
use Rattle.std.proofs.Common.{refl, sym, ap, subst, arith, Some}
use Rattle.std.specs.Prelude.{slice_get}
use Rattle.std.proofs.lemmas.Option.{same_Some, slice_get_within}
use Rattle.station_graph.specs.Diagram.{Diagram, part_count}
use Rattle.station_graph.specs.Alike.{IsVector}
use Rattle.station_graph.proofs.Decided.{element}
use Rattle.contraction.specs.Answers.{Answers}
use Rattle.decision_graphs.specs.Label.{Layered, layer_at, label_of}
use Rattle.judge_pool.specs.declared.view.View.{View}
use Rattle.judge_pool.specs.Lettered.{Lettered, AreLettered}
use Rattle.release_compile.specs.Chaining.{AreInARow}
use Rattle.judge_pool.specs.Graphs.{other_of, PartChosen, SwitchChosen, LabelSays, IsOuter, IsInner, IsOwn}
use Rattle.judge_intake.proofs.OtherLemmas.{other_in}
use Rattle.station_equations.specs.declared.subject.Subjects.{Subjects}
use Rattle.station_equations.specs.declared.subject.Subjects.TheVariants.{OtherParts, OtherSwitches}
use Rattle.station_equations.specs.EquationLines.{PartLines}
use Rattle.station_equations.specs.Subjects.{subject_at, IsPositionOf, IsChosen, AreChosenFrom, LayersLook}
use Rattle.station_equations.specs.Growing.{LayersHaveChoices}
use Rattle.station_equations.specs.Compiling.{AreExactParts}

-- a choice for each of so many layers, as a list
pub listed : (P : ℕ → ℕ → Type 0) (n : ℕ) → ((j : ℕ) → j < n → (c : ℕ) × P j c) →
    (cs : List ℕ) × (length cs ≡ n) × ((i c : ℕ) → slice_get cs i ≡ Some c → P i c)
listed P zero each = ([], refl, λ i c e. absurd (cc))
listed P (suc n) each =
    let x = each 0 (omega arith) in
    let rest = listed (λ j c. P (suc j) c) n (λ j lt. each (suc j) (omega (arith, lt))) in
    (x.0 ∷ rest.0, ap suc rest.1, entries x.0 rest.0 x.1 rest.2)
  where
    entries : (y : ℕ) (cs : List ℕ) → P 0 y → ((i c : ℕ) → slice_get cs i ≡ Some c → P (suc i) c) → (i c : ℕ) →
        slice_get (y ∷ cs) i ≡ Some c → P i c
    entries y cs here rest zero c e = subst (λ z. P 0 z) (same_Some y c e) here
    entries y cs here rest (suc i) c e = rest i c e

-- choices one by one are choices from a layer on
pub chosen_from : (parts : List PartLines) (v : List Bool) (subjects : Subjects) (g : Layered) (j : ℕ) (cs : List ℕ) →
    ((i c : ℕ) → slice_get cs i ≡ Some c →
    IsChosen parts v (subject_at subjects (j + i)) c × (c < (layer_at g.layers (j + i)).choices)) →
    AreChosenFrom parts v subjects g j cs
chosen_from parts v subjects g j [] each = tt
chosen_from parts v subjects g j (c ∷ cs) each =
    let same : j + 0 ≡ j = omega arith in
    let here = subst (λ k. IsChosen parts v (subject_at subjects k) c × (c < (layer_at g.layers k).choices)) same
    (each 0 c refl) in (
      here.0,
      here.1,
      chosen_from parts v subjects g (suc j) cs (λ i x e.
          let next : j + suc i ≡ suc j + i = omega arith in
          subst (λ k. IsChosen parts v (subject_at subjects k) x × (x < (layer_at g.layers k).choices)) next
          (each (suc i) x e)),
    )

code : Bool → ℕ
code true = 1
code false = 0

code_back : (c : Bool) → eqb (code c) 1 ≡ c
unfolding code
code_back true = refl
code_back false = refl

code_small : (c : Bool) → code c < 2
unfolding code
code_small true = omega arith
code_small false = omega arith

-- the choices of both graphs, and the label to which they lead
pub record Chosen (view : View) (d : Diagram) (parts : List PartLines) (v : List Bool) (others own : Subjects) (m : ℕ)
    (g h : Layered) : Type 0 where
  pub outer : List ℕ
  pub inner : List ℕ
  pub outer_count : length outer ≡ length g.layers
  pub inner_count : suc (length inner) ≡ length h.layers
  pub outer_chosen : AreChosenFrom parts v others g 0 outer
  pub inner_chosen : AreChosenFrom parts v own h 1 inner
  pub says : LabelSays view d m v (label_of h (label_of g outer ∷ inner))

module _ (view : View) (a : Lettered) (are : AreLettered a) (b m first others : ℕ)
    (is_own : IsOwn a.diagram b m first others) (b_in : b < part_count a.diagram) (names : List Answers) (g h : Layered)
    (o : IsOuter view a b g names) (i : IsInner view a b m first others names h) where
  other_part_in : (j : ℕ) → j < length g.layers → other_of 0 b j < part_count a.diagram
  other_part_in j lt = omega (arith, (other_in 0 b (length g.layers) j lt).1, o.count)

  other_switch_in : (j : ℕ) → j < others → other_of first m j < length a.diagram.switches
  other_switch_in j lt = omega (arith, (other_in first m others j lt).1, is_own.those.within)

  pub in_a_row : AreInARow g h
  in_a_row = record { some = omega (arith, i.count); labels = i.outer ∙ o.labels }

  pub others_look : LayersLook (OtherParts (record { 0 = b })) g 0
  others_look = record {
    fit = λ j from lt. omega (arith, o.count, lt, are.station.items.parts_few);
    rows =
        λ j from lt. subst (λ n. 0 < n) (sym (o.choices j lt))
        (are.alphabets.each (other_of 0 b j) (other_part_in j lt)).some;
  }

  before_layer : (j : ℕ) → 1 ≤ j → j < length h.layers → (j - 1 < others) × (suc (j - 1) ≡ j)
  before_layer j from lt = (omega (arith, from, lt, i.count), omega (arith, from))

  pub own_look : LayersLook (OtherSwitches (record { 0 = first }) (record { 0 = m })) h 1
  own_look = record {
    fit =
        λ j from lt. (
          omega (arith, from),
          omega (arith, lt, i.count, is_own.those.within, are.station.items.switches_few),
        );
    rows = λ j from lt.
        let k = before_layer j from lt in
        subst (λ n. (layer_at h.layers n).choices ≡ 2) k.1 (i.choices (j - 1) k.0);
  }

  module _ (parts : List PartLines) (exact : AreExactParts a.diagram a.alphabets parts) where
    pub others_have : LayersHaveChoices (length a.diagram.switches) parts (OtherParts (record { 0 = b })) g 0
    others_have = λ j from lt.
        let x = element parts (other_of 0 b j) (omega (arith, other_part_in j lt, exact.count)) in
        record { lines = x.0; listed = x.1; count = (exact.each (other_of 0 b j) x.0 x.1).count ∙ sym (o.choices j lt) }

    pub own_have : LayersHaveChoices (length a.diagram.switches) parts
        (OtherSwitches (record { 0 = first }) (record { 0 = m })) h 1
    own_have = λ j from lt.
        let k = before_layer j from lt in
        (other_switch_in (j - 1) k.0, own_look.rows j from lt)

    module _ (v : List Bool) (whole : IsVector a.diagram v) where
      outer_choice : (j : ℕ) → j < length g.layers →
          (c : ℕ)
          × (PartChosen a b j c v × IsChosen parts v (subject_at (OtherParts (record { 0 = b })) j) c
          × (c < (layer_at g.layers j).choices))
      outer_choice j lt =
          let part_in = other_part_in j lt in
          let has = (are.alphabets.each (other_of 0 b j) part_in).indexed v whole in
          let x = element parts (other_of 0 b j) (omega (arith, part_in, exact.count)) in (
            has.0,
            (
              has.1,
              record {
                lines = x.0;
                listed = x.1;
                leads = (exact.each (other_of 0 b j) x.0 x.1).leads v has.0 whole has.1;
              },
              subst (λ n. has.0 < n) (sym (o.choices j lt)) (slice_get_within _ has.0 has.1.letter has.1.listed),
            ),
          )

      inner_choice : (j : ℕ) → j < others →
          (c : ℕ) × (SwitchChosen first m j c v × IsPositionOf v (other_of first m j) c)
      inner_choice j lt =
          let x = element v (other_of first m j) (omega (arith, other_switch_in j lt, whole)) in
          let stands : slice_get v (other_of first m j) ≡ Some (eqb (code x.0) 1) =
          x.1 ∙ ap Some (sym (code_back x.0)) in (
            code x.0,
            (record { small = code_small x.0; stands = stands }, record { small = code_small x.0; stands = stands }),
          )

      -- the vector gives choices to both graphs
      pub chosen : Chosen view a.diagram parts v (OtherParts (record { 0 = b }))
          (OtherSwitches (record { 0 = first }) (record { 0 = m })) m g h
      chosen =
          let cs = listed (λ j c. PartChosen a b j c v
          × IsChosen parts v (subject_at (OtherParts (record { 0 = b })) j) c × (c < (layer_at g.layers j).choices))
          (length g.layers) outer_choice in
          let ds = listed (λ j c. SwitchChosen first m j c v × IsPositionOf v (other_of first m j) c) others
          inner_choice in
          record {
            outer = cs.0;
            inner = ds.0;
            outer_count = cs.1;
            inner_count = ap suc ds.1 ∙ sym i.count;
            outer_chosen = chosen_from parts v (OtherParts (record { 0 = b })) g 0 cs.0 (λ k c e.
                let same : 0 + k ≡ k = omega arith in
                subst (λ n. IsChosen parts v (subject_at (OtherParts (record { 0 = b })) n) c
                × (c < (layer_at g.layers n).choices)) (sym same) ((cs.2 k c e).1, (cs.2 k c e).2));
            inner_chosen =
                chosen_from parts v (OtherSwitches (record { 0 = first }) (record { 0 = m })) h 1 ds.0 (λ k c e.
                let k_in : k < others = omega (arith, slice_get_within ds.0 k c e, ds.1) in
                let before : (1 + k) - 1 ≡ k = omega arith in
                let here : suc k ≡ 1 + k = omega arith in
                let x = ds.2 k c e in (
                  subst (λ n. IsPositionOf v (other_of first m n) c) (sym before) x.1,
                  omega (arith, x.1.small, i.choices k k_in, ap (λ n. (layer_at h.layers n).choices) here),
                ));
            says =
                i.says v (label_of g cs.0) ds.0 whole (o.named v cs.0 whole cs.1 (λ k c e. (cs.2 k c e).0)) ds.1
                (λ k c e. (ds.2 k c e).0);
          }
