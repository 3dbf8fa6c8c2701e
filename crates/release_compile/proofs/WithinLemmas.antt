-- WHAT TWO GRAPHS IN A ROW SAY OF A VECTOR THAT IS ALLOWED: it gives allowed choices, and these lead to a label that
-- says what holds in it.
use Rattle.std.proofs.Common.{◌≡◌, ℕ, ◌<◌, zero, suc, Bool, false, eqb, List, [], ◌∷◌, length, drop, get_or}
use Rattle.std.proofs.Common.{slice_get, Some, refl, sym, ap, ◌∙◌, subst, arith}
use Rattle.std.proofs.lemmas.List.{length-map}
use Rattle.std.proofs.lemmas.Option.{slice_get-get_or, same_Some}
use Rattle.ilk_base.specs.declared.words.Dbpos.{Dbpos}
use Rattle.double_points.specs.Words.{Agrees}
use Rattle.station_graph.specs.Diagram.{part_count}
use Rattle.station_graph.specs.Connection.{a_switch}
use Rattle.station_graph.specs.Sharing.{OfPart}
use Rattle.judge_pool.specs.Lettered.{Lettered}
use Rattle.decision_graphs.specs.Label.{Layer, Layered, label_of, AreAllowed}
use Rattle.decision_graphs.specs.Reaching.{IsSet, set_at, AreSetsOf}
use Rattle.judge_pool.specs.declared.view.View.{View}
use Rattle.judge_pool.specs.Graphs.{other_of, PartChosen, SwitchChosen, LabelSays, IsOwn}
use Rattle.judge_graphs.specs.Through.{IsOfOthers, SaysThrough}
use Rattle.release_compile.specs.Allowed.{Within, OwnAllowed}
use Rattle.judge_intake.proofs.OtherLemmas.{other_in, code, code_back, code_small, element, length_after}

-- one allowed choice for each set, as a list
pick : (P : ℕ → ℕ → Type 0) (sets : List (List Bool)) →
    ((j : ℕ) → j < length sets → (c : ℕ) × P j c × IsSet (set_at sets j) c) →
    (cs : List ℕ) × (length cs ≡ length sets) × ((i c : ℕ) → slice_get cs i ≡ Some c → P i c) × AreAllowed sets cs
pick P [] h = ([], refl, λ i c e. absurd (cc), tt)
pick P (s ∷ ss) h =
    let x = h 0 (omega arith) in
    let r = pick (λ j. P (suc j)) ss (λ j lt. h (suc j) (omega arith)) in
    (x.0 ∷ r.0, ap suc r.1, entries x.0 r.0 x.1 r.2, (x.2, r.3))
  where
    entries : (y : ℕ) (cs : List ℕ) → P 0 y → ((i c : ℕ) → slice_get cs i ≡ Some c → P (suc i) c) → (i c : ℕ) →
        slice_get (y ∷ cs) i ≡ Some c → P i c
    entries y cs p q zero c e = subst (λ z. P 0 z) (same_Some y c e) p
    entries y cs p q (suc i) c e = q i c e

pub length_sets : (ls : List Layer) (sets : List (List Bool)) → AreSetsOf ls sets → length sets ≡ length ls
length_sets ls sets e = sym (length-map sets length) ∙ (ap length e ∙ length-map ls (λ (l : Layer). l.choices))

pub set_after : (sets : List (List Bool)) (i : ℕ) → set_at (drop 1 sets) i ≡ set_at sets (suc i)
set_after [] i = refl
set_after (s ∷ ss) i = refl

module _ (view : View) (a : Lettered) (b m first others : ℕ) (words : List Dbpos) (sets inner_sets : List (List Bool))
    (outer inner : Layered) (is_own : IsOwn a.diagram b m first others) (outer_is : IsOfOthers a b outer)
    (inner_is : SaysThrough view a b m first others outer inner)
    (fits : AreSetsOf outer.layers sets) (inner_fits : AreSetsOf inner.layers inner_sets)
    (own : OwnAllowed first m others words inner_sets) where
  pub sets_count : suc (length sets) ≡ part_count a.diagram
  sets_count = omega (arith, length_sets outer.layers sets fits, outer_is.count)

  pub own_count : length (drop 1 inner_sets) ≡ others
  own_count = length_after others inner_sets (length_sets inner.layers inner_sets inner_fits ∙ inner_is.count)

  module _ (v : List Bool) (within : Within a b words sets v) where
    -- the position of an other switch, as an allowed choice
    own_choice : (i : ℕ) → i < length (drop 1 inner_sets) →
        (c : ℕ) × SwitchChosen first m i c v × IsSet (set_at (drop 1 inner_sets) i) c
    own_choice i lt =
        let i_in : i < others = omega (arith, lt, own_count) in
        let o = other_of first m i in
        let range = other_in first m others i i_in in
        let in_d : o < length a.diagram.switches = omega (arith, range.1, is_own.those.within) in
        let o_in : o < length v = omega (arith, in_d, within.whole) in
        let closed : Bool = get_or v o false in
        let at_v : slice_get v o ≡ Some closed = slice_get-get_or v o false o_in in
        let x = element a.diagram.switches o in_d in
        let of_b : OfPart a.diagram b (a_switch o) = (x.0, x.1, (is_own.those.those o x.0 x.1).1 range) in
        let agrees : (word : Dbpos) → slice_get words o ≡ Some word → Agrees word (eqb (code closed) 1) =
        λ word at_w. subst (λ t. Agrees word t) (sym (code_back closed)) (within.own o word closed of_b at_w at_v) in (
          code closed,
          record { small = code_small closed; stands = at_v ∙ ap Some (sym (code_back closed)) },
          subst (λ t. IsSet t (code closed)) (sym (set_after inner_sets i))
              ((own i (code closed) i_in (code_small closed)).1 agrees),
        )

    outer_choices : (cs : List ℕ) × (length cs ≡ length sets)
        × ((i c : ℕ) → slice_get cs i ≡ Some c → PartChosen a b i c v) × AreAllowed sets cs
    outer_choices = pick (λ j c. PartChosen a b j c v) sets (λ j lt. within.others j (omega (arith, lt, sets_count)))

    own_choices : (ds : List ℕ) × (length ds ≡ length (drop 1 inner_sets))
        × ((i c : ℕ) → slice_get ds i ≡ Some c → SwitchChosen first m i c v) × AreAllowed (drop 1 inner_sets) ds
    own_choices = pick (λ i c. SwitchChosen first m i c v) (drop 1 inner_sets) own_choice

    -- allowed choices that the vector gives, and the label to which they lead
    pub choices_within : (cs ds : List ℕ) × AreAllowed sets cs × AreAllowed (drop 1 inner_sets) ds
        × LabelSays view a.diagram m v (label_of inner (label_of outer cs ∷ ds))
    choices_within =
        let o = outer_choices in
        let w = own_choices in
        let len = o.1 ∙ length_sets outer.layers sets fits in
        (o.0, w.0, o.3, w.3, inner_is.says v o.0 w.0 within.whole len o.2 (w.1 ∙ own_count) w.2)
