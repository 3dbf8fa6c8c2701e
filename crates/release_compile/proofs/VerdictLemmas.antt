-- THE VERDICT: what the four graphs say of a vector, and so of all vectors that are allowed.
use Rattle.std.proofs.Common.{◌≡◌, ◌≢◌, ℕ, ◌<◌, zero, suc, Bool, eqb, List, []}
use Rattle.std.proofs.Common.{◌∷◌, length, drop, get_or, slice_get, Some, None, refl, sym, ap, ◌∙◌, subst, inl, inr}
use Rattle.std.proofs.Common.{arith}
use Rattle.std.proofs.lemmas.Bool.{cases_eq, false≢true, ne_eqb}
use Rattle.std.proofs.lemmas.Option.{slice_get-get_or, same_Some}
use Rattle.ilk_base.specs.declared.words.Dbpos.{Dbpos}
use Rattle.ilk_base.specs.declared.words.Direction.{Direction}
use Rattle.ilk_base.specs.declared.words.Direction.TheVariants.{ToOff, ToOn}
use Rattle.ilk_base.specs.declared.words.Op.{Op}
use Rattle.ilk_base.specs.declared.words.Rule.{Rule}
use Rattle.ilk_base.specs.declared.words.Rule.TheVariants.{R1, R2, R3}
use Rattle.double_points.specs.Words.{Agrees}
use Rattle.station_graph.specs.Diagram.{Diagram, part_count}
use Rattle.station_graph.specs.Alike.{IsVector}
use Rattle.station_graph.specs.CentralRules.{Breaks, GapBreaks}
use Rattle.judge_pool.specs.Lettered.{Lettered}
use Rattle.decision_graphs.specs.Label.{Layer, layer_at, label_of, AreAllowed}
use Rattle.decision_graphs.specs.Reaching.{IsSet, set_at, AreSetsOf}
use Rattle.judge_pool.specs.declared.view.View.{View}
use Rattle.judge_pool.specs.declared.view.View.TheVariants.{Gap, Load}
use Rattle.release_compile.specs.declared.search.Side.{Side}
use Rattle.judge_pool.specs.Folding.{AreChosen}
use Rattle.release_compile.specs.Chaining.{LeadThrough, NoneLeadsTo, IsChainOf, GapFree, IsFound}
use Rattle.judge_pool.specs.Graphs.{other_of, PartChosen, SwitchChosen, gap_rule, LabelSays, IsOwn}
use Rattle.release_compile.specs.Allowed.{Within, IsSide, GivesChoices}
use Rattle.judge_intake.proofs.OtherLemmas.{own_place}
use Rattle.release_compile.proofs.WithinLemmas.{length_sets, set_after, sets_count, own_count, choices_within}

pub allowed_length : (sets : List (List Bool)) (cs : List ℕ) → AreAllowed sets cs → length cs ≡ length sets
allowed_length [] [] a = refl
allowed_length [] (c ∷ cs) a = absurd a
allowed_length (s ∷ ss) [] a = absurd a
allowed_length (s ∷ ss) (c ∷ cs) a = ap suc (allowed_length ss cs a.1)

-- ---- one view

module _ (view : View) (a : Lettered) (b m first others : ℕ) (words : List Dbpos) (sets : List (List Bool)) (s : Side)
    (is_own : IsOwn a.diagram b m first others) (side : IsSide view a b m first others words sets s) where
  sets_of_side : suc (length sets) ≡ part_count a.diagram
  sets_of_side =
      sets_count view a b m first others words sets s.inner_sets s.outer.now s.inner.now is_own side.outer_is
      side.inner_is side.ready.fits side.ready.inner_fits side.own

  own_of_side : length (drop 1 s.inner_sets) ≡ others
  own_of_side =
      own_count view a b m first others words sets s.inner_sets s.outer.now s.inner.now is_own side.outer_is
      side.inner_is side.ready.fits side.ready.inner_fits side.own

  -- allowed choices lead to a label that says what holds in the vector
  pub says_within : (v : List Bool) → Within a b words sets v → (label : ℕ) × (cs ds : List ℕ)
      × LeadThrough s.outer.now s.inner.now sets s.inner_sets label cs ds × LabelSays view a.diagram m v label
  says_within v within =
      let w =
      choices_within view a b m first others words sets s.inner_sets s.outer.now s.inner.now is_own
      side.outer_is side.inner_is side.ready.fits side.ready.inner_fits side.own v within in (
        label_of s.inner.now (label_of s.outer.now w.0 ∷ w.1),
        w.0,
        w.1,
        record { outer_allows = w.2; inner_allows = w.3; led = refl },
        w.4,
      )

  -- a label that is led to says what holds in each vector that gives these choices
  pub says_chain : (goal : ℕ) (cs all : List ℕ) → IsChainOf s sets goal cs all → (v : List Bool) →
      IsVector a.diagram v → AreChosen (PartChosen a b) v cs → AreChosen (SwitchChosen first m) v (drop 1 all) →
      LabelSays view a.diagram m v goal
  says_chain goal cs all c v whole chosen own =
      let len = allowed_length sets cs c.leads.outer_allows ∙ length_sets s.outer.now.layers sets side.ready.fits in
      let rest : drop 1 all ≡ c.rest = ap (drop 1) c.split in
      let says = side.inner_is.says v cs c.rest whole len chosen
      (allowed_length (drop 1 s.inner_sets) c.rest c.leads.inner_allows ∙ own_of_side)
      (subst (λ ds. AreChosen (SwitchChosen first m) v ds) rest own) in
      subst (λ l. LabelSays view a.diagram m v l) c.leads.led says

-- ---- both views

gap_none : (label : ℕ) → label ≢ 1 → label ≢ 2 → gap_rule label ≡ None
gap_none label one two = rw (ne_eqb label 1 one, ne_eqb label 2 two) refl

-- only closing breaks one of the first two rules
pub opening_free : (d : Diagram) (v : List Bool) (op : Op) → op.direction ≡ ToOff → GapBreaks d v op None
opening_free d v op opens = (
  λ h. absurd (let e = h.closes in cc),
  λ h. elim h [ inl k ↦ absurd (let e = k.closes in cc) | inr k ↦ absurd (let e = k.closes in cc) ],
)

-- CLOSING BREAKS NEITHER OF THE FIRST TWO RULES where no choices lead to a label that says one of them
module _ (a : Lettered) (b m first others : ℕ) (words : List Dbpos) (sets : List (List Bool)) (gap : Side)
    (is_own : IsOwn a.diagram b m first others) (gap_side : IsSide Gap a b m first others words sets gap) (op : Op)
    (moves : op.switch.0 ≡ m) where
  pub closing_free : op.direction ≡ ToOn → NoneLeadsTo gap sets 1 × NoneLeadsTo gap sets 2 → (v : List Bool) →
      Within a b words sets v → GapBreaks a.diagram v op None
  closing_free closes none v within =
      let w = says_within Gap a b m first others words sets gap is_own gap_side v within in
      let label = w.0 in
      let leads = w.3 in
      let not_one : label ≢ 1 =
      λ is. none.0 w.1 w.2
      (subst (λ l. LeadThrough gap.outer.now gap.inner.now sets gap.inner_sets l w.1 w.2) is leads) in
      let not_two : label ≢ 2 =
      λ is. none.1 w.1 w.2
      (subst (λ l. LeadThrough gap.outer.now gap.inner.now sets gap.inner_sets l w.1 w.2) is leads) in
      subst (λ r. GapBreaks a.diagram v op r) (gap_none label not_one not_two) (w.4 op moves closes)

-- NO RULE IS BROKEN where neither of the first two is, and no choices lead to a label that says the third
module _ (a : Lettered) (b m first others : ℕ) (words : List Dbpos) (sets : List (List Bool)) (load : Side)
    (is_own : IsOwn a.diagram b m first others) (load_side : IsSide Load a b m first others words sets load) (op : Op)
    (moves : op.switch.0 ≡ m) where
  pub load_free : ((v : List Bool) → Within a b words sets v → GapBreaks a.diagram v op None) → NoneLeadsTo load sets 1 →
      (v : List Bool) → Within a b words sets v → Breaks a.diagram v op None
  load_free free none v within =
      let g = free v within in
      let w = says_within Load a b m first others words sets load is_own load_side v within in
      let not_one : w.0 ≢ 1 =
      λ is. none w.1 w.2
      (subst (λ l. LeadThrough load.outer.now load.inner.now sets load.inner_sets l w.1 w.2) is w.3) in
      (g.0, g.1, λ h. not_one ((w.4 op moves).1 h))

module _ (a : Lettered) (b m first others : ℕ) (words : List Dbpos) (sets : List (List Bool)) (gap load : Side)
    (is_own : IsOwn a.diagram b m first others) (gap_side : IsSide Gap a b m first others words sets gap)
    (load_side : IsSide Load a b m first others words sets load) (op : Op) (moves : op.switch.0 ≡ m) where
  gap_free : GapFree op.direction gap sets → (v : List Bool) → Within a b words sets v → GapBreaks a.diagram v op None
  gap_free free v within = by op.direction refl where
    by : (direction : Direction) → op.direction ≡ direction → GapBreaks a.diagram v op None
    by ToOff e = opening_free a.diagram v op e
    by ToOn e = closing_free a b m first others words sets gap is_own gap_side op moves e (free e) v within

  -- RELEASED: no rule is broken in any allowed vector
  pub released : GapFree op.direction gap sets → NoneLeadsTo load sets 1 → (v : List Bool) → Within a b words sets v →
      Breaks a.diagram v op None
  released free none v within =
      load_free a b m first others words sets load is_own load_side op moves (gap_free free) none v within

  -- DENIED: the rule is what is broken in each allowed vector that gives the choices that were found
  pub denied : (rule : Rule) (cs all : List ℕ) → IsFound op.direction gap load sets rule cs all → (v : List Bool) →
      Within a b words sets v → AreChosen (PartChosen a b) v cs → AreChosen (SwitchChosen first m) v (drop 1 all) →
      Breaks a.diagram v op (Some rule)
  denied R1 cs all found v within chosen own =
      says_chain Gap a b m first others words sets gap is_own gap_side 1 cs all found.1 v within.whole chosen own
      op moves found.0
  denied R2 cs all found v within chosen own =
      says_chain Gap a b m first others words sets gap is_own gap_side 2 cs all found.1 v within.whole chosen own
      op moves found.0
  denied R3 cs all found v within chosen own =
      let g = gap_free found.0 v within in
      let says = says_chain Load a b m first others words sets load is_own load_side 1 cs all found.1 v within.whole
      chosen own op moves in
      (g.0, g.1, says.0 refl)

-- ---- a vector that gives allowed choices is allowed

pub set_in : (s : List Bool) (c : ℕ) → IsSet s c → c < length s
set_in [] c h = absurd (false≢true h)
set_in (x ∷ s) zero h = omega arith
set_in (x ∷ s) (suc c) h = omega (arith, set_in s c h)

pub sets_at : (ls : List Layer) (sets : List (List Bool)) (i : ℕ) → AreSetsOf ls sets →
    length (set_at sets i) ≡ (layer_at ls i).choices
sets_at [] [] i e = refl
sets_at [] (s ∷ ss) i e = absurd (cc)
sets_at (l ∷ ls) [] i e = absurd (cc)
sets_at (l ∷ ls) (s ∷ ss) zero e = cc
sets_at (l ∷ ls) (s ∷ ss) (suc i) e = sets_at ls ss i (cc)

-- an allowed choice of a list
pub allowed_at : (sets : List (List Bool)) (cs : List ℕ) (i c : ℕ) → AreAllowed sets cs → slice_get cs i ≡ Some c →
    IsSet (set_at sets i) c
allowed_at [] [] i c a at = absurd (let h : slice_get {X = ℕ} [] i ≡ Some c = at in cc)
allowed_at [] (x ∷ xs) i c a at = absurd a
allowed_at (s ∷ ss) [] i c a at = absurd a
allowed_at (s ∷ ss) (x ∷ xs) zero c a at = subst (λ y. IsSet s y) (same_Some x c at) a.0
allowed_at (s ∷ ss) (x ∷ xs) (suc i) c a at = allowed_at ss xs i c a.1 at

module _ (view : View) (a : Lettered) (b m first others : ℕ) (words : List Dbpos) (sets : List (List Bool)) (s : Side)
    (is_own : IsOwn a.diagram b m first others) (side : IsSide view a b m first others words sets s) where
  -- A VECTOR THAT GIVES CHOICES THAT WERE FOUND IS ALLOWED
  pub within_of : (goal : ℕ) (cs all : List ℕ) (v : List Bool) → IsChainOf s sets goal cs all →
      GivesChoices a b m first words cs (drop 1 all) v → Within a b words sets v
  within_of goal cs all v c g = record {
    whole = g.whole;
    own = λ i word closed of_b at_w at_v.
        let range = (is_own.those.those i of_b.0 of_b.1).0 of_b.2 in
        elim (cases_eq i m) [
          | inl e ↦ g.moved word closed (ap (slice_get words) (sym e) ∙ at_w) (ap (slice_get v) (sym e) ∙ at_v)
          | inr ne ↦
              let k = own_place first m others i is_own.from is_own.below range.0 range.1 ne in
              let own_len = allowed_length (drop 1 s.inner_sets) c.rest c.leads.inner_allows
              ∙ own_of_side view a b m first others words sets s is_own side in
              let choice : ℕ = get_or c.rest k.0 0 in
              let at_c : slice_get c.rest k.0 ≡ Some choice =
              slice_get-get_or c.rest k.0 0 (omega (arith, k.1, own_len)) in
              let allowed : IsSet (set_at s.inner_sets (suc k.0)) choice =
              subst (λ t. IsSet t choice) (set_after s.inner_sets k.0)
              (allowed_at (drop 1 s.inner_sets) c.rest k.0 choice c.leads.inner_allows at_c) in
              let rest : drop 1 all ≡ c.rest = ap (drop 1) c.split in
              let chosen : slice_get v (other_of first m k.0) ≡ Some (eqb choice 1) =
              (g.own k.0 choice (ap (λ ds. slice_get ds k.0) rest ∙ at_c)).stands in
              let is : eqb choice 1 ≡ closed =
              same_Some (eqb choice 1) closed (sym chosen ∙ (ap (slice_get v) k.2 ∙ at_v)) in
              subst (λ t. Agrees word t) is (own_agrees k.0 choice word k.1 allowed (ap (slice_get words) k.2 ∙ at_w))
        ];
    others = λ j lt.
        let len = allowed_length sets cs c.leads.outer_allows in
        let j_in : j < length cs =
        omega (arith, lt, len, sets_of_side view a b m first others words sets s is_own side) in
        let choice : ℕ = get_or cs j 0 in
        let at_c : slice_get cs j ≡ Some choice = slice_get-get_or cs j 0 j_in in
        (choice, g.parts j choice at_c, allowed_at sets cs j choice c.leads.outer_allows at_c);
  }
    where
      own_agrees : (k choice : ℕ) (word : Dbpos) → k < others → IsSet (set_at s.inner_sets (suc k)) choice →
          slice_get words (other_of first m k) ≡ Some word → Agrees word (eqb choice 1)
      own_agrees k choice word lt allowed at =
          (side.own k choice lt (choice_small k choice lt allowed)).0 allowed word at
        where
          choice_small : (i c : ℕ) → i < others → IsSet (set_at s.inner_sets (suc i)) c → c < 2
          choice_small i c i_in h = omega (
            arith,
            set_in (set_at s.inner_sets (suc i)) c h,
            sets_at s.inner.now.layers s.inner_sets (suc i) side.ready.inner_fits,
            side.inner_is.choices i i_in,
          )
