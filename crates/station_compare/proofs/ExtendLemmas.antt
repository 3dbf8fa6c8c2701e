-- No switch gone and no operation changed: the new station extends the old one, and the other way round.
use Rattle.std.proofs.Common.{◌≡◌, ◌≢◌, ◌⊎◌, ℕ, Bool, true, false, List, slice_get, Some, None, refl, sym, ap, ◌∙◌}
use Rattle.std.proofs.Common.{subst, inl, inr, arith}
use Rattle.std.proofs.lemmas.Option.{slice_get_within}
use Rattle.ilk_base.specs.declared.words.Direction.{Direction}
use Rattle.ilk_base.specs.declared.words.Direction.TheVariants.{ToOff, ToOn}
use Rattle.ilk_base.specs.declared.words.Op.{Op}
use Rattle.ilk_base.specs.declared.words.Rule.{Rule}
use Rattle.ilk_base.specs.declared.words.Rule.TheVariants.{R1, R2, R3}
use Rattle.station_graph.specs.Diagram.{Diagram, IsStation}
use Rattle.station_graph.specs.CentralRules.{Breaks}
use Rattle.station_changes.specs.declared.change.Change.{Change}
use Rattle.station_changes.specs.declared.change.Change.TheVariants.{Stricter, Looser}
use Rattle.station_changes.specs.Compare.{SameSwitch, IsCommon, IsJoint, IsIsolated, IsChange, Extends}
use Rattle.station_changes.proofs.MirrorLemmas.{stays_released, was_released}
use Rattle.judge_intake.proofs.OtherLemmas.{element}
use Rattle.station_compare.proofs.TwinLemmas.{one_same}
use Rattle.station_compare.specs.declared.found.SwitchChanges.{SwitchChanges}
use Rattle.station_compare.specs.declared.found.Found.{Found}
use Rattle.station_compare.specs.declared.found.Found.TheVariants.{OnlyNew, InBoth}
use Rattle.station_compare.specs.declared.found.Comparison.{Comparison}
use Rattle.station_compare.specs.declared.word.Word.{Word}
use Rattle.station_compare.specs.declared.word.Word.TheVariants.{Same, Kept, Changed}
use Rattle.station_compare.specs.Words.{ShowsSome, IsWord, worse, word_of, switch_word, IsUnchanged}
use Rattle.release_dependence.specs.Operations.{opening, closing}
use Rattle.station_compare.specs.Comparing.{AreSwitchChanges, IsFound, IsGone, IsComparison}
use Rattle.station_compare.proofs.WordLemmas.{says_word}

-- ---- words

first_worst : (w x : Word) → w ≡ Changed → worse w x ≡ Changed
first_worst Changed x e = refl
first_worst Kept x e = cc
first_worst Same x e = cc

second_worst : (w x : Word) → x ≡ Changed → worse w x ≡ Changed
second_worst Changed x e = refl
second_worst Kept Changed e = refl
second_worst Kept Kept e = cc
second_worst Kept Same e = cc
second_worst Same x e = e

worst_one : (w x : Word) → worse w x ≡ Changed → (w ≡ Changed) ⊎ (x ≡ Changed)
worst_one Changed x e = inl refl
worst_one Kept Changed e = inr refl
worst_one Kept Kept e = inl e
worst_one Kept Same e = inl e
worst_one Same x e = inr e

-- ---- what no isolated position shows

not_changed : (o n : Diagram) (a b : Op) (w : Word) → IsWord o n a b w → w ≢ Changed → (u v : List Bool) →
    IsIsolated o n u v → ¬ ShowsSome o n a b u v
not_changed o n a b Same h ne u v iso s = h u v s
not_changed o n a b Kept h ne u v iso s = h.none_isolated u v s iso
not_changed o n a b Changed h ne u v iso s = ne refl

-- ---- operations

pub opened : (a : Op) → a.direction ≡ ToOff → opening a.switch.0 ≡ a
opened a e = ap (λ (d : Direction). (let op : Op = record { switch = a.switch; direction = d } in op)) (sym e)

pub closed : (a : Op) → a.direction ≡ ToOn → closing a.switch.0 ≡ a
closed a e = ap (λ (d : Direction). (let op : Op = record { switch = a.switch; direction = d } in op)) (sym e)

module _ (o n : Diagram) (c : SwitchChanges) (k : ℕ) (are : AreSwitchChanges o n k c) (ne : switch_word c ≢ Changed)
    (u v : List Bool) (iso : IsIsolated o n u v) where
  none_opening : ¬ ShowsSome o n (opening c.old.0) (opening k) u v
  none_opening =
      not_changed o n (opening c.old.0) (opening k) (word_of c.opening)
      (says_word o n (opening c.old.0) (opening k) c.opening are.opened)
      (λ e. ne (first_worst (word_of c.opening) (word_of c.closing) e)) u v iso

  none_closing : ¬ ShowsSome o n (closing c.old.0) (closing k) u v
  none_closing =
      not_changed o n (closing c.old.0) (closing k) (word_of c.closing)
      (says_word o n (closing c.old.0) (closing k) c.closing are.closed)
      (λ e. ne (second_worst (word_of c.opening) (word_of c.closing) e)) u v iso

  none_of : (a b : Op) (d : Direction) → a.direction ≡ d → a.direction ≡ b.direction → c.old.0 ≡ a.switch.0 →
      b.switch.0 ≡ k → ¬ ShowsSome o n a b u v
  none_of a b ToOff e f old new s =
      none_opening
      (subst (λ (x : Op). ShowsSome o n x (opening k) u v) (sym (opened a e) ∙ sym (ap opening old))
      (subst (λ (y : Op). ShowsSome o n a y u v) (sym (opened b (sym f ∙ e)) ∙ ap opening new) s))
  none_of a b ToOn e f old new s =
      none_closing
      (subst (λ (x : Op). ShowsSome o n x (closing k) u v) (sym (closed a e) ∙ sym (ap closing old))
      (subst (λ (y : Op). ShowsSome o n a y u v) (sym (closed b (sym f ∙ e)) ∙ ap closing new) s))

-- ---- the whole

broken_not_none : (d : Diagram) (v : List Bool) (op : Op) (rule : Rule) → Breaks d v op (Some rule) →
    ¬ Breaks d v op None
broken_not_none d v op R1 h none = none.0 h
broken_not_none d v op R2 h none = none.1 h.1
broken_not_none d v op R3 h none = none.2 h.2

module _ (o n : Diagram) (c : Comparison) (is : IsComparison o n c) (is_o : IsStation o) where
  abbrev NoneGone : Type 0
  NoneGone = (i : ℕ) → slice_get c.gone.items i ≢ Some true

  abbrev NoneChanged : Type 0
  NoneChanged = (k : ℕ) (f : Found) → slice_get c.here.items k ≡ Some f → IsUnchanged f

  twin : (i : ℕ) (g : Bool) → g ≢ true → IsGone o n i g → (k : ℕ) × SameSwitch o n i k
  twin i true ne h = absurd (ne refl)
  twin i false ne h = h

  none_shows : (a b : Op) (u v : List Bool) → IsCommon o n a b → IsIsolated o n u v → (f : Found) →
      IsFound o n b.switch.0 f → IsUnchanged f → ¬ ShowsSome o n a b u v
  none_shows a b u v common iso OnlyNew none un = absurd (none a.switch.0 common.switch)
  none_shows a b u v common iso (InBoth s) are un =
      none_of o n s b.switch.0 are un u v iso a b a.direction refl common.direction
      (one_same o n s.old.0 a.switch.0 b.switch.0 is_o are.same common.switch) refl

  none_common : NoneChanged → (a b : Op) (u v : List Bool) → IsCommon o n a b → IsIsolated o n u v →
      ¬ ShowsSome o n a b u v
  none_common unchanged a b u v common iso =
      let k = b.switch.0 in
      let in_n = slice_get_within n.switches k common.switch.new common.switch.new_at in
      let (f, at) = element c.here.items k (omega (arith, in_n, is.here.count)) in
      none_shows a b u v common iso f (is.here.each k f at) (unchanged k f at)

  pub extends_of : NoneGone → NoneChanged → Extends o n
  extends_of none unchanged = record {
    all_there = λ i lt.
        let (g, at) = element c.gone.items i (omega (arith, lt, is.gone.count)) in
        twin i g (λ e. none i (at ∙ ap Some e)) (is.gone.each i g at);
    releases = λ a b u v common joint iso.
        let shown = none_common unchanged a b u v common iso in (
          λ h. stays_released o n a b u v
              (λ rule x. shown (record { change = Stricter; rule = rule; joint = joint; shows = x })) h,
          λ h. was_released o n a b u v
              (λ rule x. shown (record { change = Looser; rule = rule; joint = joint; shows = x })) h,
        );
  }

  pub gone_of : Extends o n → NoneGone
  gone_of ext i at =
      let lt = slice_get_within c.gone.items i true at in
      let (k, same) = ext.all_there i (omega (arith, lt, is.gone.count)) in
      is.gone.each i true at k same

  shows_not : Extends o n → (a b : Op) (u v : List Bool) → IsCommon o n a b → IsIsolated o n u v →
      (change : Change) (rule : Rule) → IsJoint o n u v → ¬ IsChange o n a b change rule u v
  shows_not ext a b u v common iso Stricter rule joint h =
      broken_not_none n v b rule h.1 ((ext.releases a b u v common joint iso).0 h.0)
  shows_not ext a b u v common iso Looser rule joint h =
      broken_not_none o u a rule h.0 ((ext.releases a b u v common joint iso).1 h.1)

  word_not : Extends o n → (a b : Op) → IsCommon o n a b → (w : Word) → IsWord o n a b w → w ≢ Changed
  word_not ext a b common Same h e = cc
  word_not ext a b common Kept h e = cc
  word_not ext a b common Changed h e =
      shows_not ext a b h.old h.new common h.isolated h.shows.change h.shows.rule h.shows.joint h.shows.shows

  switch_not : Extends o n → (k : ℕ) (s : SwitchChanges) → AreSwitchChanges o n k s → switch_word s ≢ Changed
  switch_not ext k s are e = elim (worst_one (word_of s.opening) (word_of s.closing) e) [
    | inl f ↦ word_not ext (opening s.old.0) (opening k) (record { switch = are.same; direction = refl })
        (word_of s.opening) (says_word o n (opening s.old.0) (opening k) s.opening are.opened) f
    | inr f ↦ word_not ext (closing s.old.0) (closing k) (record { switch = are.same; direction = refl })
        (word_of s.closing) (says_word o n (closing s.old.0) (closing k) s.closing are.closed) f
  ]

  found_not : Extends o n → (k : ℕ) (f : Found) → IsFound o n k f → IsUnchanged f
  found_not ext k OnlyNew h = tt
  found_not ext k (InBoth s) h = switch_not ext k s h

  pub unchanged_of : Extends o n → NoneChanged
  unchanged_of ext k f at = found_not ext k f (is.here.each k f at)
