-- The worst word of the operations of some switches.
use Rattle.std.proofs.Common.{◌≡◌, ◌≢◌, ◌⊎◌, ℕ, ◌+◌, Option, Some, None, refl, sym, ap, ◌∙◌, subst, inl, inr, arith}
use Rattle.std.specs.Prelude.{◌↔◌}
use Rattle.std.proofs.lemmas.Bool.{cases_eq}
use Rattle.judge_intake.proofs.OtherLemmas.{element}
use Rattle.ilk_base.specs.declared.words.Direction.{Direction}
use Rattle.ilk_base.specs.declared.words.Direction.TheVariants.{ToOff, ToOn}
use Rattle.ilk_base.specs.declared.words.Op.{Op}
use Rattle.station_graph.specs.Diagram.{Diagram, IsStation, AreSwitchesOf}
use Rattle.station_changes.specs.Compare.{SameSwitch}
use Rattle.station_compare.proofs.TwinLemmas.{one_same}
use Rattle.station_compare.specs.declared.found.SwitchChanges.{SwitchChanges}
use Rattle.station_compare.specs.declared.found.Found.{Found}
use Rattle.station_compare.specs.declared.found.Found.TheVariants.{OnlyNew, InBoth}
use Rattle.station_compare.specs.declared.word.Word.{Word}
use Rattle.station_compare.specs.declared.word.Word.TheVariants.{Same, Kept, Changed}
use Rattle.station_compare.specs.Words.{IsWord, worse, worst, word_of, switch_word, found_word}
use Rattle.release_dependence.specs.Operations.{opening, closing}
use Rattle.station_compare.specs.Comparing.{AreSwitchChanges, IsFound}
use Rattle.station_compare.specs.Bays.{IsCommonOf, IsWorst, WorstOf, Between, InPart}
use Rattle.station_compare.proofs.WordLemmas.{says_word}
use Rattle.station_compare.proofs.ExtendLemmas.{opened, closed}

-- ---- the order of words

pub worse_first : (w x : Word) → worse w (worse w x) ≡ worse w x
worse_first Changed x = refl
worse_first Kept Changed = refl
worse_first Kept Kept = refl
worse_first Kept Same = refl
worse_first Same x = refl

pub worse_second : (w x : Word) → worse x (worse w x) ≡ worse w x
worse_second Changed Changed = refl
worse_second Changed Kept = refl
worse_second Changed Same = refl
worse_second Kept Changed = refl
worse_second Kept Kept = refl
worse_second Kept Same = refl
worse_second Same Changed = refl
worse_second Same Kept = refl
worse_second Same Same = refl

worse_along : (y w z : Word) → worse y w ≡ w → worse w z ≡ z → worse y z ≡ z
worse_along Same w z e f = refl
worse_along Kept Same z e f = cc
worse_along Kept Kept z e f = f
worse_along Kept Changed Same e f = cc
worse_along Kept Changed Kept e f = refl
worse_along Kept Changed Changed e f = refl
worse_along Changed Same z e f = cc
worse_along Changed Kept z e f = cc
worse_along Changed Changed z e f = f

-- the worse of two is one of them
worse_one : (w x : Word) → (worse w x ≡ w) ⊎ (worse w x ≡ x)
worse_one Changed x = inl refl
worse_one Kept Changed = inr refl
worse_one Kept Kept = inl refl
worse_one Kept Same = inl refl
worse_one Same x = inr refl

-- an operation has one word
one_word : (o n : Diagram) (a b : Op) (w x : Word) → IsWord o n a b w → IsWord o n a b x → w ≡ x
one_word o n a b Same Same h k = refl
one_word o n a b Same Kept h k = absurd (h k.old k.new k.shows)
one_word o n a b Same Changed h k = absurd (h k.old k.new k.shows)
one_word o n a b Kept Same h k = absurd (k h.old h.new h.shows)
one_word o n a b Kept Kept h k = refl
one_word o n a b Kept Changed h k = absurd (h.none_isolated k.old k.new k.shows k.isolated)
one_word o n a b Changed Same h k = absurd (k h.old h.new h.shows)
one_word o n a b Changed Kept h k = absurd (k.none_isolated h.old h.new h.shows h.isolated)
one_word o n a b Changed Changed h k = refl

-- ---- of several switches

module _ (o n : Diagram) (P Q R : ℕ → Type 0) (split : (k : ℕ) → R k ↔ (P k ⊎ Q k)) where
  in_first : (a b : Op) → IsCommonOf o n P a b → IsCommonOf o n R a b
  in_first a b h = record { common = h.common; among = (split b.switch.0).1 (inl h.among) }

  in_second : (a b : Op) → IsCommonOf o n Q a b → IsCommonOf o n R a b
  in_second a b h = record { common = h.common; among = (split b.switch.0).1 (inr h.among) }

  either : (a b : Op) → IsCommonOf o n R a b → IsCommonOf o n P a b ⊎ IsCommonOf o n Q a b
  either a b h = elim ((split b.switch.0).0 h.among) [
    | inl p ↦ inl (record { common = h.common; among = p })
    | inr q ↦ inr (record { common = h.common; among = q })
  ]

  first_is : (w : Word) → IsWorst o n P w → ((a b : Op) → ¬ IsCommonOf o n Q a b) → IsWorst o n R w
  first_is w h none = record {
    old = h.old;
    new = h.new;
    operation = in_first h.old h.new h.operation;
    word = h.word;
    worst = λ a b x c is. elim (either a b c) [ inl p ↦ h.worst a b x p is | inr q ↦ absurd (none a b q) ];
  }

  second_is : (w : Word) → ((a b : Op) → ¬ IsCommonOf o n P a b) → IsWorst o n Q w → IsWorst o n R w
  second_is w none h = record {
    old = h.old;
    new = h.new;
    operation = in_second h.old h.new h.operation;
    word = h.word;
    worst = λ a b x c is. elim (either a b c) [ inl p ↦ absurd (none a b p) | inr q ↦ h.worst a b x q is ];
  }

  both_worst : (w x : Word) → IsWorst o n P w → IsWorst o n Q x → (a b : Op) (y : Word) → IsCommonOf o n R a b →
      IsWord o n a b y → worse y (worse w x) ≡ worse w x
  both_worst w x h k a b y c is = elim (either a b c) [
    | inl p ↦ worse_along y w (worse w x) (h.worst a b y p is) (worse_first w x)
    | inr q ↦ worse_along y x (worse w x) (k.worst a b y q is) (worse_second w x)
  ]

  both_is : (w x : Word) → IsWorst o n P w → IsWorst o n Q x → IsWorst o n R (worse w x)
  both_is w x h k = elim (worse_one w x) [
    | inl e ↦ (let r : IsWorst o n R (worse w x) = record {
      old = h.old;
      new = h.new;
      operation = in_first h.old h.new h.operation;
      word = subst (IsWord o n h.old h.new) (sym e) h.word;
      worst = both_worst w x h k;
    } in r)
    | inr e ↦ (let r : IsWorst o n R (worse w x) = record {
      old = k.old;
      new = k.new;
      operation = in_second k.old k.new k.operation;
      word = subst (IsWord o n k.old k.new) (sym e) k.word;
      worst = both_worst w x h k;
    } in r)
  ]

  pub worst_join : (w x : Option Word) → WorstOf o n P w → WorstOf o n Q x → WorstOf o n R (worst w x)
  worst_join None None h k = λ a b c. elim (either a b c) [ inl p ↦ h a b p | inr q ↦ k a b q ]
  worst_join None (Some x) h k = second_is x h k
  worst_join (Some w) None h k = first_is w h k
  worst_join (Some w) (Some x) h k = both_is w x h k

-- ---- of one switch

module _ (o n : Diagram) (is_o : IsStation o) (k : ℕ) where
  abbrev Only : ℕ → Type 0
  Only j = j ≡ k

  module _ (s : SwitchChanges) (are : AreSwitchChanges o n k s) where
    open_word : IsWord o n (opening s.old.0) (opening k) (word_of s.opening)
    open_word = says_word o n (opening s.old.0) (opening k) s.opening are.opened

    close_word : IsWord o n (closing s.old.0) (closing k) (word_of s.closing)
    close_word = says_word o n (closing s.old.0) (closing k) s.closing are.closed

    -- the word of any operation of the switch is one of the two
    either_word : (a b : Op) (x : Word) → IsCommonOf o n Only a b → IsWord o n a b x → (d : Direction) →
        a.direction ≡ d → worse x (switch_word s) ≡ switch_word s
    either_word a b x c is ToOff e =
        let old =
        one_same o n a.switch.0 s.old.0 k is_o
        (subst (λ j. SameSwitch o n a.switch.0 j) c.among c.common.switch) are.same in
        let there : IsWord o n (opening s.old.0) (opening k) x =
        subst (λ (y : Op). IsWord o n y (opening k) x) (sym (opened a e) ∙ ap opening old)
        (subst (λ (y : Op). IsWord o n a y x) (sym (opened b (sym c.common.direction ∙ e)) ∙ ap opening c.among) is) in
        subst (λ y. worse y (switch_word s) ≡ switch_word s)
        (one_word o n (opening s.old.0) (opening k) (word_of s.opening) x open_word there)
        (worse_first (word_of s.opening) (word_of s.closing))
    either_word a b x c is ToOn e =
        let old =
        one_same o n a.switch.0 s.old.0 k is_o
        (subst (λ j. SameSwitch o n a.switch.0 j) c.among c.common.switch) are.same in
        let there : IsWord o n (closing s.old.0) (closing k) x =
        subst (λ (y : Op). IsWord o n y (closing k) x) (sym (closed a e) ∙ ap closing old)
        (subst (λ (y : Op). IsWord o n a y x) (sym (closed b (sym c.common.direction ∙ e)) ∙ ap closing c.among) is) in
        subst (λ y. worse y (switch_word s) ≡ switch_word s)
        (one_word o n (closing s.old.0) (closing k) (word_of s.closing) x close_word there)
        (worse_second (word_of s.opening) (word_of s.closing))

    switch_worst : IsWorst o n Only (switch_word s)
    switch_worst = elim (worse_one (word_of s.opening) (word_of s.closing)) [
      | inl e ↦ (let r : IsWorst o n Only (switch_word s) = record {
        old = opening s.old.0;
        new = opening k;
        operation = record { common = record { switch = are.same; direction = refl }; among = refl };
        word = subst (IsWord o n (opening s.old.0) (opening k)) (sym e) open_word;
        worst = λ a b x c is. either_word a b x c is a.direction refl;
      } in r)
      | inr e ↦ (let r : IsWorst o n Only (switch_word s) = record {
        old = closing s.old.0;
        new = closing k;
        operation = record { common = record { switch = are.same; direction = refl }; among = refl };
        word = subst (IsWord o n (closing s.old.0) (closing k)) (sym e) close_word;
        worst = λ a b x c is. either_word a b x c is a.direction refl;
      } in r)
    ]

  found_worst : (f : Found) → IsFound o n k f → WorstOf o n Only (found_word f)
  found_worst OnlyNew none = λ a b c. none a.switch.0 (subst (λ j. SameSwitch o n a.switch.0 j) c.among c.common.switch)
  found_worst (InBoth s) are = switch_worst s are

-- ---- of the switches of a part, one after another

pub worst_next : (o n : Diagram) → IsStation o → (first j : ℕ) (w : Option Word) (f : Found) →
    WorstOf o n (Between first (first + j)) w → IsFound o n (first + j) f →
    WorstOf o n (Between first (first + (j + 1))) (worst w (found_word f))
worst_next o n is_o first j w f h found =
    worst_join o n (Between first (first + j)) (λ k. k ≡ first + j) (Between first (first + (j + 1)))
    (λ k. (λ between. split k between (cases k), back k)) w (found_word f) h (found_worst o n is_o (first + j) f found)
  where
    cases : (k : ℕ) → (k ≡ first + j) ⊎ (k ≢ first + j)
    cases k = cases_eq k (first + j)

    split : (k : ℕ) → Between first (first + (j + 1)) k → (k ≡ first + j) ⊎ (k ≢ first + j) →
        Between first (first + j) k ⊎ (k ≡ first + j)
    split k between (inl e) = inr e
    split k between (inr ne) = inl (between.0, omega (arith, between.1, ne))

    back : (k : ℕ) → Between first (first + j) k ⊎ (k ≡ first + j) → Between first (first + (j + 1)) k
    back k (inl between) = (between.0, omega (arith, between.1))
    back k (inr e) = (omega (arith, e), omega (arith, e))

-- the same of the same switches
pub worst_same : (o n : Diagram) (P Q : ℕ → Type 0) → ((k : ℕ) → P k ↔ Q k) → (w : Option Word) → WorstOf o n P w →
    WorstOf o n Q w
worst_same o n P Q same None h =
    λ a b c. h a b (record { common = c.common; among = (same b.switch.0).1 c.among })
worst_same o n P Q same (Some w) h = record {
  old = h.old;
  new = h.new;
  operation = record { common = h.operation.common; among = (same h.new.switch.0).0 h.operation.among };
  word = h.word;
  worst = λ a b x c is. h.worst a b x (record { common = c.common; among = (same b.switch.0).1 c.among }) is;
}

pub part_between : (d : Diagram) (p first count : ℕ) → AreSwitchesOf d p first count → IsStation d →
    (k : ℕ) → Between first (first + count) k ↔ InPart d p k
part_between d p first count are is k = (
  λ between. (let (x, at) = element d.switches k (omega (arith, between.1, are.within)) in
      (x, at, (are.those k x at).1 between)),
  λ of. (are.those k of.0 of.1).0 of.2,
)
