-- Two comparisons of the same stations, one each way round.
use Rattle.std.proofs.Common.{◌≡◌, ℕ, ◌<◌, zero, suc, Bool, true, false, List, [], ◌∷◌, length, slice_get, Option, Some, None}
use Rattle.std.proofs.Common.{refl, sym, ap, ◌∙◌, subst, arith}
use Rattle.std.specs.Prelude.{option_map, if◌then◌else◌}
use Rattle.std.proofs.lemmas.Option.{same_Some, slice_get_within}
use Rattle.ilk_base.specs.declared.words.Op.{Op}
use Rattle.ilk_base.specs.declared.words.Rule.{Rule}
use Rattle.ilk_base.specs.declared.words.Rule.TheVariants.{R1, R2, R3}
use Rattle.station_graph.specs.Diagram.{Diagram, IsStation}
use Rattle.station_changes.specs.declared.change.Change.{Change}
use Rattle.station_changes.specs.declared.change.Change.TheVariants.{Stricter, Looser}
use Rattle.station_changes.specs.Compare.{SameSwitch, IsPart, Witness, Shows, mirrored}
use Rattle.station_changes.proofs.MirrorLemmas.{same_back}
use Rattle.change_search.specs.declared.part.Shown.{Shown}
use Rattle.change_search.specs.Showing.{witness_of}
use Rattle.station_compare.specs.declared.found.RuleChanges.{RuleChanges}
use Rattle.station_compare.specs.declared.found.OperationChanges.{OperationChanges}
use Rattle.station_compare.specs.declared.found.SwitchChanges.{SwitchChanges}
use Rattle.station_compare.specs.declared.found.Found.{Found}
use Rattle.station_compare.specs.declared.found.Found.TheVariants.{OnlyNew, InBoth}
use Rattle.station_compare.specs.declared.found.Comparison.{Comparison}
use Rattle.station_compare.specs.declared.word.Word.{Word}
use Rattle.station_compare.specs.declared.word.Word.TheVariants.{Same, Kept, Changed}
use Rattle.station_compare.specs.Words.{worse, part_word, rule_word, turned}
use Rattle.release_dependence.specs.Operations.{opening, closing}
use Rattle.station_compare.specs.Each.{AreEach}
use Rattle.station_compare.specs.Comparing.{AreRuleChanges, AreChanges, AreSwitchChanges, IsFound, IsGone, IsComparison}
use Rattle.station_compare.proofs.MirrorLemmas.{part_back}
use Rattle.station_compare.proofs.TwinLemmas.{one_same}
use Rattle.compare_text.specs.Mirror.{shown_as, AreShownAlike, AreMirrored, AreMirrorImages, AreTurnedRound}

-- ---- one change by one rule

module _ (o n : Diagram) (a b : Op) (change : Change) (rule : Rule) where
  same_isolated : (w x : Witness) → Shows o n a b change rule w → Shows o n a b change rule x → (i j : Bool) →
      w.isolated ≡ i → x.isolated ≡ j → i ≡ j
  same_isolated w x s t true true e f = refl
  same_isolated w x s t true false e f = absurd (t.none_isolated f w.old w.new s.joint (s.isolated e) s.shows)
  same_isolated w x s t false true e f = absurd (s.none_isolated e x.old x.new t.joint (t.isolated f) t.shows)
  same_isolated w x s t false false e f = refl

  -- what is found of it is isolated in both or in neither
  one_part : (p q : Option Witness) → IsPart o n a b change rule p → IsPart o n a b change rule q →
      option_map (λ (w : Witness). w.isolated) p ≡ option_map (λ (w : Witness). w.isolated) q
  one_part None None none other = refl
  one_part None (Some x) none shown = absurd (none x.old x.new shown.joint shown.shows)
  one_part (Some w) None shown none = absurd (none w.old w.new shown.joint shown.shows)
  one_part (Some w) (Some x) s t = ap Some (same_isolated w x s t w.isolated x.isolated refl refl)

witness_as : (p : Option Shown) → option_map (λ (w : Witness). w.isolated) (option_map witness_of p) ≡ shown_as p
witness_as None = refl
witness_as (Some s) = refl

turned_as : (p : Option Shown) →
    option_map (λ (w : Witness). w.isolated) (option_map turned (option_map witness_of p)) ≡ shown_as p
turned_as None = refl
turned_as (Some s) = refl

shown_alike : (o n : Diagram) (a b : Op) (change : Change) (rule : Rule) (p q : Option Shown) →
    IsPart o n a b change rule (option_map witness_of p) →
    IsPart n o b a (mirrored change) rule (option_map witness_of q) → shown_as p ≡ shown_as q
shown_alike o n a b change rule p q h k =
    sym (turned_as p)
    ∙ (one_part n o b a (mirrored change) rule (option_map turned (option_map witness_of p)) (option_map witness_of q)
    (part_back o n a b change rule (option_map witness_of p) h) k
    ∙ witness_as q)

-- ---- words

none_some : (b : Bool) → None ≡ Some b → ⊥
none_some b e = cc

part_alike : (p q : Option Shown) → shown_as p ≡ shown_as q → part_word p ≡ part_word q
part_alike None None e = refl
part_alike None (Some t) e = absurd (none_some t.isolated e)
part_alike (Some s) None e = absurd (none_some s.isolated (sym e))
part_alike (Some s) (Some t) e =
    let same : s.isolated ≡ t.isolated = same_Some s.isolated t.isolated e in
    ap (λ (i : Bool). if i then Changed else Kept) same

rules_alike : (x y : RuleChanges) → AreShownAlike x y → rule_word x ≡ rule_word y
rules_alike x y h =
    let first = part_alike x.by_r1 y.by_r1 h.first in
    let second = part_alike x.by_r2 y.by_r2 h.second in
    let third = part_alike x.by_r3 y.by_r3 h.third in
    ap (λ (w : Word). worse (worse w (part_word x.by_r2)) (part_word x.by_r3)) first
    ∙ (ap (λ (w : Word). worse (worse (part_word y.by_r1) w) (part_word x.by_r3)) second
    ∙ ap (λ (w : Word). worse (worse (part_word y.by_r1) (part_word y.by_r2)) w) third)

pub worse_back : (w x : Word) → worse w x ≡ worse x w
worse_back Same Same = refl
worse_back Same Kept = refl
worse_back Same Changed = refl
worse_back Kept Same = refl
worse_back Kept Kept = refl
worse_back Kept Changed = refl
worse_back Changed Same = refl
worse_back Changed Kept = refl
worse_back Changed Changed = refl

mirrored_by : (x y : OperationChanges) → AreShownAlike x.stricter y.looser → AreShownAlike x.looser y.stricter →
    AreMirrored x y
mirrored_by x y stricter looser = record {
  word = ap (λ (w : Word). worse w (rule_word x.looser)) (rules_alike x.stricter y.looser stricter)
      ∙ (ap (worse (rule_word y.looser)) (rules_alike x.looser y.stricter looser)
      ∙ worse_back (rule_word y.looser) (rule_word y.stricter));
  stricter = stricter;
  looser = looser;
}

-- ---- one operation

module _ (o n : Diagram) (a b : Op) where
  rules_shown : (change : Change) (x y : RuleChanges) → AreRuleChanges o n a b change x →
      AreRuleChanges n o b a (mirrored change) y → AreShownAlike x y
  rules_shown change x y h k = record {
    first = shown_alike o n a b change R1 x.by_r1 y.by_r1 h.first k.first;
    second = shown_alike o n a b change R2 x.by_r2 y.by_r2 h.second k.second;
    third = shown_alike o n a b change R3 x.by_r3 y.by_r3 h.third k.third;
  }

  mirrored_changes : (x y : OperationChanges) → AreChanges o n a b x → AreChanges n o b a y → AreMirrored x y
  mirrored_changes x y h k =
      mirrored_by x y (rules_shown Stricter x.stricter y.looser h.stricter k.looser)
      (rules_shown Looser x.looser y.stricter h.looser k.stricter)

-- ---- one switch

pub some_at : {X : Type 0} (xs : List X) (i : ℕ) → i < length xs → (x : X) × (slice_get xs i ≡ Some x)
some_at [] i lt = absurd (omega (arith, lt))
some_at (x ∷ xs) zero lt = (x, refl)
some_at (x ∷ xs) (suc i) lt = some_at xs i (omega (arith, lt))

module _ (o n : Diagram) (old : IsStation o) (new : IsStation n) where
  both_images : (i k : ℕ) → SameSwitch o n i k → (x y : SwitchChanges) → AreSwitchChanges o n k x →
      AreSwitchChanges n o i y → AreMirrorImages (InBoth x) (InBoth y)
  both_images i k same x y h g =
      let first : x.old.0 ≡ i = one_same o n x.old.0 i k old h.same same in
      let second : y.old.0 ≡ k = one_same n o y.old.0 k i new g.same (same_back o n i k same) in (
        mirrored_changes o n (opening i) (opening k) x.opening y.opening
            (subst (λ (j : ℕ). AreChanges o n (opening j) (opening k) x.opening) first h.opened)
            (subst (λ (j : ℕ). AreChanges n o (opening j) (opening i) y.opening) second g.opened),
        mirrored_changes o n (closing i) (closing k) x.closing y.closing
            (subst (λ (j : ℕ). AreChanges o n (closing j) (closing k) x.closing) first h.closed)
            (subst (λ (j : ℕ). AreChanges n o (closing j) (closing i) y.closing) second g.closed),
      )

  images : (i k : ℕ) → SameSwitch o n i k → (f g : Found) → IsFound o n k f → IsFound n o i g → AreMirrorImages f g
  images i k same OnlyNew g h is = absurd (h i same)
  images i k same (InBoth x) OnlyNew h is = absurd (is k (same_back o n i k same))
  images i k same (InBoth x) (InBoth y) h is = both_images i k same x y h is

-- what is found to be in the new station alone is gone in the other comparison
is_gone : (o n : Diagram) (k : ℕ) (gone : Bool) → ((i : ℕ) → ¬ SameSwitch o n i k) → IsGone n o k gone → gone ≡ true
is_gone o n k true none is = refl
is_gone o n k false none (i, same) = absurd (none i (same_back n o k i same))

is_new : (o n : Diagram) (k : ℕ) (f : Found) → ((i : ℕ) → ¬ SameSwitch n o k i) → IsFound o n k f → f ≡ OnlyNew
is_new o n k OnlyNew none is = refl
is_new o n k (InBoth x) none is = absurd (none x.old.0 (same_back o n x.old.0 k is.same))

module _ (o n : Diagram) (here : List Found) (gone : List Bool) (found : AreEach (IsFound o n) (length n.switches) here)
    (is : AreEach (IsGone n o) (length n.switches) gone) where
  gone_there : (k : ℕ) → slice_get here k ≡ Some OnlyNew → slice_get gone k ≡ Some true
  gone_there k at =
      let (g, there) =
      some_at gone k (omega (arith, slice_get_within here k OnlyNew at, found.count, is.count)) in
      there ∙ ap Some (is_gone o n k g (found.each k OnlyNew at) (is.each k g there))

  new_there : (k : ℕ) → slice_get gone k ≡ Some true → slice_get here k ≡ Some OnlyNew
  new_there k at =
      let (f, there) =
      some_at here k (omega (arith, slice_get_within gone k true at, found.count, is.count)) in
      there ∙ ap Some (is_new o n k f (is.each k true at) (found.each k f there))

pub turned_round : (o n : Diagram) → IsStation o → IsStation n → (c d : Comparison) → IsComparison o n c →
    IsComparison n o d → AreTurnedRound o n c d
turned_round o n old new c d x y = record {
  both = λ i k f g same at there. images o n old new i k same f g (x.here.each k f at) (y.here.each i g there);
  new_is_gone = λ k. (
    gone_there o n c.here.items d.gone.items x.here y.gone k,
    new_there o n c.here.items d.gone.items x.here y.gone k,
  );
  gone_is_new = λ i. (
    new_there n o d.here.items c.gone.items y.here x.gone i,
    gone_there n o d.here.items c.gone.items y.here x.gone i,
  );
}
