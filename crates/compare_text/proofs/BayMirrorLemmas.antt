-- The word of a bay that both stations have is the same both ways round.
use Rattle.std.proofs.Common.{◌≡◌, ℕ, ◌<◌, [], List, slice_get, Some, get_or, sym, ap, ◌∙◌}
use Rattle.std.proofs.Common.{eq-eqb, arith}
use Rattle.std.specs.Prelude.{◌==◌}
use Rattle.std.proofs.lemmas.Option.{same_Some, slice_get_within, slice_get-get_or, get_or_from_slice_get}
use Rattle.ilk_base.specs.declared.words.Op.{Op}
use Rattle.station_graph.specs.declared.items.Switch.{Switch}
use Rattle.station_graph.specs.Diagram.{Diagram, IsStation, part_count, switches_in}
use Rattle.station_graph.proofs.CountLemmas.{count_by-some}
use Rattle.station_changes.specs.Compare.{SameSwitch}
use Rattle.station_changes.proofs.MirrorLemmas.{same_back}
use Rattle.station_compare.specs.declared.bays.BayWord.{BayWord}
use Rattle.station_compare.specs.declared.bays.BayWord.TheVariants.{NoBay, New, Common}
use Rattle.station_compare.specs.declared.bays.BayWords.{BayWords}
use Rattle.station_compare.specs.declared.word.Word.{Word}
use Rattle.station_compare.specs.Words.{worse}
use Rattle.station_compare.specs.Each.{AreEach}
use Rattle.station_compare.specs.Bays.{IsCommonOf, IsWorst, InPart, IsBayWord, AreBays}
use Rattle.station_compare.proofs.MirrorLemmas.{word_back}
use Rattle.compare_text.specs.Mirror.{AreBaysTurnedRound}
use Rattle.compare_text.proofs.MirrorLemmas.{some_at, worse_back}

module _ (o n : Diagram) (old : IsStation o) (p q : ℕ) (path : List ℕ) (new_at : slice_get n.part_paths p ≡ Some path)
    (old_at : slice_get o.part_paths q ≡ Some path) where
  -- the twin of a switch of the one bay is one of the other
  in_twin : (i k : ℕ) → SameSwitch o n i k → InPart n p k → InPart o q i
  in_twin i k same (x, at, is) =
      let one : same.new ≡ x = same_Some same.new x (sym same.new_at ∙ at) in
      let bay : same.new.bay.0 ≡ p = ap (λ (y : Switch). y.bay.0) one ∙ is in
      let here : slice_get o.part_paths same.old.bay.0 ≡ Some path =
      slice_get-get_or o.part_paths same.old.bay.0 [] (old.items.switches_fit i same.old same.old_at).part_in
      ∙ ap Some (same.bay
      ∙ (ap (λ (b : ℕ). get_or n.part_paths b []) bay ∙ get_or_from_slice_get n.part_paths p path [] new_at)) in
      (same.old, same.old_at, old.paths_differ.parts same.old.bay.0 q path here old_at)

  common_back : (a b : Op) → IsCommonOf o n (InPart n p) a b → IsCommonOf n o (InPart o q) b a
  common_back a b h = record {
    common = record {
      switch = same_back o n a.switch.0 b.switch.0 h.common.switch;
      direction = sym h.common.direction;
    };
    among = in_twin a.switch.0 b.switch.0 h.common.switch h.among;
  }

some_switch : (d : Diagram) (part k : ℕ) → InPart d part k → 0 < switches_in d part
some_switch d part k (x, at, is) =
    count_by-some (λ (y : Switch). y.bay.0 == part) d.switches k x at (eq-eqb x.bay.0 part is)

module _ (o n : Diagram) (old : IsStation o) (new : IsStation n) (p q : ℕ) (path : List ℕ)
    (new_at : slice_get n.part_paths p ≡ Some path) (old_at : slice_get o.part_paths q ≡ Some path) where
  one_word : (w x : Word) → IsWorst o n (InPart n p) w → IsWorst n o (InPart o q) x → w ≡ x
  one_word w x h g =
      let there : worse w x ≡ x =
      g.worst h.new h.old w (common_back o n old p q path new_at old_at h.old h.new h.operation)
      (word_back o n h.old h.new w h.word) in
      let here : worse x w ≡ w =
      h.worst g.new g.old x (common_back n o new q p path old_at new_at g.old g.new g.operation)
      (word_back n o g.old g.new x g.word) in
      sym here ∙ (worse_back x w ∙ there)

  same_word : (w : Word) → IsWorst o n (InPart n p) w → (x : BayWord) → IsBayWord n o q x → x ≡ Common w
  same_word w h NoBay is =
      let back = common_back o n old p q path new_at old_at h.old h.new h.operation in
      absurd (omega (arith, is, some_switch o q h.old.switch.0 back.among))
  same_word w h New is =
      absurd (is.1 h.new h.old (common_back o n old p q path new_at old_at h.old h.new h.operation))
  same_word w h (Common x) is = ap Common (sym (one_word w x h is))

  there_too : (here there : List BayWord) → AreEach (IsBayWord o n) (part_count n) here →
      AreEach (IsBayWord n o) (part_count o) there → (w : Word) → slice_get here p ≡ Some (Common w) →
      slice_get there q ≡ Some (Common w)
  there_too here there h g w at =
      let (x, is) = some_at there q (omega (arith, slice_get_within o.part_paths q path old_at, g.count)) in
      is ∙ ap Some (same_word w (h.each p (Common w) at) x (g.each q x is))

pub bays_turned : (o n : Diagram) → IsStation o → IsStation n → (b c : BayWords) → AreBays o n b → AreBays n o c →
    AreBaysTurnedRound o n b c
bays_turned o n old new b c x y = record {
  common = λ p q path w new_at old_at at.
      there_too o n old new p q path new_at old_at b.here.items c.here.items x.here y.here w at;
  back = λ p q path w new_at old_at at.
      there_too n o new old q p path old_at new_at c.here.items b.here.items y.here x.here w at;
}
