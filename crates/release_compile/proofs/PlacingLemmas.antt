-- Vectors that give choices.
use Rattle.std.proofs.Common.{◌≡◌, ℕ, ◌+◌, ◌<◌, suc, Bool, List, [], ◌∷◌, length, drop, get_or, eqb, slice_get}
use Rattle.std.proofs.Common.{slice_set, Option, Some, None, IfSome, refl, sym, ap, ◌∙◌, subst, inl, inr, arith}
use Rattle.std.specs.Borrow.{Bor}
use Rattle.std.proofs.lemmas.Bool.{cases_lt}
use Rattle.std.proofs.lemmas.Option.{slice_get_within, slice_get-get_or, get_or_from_slice_get}
use Rattle.ilk_base.specs.declared.words.Dbpos.{Dbpos}
use Rattle.station_graph.specs.Diagram.{Diagram}
use Rattle.station_graph.specs.Connection.{a_switch}
use Rattle.station_graph.specs.Sharing.{OfPart}
use Rattle.station_graph.specs.Alike.{IsVector, DifferInPart}
use Rattle.station_graph.proofs.PositionLemmas.{slice_get-set_other}
use Rattle.contraction.proofs.MarkLemmas.{slice_get-set_same}
use Rattle.part_alphabets.specs.PartAlphabets.{Alphabets, StandsAt}
use Rattle.double_points.specs.Words.{BayAgrees}
use Rattle.judge_pool.specs.Lettered.{Lettered, PartHas}
use Rattle.judge_pool.specs.Graphs.{other_of, PartChosen, SwitchChosen}
use Rattle.judge_pool.specs.Folding.{AreChosen}
use Rattle.release_compile.specs.declared.all_words.AllWords.{AllWords}
use Rattle.release_compile.specs.Deciding.{IsPlaceFor, OthersAgree}
use Rattle.judge_intake.proofs.MoveLemmas.{index_moves, part_stays}
use Rattle.judge_intake.proofs.OuterLemmas.{others_apart}
use Rattle.judge_intake.proofs.OtherLemmas.{switches_apart, length_after}

-- the first n choices are those of the vector
pub ChosenBelow : (ℕ → ℕ → List Bool → Type 0) → ℕ → List Bool → List ℕ → Type 0
ChosenBelow Chosen n v cs = (i c : ℕ) → i < n → slice_get cs i ≡ Some c → Chosen i c v

pub below_none : (Chosen : ℕ → ℕ → List Bool → Type 0) (v : List Bool) (cs : List ℕ) → ChosenBelow Chosen 0 v cs
unfolding ChosenBelow
below_none Chosen v cs i c lt at = absurd (omega (arith, lt))

pub below_all : (Chosen : ℕ → ℕ → List Bool → Type 0) (n : ℕ) (v : List Bool) (cs : List ℕ) → length cs ≡ n →
    ChosenBelow Chosen n v cs → AreChosen Chosen v cs
unfolding ChosenBelow
below_all Chosen n v cs len h i c at = h i c (omega (arith, slice_get_within cs i c at, len)) at

pub parts_more : (a : Lettered) (b n index bits : ℕ) (v w : List Bool) (cs : List ℕ) →
    ChosenBelow (PartChosen a b) n v cs → get_or cs n 0 ≡ index →
    ((u : List Bool) → IsVector a.diagram u → StandsAt a.alphabets (other_of 0 b n) bits u →
    PartHas a (other_of 0 b n) index u) → IsVector a.diagram w → StandsAt a.alphabets (other_of 0 b n) bits w →
    DifferInPart a.diagram (other_of 0 b n) v w → ChosenBelow (PartChosen a b) (n + 1) w cs
unfolding ChosenBelow
parts_more a b n index bits v w cs h is has whole stands stay i c lt at = elim (cases_lt i n) [
  | inl less ↦
      index_moves a (other_of 0 b i) c v w
      (part_stays a.diagram (other_of 0 b i) (other_of 0 b n) v w (others_apart b i n less) stay) (h i c less at)
  | inr last ↦
      let e : n ≡ i = omega (arith, lt) in
      let ec : index ≡ c = sym is ∙ (ap (λ k. get_or cs k 0) e ∙ get_or_from_slice_get cs i c 0 at) in
      subst (λ k. PartHas a (other_of 0 b k) c w) e
      (subst (λ k. PartHas a (other_of 0 b n) k w) ec (has w whole stands))
]

-- the parts placed so far agree with the words
agree_more : (d : Diagram) (b n : ℕ) (words : List Dbpos) (v w : List Bool) → OthersAgree d b words n v →
    BayAgrees d (other_of 0 b n) words w → DifferInPart d (other_of 0 b n) v w → OthersAgree d b words (n + 1) w
agree_more d b n words v w before now stay j lt i word closed of_p at_w at_v = elim (cases_lt j n) [
  | inl less ↦
      before j less i word closed of_p at_w
      (part_stays d (other_of 0 b j) (other_of 0 b n) v w (others_apart b j n less) stay i of_p ∙ at_v)
  | inr last ↦
      let e : n ≡ j = omega (arith, last, lt) in
      now i word closed (subst (λ k. OfPart d (other_of 0 b k) (a_switch i)) (sym e) of_p) at_w at_v
]

pub none_agree : (d : Diagram) (b : ℕ) (v : List Bool) (known : Option (Bor AllWords)) →
    IfSome known (λ w. OthersAgree d b w.now.words.now 0 v)
none_agree d b v None = tt
none_agree d b v (Some w) = λ j lt. absurd (omega (arith, lt))

pub all_agree_more : (d : Diagram) (a : Alphabets) (b n index bits : ℕ) (v w : List Bool)
    (known : Option (Bor AllWords)) → IfSome known (λ x. OthersAgree d b x.now.words.now n v) →
    IsPlaceFor known d a (other_of 0 b n) index bits → IsVector d w → StandsAt a (other_of 0 b n) bits w →
    DifferInPart d (other_of 0 b n) v w → IfSome known (λ x. OthersAgree d b x.now.words.now (n + 1) w)
all_agree_more d a b n index bits v w None before place whole stands stay = tt
all_agree_more d a b n index bits v w (Some x) before place whole stands stay =
    agree_more d b n x.now.words.now v w before (place.agrees w whole stands) stay

behind_first : (xs : List ℕ) (j : ℕ) → get_or (drop 1 xs) j 0 ≡ get_or xs (j + 1) 0
behind_first [] j = refl
behind_first (x ∷ xs) j = (let e : j + 1 ≡ suc j = omega arith in ap (λ q. get_or (x ∷ xs) q 0) (sym e))

-- a choice behind the first
pub choice_at : (all : List ℕ) (others n c : ℕ) → length all ≡ suc others → n < others → get_or all (n + 1) 0 ≡ c →
    slice_get (drop 1 all) n ≡ Some c
choice_at all others n c len lt is =
    slice_get-get_or (drop 1 all) n 0 (omega (arith, lt, length_after others all len))
    ∙ ap Some (behind_first all n ∙ is)

pub own_more : (first m n : ℕ) (v : List Bool) (all : List ℕ) (c : ℕ) →
    ChosenBelow (SwitchChosen first m) n v (drop 1 all) → get_or all (n + 1) 0 ≡ c → c < 2 →
    other_of first m n < length v →
    ChosenBelow (SwitchChosen first m) (n + 1) (slice_set v (other_of first m n) (eqb c 1)) (drop 1 all)
unfolding ChosenBelow
own_more first m n v all c h is small o_in i k lt at = elim (cases_lt i n) [
  | inl less ↦ record {
    small = (h i k less at).small;
    stands =
        slice_get-set_other v (other_of first m n) (other_of first m i) (eqb c 1) (switches_apart first m i n less)
        ∙ (h i k less at).stands;
  }
  | inr last ↦
      let e : i ≡ n = omega (arith, lt) in
      let ek : k
      ≡ c =
      sym (get_or_from_slice_get (drop 1 all) i k 0 at)
      ∙ (behind_first all i ∙ (ap (λ j. get_or all (j + 1) 0) e ∙ is)) in
      record {
        small = omega (arith, small, ek);
        stands =
            ap (λ j. slice_get (slice_set v (other_of first m n) (eqb c 1)) (other_of first m j)) e
            ∙ (slice_get-set_same v (other_of first m n) (eqb c 1) o_in ∙ ap (λ j. Some (eqb j 1)) (sym ek));
      }
]
