-- Which bay is tested for each, and that each is.
use Rattle.std.proofs.Common.{◌≡◌, ◌⊎◌, ℕ, ◌+◌, List, [], ◌∷◌, ◌++◌, length, map, slice_get, Some, sym, ap, ◌∙◌}
use Rattle.std.proofs.Common.{subst, inl, inr, arith, Bool, true, false}
use Rattle.std.specs.Prelude.{◌↔◌, IsTrue, if◌then◌else◌}
use Rattle.std.specs.List.{range_with_len}
use Rattle.std.proofs.lemmas.List.{length_push}
use Rattle.station_graph.specs.Diagram.{Diagram, part_count}
use Rattle.station_graph.proofs.PathLemmas.{slice_get-push}
use Rattle.judge_intake.proofs.OtherLemmas.{element}
use Rattle.central_rules.specs.Meaning.{IsBay}
use Rattle.commissioning_tests.specs.declared.values.SharedTests.{SharedTests}
use Rattle.ilk_base.specs.declared.words.BayId.{BayId}
use Rattle.like_bays.specs.Like.{AreLike}
use Rattle.commissioning_tests.specs.Listed.{AreThose}
use Rattle.commissioning_tests.specs.Shared.{StandsBefore, AreLeads, IsTested, IsLater, AreSharedTests}
use Rattle.commissioning_tests.specs.Shared.{AreTestsUpto, AreStationTests, IsTestedBy}
use Rattle.commissioning_tests.proofs.MoveLemmas.{still}
use Rattle.commissioning_tests.proofs.ListLemmas.{those_more, those_less, those_if, range_more, keys_more, chosen_has}
use Rattle.commissioning_tests.proofs.ListLemmas.{number_at, of_key}

-- ---- which part is tested for each

-- so for the first n
pub record LeadsUpto (d : Diagram) (leads : List ℕ) (n : ℕ) : Type 0 where
  pub len : length leads ≡ n
  pub each : (p one : ℕ) → slice_get leads p ≡ Some one → (one ≡ p) ⊎ StandsBefore d leads one p

stands_more : (d : Diagram) (leads : List ℕ) (one p next : ℕ) → StandsBefore d leads one p →
    StandsBefore d (leads ++ next ∷ []) one p
stands_more d leads one p next s = record {
  earlier = s.earlier;
  bay = s.bay;
  own = still leads (next ∷ []) one one s.own;
  like = s.like;
}

either_more : (d : Diagram) (leads : List ℕ) (one p next : ℕ) → (one ≡ p) ⊎ StandsBefore d leads one p →
    (one ≡ p) ⊎ StandsBefore d (leads ++ next ∷ []) one p
either_more d leads one p next (inl same) = inl same
either_more d leads one p next (inr s) = inr (stands_more d leads one p next s)

pub leads_more : (d : Diagram) (leads : List ℕ) (n next : ℕ) → LeadsUpto d leads n →
    (next ≡ n) ⊎ StandsBefore d leads next n → LeadsUpto d (leads ++ next ∷ []) (n + 1)
leads_more d leads n next so is = record {
  len = omega (arith, length_push leads next, so.len);
  each = λ p one at. elim (slice_get-push leads next one p at) [
    | inl before ↦ either_more d leads one p next (so.each p one before)
    | inr here ↦
        let place : n ≡ p = sym so.len ∙ sym here.0 in
        either_more d leads one p next
        (subst (λ (x : ℕ). (x ≡ p) ⊎ StandsBefore d leads x p) here.1
        (subst (λ (q : ℕ). (next ≡ q) ⊎ StandsBefore d leads next q) place is))
  ];
}

pub leads_all : (d : Diagram) (leads : List ℕ) (n : ℕ) → LeadsUpto d leads n → n ≡ part_count d → AreLeads d leads
leads_all d leads n so all = record { len = so.len ∙ all; each = so.each }

-- ---- the tests of the parts

pub tests_less : (d : Diagram) (leads : List ℕ) (n : ℕ) (all : List SharedTests) → AreTestsUpto d leads n all →
    ¬ IsTested d leads n → AreTestsUpto d leads (n + 1) all
tests_less d leads n all so never = record {
  bays =
      subst (λ (l : List ℕ). AreThose (IsTested d leads) l (map (λ (s : SharedTests). s.bay.0) all)) (sym (range_more n))
      (those_less (IsTested d leads) (range_with_len 0 n) (map (λ (s : SharedTests). s.bay.0) all) n so.bays never);
  each = so.each;
}

pub tests_more : (d : Diagram) (leads : List ℕ) (n : ℕ) (all : List SharedTests) (s : SharedTests) →
    AreTestsUpto d leads n all → IsTested d leads n → s.bay.0 ≡ n → AreSharedTests d leads s →
    AreTestsUpto d leads (n + 1) (all ++ s ∷ [])
tests_more d leads n all s so is same are =
    let bay : SharedTests → ℕ = λ (x : SharedTests). x.bay.0 in
    let keys : map bay all ++ n ∷ [] ≡ map bay (all ++ s ∷ []) =
    ap (λ (m : ℕ). map bay all ++ m ∷ []) (sym same) ∙ sym (keys_more bay all s) in
    record {
      bays =
          subst (λ (l : List ℕ). AreThose (IsTested d leads) l (map bay (all ++ s ∷ []))) (sym (range_more n))
          (subst (λ (l : List ℕ). AreThose (IsTested d leads) (range_with_len 0 n ++ n ∷ []) l) keys
          (those_more (IsTested d leads) (range_with_len 0 n) (map bay all) n so.bays is));
      each = λ i x at. elim (slice_get-push all s x i at) [
        | inl before ↦ so.each i x before
        | inr here ↦ subst (λ (y : SharedTests). AreSharedTests d leads y) here.1 are
      ];
    }

-- ---- each bay is tested

module _ (d : Diagram) (leads : List ℕ) (all : List SharedTests) (so : AreTestsUpto d leads (part_count d) all) where
  tested : (one : ℕ) → IsTested d leads one →
      (j : ℕ) × (s : SharedTests) × (slice_get all j ≡ Some s) × (s.bay.0 ≡ one)
  tested one is =
      let there =
      chosen_has (IsTested d leads) (range_with_len 0 (part_count d)) (map (λ (s : SharedTests). s.bay.0) all) one one
      so.bays (number_at (part_count d) one is.0.0) is in
      let (s, at, same) = of_key (λ (s : SharedTests). s.bay.0) all there.0 one there.1 in
      (there.0, s, at, same)

  by_own : (p : ℕ) → IsTested d leads p → IsTestedBy d all p
  by_own p is =
      let (j, s, at, same) = tested p is in
      record { place = j; shared = s; at = at; tests = (so.each j s at).tests; bay = inl same }

  by_earlier : (one p : ℕ) → IsBay d p → slice_get leads p ≡ Some one → StandsBefore d leads one p → IsTestedBy d all p
  by_earlier one p bay led before =
      let (j, s, at, same) = tested one (before.bay, before.own) in
      let later : IsLater d leads s.bay.0 p =
      subst (λ (x : ℕ). IsLater d leads x p) (sym same) (bay, before.earlier, led) in
      let there =
      chosen_has (IsLater d leads s.bay.0) (range_with_len 0 (part_count d)) (map (λ b. b.0) s.like.items) p p
      (so.each j s at).like (number_at (part_count d) p bay.0) later in
      record {
        place = j;
        shared = s;
        at = at;
        tests = (so.each j s at).tests;
        bay = inr (record {
          number = there.0;
          listed = there.1;
          later = later.1;
          like = subst (λ (x : ℕ). AreLike d x p) (sym same) before.like;
        });
      }

pub each_tested : (d : Diagram) (all : List SharedTests) (p : ℕ) → AreStationTests d all → IsBay d p → IsTestedBy d all p
each_tested d all p are bay =
    let (one, led) = element are.leads p (omega (arith, bay.0, are.are.len)) in
    elim (are.are.each p one led) [
      | inl same ↦
          by_own d are.leads all are.tests p
          (bay, subst (λ (x : ℕ). slice_get are.leads p ≡ Some x) same led)
      | inr before ↦ by_earlier d are.leads all are.tests one p bay led before
    ]

-- ---- the bays that are like one

pub later_step : (d : Diagram) (leads : List ℕ) (one n : ℕ) (like : List BayId) (bay : BayId) (wanted : Bool) →
    bay.0 ≡ n → IsTrue wanted ↔ IsLater d leads one bay.0 →
    AreThose (IsLater d leads one) (range_with_len 0 n) (map (λ b. b.0) like) →
    AreThose (IsLater d leads one) (range_with_len 0 (n + 1)) (map (λ b. b.0) (if wanted then like ++ bay ∷ [] else like))
later_step d leads one n like bay wanted number is those =
    let next : range_with_len 0 n ++ bay.0 ∷ [] ≡ range_with_len 0 (n + 1) =
    ap (λ k. range_with_len 0 n ++ k ∷ []) number ∙ sym (range_more n) in
    subst (λ (l : List ℕ). AreThose (IsLater d leads one) l
    (map (λ (b : BayId). b.0) (if wanted then like ++ bay ∷ [] else like))) next
    (those_if (λ (b : BayId). b.0) (IsLater d leads one) (range_with_len 0 n) like bay wanted those
    (λ e. is.0 e) (λ e later. let both : false ≡ true = sym e ∙ is.1 later in cc both))
