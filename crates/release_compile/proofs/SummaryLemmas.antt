-- The summary of an index set is one of its words.
use Rattle.std.proofs.Common.{◌≡◌, ◌≢◌, ℕ, ◌*◌, ◌<◌, ◌↔◌, zero, suc, Bool, true, false, List, [], ◌∷◌, Option, length}
use Rattle.std.proofs.Common.{map, slice_get, Some, refl, sym, ap, ◌∙◌, subst, inl, inr, arith}
use Rattle.std.proofs.lemmas.List.{length-map}
use Rattle.std.proofs.lemmas.Option.{slice_get_within, same_Some}
use Rattle.ilk_base.specs.declared.words.Dbpos.{Dbpos}
use Rattle.ilk_base.specs.declared.words.Dbpos.TheVariants.{Intermediate, Off, On, Bad, Lost}
use Rattle.double_points.specs.Words.{Agrees, AreWords}
use Rattle.station_graph.specs.Diagram.{part_count}
use Rattle.station_graph.specs.Sharing.{OfPart, IsShared}
use Rattle.station_graph.specs.Alike.{IsVector, Alike, Partner}
use Rattle.contraction.specs.Answers.{Answers, Keeps}
use Rattle.contraction.specs.Stands.{GapStandsFor, LoadStandsFor}
use Rattle.contraction.proofs.ViewLemmas.{gap_told, load_told}
use Rattle.contraction.proofs.SameLemmas.{gap_self, load_self, gap_fewer, load_fewer}
use Rattle.central_rules.specs.Knowledge.{StandsAlike}
use Rattle.central_rules.specs.Meaning.{Summarises}
use Rattle.part_alphabets.specs.Alphabets.{CanHave, InSet}
use Rattle.judge_pool.specs.Lettered.{Lettered, AreLettered, index_count, PartHas}
use Rattle.release_compile.specs.Summaries.{byte_count, IsIndexSet, SetAllows, by_indices}
use Rattle.release_compile.specs.Rows.{IsSetRow}

-- ---- a position that agrees with words

picked : Dbpos → Bool
picked On = true
picked Off = false
picked Intermediate = false
picked Bad = false
picked Lost = false

picked_agrees : (word : Dbpos) → Agrees word (picked word)
unfolding picked
picked_agrees On = refl
picked_agrees Off = refl
picked_agrees Intermediate = tt
picked_agrees Bad = tt
picked_agrees Lost = tt

picked_at : (words : List Dbpos) (i : ℕ) (word : Dbpos) (closed : Bool) → slice_get words i ≡ Some word →
    slice_get (map picked words) i ≡ Some closed → Agrees word closed
picked_at [] zero word closed at is = cc
picked_at [] (suc i) word closed at is = cc
picked_at (w ∷ ws) zero word closed at is =
    subst (λ c. Agrees word c) (ap picked (sym (same_Some w word at)) ∙ same_Some (picked w) closed is)
    (picked_agrees word)
picked_at (w ∷ ws) (suc i) word closed at is = picked_at ws i word closed at is

-- ---- two vectors with one index stand alike

pub same_index : (a : Lettered) (b i : ℕ) (v w : List Bool) → AreLettered a → b < part_count a.diagram →
    PartHas a b i v → PartHas a b i w → Alike a.diagram b v w
same_index a b i v w lettered b_in hv hw =
    let d = a.diagram in
    let x : Answers = hv.letter in
    let same : hw.letter ≡ x = same_Some hw.letter x (sym hw.listed ∙ hv.listed) in
    let kept : (n : ℕ) → IsShared d b n → Keeps x.kept n =
    λ n s. (((lettered.alphabets.each b b_in).letters i x hv.listed).kept n).1 s in
    let gap_w = subst (λ z. GapStandsFor (OfPart d b) d w z) same hw.stands.gap in
    record {
      gap =
          gap_fewer (Keeps x.kept) (IsShared d b) (OfPart d b) d v w kept
          ((gap_told (OfPart d b) d v w x x refl hv.stands.gap gap_w).0 (gap_self x));
      load =
          load_fewer (Keeps x.kept) (IsShared d b) (OfPart d b) d v w kept ((load_told (OfPart d b) d v w x x refl
          hv.stands.load (subst (λ z. LoadStandsFor (OfPart d b) d w z) same hw.stands.load)).0 (load_self x));
    }

-- ---- the summary

module _ (a : Lettered) (b to : ℕ) (words : List Dbpos) (set : List (Option ℕ)) (s : List ℕ) (lettered : AreLettered a)
    (b_in : b < part_count a.diagram) (all : AreWords a.diagram words) (row : IsSetRow set s)
    (len : length set ≡ index_count a b) (exact : (i : ℕ) → InSet set i ↔ CanHave a.diagram a.alphabets b words i)
    (partner : Partner a.diagram b to) where
  in_row : (i : ℕ) → i < index_count a b → i < 8 * length s
  in_row i lt = omega (arith, lt, row.count, len)

  index_set : IsIndexSet a b s
  index_set = record {
    count = row.count ∙ ap (λ n. byte_count n) len;
    some =
        let v : List Bool = map picked words in
        let whole : IsVector a.diagram v = length-map words picked ∙ all in
        let i = (lettered.alphabets.each b b_in).indexed v whole in
        let can : CanHave a.diagram a.alphabets b words i.0 = record {
          vector = v;
          whole = whole;
          agrees = λ k word closed of_b at is. picked_at words k word closed at is;
          has = i.1;
        } in
        let lt : i.0 < index_count a b = slice_get_within _ i.0 i.1.letter i.1.listed in
        (i.0, lt, (row.bits i.0 (in_row i.0 lt)).1 ((exact i.0).1 can));
    no_more =
        λ i lt bit. (let held = (row.bits i lt).0 bit in
        omega (arith, slice_get_within set i (Some held.0) held.1, len));
  }

  set_alike : (v : List Bool) → SetAllows a b s v → StandsAlike a.diagram b words v
  set_alike v allows =
      let lt : allows.index < index_count a b = slice_get_within _ allows.index allows.has.letter allows.has.listed in
      let can = (exact allows.index).0 ((row.bits allows.index (in_row allows.index lt)).0 allows.bit) in
      record {
        position = can.vector;
        whole = can.whole;
        agrees = can.agrees;
        alike = same_index a b allows.index v can.vector lettered b_in allows.has can.has;
      }

  -- it is not empty
  not_empty : s ≢ []
  not_empty e = (let i = index_set.some in let n = in_row i.0 i.1 in omega (arith, n, ap length e))

  pub summarises : Summarises (by_indices a) b to words s
  summarises = record {
    fits = inl (partner, index_set);
    each = λ v whole agrees.
        let i = (lettered.alphabets.each b b_in).indexed v whole in
        let can : CanHave a.diagram a.alphabets b words i.0 = record {
          vector = v;
          whole = whole;
          agrees = agrees;
          has = i.1;
        } in
        let lt : i.0 < index_count a b = slice_get_within _ i.0 i.1.letter i.1.listed in
        inl (record { index = i.0; has = i.1; bit = (row.bits i.0 (in_row i.0 lt)).1 ((exact i.0).1 can) });
    no_more =
        inr (λ v whole allows. elim allows [
          | inl set_allows ↦ set_alike v set_allows
          | inr empty ↦ absurd (not_empty empty)
        ]);
  }
