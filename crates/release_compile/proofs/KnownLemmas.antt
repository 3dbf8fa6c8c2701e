-- What a bay knows by index sets is what its sets allow.
use Rattle.std.proofs.Common.{◌≡◌, ℕ, ◌<◌, suc, Bool, List, length, slice_get, Option, Some, None, refl, sym, ap, ◌∙◌}
use Rattle.std.proofs.Common.{subst, inl, inr, arith}
use Rattle.std.specs.Borrow.{Bor}
use Rattle.std.proofs.lemmas.Bool.{cases_eq}
use Rattle.std.proofs.lemmas.Option.{slice_get_within, slice_get_cases}
use Rattle.ilk_base.specs.declared.words.Dbpos.{Dbpos}
use Rattle.ilk_base.specs.declared.words.Op.{Op}
use Rattle.double_points.specs.Words.{Agrees, AreWords}
use Rattle.station_graph.specs.declared.items.Switch.{Switch}
use Rattle.station_graph.specs.Diagram.{Diagram, part_count}
use Rattle.station_graph.specs.Alike.{IsVector}
use Rattle.judge_pool.specs.Lettered.{Lettered, AreLettered, PartHas}
use Rattle.central_rules.specs.declared.verdict.Verdict.{Verdict}
use Rattle.central_rules.specs.declared.verdict.Verdict.TheVariants.{Release, Denied}
use Rattle.central_rules.specs.Readings.{IsReading, Decides}
use Rattle.central_rules.specs.Meaning.{CannotExclude}
use Rattle.decision_graphs.specs.Reaching.{IsSet, set_at}
use Rattle.judge_pool.specs.Graphs.{other_of, PartChosen}
use Rattle.release_compile.specs.Allowed.{Within}
use Rattle.release_compile.specs.Summaries.{by_indices, HeardAllows, AreHeardSets, ArePossibleSets}
use Rattle.release_compile.specs.declared.all_words.AllWords.{AllWords}
use Rattle.release_compile.specs.Deciding.{WithinAll}
use Rattle.judge_intake.proofs.OtherLemmas.{other_in}
use Rattle.judge_intake.proofs.OuterLemmas.{other_not}
use Rattle.judge_intake.proofs.OuterFits.{place_of_part}

module _ (a : Lettered) (alphabets : AreLettered a) (bay n : ℕ) (count : suc n ≡ part_count a.diagram)
    (bay_in : bay < part_count a.diagram) (own : List Dbpos) (heard : List (Option (List ℕ)))
    (heard_count : length heard ≡ part_count a.diagram) (sets : List (List Bool))
    (are : AreHeardSets a bay heard sets) where
  pub within_known : (v : List Bool) → CannotExclude (by_indices a) bay own heard v → Within a bay own sets v
  within_known v k = record {
    whole = k.whole;
    own = k.own_agree;
    others = λ j lt. by j lt (slice_get heard (other_of 0 bay j)) refl;
  }
    where
      by : (j : ℕ) → suc j < part_count a.diagram → (o : Option (Option (List ℕ))) →
          slice_get heard (other_of 0 bay j) ≡ o → (c : ℕ) × PartChosen a bay j c v × IsSet (set_at sets j) c
      by j lt (Some (Some s)) told =
          let h = k.heard_allow (other_of 0 bay j) s (other_not bay j) told in
          elim h [
            | inl set ↦ (
              set.index,
              set.has,
              (are j set.index lt).1 (
                slice_get_within _ set.index set.has.letter set.has.listed,
                subst (λ o. HeardAllows o set.index) (sym told) (inl set.bit),
              ),
            )
            | inr empty ↦
                let i = (alphabets.alphabets.each (other_of 0 bay j)
                (omega (arith, (other_in 0 bay n j (omega (arith, lt, count))).1, count))).indexed v k.whole in (
                  i.0,
                  i.1,
                  (are j i.0 lt).1 (
                    slice_get_within _ i.0 i.1.letter i.1.listed,
                    subst (λ o. HeardAllows o i.0) (sym told) (inr empty),
                  ),
                )
          ]
      by j lt (Some None) told =
          let i = (alphabets.alphabets.each (other_of 0 bay j)
          (omega (arith, (other_in 0 bay n j (omega (arith, lt, count))).1, count))).indexed v k.whole in (
            i.0,
            i.1,
            (are j i.0 lt).1
                (slice_get_within _ i.0 i.1.letter i.1.listed, subst (λ o. HeardAllows o i.0) (sym told) tt),
          )
      by j lt None told =
          let i = (alphabets.alphabets.each (other_of 0 bay j)
          (omega (arith, (other_in 0 bay n j (omega (arith, lt, count))).1, count))).indexed v k.whole in (
            i.0,
            i.1,
            (are j i.0 lt).1
                (slice_get_within _ i.0 i.1.letter i.1.listed, subst (λ o. HeardAllows o i.0) (sym told) tt),
          )

  pub known_within : (v : List Bool) → Within a bay own sets v → CannotExclude (by_indices a) bay own heard v
  known_within v w = record {
    whole = w.whole;
    own_agree = w.own;
    heard_allow = λ b s ne told.
        let b_in : b < suc n = omega (arith, slice_get_within heard b (Some s) told, heard_count, count) in
        let r = place_of_part bay b n (omega (arith, bay_in, count)) ne b_in in
        let lt : suc r.0 < part_count a.diagram = omega (arith, r.1, count) in
        let h = w.others r.0 lt in
        let allows : HeardAllows (Some (Some s)) h.0 =
        subst (λ o. HeardAllows o h.0) (ap (slice_get heard) r.2 ∙ told) ((are r.0 h.0 lt).0 h.2).1 in
        elim allows [
          | inl bit ↦ inl (record { index = h.0; has = subst (λ p. PartHas a p h.0 v) r.2 h.1; bit = bit })
          | inr empty ↦ inr empty
        ];
  }

  -- the verdict over what the sets allow is that over what is known
  pub decides_known : (op : Op) (r : Verdict) → Decides a.diagram (Within a bay own sets) op r →
      Decides a.diagram (CannotExclude (by_indices a) bay own heard) op r
  decides_known op Release h = λ v k. h v (within_known v k)
  decides_known op (Denied rule v) h = (known_within v h.0, h.1)

-- what is decided over some vectors is decided over the same ones
pub decides_over : (d : Diagram) (These Those : List Bool → Type 0) → ((v : List Bool) → These v → Those v) →
    ((v : List Bool) → Those v → These v) → (op : Op) (r : Verdict) → Decides d These op r → Decides d Those op r
decides_over d These Those there back op Release h = λ v is. h v (back v is)
decides_over d These Those there back op (Denied rule v) h = (there v h.0, h.1)

module _ (a : Lettered) (alphabets : AreLettered a) (bay n : ℕ) (count : suc n ≡ part_count a.diagram)
    (bay_in : bay < part_count a.diagram) (w : Bor AllWords) (all : AreWords a.diagram w.now.words.now)
    (sets : List (List Bool)) (are : ArePossibleSets a bay w.now.words.now sets) where
  abbrev words : List Dbpos
  words = w.now.words.now

  pub within_reading : (v : List Bool) → WithinAll (Some w) a bay words sets n v → IsReading words v
  within_reading v h = record {
    whole = h.within.whole ∙ sym all;
    agree = λ i word closed from at_w at_v.
        let x = switch_at i (omega (arith, slice_get_within words i word at_w, all)) in
        by i word closed x.0 x.1 at_w at_v;
  }
    where
      switch_at : (i : ℕ) → i < length a.diagram.switches → (s : Switch) × (slice_get a.diagram.switches i ≡ Some s)
      switch_at i lt = elim ((slice_get_cases a.diagram.switches i).1) [
        | inl s ↦ (s.0, s.2)
        | inr past ↦ absurd (omega (arith, past.0, lt))
      ]

      by : (i : ℕ) (word : Dbpos) (closed : Bool) (s : Switch) → slice_get a.diagram.switches i ≡ Some s →
          slice_get words i ≡ Some word → slice_get v i ≡ Some closed → Agrees word closed
      by i word closed s at at_w at_v = elim (cases_eq s.bay.0 bay) [
        | inl own ↦ h.within.own i word closed (s, at, own) at_w at_v
        | inr ne ↦
            let part_in : s.bay.0 < suc n =
            omega (arith, (alphabets.station.items.switches_fit i s at).part_in, count) in
            let r = place_of_part bay s.bay.0 n (omega (arith, bay_in, count)) ne part_in in
            h.agree r.0 r.1 i word closed (s, at, sym r.2) at_w at_v
      ]

  pub reading_within : (v : List Bool) → IsReading words v → WithinAll (Some w) a bay words sets n v
  reading_within v r = record {
    within = record {
      whole = whole;
      own = λ i word closed of_b at_w at_v. r.agree i word closed (omega arith) at_w at_v;
      others = λ j lt.
          let i = (alphabets.alphabets.each (other_of 0 bay j)
          (omega (arith, (other_in 0 bay n j (omega (arith, lt, count))).1, count))).indexed v whole in (
            i.0,
            i.1,
            (are j i.0 lt).1 record {
              vector = v;
              whole = whole;
              agrees = λ k word closed of_p at_w at_v. r.agree k word closed (omega arith) at_w at_v;
              has = i.1;
            },
          );
    };
    agree = λ j lt k word closed of_p at_w at_v. r.agree k word closed (omega arith) at_w at_v;
  }
    where
      whole : IsVector a.diagram v
      whole = r.whole ∙ all
