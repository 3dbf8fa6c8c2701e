-- Two readings of full knowledge give the same answers for the bay's operations. The other bays are taken
-- one after another, and each is set as it stands in the second reading.
use Rattle.std.proofs.Common.{◌≡◌, ◌≢◌, ◌⊎◌, ◌∙◌, ◌<◌, ◌≤◌, ℕ, zero, suc, Bool, true, false, List, length, slice_get}
use Rattle.std.proofs.Common.{Option, Some, None, refl, sym, subst, inl, inr, arith}
use Rattle.std.proofs.lemmas.Bool.{cases_eq}
use Rattle.std.proofs.lemmas.Option.{none-some, same_Some, slice_get_within, slice_get_cases}
use Rattle.ilk_base.specs.declared.words.Dbpos.{Dbpos}
use Rattle.ilk_base.specs.declared.words.Dbpos.TheVariants.{Off, On}
use Rattle.station_graph.specs.declared.items.Switch.{Switch}
use Rattle.station_graph.specs.Diagram.{Diagram, IsStation, part_count}
use Rattle.station_graph.specs.Connection.{a_switch}
use Rattle.station_graph.specs.Sharing.{OfPart}
use Rattle.station_graph.specs.Alike.{Alike, Irrelevant, IsVector, SamePositions, DifferInPart, SameAnswers}
use Rattle.station_graph.proofs.Decided.{element}
use Rattle.station_graph.proofs.GapLemmas.{same_list}
use Rattle.station_graph.proofs.PositionLemmas.{SamePositions-sym}
use Rattle.station_graph.proofs.MixLemmas.{mixed, one_part}
use Rattle.central_rules.specs.Knowledge.{AllCertain, StandsAlike, Known, IsReadingOf, IsFull}
use Rattle.double_points.specs.Words.{BayAgrees}
use Rattle.central_rules.proofs.AlikeLaw.{same_answers}
use Rattle.central_rules.proofs.SameAnswerLemmas.{SameAnswers-trans, alike_same, alike_sym, alike_trans, alike_differ}

-- words that are off or on leave a bay one position
certain_same : (d : Diagram) (b : ℕ) (words : List Dbpos) (v w : List Bool) → IsVector d v → IsVector d w →
    AllCertain d b words → BayAgrees d b words v → BayAgrees d b words w → SamePositions (OfPart d b) v w
certain_same d b words v w whole_v whole_w certain agrees_v agrees_w i of_b =
    let lt : i < length d.switches = slice_get_within d.switches i of_b.0 of_b.1 in
    let p = element v i (omega (arith, lt, whole_v)) in
    let q = element w i (omega (arith, lt, whole_w)) in
    elim (certain i of_b) [
      | inl on ↦
          let a : p.0 ≡ true = agrees_v i On p.0 of_b on p.1 in
          let b : q.0 ≡ true = agrees_w i On q.0 of_b on q.1 in
          cc (p.1, q.1, a, b)
      | inr off ↦
          let a : p.0 ≡ false = agrees_v i Off p.0 of_b off p.1 in
          let b : q.0 ≡ false = agrees_w i Off q.0 of_b off q.1 in
          cc (p.1, q.1, a, b)
    ]

module _ (d : Diagram) (station : IsStation d) (k : Known) (full : IsFull d k) (v w : List Bool)
    (reads_v : IsReadingOf d k v) (reads_w : IsReadingOf d k w) where
  -- the parts below n stand as in w, the others as in v, and the answers are those of v
  record Turned (n : ℕ) : Type 0 where
    now : List Bool
    whole : IsVector d now
    done : (b : ℕ) → b < n → SamePositions (OfPart d b) w now
    rest : (b : ℕ) → n ≤ b → SamePositions (OfPart d b) v now
    same : SameAnswers d k.bay v now

  -- the next part stands already as in w
  stands : (n : ℕ) (t : Turned n) → SamePositions (OfPart d n) w v → Turned (suc n)
  stands n t same = record {
    now = t.now;
    whole = t.whole;
    done = λ b lt i of_b. elim (cases_eq b n) [
      | inl e ↦ same i (subst (λ j. OfPart d j (a_switch i)) e of_b) ∙ t.rest n (omega arith) i
          (subst (λ j. OfPart d j (a_switch i)) e of_b)
      | inr ne ↦ t.done b (omega (arith, lt, ne)) i of_b
    ];
    rest = λ b low. t.rest b (omega (arith, low));
    same = t.same;
  }

  -- the next part is set as in w, where that changes no answer
  turns : (n : ℕ) (t : Turned n) → ((x : List Bool) → IsVector d x → SamePositions (OfPart d n) w x →
      DifferInPart d n t.now x → SameAnswers d k.bay t.now x) → Turned (suc n)
  turns n t answers =
      let m = mixed d n w t.now reads_w.whole t.whole in
      let others : (b : ℕ) → b ≢ n → SamePositions (OfPart d b) t.now m.0 =
      λ b ne i of_b. m.3 i (λ of_n. ne (one_part d b n i of_b of_n)) in
      record {
        now = m.0;
        whole = m.1;
        done = λ b lt i of_b. elim (cases_eq b n) [
          | inl e ↦ m.2 i (subst (λ j. OfPart d j (a_switch i)) e of_b)
          | inr ne ↦ t.done b (omega (arith, lt, ne)) i of_b ∙ others b ne i of_b
        ];
        rest = λ b low i of_b. t.rest b (omega (arith, low)) i of_b ∙ others b (λ e. omega (arith, low, e)) i of_b;
        same = SameAnswers-trans d k.bay v t.now m.0 t.same (answers m.0 m.1 m.2 m.3);
      }

  -- a bay whose words are off or on stands in both readings alike to the one position of its words
  both_alike : (n : ℕ) (words : List Dbpos) → AllCertain d n words → StandsAlike d n words v → StandsAlike d n words w →
      Alike d n v w
  both_alike n words certain p q =
      let one : Alike d n p.position q.position = alike_same d n p.position q.position
      (certain_same d n words p.position q.position p.whole q.whole certain p.agrees q.agrees) in
      alike_trans d n v p.position w p.alike (alike_trans d n p.position q.position w one
      (alike_sym d n w q.position q.alike))

  -- the answers where part n turns, by what was heard of it
  answers_turn : (n : ℕ) (t : Turned n) (words : List Dbpos) → n ≢ k.bay → slice_get k.heard n ≡ Some (Some words) →
      AllCertain d n words → (x : List Bool) → IsVector d x → SamePositions (OfPart d n) w x →
      DifferInPart d n t.now x →
      SameAnswers d k.bay t.now x
  answers_turn n t words differ told certain x whole there elsewhere = elim (reads_v.heard n words differ told) [
    | inl irrelevant ↦ irrelevant t.now x t.whole whole elsewhere
    | inr p ↦ elim (reads_w.heard n words differ told) [
      | inl irrelevant ↦ irrelevant t.now x t.whole whole elsewhere
      | inr q ↦
          let back : Alike d n t.now v = alike_same d n t.now v (SamePositions-sym (OfPart d n) v t.now
          (t.rest n (omega arith))) in
          let forth : Alike d n w x = alike_same d n w x there in
          same_answers d k.bay t.now x station (alike_differ d n k.bay t.now x differ elsewhere
          (alike_trans d n t.now v x back (alike_trans d n v w x (both_alike n words certain p q) forth)))
    ]
  ]

  -- a part of which no words were heard has no switch
  unheard : (n : ℕ) → n ≢ k.bay → ((words : List Dbpos) → slice_get k.heard n ≡ Some (Some words) → ⊥) →
      SamePositions (OfPart d n) w v
  unheard n differ none i of_n = let h = full.others n i differ of_n in absurd (none h.0 h.1)

  next : (n : ℕ) → Turned n → (entry : Option (Option (List Dbpos))) → slice_get k.heard n ≡ entry → Turned (suc n)
  next n t entry is = elim (cases_eq n k.bay) [
    | inl own ↦ stands n t (subst (λ b. SamePositions (OfPart d b) w v) (sym own)
        (certain_same d k.bay k.own w v reads_w.whole reads_v.whole full.own reads_w.own reads_v.own))
    | inr differ ↦ by_entry entry is differ
  ]
    where
      by_entry : (o : Option (Option (List Dbpos))) → slice_get k.heard n ≡ o → n ≢ k.bay → Turned (suc n)
      by_entry None at differ = stands n t (unheard n differ (λ words told. none-some (Some words) (sym at ∙ told)))
      by_entry (Some None) at differ =
          stands n t (unheard n differ (λ words told. none-some words (same_Some None (Some words) (sym at ∙ told))))
      by_entry (Some (Some words)) at differ = turns n t (answers_turn n t words differ at (λ i of_n.
          let h = full.others n i differ of_n in
          let same : words ≡ h.0 = same_Some words h.0 (same_Some (Some words) (Some h.0) (sym at ∙ h.1)) in
          subst (λ ws. (slice_get ws i ≡ Some On) ⊎ (slice_get ws i ≡ Some Off)) (sym same) (h.2 i of_n)))

  upto : (n : ℕ) → Turned n
  upto zero = record {
    now = v;
    whole = reads_v.whole;
    done = λ b lt. absurd (omega (arith, lt));
    rest = λ b low i of_b. refl;
    same = λ op of_bay answer. (λ b. b, λ b. b);
  }
  upto (suc n) = next n (upto n) (slice_get k.heard n) refl

  full_answers : SameAnswers d k.bay v w
  full_answers =
      let t = upto (part_count d) in
      let each : (i : ℕ) → slice_get t.now i ≡ slice_get w i = λ i. elim (slice_get_cases d.switches i).1 [
        | inl p ↦ sym (t.done p.0.bay.0 (station.items.switches_fit i p.0 p.2).part_in i (p.0, p.2, refl))
        | inr past ↦ elim (slice_get_cases t.now i).1 [
          | inl here ↦ absurd (omega (arith, slice_get_within t.now i here.0 here.2, t.whole, past.0))
          | inr gone ↦ elim (slice_get_cases w i).1 [
            | inl here ↦ absurd (omega (arith, slice_get_within w i here.0 here.2, reads_w.whole, past.0))
            | inr neither ↦ gone.1 ∙ sym neither.1
          ]
        ]
      ] in
      subst (λ (x : List Bool). SameAnswers d k.bay v x) (same_list t.now w each) t.same

pub same_by_full : (d : Diagram) (k : Known) (v w : List Bool) → IsStation d → IsFull d k → IsReadingOf d k v →
    IsReadingOf d k w → SameAnswers d k.bay v w
same_by_full d k v w station full reads_v reads_w = full_answers d station k full v w reads_v reads_w
