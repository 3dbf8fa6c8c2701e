-- For each reading of what a bay knows there is a vector that its own words and the summaries allow, with
-- the same answers for its operations. The other bays of which it has heard are taken one after another,
-- and each is set as one of its words' positions.
use Rattle.std.proofs.Common.{◌≡◌, ◌≢◌, ◌⊎◌, ◌↔◌, ◌∙◌, ◌<◌, ◌≤◌, ℕ, zero, suc, eqb, Bool, true, false, cond, List, []}
use Rattle.std.proofs.Common.{◌∷◌, length, slice_get, Option, Some, None, refl, sym, ap, subst, inl, inr, arith}
use Rattle.std.proofs.lemmas.Bool.{cases_eq, eq-eqb, ne_eqb}
use Rattle.std.proofs.lemmas.Option.{none-some, same_Some, slice_get_within}
use Rattle.ilk_base.specs.declared.words.Dbpos.{Dbpos}
use Rattle.ilk_base.specs.declared.words.Dbpos.TheVariants.{Intermediate, Off, On, Bad, Lost}
use Rattle.ilk_base.specs.declared.words.Op.{Op}
use Rattle.double_points.specs.Words.{Agrees, BayAgrees}
use Rattle.station_graph.specs.declared.items.Switch.{Switch}
use Rattle.station_graph.specs.Diagram.{Diagram, IsStation}
use Rattle.station_graph.specs.Connection.{a_switch}
use Rattle.station_graph.specs.Sharing.{OfPart, IsShared}
use Rattle.station_graph.specs.CentralRules.{Breaks}
use Rattle.station_graph.specs.Alike.{Alike, Irrelevant, IsVector, SamePositions, DifferInPart, SameAnswers, SameFor}
use Rattle.station_graph.proofs.PositionLemmas.{SamePositions-sym, SameGapView-positions, SameLoadView-positions}
use Rattle.station_graph.proofs.PositionLemmas.{SameGapView-trans, SameLoadView-trans}
use Rattle.central_rules.specs.Knowledge.{StandsAlike, Known, IsReadingOf, Holds}
use Rattle.central_rules.specs.Meaning.{Meaning, Laws, CannotExclude, AreMade, IsMade}
use Rattle.central_rules.proofs.AlikeLaw.{same_answers}
use Rattle.station_graph.proofs.MixLemmas.{mix, length_mix, mix_there, mix_else, one_part}
use Rattle.central_rules.proofs.MeaningLemmas.{reading_of}
use Rattle.central_rules.proofs.SameAnswerLemmas.{SameAnswers-trans, alike_same, alike_trans, alike_differ}

-- ---- a vector that agrees with words

place : Dbpos → Bool
place On = true
place Off = false
place Intermediate = false
place Bad = false
place Lost = false

place_agrees : (word : Dbpos) → Agrees word (place word)
unfolding place
place_agrees On = refl
place_agrees Off = refl
place_agrees Intermediate = tt
place_agrees Bad = tt
place_agrees Lost = tt

agreeing : ℕ → List Dbpos → List Bool
agreeing zero words = []
agreeing (suc n) [] = false ∷ agreeing n []
agreeing (suc n) (x ∷ words) = place x ∷ agreeing n words

length_agreeing : (n : ℕ) (words : List Dbpos) → length (agreeing n words) ≡ n
unfolding agreeing
length_agreeing zero words = refl
length_agreeing (suc n) [] = ap (λ k. suc k) (length_agreeing n [])
length_agreeing (suc n) (x ∷ words) = ap (λ k. suc k) (length_agreeing n words)

agreeing_agrees : (n : ℕ) (words : List Dbpos) (i : ℕ) (word : Dbpos) (closed : Bool) → slice_get words i ≡ Some word →
    slice_get (agreeing n words) i ≡ Some closed → Agrees word closed
unfolding agreeing
agreeing_agrees zero words i word closed at at_v = absurd (none-some closed at_v)
agreeing_agrees (suc n) [] i word closed at at_v = absurd (none-some word at)
agreeing_agrees (suc n) (x ∷ words) zero word closed at at_v =
    let is : x ≡ word = same_Some x word at in
    let here : place x ≡ closed = same_Some (place x) closed at_v in
    subst (λ y. Agrees y closed) is (subst (λ y. Agrees x y) here (place_agrees x))
agreeing_agrees (suc n) (x ∷ words) (suc i) word closed at at_v = agreeing_agrees n words i word closed at at_v

-- ---- bay by bay

module _ (m : Meaning) (k : Known) (heard : List (Option (List ℕ))) (v : List Bool) where
  -- the parts below n stand as what was heard of them allows, and the answers are those of v
  record Moved (n : ℕ) : Type 0 where
    now : List Bool
    whole : IsVector m.diagram now
    own : SamePositions (OfPart m.diagram k.bay) v now
    rest : (b : ℕ) → n ≤ b → SamePositions (OfPart m.diagram b) v now
    allowed : (b : ℕ) (s : List ℕ) → b < n → b ≢ k.bay → slice_get heard b ≡ Some (Some s) → m.Allows b s now
    same : SameAnswers m.diagram k.bay v now

  -- the next part stands still
  stays : (n : ℕ) (t : Moved n) → ((s : List ℕ) → n ≢ k.bay → slice_get heard n ≡ Some (Some s) → m.Allows n s t.now) →
      Moved (suc n)
  stays n t allows = record {
    now = t.now;
    whole = t.whole;
    own = t.own;
    rest = λ b low. t.rest b (omega (arith, low));
    allowed = λ b s lt other told. elim (cases_eq b n) [
      | inl e ↦ subst (λ j. m.Allows j s t.now) (sym e) (allows s (subst (λ j. j ≢ k.bay) e other)
          (subst (λ j. slice_get heard j ≡ Some (Some s)) e told))
      | inr ne ↦ t.allowed b s (omega (arith, lt, ne)) other told
    ];
    same = t.same;
  }

  -- the next part is moved to a position that agrees with its words, where that changes no answer
  moves : Laws m → (n : ℕ) (t : Moved n) (w : List Bool) (words : List Dbpos) (made : IsMade m n k.bay words heard) →
      n ≢ k.bay → IsVector m.diagram w → BayAgrees m.diagram n words w → ((x : List Bool) → IsVector m.diagram x →
      DifferInPart m.diagram n t.now x → SamePositions (OfPart m.diagram n) w x → SameAnswers m.diagram k.bay t.now x) →
      Moved (suc n)
  moves laws n t w words made differ whole agrees answers =
      let d : Diagram = m.diagram in
      let x : List Bool = mix d.switches n w t.now in
      let whole_x : IsVector d x = length_mix d.switches n w t.now whole t.whole in
      let there : SamePositions (OfPart d n) w x = λ i of_n. mix_there d.switches n w t.now whole t.whole i of_n.0
      of_n.1 of_n.2 in
      let elsewhere : DifferInPart d n t.now x = λ i not_n. mix_else d.switches n w t.now whole t.whole i not_n in
      let same : (b : ℕ) → b ≢ n → SamePositions (OfPart d b) t.now x =
      λ b ne i of_b. elsewhere i (λ of_n. ne (one_part d b n i of_b of_n)) in
      record {
        now = x;
        whole = whole_x;
        own = λ i of_bay. t.own i of_bay ∙ same k.bay (λ e. differ (sym e)) i of_bay;
        rest = λ b low i of_b. t.rest b (omega (arith, low)) i of_b ∙ same b (λ e. omega (arith, low, e)) i of_b;
        allowed = λ b s lt other told. elim (cases_eq b n) [
          | inl e ↦
              let here : slice_get heard n ≡ Some (Some s) = subst (λ j. slice_get heard j ≡ Some (Some s)) e told in
              let is : made.summary ≡ s = same_Some made.summary s (same_Some (Some made.summary) (Some s)
              (sym made.stands ∙ here)) in
              let agrees_x : BayAgrees d n words x = λ i word closed of_n at at_x. agrees i word closed of_n at
              (there i of_n ∙ at_x) in
              subst (λ j. m.Allows j s x) (sym e) (subst (λ y. m.Allows n y x) is (made.made.each x whole_x agrees_x))
          | inr ne ↦ laws.local b s t.now x t.whole whole_x (same b ne)
              (t.allowed b s (omega (arith, lt, ne)) other told)
        ];
        same = SameAnswers-trans d k.bay v t.now x t.same (answers x whole_x elsewhere there);
      }

  module _ (laws : Laws m) (station : IsStation m.diagram) (made : AreMade m k heard)
      (reads : IsReadingOf m.diagram k v) where
    -- a part that was heard of
    hears : (n : ℕ) (t : Moved n) (words : List Dbpos) → n ≢ k.bay → slice_get k.heard n ≡ Some (Some words) →
        Irrelevant m.diagram n k.bay ⊎ StandsAlike m.diagram n words v → Moved (suc n)
    hears n t words differ told (inl irrelevant) =
        let count : ℕ = length m.diagram.switches in
        moves laws n t (agreeing count words) words (made.each n words differ told) differ (length_agreeing count words)
        (λ i word closed of_n at at_w. agreeing_agrees count words i word closed at at_w)
        (λ x whole elsewhere there. irrelevant t.now x t.whole whole elsewhere)
    hears n t words differ told (inr stands) =
        let d : Diagram = m.diagram in
        let w : List Bool = stands.position in
        moves laws n t w words (made.each n words differ told) differ stands.whole stands.agrees
        (λ x whole elsewhere there.
        let back : Alike d n t.now v = alike_same d n t.now v (SamePositions-sym (OfPart d n) v t.now
        (t.rest n (omega arith))) in
        let forth : Alike d n v x = alike_trans d n v w x stands.alike (alike_same d n w x there) in
        same_answers d k.bay t.now x station (alike_differ d n k.bay t.now x differ elsewhere
        (alike_trans d n t.now v x back forth)))

    next : (n : ℕ) → Moved n → (entry : Option (Option (List ℕ))) → slice_get heard n ≡ entry → Moved (suc n)
    next n t None is = stays n t (λ s other told. absurd (none-some (Some s) (sym is ∙ told)))
    next n t (Some None) is = stays n t (λ s other told. absurd (none-some s (same_Some None (Some s) (sym is ∙ told))))
    next n t (Some (Some s)) is = elim (cases_eq n k.bay) [
      | inl own ↦ stays n t (λ _ other told. absurd (other own))
      | inr differ ↦
          let told = made.no_other n s differ is in
          hears n t told.0 differ told.1 (reads.heard n told.0 differ told.1)
    ]

    upto : (n : ℕ) → Moved n
    upto zero = record {
      now = v;
      whole = reads.whole;
      own = λ i of_bay. refl;
      rest = λ b low i of_b. refl;
      allowed = λ b s lt. absurd (omega (arith, lt));
      same = λ op of_bay answer. (λ b. b, λ b. b);
    }
    upto (suc n) = next n (upto n) (slice_get heard n) refl

-- for each reading there is a vector that the bay cannot exclude, with the same answers for its operations
pub known_of : (m : Meaning) → Laws m → IsStation m.diagram → (k : Known) (heard : List (Option (List ℕ)))
    (v : List Bool) → AreMade m k heard → IsReadingOf m.diagram k v →
    (w : List Bool) × CannotExclude m k.bay k.own heard w
    × SameAnswers m.diagram k.bay v w
known_of m laws station k heard v made reads =
    let t = upto m k heard v laws station made reads (length heard) in (
      t.now,
      record {
        whole = t.whole;
        own_agree = λ i word closed of_bay at at_now. reads.own i word closed of_bay at (t.own i of_bay ∙ at_now);
        heard_allow = λ b s other told. t.allowed b s (slice_get_within heard b (Some s) told) other told;
      },
      t.same,
    )

-- so an operation of the bay holds by words exactly where it breaks no rule in what the summaries allow
pub holds_same : (m : Meaning) → Laws m → IsStation m.diagram → (op : Op) (k : Known) (heard : List (Option (List ℕ))) →
    AreMade m k heard → OfPart m.diagram k.bay (a_switch op.switch.0) → Holds m.diagram op k ↔ ((v : List Bool) →
    CannotExclude m k.bay k.own heard v → Breaks m.diagram v op None)
holds_same m laws station op k heard made of_bay = (
  λ holds v knows. holds v (reading_of m laws k heard v made knows),
  λ none v reads.
      let t = known_of m laws station k heard v made reads in
      (t.2 op of_bay None).1 (none t.0 t.1),
)
