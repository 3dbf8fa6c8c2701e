-- What stands in bays that do not matter to a bay may be put as its words say, and no answer of the bay changes.
use Rattle.std.proofs.Common.{◌⊎◌, ◌≡◌, ◌≢◌, ◌<◌, ◌≤◌, ◌+◌, ◌==◌, cond, ℕ, zero, suc, Bool, true, false, List, [], ◌∷◌, length, get_or}
use Rattle.std.proofs.Common.{slice_get, Some, None, refl, sym, subst, ap, ◌∙◌, inl, inr, arith}
use Rattle.std.proofs.lemmas.Bool.{cases_eq, cases_lt, cases_Bool}
use Rattle.std.proofs.lemmas.Bool.Decides.{eqb_tells}
use Rattle.std.proofs.lemmas.Option.{slice_get-get_or}
use Rattle.ilk_base.specs.declared.words.Dbpos.{Dbpos}
use Rattle.ilk_base.specs.declared.words.Dbpos.TheVariants.{Lost}
use Rattle.ilk_base.specs.declared.words.Op.{Op}
use Rattle.double_points.specs.Words.{Agrees}
use Rattle.station_graph.specs.declared.items.Switch.{Switch}
use Rattle.station_graph.specs.Diagram.{Diagram}
use Rattle.station_graph.specs.Alike.{IsVector, DifferInPart, Irrelevant}
use Rattle.station_graph.specs.Connection.{a_switch}
use Rattle.station_graph.specs.Sharing.{OfPart}
use Rattle.station_graph.specs.CentralRules.{Breaks}
use Rattle.central_rules.specs.Meaning.{bay_of}
use Rattle.reservation_core.proofs.Steps.{switch_there}
use Rattle.reservation_core.proofs.AlikeNotes.{got_or}
use Rattle.trip_core.specs.Trips.{IsOwnOrPartner}
use Rattle.trip_core.proofs.Agreed.{agreed_list, length_agreed, agreed_at, agrees_at, lost_agrees}
use Rattle.trip_core.proofs.Agreed.{agreed_lost, agreed_alike, agreed_same_at}

-- which bays, below a number, are at rest: they do not matter to c, and each other one does
pub record Resting (d : Diagram) (c n : ℕ) : Type 0 where
  pub rests : ℕ → Bool
  pub none : (b : ℕ) → b < n → rests b ≡ true → Irrelevant d b c
  pub other : (b : ℕ) → b < n → rests b ≡ false → IsOwnOrPartner d b c

-- the same of all bays of switches
pub record Rest (d : Diagram) (c : ℕ) : Type 0 where
  pub count : ℕ
  pub bays : (i : ℕ) → i < length d.switches → bay_of d i < count
  pub resting : Resting d c count

-- ---- there is a rest, whatever is to be refuted

not_none : {P : Type 0} → ¬ (¬ (P ⊎ ¬ P))
not_none {P} refuted = refuted (inr (λ p. refuted (inl p)))

then_rests : (ℕ → Bool) → ℕ → Bool → ℕ → Bool
then_rests rests n last b = cond (b == n) last (rests b)

rests_last : (rests : ℕ → Bool) (n : ℕ) (last : Bool) (b : ℕ) → b ≡ n → then_rests rests n last b ≡ last
unfolding then_rests
rests_last rests n last b is = elim (eqb_tells b n) [ inl p ↦ rw p.0 refl | inr p ↦ absurd (p.1 is) ]

rests_before : (rests : ℕ → Bool) (n : ℕ) (last : Bool) (b : ℕ) → b ≢ n → then_rests rests n last b ≡ rests b
unfolding then_rests
rests_before rests n last b differs =
    elim (eqb_tells b n) [ inl p ↦ absurd (differs p.1) | inr p ↦ rw p.0 refl ]

below_or_last : (b n : ℕ) → b < suc n → (b < n) ⊎ (b ≡ n)
below_or_last b n lt = elim (cases_eq b n) [ inl is ↦ inr is | inr other ↦ inl (omega (arith, lt, other)) ]

module _ (d : Diagram) (c n : ℕ) (old : Resting d c n) where
  rests_more : Irrelevant d n c → Resting d c (suc n)
  rests_more irrelevant = record {
    rests = then_rests old.rests n true;
    none = λ b lt at. elim (below_or_last b n lt) [
      | inl less ↦ old.none b less (sym (rests_before old.rests n true b (λ is. absurd (omega (arith, is, less)))) ∙ at)
      | inr is ↦ subst (λ k. Irrelevant d k c) (sym is) irrelevant
    ];
    other = λ b lt at. elim (below_or_last b n lt) [
      | inl less ↦ old.other b less (sym (rests_before old.rests n true b (λ is. absurd (omega (arith, is, less)))) ∙ at)
      | inr is ↦ let last = rests_last old.rests n true b is in absurd (cc (last, at))
    ];
  }

  own_or_partner_more : IsOwnOrPartner d n c → Resting d c (suc n)
  own_or_partner_more matters = record {
    rests = then_rests old.rests n false;
    none = λ b lt at. elim (below_or_last b n lt) [
      | inl less ↦ old.none b less (sym (rests_before old.rests n false b (λ is. absurd (omega (arith, is, less)))) ∙ at)
      | inr is ↦ let last = rests_last old.rests n false b is in absurd (cc (last, at))
    ];
    other = λ b lt at. elim (below_or_last b n lt) [
      | inl less ↦
          old.other b less (sym (rests_before old.rests n false b (λ is. absurd (omega (arith, is, less)))) ∙ at)
      | inr is ↦ subst (λ k. IsOwnOrPartner d k c) (sym is) matters
    ];
  }

resting : (d : Diagram) (c n : ℕ) → ¬ (¬ Resting d c n)
resting d c zero refuted = refuted (record {
  rests = λ b. false;
  none = λ b lt at. absurd (omega (arith, lt));
  other = λ b lt at. absurd (omega (arith, lt));
})
resting d c (suc n) refuted =
    resting d c n (λ old. not_none (λ (which : Irrelevant d n c ⊎ ¬ Irrelevant d n c). elim which [
      | inl is ↦ refuted (rests_more d c n old is)
      | inr partner ↦ refuted (own_or_partner_more d c n old (inr partner))
    ]))

-- a number above those of all bays
above_bays : (xs : List Switch) → (n : ℕ) × ((i : ℕ) (s : Switch) → slice_get xs i ≡ Some s → s.bay.0 < n)
above_bays [] = (0, λ i s at. absurd (cc at))
above_bays (x ∷ xs) =
    let rest = above_bays xs in
    (suc (x.bay.0 + rest.0), within x xs rest.0 rest.1)
  where
    within : (x : Switch) (xs : List Switch) (n : ℕ) →
        ((i : ℕ) (s : Switch) → slice_get xs i ≡ Some s → s.bay.0 < n) →
        (i : ℕ) (s : Switch) → slice_get (x ∷ xs) i ≡ Some s → s.bay.0 < suc (x.bay.0 + n)
    within x xs n rest zero s at = let same : x ≡ s = cc at in omega (arith, ap (λ (y : Switch). y.bay.0) same)
    within x xs n rest (suc i) s at = omega (arith, rest i s at)

pub some_rest : (d : Diagram) (c : ℕ) → ¬ (¬ Rest d c)
some_rest d c refuted =
    let above = above_bays d.switches in
    resting d c above.0 (λ r. refuted (record {
      count = above.0;
      bays = λ i lt.
          let s = switch_there d i lt in
          let bay : bay_of d i ≡ s.0.bay.0 = rw s.1 refl in
          omega (arith, bay, above.1 i s.0 s.1);
      resting = r;
    }))

-- ---- the words of bays at rest

words_below : Diagram → (ℕ → Bool) → (ℕ → Dbpos) → ℕ → ℕ → Dbpos
words_below d rests words zero i = Lost
words_below d rests words (suc k) i =
    cond (bay_of d i == k) (cond (rests k) (words i) Lost) (words_below d rests words k i)

module _ (d : Diagram) (rests : ℕ → Bool) (words : ℕ → Dbpos) where
  elsewhere : (k i : ℕ) → bay_of d i ≢ k → words_below d rests words (suc k) i ≡ words_below d rests words k i
  unfolding words_below
  elsewhere k i differs = elim (eqb_tells (bay_of d i) k) [
    | inl p ↦ absurd (differs p.1)
    | inr p ↦ rw p.0 refl
  ]

  here : (k i : ℕ) → bay_of d i ≡ k → words_below d rests words (suc k) i ≡ cond (rests k) (words i) Lost
  unfolding words_below
  here k i is = elim (eqb_tells (bay_of d i) k) [ inl p ↦ rw p.0 refl | inr p ↦ absurd (p.1 is) ]

  lost_above : (k i : ℕ) → k ≤ bay_of d i → words_below d rests words k i ≡ Lost
  unfolding words_below
  lost_above zero i le = refl
  lost_above (suc k) i le =
      elsewhere k i (λ is. absurd (omega (arith, is, le))) ∙ lost_above k i (omega (arith, le))

  known_at : (k i : ℕ) → bay_of d i < k → rests (bay_of d i) ≡ true → words_below d rests words k i ≡ words i
  known_at zero i lt at = absurd (omega (arith, lt))
  known_at (suc k) i lt at = elim (below_or_last (bay_of d i) k lt) [
    | inl less ↦ elsewhere k i (λ is. absurd (omega (arith, is, less))) ∙ known_at k i less at
    | inr is ↦
        let rested : rests k ≡ true = ap rests (sym is) ∙ at in
        here k i is ∙ ap (λ (b : Bool). cond b (words i) Lost) rested
  ]

  lost_at : (k i : ℕ) → rests (bay_of d i) ≡ false → words_below d rests words k i ≡ Lost
  unfolding words_below
  lost_at zero i at = refl
  lost_at (suc k) i at = elim (cases_eq (bay_of d i) k) [
    | inr other ↦ elsewhere k i other ∙ lost_at k i at
    | inl is ↦
        let unrested : rests k ≡ false = ap rests (sym is) ∙ at in
        here k i is ∙ ap (λ (b : Bool). cond b (words i) Lost) unrested
  ]

  none_rests : (k i : ℕ) → rests k ≡ false → words_below d rests words (suc k) i ≡ words_below d rests words k i
  none_rests k i at = elim (cases_eq (bay_of d i) k) [
    | inr other ↦ elsewhere k i other
    | inl is ↦
        here k i is ∙ ap (λ (b : Bool). cond b (words i) Lost) at ∙ sym (lost_above k i (omega (arith, is)))
  ]

module _ (d : Diagram) (c : ℕ) (words : ℕ → Dbpos) (rest : Rest d c) where
  abbrev words_to : ℕ → ℕ → Dbpos
  words_to k = words_below d rest.resting.rests words k

  -- the vector in which the switches of bays at rest agree with the words
  pub rested_list : List Bool → List Bool
  rested_list v = agreed_list (words_to rest.count) v

  pub length_rested : (v : List Bool) → length (rested_list v) ≡ length v
  unfolding rested_list
  length_rested v = length_agreed (words_to rest.count) v

  -- a switch agrees with its word, or it is of a bay that matters and stands as it did
  pub rested_at : (v : List Bool) (i : ℕ) → i < length v → i < length d.switches →
      ((word : Dbpos) → words i ≡ word → Agrees word (get_or (rested_list v) i false))
      ⊎ (IsOwnOrPartner d (bay_of d i) c × (get_or (rested_list v) i false ≡ get_or v i false))
  unfolding rested_list
  rested_at v i lt there = elim (cases_Bool (rest.resting.rests (bay_of d i))) [
    | inl rests ↦
        inl (λ word is. agrees_at (words_to rest.count) v i word lt
        (known_at d rest.resting.rests words rest.count i (rest.bays i there) rests ∙ is))
    | inr not ↦
        inr (
          rest.resting.other (bay_of d i) (rest.bays i there) not,
          same_at v i lt (lost_at d rest.resting.rests words rest.count i not),
        )
  ]
    where
      same_at : (v : List Bool) (i : ℕ) → i < length v → words_to rest.count i ≡ Lost →
          get_or (agreed_list (words_to rest.count) v) i false ≡ get_or v i false
      same_at v i lt lost =
          let same = agreed_at (words_to rest.count) v i (λ _. lost_agrees (words_to rest.count i) (get_or v i false)
          lost) in
          let here = slice_get-get_or v i false lt in
          got_or (agreed_list (words_to rest.count) v) i (get_or v i false) false (same ∙ here)

  module _ (v : List Bool) (op : Op) (whole : IsVector d v) (own : OfPart d c (a_switch op.switch.0)) where
    differ : (k : ℕ) → DifferInPart d k (agreed_list (words_to k) v) (agreed_list (words_to (suc k)) v)
    differ k i not = elim (cases_eq (bay_of d i) k) [
      | inr other ↦
          agreed_same_at (words_to k) (words_to (suc k)) v i (sym (elsewhere d rest.resting.rests words k i other))
      | inl is ↦ elim (cases_lt i (length v)) [
        | inl lt ↦
            let s = switch_there d i (omega (arith, lt, whole)) in
            let bay : bay_of d i ≡ s.0.bay.0 = rw s.1 refl in
            absurd (not (s.0, s.1, sym bay ∙ is))
        | inr past ↦
            agreed_at (words_to k) v i (λ lt. absurd (omega (arith, lt, past)))
            ∙ sym (agreed_at (words_to (suc k)) v i (λ lt. absurd (omega (arith, lt, past))))
      ]
    ]

    step_down : (k : ℕ) → k < rest.count → Breaks d (agreed_list (words_to (suc k)) v) op None →
        Breaks d (agreed_list (words_to k) v) op None
    step_down k lt breaks = elim (cases_Bool (rest.resting.rests k)) [
      | inl rests ↦
          (rest.resting.none k lt rests (agreed_list (words_to k) v) (agreed_list (words_to (suc k)) v)
          (length_agreed (words_to k) v ∙ whole) (length_agreed (words_to (suc k)) v ∙ whole) (differ k) op own
          None).1 breaks
      | inr not ↦
          subst (λ (u : List Bool). Breaks d u op None)
          (agreed_alike (words_to (suc k)) (words_to k) v
          (λ i. none_rests d rest.resting.rests words k i not)) breaks
    ]

    all_down : (k : ℕ) → k ≤ rest.count → Breaks d (agreed_list (words_to k) v) op None →
        Breaks d (agreed_list (words_to 0) v) op None
    all_down zero le breaks = breaks
    all_down (suc k) le breaks = all_down k (omega (arith, le)) (step_down k (omega (arith, le)) breaks)

    -- what is not broken there is not broken here
    pub rest_irrelevant : Breaks d (rested_list v) op None → Breaks d v op None
    unfolding rested_list
    rest_irrelevant breaks =
        subst (λ (u : List Bool). Breaks d u op None)
        (agreed_lost (words_to 0) v (λ i. lost_above d rest.resting.rests words 0 i (omega arith)))
        (all_down rest.count (omega arith) breaks)
