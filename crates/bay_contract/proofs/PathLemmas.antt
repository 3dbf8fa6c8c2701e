-- Positions that agree with the words, one step after another.
use Rattle.std.proofs.Common.{◌≡◌, ℕ, ◌+◌, ◌-◌, ◌*◌, ◌^◌, ◌<◌, ◌≤◌, ◌↔◌, Bool, true, false, Option, List}
use Rattle.std.proofs.Common.{◌++◌, take, drop, length, slice_get, slice_set, Some, refl, sym, ◌∙◌, ap, subst}
use Rattle.std.proofs.Common.{inl, inr, add-one, arith}
use Rattle.std.proofs.lemmas.Bool.{cases_lt, cases_eq}
use Rattle.std.proofs.lemmas.Grind.{common_steps}
use Rattle.std.proofs.lemmas.List.{length-set}
use Rattle.std.proofs.Math.Nat.{pow-le-pow_right}
use Rattle.ilk_base.specs.declared.words.Dbpos.{Dbpos}
use Rattle.station_graph.specs.declared.limits.TheConstants.{BAY_SWITCHES}
use Rattle.station_graph.proofs.LinkedLemmas.{linked_self, linked_one, linked_trans}
use Rattle.station_graph.proofs.PositionLemmas.{slice_get-set_other}
use Rattle.contraction.proofs.MarkLemmas.{slice_get-set_same}
use Rattle.double_points.specs.Words.{Agrees}
use Rattle.part_alphabets.specs.declared.fork.Fork.{Fork}
use Rattle.part_alphabets.specs.Layers.{digit, bits}
use Rattle.part_alphabets.specs.Diagrams.{branch, ForkGoes, ForkFits}
use Rattle.part_alphabets.specs.PartAlphabets.{PartAlphabet}
use Rattle.bay_contract.specs.Shapes.{IsShaped}
use Rattle.bay_contract.specs.Paths.{BeginsSo, LeadsHere, MayGo, LeadsBack, HasPath, NotesOne, NotesBoth, PathsTo}
use Rattle.bay_contract.proofs.RankLemmas.{digit_small}
use Rattle.bay_contract.proofs.NextLemmas.{some_at}
use Rattle.bay_contract.proofs.AlphabetLemmas.{bits_below, bits_below_more, split, pow_more}
use Rattle.bay_contract.proofs.PutLemmas.{bits_more}

pub notes_one : (at position : ℕ) (old : List (Option ℕ)) → at < length old → NotesOne true at position old
    (slice_set old at (Some position))
notes_one at position old lt =
    let here : LeadsBack (slice_set old at (Some position)) at position =
    slice_get-set_same old at (Some position) lt in
    record {
      len = length-set old at (Some position);
      kept = λ t h. elim (cases_eq t at) [
        | inl e ↦ (position, subst (λ n. LeadsBack (slice_set old at (Some position)) n position) (sym e) here)
        | inr ne ↦ (h.0, slice_get-set_other old at t (Some position) ne ∙ h.1)
      ];
      added = λ e. (position, here);
      none_else = λ t p h. elim (cases_eq t at) [
        | inl e ↦
            let there : LeadsBack (slice_set old at (Some position)) t position =
            subst (λ n. LeadsBack (slice_set old at
            (Some position)) n position) (sym e) here in
            inr (refl, sym e, cc (there, h))
        | inr ne ↦ inl (sym (slice_get-set_other old at t (Some position) ne) ∙ h)
      ];
    }

pub notes_none : (answer : Bool) (at position : ℕ) (old : List (Option ℕ)) → answer ≡ false
    → NotesOne answer at position old old
notes_none answer at position old e = record {
  len = refl;
  kept = λ t h. h;
  added = λ h. absurd (let no : true ≡ false = sym h ∙ e in cc);
  none_else = λ t p h. inl h;
}

pub notes_both : (fork : Fork) (words : List Dbpos) (word : Dbpos) (position bit : ℕ) (open_too closed_too : Bool)
    (old mid new : List (Option ℕ)) → slice_get words fork.switch.0 ≡ Some word
    → (open_too ≡ true) ↔ Agrees word false → (closed_too ≡ true) ↔ Agrees word true
    → NotesOne open_too fork.off position old mid → NotesOne closed_too fork.on (position + bit) mid new
    → NotesBoth fork words position bit old new
notes_both fork words word position bit open_too closed_too old mid new told o c h g = record {
  len = g.len ∙ h.len;
  kept = λ t p. g.kept t (h.kept t p);
  added = λ t closed may. by_position t closed may;
  none_else = λ t p n. elim (g.none_else t p n) [
    | inl before ↦ elim (h.none_else t p before) [
      | inl first ↦ inl first
      | inr w ↦ inr (false, record { word = word; told = told; agrees = o.0 w.0; to = w.1 }, omega (arith, w.2))
    ]
    | inr w ↦ inr (true, record { word = word; told = told; agrees = c.0 w.0; to = w.1 }, omega (arith, w.2))
  ];
}
  where
    by_position : (t : ℕ) (closed : Bool) → MayGo words fork t closed → HasPath new t
    by_position t true may =
        let same : may.word ≡ word = cc (may.told, told) in
        subst (λ n. HasPath new n) may.to (g.added (c.1 (subst (λ (x : Dbpos). Agrees x true) same may.agrees)))
    by_position t false may =
        let same : may.word ≡ word = cc (may.told, told) in
        subst (λ n. HasPath new n) may.to (g.kept fork.off (h.added (o.1 (subst (λ
        (x : Dbpos). Agrees x false) same may.agrees))))

-- positions with one digit tell it
digit_one : (b c : Bool) → digit (Some b) ≡ digit (Some c) → b ≡ c
digit_one true true e = refl
digit_one true false e = absurd (omega (arith, e))
digit_one false true e = absurd (omega (arith, e))
digit_one false false e = refl

module _ (x : PartAlphabet) (words : List Dbpos) (shaped : IsShaped x) (i : ℕ) (f : Fork)
    (listed : slice_get x.forks i ≡ Some f) where
  fits : ForkFits x.switches (length x.forks) (length x.letters) i f
  fits = shaped.fit i f listed

  later : (t : ℕ) (closed : Bool) → branch f closed ≡ t → i < t
  later t true e = omega (arith, fits.on_later)
  later t false e = omega (arith, fits.off_later)

  -- the position with the switch in the vector begins with the position before it
  begins_before : (k p : ℕ) (closed : Bool) (v : List Bool) → f.switch.0 ≡ x.first + k → p < 2 ^ k
      → BeginsSo x (k + 1) (p + digit (Some closed) * 2 ^ k) v → BeginsSo x k p v
      × (slice_get v f.switch.0 ≡ Some closed)
  begins_before k p closed v place small h =
      let (b, at) = some_at v (x.first + k) (omega (arith, h.whole, place, fits.switch)) in
      let parts : bits x.first k v + digit (slice_get v (x.first + k)) * 2 ^ k ≡ p + digit (Some closed) * 2 ^ k = sym
      (bits_more x.first k v) ∙ h.stands in
      let both = split (2 ^ k) (bits x.first k v) p (digit (slice_get v (x.first + k))) (digit (Some closed))
      (bits_below x.first k v) small (digit_small (slice_get v (x.first + k))) (digit_small (Some closed)) parts in
      let same : b ≡ closed = digit_one b closed (sym (ap digit at) ∙ both.1) in (
        record { whole = h.whole; stands = both.0 },
        ap (slice_get v) place ∙ (at ∙ ap Some same),
      )

  -- ONE STEP ON
  leads_on : (t p : ℕ) (closed : Bool) → LeadsHere x words i p → (bit : ℕ) → bit ≡ 2 ^ (f.switch.0 - x.first)
      → MayGo words f t closed → LeadsHere x words t (p + digit (Some closed) * bit)
  leads_on t p closed l bit is may =
      let place : f.switch.0 ≡ x.first + l.tested = l.before.step f listed in
      let power : bit ≡ 2 ^ l.tested = is ∙ ap (λ n. 2 ^ n) (omega arith) in
      let wide : 2 ^ (l.tested + 1) ≡ 2 * 2 ^ l.tested = ap (λ n. 2 ^ n) (add-one l.tested) ∙ pow_more l.tested in
      subst (λ n. LeadsHere x words t (p + digit (Some closed) * n)) (sym power) (record {
        tested = l.tested + 1;
        before = record {
          step = λ g at. (let n = shaped.staged.next i f g closed listed (ap (slice_get x.forks) may.to ∙ at) in
              omega arith);
          index = λ past. (let n = shaped.staged.last i f closed listed (omega (arith, may.to)) in omega arith);
        };
        small = bits_below_more (2 ^ l.tested) p (digit (Some closed)) (2 ^ (l.tested + 1)) l.small (digit_small
            (Some closed)) wide;
        leads = λ v h.
            let b = begins_before l.tested p closed v place l.small h in
            linked_trans (ForkGoes x.forks v) 0 i t (l.leads v b.0) (linked_one (ForkGoes x.forks v) i t (record {
              fork = f;
              closed = closed;
              listed = listed;
              position = b.1;
              to = may.to;
            }));
        agrees = λ v h k word b lt told at.
            let before = begins_before l.tested p closed v place l.small h in
            elim (cases_lt k l.tested) [
              | inl less ↦ l.agrees v before.0 k word b less told at
              | inr more ↦
                  let here : x.first + k ≡ f.switch.0 = omega arith in
                  let same_word : may.word ≡ word = cc (may.told, told, ap (slice_get words) here) in
                  let same : closed ≡ b = cc (before.1, at, ap (slice_get v) here) in
                  subst (λ (c : Bool). Agrees word c) same (subst (λ (w : Dbpos). Agrees w closed) same_word may.agrees)
            ];
      })

  pub pass_on : (p bit : ℕ) (paths more : List (Option ℕ)) → LeadsBack paths i p → bit ≡ 2 ^ (f.switch.0 - x.first)
      → NotesBoth f words p bit paths more → PathsTo x words i paths → PathsTo x words (i + 1) more
  pass_on p bit paths more here is both h = record {
    len = both.len ∙ h.len;
    start = both.kept 0 h.start;
    sound = λ t q n. elim (both.none_else t q n) [
      | inl before ↦ h.sound t q before
      | inr w ↦ subst (λ m. LeadsHere x words t m) (sym w.2) (leads_on t p w.0 (h.sound i p here) bit is w.1)
    ];
    done = λ a b g closed lt m at may. elim (cases_lt a i) [
      | inl less ↦ both.kept b (h.done a b g closed less (was a m (omega arith)) at may)
      | inr past ↦
          let same_place : a ≡ i = omega arith in
          let same : g ≡ f = cc (at, listed, ap (slice_get x.forks) same_place) in
          both.added b closed (subst (λ (k : Fork). MayGo words k b closed) same may)
    ];
  }
    where
      was : (a : ℕ) → HasPath more a → a ≤ i → HasPath paths a
      was a m le = elim (both.none_else a m.0 m.1) [
        | inl before ↦ (m.0, before)
        | inr w ↦ absurd (omega (arith, later a w.0 w.1.to))
      ]

pub pass_over : (x : PartAlphabet) (words : List Dbpos) (i : ℕ) (paths : List (Option ℕ)) → (HasPath paths i → ⊥)
    → PathsTo x words i paths → PathsTo x words (i + 1) paths
pass_over x words i paths bare h = record {
  len = h.len;
  start = h.start;
  sound = h.sound;
  done = λ a b g closed lt m at may. elim (cases_lt a i) [
    | inl less ↦ h.done a b g closed less m at may
    | inr past ↦ (let here : a ≡ i = omega arith in absurd (bare (subst (λ n. HasPath paths n) here m)))
  ];
}

-- the room that a position with one more bit needs
pub room_for : (x : PartAlphabet) (words : List Dbpos) (i p : ℕ) (f : Fork) → IsShaped x
    → slice_get x.forks i ≡ Some f → LeadsHere x words i p → (x.first ≤ f.switch.0)
    × (f.switch.0 - x.first < BAY_SWITCHES) × (p + 2 ^ (f.switch.0 - x.first) < 2 * 2 ^ BAY_SWITCHES)
room_for x words i p f shaped listed l =
    let inside = shaped.staged.inside i f listed in
    let place : f.switch.0 ≡ x.first + l.tested = l.before.step f listed in
    let same : f.switch.0 - x.first ≡ l.tested = omega arith in
    let few : l.tested < BAY_SWITCHES = omega (arith, inside.1, shaped.few_switches) in
    let two : 0 < 2 = omega arith in
    let le : l.tested ≤ BAY_SWITCHES = omega arith in
    let most : 2 ^ l.tested ≤ 2 ^ BAY_SWITCHES =
    pow-le-pow_right {n = 2} two {i = l.tested} {j = BAY_SWITCHES} le in
    let power : 2 ^ (f.switch.0 - x.first) ≡ 2 ^ l.tested = ap (λ n. 2 ^ n) same in
    (inside.0, omega arith, omega (arith, l.small))

pub paths_start : (x : PartAlphabet) (words : List Dbpos) (paths : List (Option ℕ)) → IsShaped x
    → length paths ≡ length x.forks + length x.letters → ((t p : ℕ) → LeadsBack paths t p → ⊥)
    → PathsTo x words 0 (slice_set paths 0 (Some 0))
paths_start x words paths shaped len none =
    let one = notes_one 0 0 paths (omega (arith, shaped.some)) in
    record {
      len = one.len ∙ len;
      start = one.added refl;
      sound = λ t p m. elim (one.none_else t p m) [
        | inl old ↦ absurd (none t p old)
        | inr w ↦ subst (λ n. LeadsHere x words n p) w.1 (subst (λ n. LeadsHere x words 0 n) w.2 (record {
          tested = 0;
          before = record {
            step = λ f at. omega (arith, shaped.staged.start f at);
            index = λ past. sym (shaped.staged.none (omega arith));
          };
          small = omega arith;
          leads = λ v h. linked_self (ForkGoes x.forks v) 0;
          agrees = λ v h k word b lt. absurd (omega arith);
        }))
      ];
      done = λ a b f closed lt. absurd (omega arith);
    }

pub written_back : (new old : List (Option ℕ)) (n : ℕ) → n ≡ length new → take n (new ++ drop (length new) old) ≡ new
written_back new old n e = let le : n ≤ length new = omega arith in grind (arith, common_steps)
