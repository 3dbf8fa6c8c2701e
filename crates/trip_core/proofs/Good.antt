-- Which notes stay good.
use Rattle.std.proofs.Common.{◌⊎◌, ◌≡◌, ◌≢◌, ◌+◌, ◌<◌, ◌≤◌, ℕ, List, length, set, refl, sym, subst, ap, ◌∙◌}
use Rattle.std.proofs.Common.{inl, inr, arith, get_or-set_same, get_or-set_other}
use Rattle.std.proofs.lemmas.Bool.{cases_eq}
use Rattle.ilk_base.specs.declared.words.Dbpos.{Dbpos}
use Rattle.ilk_base.specs.declared.words.Dbpos.TheVariants.{Intermediate, Off, On, Bad, Lost}
use Rattle.station_graph.specs.Diagram.{Diagram}
use Rattle.central_rules.specs.Meaning.{Meaning}
use Rattle.reservation_core.specs.Scene.{Scene, true_at, IsTrueWord}
use Rattle.reservation_core.specs.Held.{Held, TruthFacts}
use Rattle.reservation_core.specs.declared.values.Position.{Position}
use Rattle.reservation_core.specs.declared.values.Position.TheVariants.{Open, Between}
use Rattle.trip_core.specs.declared.values.Note.{Note}
use Rattle.trip_core.specs.Trips.{IsBreaker, word_in, IsGoodNote, tripped_at}

-- a lost word is good
pub lost_is_good : (d : Diagram) (truth : List Position) (tripped : List ℕ) (events i : ℕ) (n : Note) → n.word ≡ Lost
    → IsGoodNote d truth tripped events i n
lost_is_good d truth tripped events i n is = inl (record {
  is_true = subst (λ (x : Dbpos). IsTrueWord x (true_at truth i)) (sym is) tt;
  by_now = λ on. absurd (cc (is, on));
})

-- an event later
pub good_later : (d : Diagram) (truth : List Position) (tripped : List ℕ) (events i : ℕ) (n : Note)
    → IsGoodNote d truth tripped events i n → IsGoodNote d truth tripped (events + 1) i n
good_later d truth tripped events i n (inl true_note) = inl (record {
  is_true = true_note.is_true;
  by_now = λ on. let by = true_note.by_now on in omega (arith, by);
})
good_later d truth tripped events i n (inr stale) = inr stale

-- the switch of another note moves
pub good_elsewhere : (d : Diagram) (truth : List Position) (tripped : List ℕ) (events i j : ℕ) (at : Position)
    (n : Note) → j ≢ i → IsGoodNote d truth tripped events j n → IsGoodNote d (set truth i at) tripped (events + 1) j n
good_elsewhere d truth tripped events i j at n other (inl true_note) = inl (record {
  is_true = subst (λ (x : Position). IsTrueWord n.word x) (sym
      (get_or-set_other truth i j at Between other)) true_note.is_true;
  by_now = λ on. let by = true_note.by_now on in omega (arith, by);
})
good_elsewhere d truth tripped events i j at n other (inr stale) = inr (record {
  is_on = stale.is_on;
  is_breaker = stale.is_breaker;
  is_open = get_or-set_other truth i j at Between other ∙ stale.is_open;
  later = stale.later;
})

-- a word that is true of a switch is true of it when it has opened, or is on
on_or_true : (word : Dbpos) (at : Position) → IsTrueWord word at → (word ≡ On) ⊎ IsTrueWord word Open
on_or_true On at truly = inl refl
on_or_true Off at truly = inr refl
on_or_true Intermediate at truly = inr tt
on_or_true Bad at truly = inr tt
on_or_true Lost at truly = inr tt

-- a breaker trips
pub good_tripped : (d : Diagram) (truth : List Position) (tripped : List ℕ) (events i j : ℕ) (n : Note)
    → i < length truth → i < length tripped → IsBreaker d i → tripped_at tripped i ≤ events
    → IsGoodNote d truth tripped events j n → IsGoodNote d (set truth i Open) (set tripped i (events + 1))
    (events + 1) j n
good_tripped d truth tripped events i j n inside inside' breaker past good = elim (cases_eq j i) [
  | inr other ↦ elim (good_elsewhere d truth tripped events i j Open n other good) [
    | inl true_note ↦ inl true_note
    | inr stale ↦ inr (record {
      is_on = stale.is_on;
      is_breaker = stale.is_breaker;
      is_open = stale.is_open;
      later = subst (λ (x : ℕ). n.at < x) (sym (get_or-set_other tripped i j (events + 1) 0 other)) stale.later;
    })
  ]
  | inl same ↦
      let open_now : true_at (set truth i Open) j ≡ Open = ap (λ (x : ℕ). true_at (set truth i Open) x) same
      ∙ get_or-set_same truth i Open Between inside in
      let now : tripped_at (set tripped i (events + 1)) j ≡ events + 1 = ap (λ (x : ℕ). tripped_at (set tripped i
      (events + 1)) x) same ∙ get_or-set_same tripped i (events + 1) 0 inside' in
      let is_breaker : IsBreaker d j = subst (IsBreaker d) (sym same) breaker in
      elim good [
        | inl true_note ↦ elim (on_or_true n.word (true_at truth j) true_note.is_true) [
          | inl on ↦ inr (record {
            is_on = on;
            is_breaker = is_breaker;
            is_open = open_now;
            later = let by = true_note.by_now on in omega (arith, by, now);
          })
          | inr truly ↦ inl (record {
            is_true = subst (λ (x : Position). IsTrueWord n.word x) (sym open_now) truly;
            by_now = λ on. let by = true_note.by_now on in omega (arith, by);
          })
        ]
        | inr stale ↦ inr (record {
          is_on = stale.is_on;
          is_breaker = is_breaker;
          is_open = open_now;
          later = let before : tripped_at tripped j ≤ events = subst (λ (x : ℕ). tripped_at tripped x ≤ events)
              (sym same) past in omega (arith, stale.later, before, now);
        })
      ]
]

-- what is good by one notion is good by another
pub weaker : (m : Meaning) (Good After : ℕ → Note → Type 0) (w : Scene) (h : Held Note) → ((i : ℕ) (n : Note)
    → Good i n → After i n) → TruthFacts m Note word_in Good w h → TruthFacts m Note word_in After w h
weaker m Good After w h keep facts = record {
  words_are = facts.words_are;
  words = λ i lt free. keep i (h.own i) (facts.words i lt free);
  made = facts.made;
  answers = λ k f s got body running i own. keep i (h.beside k i) (facts.answers k f s got body running i own);
  heard = λ c g has.
      let old = facts.heard c g has in
      record {
        heard = λ b s got. let good = old.heard b s got in record {
          allows = good.allows;
          good = λ i own. keep i (h.known c i) (good.good i own);
        };
        unheard = old.unheard;
      };
  grants = λ c g has.
      let old = facts.grants c g has in
      record {
        good = λ i lt other. keep i (h.known c i) (old.good i lt other);
        heard = old.heard;
        answers = old.answers;
        allows = old.allows;
        unheard = old.unheard;
        none = old.none;
      };
}
