-- A vector is changed to agree with words, and where words and position are known to fit, nothing but breakers changes.
use Rattle.std.proofs.Common.{◌⊎◌, ◌≡◌, ◌≢◌, ◌<◌, ℕ, zero, suc, Bool, true, false, List, [], ◌∷◌, length, get_or}
use Rattle.std.proofs.Common.{slice_get, Option, Some, None, refl, sym, subst, ap, ◌∙◌, inl, inr, arith}
use Rattle.ilk_base.specs.declared.words.Dbpos.{Dbpos}
use Rattle.ilk_base.specs.declared.words.Dbpos.TheVariants.{Intermediate, Off, On, Bad, Lost}
use Rattle.ilk_base.specs.declared.words.Kind.{Kind}
use Rattle.ilk_base.specs.declared.words.Kind.TheVariants.{Breaker, Disconnector, Earthing, Infeed}
use Rattle.ilk_base.specs.declared.words.Op.{Op}
use Rattle.double_points.specs.Words.{Agrees}
use Rattle.station_graph.specs.declared.items.Switch.{Switch}
use Rattle.station_graph.specs.Diagram.{Diagram}
use Rattle.station_graph.specs.Alike.{IsVector}
use Rattle.station_graph.specs.Connection.{SameButBreakers}
use Rattle.station_graph.specs.CentralRules.{Breaks, GapBreaks}
use Rattle.station_graph.proofs.GapLemmas.{gap_same, none_parts}
use Rattle.reservation_core.specs.Scene.{true_at, ReadsAs}
use Rattle.reservation_core.proofs.TrueWords.{true_word_agrees}
use Rattle.trip_core.specs.declared.values.Note.{Note}
use Rattle.trip_core.specs.Trips.{TripScene, IsBreaker, IsGoodNote}

-- a position that agrees with a word, and differs from this one only where it must
agreed : Dbpos → Bool → Bool
agreed On closed = true
agreed Off closed = false
agreed Intermediate closed = closed
agreed Bad closed = closed
agreed Lost closed = closed

agreed_agrees : (word : Dbpos) (closed : Bool) → Agrees word (agreed word closed)
unfolding agreed
agreed_agrees On closed = refl
agreed_agrees Off closed = refl
agreed_agrees Intermediate closed = tt
agreed_agrees Bad closed = tt
agreed_agrees Lost closed = tt

agreed_same : (word : Dbpos) (closed : Bool) → Agrees word closed → closed ≡ agreed word closed
unfolding agreed
agreed_same On closed agrees = agrees
agreed_same Off closed agrees = agrees
agreed_same Intermediate closed agrees = refl
agreed_same Bad closed agrees = refl
agreed_same Lost closed agrees = refl

pub agreed_list : (ℕ → Dbpos) → List Bool → List Bool
agreed_list words [] = []
agreed_list words (x ∷ xs) = agreed (words 0) x ∷ agreed_list (λ i. words (suc i)) xs

pub length_agreed : (words : ℕ → Dbpos) (v : List Bool) → length (agreed_list words v) ≡ length v
unfolding agreed_list
length_agreed words [] = refl
length_agreed words (x ∷ xs) = ap (λ n. suc n) (length_agreed (λ i. words (suc i)) xs)

get_agreed : (words : ℕ → Dbpos) (v : List Bool) (i : ℕ) → i < length v → get_or
    (agreed_list words v) i false ≡ agreed (words i) (get_or v i false)
unfolding agreed_list
get_agreed words [] i lt = absurd (omega (arith, lt))
get_agreed words (x ∷ xs) zero lt = refl
get_agreed words (x ∷ xs) (suc i) lt = get_agreed (λ i. words (suc i)) xs i (omega (arith, lt))

-- the places of both, where nothing is to change
pub agreed_at : (words : ℕ → Dbpos) (v : List Bool) (i : ℕ) → (i < length v → Agrees (words i) (get_or v i false))
    → slice_get (agreed_list words v) i ≡ slice_get v i
unfolding agreed_list
agreed_at words [] i agrees = refl
agreed_at words (x ∷ xs) zero agrees = ap (λ y. Some y) (sym (agreed_same (words 0) x (agrees (omega arith))))
agreed_at words (x ∷ xs) (suc i) agrees = agreed_at (λ i. words (suc i)) xs i (λ lt. agrees (omega (arith, lt)))

-- an agreed vector agrees
pub agrees_at : (words : ℕ → Dbpos) (v : List Bool) (i : ℕ) (word : Dbpos) → i < length v → words i ≡ word
    → Agrees word (get_or (agreed_list words v) i false)
agrees_at words v i word lt is =
    subst (λ (x : Bool). Agrees word x) (sym (get_agreed words v i lt)) (subst (λ (x : Dbpos). Agrees x (agreed
    (words i) (get_or v i false))) is (agreed_agrees (words i) (get_or v i false)))

pub lost_agrees : (word : Dbpos) (closed : Bool) → word ≡ Lost → Agrees word closed
lost_agrees word closed is = subst (λ (x : Dbpos). Agrees x closed) (sym is) tt

-- nothing changes where all words are lost
pub agreed_lost : (words : ℕ → Dbpos) (v : List Bool) → ((i : ℕ) → words i ≡ Lost) → agreed_list words v ≡ v
unfolding agreed_list agreed
agreed_lost words [] lost = refl
agreed_lost words (x ∷ xs) lost =
    let first : agreed (words 0) x ≡ x = ap (λ w. agreed w x) (lost 0) in
    rw (first, agreed_lost (λ i. words (suc i)) xs (λ i. lost (suc i))) refl

-- the same words change the same
pub agreed_alike : (words others : ℕ → Dbpos) (v : List Bool) → ((i : ℕ) → words i ≡ others i) →
    agreed_list words v ≡ agreed_list others v
unfolding agreed_list
agreed_alike words others [] same = refl
agreed_alike words others (x ∷ xs) same =
    rw (same 0, agreed_alike (λ i. words (suc i)) (λ i. others (suc i)) xs (λ i. same (suc i))) refl

-- so at one place
pub agreed_same_at : (words others : ℕ → Dbpos) (v : List Bool) (i : ℕ) → words i ≡ others i →
    slice_get (agreed_list words v) i ≡ slice_get (agreed_list others v) i
unfolding agreed_list
agreed_same_at words others [] i same = refl
agreed_same_at words others (x ∷ xs) zero same = ap (λ w. Some (agreed w x)) same
agreed_same_at words others (x ∷ xs) (suc i) same =
    agreed_same_at (λ i. words (suc i)) (λ i. others (suc i)) xs i same

-- ---- breakers

breaker_kind : (kind : Kind) → (kind ≡ Breaker) ⊎ (kind ≢ Breaker)
breaker_kind Breaker = inl refl
breaker_kind Disconnector = inr (λ is. cc is)
breaker_kind Earthing = inr (λ is. cc is)
breaker_kind Infeed = inr (λ is. cc is)

pub breaker_or_not : (d : Diagram) (i : ℕ) → IsBreaker d i ⊎ (¬ IsBreaker d i)
breaker_or_not d i = by_place (slice_get d.switches i) refl
  where
    by_place : (x : Option Switch) → slice_get d.switches i ≡ x → IsBreaker d i ⊎ (¬ IsBreaker d i)
    by_place None none = inr (λ is. cc (is.listed, none))
    by_place (Some s) got = elim (breaker_kind s.kind) [
      | inl is ↦ inl (record { switch = s; listed = got; kind = is })
      | inr other ↦ inr (λ is. let e : is.switch ≡ s = cc (is.listed, got) in other (ap (λ (y : Switch). y.kind)
          (sym e) ∙ is.kind))
    ]

-- ---- a vector in which words are made to agree

-- the word is lost, or it is that of a good note, and the switch stands as it truly does
pub data IsFair (d : Diagram) (s : TripScene) (i : ℕ) (word : Dbpos) (closed : Bool) : Type 0 where
  unknown : word ≡ Lost → IsFair d s i word closed
  good_note : (n : Note) → word ≡ n.word → IsGoodNote d s.world.scene.truth s.tripped s.events i n
      → ReadsAs (true_at s.world.scene.truth i) closed → IsFair d s i word closed

-- it agrees but for breakers
fair_agrees : (d : Diagram) (s : TripScene) (i : ℕ) (word : Dbpos) (closed : Bool) → ¬ IsBreaker d i
    → IsFair d s i word closed → Agrees word closed
fair_agrees d s i word closed other (IsFair.unknown is) = lost_agrees word closed is
fair_agrees d s i word closed other (IsFair.good_note n is (inl true_note) stands) =
    subst (λ (x : Dbpos). Agrees x closed) (sym is) (true_word_agrees n.word
    (true_at s.world.scene.truth i) closed true_note.is_true stands)
fair_agrees d s i word closed other (IsFair.good_note n is (inr stale) stands) = absurd (other stale.is_breaker)

-- where no rule is broken in the agreed vector, the first two are not in the other
pub gap_of : (d : Diagram) (s : TripScene) (words : ℕ → Dbpos) (v : List Bool) (op : Op) → IsVector d v → ((i : ℕ)
    → i < length d.switches → IsFair d s i (words i) (get_or v i false)) → Breaks d (agreed_list words v) op None
    → GapBreaks d v op None
gap_of d s words v op whole fair none =
    let same : SameButBreakers d (agreed_list words v) v = λ i other. agreed_at words v i (λ lt. fair_agrees d s i
    (words i) (get_or v i false) (λ is. other is.switch is.listed is.kind) (fair i (omega (arith, lt, whole)))) in
    gap_same d (agreed_list words v) v op None (length_agreed words v) same ((none_parts d
    (agreed_list words v) op).0 none).0
