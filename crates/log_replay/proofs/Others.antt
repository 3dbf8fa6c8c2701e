-- All others are heard by a node exactly where they are by the lines.
use Rattle.std.proofs.Common.{◌≡◌, ◌≢◌, ◌+◌, ◌<◌, ◌≤◌, ◌==◌, ℕ, zero, suc, Bool, true, false, cond, List, [], ◌∷◌}
use Rattle.std.proofs.Common.{get_or, replicate, Option, Some, None, refl, subst, ap, arith, inl, inr}
use Rattle.std.specs.Prelude.{slice_get, nat_lt, not}
use Rattle.std.specs.List.{All, filter, range_with_len, count_by}
use Rattle.std.proofs.lemmas.Bool.{ltb-true}
use Rattle.std.proofs.lemmas.Bool.Decides.{eqb_tells}
use Rattle.station_graph.specs.declared.items.Switch.{Switch}
use Rattle.ilk_base.specs.declared.words.Dbpos.{Dbpos}
use Rattle.station_graph.specs.Diagram.{Diagram, IsStation, part_count, switches_in}
use Rattle.central_rules.specs.Meaning.{Meaning}
use Rattle.bay_protocol.specs.State.{IsOther, is_another, others, AllHeard}
use Rattle.bay_protocol.proofs.Others.{another_yes, others_each}
use Rattle.reservation_core.proofs.Rounds.{unheard}
use Rattle.log_replay.proofs.Basic.{eqb_differ, and_left, and_right, in_or_past}
use Rattle.log_replay.proofs.Linked.{HeardIs}

-- ---- the list of all others

passes_step : (p : ℕ → Bool) (a x : ℕ) (rest : List ℕ) (t : Bool) → p a ≡ t → p x ≡ true → (a ≢ x → rest ≢ []) →
    cond t (a ∷ rest) rest ≢ []
passes_step p a x rest true is passes tail = λ e. absurd (cc e)
passes_step p a x rest false is passes tail = tail (λ e. let same : p a ≡ p x = ap p e in cc (is, passes, same))

passes_some : (p : ℕ → Bool) (a n x : ℕ) → a ≤ x → x < a + n → p x ≡ true → filter p (range_with_len a n) ≢ []
passes_some p a zero x low high passes = absurd (omega (arith, low, high))
passes_some p a (suc n) x low high passes =
    passes_step p a x (filter p (range_with_len (a + 1) n)) (p a) refl passes (λ differ. passes_some p (a + 1) n x
    (omega (arith, low, differ)) (omega (arith, high)) passes)

-- where another bay is, there are others
pub other_of : (d : Diagram) (c x : ℕ) → IsOther d c x → others d c ≢ []
other_of d c x other = passes_some (is_another d c) 0 (part_count d) x (omega arith) (omega (arith, other.0.0))
    (another_yes d c x other)

none_of : (xs : List Switch) (b : ℕ) → ((i : ℕ) (x : Switch) → slice_get xs i ≡ Some x → x.bay.0 ≢ b) →
    count_by (λ x. x.bay.0 == b) xs ≡ 0
none_of [] b never = refl
none_of (x ∷ xs) b never = rw (eqb_differ x.bay.0 b (never 0 x refl)) (none_of xs b (λ i y at. never (suc i) y at))

-- what is no part is no other bay
pub another_past : (d : Diagram) (c b : ℕ) → IsStation d → part_count d ≤ b → is_another d c b ≡ false
another_past d c b station past =
    let none : switches_in d b ≡ 0 = none_of d.switches b (λ i x at is. let fit =
    (station.items.switches_fit i x at).part_in in absurd (omega (arith, fit, past, is))) in
    rw none refl

differs : (b c : ℕ) → not (b == c) ≡ true → b ≢ c
differs b c is = elim (eqb_tells b c) [ inl p ↦ let bad : false ≡ true = rw p.0 at is in absurd (cc bad) | inr p ↦ p.1 ]

-- what passes for another bay is one
pub is_other : (d : Diagram) (c b : ℕ) → IsStation d → is_another d c b ≡ true → IsOther d c b
is_other d c b station is = elim (in_or_past b (part_count d)) [
  | inl lt ↦ (
    (lt, ltb-true 0 (switches_in d b) (and_left (nat_lt 0 (switches_in d b)) _ is)),
    differs b c
        (and_right (nat_lt 0 (switches_in d b)) _ is),
  )
  | inr past ↦ let no = another_past d c b station past in absurd (cc (is, no))
]

first_of : (P : ℕ → Type 0) (xs : List ℕ) → All P xs → xs ≢ [] → (x : ℕ) × P x
first_of P [] all some = absurd (some refl)
first_of P (x ∷ xs) all some = (x, all 0 x (omega arith))

-- where there are others, another bay is
other_there : (d : Diagram) (c : ℕ) → others d c ≢ [] → (x : ℕ) × IsOther d c x
other_there d c some = first_of (IsOther d c) (others d c) (others_each d c) some

-- ---- what was heard

pub got_some : (hs : List (Option (List ℕ))) (b : ℕ) (s : List ℕ) → get_or hs b None ≡ Some s →
    slice_get hs b ≡ Some (Some s)
got_some [] b s is = absurd (cc is)
got_some (h ∷ hs) zero s is = cc is
got_some (h ∷ hs) (suc b) s is = got_some hs b s is

pub some_got : (hs : List (Option (List ℕ))) (b : ℕ) (s : List ℕ) → slice_get hs b ≡ Some (Some s) →
    get_or hs b None ≡ Some s
some_got [] b s is = absurd (cc is)
some_got (h ∷ hs) zero s is = cc is
some_got (h ∷ hs) (suc b) s is = some_got hs b s is

-- nobody was heard where there are others
pub none_heard : (d : Diagram) (c n : ℕ) → others d c ≢ [] → ¬ AllHeard d c (replicate n None)
none_heard d c n some all =
    let other = other_there d c some in
    let heard = all other.0 other.1 in
    unheard n other.0 heard.0 heard.1

-- where one is missing there are others
pub missing_some : (d : Diagram) (c : ℕ) (hs : List (Option (List ℕ))) → ¬ AllHeard d c hs → others d c ≢ []
missing_some d c hs missing none = missing (λ x other. absurd (other_of d c x other none))

summary_of : (m : Meaning) (b c : ℕ) (s : Option (List ℕ)) (w : Option (List Dbpos)) → HeardIs m b c s w → w ≢ None →
    (x : List ℕ) × (s ≡ Some x)
summary_of m b c (Some s) w is some = (s, refl)
summary_of m b c None (Some w) is some = absurd is
summary_of m b c None None is some = absurd (some refl)

words_some : (m : Meaning) (b c : ℕ) (s : Option (List ℕ)) (w : Option (List Dbpos)) (x : List ℕ) → HeardIs m b c s w →
    s ≡ Some x → w ≢ None
words_some m b c None w x is some = absurd (cc some)
words_some m b c (Some s) None x is some = absurd is
words_some m b c (Some s) (Some w) x is some = λ e. absurd (cc e)

-- what c has heard, by these words of each bay
abbrev pub AreHeard : Meaning → ℕ → List (Option (List ℕ)) → (ℕ → Option (List Dbpos)) → Type 0
AreHeard m c hs heard = (b : ℕ) → HeardIs m b c (get_or hs b None) (cond (is_another m.diagram c b) (heard b) None)

-- words of all others are there
abbrev pub Every : Diagram → ℕ → (ℕ → Option (List Dbpos)) → Type 0
Every d c heard = (b : ℕ) → IsOther d c b → heard b ≢ None

of_other : (m : Meaning) (c : ℕ) (hs : List (Option (List ℕ))) (heard : ℕ → Option (List Dbpos)) (b : ℕ) →
    AreHeard m c hs heard → IsOther m.diagram c b → HeardIs m b c (get_or hs b None) (heard b)
of_other m c hs heard b are other = subst (λ (y : Bool). HeardIs m b c (get_or hs b None) (cond y (heard b) None))
    (another_yes m.diagram c b other) (are b)

pub not_every : (m : Meaning) (c : ℕ) (hs : List (Option (List ℕ))) (heard : ℕ → Option (List Dbpos)) →
    ¬ AllHeard m.diagram c hs → AreHeard m c hs heard → ¬ Every m.diagram c heard
not_every m c hs heard missing are every = missing (λ b other.
    let s = summary_of m b c (get_or hs b None) (heard b) (of_other m c hs heard b are other) (every b other) in
    (s.0, got_some hs b s.0 s.1))

pub every : (m : Meaning) (c : ℕ) (hs : List (Option (List ℕ))) (heard : ℕ → Option (List Dbpos)) →
    AllHeard m.diagram c hs → AreHeard m c hs heard → Every m.diagram c heard
every m c hs heard all are b other =
    let s = all b other in
    words_some m b c (get_or hs b None) (heard b) s.0 (of_other m c hs heard b are other) (some_got hs b s.0 s.1)
