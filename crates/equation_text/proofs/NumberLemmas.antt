-- The numbers among words, each after a blank.
use Rattle.std.proofs.Common.{◌≡◌, ◌≢◌, ◌∙◌, ◌⊎◌, ℕ, Bool, List, [], ◌∷◌, ◌++◌, refl, sym}
use Rattle.std.proofs.Common.{ap, subst, inl, inr, arith, append_assoc}
use Rattle.std.specs.Prelude.{codes, IsTrue}
use Rattle.std.proofs.lemmas.Fmt.{decimal_injective}
use Rattle.std.proofs.lemmas.List.{append_cancel_left}
use Rattle.text_lines.specs.Decimals.{IsDecimal}
use Rattle.equation_text.specs.Words.{Lacks, EndsWord}
use Rattle.equation_text.specs.Faults.{Entry, step_of, node_of, IsNextWord, Behind, HasNumber, HasHead, LeadsIn}
use Rattle.equation_text.specs.declared.entries.Kind.{Kind}
use Rattle.equation_text.specs.declared.entries.Kind.TheVariants.{StepsOf, Nodes}
use Rattle.equation_text.specs.Entries.{entry_in, InPart, NumberIsLost, NumbersKept, NumberLost, StepsKept, StepLost}
use Rattle.equation_text.specs.Entries.{NodesKept, NodeLost, AllKept, OneLost}
use Rattle.equation_text.proofs.WordLemmas.{word_once}

pub decimal_once : (word : List ℕ) (m n : ℕ) → IsDecimal word m → IsDecimal word n → m ≡ n
decimal_once word m n a b = decimal_injective m n (omega (arith, a.small)) (omega (arith, b.small)) (sym a.written
    ∙ b.written)

-- the next word is one
pub next_once : (text w v r s : List ℕ) → IsNextWord text w r → IsNextWord text v s → (w ≡ v) × (r ≡ s)
next_once text w v r s a b =
    let same : w ++ r ≡ v ++ s = let both : 32 ∷ (w ++ r) ≡ 32 ∷ (v ++ s) = sym a.is ∙ b.is in cc both in
    word_once w v r s a.first b.first a.ends b.ends same

pub number_here : (text w r : List ℕ) (m : ℕ) → IsNextWord text w r → IsDecimal w m → HasNumber text m
number_here text w r m next is = record {
  before = [];
  after = r;
  word = w;
  is = next.is;
  first = next.first;
  ends = next.ends;
  number = is;
}

pub number_later : (text w r : List ℕ) (m : ℕ) → IsNextWord text w r → HasNumber r m → HasNumber text m
number_later text w r m next has = record {
  before = 32 ∷ (w ++ has.before);
  after = has.after;
  word = has.word;
  is = next.is ∙ ap (λ (z : List ℕ). 32 ∷ (w ++ z)) has.is ∙ ap (λ (z : List ℕ). 32 ∷ z) (sym (append_assoc w has.before
      (32 ∷ (has.word ++ has.after))));
  first = has.first;
  ends = has.ends;
  number = has.number;
}

-- a blank behind a word
record BlankBehind (w r bs z : List ℕ) : Type 0 where
  pub more : List ℕ
  pub before : bs ≡ w ++ more
  pub behind : r ≡ more ++ 32 ∷ z

skip : (w r bs z : List ℕ) → Lacks 32 w → w ++ r ≡ bs ++ 32 ∷ z → BlankBehind w r bs z
skip [] r bs z lacks same = record { more = bs; before = refl; behind = same }
skip (x ∷ w) r [] z lacks same = absurd (lacks.0 (let e : x ≡ 32 = cc same in e))
skip (x ∷ w) r (b ∷ bs) z lacks same =
    let first : x ≡ b = cc same in
    let next : w ++ r ≡ bs ++ 32 ∷ z = cc same in
    let found = skip w r bs z lacks.1 next in
    record {
      more = found.more;
      before = ap (λ (zs : List ℕ). b ∷ zs) found.before ∙ ap (λ y. y ∷ (w ++ found.more)) (sym first);
      behind = found.behind;
    }

split_by : (text w r before word after : List ℕ) (m : ℕ) → IsNextWord text w r → text ≡ before ++ 32 ∷ (word ++ after)
    → Lacks 32 word → EndsWord after → IsDecimal word m → IsDecimal w m ⊎ HasNumber r m
split_by text w r [] word after m next is lacks ends number =
    let both : 32 ∷ (w ++ r) ≡ 32 ∷ (word ++ after) = sym next.is ∙ is in
    let same : w ++ r ≡ word ++ after = cc both in
    let once = word_once w word r after next.first lacks next.ends ends same in
    inl (subst (λ (z : List ℕ). IsDecimal z m) (sym once.0) number)
split_by text w r (b ∷ before) word after m next is lacks ends number =
    let both : 32 ∷ (w ++ r) ≡ b ∷ (before ++ 32 ∷ (word ++ after)) = sym next.is ∙ is in
    let same : w ++ r ≡ before ++ 32 ∷ (word ++ after) = cc both in
    let found = skip w r before (word ++ after) next.first same in
    inr (record {
      before = found.more;
      after = after;
      word = word;
      is = found.behind;
      first = lacks;
      ends = ends;
      number = number;
    })

pub number_split : (text w r : List ℕ) (m : ℕ) → IsNextWord text w r → HasNumber text m
    → IsDecimal w m ⊎ HasNumber r m
number_split text w r m next has = split_by text w r has.before has.word has.after m next has.is has.first has.ends
    has.number

no_blank : (before rest : List ℕ) → before ++ 32 ∷ rest ≡ [] → ⊥
no_blank [] rest is = cc is
no_blank (b ∷ before) rest is = cc is

-- where no blank is next there is no number
pub no_number : (text : List ℕ) (m : ℕ) → EndsWord text → ((rest : List ℕ) → text ≢ 32 ∷ rest) → HasNumber text m → ⊥
no_number [] m ends none has = no_blank has.before (has.word ++ has.after) (sym has.is)
no_number (b ∷ text) m ends none has = none text (ap (λ z. z ∷ text) ends)

-- ---- words kept so far

pub record WordsSoFar (has : Entry → Bool) (kind : Kind) (words left : List ℕ) : Type 0 where
  pub ends : EndsWord left
  pub kept : (m : ℕ) → HasNumber words m → IsTrue (has (entry_in kind m)) ⊎ HasNumber left m
  pub back : (m : ℕ) → HasNumber left m → HasNumber words m

module _ (has : Entry → Bool) (kind : Kind) (words left : List ℕ) (so_far : WordsSoFar has kind words left) where
  pub words_next : (w rest : List ℕ) → IsNextWord left w rest
      → ((m : ℕ) → IsDecimal w m → IsTrue (has (entry_in kind m))) → WordsSoFar has kind words rest
  words_next w rest next kept = record {
    ends = next.ends;
    kept = λ m named. elim (so_far.kept m named) [
      | inl there ↦ inl there
      | inr behind ↦ elim (number_split left w rest m next behind) [
        | inl here ↦ inl (kept m here)
        | inr later ↦ inr later
      ]
    ];
    back = λ m named. so_far.back m (number_later left w rest m next named);
  }

  pub words_lost : (w rest : List ℕ) → IsNextWord left w rest → NumberIsLost has kind w → NumberLost has kind words
  words_lost w rest next lost = (lost.0, so_far.back lost.0 (number_here left w rest lost.0 next lost.1), lost.2)

  pub words_kept : ((rest : List ℕ) → left ≢ 32 ∷ rest) → NumbersKept has kind words
  words_kept none m named = elim (so_far.kept m named) [
    | inl there ↦ there
    | inr behind ↦ absurd (no_number left m so_far.ends none behind)
  ]

pub words_first : (has : Entry → Bool) (kind : Kind) (words : List ℕ) → EndsWord words → WordsSoFar has kind words words
words_first has kind words ends = record { ends = ends; kept = λ m named. inr named; back = λ m named. named }

-- ---- what stands behind so many words

pub two_once : (text a b r1 r2 rest : List ℕ) → IsNextWord text a r1 → IsNextWord r1 b r2 → Behind 2 text rest
    → r2 ≡ rest
two_once text a b r1 r2 rest first second whole =
    let inner : Behind 1 whole.1 rest = whole.3 in
    let one = next_once text a whole.0 r1 whole.1 first whole.2 in
    let next : IsNextWord r1 inner.0 inner.1 = subst (λ (z : List ℕ). IsNextWord z inner.0 inner.1) (sym one.1)
    inner.2 in
    let end : inner.1 ≡ rest = inner.3 in
    (next_once r1 b inner.0 r2 inner.1 second next).1 ∙ end

pub behind_once : (text r s : List ℕ) → Behind 2 text r → Behind 2 text s → r ≡ s
behind_once text r s whole second =
    let inner : Behind 1 whole.1 r = whole.3 in
    let end : inner.1 ≡ r = inner.3 in
    sym end ∙ two_once text whole.0 inner.0 whole.1 inner.1 s whole.2 inner.2 second

pub part_once : (head line : List ℕ) (p q : ℕ) (r s : List ℕ) → InPart head line p r → InPart head line q s
    → (p ≡ q) × (r ≡ s)
part_once head line p q r s a b =
    let rest = append_cancel_left head a.rest b.rest (sym a.is ∙ b.is) in
    let next = subst (λ (z : List ℕ). IsNextWord z b.word s) (sym rest) b.next in
    let once = next_once a.rest a.word b.word r s a.next next in
    (decimal_once a.word p q a.number (subst (λ (z : List ℕ). IsDecimal z q) (sym once.0) b.number), once.1)

pub in_part_of : (head line words : List ℕ) (p k : ℕ) (l : LeadsIn head p k line words) → InPart head line p l.more
in_part_of head line words p k l = record {
  rest = l.rest;
  word = l.word;
  is = l.is;
  next = l.next;
  number = l.number;
}

pub leads_of : (head line words : List ℕ) (p k : ℕ) (more : List ℕ) → InPart head line p more → Behind k more words
    → LeadsIn head p k line words
leads_of head line words p k more i behind = record {
  rest = i.rest;
  word = i.word;
  more = more;
  is = i.is;
  next = i.next;
  number = i.number;
  behind = behind;
}

module _ (has : Entry → Bool) (head line : List ℕ) (p k : ℕ) (more words : List ℕ) (i : InPart head line p more)
    (behind : Behind k more words) (once : (other : List ℕ) → Behind k more other → words ≡ other) where
  pub steps_kept_by : NumbersKept has (StepsOf p) words → StepsKept has head k line
  steps_kept_by kept q m others leads named =
      let same = part_once head line p q more leads.more i (in_part_of head line others q k leads) in
      let words_are = once others (subst (λ (z : List ℕ). Behind k z others) (sym same.1) leads.behind) in
      let there = kept m (subst (λ (z : List ℕ). HasNumber z m) (sym words_are) named) in
      subst (λ z. IsTrue (has (step_of z m))) same.0 there

  pub step_lost_by : NumberLost has (StepsOf p) words → StepLost has head k line
  step_lost_by lost = record {
    part = p;
    number = lost.0;
    words = words;
    leads = leads_of head line words p k more i behind;
    named = lost.1;
    lost = lost.2;
  }

pub no_part : (has : Entry → Bool) (head line : List ℕ) (k : ℕ)
    → ((p : ℕ) (more : List ℕ) → InPart head line p more → ⊥) → StepsKept has head k line
no_part has head line k none p m words leads named = absurd (none p leads.more (in_part_of head line words p k leads))

pub no_words : (has : Entry → Bool) (head line : List ℕ) (p k : ℕ) (more : List ℕ) → InPart head line p more
    → ((rest : List ℕ) → Behind k more rest → ⊥) → StepsKept has head k line
no_words has head line p k more i none q m words leads named =
    let same = part_once head line p q more leads.more i (in_part_of head line words q k leads) in
    absurd (none words (subst (λ (z : List ℕ). Behind k z words) (sym same.1) leads.behind))

-- ---- nodes

pub no_head : (has : Entry → Bool) (head line : List ℕ) (k : ℕ) → ((rest : List ℕ) → line ≢ head ++ rest)
    → NodesKept has head k line
no_head has head line k none n words leads named = absurd (none leads.rest leads.is)

module _ (has : Entry → Bool) (head line rest : List ℕ) (k : ℕ) (is : line ≡ head ++ rest) where
  same_rest : (words : List ℕ) (leads : HasHead head k line words) → Behind k rest words
  same_rest words leads = subst (λ (z : List ℕ). Behind k z words) (append_cancel_left head leads.rest rest
      (sym leads.is ∙ is)) leads.behind

  pub none_behind : ((words : List ℕ) → Behind k rest words → ⊥) → NodesKept has head k line
  none_behind none n words leads named = absurd (none words (same_rest words leads))

  module _ (words : List ℕ) (behind : Behind k rest words) (once : (other : List ℕ) → Behind k rest other
      → words ≡ other) where
    pub nodes_kept_by : NumbersKept has Nodes words → NodesKept has head k line
    nodes_kept_by kept n others leads named =
        let words_are = once others (same_rest others leads) in
        kept n (subst (λ (z : List ℕ). HasNumber z n) (sym words_are) named)

    pub node_lost_by : NumberLost has Nodes words → NodeLost has head k line
    node_lost_by lost = record {
      number = lost.0;
      words = words;
      leads = record { rest = rest; is = is; behind = behind };
      named = lost.1;
      lost = lost.2;
    }

pub three_once : (text a r1 rest other : List ℕ) → IsNextWord text a r1 → Behind 2 r1 rest
    → Behind 3 text other → rest ≡ other
three_once text a r1 rest other first behind whole =
    let one = next_once text a whole.0 r1 whole.1 first whole.2 in
    behind_once r1 rest other behind (subst (λ (z : List ℕ). Behind 2 z other) (sym one.1) whole.3)

pub three_none : (text a r1 : List ℕ) → IsNextWord text a r1 → ((rest : List ℕ) → Behind 2 r1 rest → ⊥)
    → (other : List ℕ) → Behind 3 text other → ⊥
three_none text a r1 first none other whole =
    let one = next_once text a whole.0 r1 whole.1 first whole.2 in
    none other (subst (λ (z : List ℕ). Behind 2 z other) (sym one.1) whole.3)

-- ---- a whole line

module _ (has : Entry → Bool) (line : List ℕ) where
  pub all_kept_by : StepsKept has (codes "part") 0 line → StepsKept has (codes "step") 2 line
      → NodesKept has (codes "op") 2 line → NodesKept has (codes "node") 3 line → AllKept has line
  all_kept_by a b c e (step_of p m) named = elim named.1 [
    | inl leads ↦ a p m named.0 leads named.2
    | inr leads ↦ b p m named.0 leads named.2
  ]
  all_kept_by a b c e (node_of n) named = elim named.1 [
    | inl leads ↦ c n named.0 leads named.2
    | inr leads ↦ e n named.0 leads named.2
  ]

  pub lost_start : StepLost has (codes "part") 0 line → OneLost has line
  lost_start l = record { entry = step_of l.part l.number; named = (l.words, inl l.leads, l.named); lost = l.lost }

  pub lost_step : StepLost has (codes "step") 2 line → OneLost has line
  lost_step l = record { entry = step_of l.part l.number; named = (l.words, inr l.leads, l.named); lost = l.lost }

  pub lost_goal : NodeLost has (codes "op") 2 line → OneLost has line
  lost_goal l = record { entry = node_of l.number; named = (l.words, inl l.leads, l.named); lost = l.lost }

  pub lost_node : NodeLost has (codes "node") 3 line → OneLost has line
  lost_node l = record { entry = node_of l.number; named = (l.words, inr l.leads, l.named); lost = l.lost }
