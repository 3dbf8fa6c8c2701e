-- The lines before the first that names what no line defines.
use Rattle.std.proofs.Common.{◌≡◌, ◌≢◌, ◌∙◌, ◌⊎◌, ℕ, ◌+◌, Bool, List, [], ◌∷◌, ◌++◌}
use Rattle.std.proofs.Common.{refl, sym, ap, subst, inl, inr, arith, append_assoc}
use Rattle.std.specs.Prelude.{◌==◌}
use Rattle.std.proofs.lemmas.List.{append_cancel_left}
use Rattle.std.proofs.lemmas.List.Sums.{sum_by-append}
use Rattle.std.proofs.Common.{cond, append-nil}
use Rattle.std.proofs.lemmas.Grind.{common_steps}
use Rattle.std.proofs.lemmas.Bool.Decides.{nat_tests}
use Rattle.equation_text.specs.Words.{Lacks}
use Rattle.equation_text.specs.Faults.{Entry, step_of, node_of, feeds, EndsInLf, IsLine, Names}
use Rattle.equation_text.specs.Faults.{NamesUndefined}
use Rattle.equation_text.specs.Entries.{IsEntry32, AreDefined, AllKept, OneLost, IsFirstUndefined, NoneUndefined}
use Rattle.equation_text.proofs.WordLemmas.{true_false, not_cut, cut_once}
use Rattle.equation_text.proofs.WholeText.{whole_line, whole_more}
use Rattle.equation_text.proofs.LineLemmas.{first_or_later}

pub feeds_more : (a b : List ℕ) → feeds (a ++ b) ≡ feeds a + feeds b
feeds_more a b = sum_by-append (λ (byte : ℕ). cond (byte == 10) 1 0) a b

lacks_count : (line : List ℕ) → Lacks 10 line → feeds line ≡ 0
lacks_count [] lacks = refl
lacks_count (b ∷ line) lacks = none b lacks.0 (lacks_count line lacks.1)
  where
    none : (c : ℕ) → c ≢ 10 → feeds line ≡ 0 → feeds (c ∷ line) ≡ 0
    none c differ rest = grind (arith, common_steps, nat_tests, differ, rest)

pub feeds_line : (before line : List ℕ) → Lacks 10 line → feeds (before ++ (line ++ 10 ∷ [])) ≡ feeds before + 1
feeds_line before line lacks =
    let one = feeds_more before (line ++ 10 ∷ []) in
    let two = feeds_more line (10 ∷ []) in
    let last : feeds (10 ∷ []) ≡ 1 = refl in
    omega (arith, one, two, last, lacks_count line lacks)

-- what a line names has small numbers
pub names_small : (line : List ℕ) (x : Entry) → Names line x → IsEntry32 x
names_small line (step_of p m) named = (
  elim named.1 [
    | inl leads ↦ leads.number.small
    | inr leads ↦ leads.number.small
  ],
  (named.2).number.small,
)
names_small line (node_of n) named = (named.2).number.small

module _ (text : List ℕ) (has : Entry → Bool) (defined : AreDefined text has) (line : List ℕ) where
  pub names_it : OneLost has line → NamesUndefined text line
  names_it lost = record {
    entry = lost.entry;
    named = lost.named;
    undefined = λ is. true_false (sym ((defined lost.entry (names_small line lost.entry lost.named)).1 is) ∙ lost.lost);
  }

  pub names_none : AllKept has line → NamesUndefined text line → ⊥
  names_none kept names = names.undefined ((defined names.entry (names_small line names.entry names.named)).0
      (kept names.entry names.named))

-- the first lines of the text were passed, and each line that names what no line defines stands behind them
pub record PassedSoFar (text left : List ℕ) (count : ℕ) : Type 0 where
  pub before : List ℕ
  pub whole : EndsInLf before
  pub is : text ≡ before ++ left
  pub count_is : count ≡ feeds before
  pub later : (b l : List ℕ) → IsLine text b l → NamesUndefined text l → (more : List ℕ) × (b ≡ before ++ more)

pub passed_first : (text : List ℕ) → PassedSoFar text text 0
passed_first text = record {
  before = [];
  whole = inl refl;
  is = refl;
  count_is = refl;
  later = λ b l stands names. (b, refl);
}

-- what is left of whole lines behind a part of them ends with LF, or is nothing
abbrev pub EndsWhole : List ℕ → Type 0
EndsWhole b = (b ≡ []) ⊎ ((c : List ℕ) × (b ≡ c ++ 10 ∷ []))

nil_right : (zs b : List ℕ) → zs ++ b ≡ [] → b ≡ []
nil_right [] b e = e
nil_right (z ∷ zs) b e = absurd (cc e)

rest_by : (x : ℕ) (a b c : List ℕ) → x ∷ (a ++ b) ≡ c ++ 10 ∷ [] → ((e : List ℕ) → a ++ b ≡ e ++ 10 ∷ [] → EndsWhole b)
    → EndsWhole b
rest_by x a b [] is more = let e : a ++ b ≡ [] = cc is in inl (nil_right a b e)
rest_by x a b (y ∷ c) is more = let e : a ++ b ≡ c ++ 10 ∷ [] = cc is in more c e

pub rest_whole : (a b : List ℕ) → EndsInLf (a ++ b) → EndsWhole b
rest_whole [] b (inl none) = inl none
rest_whole [] b (inr some) = inr some
rest_whole (x ∷ a) b (inl none) = absurd (cc none)
rest_whole (x ∷ a) b (inr some) = rest_by x a b some.0 some.1 (λ e same. rest_whole a b (inr (e, same)))

module _ (text left : List ℕ) (count : ℕ) (so_far : PassedSoFar text left count) where
  -- a line that stands behind the passed ones, in what is left
  in_left : (b l more : List ℕ) (stands : IsLine text b l) → b ≡ so_far.before ++ more → left ≡ more ++
      (l ++ 10 ∷ stands.rest)
  in_left b l more stands is = append_cancel_left so_far.before left (more ++ (l ++ 10 ∷ stands.rest)) (sym so_far.is
      ∙ stands.is ∙ ap (λ (z : List ℕ). z ++ (l ++ 10 ∷ stands.rest)) is ∙ append_assoc so_far.before more
      (l ++ 10 ∷ stands.rest))

  pub passed_next : (line rest : List ℕ) → Lacks 10 line → left ≡ line ++ 10 ∷ rest → (NamesUndefined text line → ⊥)
      → PassedSoFar text rest (count + 1)
  passed_next line rest lacks is fine = record {
    before = so_far.before ++ (line ++ 10 ∷ []);
    whole = whole_more so_far.before (line ++ 10 ∷ []) so_far.whole (whole_line line);
    is = so_far.is ∙ ap (λ (z : List ℕ). so_far.before ++ z) (is ∙ sym (append_assoc line (10 ∷ []) rest))
        ∙ sym (append_assoc so_far.before (line ++ 10 ∷ []) rest);
    count_is = omega (arith, so_far.count_is, feeds_line so_far.before line lacks);
    later = λ b l stands names.
        let old = so_far.later b l stands names in
        elim (rest_whole so_far.before old.0 (subst (λ (z : List ℕ). EndsInLf z) old.1 stands.whole)) [
          | inl none ↦ absurd (here b l stands names old.0 old.1 none)
          | inr some ↦ there b l stands names old.0 old.1 some.0 some.1
        ];
  }
    where
      here : (b l : List ℕ) (stands : IsLine text b l) → NamesUndefined text l → (more : List ℕ)
          → b ≡ so_far.before ++ more → more ≡ [] → ⊥
      here b l stands names more at none =
          let same = sym is ∙ in_left b l more stands at ∙ ap (λ (z : List ℕ). z ++ (l ++ 10 ∷ stands.rest)) none in
          let cut = cut_once 10 line l rest stands.rest lacks stands.lacks same in
          fine (subst (λ (z : List ℕ). NamesUndefined text z) (sym cut.0) names)

      there : (b l : List ℕ) (stands : IsLine text b l) → NamesUndefined text l → (more : List ℕ)
          → b ≡ so_far.before ++ more → (c : List ℕ) → more ≡ c ++ 10 ∷ []
          → (z : List ℕ) × (b ≡ (so_far.before ++ (line ++ 10 ∷ [])) ++ z)
      there b l stands names more at c some =
          let same = sym is ∙ in_left b l more stands at ∙ ap (λ (z : List ℕ). z ++ (l ++ 10 ∷ stands.rest)) some
          ∙ append_assoc c (10 ∷ []) (l ++ 10 ∷ stands.rest) in
          elim (first_or_later line rest c (l ++ 10 ∷ stands.rest) lacks same) [
            | inl equal ↦ (
              [],
              at ∙ ap (λ (z : List ℕ). so_far.before ++ z) (some ∙ ap (λ (z : List ℕ). z ++ 10 ∷ [])
                  (sym equal.0)) ∙ sym (append-nil (so_far.before ++ (line ++ 10 ∷ []))),
            )
            | inr later ↦ (
              later.between ++ 10 ∷ [],
              at ∙ ap (λ (z : List ℕ). so_far.before ++ z) (some ∙ ap (λ (z : List ℕ). z ++ 10 ∷ []) later.before
                  ∙ append_assoc line (10 ∷ later.between) (10 ∷ [])
                  ∙ sym (append_assoc line (10 ∷ []) (later.between ++ 10 ∷ [])))
                  ∙ sym (append_assoc so_far.before (line ++ 10 ∷ []) (later.between ++ 10 ∷ [])),
            )
          ]

  pub passed_found : (line rest : List ℕ) → Lacks 10 line → left ≡ line ++ 10 ∷ rest → NamesUndefined text line
      → IsFirstUndefined text count
  passed_found line rest lacks is names = record {
    before = so_far.before;
    line = line;
    stands = record {
      whole = so_far.whole;
      lacks = lacks;
      rest = rest;
      is = so_far.is ∙ ap (λ (z : List ℕ). so_far.before ++ z) is;
    };
    names = names;
    count_is = so_far.count_is;
    first = λ b l stands other.
        let later = so_far.later b l stands other in
        omega (arith, so_far.count_is, ap feeds later.1, feeds_more so_far.before later.0);
  }

  pub passed_all : Lacks 10 left → NoneUndefined text
  passed_all lacks b l stands names =
      let later = so_far.later b l stands names in
      not_cut 10 left (later.0 ++ l) stands.rest lacks (in_left b l later.0 stands later.1
      ∙ sym (append_assoc later.0 l (10 ∷ stands.rest)))
