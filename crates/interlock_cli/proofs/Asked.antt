-- One file after another.
use Rattle.std.proofs.Common.{◌≡◌, ◌≢◌, ◌∙◌, ◌⊎◌, ℕ, List, [], ◌∷◌, ◌++◌, take, refl, sym, ap, arith}
use Rattle.std.proofs.Common.{zero, suc, inl, inr}
use Rattle.std.specs.Prelude.{Result, Ok, Err, OnOk}
use Rattle.std.specs.Io.KnownBytes.{Keeps}
use Rattle.std.proofs.Math.Seq.{take-nil}
use Rattle.std.proofs.lemmas.List.{append-nil, append_assoc}
use Rattle.std.proofs.lemmas.List.Elements.{Contains-append_left, Contains-append_right}
use Rattle.interlock_cli.specs.Files.{Files, LeavesOthers, ReadsAll, Reads}
use Rattle.interlock_cli.proofs.Later.{keeps_both, keeps_itself}

-- no file is read
pub reads_none : (names : List (List ℕ)) (f : Files) → Reads names f f
reads_none names f = record {
  count = 0;
  asked = sym (append-nil f.asked);
  others = record { counts = λ n other. refl; kept = λ n. keeps_itself (f.held n) };
}

-- one file is
pub leaves_others : {name : List ℕ} {old new : Files} → ((n : List ℕ) → n ≢ name → new.faults n ≡ old.faults n) →
    ((n : List ℕ) → Keeps (old.held n) (new.held n)) → LeavesOthers (name ∷ []) old new
leaves_others counts kept = record {
  counts = λ n other. counts n (λ same. other (0, omega arith, sym same));
  kept = kept;
}

pub reads_asked : {name : List ℕ} {old new : Files} {memory : Type 0} →
    (memory × (new.asked ≡ old.asked)) ⊎ (new.asked ≡ old.asked ++ name ∷ []) → LeavesOthers (name ∷ []) old new →
    Reads (name ∷ []) old new
reads_asked {name} {old} {new} (inl (is, same)) others =
    record { count = 0; asked = same ∙ sym (append-nil old.asked); others = others }
reads_asked (inr asked) others = record { count = 1; asked = asked; others = others }

pub reads_given : {name : List ℕ} {old new : Files} {memory : Type 0} → ¬ memory →
    (memory × (new.asked ≡ old.asked)) ⊎ (new.asked ≡ old.asked ++ name ∷ []) → LeavesOthers (name ∷ []) old new →
    ReadsAll (name ∷ []) old new
reads_given given (inl (is, same)) others = absurd (given is)
reads_given given (inr asked) others = record { asked = asked; others = others }

-- what is given is no want of memory
pub never_both : {T E : Type 0} (value : T) (error : E) → Ok value ≡ Err error → ⊥
never_both value error is = cc is

-- what holds holds where a result is given
pub on_ok : {A E X : Type 0} (r : Result A E) → X → OnOk r X
on_ok (Ok value) is = is
on_ok (Err error) is = tt

-- what is left of the others, where more is named
leaves_more : (names more : List (List ℕ)) (old new : Files) → LeavesOthers names old new →
    LeavesOthers (names ++ more) old new
leaves_more names more old new others = record {
  counts = λ n other. others.counts n (λ there. other (Contains-append_left names more n there));
  kept = others.kept;
}

leaves_both : (xs ys : List (List ℕ)) (old between new : Files) → LeavesOthers xs old between →
    LeavesOthers ys between new → LeavesOthers (xs ++ ys) old new
leaves_both xs ys old between new first second = record {
  counts = λ n other.
      second.counts n (λ there. other (Contains-append_right xs ys n there))
      ∙ first.counts n (λ there. other (Contains-append_left xs ys n there));
  kept = λ n. keeps_both (old.held n) (between.held n) (new.held n) (first.kept n) (second.kept n);
}

-- the first of more, and no other
pub reads_first : {name : List ℕ} {names : List (List ℕ)} {old new : Files} → ReadsAll (name ∷ []) old new →
    Reads (name ∷ names) old new
reads_first {name} {names} {old} {new} reads = record {
  count = 1;
  asked = reads.asked;
  others = leaves_more (name ∷ []) names old new reads.others;
}

front_begun : (name : List ℕ) (names old new : List (List ℕ)) (k : ℕ) → new ≡ old ++ take k (name ∷ []) →
    (j : ℕ) × (new ≡ old ++ take j (name ∷ names))
front_begun name names old new zero asked = (0, asked)
front_begun name names old new (suc k) asked = (1, asked ∙ ap (λ l. old ++ name ∷ l) (take-nil k))

-- the first of more, or none
pub reads_begun : {name : List ℕ} {names : List (List ℕ)} {old new : Files} → Reads (name ∷ []) old new →
    Reads (name ∷ names) old new
reads_begun {name} {names} {old} {new} reads =
    let (count, asked) = front_begun name names old.asked new.asked reads.count reads.asked in
    record { count = count; asked = asked; others = leaves_more (name ∷ []) names old new reads.others }

-- the first, and then some of the others
pub reads_on : {name : List ℕ} {names : List (List ℕ)} {old between new : Files} →
    ReadsAll (name ∷ []) old between → Reads names between new → Reads (name ∷ names) old new
reads_on {name} {names} {old} {between} {new} first second = record {
  count = suc second.count;
  asked =
      second.asked ∙ ap (λ a. a ++ take second.count names) first.asked
      ∙ append_assoc old.asked (name ∷ []) (take second.count names);
  others = leaves_both (name ∷ []) names old between new first.others second.others;
}
