-- Whole lines, and texts that begin with the same lines.
use Rattle.std.proofs.Common.{◌≡◌, ◌∙◌, ℕ, List, [], ◌∷◌, ◌++◌, refl, sym}
use Rattle.std.proofs.Common.{ap, subst, inl, inr, append-nil, append_assoc}
use Rattle.std.specs.Prelude.{codes}
use Rattle.station_graph.specs.Diagram.{Diagram}
use Rattle.station_equations.specs.EquationLines.{EquationLines}
use Rattle.station_equations.specs.EquationText.{switch_line, numbered, lines_of, text_of}
use Rattle.equation_text.specs.Reading.{front_text}
use Rattle.equation_text.specs.Words.{Lacks}
use Rattle.equation_text.specs.Faults.{EndsInLf, AreFormed, BeginsText, IsWrongAt}
use Rattle.equation_text.proofs.WordLemmas.{cut_once, not_cut}

-- ---- whole lines

pub whole_line : (l : List ℕ) → EndsInLf (l ++ 10 ∷ [])
whole_line l = inr (l, refl)

pub whole_more : (a b : List ℕ) → EndsInLf a → EndsInLf b → EndsInLf (a ++ b)
whole_more a b whole (inl none) = subst (λ (z : List ℕ). EndsInLf z) (sym (append-nil a) ∙ ap (λ (z : List ℕ). a ++ z)
    (sym none)) whole
whole_more a b whole (inr some) = inr (
  a ++ some.0,
  ap (λ (z : List ℕ). a ++ z) some.1 ∙ sym (append_assoc a some.0
      (10 ∷ [])),
)

pub whole_text : (ls : List (List ℕ)) → EndsInLf (text_of ls)
whole_text [] = inl refl
whole_text (l ∷ ls) = whole_more (l ++ codes "\n") (text_of ls) (whole_line l) (whole_text ls)

pub front_whole : (d : Diagram) → EndsInLf (front_text d)
front_whole d = whole_text (codes "equations" ∷ numbered (λ s path. switch_line s path ∷ []) d.switch_paths)

pub whole_four : (a b c e : List ℕ) → EndsInLf a → EndsInLf b → EndsInLf c → EndsInLf e
    → EndsInLf (a ++ (b ++ (c ++ e)))
whole_four a b c e p q r s = whole_more a (b ++ (c ++ e)) p (whole_more b (c ++ e) q (whole_more c e r s))

pub whole_five : (a b c e f : List ℕ) → EndsInLf a → EndsInLf b → EndsInLf c → EndsInLf e → EndsInLf f
    → EndsInLf (a ++ (b ++ (c ++ (e ++ f))))
whole_five a b c e f p q r s t = whole_more a (b ++ (c ++ (e ++ f))) p (whole_four b c e f q r s t)

no_line : (l rest : List ℕ) → l ++ 10 ∷ rest ≡ [] → ⊥
no_line [] rest is = cc is
no_line (b ∷ l) rest is = cc is

whole_behind : (l more b : List ℕ) → l ++ 10 ∷ more ≡ b ++ 10 ∷ [] → EndsInLf more
whole_behind [] more [] is = let e : more ≡ [] = cc is in inl e
whole_behind [] more (c ∷ b) is = let e : more ≡ b ++ 10 ∷ [] = cc is in inr (b, e)
whole_behind (x ∷ l) more [] is = let e : l ++ 10 ∷ more ≡ [] = cc is in absurd (no_line l more e)
whole_behind (x ∷ l) more (c ∷ b) is = let e : l ++ 10 ∷ more ≡ b ++ 10 ∷ [] = cc is in whole_behind l more b e

-- what follows a line of whole lines is whole lines
pub whole_rest : (text l more : List ℕ) → EndsInLf text → text ≡ l ++ 10 ∷ more → EndsInLf more
whole_rest text l more (inl none) is = absurd (no_line l more (sym is ∙ none))
whole_rest text l more (inr some) is = whole_behind l more some.0 (sym is ∙ some.1)

-- whole lines without LF are none
pub whole_none : (text : List ℕ) → EndsInLf text → Lacks 10 text → text ≡ []
whole_none text (inl none) lacks = none
whole_none text (inr some) lacks = absurd (not_cut 10 text some.0 [] lacks some.1)

-- ---- texts that begin with the same line

-- each line with which the first text begins the second begins with, and the second is empty where the first is
pub record Alike (first second : List ℕ) : Type 0 where
  pub line : (l rest : List ℕ) → Lacks 10 l → first ≡ l ++ 10 ∷ rest → (more : List ℕ) × (second ≡ l ++ 10 ∷ more)
  pub none : first ≡ [] → second ≡ []

carried : (k first second l rest : List ℕ) → Alike first second → Lacks 10 l → k ++ first ≡ l ++ 10 ∷ rest
    → (more : List ℕ) × (k ++ second ≡ l ++ 10 ∷ more)
carried [] first second l rest alike lacks is = alike.line l rest lacks is
carried (b ∷ k) first second [] rest alike lacks is =
    let here : b ≡ 10 = cc is in
    (k ++ second, ap (λ z. z ∷ (k ++ second)) here)
carried (b ∷ k) first second (c ∷ l) rest alike lacks is =
    let here : b ≡ c = cc is in
    let next : k ++ first ≡ l ++ 10 ∷ rest = cc is in
    let found = carried k first second l rest alike lacks.1 next in
    (found.0, ap (λ z. z ∷ (k ++ second)) here ∙ ap (λ (zs : List ℕ). c ∷ zs) found.1)

both_empty : (k first second : List ℕ) → Alike first second → k ++ first ≡ [] → k ++ second ≡ []
both_empty [] first second alike is = alike.none is
both_empty (b ∷ k) first second alike is = absurd (cc is)

pub alike_more : (k first second : List ℕ) → Alike first second → Alike (k ++ first) (k ++ second)
alike_more k first second alike = record {
  line = λ l rest lacks is. carried k first second l rest alike lacks is;
  none = both_empty k first second alike;
}

-- ---- a place at which nothing that can stand there follows

module _ (d : Diagram) (before left : List ℕ) where
  -- no text of the form goes on with the same line
  abbrev pub NothingFits : Type 0
  NothingFits = (e : EquationLines) → AreFormed d e → (more : List ℕ) → text_of (lines_of d e) ≡ before ++ more
      → Alike more left → ⊥

  pub wrong_at : EndsInLf before → BeginsText d before → NothingFits → IsWrongAt d before left
  wrong_at whole begins nothing = record {
    whole = whole;
    begins = begins;
    none = λ line rest lacks is other. nothing other.lines other.formed (line ++ 10 ∷ other.rest)
        (other.is ∙ append_assoc before (line ++ 10 ∷ []) other.rest
        ∙ ap (λ (z : List ℕ). before ++ z) (append_assoc line (10 ∷ []) other.rest))
        (record {
          line = λ l more lacks_l same.
              let cut = cut_once 10 line l other.rest more lacks lacks_l same in
              (rest, is ∙ ap (λ (z : List ℕ). z ++ 10 ∷ rest) cut.0);
          none = λ empty. absurd (no_line line other.rest empty);
        });
    not_all = λ empty e formed same. nothing e formed [] (sym same ∙ sym (append-nil before)) (record {
      line = λ l more lacks is. absurd (no_line l more (sym is));
      none = λ _. empty;
    });
  }
