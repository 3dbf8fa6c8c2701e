-- What a form says, and how it stops, that takes a content which is known.
use Rattle.std.proofs.Common.{◌≡◌, ◌↔◌, ◌⊎◌, ◌∙◌, ℕ, List, Option, Some, IfSome, inl, inr, refl, sym, subst, ⊎_elim}
use Rattle.ilk_base.specs.declared.words.InputRefusal.{InputRefusal}
use Rattle.interlock_cli.specs.Formats.{Format, Value, AcceptsAs, Refuses}
use Rattle.interlock_cli.specs.Form.{Form, Origin, Take, File, Word, IsContent, Refused, FormSays, FormStops}
use Rattle.interlock_cli.specs.declared.end.Outcome.{Outcome}
use Rattle.interlock_cli.specs.declared.end.End.{End}
use Rattle.interlock_cli.specs.declared.end.End.TheVariants.{Input}
use Rattle.page_commands.specs.Answering.{Held}

-- the content of the origin is this
abbrev pub IsAt : Held → Origin → List ℕ → Type 0
IsAt held (File name) content = held name ≡ Some content
IsAt held (Word word) content = word ≡ content

-- and no other
only : (held : Held) (origin : Origin) (content c : List ℕ) → IsAt held origin content → IsContent held origin c →
    content ≡ c
only held (File name) content c at is = subst (λ (h : Option (List ℕ)). IfSome h (λ x. x ≡ c)) at is
only held (Word word) content c at is = sym at ∙ is

pub itself : (held : Held) (origin : Origin) (content : List ℕ) → IsAt held origin content → IsContent held origin content
itself held (File name) content at = subst (λ (h : Option (List ℕ)). IfSome h (λ x. x ≡ content)) (sym at) refl
itself held (Word word) content at = at

pub refused_content : (held : Held) (origin : Origin) (content : List ℕ) → IsAt held origin content → (f : Format)
    (end : End) → Refused held origin f end → Refuses f content end
refused_content held origin content at f end b =
    subst (λ (c : List ℕ). Refuses f c end) (sym (only held origin content b.0 at b.1)) b.2

module _ (held : Held) (origin : Origin) (content : List ℕ) (at : IsAt held origin content) (f : Format)
    (next : Value f → Form) where
  pub taken_says : (outcome : Outcome) (text : List ℕ) → FormSays (Take origin f next) held outcome text
      ↔ ((value : Value f) × AcceptsAs f content value × FormSays (next value) held outcome text)
  taken_says outcome text = (
    λ s. (s.0, subst (λ (c : List ℕ). AcceptsAs f c s.0) (sym (only held origin content s.1.0 at s.1.1)) s.1.2, s.2),
    λ s. (s.0, (content, itself held origin content at, s.1), s.2),
  )

  pub taken_stops : (before after : List ℕ → ℕ) (r : InputRefusal) →
      FormStops (Take origin f next) held before after (Input r)
      ↔ (Refuses f content (Input r)
      ⊎ ((value : Value f) × AcceptsAs f content value × FormStops (next value) held before after (Input r)))
  taken_stops before after r = (
    λ s. ⊎_elim
        (λ b. inl (subst (λ (c : List ℕ). Refuses f c (Input r)) (sym (only held origin content b.0 at b.1)) b.2))
        (λ g. inr (g.0, subst (λ (c : List ℕ). AcceptsAs f c g.0) (sym (only held origin content g.1.0 at g.1.1)) g.1.2, g.2)) s,
    λ s. ⊎_elim (λ b. inl (content, itself held origin content at, b))
        (λ g. inr (g.0, (content, itself held origin content at, g.1), g.2)) s,
  )
