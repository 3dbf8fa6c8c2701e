-- What is found after a first read holds of what stood there before it.
use Rattle.std.proofs.Common.{◌≡◌, ◌≤◌, ℕ, List, Option, Some, None, refl, sym, ◌∙◌, arith, inl, inr}
use Rattle.std.specs.Prelude.{IfSome}
use Rattle.std.specs.Io.KnownBytes.{Keeps}
use Rattle.ilk_base.specs.Outside.{Rose}
use Rattle.interlock_cli.specs.Formats.{Format, Value}
use Rattle.interlock_cli.specs.Judging.{JudgeFails, Onward}
use Rattle.interlock_cli.specs.Form.{Form, Write, Take, Serve, Origin, File, Word, IsContent, Given, ReadRose, Fails}
use Rattle.interlock_cli.specs.Form.{FormSays, FormStops}
use Rattle.interlock_cli.specs.declared.end.Outcome.{Outcome}
use Rattle.interlock_cli.specs.declared.end.End.{End}
use Rattle.interlock_cli.specs.declared.end.End.TheVariants as e
use Rattle.interlock_cli.proofs.Cuts.{no_fault}

kept_content : (a b : Option (List ℕ)) (content : List ℕ) → Keeps a b → IfSome b (λ h. h ≡ content) →
    IfSome a (λ h. h ≡ content)
kept_content None b content k is = tt
kept_content (Some x) None content k is = absurd k
kept_content (Some x) (Some y) content k is = sym k ∙ is

rose_later : (a b c : ℕ) → a ≤ b → Rose b c → Rose a c
rose_later a b c le (inl lt) = inl (omega (arith, le, lt))
rose_later a b c le (inr top) = inr top

pub keeps_both : (a b c : Option (List ℕ)) → Keeps a b → Keeps b c → Keeps a c
keeps_both None b c first second = tt
keeps_both (Some x) None c first second = absurd first
keeps_both (Some x) (Some y) None first second = absurd second
keeps_both (Some x) (Some y) (Some z) first second = second ∙ first

pub keeps_itself : (a : Option (List ℕ)) → Keeps a a
keeps_itself None = tt
keeps_itself (Some x) = refl

-- after no read, and after two
pub onward_same : {held : List ℕ → Option (List ℕ)} {before : List ℕ → ℕ} → Onward held held before before
onward_same {held} = record { keeps = λ n. keeps_itself (held n); grows = λ n. omega arith }

pub onward_both : {held later last : List ℕ → Option (List ℕ)} {before between after : List ℕ → ℕ} →
    Onward held later before between → Onward later last between after → Onward held last before after
onward_both first second = record {
  keeps = λ n. keeps_both _ _ _ (first.keeps n) (second.keeps n);
  grows = λ n. omega (arith, first.grows n, second.grows n);
}

module _ {held later : List ℕ → Option (List ℕ)} {before between : List ℕ → ℕ}
    (onward : Onward held later before between) where
  content_later : (origin : Origin) (content : List ℕ) → IsContent later origin content → IsContent held origin content
  content_later (File name) content is = kept_content (held name) (later name) content (onward.keeps name) is
  content_later (Word word) content is = is

  pub given_later : (origin : Origin) (f : Format) (value : Value f) → Given later origin f value →
      Given held origin f value
  given_later origin f value (content, is, accepts) = (content, content_later origin content is, accepts)

  module _ (after : List ℕ → ℕ) where
    read_later : (origin : Origin) → ReadRose between after origin → ReadRose before after origin
    read_later (File name) rose = rose_later _ _ _ (onward.grows name) rose
    read_later (Word word) rose = rose

    pub fails_later : (origin : Origin) (f : Format) (end : End) → Fails later between after origin f end →
        Fails held before after origin f end
    fails_later origin f e.Memory fails = tt
    fails_later origin f e.ReadFault fails = read_later origin fails
    fails_later origin f end (content, is, refuses) = (content, content_later origin content is, refuses)

-- what a form says of what is found later it says of what stood there before
pub says_later : {held later : List ℕ → Option (List ℕ)} {before between : List ℕ → ℕ} →
    Onward held later before between → (form : Form) (outcome : Outcome) (text : List ℕ) →
    FormSays form later outcome text → FormSays form held outcome text
says_later onward (Write writes) outcome text says = says
says_later onward (Serve d b) outcome text says = says
says_later onward (Take origin f next) outcome text (value, given, says) =
    (value, given_later onward origin f value given, says_later onward (next value) outcome text says)

-- and so it stops
pub stops_later : {held later : List ℕ → Option (List ℕ)} {before between : List ℕ → ℕ} →
    Onward held later before between → (after : List ℕ → ℕ) (form : Form) (end : End) →
    FormStops form later between after end → FormStops form held before after end
stops_later onward after (Write writes) end stops = stops
stops_later onward after (Serve d b) end stops = stops
stops_later onward after (Take origin f next) end (inl fails) = inl (fails_later onward after origin f end fails)
stops_later onward after (Take origin f next) end (inr (value, given, stops)) =
    inr (value, given_later onward origin f value given, stops_later onward after (next value) end stops)

-- a word that is not accepted
pub word_fails : (held : List ℕ → Option (List ℕ)) (before after : List ℕ → ℕ) (f : Format) (word : List ℕ)
    (end : End) → JudgeFails f word end → Fails held before after (Word word) f end
word_fails held before after f word e.Memory fails = tt
word_fails held before after f word e.ReadFault fails = absurd (no_fault f word fails)
word_fails held before after f word end fails = (word, refl, fails)
