-- Lines that are stepped together, and what is put after them.
use Rattle.std.proofs.Common.{◌≡◌, ◌≢◌, ◌∙◌, ◌<◌, ◌*◌, ◌++◌, ◌∷◌, [], ℕ, List, Option, Some, None, zero, suc, length, refl, sym}
use Rattle.std.proofs.Common.{ap, subst, arith}
use Rattle.std.specs.Prelude.{IfNone, false}
use Rattle.std.proofs.lemmas.List.{length-append}
use Rattle.station_graph.specs.Diagram.{Diagram}
use Rattle.central_rules.specs.Meaning.{Meaning}
use Rattle.bay_protocol.specs.declared.values.Kept.{Kept}
use Rattle.bay_protocol.specs.State.{State, kept_of}
use Rattle.bay_protocol.specs.Output.{IsKeep}
use Rattle.node_session.specs.Requests.{IsRequest}
use Rattle.node_session.specs.declared.request.LineTrouble.{LineTrouble}
use Rattle.node_session.specs.declared.request.LineTrouble.TheVariants as t
use Rattle.node_store.specs.Device.{RisesBy}
use Rattle.stored_session.specs.Holding.{HoldsLines}
use Rattle.stored_session.specs.Stored.{StoredSession}
use Rattle.stored_session.specs.Batch.{AddsLine, StepsLines, StopsSo, StepsHeld}
use Rattle.stored_session.specs.declared.batch.Batch.{Batch}
use Rattle.stored_session.proofs.Changing.{left_alone}
use Rattle.stored_session.proofs.Holding.{holds_more}
use Rattle.stored_session.proofs.Along.{session_more, session_one}

-- a record is to be kept, of the same change told otherwise
pub keep_is : (before after old new : Kept) (keep : Option Kept) → before ≡ old → after ≡ new
    → IsKeep before after keep → IsKeep old new keep
keep_is before after old new keep first second is =
    subst (λ (k : Kept). IsKeep old k keep) second (subst (λ (k : Kept). IsKeep k after keep) first is)

pub not_none : (n : ℕ) → (n ≡ 0 → ⊥) → 0 < n
not_none zero some = absurd (some refl)
not_none (suc n) some = omega arith

pub never_some : (trouble : LineTrouble) → Some trouble ≡ None → ⊥
never_some trouble is = cc is

never_kept : (old : Kept) (keep : Option Kept) → IsKeep old old keep → keep ≡ None
never_kept old None is = refl
never_kept old (Some kept) is = absurd (is.1 refl)

module _ (m : Meaning) (d : Diagram) (b : ℕ) (old : State) where
  -- one line more
  pub steps_more : (held : List ℕ) (state : State) (mid line : List ℕ) (next : State) (past : List ℕ)
      (before after : Batch)
      → StepsLines m d b old held state mid before → AddsLine m d b state line next before after
      → HoldsLines mid (line ∷ []) past → StepsLines m d b old held next past after
  steps_more held state mid line next past before after steps adds first = record {
    lines = steps.lines ++ line ∷ [];
    cut = holds_more held steps.lines mid (line ∷ []) past steps.cut first;
    session = subst (λ (t : List ℕ). StoredSession m d b old (steps.lines ++ line ∷ []) t next) (sym adds.text_is)
        (session_more m d b old steps.lines before.text state (line ∷ []) adds.text next steps.session
        (session_one m d b state line adds.text next adds.answers));
    kept_is = adds.kept_is;
    counted = omega (arith, length-append steps.lines (line ∷ []), steps.counted, adds.count_is);
  }

  -- where a record is to be kept there are lines
  pub some_kept : (lines : List (List ℕ)) (text : List ℕ) (state : State) (keep : Option Kept)
      → StoredSession m d b old lines text state → IsKeep (kept_of old) (kept_of state) keep → keep ≢ None
      → 0 < length lines
  some_kept [] text state keep (nothing, same) is some =
      absurd (some (never_kept (kept_of old) keep
      (subst (λ (s : State). IsKeep (kept_of old) (kept_of s) keep) same is)))
  some_kept (line ∷ lines) text state keep session is some = omega arith

  -- where a byte is to be written there are lines
  pub some_text : (lines : List (List ℕ)) (text : List ℕ) (state : State) (n : ℕ)
      → StoredSession m d b old lines text state → n < length text → 0 < length lines
  some_text [] text state n (nothing, same) some = absurd (omega (arith, some, ap length nothing))
  some_text (line ∷ lines) text state n session some = omega arith

  -- the device's calls rise by no more than six for each line
  pub rises_lines : {D : Type 0} (calls : D → ℕ) (device new : D) (lines : List (List ℕ)) (text : List ℕ)
      (state : State) (keep : Option Kept)
      → StoredSession m d b old lines text state → IsKeep (kept_of old) (kept_of state) keep
      → IfNone keep (new ≡ device) → RisesBy 6 (calls device) (calls new)
      → RisesBy (6 * length lines) (calls device) (calls new)
  rises_lines calls device new [] text state keep (nothing, same) is alone rises =
      let left : new ≡ device = left_alone (kept_of old) (kept_of state) keep (new ≡ device) is alone
      (ap kept_of same) in
      record { grows = rises.grows; most = omega (arith, ap calls left) }
  rises_lines calls device new (line ∷ lines) text state keep session is alone rises =
      record { grows = rises.grows; most = omega (arith, rises.most) }

  -- no line was tried that is not stepped
  pub stepped : (held : List ℕ) (state : State) (past : List ℕ) (batch : Batch) → batch.stop ≡ None
      → StepsLines m d b old held state past batch → StepsHeld m d b old held state past batch
  stepped held state past batch none steps = record {
    state = state;
    past = past;
    steps = steps;
    stop = subst (λ (s : Option LineTrouble). StopsSo d b state past state past s) (sym none) (refl, refl);
  }

  stops_at : (state : State) (past : List ℕ) (new : State) (held_new line rest : List ℕ) (trouble : LineTrouble)
      → HoldsLines past (line ∷ []) rest → (trouble ≡ t.Refused → ¬ IsRequest d b false line)
      → StopsSo d b state past new held_new (Some trouble)
  stops_at state past new held_new line rest t.Memory first refused = tt
  stops_at state past new held_new line rest t.Refused first refused = (line, rest, first, refused refl)

  -- the next line stops it
  pub stopped : (held : List ℕ) (state : State) (past : List ℕ) (new : State) (held_new line rest : List ℕ)
      (before after : Batch) (trouble : LineTrouble)
      → StepsLines m d b old held state past before
      → after.text ≡ before.text → after.kept ≡ before.kept → after.count ≡ before.count
      → after.stop ≡ Some trouble
      → HoldsLines past (line ∷ []) rest → (trouble ≡ t.Refused → ¬ IsRequest d b false line)
      → StepsHeld m d b old held new held_new after
  stopped held state past new held_new line rest before after trouble steps text kept count stop first refused = record {
    state = state;
    past = past;
    steps = record {
      lines = steps.lines;
      cut = steps.cut;
      session = subst (λ (t : List ℕ). StoredSession m d b old steps.lines t state) (sym text) steps.session;
      kept_is = kept ∙ steps.kept_is;
      counted = steps.counted ∙ sym count;
    };
    stop = subst (λ (s : Option LineTrouble). StopsSo d b state past new held_new s) (sym stop)
        (stops_at state past new held_new line rest trouble first refused);
  }
