-- How a call ends that runs a stored session.
use Rattle.std.proofs.Common.{◌≡◌, ◌∙◌, ◌⊎◌, ⊎_elim, inl, inr, refl, sym, ap, subst, List, ℕ, [], Option, Some, None}
use Rattle.std.specs.Prelude.{IfSome}
use Rattle.std.specs.Io.KnownBytes.{Appends, Keeps}
use Rattle.node_session.specs.SessionEnds.{Streams}
use Rattle.release_compile.specs.Summaries.{judges}
use Rattle.stored_session.specs.View.{View}
use Rattle.stored_session.specs.declared.end.StoredEnd.TheVariants as s
use Rattle.stored_session.proofs.Whole.{goes_through}
use Rattle.interlock_cli.specs.Formats.{Drawing, BayOf}
use Rattle.interlock_cli.specs.Form.{File, Word, FormStops}
use Rattle.interlock_cli.specs.Commands.{Command, Node, form_of}
use Rattle.interlock_cli.specs.Ends.{Call, Ends, WroteLine, called}
use Rattle.interlock_cli.specs.Lines.{line_of, status_of}
use Rattle.interlock_cli.specs.StoredWords.{StoredWords}
use Rattle.interlock_cli.specs.StoredEnding.{stored_end, Stores, EndsStored, AnswersWords, IsAnsweredStored, IsCalm}
use Rattle.interlock_cli.specs.StoredEnding.{CompletesStored}
use Rattle.interlock_cli.specs.StoredEnding.{SaysAsRun}
use Rattle.interlock_cli.specs.declared.end.Outcome.TheVariants.{Done}
use Rattle.interlock_cli.specs.declared.end.End.{End}
use Rattle.interlock_cli.specs.declared.end.End.TheVariants as e
use Rattle.interlock_cli.specs.declared.status.Status.{Status}
use Rattle.interlock_cli.specs.declared.status.Status.TheVariants as t
use Rattle.interlock_cli.proofs.Stopping.{appends_nothing, keeps_same, unread_ends}
use Rattle.interlock_cli.proofs.Through.{completes, fails_memory, found_told}

module _ {D : Type 0} (v : View D) (w : StoredWords) (c : Call) (old : D) where
  -- the station or the bay is not accepted
  pub stops_before : (new : D) (end : End) →
      FormStops (form_of (Node w.station w.bay)) c.held c.reads_before c.reads_after end
      → c.after ≡ c.before → new ≡ old → EndsStored v w c old new end
  stops_before new end stops same untouched = inl (record {
    stops = stops;
    unwritten = subst (λ (s : Streams). Appends c.before.out s.out []) (sym same) (appends_nothing c.before.out);
    unasked = record {
      left = subst (λ (s : Streams). Keeps c.before.input s.input) (sym same) (keeps_same c.before.input);
      reads = ap (λ (s : Streams). s.reads) same;
    };
    untouched = untouched;
  })

  -- there is no memory for the words
  pub want : (err_old err_new : Option (List ℕ)) (err_before err_after : ℕ) → c.after ≡ c.before
      → WroteLine err_old err_new err_before err_after (line_of e.Memory)
      → AnswersWords v t.Memory w c old old err_old err_new err_before err_after
  want err_old err_new err_before err_after same line = record {
    end = e.Memory;
    status_is = refl;
    ends = stops_before old e.Memory (inl tt) same refl;
    line = line;
  }

  module _ (new : D) (answered : IsAnsweredStored v w c old) (calm : IsCalm v w c old new) where
    stops_memory : (end : End) → FormStops (form_of (Node w.station w.bay)) c.held c.reads_before c.reads_after end
        → end ≡ e.Memory
    stops_memory end (inl fails) =
        let (d, accepts) = answered.drawing in
        fails_memory c.held c.reads_before c.reads_after
        (File w.station) Drawing answered.content d end answered.told accepts calm.station fails
    stops_memory end (inr (d, given, inl fails)) =
        let (b, accepts) = answered.bay d (found_told c
        (File w.station) Drawing answered.content d answered.told given) in
        fails_memory c.held c.reads_before c.reads_after (Word w.bay) (BayOf d) w.bay b end refl accepts
        (λ rose. rose) fails
    stops_memory end (inr (d, given, inr (b, named, serves))) = absurd serves

    session_through : (end : End) (stores : Stores v w c old new end) → (stores.session ≡ s.Done) ⊎
        (stores.session ≡ s.Memory)
    session_through end stores =
        let d = stores.diagram in
        let b = stores.bay in
        let accepts = found_told c (File w.station) Drawing answered.content d answered.told stores.drawing in
        let names = found_told c (Word w.bay) (BayOf d) w.bay b refl stores.named in
        let goes_on = answered.goes_on d b accepts names in
        goes_through v (judges stores.stores.judging) d b c.before c.after old new answered.input answered.image
        answered.input_told goes_on.0 answered.image_told goes_on.1 calm.input calm.out calm.reads calm.writes
        stores.session stores.stores.ends

  -- where all is told, accepted and calm, the whole input is answered
  pub completes_stored : (new : D) (status : Status) (end : End) → status ≡ status_of end → EndsStored v w c old new end
      → CompletesStored v status w c old new
  completes_stored new status end is (inl before) = λ answered calm.
      inr (is ∙ ap status_of (stops_memory new answered calm end before.stops))
  completes_stored new status end is (inr stores) = λ answered calm. ⊎_elim
      (λ (done : stores.session ≡ s.Done).
      let written : end ≡ e.Written Done = stores.end_is ∙ ap stored_end done in
      inl (subst (λ (x : End). Stores v w c old new x) written stores, is ∙ ap status_of written))
      (λ (memory : stores.session ≡ s.Memory). inr (is ∙ ap status_of (stores.end_is ∙ ap stored_end memory)))
      (session_through new answered calm end stores)

-- a call that stops before it asks for any of the input or the device
pub stops_unasked : {D I O : Type 0} (v : View D) (w : StoredWords) (held : List ℕ → Option (List ℕ))
    (before after : List ℕ → ℕ) (old new : D) (input new_input : I) (out new_out : O) (at : I → O → Streams)
    (end : End) →
    FormStops (form_of (Node w.station w.bay)) held before after end →
    new_input ≡ input → new_out ≡ out → new ≡ old →
    EndsStored v w (called held before after (at input out) (at new_input new_out)) old new end
stops_unasked v w held before after old new input new_input out new_out at end stops unasked unwritten untouched =
    stops_before v w (called held before after (at input out) (at new_input new_out)) old new end stops
    (ap (λ i. at i new_out) unasked ∙ ap (λ o. at input o) unwritten) untouched

memory_used : t.Memory ≡ t.Usage → ⊥
memory_used is = cc is

-- what `run` says, where there is no memory for the words
pub wants_as_run : (command : Option Command) (c : Call) (err_old err_new : Option (List ℕ)) (err_before err_after : ℕ)
    → c.after ≡ c.before → WroteLine err_old err_new err_before err_after (line_of e.Memory)
    → SaysAsRun t.Memory command c err_old err_new err_before err_after
wants_as_run command c err_old err_new err_before err_after same line =
    let nothing = subst (λ (s : Streams). Appends c.before.out s.out []) (sym same) (appends_nothing c.before.out) in
    let left = subst (λ (s : Streams). Keeps c.before.input s.input) (sym same) (keeps_same c.before.input) in
    let ends : Ends command c e.Memory = unread_ends command c e.Memory nothing
    (record { left = left; reads = ap (λ (s : Streams). s.reads) same }) tt in
    record {
      answers = record { end = e.Memory; status_is = refl; ends = ends; line = line };
      usage = λ is. absurd (memory_used is);
      unnamed = λ none. inr refl;
      complete = completes c t.Memory command e.Memory refl ends;
    }

-- what holds of all words holds of these, if they are such
pub of_some : (o : Option StoredWords) (P : StoredWords → Type 0) → ((w : StoredWords) → P w) → IfSome o P
of_some None P all = tt
of_some (Some w) P all = all w
