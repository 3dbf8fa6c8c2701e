-- A form that ends before it writes or serves ends by none of the ends of a call that writes.
use Rattle.std.proofs.Common.{ℕ, List, [], Option, Some, None, inl, inr, refl, sym, subst}
use Rattle.std.specs.Io.KnownBytes.{Appends, Keeps}
use Rattle.std.proofs.lemmas.List.{append-nil}
use Rattle.interlock_cli.specs.Formats.{Format, Drawing, Elements, Positions, CertainPositions, OrderOf, LogOf, TripLogOf}
use Rattle.interlock_cli.specs.Formats.{BlocksOf, SwitchOf, BayOf, Refuses}
use Rattle.interlock_cli.specs.Form.{Form, Write, Take, Serve, FormSays, Gives, FormStops}
use Rattle.interlock_cli.specs.Commands.{Command, Make, form_of}
use Rattle.interlock_cli.specs.Ends.{Call, FormEnds, Wrote, Unasked, WordsUnread, Ends}
use Rattle.interlock_cli.specs.declared.end.Outcome.{Outcome}
use Rattle.interlock_cli.specs.declared.end.Output.{Output}
use Rattle.interlock_cli.specs.declared.end.End.{End}
use Rattle.interlock_cli.specs.declared.end.End.TheVariants as e

not_written : (f : Format) (v : List ℕ) (outcome : Outcome) → Refuses f v (e.Written outcome) → ⊥
not_written Drawing v outcome r = r
not_written Elements v outcome r = r
not_written (Positions d) v outcome r = r
not_written (CertainPositions d) v outcome r = r
not_written (OrderOf d) v outcome r = r
not_written (LogOf d) v outcome r = r
not_written (TripLogOf d) v outcome r = r
not_written (BlocksOf d) v outcome r = r
not_written (SwitchOf d) v outcome r = r
not_written (BayOf d) v outcome r = r

not_failed : (f : Format) (v : List ℕ) → Refuses f v e.WriteFault → ⊥
not_failed Drawing v r = r
not_failed Elements v r = r
not_failed (Positions d) v r = r
not_failed (CertainPositions d) v r = r
not_failed (OrderOf d) v r = r
not_failed (LogOf d) v r = r
not_failed (TripLogOf d) v r = r
not_failed (BlocksOf d) v r = r
not_failed (SwitchOf d) v r = r
not_failed (BayOf d) v r = r

not_usage : (f : Format) (v : List ℕ) → Refuses f v e.Usage → ⊥
not_usage Drawing v r = r
not_usage Elements v r = r
not_usage (Positions d) v r = r
not_usage (CertainPositions d) v r = r
not_usage (OrderOf d) v r = r
not_usage (LogOf d) v r = r
not_usage (TripLogOf d) v r = r
not_usage (BlocksOf d) v r = r
not_usage (SwitchOf d) v r = r
not_usage (BayOf d) v r = r

module _ (held : List ℕ → Option (List ℕ)) (before after : List ℕ → ℕ) where
  stops_unwritten : (form : Form) (outcome : Outcome) → FormStops form held before after (e.Written outcome) → ⊥
  stops_unwritten (Write writes) outcome stops = cc stops
  stops_unwritten (Serve d b) outcome stops = stops
  stops_unwritten (Take origin f next) outcome (inl (content, is, refuses)) = not_written f content outcome refuses
  stops_unwritten (Take origin f next) outcome (inr (value, given, stops)) = stops_unwritten (next value) outcome stops

  stops_unfailed : (form : Form) → FormStops form held before after e.WriteFault → ⊥
  stops_unfailed (Write writes) stops = cc stops
  stops_unfailed (Serve d b) stops = stops
  stops_unfailed (Take origin f next) (inl (content, is, refuses)) = not_failed f content refuses
  stops_unfailed (Take origin f next) (inr (value, given, stops)) = stops_unfailed (next value) stops

  stops_used : (form : Form) → FormStops form held before after e.Usage → ⊥
  stops_used (Write writes) stops = cc stops
  stops_used (Serve d b) stops = stops
  stops_used (Take origin f next) (inl (content, is, refuses)) = not_usage f content refuses
  stops_used (Take origin f next) (inr (value, given, stops)) = stops_used (next value) stops

pub appends_nothing : (a : Option (List ℕ)) → Appends a a []
appends_nothing None = tt
appends_nothing (Some x) = sym (append-nil x)

pub keeps_same : (a : Option (List ℕ)) → Keeps a a
keeps_same None = tt
keeps_same (Some x) = refl

-- a form that ends so before it writes or serves
pub stops_end : (form : Form) (x : Call) (end : End) → Appends x.before.out x.after.out [] →
    FormStops form x.held x.reads_before x.reads_after end → FormEnds form x end
stops_end form x (e.Written outcome) nothing stops =
    absurd (stops_unwritten x.held x.reads_before x.reads_after form outcome stops)
stops_end form x e.WriteFault nothing stops = absurd (stops_unfailed x.held x.reads_before x.reads_after form stops)
stops_end form x e.Usage nothing stops = absurd (stops_used x.held x.reads_before x.reads_after form stops)
stops_end form x end nothing stops = (stops, nothing)

-- what a form has to write was written, or a front of it
pub wrote_end : (form : Form) (x : Call) (output : Output) (end : End) → Gives form x.held output →
    Wrote output x.before.writes x.after.writes x.before.out x.after.out end → FormEnds form x end
wrote_end form x output (e.Written outcome) gives (is, wrote) =
    (output.text, subst (λ (o : Outcome). FormSays form x.held o output.text) (sym is) gives, wrote)
wrote_end form x output e.WriteFault gives (rose, front) = (rose, output.outcome, output.text, gives, front)
wrote_end form x output end gives wrote = absurd wrote

-- a command that ends for memory before it writes or serves
memory_stops : (held : List ℕ → Option (List ℕ)) (before after : List ℕ → ℕ) (command : Command) →
    FormStops (form_of command) held before after e.Memory
memory_stops held before after (Make number text) = refl
memory_stops held before after command = inl tt

-- a call whose words are not read as a command
pub unread_ends : (command : Option Command) (x : Call) (end : End) → Appends x.before.out x.after.out [] → Unasked x →
    WordsUnread command end → Ends command x end
unread_ends None x end nothing unasked unread = (unread, nothing)
unread_ends (Some command) x e.Usage nothing unasked unread = cc unread
unread_ends (Some command) x e.Memory nothing unasked unread =
    inl ((memory_stops x.held x.reads_before x.reads_after command, nothing), unasked)
unread_ends (Some command) x end nothing unasked unread = absurd unread
