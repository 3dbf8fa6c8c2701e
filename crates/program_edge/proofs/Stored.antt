-- What `run_stored` says of its words is said of the call over the system.
use Rattle.std.proofs.Common.{◌≡◌, ◌≢◌, ◌∙◌, ℕ, List, Option, Some, None, refl, sym, subst, inl, inr}
use Rattle.std.specs.Prelude.{IfSome}
use Rattle.stored_session.specs.View.{View}
use Rattle.stored_session.specs.declared.end.StoredEnd.{StoredEnd}
use Rattle.stored_session.specs.declared.end.StoredEnd.TheVariants as s
use Rattle.interlock_cli.specs.Form.{FormStops}
use Rattle.interlock_cli.specs.Commands.{Node, form_of, command_of}
use Rattle.interlock_cli.specs.Ends.{Call}
use Rattle.interlock_cli.specs.Lines.{status_of}
use Rattle.interlock_cli.specs.StoredWords.{StoredWords, stored_of}
use Rattle.interlock_cli.specs.StoredEnding.{AnswersWords, EndsStored, SaysAsRun, stored_end}
use Rattle.program_edge.specs.Says.{SaysWords}
use Rattle.interlock_cli.specs.declared.end.End.{End}
use Rattle.interlock_cli.specs.declared.end.End.TheVariants as e
use Rattle.interlock_cli.specs.declared.end.Outcome.TheVariants as o
use Rattle.interlock_cli.specs.declared.status.Status.{Status}
use Rattle.interlock_cli.specs.declared.status.Status.TheVariants as t

usage_only : (end : End) → status_of end ≡ t.Usage → end ≡ e.Usage
usage_only e.Usage is = refl
usage_only (e.Written o.Done) is = absurd (cc is)
usage_only (e.Written o.Differs) is = absurd (cc is)
usage_only (e.Written (o.Premise number line)) is = absurd (cc is)
usage_only (e.Written (o.TooWide bay)) is = absurd (cc is)
usage_only e.ReadFault is = absurd (cc is)
usage_only e.WriteFault is = absurd (cc is)
usage_only (e.Station refusal) is = absurd (cc is)
usage_only (e.Many part step) is = absurd (cc is)
usage_only (e.Wide bay) is = absurd (cc is)
usage_only (e.Input refusal) is = absurd (cc is)
usage_only e.Long is = absurd (cc is)
usage_only e.Memory is = absurd (cc is)

no_stop : (station bay : List ℕ) (held : List ℕ → Option (List ℕ)) (before after : List ℕ → ℕ) →
    FormStops (form_of (Node station bay)) held before after e.Usage → ⊥
no_stop station bay held before after (inl fails) = fails.2
no_stop station bay held before after (inr rest) = elim rest.2 [ inl fails ↦ fails.2 | inr more ↦ more.2 ]

no_end : (end : StoredEnd) → e.Usage ≡ stored_end end → ⊥
no_end s.Done is = cc is
no_end s.Unfit is = cc is
no_end (s.Refused line) is = cc is
no_end s.Long is = cc is
no_end s.ReadFault is = cc is
no_end s.WriteFault is = cc is
no_end s.Memory is = cc is

never_usage : {D : Type 0} (v : View D) (status : Status) (w : StoredWords) (c : Call) (old new : D)
    (err_old err_new : Option (List ℕ)) (err_before err_after : ℕ) →
    AnswersWords v status w c old new err_old err_new err_before err_after → status ≢ t.Usage
never_usage v status w c old new err_old err_new err_before err_after answers is =
    let end : answers.end ≡ e.Usage = usage_only answers.end (sym answers.status_is ∙ is) in
    elim (subst (EndsStored v w c old new) end answers.ends) [
      | inl stops ↦ no_stop w.station w.bay c.held c.reads_before c.reads_after stops.stops
      | inr stores ↦ no_end stores.session stores.end_is
    ]

stored_not_usage : {D : Type 0} (v : View D) (status : Status) (c : Call) (old new : D)
    (err_old err_new : Option (List ℕ)) (err_before err_after : ℕ) (named : Option StoredWords) →
    IfSome named (λ w. AnswersWords v status w c old new err_old err_new err_before err_after) → (w : StoredWords) →
    named ≡ Some w → status ≢ t.Usage
stored_not_usage v status c old new err_old err_new err_before err_after None answers w is = absurd (cc is)
stored_not_usage v status c old new err_old err_new err_before err_after (Some x) answers w is =
    never_usage v status x c old new err_old err_new err_before err_after answers

pub says_words : {D : Type 0} (v : View D) (status : Status) (words : List (List ℕ)) (call : Call) (old new : D)
    (err_old err_new : Option (List ℕ)) (err_before err_after : ℕ) →
    (stored_of words ≡ None → SaysAsRun status (command_of words) call err_old err_new err_before err_after) →
    IfSome (stored_of words) (λ w. AnswersWords v status w call old new err_old err_new err_before err_after) →
    ((name : List ℕ) → call.held name ≡ None) →
    SaysWords status words call.before call.after err_old err_new err_before err_after
says_words v status words call old new err_old err_new err_before err_after says stored files = inl (record {
  call = call;
  files = files;
  before_is = refl;
  after_is = refl;
  says = says;
  stored = stored_not_usage v status call old new err_old err_new err_before err_after (stored_of words) stored;
})
