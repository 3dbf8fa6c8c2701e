-- An input of lines that are not refused is answered to its end.
use Rattle.std.proofs.Common.{◌≡◌, ◌∙◌, refl, sym, ap, arith, ℕ, List, length, Option, Some, inl, inr, ◌⊎◌}
use Rattle.std.specs.Prelude.{IfSome, slice_get}
use Rattle.std.specs.Str.Lines.{lines}
use Rattle.ilk_base.specs.Outside.{Rose}
use Rattle.station_graph.specs.Diagram.{Diagram}
use Rattle.central_rules.specs.Meaning.{Meaning}
use Rattle.node_session.specs.declared.end.SessionEnd.{SessionEnd}
use Rattle.node_session.specs.declared.end.SessionEnd.TheVariants as e
use Rattle.node_session.specs.SessionEnds.{Streams, IsRefusedLine, SessionEnds, IsInput}

told_is : (a : Option (List ℕ)) (content other : List ℕ) → a ≡ Some content → IfSome a (λ known. known ≡ other) →
    other ≡ content
told_is a content other is told = let known = rw is at told in sym known

never_refused : (d : Diagram) (b : ℕ) (content other : List ℕ) (count : ℕ) → other ≡ content → IsInput d b content →
    IsRefusedLine d b other count → ⊥
never_refused d b content other count same input refused =
    refused.refused (input.each count refused.line (ap (λ c. slice_get (lines c) count) (sym same) ∙ refused.stands))

pub goes_through : (m : Meaning) (d : Diagram) (b : ℕ) (before after : Streams) (end : SessionEnd) (content : List ℕ) →
    SessionEnds m d b before after end → before.input ≡ Some content → IsInput d b content
    → ¬ Rose before.reads after.reads → ¬ Rose before.writes after.writes → (end ≡ e.Done) ⊎ (end ≡ e.Memory)
goes_through m d b before after e.Done content ends told input reads writes = inl refl
goes_through m d b before after (e.Refused line) content (count, is, stopped) told input reads writes =
    absurd (never_refused d b content stopped.content count
    (told_is before.input content stopped.content told stopped.takes.told) input stopped.refused)
goes_through m d b before after e.Long content long told input reads writes =
    let few = input.few in
    let same = told_is before.input content long.content told long.takes.told in
    absurd (omega (arith, few, long.more, ap (λ c. length (lines c)) same))
goes_through m d b before after e.ReadFault content ends told input reads writes = absurd (reads ends.rose)
goes_through m d b before after e.WriteFault content ends told input reads writes = absurd (writes ends.rose)
goes_through m d b before after e.Memory content ends told input reads writes = inr refl
