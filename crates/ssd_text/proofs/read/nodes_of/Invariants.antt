use Rattle.std.proofs.Common.{◌≡◌, ◌+◌, List, Result, length}
use Rattle.std.specs.Prelude.{IsUtf8}
use Rattle.ssd_text.specs.declared.refusal.TextRefusal.{TextRefusal}
use Rattle.ssd_text.specs.Nesting.{Entry, HasOutcome, nothing}
use Rattle.ssd_text.specs.Seen.{nest_of}
use Rattle.ssd_text.proofs.read.nodes_of.Given as goal

abbrev pub invariant-loop-rest : goal.invariant-loop-rest
invariant-loop-rest l = record {
  text : IsUtf8 l.rest;
  place : l.at + length l.rest ≡ l.start + length l.bytes;
  outcome : (o : Result (List Entry) TextRefusal) → HasOutcome l.at (nest_of l.nest) l.rest o →
      HasOutcome l.start nothing l.bytes o;
}

abbrev pub decreases-loop-rest : goal.decreases-loop-rest
decreases-loop-rest l = length l.rest
