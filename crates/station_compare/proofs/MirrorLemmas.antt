-- The comparison turned round.
use Rattle.std.proofs.Common.{Bool, List, Option, Some, None}
use Rattle.std.specs.Prelude.{option_map}
use Rattle.ilk_base.specs.declared.words.Op.{Op}
use Rattle.ilk_base.specs.declared.words.Rule.{Rule}
use Rattle.station_graph.specs.Diagram.{Diagram}
use Rattle.station_changes.specs.declared.change.Change.{Change}
use Rattle.station_changes.specs.declared.change.Change.TheVariants.{Stricter, Looser}
use Rattle.station_changes.specs.Compare.{IsChange, IsPart, Witness, mirrored}
use Rattle.station_changes.proofs.MirrorLemmas.{joint_back, isolated_back, change_back}
use Rattle.station_compare.specs.declared.word.Word.{Word}
use Rattle.station_compare.specs.declared.word.Word.TheVariants.{Same, Kept, Changed}
use Rattle.station_compare.specs.Words.{ShowsSome, IsWord, turned}

some_back : (o n : Diagram) (a b : Op) (u v : List Bool) → ShowsSome o n a b u v → ShowsSome n o b a v u
some_back o n a b u v s = record {
  change = mirrored s.change;
  rule = s.rule;
  joint = joint_back o n u v s.joint;
  shows = change_back o n a b s.change s.rule u v s.shows;
}

pub word_back : (o n : Diagram) (a b : Op) (w : Word) → IsWord o n a b w → IsWord n o b a w
word_back o n a b Same h = λ u v s. h v u (some_back n o b a u v s)
word_back o n a b Kept h = record {
  old = h.new;
  new = h.old;
  shows = some_back o n a b h.old h.new h.shows;
  none_isolated = λ u v s iso. h.none_isolated v u (some_back n o b a u v s) (isolated_back n o u v iso);
}
word_back o n a b Changed h = record {
  old = h.new;
  new = h.old;
  shows = some_back o n a b h.old h.new h.shows;
  isolated = isolated_back o n h.old h.new h.isolated;
}

-- a change is one of two, each the mirror of the other
mirror_back : (o n : Diagram) (a b : Op) (change : Change) (rule : Rule) (u v : List Bool) →
    IsChange n o b a (mirrored change) rule u v → IsChange o n a b change rule v u
mirror_back o n a b Stricter rule u v h = change_back n o b a Looser rule u v h
mirror_back o n a b Looser rule u v h = change_back n o b a Stricter rule u v h

pub part_back : (o n : Diagram) (a b : Op) (change : Change) (rule : Rule) (found : Option Witness) →
    IsPart o n a b change rule found → IsPart n o b a (mirrored change) rule (option_map turned found)
part_back o n a b change rule None none =
    λ u v joint h. none v u (joint_back n o u v joint) (mirror_back o n a b change rule u v h)
part_back o n a b change rule (Some w) shown = record {
  joint = joint_back o n w.old w.new shown.joint;
  shows = change_back o n a b change rule w.old w.new shown.shows;
  isolated = λ e. isolated_back o n w.old w.new (shown.isolated e);
  none_isolated = λ e u v joint iso h.
      shown.none_isolated e v u (joint_back n o u v joint) (isolated_back n o u v iso)
      (mirror_back o n a b change rule u v h);
}
