use Rattle.std.proofs.Common.{List, refl, ◌∙◌}
use Rattle.ilk_base.specs.declared.words.Dbpos.{Dbpos}
use Rattle.ilk_base.specs.declared.words.Op.{Op}
use Rattle.ilk_base.specs.declared.words.Direction.TheVariants.{ToOff, ToOn}
use Rattle.station_graph.specs.Diagram.{Diagram}
use Rattle.double_points.specs.Words.{AreWords}
use Rattle.central_rules.specs.declared.verdict.Verdict.{Verdict}
use Rattle.central_rules.specs.declared.verdict.Verdict.TheVariants.{Release, Denied}
use Rattle.central_rules.specs.Readings.{Decides, IsReading}
use Rattle.release_texts.specs.CheckText.{ShowsVector}
use Rattle.release_texts.proofs.check.told.Goals as goal

-- a denial shows a vector
shown_of : (d : Diagram) (words : List Dbpos) (op : Op) (verdict : Verdict) → AreWords d words →
    Decides d (IsReading words) op verdict → ShowsVector d verdict
shown_of d words op Release are h = tt
shown_of d words op (Denied rule v) are h = h.0.whole ∙ are

pub returns-clause-opens : goal.returns-clause-opens
returns-clause-opens c = record {
  op = record { switch = c.args.switch; direction = ToOff };
  switch_is = refl;
  direction_is = refl;
  decides = c.requires.verdicts.opening;
}

pub returns-clause-closes : goal.returns-clause-closes
returns-clause-closes c = record {
  op = record { switch = c.args.switch; direction = ToOn };
  switch_is = refl;
  direction_is = refl;
  decides = c.requires.verdicts.closing;
}

pub returns-clause-opening : goal.returns-clause-opening
returns-clause-opening c = shown_of c.args.station.now c.args.readings.now
    (record { switch = c.args.switch; direction = ToOff }) c.args.verdicts.now.opening c.requires.words
    c.requires.verdicts.opening

pub returns-clause-closing : goal.returns-clause-closing
returns-clause-closing c = shown_of c.args.station.now c.args.readings.now
    (record { switch = c.args.switch; direction = ToOn }) c.args.verdicts.now.closing c.requires.words
    c.requires.verdicts.closing
