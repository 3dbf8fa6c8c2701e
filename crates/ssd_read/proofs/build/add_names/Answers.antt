use Rattle.std.proofs.Common.{ap, ◌∙◌, arith, ◌<◌, ◌≤◌, length}
use Rattle.ssd_read.specs.Elements.{nowhere}
use Rattle.ssd_read.specs.Steps.{naming_step}
use Rattle.station_graph.specs.Diagram.{empty}
use Rattle.ssd_read.proofs.Stepped.{flat_next, flat_refused, flat_whole}
use Rattle.ssd_read.proofs.Items.{named_first, named_count, numbers_more, one_longer}
use Rattle.ssd_read.proofs.build.add_names.Goals as goal

pub loop-i-init : goal.loop-i-init
loop-i-init c = record {
  builds = named_first c.args.drawing.now c.args.builder.now c.requires.empty;
  count = ap length c.new-numbers.ensures.items;
  numbers = λ j h. absurd (omega arith);
}

pub loop-i-preserved : goal.loop-i-preserved
loop-i-preserved c =
    let l = c.loop-i in
    let inside : l.i < length c.args.drawing.now = omega arith in
    record {
      builds = flat_next empty l.builder c.add_name.new.builder naming_step c.args.drawing.now l.i nowhere inside
          l.invariant.builds c.in-Ok.ensures;
      count = one_longer l.numbers.items c.push.new.self.items l.i c.part_count.result l.invariant.count
          c.in_ok-push.ensures.items;
      numbers = numbers_more c.args.drawing.now l.numbers.items c.push.new.self.items l.i c.part_count.result
          l.invariant.count c.in_ok-push.ensures.items (c.part_count.ensures.count ∙ named_count c.args.drawing.now l.i
          l.builder l.invariant.builds) l.invariant.numbers;
    }

pub returns-in-Err-clause-named : goal.returns-in-Err-clause-named
returns-in-Err-clause-named c =
    let inside : c.loop-i.i < length c.args.drawing.now = omega arith in
    flat_refused empty c.loop-i.builder naming_step c.args.drawing.now c.loop-i.i nowhere c.in-Err.fault inside
    c.loop-i.invariant.builds c.in-Err.ensures

pub returns-clause-named : goal.returns-clause-named
returns-clause-named c =
    let past : length c.args.drawing.now ≤ c.loop-i.i = omega arith in
    flat_whole empty c.loop-i.builder naming_step c.args.drawing.now c.loop-i.i past c.loop-i.invariant.builds
