use Rattle.std.proofs.Common.{rules}
use Rattle.contraction.proofs.TextLemmas.{flags_seen}
use Rattle.contraction.proofs.layout.Layout.write_both_marks.Goals as goal

pub returns : goal.returns
returns c =
    let s = c.args.self.now in
    let wide = c.args.wide.now in
    let x = c.args.x.now in
    let y = c.args.y.now in
    record {
      first = c.write_marks.new.row;
      second = c.write_marks-2.new.row;
      firsts = flags_seen wide s.places.items s.union.first.items _ x.first.items s.union.second.items _ y.first.items
          c.write_marks.new.row c.deref.ensures.value c.deref-2.ensures.value c.write_marks.ensures;
      seconds = flags_seen wide s.places.items s.union.first.items _ x.second.items s.union.second.items _
          y.second.items c.write_marks-2.new.row c.deref-3.ensures.value c.deref-4.ensures.value
          c.write_marks-2.ensures;
      bytes = search rules;
    }
