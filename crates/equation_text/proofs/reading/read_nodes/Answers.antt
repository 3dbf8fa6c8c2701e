use Rattle.std.proofs.Common.{◌∙◌, ◌++◌, ◌∷◌, List, ℕ, length, sym, ap, arith}
use Rattle.std.proofs.lemmas.List.{length_push}
use Rattle.station_equations.specs.EquationLines.{NodeLine}
use Rattle.station_equations.specs.EquationText.{node_line}
use Rattle.equation_text.proofs.WordLemmas.{not_cut, cut_said, none_told, some_told}
use Rattle.equation_text.proofs.OnceLemmas.{node_lacks}
use Rattle.equation_text.proofs.ReadLoops.{node_unread, nodes_push, line_next, writable}
use Rattle.equation_text.proofs.reading.read_nodes.Goals as goal

pub returns-in_default-cut_line : goal.returns-in_default-cut_line
returns-in_default-cut_line c =
    let inv = c.loop-rest.invariant in
    record {
      nodes = c.loop-rest.nodes.items;
      may = record { few = omega (arith, inv.few); each = inv.each };
      passed = inv.sound;
      none = λ x rest may is. not_cut 10 c.loop-rest.left.text.now (node_line (length c.loop-rest.nodes.items) x) rest
          c.in_default-cut_line.ensures.none is;
      no_end = c.in_default.ensures.none;
    }

pub returns-in_default-found : goal.returns-in_default-found
returns-in_default-found c =
    let inv = c.loop-rest.invariant in
    let number = ap (λ (ns : List NodeLine). length ns) (sym c.deref.ensures.value)
    ∙ sym c.in_ok-number.ensures.number in
    record {
      nodes = c.loop-rest.nodes.items;
      may = record { few = omega (arith, inv.few); each = inv.each };
      passed = inv.sound;
      none = λ x rest may is.
          let line = cut_said 10 c.loop-rest.left.text.now c.in-Some-cut_line.line.now (node_line
          (length c.loop-rest.nodes.items) x) c.in-Some-cut_line.rest.now rest c.in-Some-cut_line.ensures.some
          (node_lacks (length c.loop-rest.nodes.items) x (omega (arith, number, c.in_ok-number.ensures.small))
          (writable c.args.switches (length c.loop-rest.nodes.items) c.args.counts.now x (omega
          (arith, c.ranges.switches.fits)) c.requires may)) is in
          node_unread c.args.switches c.args.counts.now (length c.loop-rest.nodes.items) c.in_ok-number.number
          c.in-Some-cut_line.line.now x may line.0 number
          (none_told c.in_ok-found.found _ _ c.in_default-found.is c.in_ok-found.ensures);
      no_end = c.in_default.ensures.none;
    }

pub loop-rest-preserved : goal.loop-rest-preserved
loop-rest-preserved c =
    let inv = c.loop-rest.invariant in
    let got = some_told c.in_ok-found.found _ _ c.in-Some-found.node c.in-Some-found.is c.in_ok-found.ensures in
    record {
      few = omega (
        arith,
        ap length c.in_ok-push.ensures.items,
        length_push c.loop-rest.nodes.items c.in-Some-found.node,
        ap
            (λ (ns : List NodeLine). length ns) c.deref.ensures.value,
        c.in_ok-number.ensures.number,
        c.in_ok-number.ensures.small,
      );
      each = nodes_push c.args.switches c.args.counts.now c.in_ok-number.number c.loop-rest.nodes.items
          c.push.new.self.items c.in-Some-found.node c.in_ok-push.ensures.items (ap (λ
          (ns : List NodeLine). length ns) (sym c.deref.ensures.value)
          ∙ sym c.in_ok-number.ensures.number) inv.each got.may;
      sound = line_next node_line c.loop-rest.nodes.items c.push.new.self.items c.in-Some-found.node
          c.in_ok-number.number c.args.left.now.text.now c.loop-rest.left.text.now c.in-Some-cut_line.rest.now
          c.in_ok-push.ensures.items (ap (λ (ns : List NodeLine). length ns) (sym c.deref.ensures.value)
          ∙ sym c.in_ok-number.ensures.number) inv.sound
          (c.in-Some-cut_line.ensures.some.is ∙ ap (λ (z : List ℕ). z ++ 10 ∷ c.in-Some-cut_line.rest.now) got.is);
    }
