use Rattle.std.proofs.Common.{◌≡◌, ◌∙◌, suc, List, ℕ, refl, sym, ap, subst}
use Rattle.ilk_base.specs.declared.input_fault.InputFault.{InputFault}
use Rattle.station_equations.specs.EquationLines.{EquationLines}
use Rattle.station_equations.specs.EquationText.{IsTextOf}
use Rattle.equation_text.specs.Defined.{AreThere}
use Rattle.ilk_base.specs.Inputs.{ForRefused}
use Rattle.equation_text.specs.Faults.{feeds, AreFormed, IsFirstFault}
use Rattle.equation_text.proofs.WordLemmas.{none_told, some_told, true_false}
use Rattle.equation_text.proofs.WholeLemmas.{there_of, parts_writable, equations_of}
use Rattle.equation_text.proofs.TopLemmas.{formed}
use Rattle.equation_text.proofs.ThereLemmas.{all_there}
use Rattle.equation_text.proofs.FirstFault.{first_of, stops_none, first_named, take_front}
use Rattle.equation_text.proofs.read.read_equations.Goals as goal

pub are_there-requires : goal.are_there-requires
are_there-requires c =
    let told = some_told c.in_ok-read.read _ _ c.in-Some.lines c.in-Some.is c.in_ok-read.ensures in
    parts_writable c.args.station.now c.in-Some.lines.parts.items told.parts_may

pub returns-then-not-are_there-clause-none : goal.returns-then-not-are_there-clause-none
returns-then-not-are_there-clause-none c =
    let told = some_told c.in_ok-read.read _ _ c.in-Some.lines c.in-Some.is c.in_ok-read.ensures in
    subst (λ (f : InputFault). ForRefused f (λ r. (e : EquationLines)
    → ¬ IsTextOf c.args.station.now c.args.bytes.now e)) (sym c.refused-then-not-are_there.ensures) (λ e h.
    let there = subst (λ (x : EquationLines). AreThere x.parts x.ops x.nodes) (told.once e h)
    (there_of e h.are.whole) in
    true_false (sym (c.are_there.ensures.1 there) ∙ c.if-not-are_there.true))

pub new-requires : goal.new-requires
new-requires c =
    let told = some_told c.in_ok-read.read _ _ c.in-Some.lines c.in-Some.is c.in_ok-read.ensures in
    (equations_of c.args.station.now c.args.bytes.now c.in-Some.lines.parts.items c.in-Some.lines.ops.items
    c.in-Some.lines.nodes.items told (c.are_there.ensures.0 c.if-not-are_there.false)).whole

pub returns-clause-ok : goal.returns-clause-ok
returns-clause-ok c =
    let told = some_told c.in_ok-read.read _ _ c.in-Some.lines c.in-Some.is c.in_ok-read.ensures in
    subst (λ (e : EquationLines). IsTextOf c.args.station.now c.args.bytes.now e) (sym c.new.ensures) (record {
      are =
          equations_of c.args.station.now c.args.bytes.now c.in-Some.lines.parts.items c.in-Some.lines.ops.items
          c.in-Some.lines.nodes.items told (c.are_there.ensures.0 c.if-not-are_there.false);
      is = told.is;
    })

pub returns-in_default-clause-none : goal.returns-in_default-clause-none
returns-in_default-clause-none c =
    let stop = none_told c.in_ok-read.read _ _ c.in_default.is c.in_ok-read.ensures in
    subst (λ (f : InputFault). ForRefused f (λ r. (e : EquationLines)
    → ¬ IsTextOf c.args.station.now c.args.bytes.now e)) (sym c.refused.ensures) (λ e h.
    let of_form = formed c.args.station.now c.part_count-parts.ensures.station e h.are c.args.bytes.now
    h.is c.requires in
    stops_none c.args.station.now c.args.bytes.now c.read_lines.new.left.text.now stop e of_form h.is)

pub returns-in_default-clause-line : goal.returns-in_default-clause-line
returns-in_default-clause-line c =
    let stop = none_told c.in_ok-read.read _ _ c.in_default.is c.in_ok-read.ensures in
    let front = take_front c.args.bytes.now stop.before c.read_lines.new.left.text.now _ stop.is refl in
    let wrong : c.line_behind-wrong.result ≡ suc (feeds stop.before) = c.line_behind-wrong.ensures ∙ ap (λ
    (z : List ℕ). suc (feeds z)) front in
    subst (λ (f : InputFault). ForRefused f (λ r. IsFirstFault c.args.station.now c.args.bytes.now r.line))
    (sym c.refused.ensures) (first_of c.args.station.now c.args.bytes.now c.read_lines.new.left.text.now stop
    c.line_behind-wrong.result c.least.result c.in_ok-undefined.undefined wrong c.in_ok-undefined.ensures
    c.least.ensures)

pub returns-then-not-are_there-clause-line : goal.returns-then-not-are_there-clause-line
returns-then-not-are_there-clause-line c =
    let told = some_told c.in_ok-read.read _ _ c.in-Some.lines c.in-Some.is c.in_ok-read.ensures in
    let lines : EquationLines = record {
      parts = c.in-Some.lines.parts.items;
      ops = c.in-Some.lines.ops.items;
      nodes = c.in-Some.lines.nodes.items;
    } in
    let of_form : AreFormed c.args.station.now lines = record {
      parts = told.parts_may;
      ops = told.ops_may;
      nodes = told.nodes_may;
    } in
    subst (λ (f : InputFault). ForRefused f (λ r. IsFirstFault c.args.station.now c.args.bytes.now r.line))
    (sym c.refused-then-not-are_there.ensures) (first_named c.args.station.now c.args.bytes.now lines of_form told.is
    c.line_of.result c.in_ok-undefined-2.undefined c.in_ok-undefined-2.ensures (λ none.
    let there = all_there c.args.station.now c.part_count-parts.ensures.station lines of_form c.args.bytes.now told.is
    none in
    true_false (sym (c.are_there.ensures.1 there) ∙ c.if-not-are_there.true)) c.line_of.ensures)
