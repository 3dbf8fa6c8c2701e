use Rattle.contraction.specs.Selecting.{IsLayout, IsGapText}
use Rattle.contraction.specs.Composing.{IsGapRowOfBoth}
use Rattle.contraction.proofs.SelectionLemmas.{laid_on, layout_fits, first_gap_fits, second_gap_fits, gap_row_on}
use Rattle.contraction.proofs.MarkLemmas.{if_ok}
use Rattle.contraction.proofs.value.Contraction.composed_gap_row.Goals as goal

pub gap_text-requires-clause-fits : goal.gap_text-requires-clause-fits
gap_text-requires-clause-fits c =
    let x = c.self.inside in
    let y = c.other.inside in
    let t = c.selection.inside in
    let laid : IsLayout x.kept y.kept c.args.selection.now.nodes t.layout =
    laid_on x y t c.args.self.now c.args.other.now c.args.selection.now c.self.invariant c.other.invariant
    c.selection.invariant c.self.view_is c.other.view_is c.selection.view_is c.requires.first c.requires.second in
    layout_fits x y c.self.invariant c.other.invariant c.args.selection.now.nodes t.layout laid

pub gap_text-requires-clause-first : goal.gap_text-requires-clause-first
gap_text-requires-clause-first c =
    let x = c.self.inside in
    let y = c.other.inside in
    let t = c.selection.inside in
    let laid : IsLayout x.kept y.kept c.args.selection.now.nodes t.layout =
    laid_on x y t c.args.self.now c.args.other.now c.args.selection.now c.self.invariant c.other.invariant
    c.selection.invariant c.self.view_is c.other.view_is c.selection.view_is c.requires.first c.requires.second in
    first_gap_fits x y c.self.invariant c.other.invariant c.args.selection.now.nodes t.layout laid

pub gap_text-requires-clause-second : goal.gap_text-requires-clause-second
gap_text-requires-clause-second c =
    let x = c.self.inside in
    let y = c.other.inside in
    let t = c.selection.inside in
    let laid : IsLayout x.kept y.kept c.args.selection.now.nodes t.layout =
    laid_on x y t c.args.self.now c.args.other.now c.args.selection.now c.self.invariant c.other.invariant
    c.selection.invariant c.self.view_is c.other.view_is c.selection.view_is c.requires.first c.requires.second in
    second_gap_fits x y c.self.invariant c.other.invariant c.args.selection.now.nodes t.layout laid

pub returns : goal.returns
returns c =
    let x = c.self.inside in
    let y = c.other.inside in
    let t = c.selection.inside in
    if_ok c.gap_text.result (IsGapText t.layout x.gap y.gap)
    (IsGapRowOfBoth c.args.selection.now.nodes c.args.self.now c.args.other.now)
    (λ bytes h. gap_row_on x y t c.args.self.now c.args.other.now c.args.selection.now c.self.invariant
    c.other.invariant c.selection.invariant c.self.view_is c.other.view_is c.selection.view_is c.requires.first
    c.requires.second c.requires.nodes bytes h) c.gap_text.ensures
