use Rattle.std.proofs.Common.{length, subst, sym}
use Rattle.contraction.specs.Merging.{LabelsFit}
use Rattle.contraction.specs.Selecting.{IsLayout, IsLoadText}
use Rattle.contraction.specs.Composing.{IsLoadRowOfBoth}
use Rattle.contraction.proofs.MarkLemmas.{if_ok}
use Rattle.contraction.proofs.SelectionLemmas.{laid_on, layout_fits, first_labels_fit, second_labels_fit}
use Rattle.contraction.proofs.SelectionLemmas.{first_load_fits, second_load_fits, load_row_on}
use Rattle.contraction.proofs.value.Contraction.composed_load_row.Goals as goal

pub load_text-requires-clause-fits : goal.load_text-requires-clause-fits
load_text-requires-clause-fits c =
    let x = c.self.inside in
    let y = c.other.inside in
    let t = c.selection.inside in
    let laid : IsLayout x.kept y.kept c.args.selection.now.nodes t.layout =
    laid_on x y t c.args.self.now c.args.other.now c.args.selection.now c.self.invariant c.other.invariant
    c.selection.invariant c.self.view_is c.other.view_is c.selection.view_is c.requires.first c.requires.second in
    layout_fits x y c.self.invariant c.other.invariant c.args.selection.now.nodes t.layout laid

pub load_text-requires-clause-first : goal.load_text-requires-clause-first
load_text-requires-clause-first c =
    let x = c.self.inside in
    let y = c.other.inside in
    let t = c.selection.inside in
    let laid : IsLayout x.kept y.kept c.args.selection.now.nodes t.layout =
    laid_on x y t c.args.self.now c.args.other.now c.args.selection.now c.self.invariant c.other.invariant
    c.selection.invariant c.self.view_is c.other.view_is c.selection.view_is c.requires.first c.requires.second in
    first_load_fits x y c.self.invariant c.other.invariant c.args.selection.now.nodes t.layout laid

pub load_text-requires-clause-second : goal.load_text-requires-clause-second
load_text-requires-clause-second c =
    let x = c.self.inside in
    let y = c.other.inside in
    let t = c.selection.inside in
    let laid : IsLayout x.kept y.kept c.args.selection.now.nodes t.layout =
    laid_on x y t c.args.self.now c.args.other.now c.args.selection.now c.self.invariant c.other.invariant
    c.selection.invariant c.self.view_is c.other.view_is c.selection.view_is c.requires.first c.requires.second in
    second_load_fits x y c.self.invariant c.other.invariant c.args.selection.now.nodes t.layout laid

pub load_text-requires-clause-first_bonds : goal.load_text-requires-clause-first_bonds
load_text-requires-clause-first_bonds c =
    let x = c.self.inside in
    let y = c.other.inside in
    let t = c.selection.inside in
    let laid : IsLayout x.kept y.kept c.args.selection.now.nodes t.layout =
    laid_on x y t c.args.self.now c.args.other.now c.args.selection.now c.self.invariant c.other.invariant
    c.selection.invariant c.self.view_is c.other.view_is c.selection.view_is c.requires.first c.requires.second in
    subst (λ l. LabelsFit t.layout.union.first.items (length t.layout.union.kept.items) l)
    (sym c.numbers-x_bonds.ensures) (first_labels_fit x y c.self.invariant c.other.invariant
    c.args.selection.now.nodes t.layout laid x.bonded c.self.invariant.bonded)

pub load_text-requires-clause-second_bonds : goal.load_text-requires-clause-second_bonds
load_text-requires-clause-second_bonds c =
    let x = c.self.inside in
    let y = c.other.inside in
    let t = c.selection.inside in
    let laid : IsLayout x.kept y.kept c.args.selection.now.nodes t.layout =
    laid_on x y t c.args.self.now c.args.other.now c.args.selection.now c.self.invariant c.other.invariant
    c.selection.invariant c.self.view_is c.other.view_is c.selection.view_is c.requires.first c.requires.second in
    subst (λ l. LabelsFit t.layout.union.second.items (length t.layout.union.kept.items) l)
    (sym c.numbers-y_bonds.ensures) (second_labels_fit x y c.self.invariant c.other.invariant
    c.args.selection.now.nodes t.layout laid y.bonded c.other.invariant.bonded)

pub returns : goal.returns
returns c =
    let x = c.self.inside in
    let y = c.other.inside in
    let t = c.selection.inside in
    let a = c.numbers-x_bonds.result.now in
    let b = c.numbers-y_bonds.result.now in
    if_ok c.load_text.result (IsLoadText t.layout x.load y.load a b)
    (IsLoadRowOfBoth c.args.selection.now.nodes c.args.self.now c.args.other.now)
    (λ bytes h. load_row_on x y t c.args.self.now c.args.other.now c.args.selection.now c.self.invariant
    c.other.invariant c.selection.invariant c.self.view_is c.other.view_is c.selection.view_is c.requires.first
    c.requires.second c.requires.nodes bytes a b c.numbers-x_bonds.ensures c.numbers-y_bonds.ensures h)
    c.load_text.ensures
