use Rattle.std.proofs.Common.{◌∙◌, ap}
use Rattle.std.specs.List.{position}
use Rattle.std.specs.Str.{bytes_eq}
use Rattle.station_graph.proofs.PathLemmas.{found_text, none_text}
use Rattle.station_graph.proofs.paths.Paths.find.Goals as goal

pub returns-clause-found : goal.returns-clause-found
returns-clause-found c = found_text c.args.self.now c.args.path.now c.copied.result (c.copied.ensures
    ∙ (c.get.ensures.value ∙ (c.self.invariant c.args.path.now ∙ ap (position (bytes_eq c.args.path.now))
    c.self.view_is)))

pub returns-clause-none : goal.returns-clause-none
returns-clause-none c = none_text c.args.self.now c.args.path.now c.copied.result (c.copied.ensures
    ∙ (c.get.ensures.value ∙ (c.self.invariant c.args.path.now ∙ ap (position (bytes_eq c.args.path.now))
    c.self.view_is)))
