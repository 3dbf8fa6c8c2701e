use Rattle.std.proofs.Common.{◌∙◌, ◌++◌, ◌∷◌, [], ap, rules}
use Rattle.std.specs.String.{string_bytes}
use Rattle.station_graph.proofs.PathLemmas.{places_push}
use Rattle.station_graph.proofs.paths.Paths.push.Goals as goal

pub invariant_of-self-2 : goal.invariant_of-self-2
invariant_of-self-2 c = places_push c.self.inside.places c.insert.new.self c.args.self.now c.self.inside.paths.items
    c.push_reserved.new.self.items c.in_ok-path.path c.in_ok-clone.field-0 (string_bytes c.args.path)
    c.len-place.result c.self.view_is c.self.invariant c.requires.new c.in_ok-path.ensures.ok
    c.in_ok-clone.ensures.cases (search rules) c.in_ok-insert.ensures.updates
    (c.push_reserved.ensures.items ∙ ap (λ xs. xs ++ c.in_ok-path.path ∷ []) c.in_ok-reserve.ensures.items)
