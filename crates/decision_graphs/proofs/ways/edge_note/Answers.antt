use Rattle.std.proofs.lemmas.Nat.{div_below, mod_below}
use Rattle.std.proofs.lemmas.Nat.{div-add-mod'}
use Rattle.std.proofs.Common.{refl, ◌/◌}
use Rattle.decision_graphs.proofs.ways.edge_note.Goals as goal

pub returns : goal.returns
returns c =
    let s = c.args.shape in
    record {
      node = c.args.edge / s.choices;
      node_in = div_below c.args.edge s.choices s.nodes c.requires.choices c.requires.edge;
      node_is = refl;
      choice_in = mod_below c.args.edge s.choices c.requires.choices;
      place_is = div-add-mod' c.args.edge s.choices;
    }
