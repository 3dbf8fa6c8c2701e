use Rattle.contraction.proofs.MappedLemmas.{gap_map, gap_back, load_map, load_back}
use Rattle.contraction.proofs.laws.nodes_in_one_order_compose_alike.Goals as goal

pub returns-clause-gap : goal.returns-clause-gap
returns-clause-gap c f x y r order = (gap_map f order x y r, gap_back f order x y r)

pub returns-clause-load : goal.returns-clause-load
returns-clause-load c f x y r order = (load_map f order x y r, load_back f order x y r)
