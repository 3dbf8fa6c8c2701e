use Rattle.graph_products.proofs.PlaceLemmas.{placed}
use Rattle.graph_products.proofs.pairs.place_by_hash.Goals as goal

pub returns : goal.returns
returns c =
    placed c.args.pairs.now.keys c.insert_full.new.self.keys c.args.pair c.in_ok-place.place c.in_ok-place.ensures.keys
    c.in_ok-place.ensures.stored
