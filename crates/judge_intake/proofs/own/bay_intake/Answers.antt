use Rattle.std.proofs.Common.{ℕ, List, [], Vec, Global, map, refl, inl, inr}
use Rattle.std.specs.Prelude.{Contains}
use Rattle.contraction.specs.Answers.{Answers}
use Rattle.part_alphabets.specs.PartAlphabets.{Alphabets}
use Rattle.judge_pool.specs.declared.pool.Pool.{Pool}
use Rattle.judge_pool.specs.Lettered.{Lettered, lettered}
use Rattle.judge_pool.specs.Places.{node_listed, pool_on}
use Rattle.judge_pool.specs.Layering.{values_at}
use Rattle.judge_pool.proofs.LayeringLemmas.{grew_more, grows}
use Rattle.judge_pool.proofs.MappedPools.{grows_on}
use Rattle.judge_intake.proofs.InputsLemmas.{copies_stay, links_stay, pairs_stay, names_stay}
use Rattle.judge_intake.proofs.PlacesLemmas.{named_shared, names_copied}
use Rattle.judge_intake.proofs.own.bay_intake.Goals as goal

pub names_in_places-requires-clause-within : goal.names_in_places-requires-clause-within
names_in_places-requires-clause-within c t i at = c.requires.names.within t i at

pub names_in_places-requires-clause-has : goal.names_in_places-requires-clause-has
names_in_places-requires-clause-has c t x at n kept =
    let none : Alphabets = record { switches = 0; parts = [] } in
    let a : Lettered = lettered c.args.station.now none in
    (c.requires.own.needed n).1
    (inl (named_shared a c.args.own.now.bay.0 n c.switch_count-count.ensures.station c.requires.own.bay
    ((c.requires.names.kept t x at n).0 kept)))

pub switch_pairs-requires-clause-has : goal.switch_pairs-requires-clause-has
switch_pairs-requires-clause-has c n t = (c.requires.own.needed n).1 (inr t)

pub returns-clause-grew : goal.returns-clause-grew
returns-clause-grew c =
    let p0 : Pool = c.args.pool.now in
    let p1 : Pool = c.names_in_places.new.pool in
    let p2 : Pool = c.links.new.pool in
    let p3 : Pool = c.switch_pairs.new.pool in
    let p4 : Pool = c.all_places.new.pool in
    grew_more p0 p3 p4 (grew_more p0 p2 p3 (grew_more p0 p1 p2 c.in_ok-copies.ensures.grew c.in_ok-start.ensures.grew)
    c.in_ok-pairs.ensures.grew) c.in_ok-keep.ensures.grew

pub returns-clause-copies : goal.returns-clause-copies
returns-clause-copies c =
    let f : ℕ → ℕ = node_listed c.args.own.now.nodes in
    let p1 : Pool = c.names_in_places.new.pool in
    let p2 : Pool = c.links.new.pool in
    let p3 : Pool = c.switch_pairs.new.pool in
    let p4 : Pool = c.all_places.new.pool in
    let all = grows p1 p4 (grew_more p1 p3 p4 (grew_more p1 p2 p3 c.in_ok-start.ensures.grew c.in_ok-pairs.ensures.grew)
    c.in_ok-keep.ensures.grew) in
    copies_stay (pool_on f p1) (pool_on f p4) (grows_on f p1 p4 all)
    (values_at c.args.pool.now.values.items c.args.names.now) c.in_ok-copies.copies.items c.in_ok-copies.ensures.copies

pub returns-clause-intake : goal.returns-clause-intake
returns-clause-intake c =
    let none : Alphabets = record { switches = 0; parts = [] } in
    let d = c.args.station.now in
    let a : Lettered = lettered d none in
    let b = c.args.own.now.bay.0 in
    let first = c.args.own.now.first in
    let count = c.args.own.now.count in
    let f : ℕ → ℕ = node_listed c.args.own.now.nodes in
    let p0 : Pool = c.args.pool.now in
    let p1 : Pool = c.names_in_places.new.pool in
    let p2 : Pool = c.links.new.pool in
    let p3 : Pool = c.switch_pairs.new.pool in
    let p4 : Pool = c.all_places.new.pool in
    let g2 = c.in_ok-start.ensures.grew in
    let g3 = c.in_ok-pairs.ensures.grew in
    let g4 = c.in_ok-keep.ensures.grew in
    let g34 = grows_on f p2 p4 (grows p2 p4 (grew_more p2 p3 p4 g3 g4)) in
    let g234 = grows_on f p1 p4 (grows p1 p4 (grew_more p1 p2 p4 g2 (grew_more p2 p3 p4 g3 g4))) in
    let values : List Answers = values_at p0.values.items c.args.names.now in
    let names : List ℕ = c.in_ok-copies.copies.items in
    let links = links_stay (pool_on f p2) (pool_on f p4) g34 d b (Contains c.args.own.now.nodes) c.in_ok-start.start
    c.in_ok-start.ensures.links in
    let keep = c.in_ok-keep.ensures.keep in
    record {
      links = record {
        value = links.value;
        listed = links.listed;
        kept =
            λ n. (λ h. (c.requires.own.needed n).0 ((links.kept n).0 h), λ h. (links.kept n).1 ((c.requires.own.needed n).1 h));
        stands = links.stands;
      };
      keep = record {
        nodes = keep.nodes;
        listed = keep.listed;
        exact =
            λ n. (λ h. (c.requires.own.needed n).0 ((keep.exact n).0 h), λ h. (keep.exact n).1 ((c.requires.own.needed n).1 h));
      };
      named =
          names_stay (pool_on f p1) (pool_on f p4) g234 d b names
          (names_copied a b c.switch_count-count.ensures.station c.requires.own.bay (pool_on f p1) values names
          c.in_ok-copies.ensures.copies p0 c.args.names.now c.in_ok-copies.ensures.grew.view refl c.requires.names);
      pairs =
          pairs_stay (pool_on f p3) (pool_on f p4) (grows_on f p3 p4 (grows p3 p4 g4)) d first
          (map (λ (v : Vec ℕ Global). v.items) c.in_ok-pairs.pairs.items) count c.in_ok-pairs.ensures.pairs;
    }
