use Rattle.std.proofs.Common.{Bool, List, refl}
use Rattle.std.proofs.lemmas.Option.{MatchOption-at_some, MatchOption-at_none}
use Rattle.judge_pool.specs.Lettered.{Lettered, lettered}
use Rattle.release_compile.specs.Chaining.{IsChainOf, NoneLeadsTo}
use Rattle.release_compile.specs.declared.chain.Through.{Through}
use Rattle.release_compile.specs.declared.search.Side.{Side}
use Rattle.release_compile.proofs.DenyingLemmas.{load_denies}
use Rattle.release_compile.proofs.VerdictLemmas.{load_free}
use Rattle.release_compile.proofs.OwnLemmas.{load_says_none}
use Rattle.release_compile.proofs.denying.find_in_load.Goals as goal

pub returns-then-not-branch : goal.returns-then-not-branch
returns-then-not-branch c =
    let a : Lettered = lettered c.args.station.now c.args.parts.now in
    let sets : List (List Bool) = c.args.sets.now in
    load_says_none a c.args.place.bay.0 c.args.own.now sets c.args.op c.requires.free
    (c.in_ok-may_say.ensures c.if-not-branch.true sets c.requires.sets)

pub returns-in-Some : goal.returns-in-Some
returns-in-Some c =
    let a : Lettered = lettered c.args.station.now c.args.parts.now in
    let p = c.args.place in
    let sets : List (List Bool) = c.args.sets.now in
    let s : Side = c.in_ok-side.side in
    let chain = MatchOption-at_some (NoneLeadsTo s sets 1) (λ (f : Through). IsChainOf s sets 1 f.outer f.inner)
    c.in-Some.choices c.in-Some.is c.in_ok-choices.ensures in
    load_denies a p.bay.0 c.args.op.switch.0 p.first p.others c.args.own.now sets c.requires.own c.args.op refl s
    c.in_ok-side.ensures.side c.requires.free _ refl chain

pub returns : goal.returns
returns c =
    let a : Lettered = lettered c.args.station.now c.args.parts.now in
    let p = c.args.place in
    let sets : List (List Bool) = c.args.sets.now in
    let s : Side = c.in_ok-side.side in
    let none = MatchOption-at_none (NoneLeadsTo s sets 1) (λ (f : Through). IsChainOf s sets 1 f.outer f.inner)
    c.in-None.is c.in_ok-choices.ensures in
    load_free a p.bay.0 c.args.op.switch.0 p.first p.others c.args.own.now sets s c.requires.own
    c.in_ok-side.ensures.side c.args.op refl c.requires.free none
