use Rattle.std.proofs.Common.{◌≡◌, ◌∙◌, ◌<◌, Bool, List, Some, ap, sym, subst, arith}
use Rattle.std.proofs.lemmas.Option.{MatchOption-at_some, MatchOption-at_none}
use Rattle.ilk_base.specs.declared.words.BayId.{BayId}
use Rattle.central_rules.specs.declared.verdict.Verdict.TheVariants.{Release, Denied}
use Rattle.judge_pool.specs.declared.view.View.TheVariants.{Gap}
use Rattle.judge_pool.specs.Graphs.{other_of}
use Rattle.judge_pool.specs.Lettered.{Lettered, lettered, index_count}
use Rattle.station_graph.specs.CentralRules.{Breaks}
use Rattle.release_compile.specs.Allowed.{Within}
use Rattle.release_compile.specs.Denying.{IsDenial, IsFree}
use Rattle.judge_graphs.specs.BuiltView.{view_of}
use Rattle.judge_graphs.proofs.MergedLemmas.{merged_is}
use Rattle.release_compile.proofs.HeardLemmas.{allowed_index}
use Rattle.release_compile.proofs.KnownLemmas.{decides_known}
use Rattle.release_compile.proofs.VerdictLemmas.{allowed_length, allowed_at}
use Rattle.release_compile.proofs.WithinLemmas.{length_sets}
use Rattle.release_compile.proofs.heard.judge_heard.Goals as goal

pub vector_of-requires-clause-outer : goal.vector_of-requires-clause-outer
vector_of-requires-clause-outer c =
    let a : Lettered = lettered c.args.station.now c.args.parts.now in
    let p = c.place_of-place.result in
    let sets : List (List Bool) = c.in_ok-sets.sets in
    let own = c.args.own.now in
    let op = c.args.op in
    let denial = MatchOption-at_some (IsFree a p.bay.0 own sets op)
    (IsDenial a p.bay.0 op.switch.0 p.first p.others own sets op) c.in-Some.found c.in-Some.is
    c.in_ok-find_denial.ensures in
    let len = length_sets c.args.graphs.now.gap.merged.value.layers sets c.in_ok-sets.ensures.gap in
    let of_others = merged_is Gap a c.args.bay.0 c.args.graphs.now.first c.args.graphs.now.count
    (view_of c.args.graphs.now.gap) c.requires.graphs.gap in
    allowed_length sets c.in-Some.found.choices.outer denial.allows
    ∙ (omega (arith, len, of_others.count, c.place_of-place.ensures.parts))

pub vector_of-requires-clause-indices : goal.vector_of-requires-clause-indices
vector_of-requires-clause-indices c j k at =
    let a : Lettered = lettered c.args.station.now c.args.parts.now in
    let p = c.place_of-place.result in
    let sets : List (List Bool) = c.in_ok-sets.sets in
    let own = c.args.own.now in
    let op = c.args.op in
    let denial = MatchOption-at_some (IsFree a p.bay.0 own sets op)
    (IsDenial a p.bay.0 op.switch.0 p.first p.others own sets op) c.in-Some.found c.in-Some.is
    c.in_ok-find_denial.ensures in
    let same : p.bay.0 ≡ c.args.bay.0 = ap (λ (b : BayId). b.0) c.place_of-place.ensures.bay in
    let g = c.requires.graphs.gap in
    subst (λ b. k < index_count a (other_of 0 b j)) (sym same)
    (allowed_index a c.args.bay.0 c.args.graphs.now.gap.merged.value sets
    (merged_is Gap a c.args.bay.0 c.args.graphs.now.first c.args.graphs.now.count (view_of c.args.graphs.now.gap) g)
    c.in_ok-sets.ensures.gap
    j k (allowed_at sets c.in-Some.found.choices.outer j k denial.allows at))

pub vector_of-requires-clause-inner : goal.vector_of-requires-clause-inner
vector_of-requires-clause-inner c =
    let a : Lettered = lettered c.args.station.now c.args.parts.now in
    let p = c.place_of-place.result in
    let sets : List (List Bool) = c.in_ok-sets.sets in
    let own = c.args.own.now in
    let op = c.args.op in
    (MatchOption-at_some (IsFree a p.bay.0 own sets op)
    (IsDenial a p.bay.0 op.switch.0 p.first p.others own sets op) c.in-Some.found c.in-Some.is
    c.in_ok-find_denial.ensures).count

pub vector_of-requires-clause-small : goal.vector_of-requires-clause-small
vector_of-requires-clause-small c =
    let a : Lettered = lettered c.args.station.now c.args.parts.now in
    let p = c.place_of-place.result in
    let sets : List (List Bool) = c.in_ok-sets.sets in
    let own = c.args.own.now in
    let op = c.args.op in
    (MatchOption-at_some (IsFree a p.bay.0 own sets op)
    (IsDenial a p.bay.0 op.switch.0 p.first p.others own sets op) c.in-Some.found c.in-Some.is
    c.in_ok-find_denial.ensures).small

pub returns-in-None : goal.returns-in-None
returns-in-None c =
    let a : Lettered = lettered c.args.station.now c.args.parts.now in
    let p = c.place_of-place.result in
    let sets : List (List Bool) = c.in_ok-sets.sets in
    let own = c.args.own.now in
    let op = c.args.op in
    let free = MatchOption-at_none (IsFree a p.bay.0 own sets op)
    (IsDenial a p.bay.0 op.switch.0 p.first p.others own sets op) c.in-None.is c.in_ok-find_denial.ensures in
    let same : p.bay.0 ≡ c.args.bay.0 = ap (λ (b : BayId). b.0) c.place_of-place.ensures.bay in
    decides_known a record { station = c.part_count-count.ensures.station; alphabets = c.requires.lettered }
    c.args.bay.0 p.parts c.place_of-place.ensures.parts c.requires.bay own c.args.heard.now c.requires.heard sets
    c.in_ok-sets.ensures.sets op Release (subst (λ b. IsFree a b own sets op) same free)

pub returns : goal.returns
returns c =
    let d = c.args.station.now in
    let a : Lettered = lettered d c.args.parts.now in
    let p = c.place_of-place.result in
    let sets : List (List Bool) = c.in_ok-sets.sets in
    let own = c.args.own.now in
    let op = c.args.op in
    let f = c.in-Some.found in
    let v : List Bool = c.in_ok-reading-in-Some.reading in
    let denial = MatchOption-at_some (IsFree a p.bay.0 own sets op)
    (IsDenial a p.bay.0 op.switch.0 p.first p.others own sets op) f c.in-Some.is c.in_ok-find_denial.ensures in
    let same : p.bay.0 ≡ c.args.bay.0 = ap (λ (b : BayId). b.0) c.place_of-place.ensures.bay in
    let denies = denial.denies v c.in_ok-reading-in-Some.ensures.gives in
    decides_known a record { station = c.part_count-count.ensures.station; alphabets = c.requires.lettered }
    c.args.bay.0 p.parts c.place_of-place.ensures.parts c.requires.bay own c.args.heard.now c.requires.heard sets
    c.in_ok-sets.ensures.sets op (Denied f.rule v)
    (subst (λ b. Within a b own sets v × Breaks d v op (Some f.rule)) same denies)
