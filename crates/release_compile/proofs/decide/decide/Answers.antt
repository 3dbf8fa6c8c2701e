use Rattle.std.proofs.Common.{Bool, List, refl, ◌∙◌}
use Rattle.std.proofs.lemmas.Option.{MatchOption-at_some, MatchOption-at_none, IfSome_then}
use Rattle.release_compile.specs.declared.search.Found.{Found}
use Rattle.judge_pool.specs.Lettered.{Lettered, lettered}
use Rattle.release_compile.specs.Chaining.{GapFree, NoneLeadsTo, IsFound}
use Rattle.release_compile.proofs.VerdictLemmas.{allowed_length, allowed_at, released, denied}
use Rattle.release_compile.proofs.DecideLemmas.{found_small, found_within}
use Rattle.release_compile.proofs.SidesLemmas.{sides_count, sides_index, gap_small, load_small, found_in}
use Rattle.release_compile.proofs.decide.decide.Goals as goal

pub search-requires-clause-gap : goal.search-requires-clause-gap
search-requires-clause-gap c = c.requires.sides.gap.ready

pub search-requires-clause-load : goal.search-requires-clause-load
search-requires-clause-load c = c.requires.sides.load.ready

pub vector_of-requires-clause-outer : goal.vector_of-requires-clause-outer
vector_of-requires-clause-outer c =
    let a = c.args in
    let s = a.sides.now in
    let f = c.in-Some.found in
    let l : Lettered = lettered a.station.now a.parts.now in
    let is = MatchOption-at_some (GapFree a.op.direction s.gap a.sets.now × NoneLeadsTo s.load a.sets.now 1)
    (λ (x : Found). IsFound a.op.direction s.gap s.load a.sets.now x.rule x.choices.outer x.choices.inner) f
    c.in-Some.is c.in_ok-search.ensures in
    let fits = found_in l a.op.switch.0 a.own.now a.sets.now s c.requires.sides a.op.direction f.rule f.choices.outer
    f.choices.inner is in
    allowed_length a.sets.now f.choices.outer fits.0
    ∙ sides_count l a.op.switch.0 a.own.now a.sets.now s c.requires.sides

pub vector_of-requires-clause-indices : goal.vector_of-requires-clause-indices
vector_of-requires-clause-indices c j x at =
    let a = c.args in
    let s = a.sides.now in
    let f = c.in-Some.found in
    let l : Lettered = lettered a.station.now a.parts.now in
    let is = MatchOption-at_some (GapFree a.op.direction s.gap a.sets.now × NoneLeadsTo s.load a.sets.now 1)
    (λ (y : Found). IsFound a.op.direction s.gap s.load a.sets.now y.rule y.choices.outer y.choices.inner) f
    c.in-Some.is c.in_ok-search.ensures in
    let fits = found_in l a.op.switch.0 a.own.now a.sets.now s c.requires.sides a.op.direction f.rule f.choices.outer
    f.choices.inner is in
    sides_index l a.op.switch.0 a.own.now a.sets.now s c.requires.sides j x
    (allowed_at a.sets.now f.choices.outer j x fits.0 at)

pub vector_of-requires-clause-held : goal.vector_of-requires-clause-held
vector_of-requires-clause-held c =
    let a = c.args in
    let s = a.sides.now in
    let f = c.in-Some.found in
    let l : Lettered = lettered a.station.now a.parts.now in
    let is = MatchOption-at_some (GapFree a.op.direction s.gap a.sets.now × NoneLeadsTo s.load a.sets.now 1)
    (λ (y : Found). IsFound a.op.direction s.gap s.load a.sets.now y.rule y.choices.outer y.choices.inner) f
    c.in-Some.is c.in_ok-search.ensures in
    let fits = found_in l a.op.switch.0 a.own.now a.sets.now s c.requires.sides a.op.direction f.rule f.choices.outer
    f.choices.inner is in
    IfSome_then a.known c.requires.held
    (λ w held j x at. held j x (allowed_at a.sets.now f.choices.outer j x fits.0 at))

pub vector_of-requires-clause-inner : goal.vector_of-requires-clause-inner
vector_of-requires-clause-inner c =
    let a = c.args in
    let s = a.sides.now in
    let f = c.in-Some.found in
    let l : Lettered = lettered a.station.now a.parts.now in
    let is = MatchOption-at_some (GapFree a.op.direction s.gap a.sets.now × NoneLeadsTo s.load a.sets.now 1)
    (λ (x : Found). IsFound a.op.direction s.gap s.load a.sets.now x.rule x.choices.outer x.choices.inner) f
    c.in-Some.is c.in_ok-search.ensures in
    (found_in l a.op.switch.0 a.own.now a.sets.now s c.requires.sides a.op.direction f.rule f.choices.outer
    f.choices.inner is).1

pub vector_of-requires-clause-small : goal.vector_of-requires-clause-small
vector_of-requires-clause-small c i x at =
    let a = c.args in
    let s = a.sides.now in
    let f = c.in-Some.found in
    let l : Lettered = lettered a.station.now a.parts.now in
    let is = MatchOption-at_some (GapFree a.op.direction s.gap a.sets.now × NoneLeadsTo s.load a.sets.now 1)
    (λ (y : Found). IsFound a.op.direction s.gap s.load a.sets.now y.rule y.choices.outer y.choices.inner) f
    c.in-Some.is c.in_ok-search.ensures in
    found_small a.op.direction s.gap s.load a.sets.now f.rule f.choices.outer f.choices.inner is
    (gap_small l a.op.switch.0 a.own.now a.sets.now s c.requires.sides)
    (load_small l a.op.switch.0 a.own.now a.sets.now s c.requires.sides) i x at

pub returns-in-None : goal.returns-in-None
returns-in-None c v w =
    let a = c.args in
    let s = a.sides.now in
    let none = MatchOption-at_none (GapFree a.op.direction s.gap a.sets.now × NoneLeadsTo s.load a.sets.now 1)
    (λ (x : Found). IsFound a.op.direction s.gap s.load a.sets.now x.rule x.choices.outer x.choices.inner) c.in-None.is
    c.in_ok-search.ensures in
    released (lettered a.station.now a.parts.now) s.place.bay.0 a.op.switch.0 s.place.first s.place.others a.own.now
    a.sets.now s.gap s.load c.requires.sides.own c.requires.sides.gap c.requires.sides.load a.op refl none.0 none.1
    v w.within

pub returns-in_ok-reading-in-Some : goal.returns-in_ok-reading-in-Some
returns-in_ok-reading-in-Some c =
    let a = c.args in
    let s = a.sides.now in
    let f = c.in-Some.found in
    let h = c.requires.sides in
    let v : List Bool = c.in_ok-reading-in-Some.reading in
    let is = MatchOption-at_some (GapFree a.op.direction s.gap a.sets.now × NoneLeadsTo s.load a.sets.now 1)
    (λ (x : Found). IsFound a.op.direction s.gap s.load a.sets.now x.rule x.choices.outer x.choices.inner) f
    c.in-Some.is c.in_ok-search.ensures in
    let g = c.in_ok-reading-in-Some.ensures.gives in
    let within = found_within (lettered a.station.now a.parts.now) s.place.bay.0 a.op.switch.0 s.place.first
    s.place.others a.own.now a.sets.now s.gap s.load h.own h.gap h.load a.op.direction f.rule f.choices.outer
    f.choices.inner v is g in (
      record { within = within; agree = c.in_ok-reading-in-Some.ensures.agree },
      denied (lettered a.station.now a.parts.now) s.place.bay.0 a.op.switch.0 s.place.first s.place.others a.own.now
          a.sets.now s.gap s.load h.own h.gap h.load a.op refl f.rule f.choices.outer f.choices.inner is v within
          g.parts g.own,
    )
