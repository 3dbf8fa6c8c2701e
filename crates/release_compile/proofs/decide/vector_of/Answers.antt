use Rattle.std.proofs.Common.{◌≡◌, Bool, not, List, length, drop, sym, ap, ◌∙◌, subst, length-set}
use Rattle.std.proofs.lemmas.Option.{same_Some, IfSome_then}
use Rattle.ilk_base.specs.declared.words.Dbpos.{Dbpos}
use Rattle.double_points.specs.Words.{Agrees}
use Rattle.std.proofs.Math.ListN.{length-replicate}
use Rattle.judge_pool.specs.Lettered.{lettered}
use Rattle.release_compile.specs.Allowed.{GivesChoices}
use Rattle.release_compile.specs.Deciding.{OthersAgree}
use Rattle.release_compile.proofs.DecideLemmas.{gives, agree_after, moved_agrees}
use Rattle.release_compile.proofs.decide.vector_of.Goals as goal

pub returns-clause-gives : goal.returns-clause-gives
returns-clause-gives c =
    let a = c.args in
    let v1 : List Bool = c.place_others.new.vector in
    let v2 : List Bool = c.place_own.new.vector in
    let m = a.op.switch.0 in
    let closed : Bool = not c.agrees.result in
    let start : length c.in_ok-vector.vector ≡ length a.station.now.switches =
    ap length c.in_ok-vector.ensures ∙ length-replicate _ _ in
    let whole : length v1 ≡ length a.station.now.switches = c.place_others.ensures.count ∙ start in
    subst (λ w. GivesChoices (lettered a.station.now a.parts.now) a.place.bay.0 m a.place.first a.own.now
    a.choices.now.outer (drop 1 a.choices.now.inner) w) (sym c.set.ensures)
    (gives (lettered a.station.now a.parts.now) a.place.bay.0 m a.place.first a.place.others a.own.now
    a.choices.now.outer a.choices.now.inner c.requires.own v1 v2 closed whole c.place_own.ensures.count
    c.place_others.ensures.chosen c.place_own.ensures.chosen c.place_own.ensures.stay
    (length-set v2 m closed)
    (λ word at. subst (λ (w : Dbpos). Agrees w closed) (same_Some c.word.result word (sym c.word.ensures ∙ at))
    (moved_agrees c.word.result c.agrees.result c.agrees.ensures)))

pub returns-clause-agree : goal.returns-clause-agree
returns-clause-agree c =
    let a = c.args in
    let v1 : List Bool = c.place_others.new.vector in
    let v2 : List Bool = c.place_own.new.vector in
    let m = a.op.switch.0 in
    let closed : Bool = not c.agrees.result in
    let start : length c.in_ok-vector.vector ≡ length a.station.now.switches =
    ap length c.in_ok-vector.ensures ∙ length-replicate _ _ in
    let whole : length v1 ≡ length a.station.now.switches = c.place_others.ensures.count ∙ start in
    IfSome_then a.known c.place_others.ensures.agree (λ w before. subst
    (λ v. OthersAgree a.station.now a.place.bay.0 w.now.words.now a.place.parts v) (sym c.set.ensures)
    (agree_after (lettered a.station.now a.parts.now) a.place.bay.0 m a.place.first a.place.others w.now.words.now
    a.choices.now.outer a.choices.now.inner c.requires.own v1 v2 closed whole c.place_own.ensures.count
    c.place_others.ensures.chosen c.place_own.ensures.chosen c.place_own.ensures.stay a.place.parts before))
