use Rattle.std.proofs.Common.{◌≡◌, List, Some, length, slice_get, sym, ◌∙◌, ap, subst, arith}
use Rattle.std.proofs.lemmas.Option.{slice_get-get_or}
use Rattle.bay_contract.specs.declared.course.Course.{Course}
use Rattle.bay_contract.specs.declared.pattern.Pattern.{Pattern}
use Rattle.bay_contract.specs.Courses.{IsCourse, IsLikeCourse}
use Rattle.bay_contract.proofs.CourseLemmas.{like_self}
use Rattle.bay_contract.proofs.PatternLemmas.{patterns_more}
use Rattle.bay_contract.proofs.alphabet.alphabet_of.Goals as goal

pub alphabet_from-requires-clause-like : goal.alphabet_from-requires-clause-like
alphabet_from-requires-clause-like c =
    let there : slice_get c.args.patterns.now.items c.in-Some.at ≡ Some c.index.result.now =
    slice_get-get_or c.args.patterns.now.items c.in-Some.at c.index.result.now (omega
    (arith, c.in-Some.ensures.within, ap length c.deref.ensures.value)) ∙ ap Some (sym c.index.ensures) in
    c.in-Some.ensures.like c.index.result.now (ap (λ
    (l : List Pattern). slice_get l c.in-Some.at) c.deref.ensures.value ∙ there)

pub alphabet_from-requires-clause-pattern : goal.alphabet_from-requires-clause-pattern
alphabet_from-requires-clause-pattern c =
    let there : slice_get c.args.patterns.now.items c.in-Some.at ≡ Some c.index.result.now =
    slice_get-get_or c.args.patterns.now.items c.in-Some.at c.index.result.now (omega
    (arith, c.in-Some.ensures.within, ap length c.deref.ensures.value)) ∙ ap Some (sym c.index.ensures) in
    c.requires c.in-Some.at c.index.result.now there

pub returns-in-Some-clause-built : goal.returns-in-Some-clause-built
returns-in-Some-clause-built c = c.in_ok-alphabet.ensures.built c.args.part.0 c.in_ok-course.ensures

pub returns-in-Some-clause-fits : goal.returns-in-Some-clause-fits
returns-in-Some-clause-fits c =
    let there : slice_get c.args.patterns.now.items c.in-Some.at ≡ Some c.index.result.now =
    slice_get-get_or c.args.patterns.now.items c.in-Some.at c.index.result.now (omega
    (arith, c.in-Some.ensures.within, ap length c.deref.ensures.value)) ∙ ap Some (sym c.index.ensures) in
    let like = c.in-Some.ensures.like c.index.result.now (ap (λ
    (l : List Pattern). slice_get l c.in-Some.at) c.deref.ensures.value ∙ there) in
    ((c.requires c.in-Some.at c.index.result.now there).serves c.args.part.0 c.switches_of-count.result.0.0
    c.switches_of-count.result.1 c.in_ok-course.course c.in_ok-course.ensures like).fits

pub alphabet_from-requires-2-clause-like : goal.alphabet_from-requires-2-clause-like
alphabet_from-requires-2-clause-like c =
    subst (λ (y : Course). IsLikeCourse y y) (sym c.in_ok-pattern.ensures.course)
    (like_self c.args.station.now c.args.part.0 c.switches_of-count.result.0.0 c.switches_of-count.result.1
    c.in_ok-course.course c.in_ok-course.ensures)

pub returns-clause-patterns : goal.returns-clause-patterns
returns-clause-patterns c =
    patterns_more c.args.station.now c.args.patterns.now.items c.remember.new.patterns.items c.in_ok-pattern.pattern
    c.requires c.in_ok-remember.ensures c.in_ok-pattern.ensures.pattern

pub returns-clause-built : goal.returns-clause-built
returns-clause-built c =
    c.in_ok-alphabet-2.ensures.built c.args.part.0 (subst (λ
    (y : Course). IsCourse c.args.station.now c.args.part.0 c.switches_of-count.result.0.0
    c.switches_of-count.result.1 y) (sym c.in_ok-pattern.ensures.course) c.in_ok-course.ensures)

pub returns-clause-fits : goal.returns-clause-fits
returns-clause-fits c =
    let self = like_self c.args.station.now c.args.part.0 c.switches_of-count.result.0.0 c.switches_of-count.result.1
    c.in_ok-course.course c.in_ok-course.ensures in
    let like : IsLikeCourse c.in_ok-pattern.pattern.course c.in_ok-course.course = subst (λ
    (y : Course). IsLikeCourse y c.in_ok-course.course) (sym c.in_ok-pattern.ensures.course) self in
    (c.in_ok-pattern.ensures.pattern.serves c.args.part.0 c.switches_of-count.result.0.0 c.switches_of-count.result.1
    c.in_ok-course.course c.in_ok-course.ensures like).fits
