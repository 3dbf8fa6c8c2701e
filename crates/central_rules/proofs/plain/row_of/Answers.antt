use Rattle.std.proofs.Common.{rules, ◌≡◌, ◌<◌, ◌≤◌, ◌+◌, ◌∙◌, ap, sym, length, get_or, arith}
use Rattle.std.proofs.lemmas.Option.{get_or_from_slice_get}
use Rattle.ilk_base.specs.declared.words.Dbpos.TheVariants.{Lost}
use Rattle.central_rules.specs.WordRows.{code_of_word}
use Rattle.central_rules.proofs.WordRowLemmas.{first_more, row_is}
use Rattle.central_rules.proofs.plain.row_of.Goals as goal

pub loop-k-preserved : goal.loop-k-preserved
loop-k-preserved c =
    let first = c.switches_of-count.result.0.0 in
    let few = c.switches_of-count.ensures.station.items.each_bay_few c.args.bay.0 in
    let within : c.loop-k.k < length c.loop-k.row = omega (
      arith,
      c.loop-k-test.true,
      c.loop-k.invariant.long,
      few,
      c.switches_of-count.ensures.value.counted,
    ) in
    let is : c.code_of.result ≡ code_of_word (get_or c.args.readings.now (first + c.loop-k.k) Lost) = c.code_of.ensures
    ∙ ap code_of_word (sym (get_or_from_slice_get c.args.readings.now (first + c.loop-k.k) c.word.result Lost
    c.word.ensures)) in
    rw c.from.ensures (record {
      long = search rules;
      each = first_more (λ k. code_of_word (get_or c.args.readings.now (first + k) Lost)) c.loop-k.k c.loop-k.row
          c.code_of.result within is c.loop-k.invariant.each;
    })

pub returns : goal.returns
returns c =
    let first = c.switches_of-count.result.0.0 in
    let count = c.switches_of-count.result.1 in
    let few = c.switches_of-count.ensures.station.items.each_bay_few c.args.bay.0 in
    let fits : count ≤ length c.loop-k.row =
    omega (arith, c.loop-k.invariant.long, few, c.switches_of-count.ensures.value.counted) in
    let front = rw c.unwrap.ensures at c.new.ensures.value in
    row_is c.args.station.now c.args.bay.0 first count c.args.readings.now c.loop-k.row c.unwrap.result
    c.switches_of-count.ensures.value fits (λ k lt. c.loop-k.invariant.each k
    (omega (arith, lt, c.loop-k-test.false))) (rw c.from-2.ensures at front)
