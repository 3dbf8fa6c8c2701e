use Rattle.std.proofs.Common.{◌≡◌, ◌↔◌, true, length, take, IfSome, sym, ap, ◌∙◌, subst, arith}
use Rattle.std.proofs.lemmas.List.{length-take-le, length-set}
use Rattle.part_alphabets.specs.Alphabets.{InSet}
use Rattle.release_compile.specs.Summaries.{has_bit, byte_count}
use Rattle.release_compile.proofs.RowLemmas.{row_bits, bytes_more}
use Rattle.release_compile.proofs.summary.row_of.Goals as goal

pub loop-k-preserved : goal.loop-k-preserved
loop-k-preserved c = record {
  len = length-set c.loop-k.row c.loop-k.k c.byte_of.result ∙ c.loop-k.invariant.len;
  bytes =
      bytes_more c.args.set.now c.loop-k.row c.loop-k.k c.byte_of.result c.loop-k.invariant.bytes c.byte_of.ensures
      (omega (arith, c.loop-k-test.true, c.bytes_for-count.ensures.few, c.loop-k.invariant.len));
}

pub returns : goal.returns
returns c =
    let count = c.bytes_for-count.result in
    let row = c.loop-k.row in
    let is : c.unwrap.result ≡ take count row =
    subst (λ o. IfSome o (λ s. s ≡ take count row)) c.unwrap.ensures c.new.ensures.value in
    let len : length (take count row) ≡ count =
    length-take-le count row (omega (arith, c.bytes_for-count.ensures.few, c.loop-k.invariant.len)) in
    let out_len : length c.unwrap.result ≡ count = ap length is ∙ len in
    let size : byte_count c.args.size ≡ byte_count (length c.args.set.now) = ap (λ k. byte_count k) (sym c.requires) in
    record {
      count = out_len ∙ (c.bytes_for-count.ensures.count ∙ size);
      bits = λ i lt.
          let told = row_bits c.args.set.now row count
          (λ j j_in. c.loop-k.invariant.bytes j (omega (arith, j_in, c.loop-k-test.false))) i
          (omega (arith, lt, out_len)) in
          subst (λ s. (has_bit s i ≡ true) ↔ InSet c.args.set.now i) (sym is) told;
    }
