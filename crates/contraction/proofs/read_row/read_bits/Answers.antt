use Rattle.std.proofs.Common.{ℕ, Bool, List, map, eqb, length, ap, sym, ◌∙◌, inl, inr, arith}
use Rattle.std.proofs.lemmas.Bool.{cases_lt}
use Rattle.std.proofs.lemmas.List.{length-map}
use Rattle.std.proofs.lemmas.Option.{slice_get_past}
use Rattle.station_graph.proofs.GapLemmas.{same_list}
use Rattle.contraction.proofs.RowLemmas.{bits_back}
use Rattle.contraction.proofs.read_row.read_bits.Goals as goal

pub returns : goal.returns
returns c = λ bits e.
    let found : List Bool = c.loop-i.bits in
    let told : List Bool = map (λ (b : ℕ). eqb b 1) c.args.bytes.now in
    let long = c.loop-i.invariant.0 in
    same_list found told (λ k. elim (cases_lt k (length found)) [
      | inl k_in ↦ c.loop-i.invariant.1 k (omega (arith, long))
      | inr past ↦ slice_get_past found k past
          ∙ sym (slice_get_past told k (omega (arith, long, length-map c.args.bytes.now (λ (b : ℕ). eqb b 1))))
    ])
    ∙ ap (map (λ (b : ℕ). eqb b 1)) e ∙ bits_back bits
