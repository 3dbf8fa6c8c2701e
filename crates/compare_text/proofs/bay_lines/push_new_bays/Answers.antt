use Rattle.std.proofs.Common.{◌≡◌, ℕ, List, [], Option, get_or, slice_get, Some, sym, ap, ◌∙◌, arith}
use Rattle.std.proofs.lemmas.Option.{slice_get-get_or}
use Rattle.station_changes.specs.Compare.{part_path}
use Rattle.station_compare.specs.declared.bays.BayWord.{BayWord}
use Rattle.station_compare.specs.declared.bays.BayWord.TheVariants.{NoBay}
use Rattle.compare_text.specs.CompareText.{named_bay, named_bay_of, new_bay_at}
use Rattle.compare_text.proofs.TextLemmas.{more}
use Rattle.compare_text.proofs.bay_lines.push_new_bays.Goals as goal

pub loop-p-preserved : goal.loop-p-preserved
loop-p-preserved c =
    let n = c.args.new.now in
    let words = c.args.words.now in
    let p = c.loop-p.p in
    let name = c.new_part_name.result in
    let at : slice_get words p ≡ Some (get_or words p NoBay) =
    slice_get-get_or words p NoBay (omega (
      arith,
      c.loop-p-test.true,
      c.loop-p.auto.p-end,
      c.part_count-p-end.ensures.count,
      c.requires.count,
    )) in
    record {
      text = more (new_bay_at n words) p c.args.text.now.text c.loop-p.text.text c.push_named.new.text.text _
          c.loop-p.invariant.text c.in_ok-push_named.ensures.ok
          (ap (λ k. named_bay (get_or words k NoBay) (get_or c.loop-p.text.names name [])) c.from.ensures
          ∙ (ap (λ (ns : List (List ℕ)). named_bay (get_or words p NoBay) (get_or ns name [])) c.loop-p.invariant.names
          ∙ (ap (named_bay (get_or words p NoBay)) c.new_part_name.ensures
          ∙ sym (ap (λ (o : Option BayWord). named_bay_of o (part_path n p)) at))));
      names = c.push_named.ensures.names ∙ c.loop-p.invariant.names;
      same = c.push_named.ensures.names ∙ c.loop-p.invariant.same;
    }
