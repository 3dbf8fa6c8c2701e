use Rattle.std.proofs.Common.{◌++◌, List, ℕ, ap, ◌∙◌, sym}
use Rattle.contraction.specs.Rows.{words, flags, bonded_bytes}
use Rattle.contraction.proofs.OneViewLemmas.{in_front_bonded}
use Rattle.contraction.proofs.layout.Layout.wide_load_text.Goals as goal

pub returns : goal.returns
returns c =
    let s = c.args.self.now in
    let row = c.in_ok-row.row in
    let bonds : List ℕ = c.in_ok-bonded.bonded in
    let r = c.in_ok-row.ensures in
    record {
      wide = r.wide;
      labels = row.labels;
      bonds = bonds;
      first = row.first.items;
      second = row.second.items;
      composes = r.composes;
      restricts = r.restricts;
      bonded = c.in_ok-bonded.ensures;
      firsts = r.first;
      seconds = r.second;
      bytes =
          c.in_ok-push_with.ensures
          ∙ ap (λ (t : List ℕ). t ++ bonded_bytes row bonds) c.in_ok-text.ensures
          ∙ sym (in_front_bonded s.bytes (words row.labels) (words bonds) (flags row.first.items)
          (flags row.second.items));
    }
