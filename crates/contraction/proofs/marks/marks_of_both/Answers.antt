use Rattle.std.proofs.Common.{◌≡◌, ℕ, Bool, List, slice_index, slice_get, arith, ap, ◌∙◌, sym}
use Rattle.contraction.proofs.MarkLemmas.{if_ok_both}
use Rattle.contraction.proofs.marks.marks_of_both.Goals as goal

pub returns : goal.returns
returns c =
    let labels = c.args.labels.now in
    let cl : List Bool = c.in_ok-classes.classes.items in
    let marked = c.in_ok-classes.ensures in
    if_ok_both c.spread.result _ _ _ (λ marks long h. record {
      len = long;
      told = λ k k_in.
          let class : ℕ = slice_index labels k in
          let below = c.requires.below k k_in in
          let is : slice_get marks.items k ≡ slice_get cl class =
          h k k_in ∙ ap (λ (l : List Bool). slice_get l class) c.deref.ensures.value in
          let noted = marked.told class (omega arith) in
          (λ e. noted.0 (sym is ∙ e), λ m. is ∙ noted.1 m);
    }) c.spread.ensures.len c.spread.ensures.marks
