use Rattle.std.proofs.Common.{◌≡◌, Bool, List, length, slice_get, arith, ap, ◌∙◌, sym}
use Rattle.std.proofs.lemmas.List.{with_items_is}
use Rattle.contraction.proofs.marks.marked_classes.Goals as goal

pub returns : goal.returns
returns c =
    let labels = c.args.labels.now in
    let cl : List Bool = c.note_both.new.classes in
    let len : length cl ≡ c.in_ok-classes.classes.len =
    omega (arith, c.note_both.auto.classes, c.deref_mut.ensures.len) in
    let same = with_items_is c.in_ok-classes.classes cl len in
    record {
      len = ap length same ∙ omega (arith, len, c.in_ok-classes.ensures.len);
      told = λ k k_in.
          let is : slice_get _ k ≡ slice_get cl k = ap (λ (l : List Bool). slice_get l k) same in
          let noted = c.note_both.ensures k k_in in
          (λ e. noted.0 (sym is ∙ e), λ m. is ∙ noted.1 m);
    }
