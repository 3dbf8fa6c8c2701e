-- An element of the tree by its number.
use Rattle.std.proofs.Common.{◌≡◌, ℕ, ◌<◌, List, length, get_or, Some, refl, sym, ap, ◌∙◌, arith}
use Rattle.std.specs.Prelude.{slice_get}
use Rattle.std.proofs.lemmas.Option.{slice_get-map, slice_get_read, get_or_from_slice_get}
use Rattle.ssd_text.specs.declared.tree.TreeElement.{TreeElement}
use Rattle.ssd_text.specs.Nesting.{Entry, no_entry, entry_at}
use Rattle.ssd_text.specs.Seen.{entry_of, entries_of}
use Rattle.ssd_text.proofs.Nested.{entries_len}

pub entry_is : (ns : List TreeElement) (i : ℕ) (x : TreeElement) (es : List Entry) → entries_of ns ≡ es →
    i < length es → x ≡ get_or ns i x → entry_at es i ≡ entry_of x
entry_is ns i x es view lt is =
    let here : slice_get ns i ≡ Some x = slice_get_read ns (length ns) i x refl
    (omega (arith, ap length view, entries_len ns)) is in
    get_or_from_slice_get es i (entry_of x) no_entry (ap (λ (l : List Entry). slice_get l i) (sym view)
    ∙ (slice_get-map entry_of ns i ∙ rw here refl))
