use Rattle.std.proofs.Common.{ℕ, List, Vec, Global, Some, length, map, slice_get, sym, ap, ◌∙◌, arith}
use Rattle.std.proofs.lemmas.List.{length-map}
use Rattle.judge_pool.proofs.pool.Pool.list_again.Goals as goal

pub list_at-requires : goal.list_at-requires
list_at-requires c =
    let p = c.args.self.now in
    omega (
      arith,
      c.requires,
      length-map p.letters.items (λ (v : Vec ℕ Global). v.items),
      ap (λ (vs : List (Vec ℕ Global)). length vs) c.as_slice-lists.ensures.value,
    )

pub returns : goal.returns
returns c =
    ap (λ (vs : List (Vec ℕ Global)). slice_get (map (λ (v : Vec ℕ Global). v.items) vs) c.args.number)
    (sym c.as_slice-lists.ensures.value)
    ∙ (c.list_at.ensures ∙ ap Some (sym c.in_ok-list.ensures))
