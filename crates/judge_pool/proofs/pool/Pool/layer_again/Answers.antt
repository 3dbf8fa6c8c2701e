use Rattle.std.proofs.Common.{◌≡◌, ℕ, List, Vec, Global, Some, length, map, slice_get, refl, sym, ap, ◌∙◌, arith}
use Rattle.std.proofs.lemmas.List.{length-map}
use Rattle.std.proofs.lemmas.Option.{slice_get_read, slice_get_within, same_Some}
use Rattle.judge_pool.specs.declared.known.KnownLayer.{KnownLayer}
use Rattle.judge_pool.specs.Numbered.{letter_lists}
use Rattle.judge_pool.proofs.pool.Pool.layer_again.Goals as goal

pub list_at-next-requires : goal.list_at-next-requires
list_at-next-requires c =
    let p = c.args.self.now in
    let layer : KnownLayer = c.index-layer.result.now in
    let at : slice_get p.layers.items c.args.place ≡ Some layer =
    slice_get_read p.layers.items _ c.args.place layer refl c.requires.place c.index-layer.ensures in
    let known = c.requires.pool.layers c.args.place layer at in
    omega (
      arith,
      slice_get_within (letter_lists p) layer.next known.next known.listed,
      length-map p.letters.items (λ (v : Vec ℕ Global). v.items),
      ap (λ (vs : List (Vec ℕ Global)). length vs) c.as_slice-lists.ensures.value,
    )

pub returns-clause-next : goal.returns-clause-next
returns-clause-next c l at_l =
    let p = c.args.self.now in
    let layer : KnownLayer = c.index-layer.result.now in
    let at : slice_get p.layers.items c.args.place ≡ Some layer =
    slice_get_read p.layers.items _ c.args.place layer refl c.requires.place c.index-layer.ensures in
    ap (λ (k : KnownLayer). slice_get (letter_lists p) k.next) (same_Some l layer (sym at_l ∙ at))
    ∙ (ap (λ (vs : List (Vec ℕ Global)). slice_get (map (λ (v : Vec ℕ Global). v.items) vs) layer.next)
    (sym c.as_slice-lists.ensures.value)
    ∙ (c.list_at-next.ensures ∙ ap Some (sym c.in_ok-step.ensures.next)))

pub returns-clause-edges : goal.returns-clause-edges
returns-clause-edges c l at_l =
    let p = c.args.self.now in
    let layer : KnownLayer = c.index-layer.result.now in
    let at : slice_get p.layers.items c.args.place ≡ Some layer =
    slice_get_read p.layers.items _ c.args.place layer refl c.requires.place c.index-layer.ensures in
    c.in_ok-step.ensures.edges ∙ ap (λ (k : KnownLayer). k.edges) (same_Some layer l (sym at ∙ at_l))

pub returns-clause-noted : goal.returns-clause-noted
returns-clause-noted c =
    let p = c.args.self.now in
    let layer : KnownLayer = c.index-layer.result.now in
    ap (slice_get (letter_lists p)) c.in_ok-step.ensures.number
    ∙ (ap (λ (vs : List (Vec ℕ Global)). slice_get (map (λ (v : Vec ℕ Global). v.items) vs) layer.next)
    (sym c.as_slice-lists.ensures.value)
    ∙ (c.list_at-next.ensures ∙ ap Some (sym c.in_ok-step.ensures.next)))
