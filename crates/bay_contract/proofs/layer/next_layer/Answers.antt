use Rattle.std.proofs.Common.{◌≡◌, ◌*◌, ◌<◌, ◌≤◌, ℕ, List, length, slice_get, slice_index, sym, ◌∙◌, ap, subst, inl}
use Rattle.std.proofs.Common.{inr, arith}
use Rattle.contraction.specs.Answers.{Answers}
use Rattle.bay_contract.specs.Building.{Forked, Ranked}
use Rattle.bay_contract.specs.Turns.{AreTurned}
use Rattle.bay_contract.proofs.layer.next_layer.Goals as goal

pub sorted-requires-clause-kept : goal.sorted-requires-clause-kept
sorted-requires-clause-kept c = λ i x at. c.requires.kept i x (ap (λ (l : List Answers). slice_get l i)
    (sym c.deref.ensures.value) ∙ at)

pub fork_all-requires-clause-places : goal.fork_all-requires-clause-places
fork_all-requires-clause-places c =
    let ed : c.deref.result.now ≡ c.args.layer.now.values.items = c.deref.ensures.value in
    let sorted0 : AreTurned c.args.turn.now.kept c.args.turn.now.off c.args.turn.now.on c.args.layer.now.values.items
    c.in_ok-next.next.table.values.items c.in_ok-next.next.targets.items c.in_ok-next.next.origins.items
    (length c.in_ok-next.next.targets.items) = subst (λ
    (l : List Answers). AreTurned c.args.turn.now.kept c.args.turn.now.off c.args.turn.now.on l
    c.in_ok-next.next.table.values.items c.in_ok-next.next.targets.items c.in_ok-next.next.origins.items
    (length c.in_ok-next.next.targets.items)) ed c.in_ok-next.ensures.sorted in
    let count : length c.in_ok-next.next.targets.items ≡ 2 * length c.args.layer.now.values.items =
    elim c.in_ok-next.ensures.whole [
      | inl e ↦ omega (arith, e, ap length ed)
      | inr more ↦ absurd (omega
          (arith, more, c.if-len-limit.false, c.len.ensures, c.in_ok-next.next.table.values.ok.0))
    ] in
    let sorted : AreTurned c.args.turn.now.kept c.args.turn.now.off c.args.turn.now.on c.args.layer.now.values.items
    c.in_ok-next.next.table.values.items c.in_ok-next.next.targets.items c.in_ok-next.next.origins.items
    (2 * length c.args.layer.now.values.items) = subst
    (λ n. AreTurned c.args.turn.now.kept c.args.turn.now.off c.args.turn.now.on c.args.layer.now.values.items
    c.in_ok-next.next.table.values.items c.in_ok-next.next.targets.items c.in_ok-next.next.origins.items n) count
    sorted0 in
    let few : length c.in_ok-next.next.table.values.items ≤ c.args.limit = omega
    (arith, c.if-len-limit.false, c.len.ensures, c.in_ok-next.next.table.values.ok.0) in
    let e2 : c.len-2.result ≡ length c.args.layer.now.values.items = omega
    (arith, c.len-2.ensures, c.args.layer.now.values.ok.0) in
    let et : c.deref-2.result.now ≡ c.in_ok-next.next.targets.items = c.deref-2.ensures.value in
    omega (arith, ap length et)

pub fork_all-requires-clause-few : goal.fork_all-requires-clause-few
fork_all-requires-clause-few c =
    let e2 : c.len-2.result ≡ length c.args.layer.now.values.items = omega
    (arith, c.len-2.ensures, c.args.layer.now.values.ok.0) in
    omega (arith, c.requires.steps, c.requires.low, c.requires.few)

pub fork_all-requires-clause-small : goal.fork_all-requires-clause-small
fork_all-requires-clause-small c = λ s lt.
    let ed : c.deref.result.now ≡ c.args.layer.now.values.items = c.deref.ensures.value in
    let sorted0 : AreTurned c.args.turn.now.kept c.args.turn.now.off c.args.turn.now.on c.args.layer.now.values.items
    c.in_ok-next.next.table.values.items c.in_ok-next.next.targets.items c.in_ok-next.next.origins.items
    (length c.in_ok-next.next.targets.items) = subst (λ
    (l : List Answers). AreTurned c.args.turn.now.kept c.args.turn.now.off c.args.turn.now.on l
    c.in_ok-next.next.table.values.items c.in_ok-next.next.targets.items c.in_ok-next.next.origins.items
    (length c.in_ok-next.next.targets.items)) ed c.in_ok-next.ensures.sorted in
    let count : length c.in_ok-next.next.targets.items ≡ 2 * length c.args.layer.now.values.items =
    elim c.in_ok-next.ensures.whole [
      | inl e ↦ omega (arith, e, ap length ed)
      | inr more ↦ absurd (omega
          (arith, more, c.if-len-limit.false, c.len.ensures, c.in_ok-next.next.table.values.ok.0))
    ] in
    let sorted : AreTurned c.args.turn.now.kept c.args.turn.now.off c.args.turn.now.on c.args.layer.now.values.items
    c.in_ok-next.next.table.values.items c.in_ok-next.next.targets.items c.in_ok-next.next.origins.items
    (2 * length c.args.layer.now.values.items) = subst
    (λ n. AreTurned c.args.turn.now.kept c.args.turn.now.off c.args.turn.now.on c.args.layer.now.values.items
    c.in_ok-next.next.table.values.items c.in_ok-next.next.targets.items c.in_ok-next.next.origins.items n) count
    sorted0 in
    let few : length c.in_ok-next.next.table.values.items ≤ c.args.limit = omega
    (arith, c.if-len-limit.false, c.len.ensures, c.in_ok-next.next.table.values.ok.0) in
    let e2 : c.len-2.result ≡ length c.args.layer.now.values.items = omega
    (arith, c.len-2.ensures, c.args.layer.now.values.ok.0) in
    let et : c.deref-2.result.now ≡ c.in_ok-next.next.targets.items = c.deref-2.ensures.value in
    let here : slice_index c.deref-2.result.now s ≡ slice_index c.in_ok-next.next.targets.items s = ap (λ
    (l : List ℕ). slice_index l s) et in
    let in_places : s < 2 * length c.args.layer.now.values.items = omega (arith, ap length et) in
    omega (arith, sorted.target_in s in_places, c.requires.limit)

pub ranks_after-requires-clause-inside : goal.ranks_after-requires-clause-inside
ranks_after-requires-clause-inside c = λ n lt.
    let ed : c.deref.result.now ≡ c.args.layer.now.values.items = c.deref.ensures.value in
    let sorted0 : AreTurned c.args.turn.now.kept c.args.turn.now.off c.args.turn.now.on c.args.layer.now.values.items
    c.in_ok-next.next.table.values.items c.in_ok-next.next.targets.items c.in_ok-next.next.origins.items
    (length c.in_ok-next.next.targets.items) = subst (λ
    (l : List Answers). AreTurned c.args.turn.now.kept c.args.turn.now.off c.args.turn.now.on l
    c.in_ok-next.next.table.values.items c.in_ok-next.next.targets.items c.in_ok-next.next.origins.items
    (length c.in_ok-next.next.targets.items)) ed c.in_ok-next.ensures.sorted in
    let count : length c.in_ok-next.next.targets.items ≡ 2 * length c.args.layer.now.values.items =
    elim c.in_ok-next.ensures.whole [
      | inl e ↦ omega (arith, e, ap length ed)
      | inr more ↦ absurd (omega
          (arith, more, c.if-len-limit.false, c.len.ensures, c.in_ok-next.next.table.values.ok.0))
    ] in
    let sorted : AreTurned c.args.turn.now.kept c.args.turn.now.off c.args.turn.now.on c.args.layer.now.values.items
    c.in_ok-next.next.table.values.items c.in_ok-next.next.targets.items c.in_ok-next.next.origins.items
    (2 * length c.args.layer.now.values.items) = subst
    (λ n. AreTurned c.args.turn.now.kept c.args.turn.now.off c.args.turn.now.on c.args.layer.now.values.items
    c.in_ok-next.next.table.values.items c.in_ok-next.next.targets.items c.in_ok-next.next.origins.items n) count
    sorted0 in
    let few : length c.in_ok-next.next.table.values.items ≤ c.args.limit = omega
    (arith, c.if-len-limit.false, c.len.ensures, c.in_ok-next.next.table.values.ok.0) in
    let e2 : c.len-2.result ≡ length c.args.layer.now.values.items = omega
    (arith, c.len-2.ensures, c.args.layer.now.values.ok.0) in
    let et : c.deref-2.result.now ≡ c.in_ok-next.next.targets.items = c.deref-2.ensures.value in
    let eo : c.deref-4.result.now ≡ c.in_ok-next.next.origins.items = c.deref-4.ensures.value in
    let er : c.deref-3.result.now ≡ c.args.layer.now.ranks.items = c.deref-3.ensures.value in
    let here : slice_index c.deref-4.result.now n ≡ slice_index c.in_ok-next.next.origins.items n = ap (λ
    (l : List ℕ). slice_index l n) eo in
    let in_news : n < length c.in_ok-next.next.table.values.items = omega (arith, ap length eo, sorted.origins_count) in
    omega (arith, sorted.origin_in n in_news, ap length er, c.requires.ranks)

pub ranks_after-requires-clause-small : goal.ranks_after-requires-clause-small
ranks_after-requires-clause-small c = λ i lt.
    let er : c.deref-3.result.now ≡ c.args.layer.now.ranks.items = c.deref-3.ensures.value in
    let here : slice_index c.deref-3.result.now i ≡ slice_index c.args.layer.now.ranks.items i = ap (λ
    (l : List ℕ). slice_index l i) er in
    omega (arith, c.requires.small i (omega (arith, ap length er)))

pub returns-then-len-limit-clause-past : goal.returns-then-len-limit-clause-past
returns-then-len-limit-clause-past c =
    let ed : c.deref.result.now ≡ c.args.layer.now.values.items = c.deref.ensures.value in
    let sorted0 : AreTurned c.args.turn.now.kept c.args.turn.now.off c.args.turn.now.on c.args.layer.now.values.items
    c.in_ok-next.next.table.values.items c.in_ok-next.next.targets.items c.in_ok-next.next.origins.items
    (length c.in_ok-next.next.targets.items) = subst (λ
    (l : List Answers). AreTurned c.args.turn.now.kept c.args.turn.now.off c.args.turn.now.on l
    c.in_ok-next.next.table.values.items c.in_ok-next.next.targets.items c.in_ok-next.next.origins.items
    (length c.in_ok-next.next.targets.items)) ed c.in_ok-next.ensures.sorted in
    record {
      news = c.in_ok-next.next.table.values.items;
      targets = c.in_ok-next.next.targets.items;
      origins = c.in_ok-next.next.origins.items;
      places = length c.in_ok-next.next.targets.items;
      most = omega (arith, c.in_ok-next.ensures.within, ap length ed);
      sorted = sorted0;
      past = omega (arith, c.if-len-limit.true, c.len.ensures, c.in_ok-next.next.table.values.ok.0);
    }

pub returns-clause-next : goal.returns-clause-next
returns-clause-next c =
    let ed : c.deref.result.now ≡ c.args.layer.now.values.items = c.deref.ensures.value in
    let sorted0 : AreTurned c.args.turn.now.kept c.args.turn.now.off c.args.turn.now.on c.args.layer.now.values.items
    c.in_ok-next.next.table.values.items c.in_ok-next.next.targets.items c.in_ok-next.next.origins.items
    (length c.in_ok-next.next.targets.items) = subst (λ
    (l : List Answers). AreTurned c.args.turn.now.kept c.args.turn.now.off c.args.turn.now.on l
    c.in_ok-next.next.table.values.items c.in_ok-next.next.targets.items c.in_ok-next.next.origins.items
    (length c.in_ok-next.next.targets.items)) ed c.in_ok-next.ensures.sorted in
    let count : length c.in_ok-next.next.targets.items ≡ 2 * length c.args.layer.now.values.items =
    elim c.in_ok-next.ensures.whole [
      | inl e ↦ omega (arith, e, ap length ed)
      | inr more ↦ absurd (omega
          (arith, more, c.if-len-limit.false, c.len.ensures, c.in_ok-next.next.table.values.ok.0))
    ] in
    let sorted : AreTurned c.args.turn.now.kept c.args.turn.now.off c.args.turn.now.on c.args.layer.now.values.items
    c.in_ok-next.next.table.values.items c.in_ok-next.next.targets.items c.in_ok-next.next.origins.items
    (2 * length c.args.layer.now.values.items) = subst
    (λ n. AreTurned c.args.turn.now.kept c.args.turn.now.off c.args.turn.now.on c.args.layer.now.values.items
    c.in_ok-next.next.table.values.items c.in_ok-next.next.targets.items c.in_ok-next.next.origins.items n) count
    sorted0 in
    let few : length c.in_ok-next.next.table.values.items ≤ c.args.limit = omega
    (arith, c.if-len-limit.false, c.len.ensures, c.in_ok-next.next.table.values.ok.0) in
    let e2 : c.len-2.result ≡ length c.args.layer.now.values.items = omega
    (arith, c.len-2.ensures, c.args.layer.now.values.ok.0) in
    let et : c.deref-2.result.now ≡ c.in_ok-next.next.targets.items = c.deref-2.ensures.value in
    let forked : Forked c.args.j
    (length c.args.layer.now.values.items) c.in_ok-next.next.targets.items c.args.forks.now.items
    c.fork_all.new.forks.items = subst
    (λ n. Forked c.args.j n c.in_ok-next.next.targets.items c.args.forks.now.items c.fork_all.new.forks.items) e2
    (subst (λ (l : List ℕ). Forked c.args.j c.len-2.result l c.args.forks.now.items c.fork_all.new.forks.items)
    et c.in_ok-fork_all.ensures) in
    let ranked : Ranked c.args.layer.now.ranks.items c.in_ok-next.next.origins.items c.in_ok-ranks.ranks.items = subst
    (λ (l : List ℕ). Ranked l c.in_ok-next.next.origins.items c.in_ok-ranks.ranks.items) c.deref-3.ensures.value
    (subst (λ (l : List ℕ). Ranked c.deref-3.result.now l c.in_ok-ranks.ranks.items) c.deref-4.ensures.value
    c.in_ok-ranks.ensures) in
    record {
      targets = c.in_ok-next.next.targets.items;
      origins = c.in_ok-next.next.origins.items;
      sorted = sorted;
      forked = forked;
      ranked = ranked;
    }
