use Rattle.std.proofs.Common.{◌≡◌, ◌+◌, ◌<◌, ◌≤◌, ◌++◌, ◌∷◌, [], ℕ, List, take, length, get_or, sym, ap, subst, arith}
use Rattle.std.proofs.lemmas.List.{take_more, take_all}
use Rattle.judge_pool.specs.Needing.{IsNeededOuter}
use Rattle.judge_intake.proofs.NodesLemmas.{NodesAmong, among_none, among_skip, among_push, among_exact}
use Rattle.judge_intake.proofs.NodesLemmas.{shared_by_first}
use Rattle.judge_intake.proofs.needed.outer_nodes.Goals as goal
use Rattle.judge_intake.proofs.needed.outer_nodes.Goals.{then-is_needed_between+in_ok-push, else-is_needed_between}

pub is_needed_between-requires-clause-shared : goal.is_needed_between-requires-clause-shared
is_needed_between-requires-clause-shared c = rw c.deref.ensures.value c.requires.sharing.parts

pub loop-k-init : goal.loop-k-init
loop-k-init c =
    let Kind : ℕ → Type 0 = IsNeededOuter c.args.station.now c.args.bay.0 c.args.place in
    subst (λ (l : List ℕ). NodesAmong Kind [] l) (sym c.new-nodes.ensures) (among_none Kind)

pub loop-k-preserved : goal.loop-k-preserved
loop-k-preserved c =
    let all : List ℕ = c.args.sharing.now.all in
    let Kind : ℕ → Type 0 = IsNeededOuter c.args.station.now c.args.bay.0 c.args.place in
    let k = c.loop-k.k in
    let n : ℕ = get_or all k 0 in
    let k_in : k < length all = omega (arith, c.loop-k-test.true, ap length c.numbers-all.ensures) in
    let more : take (k + 1) all ≡ take k all ++ n ∷ [] = take_more all k 0 k_in in
    let here : get_or c.numbers-all.result.now k 0 ≡ n = ap (λ xs. get_or xs k 0) c.numbers-all.ensures in
    elim c.if-is_needed_between.branch [
      | then-is_needed_between+in_ok-push w ↦
          let pushed : c.if-is_needed_between.nodes ≡ c.loop-k.nodes ++ n ∷ [] =
          cc (w.nodes-is, w.in_ok-push.ensures.ok, here) in
          subst (λ xs. NodesAmong Kind xs c.if-is_needed_between.nodes) (sym more)
          (among_push Kind (take k all) c.loop-k.nodes c.if-is_needed_between.nodes n c.loop-k.invariant
          (subst (λ m. Kind m) here (c.is_needed_between.ensures.0 w.if-is_needed_between.true)) pushed)
      | else-is_needed_between w ↦
          subst (λ (l : List ℕ). NodesAmong Kind (take (k + 1) all) l) (sym w.nodes-is)
          (subst (λ xs. NodesAmong Kind xs c.loop-k.nodes) (sym more)
          (among_skip Kind (take k all) c.loop-k.nodes n c.loop-k.invariant (λ h.
          (let t = c.is_needed_between.ensures.1 (subst (λ m. Kind m) (sym here) h) in
          cc (t, w.if-is_needed_between.false)))))
    ]

pub returns : goal.returns
returns c =
    let d = c.args.station.now in
    let all : List ℕ = c.args.sharing.now.all in
    let Kind : ℕ → Type 0 = IsNeededOuter d c.args.bay.0 c.args.place in
    let done : length all ≤ c.loop-k.k =
    omega (arith, c.loop-k.auto.k-end, c.loop-k-test.false, ap length c.numbers-all.ensures) in
    among_exact Kind all c.loop-k.nodes
    (subst (λ xs. NodesAmong Kind xs c.loop-k.nodes) (take_all c.loop-k.k all done) c.loop-k.invariant) (λ n need.
    (c.requires.sharing.all n).1
    (shared_by_first d c.args.sharing.now.parts.items c.args.bay.0 c.args.others c.args.place n
    c.part_count-count.ensures.station c.requires.sharing.parts c.requires.count c.requires.bay need))
