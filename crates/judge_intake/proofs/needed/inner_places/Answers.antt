use Rattle.std.proofs.Common.{◌≡◌, ◌+◌, ◌<◌, ◌≤◌, ◌++◌, ◌∷◌, [], ℕ, List, map, take, length, get_or, sym, ap, ◌∙◌}
use Rattle.std.proofs.Common.{subst, arith}
use Rattle.std.proofs.lemmas.List.{map-append, take_more, take_all}
use Rattle.std.proofs.lemmas.Option.{slice_get-get_or}
use Rattle.contraction.proofs.MergeLemmas.{few_nodes}
use Rattle.judge_pool.specs.Needing.{IsNeededInner}
use Rattle.judge_pool.specs.Places.{node_listed}
use Rattle.judge_intake.proofs.NodesLemmas.{NodesAmong, among_none, among_skip, among_push, among_exact}
use Rattle.judge_intake.proofs.PlacesLemmas.{node_at}
use Rattle.judge_intake.proofs.needed.inner_places.Goals as goal
use Rattle.judge_intake.proofs.needed.inner_places.Goals.{then-is_needed+in_ok-push, else-is_needed}

pub overflow_cast-k : goal.overflow_cast-k
overflow_cast-k c = omega (
  arith,
  few_nodes c.args.list.now c.requires.nodes,
  c.loop-k-test.true,
  ap length c.numbers-nodes.ensures,
)

pub loop-k-init : goal.loop-k-init
loop-k-init c =
    let f : ℕ → ℕ = node_listed c.args.list.now in
    let Kind : ℕ → Type 0 = IsNeededInner c.args.station.now c.args.moved c.args.first c.args.others c.args.from in
    subst (λ (ps : List ℕ). NodesAmong Kind [] (map f ps)) (sym c.new-places.ensures) (among_none Kind)

pub loop-k-preserved : goal.loop-k-preserved
loop-k-preserved c =
    let list : List ℕ = c.args.list.now in
    let f : ℕ → ℕ = node_listed list in
    let Kind : ℕ → Type 0 = IsNeededInner c.args.station.now c.args.moved c.args.first c.args.others c.args.from in
    let k = c.loop-k.k in
    let places : List ℕ = c.loop-k.places in
    let n : ℕ = get_or list k 0 in
    let k_in : k < length list = omega (arith, c.loop-k-test.true, ap length c.numbers-nodes.ensures) in
    let more : take (k + 1) list ≡ take k list ++ n ∷ [] = take_more list k 0 k_in in
    let here : get_or c.numbers-nodes.result.now k 0 ≡ n = ap (λ xs. get_or xs k 0) c.numbers-nodes.ensures in
    elim c.if-is_needed.branch [
      | then-is_needed+in_ok-push w ↦
          let listed : map f c.if-is_needed.places ≡ map f places ++ n ∷ [] =
          ap (map f) (let e : c.if-is_needed.places ≡ places ++ k ∷ [] = cc (w.places-is, w.in_ok-push.ensures.ok) in e)
          ∙ (map-append f places (k ∷ [])
          ∙ ap (λ m. map f places ++ m ∷ []) (node_at list k n (slice_get-get_or list k 0 k_in))) in
          subst (λ xs. NodesAmong Kind xs (map f c.if-is_needed.places)) (sym more)
          (among_push Kind (take k list) (map f places) (map f c.if-is_needed.places) n c.loop-k.invariant
          (subst (λ m. Kind m) here (c.is_needed.ensures.0 w.if-is_needed.true)) listed)
      | else-is_needed w ↦
          subst (λ (ps : List ℕ). NodesAmong Kind (take (k + 1) list) (map f ps)) (sym w.places-is)
          (subst (λ xs. NodesAmong Kind xs (map f places)) (sym more)
          (among_skip Kind (take k list) (map f places) n c.loop-k.invariant
          (λ h. (let t = c.is_needed.ensures.1 (subst (λ m. Kind m) (sym here) h) in cc (t, w.if-is_needed.false)))))
    ]

pub returns : goal.returns
returns c =
    let list : List ℕ = c.args.list.now in
    let f : ℕ → ℕ = node_listed list in
    let Kind : ℕ → Type 0 = IsNeededInner c.args.station.now c.args.moved c.args.first c.args.others c.args.from in
    let done : length list ≤ c.loop-k.k =
    omega (arith, c.loop-k.auto.k-end, c.loop-k-test.false, ap length c.numbers-nodes.ensures) in
    among_exact Kind list (map f c.loop-k.places)
    (subst (λ xs. NodesAmong Kind xs (map f c.loop-k.places)) (take_all c.loop-k.k list done) c.loop-k.invariant)
    c.requires.has
