use Rattle.std.proofs.Common.{◌≡◌, ◌<◌, ℕ, zero, suc, List, [], ◌∷◌, length, take, get_or, slice_get, Some, IsTrue, true, rules}
use Rattle.std.proofs.Common.{refl, sym, subst, arith}
use Rattle.std.proofs.lemmas.Option.{slice_get_within, slice_get-get_or, slice_get_read}
use Rattle.judge_pool.specs.declared.pool.Pool.{Pool}
use Rattle.judge_pool.specs.Lying.{AllKeepAs}
use Rattle.judge_pool.specs.Standing.{ListIsOn}
use Rattle.judge_pool.proofs.BatchLemmas.{list_stands_other}
use Rattle.judge_pool.proofs.OwnLemmas.{own_list}
use Rattle.judge_pool.proofs.pool.Pool.note_own_list.Goals as goal

front : (ids : List ℕ) (k i : ℕ) → slice_get (take 1 ids) k ≡ Some i → slice_get ids k ≡ Some i
front [] k i e = e
front (x ∷ xs) zero i e = e
front (x ∷ xs) (suc k) i e = cc

first_of : (ids : List ℕ) (i : ℕ) → slice_get ids 0 ≡ Some i → slice_get (take 1 ids) 0 ≡ Some i
first_of [] i e = e
first_of (x ∷ xs) i e = e

pub all_keep-requires : goal.all_keep-requires
all_keep-requires c k i at =
    let p = c.args.self.now in
    let w = c.requires.kept k i (front c.args.ids.now k i at) in
    subst (λ vs. i < length vs) (sym c.deref.ensures.value) (slice_get_within p.values.items i w.x w.listed)

pub returns-then-all_keep : goal.returns-then-all_keep
returns-then-all_keep c =
    let p = c.args.self.now in
    let own = c.args.own in
    let ids : List ℕ = c.args.ids.now in
    let nodes : List ℕ = c.index.result.now in
    let at : slice_get p.keeps.items own.keep ≡ Some nodes =
    slice_get_read p.keeps.items _ own.keep nodes refl c.requires.keep c.index.ensures in
    let holds : IsTrue true = search rules in
    let told : AllKeepAs c.deref.result.now (take 1 ids) c.numbers-nodes.result.now =
    c.all_keep.ensures (subst IsTrue (sym c.if-all_keep.true) holds) in
    let all : AllKeepAs p.values.items (take 1 ids) nodes =
    subst (λ vs. AllKeepAs vs (take 1 ids) nodes) c.deref.ensures.value
    (subst (λ (ns : List ℕ). AllKeepAs c.deref.result.now (take 1 ids) ns) c.numbers-nodes.ensures told) in
    let some : 0 < length ids = grind (arith, c.is_empty.ensures, c.if-is_empty.false) in
    let first = get_or ids 0 0 in
    let at_first : slice_get ids 0 ≡ Some first = slice_get-get_or ids 0 0 some in
    let is : ListIsOn p own.keep own.list own.list = record {
      ids = ids;
      ts = ids;
      before = c.requires.listed;
      behind = c.requires.listed;
      on =
          own_list p c.requires.pool own.keep ids nodes at c.requires.kept first at_first
          (λ x at_x. all 0 first x (first_of ids first at_first) at_x);
    } in
    let r : Pool = record p { list_stands = c.note_list_stand.new.notes } in
    list_stands_other p r c.requires.pool (c.in_ok-note_list_stand.ensures p c.requires.pool.list_stands is)
