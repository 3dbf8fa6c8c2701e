use Rattle.std.proofs.Common.{◌≡◌, List, ℕ, length, slice_get, Some, None, refl, ap, ◌∙◌, sym, subst, rules}
use Rattle.std.specs.HashMap.Entry.{entry_value}
use Rattle.std.proofs.lemmas.Option.{slice_get_read, slice_get_within, same_Some}
use Rattle.contraction.proofs.RenamedLemmas.{renamed_well}
use Rattle.contraction.specs.Answers.{Answers, AreNodes, IsContraction}
use Rattle.contraction.specs.Renaming.{renamed}
use Rattle.judge_pool.specs.declared.pool.Pool.{Pool}
use Rattle.judge_pool.specs.Pooling.{number_in}
use Rattle.judge_pool.specs.Seen.{seen_row}
use Rattle.judge_pool.specs.Standing.{CanStand}
use Rattle.judge_pool.proofs.BatchLemmas.{index_other, value_grew, value_same}
use Rattle.judge_pool.proofs.PoolLemmas.{has_found}
use Rattle.judge_pool.proofs.StandLemmas.{on_made}
use Rattle.judge_pool.proofs.pool.Pool.find_or_place.Goals as goal

-- a value on nodes on which it can stand is a contraction
module _ (p : Pool) (keep id : ℕ) (can : CanStand p keep id) (x : Answers) (list : List ℕ)
    (at_x : slice_get p.values.items id ≡ Some x) (at_list : slice_get p.keeps.items keep ≡ Some list)
    (well : IsContraction x) where
  placed_well : IsContraction (renamed list x)
  placed_well =
      let is_x : can.x ≡ x = same_Some can.x x (sym can.listed ∙ at_x) in
      let is_list : can.nodes ≡ list = same_Some can.nodes list (sym can.at ∙ at_list) in
      renamed_well list x (subst AreNodes is_list can.are)
      (ap length (sym is_list) ∙ (can.count ∙ ap (λ (y : Answers). length y.kept) is_x)) well

pub returns-in-Occupied-clause-grew : goal.returns-in-Occupied-clause-grew
returns-in-Occupied-clause-grew c = index_other c.args.self.now _ refl c.requires.pool (search rules)

pub returns-in-Occupied-clause-on : goal.returns-in-Occupied-clause-on
returns-in-Occupied-clause-on c =
    let p = c.args.self.now in
    let stand = c.args.stand in
    let can = c.requires.can in
    let list : List ℕ = c.index.result.now in
    let at_list : slice_get p.keeps.items stand.keep ≡ Some list =
    slice_get_read p.keeps.items _ stand.keep list refl (slice_get_within p.keeps.items stand.keep can.nodes can.at)
    c.index.ensures in
    let x : Answers = c.index-value.result.now in
    let at_x : slice_get p.values.items stand.id ≡ Some x =
    slice_get_read p.values.items _ stand.id x refl (slice_get_within p.values.items stand.id can.x can.listed)
    c.index-value.ensures in
    let well : IsContraction (renamed list x) =
    placed_well p stand.keep stand.id can x list at_x at_list (c.requires.pool.well stand.id x at_x) in
    let row : c.in_ok-row.row ≡ seen_row p.view (renamed list x) =
    c.in_ok-row.ensures ∙ ap (λ l. seen_row p.view (renamed l x)) c.numbers-nodes.ensures in
    let t = c.get.result.now in
    let at : number_in p.index c.in_ok-row.row ≡ Some t =
    sym c.in_ok-entry.ensures.value ∙ (ap entry_value c.in-Occupied.is ∙ c.get.ensures) in
    on_made _ stand.keep stand.id t x (renamed list x) list at_x at_list refl
    (has_found p _ (renamed list x) t refl c.requires.pool well (subst (λ r. number_in p.index r ≡ Some t) row at))

pub returns-in_ok-push-in-Vacant-clause-grew : goal.returns-in_ok-push-in-Vacant-clause-grew
returns-in_ok-push-in-Vacant-clause-grew c =
    let p = c.args.self.now in
    let value : Answers = c.in_ok-placed-in-Vacant.placed in
    let row : c.in_ok-row.row ≡ seen_row p.view value =
    c.in_ok-row.ensures ∙ ap (seen_row p.view) (sym c.in_ok-placed-in-Vacant.ensures.renamed) in
    let none : number_in p.index c.in_ok-row.row ≡ None = search rules in
    value_grew p _ value refl c.in_ok-push-in-Vacant.ensures.items c.in_ok-placed-in-Vacant.ensures.contraction
    c.requires.pool (subst (λ r. number_in p.index r ≡ None) row none) (search (rules, row))

pub returns-in_ok-push-in-Vacant-clause-on : goal.returns-in_ok-push-in-Vacant-clause-on
returns-in_ok-push-in-Vacant-clause-on c =
    let p = c.args.self.now in
    let stand = c.args.stand in
    let can = c.requires.can in
    let list : List ℕ = c.index.result.now in
    let at_list : slice_get p.keeps.items stand.keep ≡ Some list =
    slice_get_read p.keeps.items _ stand.keep list refl (slice_get_within p.keeps.items stand.keep can.nodes can.at)
    c.index.ensures in
    let x : Answers = c.index-value.result.now in
    let at_x : slice_get p.values.items stand.id ≡ Some x =
    slice_get_read p.values.items _ stand.id x refl (slice_get_within p.values.items stand.id can.x can.listed)
    c.index-value.ensures in
    let value : Answers = c.in_ok-placed-in-Vacant.placed in
    let is : value ≡ renamed list x =
    c.in_ok-placed-in-Vacant.ensures.renamed ∙ ap (λ l. renamed l x) c.numbers-nodes.ensures in
    let t = c.len-place.result in
    let g = returns-in_ok-push-in-Vacant-clause-grew c in
    on_made _ stand.keep stand.id t x value list (g.values stand.id x at_x) (g.keeps stand.keep list at_list) is
    (value_same p _ value refl c.in_ok-push-in-Vacant.ensures.items c.in_ok-placed-in-Vacant.ensures.contraction t
    (search rules))
