use Rattle.std.proofs.Common.{◌≡◌, List, ℕ, get_or, slice_get, Some, ap, sym, ◌∙◌}
use Rattle.std.proofs.lemmas.Option.{slice_get-get_or}
use Rattle.contraction.specs.Answers.{Answers}
use Rattle.judge_pool.proofs.LyingLemmas.{read_at, reach_in, inside_of, lies_before}
use Rattle.judge_pool.proofs.pool.Pool.lie.Goals as goal

pub lie_in_places-requires-clause-inside : goal.lie_in_places-requires-clause-inside
lie_in_places-requires-clause-inside c =
    let p = c.args.self.now in
    let s = c.in_ok-selection.selection in
    let named = c.in_ok-selection.ensures in
    let asked : List ℕ = c.index-2.result.now in
    let at : slice_get p.keeps.items c.args.keep ≡ Some s.nodes =
    read_at p.keeps.items c.args.keep asked c.requires.keep c.index-2.ensures ∙ ap Some (sym named.nodes) in
    let row = c.args.row.now in
    let y : Answers = c.index.result.now in
    let i_in = c.requires.row_in 0 (get_or row 0 0) (slice_get-get_or row 0 0 c.requires.some) in
    let at_y = read_at p.values.items (get_or row 0 0) y i_in c.index.ensures in
    inside_of p c.args.keep c.args.kept.now row s.first s.nodes at named.first c.requires.reach c.requires.some s.second
    y at_y (named.second ∙ c.nodes-second.ensures.nodes)

pub returns-then-all_keep-clause-lies : goal.returns-then-all_keep-clause-lies
returns-then-all_keep-clause-lies c =
    let p = c.args.self.now in
    let s = c.in_ok-selection.selection in
    let named = c.in_ok-selection.ensures in
    let asked : List ℕ = c.index-2.result.now in
    let at : slice_get p.keeps.items c.args.keep ≡ Some s.nodes =
    read_at p.keeps.items c.args.keep asked c.requires.keep c.index-2.ensures ∙ ap Some (sym named.nodes) in
    lies_before p c.args.keep c.args.kept.now c.args.row.now s.first s.nodes at named.first c.lie_in_places.new.self
    c.args.states.now c.lie_in_places.result c.lie_in_places.ensures.lies

pub lie_on_nodes-requires-clause-keep : goal.lie_on_nodes-requires-clause-keep
lie_on_nodes-requires-clause-keep c =
    let p = c.args.self.now in
    let named = c.in_ok-selection.ensures in
    let asked : List ℕ = c.index-2.result.now in
    read_at p.keeps.items c.args.keep asked c.requires.keep c.index-2.ensures ∙ ap Some (sym named.nodes)

pub lie_on_nodes-requires-clause-inside : goal.lie_on_nodes-requires-clause-inside
lie_on_nodes-requires-clause-inside c =
    let p = c.args.self.now in
    let s = c.in_ok-selection.selection in
    let named = c.in_ok-selection.ensures in
    let asked : List ℕ = c.index-2.result.now in
    let at : slice_get p.keeps.items c.args.keep ≡ Some s.nodes =
    read_at p.keeps.items c.args.keep asked c.requires.keep c.index-2.ensures ∙ ap Some (sym named.nodes) in
    let row = c.args.row.now in
    let y : Answers = c.index.result.now in
    let i_in = c.requires.row_in 0 (get_or row 0 0) (slice_get-get_or row 0 0 c.requires.some) in
    let at_y = read_at p.values.items (get_or row 0 0) y i_in c.index.ensures in
    inside_of p c.args.keep c.args.kept.now row s.first s.nodes at named.first c.requires.reach c.requires.some s.second
    y at_y (named.second ∙ c.nodes-second.ensures.nodes)

pub lie_on_nodes-requires-clause-reach : goal.lie_on_nodes-requires-clause-reach
lie_on_nodes-requires-clause-reach c =
    let p = c.args.self.now in
    let s = c.in_ok-selection.selection in
    let named = c.in_ok-selection.ensures in
    let asked : List ℕ = c.index-2.result.now in
    let at : slice_get p.keeps.items c.args.keep ≡ Some s.nodes =
    read_at p.keeps.items c.args.keep asked c.requires.keep c.index-2.ensures ∙ ap Some (sym named.nodes) in
    reach_in p c.args.keep c.args.kept.now c.args.row.now s.first s.nodes at named.first c.requires.reach

pub returns-clause-lies : goal.returns-clause-lies
returns-clause-lies c =
    let p = c.args.self.now in
    let s = c.in_ok-selection.selection in
    let named = c.in_ok-selection.ensures in
    let asked : List ℕ = c.index-2.result.now in
    let at : slice_get p.keeps.items c.args.keep ≡ Some s.nodes =
    read_at p.keeps.items c.args.keep asked c.requires.keep c.index-2.ensures ∙ ap Some (sym named.nodes) in
    lies_before p c.args.keep c.args.kept.now c.args.row.now s.first s.nodes at named.first c.lie_on_nodes.new.self
    c.args.states.now c.lie_on_nodes.result c.lie_on_nodes.ensures.lies
