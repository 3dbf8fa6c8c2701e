use Rattle.std.proofs.Common.{◌≡◌, ℕ, refl, sym, subst}
use Rattle.station_graph.specs.Connection.{a_switch}
use Rattle.change_search.specs.Passing.{IsWideSwitchWalk}
use Rattle.dependence_search.proofs.width.narrow_excludes_wide.Goals as goal

pub returns : goal.returns
returns c d steps m limit all narrow wide =
    let same : narrow.place ≡ wide.place = all.once narrow.place wide.place (a_switch m) narrow.at wide.at in
    c.keeping_excludes_passing.ensures d d steps steps narrow.place m m limit all all refl narrow.keeps
    (subst (λ (p : ℕ). IsWideSwitchWalk d d steps steps p m m limit) (sym same) wide.wide)
