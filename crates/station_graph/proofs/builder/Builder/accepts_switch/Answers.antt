use Rattle.std.proofs.Common.{◌≡◌, ℕ, List, Contains, subst, sym, ◌∙◌, rules}
use Rattle.station_graph.specs.Diagram.{Diagram}
use Rattle.station_graph.specs.Building.{path_in_part}
use Rattle.station_graph.proofs.builder.Builder.accepts_switch.Goals as goal

pub returns : goal.returns
returns c =
    let d = c.args.self.now in
    let path = path_in_part d c.args.item.bay.0 c.args.name.now in
    let same : c.as_str.result.now ≡ path = c.as_str.ensures.value ∙ c.in_ok-path.ensures.path in
    let paths_same = c.self.view_is in (
      λ e. record {
        fits = c.switch_fits.ensures.0 (search rules);
        order = c.follows_last.ensures.0 (search rules);
        new = λ there.
            c.is_new.ensures.0 e (subst (λ (q : List ℕ). Contains c.self.inside.switch_paths q) (sym same)
            (subst (λ (e : Diagram). Contains e.switch_paths path) (sym paths_same) there));
      },
      λ a. c.is_new.ensures.1 (λ there.
          a.new (subst (λ (e : Diagram). Contains e.switch_paths path) paths_same
          (subst (λ (q : List ℕ). Contains c.self.inside.switch_paths q) same there))),
    )
