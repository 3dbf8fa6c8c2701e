use Rattle.std.proofs.Common.{subst}
use Rattle.station_graph.specs.Diagram.{Diagram}
use Rattle.station_equations.specs.EquationForm.{AreEquations}
use Rattle.station_equations.specs.NodeCount.{HaveFewNodes, HaveFewLines}
use Rattle.station_equations.specs.Compiling.{AreExact, HaveFewSteps}
use Rattle.station_equations.proofs.compile.compile_text.Goals as goal

pub returns : goal.returns
returns c =
    let e = c.in_ok-equations.equations in
    let made = c.in_ok-equations.ensures in
    let same = c.requires.same in
    record {
      lines = e;
      says = record { are = subst (λ (d : Diagram). AreEquations d e) same made.of_station; is = c.in_ok-text.ensures };
      exact = subst (λ (d : Diagram). AreExact d e) same made.exact;
      steps = subst (λ (d : Diagram). HaveFewSteps d e) same made.steps;
      nodes = subst (λ (d : Diagram). HaveFewNodes d e) same made.nodes;
      all = subst (λ (d : Diagram). HaveFewLines d e) same made.all;
    }
