use Rattle.std.proofs.Common.{refl, ap, ◌∙◌, ◌∷◌, []}
use Rattle.bay_node.proofs.node.Node.answer_to.Goals as goal

pub returns-clause-step : goal.returns-clause-step
returns-clause-step g c =
    record {
      summary = c.in_ok-summary.summary;
      of_words = rw (← c.self.view_is) c.in_ok-summary.ensures;
      end = record {
        state = rw (← c.self.view_is) refl;
        says = c.in_ok-output.ensures.0;
        sends = c.in_ok-output.ensures.1 ∙ ap (λ x. x ∷ []) c.frame_to.ensures;
      };
    }
