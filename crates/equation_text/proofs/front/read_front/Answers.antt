use Rattle.std.proofs.Common.{◌∙◌, List, ℕ, sym, subst}
use Rattle.equation_text.specs.Faults.{EndsInLf}
use Rattle.equation_text.proofs.WholeText.{front_whole}
use Rattle.equation_text.proofs.front.read_front.Goals as goal

pub pass_lines-requires : goal.pass_lines-requires
pass_lines-requires c = subst (λ (z : List ℕ). EndsInLf z) (sym (c.bytes.ensures ∙ c.in_ok-front.ensures))
    (front_whole c.args.station.now)
