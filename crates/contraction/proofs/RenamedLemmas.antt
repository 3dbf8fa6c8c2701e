-- A value on other nodes, as many as its own, is a contraction as well.
use Rattle.std.proofs.Common.{◌≡◌, ℕ, List, length, sym, ◌∙◌, subst}
use Rattle.contraction.specs.Answers.{Answers, AreNodes, IsContraction, AreLabels}
use Rattle.contraction.specs.Renaming.{renamed}

pub renamed_well : (n : List ℕ) (x : Answers) → AreNodes n → length n ≡ length x.kept → IsContraction x
    → IsContraction (renamed n x)
renamed_well n x nodes e w = record {
  nodes = nodes;
  coupled = subst (λ m. AreLabels m x.coupled) (sym e) w.coupled;
  joined = subst (λ m. AreLabels m x.joined) (sym e) w.joined;
  bonded = subst (λ m. AreLabels m x.bonded) (sym e) w.bonded;
  energisable = w.energisable ∙ sym e;
  earthable = w.earthable ∙ sym e;
  fed = w.fed ∙ sym e;
  loaded = w.loaded ∙ sym e;
  fed_loaded = w.fed_loaded;
}
