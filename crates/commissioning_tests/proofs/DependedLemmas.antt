-- Layers that turn a release are layers on which the graph of the operation depends.
use Rattle.std.proofs.Common.{◌≡◌, ℕ, ◌<◌, Bool, false, true, List, length, get_or, slice_get, Option, sym, ap, ◌∙◌, subst}
use Rattle.std.proofs.Common.{arith, unwrap_or}
use Rattle.std.specs.Prelude.{◌↔◌, slice_index_or}
use Rattle.std.proofs.lemmas.Option.{unwrap_or-slice_get}
use Rattle.ilk_base.specs.declared.words.Direction.{Direction}
use Rattle.decision_graphs.specs.Label.{Layered, AreChoices, DependsOn}
use Rattle.graph_walks.specs.declared.codes.Codes.{Codes}
use Rattle.graph_walks.specs.Walks.{AreTwos, HasTwos}
use Rattle.dependence_search.specs.RuleWalks.{turned_at}
use Rattle.dependence_search.specs.Released.{IsReleasedOf}
use Rattle.dependence_search.proofs.GivenLemmas.{turned_elsewhere, twos_turned}
use Rattle.dependence_search.proofs.ReleasedLemmas.{label_turns, two_allowed}
use Rattle.commissioning_tests.specs.Growing.{AreTurnedLayers}

read_or : (xs : List ℕ) (i : ℕ) → unwrap_or (slice_get xs i) 0 ≡ get_or xs i 0
read_or xs i = unwrap_or-slice_get xs i 0

module _ (walk g : Layered) (codes : List Codes) (direction : Direction) (r : IsReleasedOf walk codes direction g) where
  fits : (cs : List ℕ) → AreTwos (length walk.layers) cs → AreChoices g.layers cs
  fits cs two =
      two_allowed g cs (subst (λ (n : ℕ). HasTwos n g) (sym r.choices.count) r.choices)
      (subst (λ (n : ℕ). AreTwos n cs) (sym r.choices.count) two)

  pub turned_marked : (layers : List Bool) → ((j : ℕ) → j < length g.layers →
      (slice_index_or layers j false ≡ true) ↔ DependsOn g j) → AreTurnedLayers walk codes direction layers
  turned_marked layers exact j cs lt two turning =
      let other : List ℕ = turned_at j cs in
      let other_two = twos_turned (length walk.layers) j cs two in
      (exact j (omega (arith, lt, r.choices.count))).1 (record {
        one = cs;
        other = other;
        one_fits = fits cs two;
        other_fits = fits other other_two;
        agree = λ i ne.
            sym (read_or cs i) ∙ (ap (λ (o : Option ℕ). unwrap_or o 0) (sym (turned_elsewhere j cs i ne)) ∙ read_or other i);
        labels_differ = label_turns walk codes direction g r j cs (omega (arith, lt)) two turning;
      })
