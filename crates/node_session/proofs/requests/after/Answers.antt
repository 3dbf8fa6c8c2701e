use Rattle.std.proofs.Common.{◌≡◌, ◌≢◌, ◌++◌, List, ℕ, Option, Some, None, Bor}
use Rattle.std.specs.Prelude.{MatchOption, IfSome, IfNone}
use Rattle.std.proofs.lemmas.Slice.Eq.{strip_prefix_is}
use Rattle.std.proofs.lemmas.Bool.Decides.{Decides-eqb}
use Rattle.node_session.proofs.requests.after.Goals as goal

module _ (line head : List ℕ) where
  on_some : (r : Option (Bor (List ℕ))) →
      MatchOption r ((rest : List ℕ) → line ≢ head ++ rest) (λ rest. line ≡ head ++ rest.now) →
      IfSome r (λ rest. line ≡ head ++ rest.now)
  on_some None both = tt
  on_some (Some x) both = both

  on_none : (r : Option (Bor (List ℕ))) →
      MatchOption r ((rest : List ℕ) → line ≢ head ++ rest) (λ rest. line ≡ head ++ rest.now) →
      IfNone r ((rest : List ℕ) → line ≢ head ++ rest)
  on_none None both = both
  on_none (Some x) both = tt

pub returns-clause-some : goal.returns-clause-some
returns-clause-some c =
    on_some c.args.line.now c.args.head.now c.strip_prefix.result
    (strip_prefix_is Decides-eqb c.args.line.now c.args.head.now c.strip_prefix.result c.strip_prefix.ensures.cases)

pub returns-clause-none : goal.returns-clause-none
returns-clause-none c =
    on_none c.args.line.now c.args.head.now c.strip_prefix.result
    (strip_prefix_is Decides-eqb c.args.line.now c.args.head.now c.strip_prefix.result c.strip_prefix.ensures.cases)
