use Rattle.std.proofs.Common.{◌≡◌, ◌++◌, ◌+◌, ◌∷◌, [], refl, sym, ap, ◌∙◌, List}
use Rattle.ilk_base.specs.declared.words.Op.{Op}
use Rattle.release_dependence.specs.Operations.{opening}
use Rattle.commissioning_tests.specs.Listed.{operations_from}
use Rattle.commissioning_tests.proofs.ListLemmas.{operations_more}
use Rattle.commissioning_tests.proofs.operations.operations_of.Goals as goal

pushed : (xs : List Op) (a b : Op) → (xs ++ a ∷ []) ++ b ∷ [] ≡ xs ++ a ∷ b ∷ []
pushed [] a b = refl
pushed (x ∷ xs) a b = ap (λ l. x ∷ l) (pushed xs a b)

two : (xs ys zs : List Op) (a b : Op) → zs ≡ ys ++ b ∷ [] → ys ≡ xs ++ a ∷ [] → zs ≡ xs ++ a ∷ b ∷ []
two xs ys zs a b e f = e ∙ (ap (λ l. l ++ b ∷ []) f ∙ pushed xs a b)

pub loop-i-preserved : goal.loop-i-preserved
loop-i-preserved c =
    two c.loop-i.operations.items c.push.new.self.items c.push-in-loop-i.new.self.items c.operation.result
    c.operation-in-loop-i.result c.in_ok-push-2.ensures.items c.in_ok-push.ensures.items
    ∙ (ap (λ (l : List Op). l ++ c.operation.result ∷ c.operation-in-loop-i.result ∷ []) c.loop-i.invariant
    ∙ (ap (λ (o : Op). operations_from c.args.first.0 c.loop-i.i ++ o ∷ c.operation-in-loop-i.result ∷ [])
    c.operation.ensures
    ∙ (ap (λ (o : Op). operations_from c.args.first.0 c.loop-i.i ++ opening (c.args.first.0 + c.loop-i.i) ∷ o ∷ [])
    c.operation-in-loop-i.ensures ∙ sym (operations_more c.args.first.0 c.loop-i.i))))
