-- The steps that lines name, line by line.
use Rattle.std.proofs.Common.{◌≡◌, ◌∙◌, sym, ap, subst, refl, ℕ, zero, suc, ◌+◌, List, [], ◌∷◌, ◌++◌, length, take}
use Rattle.std.proofs.Common.{drop, add-one, Some}
use Rattle.std.proofs.lemmas.List.{length-append}
use Rattle.std.specs.Prelude.{slice_get}
use Rattle.ilk_base.specs.declared.words.Op.{Op}
use Rattle.station_graph.specs.Diagram.{Diagram}
use Rattle.operation_lines.specs.OperationLines.{NamesOperation}
use Rattle.switching_orders.specs.OrderLines.{NameSteps}
use Rattle.switching_orders.proofs.Steps.{take-next}

-- what is left of a list begins with this element
pub record Next {X : Type 0} (all : List X) (k : ℕ) (x : X) (rest : List X) : Type 0 where
  pub at : slice_get all k ≡ Some x
  pub taken : take (k + 1) all ≡ take k all ++ x ∷ []
  pub left : drop (k + 1) all ≡ rest

drop-suc : {X : Type 0} (all : List X) (k : ℕ) (x : X) (rest : List X) → drop k all ≡ x ∷ rest →
    (slice_get all k ≡ Some x) × (drop (suc k) all ≡ rest)
drop-suc [] zero x rest left = absurd (cc)
drop-suc [] (suc k) x rest left = absurd (cc)
drop-suc (y ∷ all) zero x rest left = (cc, cc)
drop-suc (y ∷ all) (suc k) x rest left = drop-suc all k x rest left

pub next : {X : Type 0} (all : List X) (k : ℕ) (x : X) (rest : List X) → drop k all ≡ x ∷ rest → Next all k x rest
next all k x rest left =
    let h = drop-suc all k x rest left in
    record { at = h.0; taken = take-next all k x h.0; left = ap (λ n. drop n all) (add-one k) ∙ h.1 }

NameSteps-push : (d : Diagram) (lines : List (ℕ × List ℕ)) (ops : List Op) (line : ℕ × List ℕ) (op : Op) →
    NameSteps d lines ops → NamesOperation d line.1 op → NameSteps d (lines ++ line ∷ []) (ops ++ op ∷ [])
NameSteps-push d [] [] line op steps last = (last, tt)
NameSteps-push d [] (x ∷ ops) line op steps last = absurd steps
NameSteps-push d (l ∷ lines) [] line op steps last = absurd steps
NameSteps-push d (l ∷ lines) (x ∷ ops) line op steps last = (steps.0, NameSteps-push d lines ops line op steps.1 last)

pub nothing_left : {X : Type 0} (all : List X) (k : ℕ) → drop k all ≡ [] → take k all ≡ all
nothing_left [] zero left = refl
nothing_left [] (suc k) left = refl
nothing_left (x ∷ all) zero left = absurd (cc)
nothing_left (x ∷ all) (suc k) left = ap (λ zs. x ∷ zs) (nothing_left all k left)

-- after one more line, which names a step
pub one_step_more : (d : Diagram) (all : List (ℕ × List ℕ)) (ops more : List Op) (line : ℕ × List ℕ) (op : Op)
    (rest : List (ℕ × List ℕ)) → more ≡ ops ++ op ∷ [] → drop (length ops) all ≡ line ∷ rest →
    NameSteps d (take (length ops) all) ops → NamesOperation d line.1 op
    → NameSteps d (take (length more) all) more × (rest ≡ drop (length more) all)
one_step_more d all ops more line op rest pushed left steps named =
    let n = next all (length ops) line rest left in
    let count : length more ≡ length ops + 1 = ap length pushed ∙ length-append ops (op ∷ []) in (
      subst (NameSteps d (take (length more) all)) (sym pushed)
          (subst (λ taken. NameSteps d taken (ops ++ op ∷ [])) (sym (ap (λ m. take m all) count ∙ n.taken))
          (NameSteps-push d _ ops line op steps named)),
      sym n.left ∙ ap (λ m. drop m all) (sym count),
    )
