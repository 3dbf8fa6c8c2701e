-- Texts that are made place by place.
use Rattle.std.proofs.Common.{◌≡◌, ◌++◌, ℕ, ◌+◌, ◌<◌, suc, List, length, get_or, slice_get, Some, sym, ap, ◌∙◌, arith}
use Rattle.std.proofs.lemmas.List.{append_assoc}
use Rattle.std.proofs.lemmas.Option.{slice_get-get_or}
use Rattle.central_rules.specs.Names.{texts_below}

-- one more piece
pub more : (text : ℕ → List ℕ) (k : ℕ) (start so_far next piece : List ℕ) → so_far ≡ start ++ texts_below text k →
    next ≡ so_far ++ piece → piece ≡ text k → next ≡ start ++ texts_below text (k + 1)
more text k start so_far next piece before pushed is =
    let e : suc k ≡ k + 1 = omega arith in
    pushed ∙ (ap (λ (t : List ℕ). t ++ piece) before ∙ (append_assoc start (texts_below text k) piece
    ∙ (ap (λ (p : List ℕ). start ++ (texts_below text k ++ p)) is
    ∙ ap (λ j. start ++ texts_below text j) e)))

-- what is read stands in the list
pub at_index : {X : Type 0} (xs : List X) (i j : ℕ) (x : X) → x ≡ get_or xs i x → i ≡ j → j < length xs →
    slice_get xs j ≡ Some x
at_index xs i j x is e lt = slice_get-get_or xs j x lt ∙ ap Some (ap (λ k. get_or xs k x) (sym e) ∙ sym is)
