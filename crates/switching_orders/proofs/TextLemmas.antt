-- The lines of the steps, one after another.
use Rattle.std.proofs.Common.{◌≡◌, ◌∙◌, sym, ap, append_assoc, ℕ, ◌+◌, ◌<◌, ◌≤◌, List, [], ◌∷◌, ◌++◌, length, take}
use Rattle.std.proofs.Common.{arith, append-nil, refl, Bool, true, false, Option, Some, None, Result, Ok, Err}
use Rattle.std.specs.Prelude.{slice_get, codes, decimal, is_some, OnOk}
use Rattle.std.specs.List.{enumerate_from, flat_map}
use Rattle.std.proofs.lemmas.Grind.{flat_map-append, common_steps}
use Rattle.std.proofs.lemmas.Option.{slice_get_within}
use Rattle.ilk_base.specs.declared.words.Op.{Op}
use Rattle.station_graph.specs.Diagram.{Diagram}
use Rattle.switching_orders.specs.declared.ruling.Step.{Step}
use Rattle.switching_orders.specs.declared.ruling.Step.TheVariants as step
use Rattle.switching_orders.specs.declared.ruling.Ruling.{Ruling}
use Rattle.switching_orders.specs.Undoing.{undone}
use Rattle.switching_orders.specs.OrderText.{step_line, ok_lines, stop_of, back_line, TellsEnd}
use Rattle.switching_orders.proofs.Steps.{take-next}

enumerate_from-push : {X : Type 0} (n m : ℕ) (xs : List X) (x : X) → m ≡ n + length xs →
    enumerate_from n (xs ++ x ∷ []) ≡ enumerate_from n xs ++ (m, x) ∷ []
enumerate_from-push {X} n m [] x is = let e : n ≡ m = omega arith in ap (λ k. let pairs : List (ℕ × X) =
    (k, x) ∷ [] in pairs) e
enumerate_from-push {X} n m (y ∷ xs) x is = ap (λ (ps : List (ℕ × X)). (n, y) ∷ ps) (enumerate_from-push (n + 1) m xs x
    (omega arith))

-- one more step that is ok is one more line
pub ok_lines-next : (d : Diagram) (ops : List Op) (k : ℕ) (op : Op) → slice_get ops k ≡ Some op →
    ok_lines d (take (k + 1) ops) ≡ ok_lines d (take k ops) ++ step_line d (k + 1) step.Ok op
ok_lines-next d ops k op at =
    let line = λ (p : ℕ × Op). step_line d p.0 step.Ok p.1 in
    let within : k < length ops = slice_get_within ops k op at in
    let count : length (take k ops) ≡ k = grind (arith, common_steps) in
    ap (ok_lines d) (take-next ops k op at)
    ∙ ap (flat_map line) (enumerate_from-push 1 (k + 1) (take k ops) op (omega arith))
    ∙ flat_map-append line (enumerate_from 1 (take k ops)) ((k + 1, op) ∷ [])
    ∙ ap (λ last. ok_lines d (take k ops) ++ last) (append-nil (step_line d (k + 1) step.Ok op))

-- a text to which the line of one more step was appended
pub one_line_more : (old now new lines line more : List ℕ) → new ≡ now ++ line → now ≡ old ++ lines →
    more ≡ lines ++ line → new ≡ old ++ more
one_line_more old now new lines line more appended is next = appended ∙ ap (λ t. t ++ line) is
    ∙ append_assoc old lines line ∙ ap (λ t. old ++ t) (sym next)

-- the whole text of an order that is accepted
pub accepted_text : (d : Diagram) (ops reverse_ops : List Op) (count : ℕ) (back : Ruling)
    (passed with_count whole : List ℕ) → passed ≡ ok_lines d ops → with_count ≡ passed ++ codes "accepted " ++ decimal
    count ++ codes "\n" → whole ≡ with_count ++ back_line d reverse_ops back back.stopped → count ≡ length ops →
    reverse_ops ≡ undone ops
    → whole ≡ ok_lines d ops ++ codes "accepted " ++ decimal (length ops) ++ codes "\n" ++ back_line d (undone ops) back
    back.stopped
accepted_text d ops reverse_ops count back passed with_count whole lines counted told all reversed =
    told
    ∙ (λ i. counted i ++ back_line d (reversed i) back back.stopped)
    ∙ (λ i. lines i ++ codes "accepted " ++ decimal (all i) ++ codes "\n" ++ back_line d (undone ops) back back.stopped)

-- what is told where a step is not ok
pub tells_stop : (d : Diagram) (start : List Bool) (ops : List Op) (r : Ruling) (o : Option Step) (text : List ℕ)
    → is_some o ≡ true → text ≡ ok_lines d (take r.passed ops) ++ stop_of d ops r
    → TellsEnd d start ops r o (record { text = text; differs = true })
tells_stop d start ops r None text some is = absurd (cc some)
tells_stop d start ops r (Some s) text some is = (refl, is)

pub is_none : (o : Option Step) → is_some o ≡ false → o ≡ None
is_none None none = refl
is_none (Some s) none = absurd (cc none)

-- what holds of a call that is ok, and what follows from it
pub on_ok : {T E P Q : Type 0} (r : Result T E) → (P → Q) → OnOk r P → OnOk r Q
on_ok (Ok x) follows is = follows is
on_ok (Err e) follows is = tt
