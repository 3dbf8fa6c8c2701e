-- A text that grows line by line.
use Rattle.std.proofs.Common.{◌≡◌, ◌∙◌, sym, ap, append_assoc, ℕ, ◌+◌, ◌<◌, zero, suc, List, [], ◌∷◌, ◌++◌}
use Rattle.std.proofs.Common.{length, take, arith, append-nil, Some, add-one}
use Rattle.std.specs.Prelude.{slice_get, codes}
use Rattle.std.specs.List.{enumerate_from, flat_map}
use Rattle.std.proofs.lemmas.Grind.{flat_map-append, common_steps}
use Rattle.std.proofs.lemmas.Option.{slice_get_within}
use Rattle.ilk_base.specs.declared.words.Direction.TheVariants.{ToOff, ToOn}
use Rattle.station_graph.specs.Diagram.{Diagram}
use Rattle.station_equations.specs.EquationLines.{PartLines, EquationLines}
use Rattle.station_equations.specs.EquationText.{switch_line, part_line, step_line, op_line, node_line, numbered}
use Rattle.station_equations.specs.EquationText.{lines_of, text_of}

pub take-next : {X : Type 0} (xs : List X) (k : ℕ) (x : X) → slice_get xs k ≡ Some x
    → take (suc k) xs ≡ take k xs ++ x ∷ []
take-next [] k x at = absurd (cc)
take-next {X} (y ∷ xs) zero x at = let e : y ≡ x = cc in ap (λ (z : X). z ∷ []) e
take-next {X} (y ∷ xs) (suc k) x at = ap (λ (zs : List X). y ∷ zs) (take-next xs k x at)

pub enumerate_from-push : {X : Type 0} (n m : ℕ) (xs : List X) (x : X) → m ≡ n + length xs
    → enumerate_from n (xs ++ x ∷ []) ≡ enumerate_from n xs ++ (m, x) ∷ []
enumerate_from-push {X} n m [] x is = let e : n ≡ m = omega arith in ap (λ k. let pairs : List (ℕ × X) =
    (k, x) ∷ [] in pairs) e
enumerate_from-push {X} n m (y ∷ xs) x is = ap (λ (ps : List (ℕ × X)). (n, y) ∷ ps) (enumerate_from-push
    (n + 1) m xs x (omega arith))

-- the lines of one more entry
pub numbered_next : {X : Type 0} (lines : ℕ → X → List (List ℕ)) (xs : List X) (k : ℕ) (x : X)
    → slice_get xs k ≡ Some x → numbered lines (take (k + 1) xs) ≡ numbered lines (take k xs) ++ lines k x
numbered_next {X} lines xs k x at =
    let line = λ (p : ℕ × X). lines p.0 p.1 in
    let within : k < length xs = slice_get_within xs k x at in
    let count : length (take k xs) ≡ k = grind (arith, common_steps) in
    ap (λ n. numbered lines (take n xs)) (add-one k)
    ∙ ap (numbered lines) (take-next xs k x at)
    ∙ ap (flat_map line) (enumerate_from-push 0 k (take k xs) x (omega arith))
    ∙ flat_map-append line (enumerate_from 0 (take k xs)) ((k, x) ∷ [])
    ∙ ap (λ last. numbered lines (take k xs) ++ last) (append-nil (lines k x))

pub text_of-append : (xs ys : List (List ℕ)) → text_of (xs ++ ys) ≡ text_of xs ++ text_of ys
text_of-append xs ys = flat_map-append (λ (line : List ℕ). line ++ codes "\n") xs ys

-- a text to which the lines of one more entry were appended
pub written_more : {X : Type 0} (lines : ℕ → X → List (List ℕ)) (xs : List X) (k : ℕ) (x : X) (old now new : List ℕ)
    → slice_get xs k ≡ Some x → now ≡ old ++ text_of (numbered lines (take k xs)) → new ≡ now ++ text_of (lines k x)
    → new ≡ old ++ text_of (numbered lines (take (k + 1) xs))
written_more lines xs k x old now new at is next =
    next
    ∙ ap (λ t. t ++ text_of (lines k x)) is
    ∙ append_assoc old (text_of (numbered lines (take k xs))) (text_of (lines k x))
    ∙ ap (λ t. old ++ t) (sym (text_of-append (numbered lines (take k xs)) (lines k x)) ∙ ap text_of (sym
    (numbered_next lines xs k x at)))

-- the same where the entry has one line
pub line_more : {X : Type 0} (line : ℕ → X → List ℕ) (xs : List X) (k : ℕ) (x : X) (old now new : List ℕ)
    → slice_get xs k ≡ Some x → now ≡ old ++ text_of (numbered (λ n y. line n y ∷ []) (take k xs))
    → new ≡ now ++ (line k x ++ codes "\n") → new ≡ old ++ text_of (numbered (λ n y. line n y ∷ []) (take (k + 1) xs))
line_more {X} line xs k x old now new at is next =
    written_more (λ n (y : X). line n y ∷ []) xs k x old now new at is (next ∙ ap (λ t. now ++ t) (sym (append-nil
    (line k x ++ codes "\n"))))

-- the same where it has two
pub two_more : {X : Type 0} (first second : ℕ → X → List ℕ) (xs : List X) (k : ℕ) (x : X) (old now new : List ℕ)
    → slice_get xs k ≡ Some x → now ≡ old ++ text_of (numbered (λ n y. first n y ∷ second n y ∷ []) (take k xs))
    → new ≡ now ++ (first k x ++ codes "\n") ++ (second k x ++ codes "\n") → new ≡ old ++ text_of (numbered
    (λ n y. first n y ∷ second n y ∷ []) (take (k + 1) xs))
two_more {X} first second xs k x old now new at is next =
    written_more (λ n (y : X). first n y ∷ second n y ∷ []) xs k x old now new at is (next ∙ append_assoc now
    (first k x ++ codes "\n") (second k x ++ codes "\n") ∙ ap (λ t. now ++ ((first k x ++ codes "\n") ++ t)) (sym
    (append-nil (second k x ++ codes "\n"))))

grown : (old now new : List ℕ) (xs ys : List (List ℕ)) → now ≡ old ++ text_of xs → new ≡ now ++ text_of ys
    → new ≡ old ++ text_of (xs ++ ys)
grown old now new xs ys is next =
    next ∙ ap (λ t. t ++ text_of ys) is ∙ append_assoc old (text_of xs) (text_of ys) ∙ ap (λ t. old ++ t) (sym
    (text_of-append xs ys))

abbrev switch_lines : Diagram → List (List ℕ)
switch_lines d = numbered (λ s path. switch_line s path ∷ []) d.switch_paths

abbrev part_lines : EquationLines → List (List ℕ)
part_lines e = numbered (λ p x. part_line p x ∷ []) e.parts

abbrev step_lines : EquationLines → List (List ℕ)
step_lines e = numbered (λ p (x : PartLines). numbered (λ m s. step_line p m s ∷ []) x.steps) e.parts

abbrev op_lines : EquationLines → List (List ℕ)
op_lines e = numbered (λ s x. op_line ToOff s x ∷ op_line ToOn s x ∷ []) e.ops

abbrev node_lines : EquationLines → List (List ℕ)
node_lines e = numbered (λ n x. node_line n x ∷ []) e.nodes

abbrev head_line : List (List ℕ)
head_line = codes "equations" ∷ []

-- all lines, one group after another
pub whole_text : (d : Diagram) (e : EquationLines) (old t1 t2 t3 t4 t5 t6 t7 : List ℕ) → t1 ≡ old ++ codes "equations\n"
    → t2 ≡ t1 ++ text_of (numbered (λ s path. switch_line s path ∷ []) d.switch_paths)
    → t3 ≡ t2 ++ text_of (numbered (λ p x. part_line p x ∷ []) e.parts)
    → t4 ≡ t3 ++ text_of (numbered (λ p (x : PartLines). numbered (λ m s. step_line p m s ∷ []) x.steps) e.parts)
    → t5 ≡ t4 ++ text_of (numbered (λ s x. op_line ToOff s x ∷ op_line ToOn s x ∷ []) e.ops)
    → t6 ≡ t5 ++ text_of (numbered (λ n x. node_line n x ∷ []) e.nodes)
    → t7 ≡ t6 ++ codes "end\n"
    → t7 ≡ old ++ text_of (lines_of d e)
whole_text d e old t1 t2 t3 t4 t5 t6 t7 e1 e2 e3 e4 e5 e6 e7 =
    let s1 : t1 ≡ old ++ text_of head_line = e1 in
    let s2 = grown old t1 t2 head_line (switch_lines d) s1 e2 in
    let s3 = grown old t2 t3 (head_line ++ switch_lines d) (part_lines e) s2 e3 in
    let s4 = grown old t3 t4 (head_line ++ switch_lines d ++ part_lines e) (step_lines e) s3 e4 in
    let s5 = grown old t4 t5 (head_line ++ switch_lines d ++ part_lines e ++ step_lines e) (op_lines e) s4 e5 in
    let s6 = grown old t5 t6 (head_line ++ switch_lines d ++ part_lines e ++ step_lines e ++ op_lines e)
    (node_lines e) s5 e6 in
    grown old t6 t7 (head_line ++ switch_lines d ++ part_lines e ++ step_lines e ++ op_lines e ++ node_lines e)
    (codes "end" ∷ []) s6 e7
