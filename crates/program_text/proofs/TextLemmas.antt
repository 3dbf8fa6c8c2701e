-- One piece more of a text, and four.
use Rattle.std.proofs.Common.{◌≡◌, ◌++◌, ◌∙◌, ◌<◌, ◌-◌, ◌+◌, ◌∷◌, ℕ, suc, List, [], length, get_or, drop, sym, ap, arith, append_assoc}
use Rattle.std.specs.Prelude.{decimal, if◌then◌else◌}
use Rattle.std.proofs.Math.Seq.{drop-cons}
use Rattle.station_graph.specs.Diagram.{Diagram}
use Rattle.structured_text.specs.Spelling.{input_text, output_text}
use Rattle.program_blocks.specs.declared.block.Block.{Block}
use Rattle.program_blocks.specs.declared.block.Step.{Step}
use Rattle.program_text.specs.ProgramText.{inputs_text, outputs_text, block_text, blocks_text}
use Rattle.program_text.specs.BayText.{is_called_for, bay_blocks_text}

one_piece : (text one a rest : List ℕ) → one ≡ text ++ a → one ++ rest ≡ text ++ (a ++ rest)
one_piece text one a rest e = ap (λ t. t ++ rest) e ∙ append_assoc text a rest

pub inputs_more : (paths : List (List ℕ)) (i n : ℕ) (whole text one : List ℕ) → i < n →
    one ≡ text ++ input_text paths (record { 0 = i }) → text ++ inputs_text paths i (n - i) ≡ whole →
    one ++ inputs_text paths (i + 1) (n - (i + 1)) ≡ whole
inputs_more paths i n whole text one low e inv =
    let m : ℕ = n - (i + 1) in
    let next : i + 1 ≡ suc i = omega arith in
    let left : n - i ≡ suc m = omega (arith, low) in
    ap (λ k. one ++ inputs_text paths k m) next
    ∙ (one_piece text one (input_text paths (record { 0 = i })) (inputs_text paths (suc i) m) e
    ∙ (ap (λ k. text ++ inputs_text paths i k) (sym left) ∙ inv))

pub outputs_more : (paths : List (List ℕ)) (i n : ℕ) (whole text one : List ℕ) → i < n →
    one ≡ text ++ output_text paths (record { 0 = i }) → text ++ outputs_text paths i (n - i) ≡ whole →
    one ++ outputs_text paths (i + 1) (n - (i + 1)) ≡ whole
outputs_more paths i n whole text one low e inv =
    let m : ℕ = n - (i + 1) in
    let next : i + 1 ≡ suc i = omega arith in
    let left : n - i ≡ suc m = omega (arith, low) in
    ap (λ k. one ++ outputs_text paths k m) next
    ∙ (one_piece text one (output_text paths (record { 0 = i })) (outputs_text paths (suc i) m) e
    ∙ (ap (λ k. text ++ outputs_text paths i k) (sym left) ∙ inv))

pub two_pieces : (text one two a b : List ℕ) → one ≡ text ++ a → two ≡ one ++ b → two ≡ text ++ (a ++ b)
two_pieces text one two a b e f = f ∙ one_piece text one a b e

pub four_pieces : (text one two three four a b c e : List ℕ) → one ≡ text ++ a → two ≡ one ++ b → three ≡ two ++ c →
    four ≡ three ++ e → four ≡ text ++ (a ++ (b ++ (c ++ e)))
four_pieces text one two three four a b c e f g h i =
    i
    ∙ (ap (λ t. t ++ e) h
    ∙ (append_assoc two c e
    ∙ (ap (λ t. t ++ (c ++ e)) g
    ∙ (append_assoc one b (c ++ e) ∙ (ap (λ t. t ++ (b ++ (c ++ e))) f ∙ append_assoc text a (b ++ (c ++ e)))))))

pub five_pieces : (text one two three four five a b c e f : List ℕ) → one ≡ text ++ a → two ≡ one ++ b → three ≡ two ++ c →
    four ≡ three ++ e → five ≡ four ++ f → five ≡ text ++ (a ++ (b ++ (c ++ (e ++ f))))
five_pieces text one two three four five a b c e f g h i j k =
    four_pieces text one two three five a b c (e ++ f) g h i (k ∙ (ap (λ t. t ++ f) j ∙ append_assoc three e f))

pub three_pieces : (text one two three a b c : List ℕ) → one ≡ text ++ a → two ≡ one ++ b → three ≡ two ++ c →
    three ≡ text ++ (a ++ (b ++ c))
three_pieces text one two three a b c f g h =
    h
    ∙ (ap (λ t. t ++ c) g
    ∙ (append_assoc one b c ∙ (ap (λ t. t ++ (b ++ c)) f ∙ append_assoc text a (b ++ c))))

pub same_piece : {X : Type 0} (text one : List ℕ) (f : List X → List ℕ) (a b : List X) → one ≡ text ++ f a → a ≡ b →
    one ≡ text ++ f b
same_piece text one f a b e same = e ∙ ap (λ x. text ++ f x) same

pub same_number : (text one : List ℕ) (a b : ℕ) → one ≡ text ++ decimal a → a ≡ b → one ≡ text ++ decimal b
same_number text one a b e same = e ∙ ap (λ x. text ++ decimal x) same

pub blocks_more : (d : Diagram) (bs : List Block) (j k : ℕ) (none : Block) (whole text one : List ℕ) → j < length bs →
    one ≡ text ++ block_text d k (get_or bs j none) → text ++ blocks_text d k (drop j bs) ≡ whole →
    one ++ blocks_text d (k + 1) (drop (j + 1) bs) ≡ whole
blocks_more d bs j k none whole text one low e inv =
    let next : suc j ≡ j + 1 = omega arith in
    one_piece text one (block_text d k (get_or bs j none)) (blocks_text d (k + 1) (drop (j + 1) bs)) e
    ∙ (ap (λ xs. text ++ blocks_text d k xs)
    (sym (drop-cons bs j none low ∙ ap (λ i. get_or bs j none ∷ drop i bs) next)) ∙ inv)

pub bay_blocks_more : (d : Diagram) (steps : List Step) (p : ℕ) (bs : List Block) (j k : ℕ) (none : Block)
    (whole text one : List ℕ) → j < length bs
    → one ≡ text ++ (if is_called_for p k steps then block_text d k (get_or bs j none) else [])
    → text ++ bay_blocks_text d steps p k (drop j bs) ≡ whole
    → one ++ bay_blocks_text d steps p (k + 1) (drop (j + 1) bs) ≡ whole
bay_blocks_more d steps p bs j k none whole text one low e inv =
    let next : suc j ≡ j + 1 = omega arith in
    one_piece text one (if is_called_for p k steps then block_text d k (get_or bs j none) else [])
    (bay_blocks_text d steps p (k + 1) (drop (j + 1) bs)) e
    ∙ (ap (λ xs. text ++ bay_blocks_text d steps p k xs)
    (sym (drop-cons bs j none low ∙ ap (λ i. get_or bs j none ∷ drop i bs) next)) ∙ inv)
