-- One step more of the passes that hold a program against lines.
use Rattle.std.proofs.Common.{◌≡◌, ◌∙◌, ◌++◌, ◌<◌, ◌+◌, ℕ, suc, true, arith, List, [], ◌∷◌, None, length, map, drop, get_or, sym, ap, subst}
use Rattle.std.specs.Prelude.{nat_lt}
use Rattle.std.proofs.lemmas.Bool.Decides.{nat_tests}
use Rattle.std.proofs.Math.Seq.{drop-cons, drop-length}
use Rattle.structured_text.specs.declared.name.Name.{Name}
use Rattle.structured_text.specs.declared.name.Name.TheVariants.{Off}
use Rattle.structured_text.specs.declared.line.Formula.TheVariants.{Always}
use Rattle.structured_text.specs.declared.line.Line.{Line}
use Rattle.program_blocks.specs.declared.block.Block.{Block}
use Rattle.program_blocks.specs.declared.block.BlockCall.{BlockCall}
use Rattle.program_blocks.specs.declared.block.Step.{Step}
use Rattle.program_blocks.specs.declared.block.Step.TheVariants.{Assign}
use Rattle.program_blocks.specs.Renaming.{outer_line}
use Rattle.program_blocks.specs.Calls.{bare, step_lines, unfolded}
use Rattle.program_blocks.specs.Wiring.{IsLineWired, AreLinesWired, IsStepWired, step_names, AreWired, known_after}

pub no_line : Line
no_line = record { heading = None; name = Off (record { 0 = 0 }); formula = Always }

pub no_step : Step
no_step = Assign no_line

drop-one : {X : Type 0} → (xs : List X) (j : ℕ) (d : X) → j < length xs → drop j xs ≡ get_or xs j d ∷ drop (j + 1) xs
drop-one xs j d low =
    let next : suc j ≡ j + 1 = omega arith in drop-cons xs j d low ∙ ap (λ k. get_or xs j d ∷ drop k xs) next

pub lt_from : (a b : ℕ) → true ≡ nat_lt a b → a < b
lt_from a b e = grind (arith, nat_tests)

abbrev bares : List Line → List Line
bares xs = map (λ (x : Line). bare x) xs

abbrev outers : BlockCall → List Line → List Line
outers c xs = map (λ (x : Line). outer_line c x) xs

pub line_more : (lines : List Line) (n : ℕ) (d : Line) → n < length lines →
    bares (drop n lines) ≡ bare (get_or lines n d) ∷ bares (drop (n + 1) lines)
line_more lines n d low = ap bares (drop-one lines n d low)

pub block_more : (c : BlockCall) (inner lines : List Line) (j n : ℕ) (d f : Line) → j < length inner → n < length lines →
    outer_line c (get_or inner j d) ≡ bare (get_or lines n f) → (more : List Line) →
    bares (drop (n + 1) lines) ≡ outers c (drop (j + 1) inner) ++ more →
    bares (drop n lines) ≡ outers c (drop j inner) ++ more
block_more c inner lines j n d f low within same more e =
    line_more lines n f within
    ∙ (ap (λ x. x ∷ bares (drop (n + 1) lines)) (sym same)
    ∙ (ap (λ xs. outer_line c (get_or inner j d) ∷ xs) e
    ∙ sym (ap (λ xs. outers c xs ++ more) (drop-one inner j d low))))

pub steps_more : (bs : List Block) (steps : List Step) (lines : List Line) (j n next : ℕ) → j < length steps →
    bares (drop n lines) ≡ step_lines bs (get_or steps j no_step) ++ bares (drop next lines) →
    unfolded bs (drop (j + 1) steps) ≡ bares (drop next lines) → unfolded bs (drop j steps) ≡ bares (drop n lines)
steps_more bs steps lines j n next low e more =
    ap (unfolded bs) (drop-one steps j no_step low)
    ∙ (ap (λ xs. step_lines bs (get_or steps j no_step) ++ xs) more ∙ sym e)

pub wired_line_more : (known : List Name) (c : BlockCall) (inner : List Name) (lines : List Line) (j : ℕ) →
    j < length lines → IsLineWired known c inner (get_or lines j no_line) →
    AreLinesWired known c (inner ++ (get_or lines j no_line).name ∷ []) (drop (j + 1) lines) →
    AreLinesWired known c inner (drop j lines)
wired_line_more known c inner lines j low one more =
    subst (AreLinesWired known c inner) (sym (drop-one lines j no_line low)) (one, more)

pub wired_step_more : (bs : List Block) (known : List Name) (steps : List Step) (j : ℕ) → j < length steps →
    IsStepWired bs known (get_or steps j no_step) →
    AreWired bs (known ++ step_names bs (get_or steps j no_step)) (drop (j + 1) steps) →
    AreWired bs known (drop j steps)
wired_step_more bs known steps j low one more =
    subst (AreWired bs known) (sym (drop-one steps j no_step low)) (one, more)

pub known_more : (bs : List Block) (known : List Name) (steps : List Step) (j : ℕ) → j < length steps →
    known_after bs known (drop j steps)
    ≡ known_after bs (known ++ step_names bs (get_or steps j no_step)) (drop (j + 1) steps)
known_more bs known steps j low = ap (known_after bs known) (drop-one steps j no_step low)

pub past_block : (c : BlockCall) (inner : List Line) (j : ℕ) → j ≡ length inner → (more : List Line) →
    more ≡ outers c (drop j inner) ++ more
past_block c inner j end more =
    ap (λ xs. outers c xs ++ more) (sym (ap (λ k. drop k inner) end ∙ drop-length inner))
