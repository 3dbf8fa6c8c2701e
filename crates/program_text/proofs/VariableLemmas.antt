-- What a call sets in the program.
use Rattle.std.proofs.Common.{◌≡◌, ◌∙◌, ◌++◌, ◌<◌, ◌≤◌, ℕ, zero, suc, List, [], ◌∷◌, true, false, Some, None, Option, length, slice_get, get_or, refl, sym, ap, arith, map}
use Rattle.std.proofs.Common.{OnOk, Result, Ok, Err}
use Rattle.std.specs.Prelude.{nat_lt}
use Rattle.std.specs.List.{flat_map}
use Rattle.std.proofs.lemmas.Bool.Decides.{nat_tests}
use Rattle.std.proofs.lemmas.Option.{slice_get-get_or}
use Rattle.structured_text.specs.declared.name.Name.{Name}
use Rattle.program_blocks.specs.declared.block.Block.{Block}
use Rattle.program_blocks.specs.declared.block.BlockCall.{BlockCall}
use Rattle.program_blocks.specs.Renaming.{outer}
use Rattle.program_text.specs.Unblocked.{unless_release, call_variables}
use Rattle.program_text.specs.BayExchange.{call_reads}

below : (a b : ℕ) → true ≡ nat_lt a b → a < b
below a b e = grind (arith, nat_tests)

not_below : (a b : ℕ) → false ≡ nat_lt a b → b ≤ a
not_below a b e = grind (arith, nat_tests)

no_block : (bs : List Block) (k : ℕ) → length bs ≤ k → slice_get bs k ≡ None
no_block [] k low = refl
no_block (b ∷ bs) zero low = absurd (omega (arith, low))
no_block (b ∷ bs) (suc k) low = no_block bs k (omega (arith, low))

no_more : (xs : List Name) → xs ++ [] ≡ xs
no_more [] = refl
no_more (x ∷ xs) = ap (λ rest. x ∷ rest) (no_more xs)

-- a call of no block adds nothing
none_added : (bs : List Block) (k : ℕ) (old : List Name) (f : Option Block → List Name) → f None ≡ [] →
    false ≡ nat_lt k (length bs) → old ≡ old ++ f (slice_get bs k)
none_added bs k old f empty beyond =
    sym (ap (λ (o : Option Block). old ++ f o) (no_block bs k (not_below k (length bs) beyond))
    ∙ (ap (λ (ns : List Name). old ++ ns) empty ∙ no_more old))

-- a call of a block adds what it is of this block
some_added : (bs : List Block) (k : ℕ) (b : Block) (old new : List Name) (f : Option Block → List Name) →
    true ≡ nat_lt k (length bs) → b ≡ get_or bs k b → new ≡ old ++ f (Some b) → new ≡ old ++ f (slice_get bs k)
some_added bs k b old new f within is added =
    let found : slice_get bs k ≡ Some b = slice_get-get_or bs k b (below k (length bs) within) ∙ ap Some (sym is) in
    added ∙ ap (λ (o : Option Block). old ++ f o) (sym found)

-- so it is of what a call sets
pub none_set : (bs : List Block) (c : BlockCall) (old : List Name) → false ≡ nat_lt c.block (length bs) →
    old ≡ old ++ call_variables c (slice_get bs c.block)
none_set bs c old beyond = none_added bs c.block old (call_variables c) refl beyond

pub some_set : (bs : List Block) (c : BlockCall) (b : Block) (names old new : List Name) →
    true ≡ nat_lt c.block (length bs) → b ≡ get_or bs c.block b → names ≡ b.outputs.items →
    new ≡ old ++ flat_map (λ (n : Name). unless_release (outer c n)) names →
    new ≡ old ++ call_variables c (slice_get bs c.block)
some_set bs c b names old new within is are set =
    some_added bs c.block b old new (call_variables c) within is
    (set ∙ ap (λ (ns : List Name). old ++ flat_map (λ (n : Name). unless_release (outer c n)) ns) are)

-- and of what it reads
pub none_read : (bs : List Block) (c : BlockCall) (old : List Name) → false ≡ nat_lt c.block (length bs) →
    old ≡ old ++ call_reads c (slice_get bs c.block)
none_read bs c old beyond = none_added bs c.block old (call_reads c) refl beyond

pub some_read : (bs : List Block) (c : BlockCall) (b : Block) (names old new : List Name) →
    true ≡ nat_lt c.block (length bs) → b ≡ get_or bs c.block b → names ≡ b.inputs.items →
    new ≡ old ++ map (λ (n : Name). outer c n) names → new ≡ old ++ call_reads c (slice_get bs c.block)
some_read bs c b names old new within is are reads =
    some_added bs c.block b old new (call_reads c) within is
    (reads ∙ ap (λ (ns : List Name). old ++ map (λ (n : Name). outer c n) ns) are)

-- what holds holds where a result is given
pub on_ok : {A E X : Type 0} (r : Result A E) → X → OnOk r X
on_ok (Ok value) is = is
on_ok (Err error) is = tt

-- what follows of a call that was done
pub when_done : {T E : Type 0} (r : Result T E) (A B : Type 0) → (A → B) → OnOk r A → OnOk r B
when_done (Ok x) A B f h = f h
when_done (Err x) A B f h = h
