-- The same steps in a part whose switches begin elsewhere.
use Rattle.std.proofs.Common.{◌≡◌, ℕ, ◌+◌, List, length, map, slice_get, Some, sym}
use Rattle.std.proofs.Common.{◌∙◌, ap, inl, inr, arith}
use Rattle.std.specs.Prelude.{option_map}
use Rattle.std.proofs.lemmas.Option.{slice_get-map}
use Rattle.std.proofs.lemmas.List.{length-map}
use Rattle.part_alphabets.specs.declared.fork.Fork.{Fork}
use Rattle.bay_contract.specs.Building.{Forked}
use Rattle.bay_contract.specs.Courses.{shifted}
use Rattle.bay_contract.proofs.ForkLemmas.{fork_at}
use Rattle.bay_contract.proofs.TableLemmas.{from_map}

-- an entry of a list of images
pub at_map : {X Y : Type 0} (f : X → Y) (xs : List X) (i : ℕ) (x : X) → slice_get xs i ≡ Some x
    → slice_get (map f xs) i ≡ Some (f x)
at_map f xs i x at = slice_get-map f xs i ∙ ap (option_map f) at

pub forked_shifted : (first j count : ℕ) (targets : List ℕ) (old new : List Fork) → Forked j count targets old new
    → Forked (first + j) count targets (map (shifted first) old) (map (shifted first) new)
forked_shifted first j count targets old new h =
    let eo = length-map old (shifted first) in
    let en = length-map new (shifted first) in
    record {
      len = omega (arith, h.len);
      kept = λ a f at.
          let (g, at_g, is) = from_map (shifted first) old a f at in
          at_map (shifted first) new a g (h.kept a g at_g) ∙ ap Some is;
      added = λ i lt.
          let there = at_map (shifted first) new (length old + i) (fork_at j (length new) targets i) (h.added i lt) in
          let at : length (map (shifted first) old) + i ≡ length old + i = omega arith in
          let same : shifted first (fork_at j (length new) targets i) ≡ fork_at (first + j) (length (map
          (shifted first) new)) targets i = ap (λ n. fork_at (first + j) n targets i) (sym en) in
          ap (slice_get (map (shifted first) new)) at ∙ (there ∙ ap Some same);
      none_else = λ a f at.
          let (g, at_g, is) = from_map (shifted first) new a f at in
          elim (h.none_else a g at_g) [
            | inl was ↦ inl (at_map (shifted first) old a g was ∙ ap Some is)
            | inr is_new ↦ inr (omega (arith, is_new.0), omega (arith, is_new.1))
          ];
    }
