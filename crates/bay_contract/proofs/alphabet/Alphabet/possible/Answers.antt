use Rattle.std.proofs.Common.{◌≡◌, ℕ, List, Option, length, drop, ◌∙◌, ap, subst, arith}
use Rattle.part_alphabets.specs.PartAlphabets.{PartAlphabet}
use Rattle.bay_contract.specs.Shapes.{IsShaped}
use Rattle.bay_contract.proofs.WayLemmas.{placed_way, held_exactly}
use Rattle.bay_contract.proofs.alphabet.Alphabet.possible.Goals as goal

pub returns-clause-exact : goal.returns-clause-exact
returns-clause-exact c =
    let shaped : IsShaped c.args.self.now = subst (λ (y : PartAlphabet). IsShaped y) c.self.view_is c.self.invariant in
    let steps : c.len.result ≡ length c.args.self.now.forks = omega
    (arith, c.len.ensures, c.self.inside.forks.ok.0, ap (λ (y : PartAlphabet). length y.forks) c.self.view_is) in
    let behind : c.in_ok-set.set ≡ drop (length c.args.self.now.forks) c.in_ok-paths.paths.items =
    c.in_ok-set.ensures ∙ (ap
    (λ (l : List (Option ℕ)). drop c.len.result l) c.deref.ensures.value
    ∙ ap (λ n. drop n c.in_ok-paths.paths.items) steps) in
    held_exactly c.args.self.now c.args.readings.now shaped c.requires c.in_ok-paths.paths.items c.in_ok-paths.ensures
    c.in_ok-set.set behind

pub returns-clause-placed : goal.returns-clause-placed
returns-clause-placed c =
    let shaped : IsShaped c.args.self.now = subst (λ (y : PartAlphabet). IsShaped y) c.self.view_is c.self.invariant in
    let steps : c.len.result ≡ length c.args.self.now.forks = omega
    (arith, c.len.ensures, c.self.inside.forks.ok.0, ap (λ (y : PartAlphabet). length y.forks) c.self.view_is) in
    let behind : c.in_ok-set.set ≡ drop (length c.args.self.now.forks) c.in_ok-paths.paths.items =
    c.in_ok-set.ensures ∙ (ap
    (λ (l : List (Option ℕ)). drop c.len.result l) c.deref.ensures.value
    ∙ ap (λ n. drop n c.in_ok-paths.paths.items) steps) in
    placed_way c.args.self.now c.args.readings.now shaped c.requires c.in_ok-paths.paths.items c.in_ok-paths.ensures
    c.in_ok-set.set behind
