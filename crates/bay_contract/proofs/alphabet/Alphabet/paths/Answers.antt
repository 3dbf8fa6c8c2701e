use Rattle.std.proofs.Common.{◌≡◌, ◌+◌, ℕ, List, Option, length, sym, ap, subst, arith}
use Rattle.part_alphabets.specs.PartAlphabets.{PartAlphabet}
use Rattle.bay_contract.specs.Shapes.{IsShaped}
use Rattle.bay_contract.specs.Paths.{PathsTo}
use Rattle.bay_contract.proofs.PathLemmas.{paths_start, written_back}
use Rattle.bay_contract.proofs.alphabet.Alphabet.paths.Goals as goal

pub steps-init : goal.steps-init
steps-init c =
    let shaped : IsShaped c.args.self.now = subst (λ (y : PartAlphabet). IsShaped y) c.self.view_is c.self.invariant in
    let len : length c.in_ok-paths.paths.items ≡ length c.args.self.now.forks + length c.args.self.now.letters = omega (
      arith,
      c.in_ok-paths.ensures.count,
      c.len.ensures,
      c.len-2.ensures,
      c.self.inside.forks.ok.0,
      c.self.inside.letters.ok.0,
      ap (λ (y : PartAlphabet). length y.forks) c.self.view_is,
      ap (λ
          (y : PartAlphabet). length y.letters) c.self.view_is,
    ) in
    paths_start c.args.self.now c.args.readings.now c.in_ok-paths.paths.items shaped len c.in_ok-paths.ensures.bare

pub steps-preserved : goal.steps-preserved
steps-preserved c =
    let back = written_back c.pass.new.paths c.steps.paths.items c.steps.paths.len (omega
    (arith, c.pass.ensures.len, c.steps.invariant.len, c.steps.paths.ok.0)) in
    subst (λ (l : List (Option ℕ)). PathsTo c.args.self.now c.args.readings.now (c.steps.i + 1) l)
    (sym back) c.pass.ensures

pub returns : goal.returns
returns c =
    let at_end : c.steps.i ≡ length c.args.self.now.forks = omega (
      arith,
      c.steps-test.false,
      c.steps.auto.i-end,
      c.len-i-end.ensures,
      c.self.inside.forks.ok.0,
      ap (λ
          (y : PartAlphabet). length y.forks) c.self.view_is,
    ) in
    subst (λ n. PathsTo c.args.self.now c.args.readings.now n c.steps.paths.items) at_end c.steps.invariant
