use Rattle.std.proofs.Common.{◌≡◌, ◌+◌, ◌-◌, ◌<◌, None, Some, length, slice_get, sym, ◌∙◌, ap, subst, arith}
use Rattle.std.proofs.lemmas.Nat.{one_shl}
use Rattle.std.proofs.lemmas.Option.{slice_get-get_or}
use Rattle.part_alphabets.specs.PartAlphabets.{PartAlphabet}
use Rattle.bay_contract.specs.AlphabetInside.{seen_as}
use Rattle.bay_contract.specs.Paths.{LeadsBack, PathsTo}
use Rattle.bay_contract.proofs.PathLemmas.{pass_on, pass_over, room_for}
use Rattle.bay_contract.proofs.alphabet.Alphabet.pass.Goals as goal

pub note_fork-requires-clause-room : goal.note_fork-requires-clause-room
note_fork-requires-clause-room c =
    let place : c.args.i < length c.self.inside.forks.items = omega (
      arith,
      c.requires.place,
      ap (λ
          (y : PartAlphabet). length y.forks) c.self.view_is,
    ) in
    let listed : slice_get c.self.inside.forks.items c.args.i ≡ Some c.index-fork.result.now =
    slice_get-get_or c.self.inside.forks.items c.args.i c.index-fork.result.now place ∙ ap Some
    (sym c.index-fork.ensures) in
    let noted : LeadsBack c.args.paths.now c.args.i c.in-Some.position = slice_get-get_or c.args.paths.now c.args.i None
    (omega (arith, c.requires.paths.len, c.requires.place)) ∙ ap Some c.in-Some.is in
    let paths : PathsTo (seen_as c.self.inside) c.args.readings.now c.args.i c.args.paths.now = subst (λ
    (y : PartAlphabet). PathsTo y c.args.readings.now c.args.i c.args.paths.now)
    (sym c.self.view_is) c.requires.paths in
    let room = room_for
    (seen_as c.self.inside) c.args.readings.now c.args.i c.in-Some.position c.index-fork.result.now
    c.self.invariant listed (paths.sound c.args.i c.in-Some.position noted) in
    let bit = one_shl (c.index-fork.result.now.switch.0 - c.self.inside.first) 32 (omega (arith, room.1)) in
    omega (arith, room.2, bit)

pub returns-in-Some : goal.returns-in-Some
returns-in-Some c =
    let place : c.args.i < length c.self.inside.forks.items = omega (
      arith,
      c.requires.place,
      ap (λ
          (y : PartAlphabet). length y.forks) c.self.view_is,
    ) in
    let listed : slice_get c.self.inside.forks.items c.args.i ≡ Some c.index-fork.result.now =
    slice_get-get_or c.self.inside.forks.items c.args.i c.index-fork.result.now place ∙ ap Some
    (sym c.index-fork.ensures) in
    let noted : LeadsBack c.args.paths.now c.args.i c.in-Some.position = slice_get-get_or c.args.paths.now c.args.i None
    (omega (arith, c.requires.paths.len, c.requires.place)) ∙ ap Some c.in-Some.is in
    let paths : PathsTo (seen_as c.self.inside) c.args.readings.now c.args.i c.args.paths.now = subst (λ
    (y : PartAlphabet). PathsTo y c.args.readings.now c.args.i c.args.paths.now)
    (sym c.self.view_is) c.requires.paths in
    let room = room_for
    (seen_as c.self.inside) c.args.readings.now c.args.i c.in-Some.position c.index-fork.result.now
    c.self.invariant listed (paths.sound c.args.i c.in-Some.position noted) in
    let bit = one_shl (c.index-fork.result.now.switch.0 - c.self.inside.first) 32 (omega (arith, room.1)) in
    subst (λ (y : PartAlphabet). PathsTo y c.args.readings.now (c.args.i + 1) c.note_fork.new.paths) c.self.view_is
    (pass_on (seen_as c.self.inside) c.args.readings.now c.self.invariant c.args.i c.index-fork.result.now listed
    c.in-Some.position _ c.args.paths.now c.note_fork.new.paths noted bit c.note_fork.ensures paths)

pub returns-in_default : goal.returns-in_default
returns-in_default c =
    pass_over c.args.self.now c.args.readings.now c.args.i c.args.paths.now
    (λ h. let bare : slice_get c.args.paths.now c.args.i ≡ Some None = slice_get-get_or c.args.paths.now c.args.i None
    (omega (arith, c.requires.paths.len, c.requires.place)) ∙ ap Some c.in_default.is in cc (bare, h.1))
    c.requires.paths
