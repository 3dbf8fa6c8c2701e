use Rattle.std.proofs.Common.{◌≡◌, ◌≢◌, ℕ, Bool, true, List, slice_get, Some, sym, subst}
use Rattle.station_compare.specs.declared.found.Found.{Found}
use Rattle.station_compare.specs.Words.{IsUnchanged}
use Rattle.station_compare.proofs.ExtendLemmas.{extends_of, gone_of, unchanged_of}
use Rattle.station_compare.proofs.found.Comparison.extends.Goals as goal

abbrev NoneGone : List Bool → Type 0
NoneGone xs = (i : ℕ) → slice_get xs i ≢ Some true

abbrev NoneChanged : List Found → Type 0
NoneChanged xs = (k : ℕ) (f : Found) → slice_get xs k ≡ Some f → IsUnchanged f

pub returns-then-none_gone : goal.returns-then-none_gone
returns-then-none_gone c =
    let o = c.args.old.now in
    let n = c.args.new.now in
    let self = c.args.self.now in
    let is_o = c.is_station.ensures in
    let none = subst NoneGone c.deref.ensures.value (c.none_gone.ensures.0 c.if-none_gone.true) in
    let same = c.deref-then-none_gone.ensures.value in (
      λ t. extends_of o n self c.requires is_o none (subst NoneChanged same (c.are_unchanged.ensures.0 t)),
      λ ext. c.are_unchanged.ensures.1 (subst NoneChanged (sym same) (unchanged_of o n self c.requires is_o ext)),
    )

pub returns-else-none_gone : goal.returns-else-none_gone
returns-else-none_gone c =
    let o = c.args.old.now in
    let n = c.args.new.now in
    let self = c.args.self.now in
    let is_o = c.is_station.ensures in (
      λ t. cc (t, c.if-none_gone.false),
      λ ext. c.none_gone.ensures.1
          (subst NoneGone (sym c.deref.ensures.value) (gone_of o n self c.requires is_o ext)),
    )
