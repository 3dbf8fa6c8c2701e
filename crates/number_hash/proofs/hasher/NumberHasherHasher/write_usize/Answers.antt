use Rattle.std.proofs.Common.{◌∙◌, ℕ, ap, sym}
use Rattle.std.specs.Hash.{le_bytes}
use Rattle.std.proofs.lemmas.Nat.{from_le_bytes-to_le_bytes_8}
use Rattle.number_hash.specs.Mixing.{mixed, mixed_bytes}
use Rattle.number_hash.specs.declared.hasher.NumberHasher.{NumberHasher}
use Rattle.number_hash.proofs.hasher.NumberHasherHasher.write_usize.Goals as goal

pub returns : goal.returns
unfolding mixed_bytes le_bytes
returns c =
    ap (λ (s : ℕ). let h : NumberHasher = record { state = s } in h) (c.after-self.ensures
    ∙ ap (mixed c.args.self.now.state) (sym (from_le_bytes-to_le_bytes_8 c.args.i c.ranges.i.fits)))
