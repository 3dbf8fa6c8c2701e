use Rattle.std.proofs.Common.{◌∙◌, length, refl, arith}
use Rattle.bay_frames.proofs.Written.{written, behind, head_is}
use Rattle.bay_frames.proofs.write.put.Goals as goal

pub returns-clause-row : goal.returns-clause-row
returns-clause-row c =
    let head = head_is _ _ c.args.frame.now.from.0 c.args.frame.now.to.0 c.args.frame.now.round
    (length c.args.payload.now) _ _ c.kind_byte.ensures c.to_be_bytes-round.ensures c.to_be_bytes-length.ensures in
    written _ _ c.args.into.now _ _ _ _ (c.copy_from_slice.ensures.after ∙ head)
    c.copy_from_slice-2.ensures.after refl refl

pub returns-clause-rest : goal.returns-clause-rest
returns-clause-rest c = behind _ _ c.args.into.now c.copy_from_slice.new.self c.copy_from_slice-2.new.self
    (omega (arith, c.copy_from_slice.ensures.len)) (omega (arith, c.copy_from_slice-2.ensures.len)) (omega arith)
