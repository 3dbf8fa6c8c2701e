use Rattle.std.proofs.Common.{refl, ap, ◌∙◌}
use Rattle.piece_writer.specs.Putting.{Held}
use Rattle.piece_writer.proofs.PutLemmas.{sent_so}
use Rattle.piece_writer.proofs.writer.PieceWriter.pass_on.Goals as goal

pub returns : goal.returns
returns g c start before given h =
    sent_so c.write_all.result start _ _ before _ _ given c.args.bytes.now c.args.bytes.now c.args.self.now _
    c.requires.calm c.is_err-self-inside.ensures.value (ap (λ (h : Held). h.bytes) c.self.view_is ∙ c.requires.empty)
    (rw c.requires.empty refl) c.write_all.ensures.ok c.write_all.ensures.err
    c.write_all.ensures.grows c.write_all.ensures.failed h
