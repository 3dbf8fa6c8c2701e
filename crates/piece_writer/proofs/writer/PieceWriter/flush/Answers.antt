use Rattle.std.proofs.Common.{refl, [], sym, ap, ◌∙◌, append-nil}
use Rattle.piece_writer.specs.Putting.{Held}
use Rattle.piece_writer.proofs.PutLemmas.{sent_so}
use Rattle.piece_writer.proofs.writer.PieceWriter.flush.Goals as goal

pub returns-clause-puts : goal.returns-clause-puts
returns-clause-puts g c start before given h =
    sent_so c.write_all-sent.result start _ _ before _ _ given [] c.held.result.now c.args.self.now _
    (ap (λ (h : Held). h.failed) (sym c.self.view_is) ∙ c.if-self.false) c.is_err-self-inside.ensures.value refl
    (c.held.ensures ∙ sym (append-nil c.args.self.now.bytes)) c.write_all-sent.ensures.ok
    c.write_all-sent.ensures.err c.write_all-sent.ensures.grows c.write_all-sent.ensures.failed h
