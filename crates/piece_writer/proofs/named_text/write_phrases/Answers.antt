use Rattle.std.proofs.Common.{[], sym, subst}
use Rattle.piece_writer.specs.Putting.{Held, HasPut, stand}
use Rattle.piece_writer.proofs.PutLemmas.{begun}
use Rattle.piece_writer.proofs.named_text.write_phrases.Goals as goal

pub returns : goal.returns
returns g c =
    let took = g.S.Sink.took c.args.sink.now in
    let faults = g.S.Sink.faults c.args.sink.now in
    c.finish.ensures took faults _
    (c.put_phrases.ensures took faults [] (subst (λ (h : Held). HasPut took faults [] (stand took faults h)) (sym
    c.begin.ensures) (begun took faults)))
