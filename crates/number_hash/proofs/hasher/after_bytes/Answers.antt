use Rattle.std.proofs.Common.{◌∙◌, ap, sym}
use Rattle.number_hash.specs.Mixing.{mixed}
use Rattle.number_hash.proofs.BytesLemmas.{four_bytes, eight_bytes, other_bytes}
use Rattle.number_hash.proofs.hasher.after_bytes.Goals as goal

pub returns-then-bytes-eq4 : goal.returns-then-bytes-eq4
returns-then-bytes-eq4 c =
    c.after.ensures ∙ ap (mixed c.args.state) (c.from.ensures ∙ c.from_le_bytes.ensures)
    ∙ sym (four_bytes c.args.state c.args.bytes.now c.if-bytes-eq4.true)

pub returns-then-bytes-eq8 : goal.returns-then-bytes-eq8
returns-then-bytes-eq8 c =
    c.after-then-bytes-eq8.ensures ∙ ap (mixed c.args.state) c.from_le_bytes-then-bytes-eq8.ensures
    ∙ sym (eight_bytes c.args.state c.args.bytes.now c.if-bytes-eq8.true)

pub returns : goal.returns
returns c =
    c.after_words.ensures ∙ sym (other_bytes c.args.state c.args.bytes.now c.if-bytes-eq4.false c.if-bytes-eq8.false)
