use Rattle.std.proofs.Common.{arith, refl, ◌≤◌, length}
use Rattle.ssd_read.proofs.Texts.{word_follows, front_differs}
use Rattle.ssd_read.proofs.role.is_named.Goals as goal

pub returns-then-eq : goal.returns-then-eq
returns-then-eq c =
    let long : length c.args.front.now ≤ length c.as_bytes-name.result.now = omega arith in
    word_follows c.args.front.now c.args.name.now c.args.word.now c.as_bytes-name.result.now c.as_bytes.result.now
    c.split_at.result.0.now c.split_at.result.1.now c.eq.result c.eq-then-eq.result
    c.as_bytes-name.ensures.value c.as_bytes.ensures.value long c.split_at.ensures.front c.split_at.ensures.back
    c.eq.ensures c.if-eq.true c.eq-then-eq.ensures

pub returns-else-eq : goal.returns-else-eq
returns-else-eq c =
    let long : length c.args.front.now ≤ length c.as_bytes-name.result.now = omega arith in
    front_differs c.args.front.now c.args.name.now c.args.word.now c.as_bytes-name.result.now c.args.word.now
    c.split_at.result.0.now c.split_at.result.1.now c.eq.result
    c.as_bytes-name.ensures.value refl long c.split_at.ensures.front c.split_at.ensures.back c.eq.ensures c.if-eq.false
