use Rattle.std.proofs.Common.{◌≡◌, ◌⊎◌, ◌∙◌, inl, ℕ, List, sym, subst}
use Rattle.node_store.specs.Device.{IsSettled}
use Rattle.node_store.specs.Image.{IsOpen, IsImageOf}
use Rattle.node_store.specs.Slots.{number}
use Rattle.node_store.specs.Store.{MayClose, HoldsIfOpen}
use Rattle.node_store.proofs.Runs.{one_content, weaker, then_more}
use Rattle.node_store.proofs.Records.{number_small, close_keeps, fill_keeps, new_stands, new_known}
use Rattle.node_store.proofs.store.Store.put.Goals as goal

pub fill-requires : goal.fill-requires
fill-requires g c mid_image mid_told =
    let was = c.in_ok-make_room.ensures.closed.untold mid_image mid_told in
    let closed = c.in_ok-make_room.ensures.closed.told was.0 was.1 in
    let same : closed.0 ≡ mid_image = one_content (sym closed.1 ∙ mid_told) in (
      subst (λ (i : List ℕ). IsSettled g.D.Device.moment g.D.Device.left_since c.make_room.new.device i)
          same closed.2.0,
      subst (λ (i : List ℕ). ¬ (IsOpen i (number c.next_slot-next.result.slot))) same closed.2.2,
    )

pub returns-in_err-make_room-clause-crash : goal.returns-in_err-make_room-clause-crash
returns-in_err-make_room-clause-crash g c image told old stands =
    let n = number c.next_slot-next.result.slot in
    let lt = number_small c.next_slot-next.result.slot in
    let knows = c.requires.knows image told in
    let ready = c.next_slot-next.ensures.ready image knows.0 in
    let beside = ready.beside old stands in
    let P : List ℕ → Type 0 = λ (d : List ℕ). IsImageOf d old ⊎ IsImageOf d c.args.kept.now in
    let first =
    weaker g.D.Device.moment g.D.Device.left_between g.D.Device.left_since g.met.D.Device.time c.args.device.now
    c.make_room.new.device (MayClose n image) P (c.make_room.ensures.crash image told)
    (λ d may. inl (close_keeps image d n old lt beside ready.loses may)) in
    first

pub returns-in_err-fill-clause-crash : goal.returns-in_err-fill-clause-crash
returns-in_err-fill-clause-crash g c image told old stands =
    let n = number c.next_slot-next.result.slot in
    let lt = number_small c.next_slot-next.result.slot in
    let knows = c.requires.knows image told in
    let ready = c.next_slot-next.ensures.ready image knows.0 in
    let beside = ready.beside old stands in
    let P : List ℕ → Type 0 = λ (d : List ℕ). IsImageOf d old ⊎ IsImageOf d c.args.kept.now in
    let first =
    weaker g.D.Device.moment g.D.Device.left_between g.D.Device.left_since g.met.D.Device.time c.args.device.now
    c.make_room.new.device (MayClose n image) P (c.make_room.ensures.crash image told)
    (λ d may. inl (close_keeps image d n old lt beside ready.loses may)) in
    let closed = c.in_ok-make_room.ensures.closed.told image told in
    let mid = closed.0 in
    let second =
    weaker g.D.Device.moment g.D.Device.left_between g.D.Device.left_since g.met.D.Device.time c.make_room.new.device
    c.fill.new.device (HoldsIfOpen n c.next_slot-next.result.sequence c.args.kept.now mid) P
    (c.fill.ensures.crash mid closed.1)
    (λ d holds. fill_keeps image mid d n c.next_slot-next.result.sequence old c.args.kept.now lt beside ready.below
    closed.2.1 holds) in
    then_more g.D.Device.moment g.D.Device.left_between g.D.Device.left_since g.met.D.Device.time c.args.device.now
    c.make_room.new.device c.fill.new.device P first second

pub returns-clause-crash : goal.returns-clause-crash
returns-clause-crash g c image told old stands =
    let n = number c.next_slot-next.result.slot in
    let lt = number_small c.next_slot-next.result.slot in
    let knows = c.requires.knows image told in
    let ready = c.next_slot-next.ensures.ready image knows.0 in
    let beside = ready.beside old stands in
    let P : List ℕ → Type 0 = λ (d : List ℕ). IsImageOf d old ⊎ IsImageOf d c.args.kept.now in
    let first =
    weaker g.D.Device.moment g.D.Device.left_between g.D.Device.left_since g.met.D.Device.time c.args.device.now
    c.make_room.new.device (MayClose n image) P (c.make_room.ensures.crash image told)
    (λ d may. inl (close_keeps image d n old lt beside ready.loses may)) in
    let closed = c.in_ok-make_room.ensures.closed.told image told in
    let mid = closed.0 in
    let second =
    weaker g.D.Device.moment g.D.Device.left_between g.D.Device.left_since g.met.D.Device.time c.make_room.new.device
    c.fill.new.device (HoldsIfOpen n c.next_slot-next.result.sequence c.args.kept.now mid) P
    (c.fill.ensures.crash mid closed.1)
    (λ d holds. fill_keeps image mid d n c.next_slot-next.result.sequence old c.args.kept.now lt beside ready.below
    closed.2.1 holds) in
    then_more g.D.Device.moment g.D.Device.left_between g.D.Device.left_since g.met.D.Device.time c.args.device.now
    c.make_room.new.device c.fill.new.device P first second

pub returns-clause-put : goal.returns-clause-put
returns-clause-put g c = record {
  told = λ image told.
      let n = number c.next_slot-next.result.slot in
      let lt = number_small c.next_slot-next.result.slot in
      let knows = c.requires.knows image told in
      let ready = c.next_slot-next.ensures.ready image knows.0 in
      let closed = c.in_ok-make_room.ensures.closed.told image told in
      let filled = c.in_ok-fill.ensures.filled.told closed.0 closed.1 in (
        filled.0,
        filled.1,
        (
          filled.2.0,
          new_stands image closed.0 filled.0 c.next_slot-next.result c.args.kept.now ready closed.2.1
              filled.2.1 filled.2.2,
          new_known image closed.0 filled.0 c.next_slot-next.result c.args.kept.now ready closed.2.1
              filled.2.1 filled.2.2,
        ),
      );
  untold = λ after told.
      let mid = c.in_ok-fill.ensures.filled.untold after told in
      c.in_ok-make_room.ensures.closed.untold mid.0 mid.1;
}
