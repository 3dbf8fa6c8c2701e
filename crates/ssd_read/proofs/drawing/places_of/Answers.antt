use Rattle.std.proofs.Common.{arith, sym, subst, ◌≤◌, ◌<◌, ◌≡◌, length, ap, ◌∙◌, ◌++◌, ◌∷◌, []}
use Rattle.std.specs.String.{string_bytes}
use Rattle.ssd_read.specs.Elements.{elements_of, element_after}
use Rattle.ssd_text.specs.Nesting.{entry_at}
use Rattle.ssd_read.specs.Seen.{placed, placed_all}
use Rattle.ssd_read.specs.Decoded.{AreDecoded, IsDecoded}
use Rattle.ssd_read.proofs.Decoding.{decoded_none, decoded_push}
use Rattle.ssd_read.proofs.PathRoom.{room_first, room_next, room_passed, room_last}
use Rattle.ssd_read.proofs.Placed.{elements_start, elements_next, elements_whole}
use Rattle.std.proofs.lemmas.Grind.{common_steps}
use Rattle.ssd_read.proofs.drawing.places_of.Goals as goal

pub loop-i-init : goal.loop-i-init
loop-i-init c = record {
  len = ap length c.new-places.ensures.items;
  elements = elements_start c.front_of_tree-front.result.now c.args.tree.now c.new-places.result.items
      c.front_of_tree-front.ensures c.new-places.ensures.items;
  decoded = subst (AreDecoded c.args.tree.now) (sym c.new-places.ensures.items) (decoded_none c.args.tree.now);
  room = room_first c.args.tree.now c.new-places.result.items c.new-places.ensures.items;
}

pub loop-i-preserved : goal.loop-i-preserved
loop-i-preserved c =
    let l = c.loop-i in
    let tree = c.args.tree.now in
    let front = c.front_of_tree-front.result.now in
    let more : c.push.new.self.items ≡ l.places.items ++ c.in_ok-place.place ∷ [] = c.in_ok-push.ensures.items in
    let inside : l.i < length tree = omega arith in
    let short : length l.places.items < length tree = omega (arith, l.invariant.len) in
    let fits : placed (entry_at tree l.i) c.in_ok-place.place ≡ element_after front (placed_all tree l.places.items)
    (entry_at tree l.i) = rw (← c.deref.ensures.value) c.in_ok-place.ensures.element in
    record {
      len = ap length more ∙ grind (arith, common_steps, l.invariant.len);
      elements = elements_next front tree l.places.items c.push.new.self.items c.in_ok-place.place l.i
          (elements_of tree) l.invariant.len inside more fits l.invariant.elements;
      decoded = subst (AreDecoded tree) (sym more) (decoded_push tree l.places.items c.in_ok-place.place
          l.invariant.decoded (subst (λ n. IsDecoded (entry_at tree n) c.in_ok-place.place) (sym l.invariant.len)
          c.in_ok-place.ensures.decoded));
      room = room_next tree l.places.items c.push.new.self.items c.in_ok-place.place l.room _ short more
          l.invariant.room (omega (arith, ap length c.as_str-more.ensures.value));
    }

pub returns-then-more-room-clause-fault : goal.returns-then-more-room-clause-fault
returns-then-more-room-clause-fault c =
    let l = c.loop-i in
    let tree = c.args.tree.now in
    let front = c.front_of_tree-front.result.now in
    let inside : l.i < length tree = omega arith in
    let fits : placed (entry_at tree l.i) c.in_ok-place.place ≡ element_after front (placed_all tree l.places.items)
    (entry_at tree l.i) = rw (← c.deref.ensures.value) c.in_ok-place.ensures.element in
    let past : l.room < length (string_bytes c.in_ok-place.place.path) =
    omega (arith, ap length c.as_str-more.ensures.value) in
    room_passed front tree l.places.items c.in_ok-place.place l.i l.room (elements_of tree) l.invariant.len inside fits
    l.invariant.elements l.invariant.room past

pub returns-clause-places : goal.returns-clause-places
returns-clause-places c =
    let past : length c.args.tree.now ≤ c.loop-i.i = omega arith in
    record {
      len = omega (arith, c.loop-i.invariant.len);
      elements = elements_whole c.front_of_tree-front.result.now c.args.tree.now c.loop-i.places.items c.loop-i.i
          (elements_of c.args.tree.now) past c.loop-i.invariant.elements;
      decoded = c.loop-i.invariant.decoded;
    }

pub returns-clause-fault : goal.returns-clause-fault
returns-clause-fault c =
    let past : length c.args.tree.now ≤ c.loop-i.i = omega arith in
    room_last c.args.tree.now c.loop-i.places.items (elements_of c.args.tree.now) c.loop-i.room
    (elements_whole c.front_of_tree-front.result.now c.args.tree.now c.loop-i.places.items c.loop-i.i
    (elements_of c.args.tree.now) past c.loop-i.invariant.elements) c.loop-i.invariant.room
