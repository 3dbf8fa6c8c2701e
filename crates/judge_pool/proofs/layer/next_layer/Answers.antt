use Rattle.std.proofs.Common.{◌≡◌, ◌<◌, ◌≤◌, ◌+◌, ◌-◌, ◌*◌, ℕ, suc, [], List, length, Some, slice_get, get_or, take}
use Rattle.std.proofs.Common.{drop, arith, ap, ◌∙◌, subst, sym}
use Rattle.std.proofs.lemmas.Option.{slice_get-get_or}
use Rattle.std.proofs.Math.Nat.{suc-mul, zero-mul, mul-le-mul_right}
use Rattle.judge_pool.specs.declared.batch.Batch.{Batch}
use Rattle.judge_pool.specs.declared.pool.Pool.{Pool}
use Rattle.judge_pool.specs.Numbered.{letter_lists}
use Rattle.judge_pool.specs.Pooling.{MakesEach, HasBatch, GrewTo, EitherKeeps, CanComposeEach}
use Rattle.judge_pool.specs.Pooling.{AreEdges}
use Rattle.judge_pool.proofs.LayeringLemmas.{grew_more, grew_in}
use Rattle.judge_pool.proofs.SeatLemmas.{seats_none}
use Rattle.judge_pool.specs.Layering.{AreAdded, NameAll, no_answers}
use Rattle.judge_pool.proofs.AddedEdges.{edges_none, edges_more}
use Rattle.judge_pool.proofs.OnceLemmas.{letter_of, some_once, names_all, spread_made}
use Rattle.judge_pool.proofs.AlikeLemmas.{if_each_more, if_each_all}
use Rattle.judge_pool.proofs.BatchLemmas.{can_more, batch_made}
use Rattle.judge_pool.proofs.PassLemmas.{more_reached}
use Rattle.judge_pool.proofs.layer.next_layer.Goals as goal

pub states-init : goal.states-init
states-init c =
    let q = c.select_all.new.self in
    let g = c.in_ok-shared.ensures.grew in
    record {
      grew = grew_more c.args.pool.now c.note_letters.new.self q c.in_ok-number.ensures.grew g;
      noted = g.letters c.in_ok-number.number c.as_slice-once.result.now c.in_ok-number.ensures.noted;
      shared = c.in_ok-shared.ensures.selects;
      seats = seats_none c.new-next.result.items c.each_once.new.seats.items c.new-next.ensures.items;
      few = omega (arith, ap length c.new-next.ensures.items, zero-mul (length c.args.letters.now));
      edges = λ nodes at.
          subst (λ n. AreEdges q.view q.values.items nodes c.args.states.now c.args.letters.now c.new-next.result.items
          c.in_ok-edges.edges.items n) (sym (zero-mul (length c.args.letters.now)))
          (edges_none q.view q.values.items nodes c.args.states.now c.args.letters.now c.new-next.result.items
          c.in_ok-edges.edges.items c.new-next.ensures.items
          c.in_ok-edges.ensures.items);
    }

-- the letters that stand once are values of the pool
module _ (p : Pool) (letters once places : List ℕ) (by : AreAdded [] [] letters once places)
    (within : (c j : ℕ) → slice_get letters c ≡ Some j → j < length p.values.items) where
  once_in : (m j : ℕ) → slice_get once m ≡ Some j → j < length p.values.items
  once_in m j at =
      let choice = letter_of letters once places by m j at in
      within choice.0 j choice.1

-- and each state can be composed with each of them
module _ (p q : Pool) (g : GrewTo p q) (states letters once places : List ℕ) (keep : ℕ)
    (by : AreAdded [] [] letters once places)
    (within : (k i : ℕ) → slice_get states k ≡ Some i → i < length p.values.items)
    (within_letters : (c j : ℕ) → slice_get letters c ≡ Some j → j < length p.values.items)
    (keep_in : keep < length p.keeps.items)
    (either : (k c i j : ℕ) → slice_get states k ≡ Some i → slice_get letters c ≡ Some j → EitherKeeps p i j keep) where
  can_each : CanComposeEach q states once keep
  can_each k m i j at_i at_j =
      let choice = letter_of letters once places by m j at_j in
      can_more p q (record { first = i; second = j; keep = keep }) g (record {
        first = within k i at_i;
        second = within_letters choice.0 j choice.1;
        keep = keep_in;
        either = either k choice.0 i j at_i choice.1;
      })

pub select_all-requires-clause-states : goal.select_all-requires-clause-states
select_all-requires-clause-states c k i at =
    grew_in c.args.pool.now c.note_letters.new.self i no_answers c.in_ok-number.ensures.grew (c.requires.states k i at)

pub select_all-requires-clause-letters : goal.select_all-requires-clause-letters
select_all-requires-clause-letters c m j at =
    grew_in c.args.pool.now c.note_letters.new.self j no_answers c.in_ok-number.ensures.grew
    (once_in c.args.pool.now c.args.letters.now c.as_slice-once.result.now c.in_ok-by.by.places.items
    (subst (λ l. AreAdded [] [] c.args.letters.now l c.in_ok-by.by.places.items) (sym c.as_slice-once.ensures.value)
    c.in_ok-by.ensures) c.requires.letters m j at)

pub select_all-requires-clause-fit : goal.select_all-requires-clause-fit
select_all-requires-clause-fit c =
    can_each c.args.pool.now c.note_letters.new.self c.in_ok-number.ensures.grew c.args.states.now c.args.letters.now
    c.as_slice-once.result.now c.in_ok-by.by.places.items c.args.keep
    (subst (λ l. AreAdded [] [] c.args.letters.now l c.in_ok-by.by.places.items) (sym c.as_slice-once.ensures.value)
    c.in_ok-by.ensures) c.requires.states c.requires.letters c.requires.keep c.requires.nodes

pub batch-requires-clause-shared : goal.batch-requires-clause-shared
batch-requires-clause-shared c =
    let k = c.states.k in
    let i = get_or c.args.states.now k 0 in
    let at_i : slice_get c.args.states.now k ≡ Some i = slice_get-get_or c.args.states.now k 0 c.states-test.true in
    if_each_all c.states.pool c.args.states.now c.as_slice-once.result.now
    (record { first = i; letters = c.in_ok-number.number; keep = c.args.keep }) k _ at_i c.states.invariant.shared

pub batch-requires-clause-some : goal.batch-requires-clause-some
batch-requires-clause-some c =
    let by = subst (λ l. AreAdded [] [] c.args.letters.now l c.in_ok-by.by.places.items)
    (sym c.as_slice-once.ensures.value) c.in_ok-by.ensures in
    some_once c.args.letters.now c.as_slice-once.result.now c.in_ok-by.by.places.items by c.requires.some

pub batch-requires-clause-fit : goal.batch-requires-clause-fit
batch-requires-clause-fit c m j at_j =
    let p = c.args.pool.now in
    let q = c.states.pool in
    let g = c.states.invariant.grew in
    let k = c.states.k in
    let i = get_or c.args.states.now k 0 in
    let at_i : slice_get c.args.states.now k ≡ Some i = slice_get-get_or c.args.states.now k 0 c.states-test.true in
    let by = subst (λ l. AreAdded [] [] c.args.letters.now l c.in_ok-by.by.places.items)
    (sym c.as_slice-once.ensures.value) c.in_ok-by.ensures in
    let choice = letter_of c.args.letters.now c.as_slice-once.result.now c.in_ok-by.by.places.items by m j at_j in
    can_more p q (record { first = i; second = j; keep = c.args.keep }) g (record {
      first = c.requires.states k i at_i;
      second = c.requires.letters choice.0 j choice.1;
      keep = c.requires.keep;
      either = c.requires.nodes k choice.0 i j at_i choice.1;
    })

-- the batch of a state ends in what was made, and is there letter by letter
module _ (q : Pool) (b : Batch) (start : ℕ) (letters : List ℕ) (has : HasBatch q b start)
    (noted : slice_get (letter_lists q) b.letters ≡ Some letters) (some : 0 < length letters) (made : List ℕ)
    (is : made ≡ q.made.items) where
  part_made : MakesEach q b letters (take (start + length letters - start) (drop start made))
  part_made =
      subst (λ n. MakesEach q b letters (take n (drop start made)))
      (let e : length letters ≡ start + length letters - start = omega arith in e)
      (subst (λ l. MakesEach q b letters (take (length letters) (drop start l))) (sym is)
      (batch_made q b start letters has noted some))

pub add_state-requires-clause-few : goal.add_state-requires-clause-few
add_state-requires-clause-few c =
    let q = c.batch.new.self in
    let letters = c.args.letters.now in
    let once = c.as_slice-once.result.now in
    let k = c.states.k in
    let by = subst (λ l. AreAdded [] [] letters l c.in_ok-by.by.places.items) (sym c.as_slice-once.ensures.value)
    c.in_ok-by.ensures in
    let noted = c.in_ok-start.ensures.grew.letters c.in_ok-number.number once c.states.invariant.noted in
    let part = part_made q _ c.in_ok-start.start once c.in_ok-start.ensures.batch noted
    (some_once letters once c.in_ok-by.by.places.items by c.requires.some) c.deref.result.now c.deref.ensures.value in
    let most : suc k * length letters ≤ length c.args.states.now * length letters =
    mul-le-mul_right (length letters)
    (let h : suc k ≤ length c.args.states.now = omega (arith, c.states-test.true) in h) in
    omega (
      arith,
      part.len,
      by.grown,
      c.states.invariant.few,
      most,
      suc-mul k (length letters),
      c.requires.few,
    )

pub add_state-requires-clause-places : goal.add_state-requires-clause-places
add_state-requires-clause-places c =
    let q = c.batch.new.self in
    let letters = c.args.letters.now in
    let once = c.as_slice-once.result.now in
    let by = subst (λ l. AreAdded [] [] letters l c.as_slice-places.result.now) (sym c.as_slice-once.ensures.value)
    (subst (λ l. AreAdded [] [] letters c.in_ok-by.by.letters.items l) (sym c.as_slice-places.ensures.value)
    c.in_ok-by.ensures) in
    let noted = c.in_ok-start.ensures.grew.letters c.in_ok-number.number once c.states.invariant.noted in
    let part = part_made q _ c.in_ok-start.start once c.in_ok-start.ensures.batch noted
    (some_once letters once c.as_slice-places.result.now by c.requires.some) c.deref.result.now c.deref.ensures.value in
    subst (λ n. NameAll n c.as_slice-places.result.now) (sym part.len)
    (names_all letters once c.as_slice-places.result.now by)

pub states-preserved : goal.states-preserved
states-preserved c =
    let p = c.args.pool.now in
    let old = c.states.pool in
    let q = c.batch.new.self in
    let states = c.args.states.now in
    let letters = c.args.letters.now in
    let once = c.as_slice-once.result.now in
    let places = c.as_slice-places.result.now in
    let w = length letters in
    let k = c.states.k in
    let g = c.in_ok-start.ensures.grew in
    let inv = c.states.invariant in
    let by = subst (λ l. AreAdded [] [] letters l places) (sym c.as_slice-once.ensures.value)
    (subst (λ l. AreAdded [] [] letters c.in_ok-by.by.letters.items l) (sym c.as_slice-places.ensures.value)
    c.in_ok-by.ensures) in
    let noted = g.letters c.in_ok-number.number once inv.noted in
    let i = get_or states k 0 in
    let at_i : slice_get states k ≡ Some i = slice_get-get_or states k 0 c.states-test.true in
    let part = part_made q _ c.in_ok-start.start once c.in_ok-start.ensures.batch noted
    (some_once letters once places by c.requires.some) c.deref.result.now c.deref.ensures.value in
    let made = spread_made q _ letters once places _ by part in
    let added = c.in_ok-add_state.ensures.added in
    let next : (k + 1) * w ≡ k * w + w =
    ap (λ n. n * w) (let e : k + 1 ≡ suc k = omega arith in e) ∙ suc-mul k w in
    record {
      grew = grew_more p old q inv.grew g;
      noted = noted;
      shared =
          if_each_more old q states once c.args.keep _ g.values g.keeps
          (can_each p old inv.grew states letters once c.in_ok-by.by.places.items c.args.keep
          (subst (λ l. AreAdded [] [] letters l c.in_ok-by.by.places.items) (sym c.as_slice-once.ensures.value)
          c.in_ok-by.ensures) c.requires.states c.requires.letters c.requires.keep c.requires.nodes) inv.shared;
      seats = c.in_ok-add_state.ensures.seats;
      few = omega (arith, added.grown, made.len, inv.few, next);
      edges = λ nodes at.
          let at_q : slice_get q.keeps.items c.args.keep ≡ Some nodes =
          g.keeps c.args.keep nodes (inv.grew.keeps c.args.keep nodes at) in
          let before = subst
          (λ v. AreEdges v old.values.items nodes states letters c.states.next.items c.states.edges.items (k * w))
          (sym g.view) (inv.edges nodes at) in
          edges_more q.view old.values.items q.values.items q.keeps.items nodes states letters c.states.next.items
          c.add_state.new.next.items c.states.edges.items c.add_state.new.edges.items _ k i c.args.keep g.values before
          added at_i at_q made.len made.made;
    }

pub returns-clause-few : goal.returns-clause-few
returns-clause-few c =
    let done : c.states.k ≡ length c.args.states.now = omega (arith, c.states.auto.k-end, c.states-test.false) in
    omega (
      arith,
      c.states.invariant.few,
      ap (λ n. n * length c.args.letters.now) done,
    )

pub returns-clause-edges : goal.returns-clause-edges
returns-clause-edges c nodes at =
    let done : c.states.k ≡ length c.args.states.now = omega (arith, c.states.auto.k-end, c.states-test.false) in
    subst (λ n. AreEdges c.states.pool.view c.states.pool.values.items nodes c.args.states.now c.args.letters.now
    c.states.next.items c.states.edges.items (n * length c.args.letters.now)) done (c.states.invariant.edges nodes at)

pub returns-then-len-most-clause-wide : goal.returns-then-len-most-clause-wide
returns-then-len-most-clause-wide c e nodes at =
    more_reached c.args.pool.now c.states.pool c.states.invariant.grew nodes c.args.states.now c.args.letters.now
    c.states.next.items c.states.edges.items (c.states.k * length c.args.letters.now) c.args.most c.requires.states
    c.requires.letters (c.states.invariant.edges nodes at) c.states.invariant.few
    (mul-le-mul_right (length c.args.letters.now)
    (let h : c.states.k ≤ length c.args.states.now = omega (arith, c.states-test.true) in h))
    (omega (arith, c.len.ensures, c.states.next.ok.0, c.if-len-most.true))
