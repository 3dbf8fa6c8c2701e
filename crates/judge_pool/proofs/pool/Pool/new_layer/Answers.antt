use Rattle.std.proofs.Common.{◌≡◌, ◌*◌, List, ℕ, [], Some, length, slice_get, get_or, sym, subst}
use Rattle.std.proofs.lemmas.Option.{slice_get-get_or}
use Rattle.judge_pool.specs.declared.pool.Pool.{Pool}
use Rattle.judge_pool.specs.Pooling.{GrewTo, AreEdges, LeadsOn}
use Rattle.judge_pool.proofs.LayeringLemmas.{grows, grew_more}
use Rattle.judge_pool.proofs.BatchLemmas.{seats_other}
use Rattle.judge_pool.proofs.PastLemmas.{key_stays, edges_grown}
use Rattle.judge_pool.proofs.pool.Pool.new_layer.Goals as goal

pub next_layer-requires-clause-pool : goal.next_layer-requires-clause-pool
next_layer-requires-clause-pool c = (seats_other c.args.self.now c.take-held.new.self c.requires.pool).is_pool

pub note_layer-requires-clause-pool : goal.note_layer-requires-clause-pool
note_layer-requires-clause-pool c =
    (seats_other c.next_layer.new.pool (Some c.next_layer.new.seats) c.in_ok-step.ensures.grew.is_pool).is_pool

pub note_layer-requires-clause-leads : goal.note_layer-requires-clause-leads
note_layer-requires-clause-leads c =
    let p = c.args.self.now in
    let held : Pool = record p { seats = c.take-held.new.self } in
    let made = c.next_layer.new.pool in
    let g = c.in_ok-step.ensures.grew in
    let q : Pool = record made { seats = Some c.next_layer.new.seats } in
    let grew : GrewTo p q =
    grew_more p made q (grew_more p held made (seats_other p c.take-held.new.self c.requires.pool) g)
    (seats_other made (Some c.next_layer.new.seats) g.is_pool) in
    let step = c.in_ok-step.step in
    let k = c.args.key in
    let nodes : List ℕ = get_or p.keeps.items k.keep [] in
    let at : slice_get p.keeps.items k.keep ≡ Some nodes = slice_get-get_or p.keeps.items k.keep [] c.requires.keep in (
      c.args.states.now,
      (
        c.args.row.now,
        key_stays p q (grows p q grew) c.args.states.now c.args.row.now k.keep k c.requires.key,
        subst (λ ns. LeadsOn q k.keep c.args.states.now c.args.row.now ns c.in_ok-edges.edges)
            (sym c.deref.ensures.value)
            (subst (λ es. LeadsOn q k.keep c.args.states.now c.args.row.now step.next.items es) (sym c.in_ok-edges.ensures)
            (record {
              nodes = nodes;
              kept = grew.keeps k.keep nodes at;
              few = c.in_ok-step.ensures.few;
              edges_lead = c.in_ok-step.ensures.edges nodes at;
            })),
      ),
    )

pub returns-clause-grew : goal.returns-clause-grew
returns-clause-grew c =
    let p = c.args.self.now in
    let held : Pool = record p { seats = c.take-held.new.self } in
    let made = c.next_layer.new.pool in
    let g = c.in_ok-step.ensures.grew in
    let q : Pool = record made { seats = Some c.next_layer.new.seats } in
    grew_more p q c.note_layer.new.self
    (grew_more p made q (grew_more p held made (seats_other p c.take-held.new.self c.requires.pool) g)
    (seats_other made (Some c.next_layer.new.seats) g.is_pool)) c.in_ok-number.ensures.grew

pub returns-clause-edges : goal.returns-clause-edges
returns-clause-edges c nodes at =
    let q = c.next_layer.new.pool in
    let r = c.note_layer.new.self in
    let g = c.in_ok-number.ensures.grew in
    let states = c.args.states.now in
    let row = c.args.row.now in
    let step = c.in_ok-step.step in
    subst (λ es. AreEdges r.view r.values.items nodes states row step.next.items es (length states * length row))
    (sym c.in_ok-edges.ensures)
    (subst (λ v. AreEdges v r.values.items nodes states row step.next.items step.edges.items
    (length states * length row)) (sym g.view)
    (edges_grown q.view q.values.items r.values.items nodes states row step.next.items step.edges.items
    (length states * length row) g.values (c.in_ok-step.ensures.edges nodes at)))
