use Rattle.std.proofs.Common.{◌≡◌, ◌+◌, ◌-◌, Option, ◌++◌, ◌∷◌, [], List, map, refl, sym, ap, ◌∙◌, subst, arith}
use Rattle.std.proofs.lemmas.List.{map-append}
use Rattle.judge_pool.specs.Lettered.{Lettered, lettered}
use Rattle.judge_graphs.specs.Built.{BayOf, AreBays}
use Rattle.judge_graphs.specs.BuiltView.{seen_part}
use Rattle.judge_graphs.proofs.BayLemmas.{bays_none, bays_more}
use Rattle.judge_graphs.specs.Telling.{HaveMerged}
use Rattle.judge_graphs.proofs.TellingLemmas.{merged_more}
use Rattle.release_compile.proofs.WideLemmas.{keep_more, first_wide}
use Rattle.judge_pool.proofs.ErrorLemmas.{passed_on}
use Rattle.station_graph.specs.Diagram.{part_count}
use Rattle.release_compile.specs.Judging.{IsTooWide, KeepEdges}
use Rattle.release_compile.proofs.bays.bays_of.Goals as goal

pub loop-part-init : goal.loop-part-init
loop-part-init c =
    let a : Lettered = lettered c.args.station.now c.args.parts.now in
    record {
      told = subst (λ bs. HaveMerged bs) (sym c.new-bays.ensures.items) (λ b g at. cc);
      gap = c.requires.gap;
      load = c.requires.load;
      spent = omega arith;
      edges = record { each = []; len = refl; counted = λ part size at. cc; all = refl; few = omega arith };
      bays = subst (λ bs. AreBays a (map seen_part bs) 0) (sym c.new-bays.ensures.items) (bays_none a);
    }

pub part_graphs-requires-clause-bays : goal.part_graphs-requires-clause-bays
part_graphs-requires-clause-bays c = rw c.deref.ensures.value c.loop-part.invariant.told

pub loop-part-preserved : goal.loop-part-preserved
loop-part-preserved c =
    let a : Lettered = lettered c.args.station.now c.args.parts.now in
    let g : Option BayOf = seen_part c.in-Ok.made.graphs in
    let bays : List (Option BayOf) = map seen_part c.loop-part.bays.items in
    let items : map seen_part c.keep.new.bays.items ≡ bays ++ g ∷ [] =
    ap (map seen_part) c.in_ok-keep-in-Ok.ensures ∙ map-append seen_part c.loop-part.bays.items _ in
    record {
      told =
          subst (λ bs. HaveMerged bs) (sym c.in_ok-keep-in-Ok.ensures)
          (merged_more c.loop-part.bays.items c.in-Ok.made.graphs c.loop-part.invariant.told c.in-Ok.ensures.told);
      gap = c.in_ok-renew_both-in-Ok.ensures.gap;
      load = c.in_ok-renew_both-in-Ok.ensures.load;
      spent = omega (arith, c.allowed-left.ensures.all, c.loop-part.invariant.spent);
      edges =
          keep_more c.args.station.now c.loop-part.part c.loop-part.spent (c.allowed-left.result - c.in-Ok.made.left)
          c.loop-part.invariant.edges c.in-Ok.ensures.spent (omega (arith, c.allowed-left.ensures.bay))
          (omega (arith, c.allowed-left.ensures.all));
      bays =
          subst (λ (bs : List (Option BayOf)). AreBays a bs (c.loop-part.part + 1)) (sym items)
          (bays_more a bays c.loop-part.part g c.loop-part.invariant.bays c.in-Ok.ensures.graphs);
    }

pub returns-in-Err-Wide-clause-refusal : goal.returns-in-Err-Wide-clause-refusal
returns-in-Err-Wide-clause-refusal c =
    let wide = c.in-Err-Wide.ensures.wide c.in-Err-Wide.field-0-is in
    first_wide c.args.station.now c.loop-part.part c.loop-part.spent c.allowed-left.result wide.0
    c.loop-part.invariant.edges c.allowed-left.ensures.either wide.1

pub returns-in_err-keep-in-Ok-clause-refusal : goal.returns-in_err-keep-in-Ok-clause-refusal
returns-in_err-keep-in-Ok-clause-refusal c =
    passed_on _ _ c.from_residual.result c.from_residual.ensures.1
    (λ e is. subst (IsTooWide c.args.station.now) (sym is) cc)

pub returns-in_err-renew_both-in-Ok-clause-refusal : goal.returns-in_err-renew_both-in-Ok-clause-refusal
returns-in_err-renew_both-in-Ok-clause-refusal c =
    passed_on _ _ c.from_residual-in_err-renew_both-in-Ok.result c.from_residual-in_err-renew_both-in-Ok.ensures.1
    (λ e is. subst (IsTooWide c.args.station.now) (sym is) cc)

pub returns-clause-fits : goal.returns-clause-fits
returns-clause-fits c =
    let last : c.loop-part.part ≡ part_count c.args.station.now =
    omega (arith, c.loop-part-test.false, c.loop-part.auto.part-end, c.part_count-part-end.ensures.count) in (
      c.loop-part.spent,
      subst (λ n. KeepEdges c.args.station.now n c.loop-part.spent) last c.loop-part.invariant.edges,
    )
