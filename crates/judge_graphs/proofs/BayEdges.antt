-- The edges of a bay's graphs, as they are spent graph by graph.
use Rattle.std.proofs.Common.{◌≡◌, ℕ, ◌+◌, ◌-◌, ◌<◌, suc, refl, subst}
use Rattle.std.proofs.Common.{arith}
use Rattle.station_graph.specs.Diagram.{Diagram, part_count, AreSwitchesOf}
use Rattle.part_alphabets.specs.Counting.{AreSoMany}
use Rattle.part_alphabets.specs.PartAlphabets.{Alphabets}
use Rattle.part_alphabets.specs.Alphabets.{AreAlphabets}
use Rattle.judge_pool.specs.declared.view.View.{View}
use Rattle.judge_pool.specs.declared.view.View.TheVariants.{Gap, Load}
use Rattle.judge_pool.specs.Graphs.{other_of}
use Rattle.judge_pool.specs.Counted.{AreAtLeast, OuterHas, InnerHas, SwitchesHave, ViewHas, BayHas, Spends, Passes}
use Rattle.judge_intake.proofs.OtherLemmas.{other_in}
use Rattle.judge_graphs.proofs.EdgesLemmas.{alphabet_counts, switches_at_least, outer_at_least, view_at_least}
use Rattle.judge_graphs.proofs.EdgesLemmas.{switches_more, switches_all, switches_zero, outer_none}

-- ---- the switches of a bay, one by one

module _ (view : View) (d : Diagram) (b first count : ℕ) where
  pub switches_spend : (i limit rest left : ℕ) → i < count → Spends (SwitchesHave view d b first count i) d limit rest →
      Spends (InnerHas view d b (first + i) first (count - 1) (count - 1)) d rest left →
      Spends (SwitchesHave view d b first count (i + 1)) d limit left
  switches_spend i limit rest left lt h new = record {
    edges = h.edges + new.edges;
    has =
        switches_more view d b (AreSoMany d) first count i h.edges new.edges h.has
        (record { others = count - 1; one_more = omega (arith, lt); inner = new.has });
    all = omega (arith, h.all, new.all);
  }

  pub switches_pass : (i limit rest : ℕ) → i < count → Spends (SwitchesHave view d b first count i) d limit rest →
      Passes (InnerHas view d b (first + i) first (count - 1) (count - 1)) d rest →
      Passes (SwitchesHave view d b first count count) d limit
  switches_pass i limit rest lt h new =
      let e : suc (count - 1) ≡ count = omega (arith, lt) in
      let here = switches_more view d b (AreAtLeast d) first count i h.edges new.edges
      (switches_at_least view d b first count i h.edges h.has)
      (record { others = count - 1; one_more = e; inner = new.has }) in
      let full : (i + 1) + (count - (i + 1)) ≡ count = omega (arith, lt) in
      let all = switches_all view d b first count (count - (i + 1)) (i + 1) (h.edges + new.edges) (count - 1) e here in
      record {
        edges = h.edges + new.edges;
        has = subst (λ n. SwitchesHave view d b first count n (AreAtLeast d) (h.edges + new.edges)) full all;
        past = omega (arith, h.all, new.past);
      }

  -- ---- one view

  module _ (others : ℕ) (one_more : suc others ≡ part_count d) where
    pub view_spends : (limit rest left : ℕ) → Spends (OuterHas view d b others) d limit rest →
        Spends (SwitchesHave view d b first count count) d rest left →
        Spends (ViewHas view d b first count) d limit left
    view_spends limit rest left o s = record {
      edges = o.edges + s.edges;
      has = record {
        others = others;
        one_more = one_more;
        outer_edges = o.edges;
        inner_edges = s.edges;
        outer = o.has;
        inner = s.has;
        all = refl;
      };
      all = omega (arith, o.all, s.all);
    }

    pub outer_view_passes : (limit : ℕ) → Passes (OuterHas view d b others) d limit →
        Passes (ViewHas view d b first count) d limit
    outer_view_passes limit o = record {
      edges = o.edges + 0;
      has = record {
        others = others;
        one_more = one_more;
        outer_edges = o.edges;
        inner_edges = 0;
        outer = o.has;
        inner = switches_zero view d b first count;
        all = refl;
      };
      past = omega (arith, o.past);
    }

    pub inner_view_passes : (limit rest : ℕ) → Spends (OuterHas view d b others) d limit rest →
        Passes (SwitchesHave view d b first count count) d rest → Passes (ViewHas view d b first count) d limit
    inner_view_passes limit rest o s = record {
      edges = o.edges + s.edges;
      has = record {
        others = others;
        one_more = one_more;
        outer_edges = o.edges;
        inner_edges = s.edges;
        outer = outer_at_least view d b others o.edges o.has;
        inner = s.has;
        all = refl;
      };
      past = omega (arith, o.all, s.past);
    }

-- ---- both views

module _ (d : Diagram) (a : Alphabets) (alphabets : AreAlphabets d a) (b first count : ℕ) (b_in : b < part_count d)
    (switches : AreSwitchesOf d b first count) where
  view_zero : (view : View) → ViewHas view d b first count (AreAtLeast d) 0
  view_zero view =
      let e : suc (part_count d - 1) ≡ part_count d = omega (arith, b_in) in
      record {
        others = part_count d - 1;
        one_more = e;
        outer_edges = 0;
        inner_edges = 0;
        outer =
            outer_none view d b (part_count d - 1) (λ j lt. (
              _,
              alphabet_counts d a (other_of 0 b j)
                  (alphabets.each (other_of 0 b j) (omega (arith, (other_in 0 b (part_count d - 1) j lt).1, e))),
            ));
        inner = switches_zero view d b first count;
        all = refl;
      }

  pub bay_spends : (limit rest left : ℕ) → Spends (ViewHas Gap d b first count) d limit rest →
      Spends (ViewHas Load d b first count) d rest left → Spends (BayHas d b) d limit left
  bay_spends limit rest left g l = record {
    edges = g.edges + l.edges;
    has = record {
      first = first;
      count = count;
      switches = switches;
      gap_edges = g.edges;
      load_edges = l.edges;
      gap = g.has;
      load = l.has;
      all = refl;
    };
    all = omega (arith, g.all, l.all);
  }

  pub gap_passes : (limit : ℕ) → Passes (ViewHas Gap d b first count) d limit → Passes (BayHas d b) d limit
  gap_passes limit g = record {
    edges = g.edges + 0;
    has = record {
      first = first;
      count = count;
      switches = switches;
      gap_edges = g.edges;
      load_edges = 0;
      gap = g.has;
      load = view_zero Load;
      all = refl;
    };
    past = omega (arith, g.past);
  }

  pub load_passes : (limit rest : ℕ) → Spends (ViewHas Gap d b first count) d limit rest →
      Passes (ViewHas Load d b first count) d rest → Passes (BayHas d b) d limit
  load_passes limit rest g l = record {
    edges = g.edges + l.edges;
    has = record {
      first = first;
      count = count;
      switches = switches;
      gap_edges = g.edges;
      load_edges = l.edges;
      gap = view_at_least Gap d b first count g.edges g.has;
      load = l.has;
      all = refl;
    };
    past = omega (arith, g.all, l.past);
  }
