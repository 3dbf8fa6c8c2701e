-- Composing in one view alone: a whole value is made of one row, twice, and what is proved of whole values
-- is read of that view.
use Rattle.std.proofs.Common.{◌≡◌, ℕ, ◌⊎◌, ◌↔◌, ◌++◌, Bool, List, ◌∙◌, ap, append_assoc}
use Rattle.std.specs.Prelude.{Contains}
use Rattle.station_graph.specs.Diagram.{Diagram}
use Rattle.station_graph.specs.Connection.{Item}
use Rattle.contraction.specs.declared.layout.Layout.{Layout}
use Rattle.contraction.specs.declared.value.Contraction.TheInside.{Inside}
use Rattle.contraction.specs.Answers.{Answers, Keeps, IsContraction}
use Rattle.contraction.specs.Inside.{answers_of}
use Rattle.contraction.specs.Stands.{Among, MeetsKept, GapStandsFor, LoadStandsFor}
use Rattle.contraction.specs.Composing.{Composes, ComposesGap, ComposesLoad, Restricts}
use Rattle.contraction.specs.Composing.{IsGapRowOfBoth, IsLoadRowOfBoth}
use Rattle.contraction.specs.Rows.{words, flags}
use Rattle.contraction.specs.Selecting.{IsLayout, IsGapText, IsLoadText}
use Rattle.contraction.proofs.ItemSets.{Either, gap_over, load_over, among_both}
use Rattle.contraction.proofs.ComposedLemmas.{Steps, composed, composed_well}
use Rattle.contraction.proofs.RestrictLemmas.{RestrictSteps, restricted, restricted_kept, restricted_well}
use Rattle.contraction.proofs.StandsLemmas.{gap_composes, load_composes, gap_half, load_half}
use Rattle.contraction.proofs.KeepLemmas.{gap_on_fewer, load_on_fewer}

-- one row as both views
abbrev pub twice : List ℕ → List ℕ → List ℕ → List Bool → List Bool → List Bool → Answers
twice kept labels others first second above = record {
  kept = kept;
  coupled = labels;
  joined = labels;
  bonded = others;
  energisable = first;
  earthable = second;
  fed = first;
  loaded = above;
}

abbrev gap_twice : Answers → Answers
gap_twice x = twice x.kept x.coupled x.coupled x.energisable x.earthable x.energisable

abbrev load_twice : Answers → Answers
load_twice x = twice x.kept x.joined x.bonded x.fed x.loaded x.loaded

gap_twice_well : (x : Answers) → IsContraction x → IsContraction (gap_twice x)
gap_twice_well x w = record {
  nodes = w.nodes;
  coupled = w.coupled;
  joined = w.coupled;
  bonded = w.coupled;
  energisable = w.energisable;
  earthable = w.earthable;
  fed = w.energisable;
  loaded = w.energisable;
  fed_loaded = λ k e. e;
}

load_twice_well : (x : Answers) → IsContraction x → IsContraction (load_twice x)
load_twice_well x w = record {
  nodes = w.nodes;
  coupled = w.joined;
  joined = w.joined;
  bonded = w.bonded;
  energisable = w.fed;
  earthable = w.loaded;
  fed = w.fed;
  loaded = w.loaded;
  fed_loaded = w.fed_loaded;
}

in_front : (k a b c : List ℕ) → k ++ a ++ b ++ c ≡ k ++ (a ++ b ++ c)
in_front k a b c = simp append_assoc

pub in_front_bonded : (k a b c e : List ℕ) → k ++ a ++ b ++ c ++ e ≡ k ++ (a ++ b ++ c ++ e)
in_front_bonded k a b c e = simp append_assoc

module _ (x y : Inside) (wx : IsContraction (answers_of x)) (wy : IsContraction (answers_of y)) (nodes : List ℕ)
    (s : Layout) (is : IsLayout x.kept y.kept nodes s)
    (inside : (n : ℕ) → Contains nodes n → Keeps x.kept n ⊎ Keeps y.kept n) where
  module _ (bytes : List ℕ) (h : IsGapText s x.gap y.gap bytes) where
    abbrev gap_wide : Answers
    gap_wide = twice s.union.kept.items h.wide h.wide h.firsts.wide h.seconds.wide h.firsts.wide

    abbrev gap_fewer : Answers
    gap_fewer = twice s.kept.items h.labels h.labels h.first h.second h.first

    gap_steps : Steps (gap_twice (answers_of x)) (gap_twice (answers_of y)) s.union.first.items
        s.union.second.items gap_wide
    gap_steps = record {
      merged = is.merged;
      coupled = h.composes;
      joined = h.composes;
      bonded = h.composes;
      energisable = h.firsts.composes;
      earthable = h.seconds.composes;
      fed = h.firsts.composes;
      loaded = h.firsts.composes;
    }

    gap_wide_well : IsContraction gap_wide
    gap_wide_well =
        composed_well (gap_twice (answers_of x)) (gap_twice (answers_of y)) gap_wide s.union.first.items
        s.union.second.items (gap_twice_well (answers_of x) wx) (gap_twice_well (answers_of y) wy) gap_steps

    gap_wide_composes : Composes (gap_twice (answers_of x)) (gap_twice (answers_of y)) gap_wide
    gap_wide_composes =
        composed (gap_twice (answers_of x)) (gap_twice (answers_of y)) gap_wide s.union.first.items s.union.second.items
        (gap_twice_well (answers_of x) wx) (gap_twice_well (answers_of y) wy) gap_steps

    gap_restricts : RestrictSteps nodes gap_wide gap_fewer s.places.items
    gap_restricts = record {
      places_of = is.places;
      kept = is.kept;
      coupled = h.restricts;
      joined = h.restricts;
      bonded = h.restricts;
      energisable = h.firsts.restricts;
      earthable = h.seconds.restricts;
      fed = h.firsts.restricts;
      loaded = h.firsts.restricts;
    }

    gap_fewer_well : IsContraction gap_fewer
    gap_fewer_well = restricted_well nodes gap_wide gap_fewer s.places.items gap_wide_well gap_restricts

    gap_fewer_composes : ComposesGap (answers_of x) (answers_of y) gap_fewer
    gap_fewer_composes =
        let fewer : Restricts gap_wide gap_fewer =
        restricted nodes gap_wide gap_fewer s.places.items gap_wide_well gap_restricts in
        let g = gap_on_fewer (gap_twice (answers_of x)) (gap_twice (answers_of y)) gap_wide gap_fewer fewer
        (gap_half (gap_twice (answers_of x)) (gap_twice (answers_of y)) gap_wide gap_wide_composes) in
        record { kept = g.kept; coupled = g.coupled; energisable = g.energisable; earthable = g.earthable }

    gap_fewer_kept : (n : ℕ) → Keeps s.kept.items n ↔ Contains nodes n
    gap_fewer_kept =
        restricted_kept nodes gap_wide gap_fewer s.places.items gap_wide_well gap_restricts
        (λ n has. (gap_wide_composes.kept n).1 (inside n has))

    pub gap_row_of_both : IsGapRowOfBoth nodes (answers_of x) (answers_of y) bytes
    gap_row_of_both = record {
      value = gap_fewer;
      contraction = gap_fewer_well;
      kept = gap_fewer_kept;
      composes = gap_fewer_composes;
      row =
          h.bytes ∙ in_front s.bytes (words h.labels) (flags h.first) (flags h.second)
          ∙ ap (λ (k : List ℕ). k ++ (words h.labels ++ flags h.first ++ flags h.second)) is.bytes;
    }

  module _ (bytes : List ℕ) (h : IsLoadText s x.load y.load x.bonded y.bonded bytes) where
    abbrev load_wide : Answers
    load_wide = twice s.union.kept.items h.wide h.bonded.wide h.firsts.wide h.seconds.wide h.seconds.wide

    abbrev load_fewer : Answers
    load_fewer = twice s.kept.items h.labels h.bonds h.first h.second h.second

    load_steps : Steps (load_twice (answers_of x)) (load_twice (answers_of y)) s.union.first.items
        s.union.second.items load_wide
    load_steps = record {
      merged = is.merged;
      coupled = h.composes;
      joined = h.composes;
      bonded = h.bonded.composes;
      energisable = h.firsts.composes;
      earthable = h.seconds.composes;
      fed = h.firsts.composes;
      loaded = h.seconds.composes;
    }

    load_wide_well : IsContraction load_wide
    load_wide_well =
        composed_well (load_twice (answers_of x)) (load_twice (answers_of y)) load_wide s.union.first.items
        s.union.second.items (load_twice_well (answers_of x) wx) (load_twice_well (answers_of y) wy) load_steps

    load_wide_composes : Composes (load_twice (answers_of x)) (load_twice (answers_of y)) load_wide
    load_wide_composes =
        composed (load_twice (answers_of x)) (load_twice (answers_of y)) load_wide s.union.first.items
        s.union.second.items (load_twice_well (answers_of x) wx) (load_twice_well (answers_of y) wy) load_steps

    load_restricts : RestrictSteps nodes load_wide load_fewer s.places.items
    load_restricts = record {
      places_of = is.places;
      kept = is.kept;
      coupled = h.restricts;
      joined = h.restricts;
      bonded = h.bonded.restricts;
      energisable = h.firsts.restricts;
      earthable = h.seconds.restricts;
      fed = h.firsts.restricts;
      loaded = h.seconds.restricts;
    }

    load_fewer_well : IsContraction load_fewer
    load_fewer_well = restricted_well nodes load_wide load_fewer s.places.items load_wide_well load_restricts

    load_fewer_composes : ComposesLoad (answers_of x) (answers_of y) load_fewer
    load_fewer_composes =
        let fewer : Restricts load_wide load_fewer =
        restricted nodes load_wide load_fewer s.places.items load_wide_well load_restricts in
        let g = load_on_fewer (load_twice (answers_of x)) (load_twice (answers_of y)) load_wide load_fewer fewer
        (load_half (load_twice (answers_of x)) (load_twice (answers_of y)) load_wide load_wide_composes) in
        record { kept = g.kept; joined = g.joined; bonded = g.bonded; fed = g.fed; loaded = g.loaded }

    load_fewer_kept : (n : ℕ) → Keeps s.kept.items n ↔ Contains nodes n
    load_fewer_kept =
        restricted_kept nodes load_wide load_fewer s.places.items load_wide_well load_restricts
        (λ n has. (load_wide_composes.kept n).1 (inside n has))

    pub load_row_of_both : IsLoadRowOfBoth nodes (answers_of x) (answers_of y) bytes
    load_row_of_both = record {
      value = load_fewer;
      contraction = load_fewer_well;
      kept = load_fewer_kept;
      composes = load_fewer_composes;
      row =
          h.bytes ∙ in_front_bonded s.bytes (words h.labels) (words h.bonds) (flags h.first) (flags h.second)
          ∙ ap (λ (k : List ℕ). k ++ (words h.labels ++ words h.bonds ++ flags h.first ++ flags h.second)) is.bytes;
    }

-- ONE VIEW OF BOTH TOGETHER STANDS FOR BOTH LISTS OF ITEMS
pub gap_lists : (x y z : Answers) → ComposesGap x y z → (items others : List Item) (d : Diagram) (v : List Bool) →
    MeetsKept (Among items) (Among others) d x.kept y.kept → GapStandsFor (Among items) d v x →
    GapStandsFor (Among others) d v y → GapStandsFor (Among (items ++ others)) d v z
gap_lists x y z composes items others d v meets sx sy =
    gap_over (Either (Among items) (Among others)) (Among (items ++ others)) d v z
    (λ item has. among_both items others item)
    (gap_composes (Among items) (Among others) d v x y z meets composes sx sy)

pub load_lists : (x y z : Answers) → ComposesLoad x y z → (items others : List Item) (d : Diagram) (v : List Bool) →
    MeetsKept (Among items) (Among others) d x.kept y.kept → LoadStandsFor (Among items) d v x →
    LoadStandsFor (Among others) d v y → LoadStandsFor (Among (items ++ others)) d v z
load_lists x y z composes items others d v meets sx sy =
    load_over (Either (Among items) (Among others)) (Among (items ++ others)) d v z
    (λ item has. among_both items others item)
    (load_composes (Among items) (Among others) d v x y z meets composes sx sy)
