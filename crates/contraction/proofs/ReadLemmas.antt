-- What is read from a row is the value whose row it is, bare in the other view.
use Rattle.std.proofs.Common.{◌≡◌, ℕ, ◌+◌, ◌*◌, ◌/◌, ◌≤◌, ◌⊎◌, ◌↔◌, ◌++◌, Bool, List, [], length}
use Rattle.std.proofs.Common.{slice_get, take, drop}
use Rattle.std.proofs.Common.{refl, sym, ◌∙◌, ap, subst, arith, append_assoc}
use Rattle.std.specs.Prelude.{Contains}
use Rattle.std.specs.List.{between}
use Rattle.std.proofs.lemmas.List.{take_at, take_all, drop_at, length-append}
use Rattle.std.proofs.lemmas.Slice.{between_is}
use Rattle.station_graph.specs.Diagram.{Diagram}
use Rattle.station_graph.specs.Views.{EnergisableBy, EarthableBy, FedBy, TappedBy}
use Rattle.station_graph.specs.declared.limits.TheConstants.{NODES}
use Rattle.contraction.specs.declared.row.Row.{Row}
use Rattle.contraction.specs.Answers.{Answers, Keeps, MarkedAt, IsContraction}
use Rattle.contraction.specs.Single.{AreAlone, IsBare, AreBare}
use Rattle.contraction.specs.Stands.{Among, GapStandsFor, LoadStandsFor}
use Rattle.contraction.specs.Composing.{ComposesGap, ComposesLoad, IsGapOfBoth, IsLoadOfBoth}
use Rattle.contraction.specs.Composing.{IsGapRowOfBoth, IsLoadRowOfBoth}
use Rattle.contraction.specs.Rows.{words, flags, gap_row, load_row, IsGapRow, IsLoadRow}
use Rattle.contraction.proofs.EmptyLemmas.{bare_well, bare_stands}
use Rattle.contraction.proofs.MergeLemmas.{few_nodes}
use Rattle.contraction.proofs.RowLemmas.{length-words, length-flags, gap_row_tells, load_row_tells}

-- ---- the parts of a row

mid : (p q r : List ℕ) (a b : ℕ) → length p ≡ a → length p + length q ≡ b → between a b (p ++ q ++ r) ≡ q
mid p q r a b ea eb =
    between_is (p ++ q ++ r) a b
    ∙ ap (λ (l : List ℕ). drop a l) (take_at (p ++ q) r b (length-append p q ∙ eb)) ∙ drop_at p q a ea

last : (p q : List ℕ) (a b : ℕ) → length p ≡ a → length p + length q ≡ b → between a b (p ++ q) ≡ q
last p q a b ea eb =
    between_is (p ++ q) a b
    ∙ ap (λ (l : List ℕ). drop a l) (take_all b (p ++ q) (omega (arith, length-append p q))) ∙ drop_at p q a ea

three_right : (p q r s : List ℕ) → p ++ q ++ r ++ s ≡ p ++ (q ++ r ++ s)
three_right p q r s = simp append_assoc

-- The parts of the bytes of a gap row of so many nodes.
pub record GapParts (bytes : List ℕ) (count : ℕ) (c : Answers) : Type 0 where
  pub count_is : count ≡ length c.kept
  pub long : length bytes ≡ 6 * count
  pub kept : take (2 * count) bytes ≡ words c.kept
  pub coupled : between (2 * count) (4 * count) bytes ≡ words c.coupled
  pub energisable : between (4 * count) (5 * count) bytes ≡ flags c.energisable
  pub earthable : between (5 * count) (6 * count) bytes ≡ flags c.earthable

-- Those of a load row.
pub record LoadParts (bytes : List ℕ) (count : ℕ) (c : Answers) : Type 0 where
  pub count_is : count ≡ length c.kept
  pub long : length bytes ≡ 8 * count
  pub kept : take (2 * count) bytes ≡ words c.kept
  pub joined : between (2 * count) (4 * count) bytes ≡ words c.joined
  pub bonded : between (4 * count) (6 * count) bytes ≡ words c.bonded
  pub fed : between (6 * count) (7 * count) bytes ≡ flags c.fed
  pub loaded : between (7 * count) (8 * count) bytes ≡ flags c.loaded

module _ (c : Answers) (w : IsContraction c) where
  abbrev n : ℕ
  n = length c.kept

  long_kept : length (words c.kept) ≡ 2 * n
  long_kept = length-words c.kept

  module _ (bytes : List ℕ) (is : bytes ≡ gap_row c) where
    gap_flat : bytes ≡ words c.kept ++ words c.coupled ++ flags c.energisable ++ flags c.earthable
    gap_flat = is ∙ simp append_assoc

    long_coupled : length (words c.coupled) ≡ 2 * n
    long_coupled = omega (arith, length-words c.coupled, w.coupled.len)

    long_two : length (words c.kept ++ words c.coupled) ≡ 4 * n
    long_two = omega (arith, length-append (words c.kept) (words c.coupled), long_kept, long_coupled)

    long_three : length (words c.kept ++ words c.coupled ++ flags c.energisable) ≡ 5 * n
    long_three =
        omega (
          arith,
          length-append (words c.kept ++ words c.coupled) (flags c.energisable),
          long_two,
          length-flags c.energisable,
          w.energisable,
        )

    long_gap : length bytes ≡ 6 * n
    long_gap =
        ap length gap_flat
        ∙ omega (
          arith,
          length-append (words c.kept ++ words c.coupled ++ flags c.energisable) (flags c.earthable),
          long_three,
          length-flags c.earthable,
          w.earthable,
        )

    gap_parts_n : GapParts bytes n c
    gap_parts_n = record {
      count_is = refl;
      long = long_gap;
      kept =
          ap (λ (l : List ℕ). take (2 * n) l) is ∙ take_at (words c.kept) _ (2 * n) long_kept;
      coupled =
          ap (λ (l : List ℕ). between (2 * n) (4 * n) l) (gap_flat ∙ append_assoc (words c.kept ++ words c.coupled)
          (flags c.energisable) (flags c.earthable))
          ∙ mid (words c.kept) (words c.coupled) (flags c.energisable ++ flags c.earthable) (2 * n) (4 * n) long_kept
          (omega (arith, long_kept, long_coupled));
      energisable =
          ap (λ (l : List ℕ). between (4 * n) (5 * n) l) gap_flat
          ∙ mid (words c.kept ++ words c.coupled) (flags c.energisable) (flags c.earthable) (4 * n) (5 * n) long_two
          (omega (arith, long_two, length-flags c.energisable, w.energisable));
      earthable =
          ap (λ (l : List ℕ). between (5 * n) (6 * n) l) gap_flat
          ∙ last (words c.kept ++ words c.coupled ++ flags c.energisable) (flags c.earthable) (5 * n) (6 * n) long_three
          (omega (arith, long_three, length-flags c.earthable, w.earthable));
    }

    pub gap_parts : (count : ℕ) → count ≡ length bytes / 6 → GapParts bytes count c
    gap_parts count e =
        subst (λ k. GapParts bytes k c) (sym (e ∙ ap (λ k. k / 6) long_gap ∙ omega arith)) gap_parts_n

  module _ (bytes : List ℕ) (is : bytes ≡ load_row c) where
    load_flat : bytes ≡ words c.kept ++ words c.joined ++ words c.bonded ++ flags c.fed ++ flags c.loaded
    load_flat = is ∙ simp append_assoc

    joined_two : length (words c.kept ++ words c.joined) ≡ 4 * n
    joined_two =
        omega (
          arith,
          length-append (words c.kept) (words c.joined),
          long_kept,
          length-words c.joined,
          w.joined.len,
        )

    bonded_three : length (words c.kept ++ words c.joined ++ words c.bonded) ≡ 6 * n
    bonded_three =
        omega (
          arith,
          length-append (words c.kept ++ words c.joined) (words c.bonded),
          joined_two,
          length-words c.bonded,
          w.bonded.len,
        )

    fed_four : length (words c.kept ++ words c.joined ++ words c.bonded ++ flags c.fed) ≡ 7 * n
    fed_four =
        omega (
          arith,
          length-append (words c.kept ++ words c.joined ++ words c.bonded) (flags c.fed),
          bonded_three,
          length-flags c.fed,
          w.fed,
        )

    long_load : length bytes ≡ 8 * n
    long_load =
        ap length load_flat
        ∙ omega (
          arith,
          length-append (words c.kept ++ words c.joined ++ words c.bonded ++ flags c.fed) (flags c.loaded),
          fed_four,
          length-flags c.loaded,
          w.loaded,
        )

    load_parts_n : LoadParts bytes n c
    load_parts_n = record {
      count_is = refl;
      long = long_load;
      kept = ap (λ (l : List ℕ). take (2 * n) l) is ∙ take_at (words c.kept) _ (2 * n) long_kept;
      joined =
          ap (λ (l : List ℕ). between (2 * n) (4 * n) l) (load_flat ∙ three_right (words c.kept ++ words c.joined)
          (words c.bonded) (flags c.fed) (flags c.loaded))
          ∙ mid (words c.kept) (words c.joined) (words c.bonded ++ flags c.fed ++ flags c.loaded) (2 * n) (4 * n)
          long_kept (omega (arith, long_kept, length-words c.joined, w.joined.len));
      bonded =
          ap (λ (l : List ℕ). between (4 * n) (6 * n) l) (load_flat ∙ append_assoc
          (words c.kept ++ words c.joined ++ words c.bonded) (flags c.fed) (flags c.loaded))
          ∙ mid (words c.kept ++ words c.joined) (words c.bonded) (flags c.fed ++ flags c.loaded) (4 * n) (6 * n)
          joined_two (omega (arith, joined_two, length-words c.bonded, w.bonded.len));
      fed =
          ap (λ (l : List ℕ). between (6 * n) (7 * n) l) load_flat
          ∙ mid (words c.kept ++ words c.joined ++ words c.bonded) (flags c.fed) (flags c.loaded) (6 * n) (7 * n)
          bonded_three (omega (arith, bonded_three, length-flags c.fed, w.fed));
      loaded =
          ap (λ (l : List ℕ). between (7 * n) (8 * n) l) load_flat
          ∙ last (words c.kept ++ words c.joined ++ words c.bonded ++ flags c.fed) (flags c.loaded) (7 * n) (8 * n)
          fed_four (omega (arith, fed_four, length-flags c.loaded, w.loaded));
    }

    pub load_parts : (count : ℕ) → count ≡ length bytes / 8 → LoadParts bytes count c
    load_parts count e =
        subst (λ k. LoadParts bytes k c) (sym (e ∙ ap (λ k. k / 8) long_load ∙ omega arith)) load_parts_n

-- ---- the value that is read

-- What the value is that a gap row tells.
pub record GapIsRead (bytes : List ℕ) (c : Answers) : Type 0 where
  pub contraction : IsContraction c
  pub row : bytes ≡ gap_row c
  pub bare : (d : Diagram) (v : List Bool) → LoadStandsFor (Among []) d v c
  pub both : (nodes : List ℕ) (x y : Answers) → IsGapRowOfBoth nodes x y bytes → IsGapOfBoth nodes x y c

-- What the value is that a load row tells.
pub record LoadIsRead (bytes : List ℕ) (c : Answers) : Type 0 where
  pub contraction : IsContraction c
  pub row : bytes ≡ load_row c
  pub bare : (d : Diagram) (v : List Bool) → GapStandsFor (Among []) d v c
  pub both : (nodes : List ℕ) (x y : Answers) → IsLoadRowOfBoth nodes x y bytes → IsLoadOfBoth nodes x y c

abbrev gap_beside : List ℕ → List ℕ → List Bool → List Bool → Row → List ℕ → Answers
gap_beside kept coupled energisable earthable other bonded = record {
  kept = kept;
  coupled = coupled;
  joined = other.labels;
  bonded = bonded;
  energisable = energisable;
  earthable = earthable;
  fed = other.first.items;
  loaded = other.second.items;
}

abbrev load_beside : List ℕ → List ℕ → List ℕ → List Bool → List Bool → Row → Answers
load_beside kept joined bonded fed loaded other = record {
  kept = kept;
  coupled = other.labels;
  joined = joined;
  bonded = bonded;
  energisable = other.first.items;
  earthable = other.second.items;
  fed = fed;
  loaded = loaded;
}

module _ (value : Answers) (w : IsContraction value) (bytes : List ℕ) (other : Row)
    (bare : IsBare (length value.kept) other) where
  module _ (is : bytes ≡ gap_row value) (bonded : List ℕ) (apart : AreAlone (length value.kept) bonded) where
    abbrev gap_value : Answers
    gap_value = gap_beside value.kept value.coupled value.energisable value.earthable other bonded

    gap_value_well : IsContraction gap_value
    gap_value_well =
        let b = bare_well value.kept other.labels other.labels bonded bare.labels bare.labels apart w.nodes in
        record {
          nodes = w.nodes;
          coupled = w.coupled;
          joined = b.joined;
          bonded = b.bonded;
          energisable = w.energisable;
          earthable = w.earthable;
          fed = ap length bare.first ∙ b.fed;
          loaded = ap length bare.second ∙ b.loaded;
          fed_loaded = λ k e. ap (λ (l : List Bool). slice_get l k) (bare.second ∙ sym bare.first) ∙ e;
        }

    gap_value_bare : (d : Diagram) (v : List Bool) → LoadStandsFor (Among []) d v gap_value
    gap_value_bare d v =
        let b = (bare_stands value.kept other.labels other.labels bonded bare.labels bare.labels apart d v).load in
        record {
          joined = b.joined;
          bonded = b.bonded;
          fed =
              λ a k. subst (λ (m : List Bool). MarkedAt value.kept m a ↔ FedBy (Among []) d v a)
              (sym bare.first) (b.fed a k);
          loaded =
              λ a k. subst (λ (m : List Bool). MarkedAt value.kept m a ↔
              (FedBy (Among []) d v a ⊎ TappedBy (Among []) d v a)) (sym bare.second) (b.loaded a k);
        }

    -- whatever value has the row, this one answers as it does
    gap_value_both : (nodes : List ℕ) (x y : Answers) → IsGapRowOfBoth nodes x y bytes →
        IsGapOfBoth nodes x y gap_value
    gap_value_both nodes x y h =
        let told = gap_row_tells h.value value h.contraction w (sym h.row ∙ is) in
        let as_value : gap_beside h.value.kept h.value.coupled h.value.energisable h.value.earthable other bonded
        ≡ gap_value =
        ap (λ (l : List ℕ). gap_beside l h.value.coupled h.value.energisable h.value.earthable other bonded) told.0
        ∙ (ap (λ (l : List ℕ). gap_beside value.kept l h.value.energisable h.value.earthable other bonded)
        told.1.coupled
        ∙ (ap (λ (l : List Bool). gap_beside value.kept value.coupled l h.value.earthable other bonded)
        told.1.energisable
        ∙ ap (λ (l : List Bool). gap_beside value.kept value.coupled value.energisable l other bonded)
        told.1.earthable)) in
        let composed = subst (λ (z : Answers). ComposesGap x y z) as_value (record {
          kept = h.composes.kept;
          coupled = h.composes.coupled;
          energisable = h.composes.energisable;
          earthable = h.composes.earthable;
        }) in
        record {
          contraction = gap_value_well;
          kept = subst (λ (l : List ℕ). (n : ℕ) → Keeps l n ↔ Contains nodes n) told.0 h.kept;
          composes = composed;
          bare = gap_value_bare;
        }

    gap_value_read : GapIsRead bytes gap_value
    gap_value_read = record {
      contraction = gap_value_well;
      row = is;
      bare = gap_value_bare;
      both = gap_value_both;
    }

    pub gap_is_read : (kept coupled : List ℕ) (energisable earthable : List Bool) → kept ≡ value.kept →
        coupled ≡ value.coupled → energisable ≡ value.energisable → earthable ≡ value.earthable →
        GapIsRead bytes (gap_beside kept coupled energisable earthable other bonded)
    gap_is_read kept coupled energisable earthable ek ec ee ea =
        subst (λ (l : List ℕ). GapIsRead bytes (gap_beside l coupled energisable earthable other bonded)) (sym ek)
        (subst (λ (l : List ℕ). GapIsRead bytes (gap_beside value.kept l energisable earthable other bonded)) (sym ec)
        (subst (λ (l : List Bool). GapIsRead bytes (gap_beside value.kept value.coupled l earthable other bonded))
        (sym ee) (subst (λ (l : List Bool). GapIsRead bytes
        (gap_beside value.kept value.coupled value.energisable l other bonded)) (sym ea) gap_value_read)))

  module _ (is : bytes ≡ load_row value) where
    abbrev load_value : Answers
    load_value = load_beside value.kept value.joined value.bonded value.fed value.loaded other

    load_value_well : IsContraction load_value
    load_value_well =
        let b = bare_well value.kept other.labels other.labels other.labels bare.labels bare.labels bare.labels
        w.nodes in
        record {
          nodes = w.nodes;
          coupled = b.coupled;
          joined = w.joined;
          bonded = w.bonded;
          energisable = ap length bare.first ∙ b.energisable;
          earthable = ap length bare.second ∙ b.earthable;
          fed = w.fed;
          loaded = w.loaded;
          fed_loaded = w.fed_loaded;
        }

    load_value_bare : (d : Diagram) (v : List Bool) → GapStandsFor (Among []) d v load_value
    load_value_bare d v =
        let b = (bare_stands value.kept other.labels other.labels other.labels bare.labels bare.labels bare.labels
        d v).gap in
        record {
          coupled = b.coupled;
          energisable =
              λ a l. subst (λ (m : List Bool). MarkedAt value.kept m a ↔ EnergisableBy (Among []) d v a)
              (sym bare.first) (b.energisable a l);
          earthable =
              λ a l. subst (λ (m : List Bool). MarkedAt value.kept m a ↔ EarthableBy (Among []) d v a)
              (sym bare.second) (b.earthable a l);
        }

    load_value_both : (nodes : List ℕ) (x y : Answers) → IsLoadRowOfBoth nodes x y bytes →
        IsLoadOfBoth nodes x y load_value
    load_value_both nodes x y h =
        let v = h.value in
        let told = load_row_tells v value h.contraction w (sym h.row ∙ is) in
        let as_value : load_beside v.kept v.joined v.bonded v.fed v.loaded other ≡ load_value =
        ap (λ (l : List ℕ). load_beside l v.joined v.bonded v.fed v.loaded other) told.0
        ∙ (ap (λ (l : List ℕ). load_beside value.kept l v.bonded v.fed v.loaded other) told.1.joined
        ∙ (ap (λ (l : List ℕ). load_beside value.kept value.joined l v.fed v.loaded other) told.1.bonded
        ∙ (ap (λ (l : List Bool). load_beside value.kept value.joined value.bonded l v.loaded other) told.1.fed
        ∙ ap (λ (l : List Bool). load_beside value.kept value.joined value.bonded value.fed l other)
        told.1.loaded))) in
        let composed = subst (λ (z : Answers). ComposesLoad x y z) as_value (record {
          kept = h.composes.kept;
          joined = h.composes.joined;
          bonded = h.composes.bonded;
          fed = h.composes.fed;
          loaded = h.composes.loaded;
        }) in
        record {
          contraction = load_value_well;
          kept = subst (λ (l : List ℕ). (n : ℕ) → Keeps l n ↔ Contains nodes n) told.0 h.kept;
          composes = composed;
          bare = load_value_bare;
        }

    load_value_read : LoadIsRead bytes load_value
    load_value_read = record {
      contraction = load_value_well;
      row = is;
      bare = load_value_bare;
      both = load_value_both;
    }

    pub load_is_read : (kept joined bonded : List ℕ) (fed loaded : List Bool) → kept ≡ value.kept →
        joined ≡ value.joined → bonded ≡ value.bonded → fed ≡ value.fed → loaded ≡ value.loaded →
        LoadIsRead bytes (load_beside kept joined bonded fed loaded other)
    load_is_read kept joined bonded fed loaded ek ej eb ef el =
        subst (λ (l : List ℕ). LoadIsRead bytes (load_beside l joined bonded fed loaded other)) (sym ek)
        (subst (λ (l : List ℕ). LoadIsRead bytes (load_beside value.kept l bonded fed loaded other)) (sym ej)
        (subst (λ (l : List ℕ). LoadIsRead bytes (load_beside value.kept value.joined l fed loaded other)) (sym eb)
        (subst (λ (l : List Bool). LoadIsRead bytes (load_beside value.kept value.joined value.bonded l loaded other))
        (sym ef) (subst (λ (l : List Bool). LoadIsRead bytes
        (load_beside value.kept value.joined value.bonded value.fed l other)) (sym el) load_value_read))))

-- ---- what is read part by part
module _ (bytes seen : List ℕ) (r : IsGapRow bytes) (same : seen ≡ bytes) where
  gap_parts_seen : GapParts seen (length seen / 6) r.value
  gap_parts_seen = gap_parts r.value r.contraction seen (same ∙ r.row) (length seen / 6) refl

  pub gap_few : length (take (2 * (length seen / 6)) seen) / 2 ≤ NODES
  gap_few =
      omega (
        arith,
        ap length gap_parts_seen.kept ∙ length-words r.value.kept,
        few_nodes r.value.kept r.contraction.nodes,
      )

  -- the row that is read, with the views of no item on its nodes
  pub gap_told : (kept labels : List ℕ) (first second : List Bool) (gap other : Row) (bonded : List ℕ) →
      AreBare (length kept) other bonded →
      ((xs : List ℕ) → take (2 * (length seen / 6)) seen ≡ words xs → kept ≡ xs) →
      ((xs : List ℕ) → between (2 * (length seen / 6)) (4 * (length seen / 6)) seen ≡ words xs → labels ≡ xs) →
      ((bs : List Bool) → between (4 * (length seen / 6)) (5 * (length seen / 6)) seen ≡ flags bs → first ≡ bs) →
      ((bs : List Bool) → between (5 * (length seen / 6)) (6 * (length seen / 6)) seen ≡ flags bs → second ≡ bs) →
      gap.labels ≡ labels → gap.first.items ≡ first → gap.second.items ≡ second →
      GapIsRead bytes (gap_beside kept gap.labels gap.first.items gap.second.items other bonded)
  gap_told kept labels first second gap other bonded bare ek ec ee ea gl gf gs =
      let p = gap_parts_seen in
      let n = ap length (ek r.value.kept p.kept) in
      gap_is_read r.value r.contraction bytes other (subst (λ k. IsBare k other) n bare.bare) r.row bonded
      (subst (λ k. AreAlone k bonded) n bare.alone) kept gap.labels gap.first.items gap.second.items
      (ek r.value.kept p.kept) (gl ∙ ec r.value.coupled p.coupled) (gf ∙ ee r.value.energisable p.energisable)
      (gs ∙ ea r.value.earthable p.earthable)

module _ (bytes seen : List ℕ) (r : IsLoadRow bytes) (same : seen ≡ bytes) where
  load_parts_seen : LoadParts seen (length seen / 8) r.value
  load_parts_seen = load_parts r.value r.contraction seen (same ∙ r.row) (length seen / 8) refl

  pub load_few : length (take (2 * (length seen / 8)) seen) / 2 ≤ NODES
  load_few =
      omega (
        arith,
        ap length load_parts_seen.kept ∙ length-words r.value.kept,
        few_nodes r.value.kept r.contraction.nodes,
      )

  -- the row that is read, with the views of no item on its nodes
  pub load_told : (kept labels bonds bonded : List ℕ) (first second : List Bool) (load other : Row)
      (alone : List ℕ) → AreBare (length kept) other alone →
      ((xs : List ℕ) → take (2 * (length seen / 8)) seen ≡ words xs → kept ≡ xs) →
      ((xs : List ℕ) → between (2 * (length seen / 8)) (4 * (length seen / 8)) seen ≡ words xs → labels ≡ xs) →
      ((xs : List ℕ) → between (4 * (length seen / 8)) (6 * (length seen / 8)) seen ≡ words xs → bonds ≡ xs) →
      ((bs : List Bool) → between (6 * (length seen / 8)) (7 * (length seen / 8)) seen ≡ flags bs → first ≡ bs) →
      ((bs : List Bool) → between (7 * (length seen / 8)) (8 * (length seen / 8)) seen ≡ flags bs → second ≡ bs) →
      bonded ≡ bonds → load.labels ≡ labels → load.first.items ≡ first → load.second.items ≡ second →
      LoadIsRead bytes (load_beside kept load.labels bonded load.first.items load.second.items other)
  load_told kept labels bonds bonded first second load other alone bare ek ej eb ef el gb gl gf gs =
      let p = load_parts_seen in
      load_is_read r.value r.contraction bytes other
      (subst (λ k. IsBare k other) (ap length (ek r.value.kept p.kept)) bare.bare) r.row kept load.labels bonded load.first.items
      load.second.items (ek r.value.kept p.kept) (gl ∙ ej r.value.joined p.joined)
      (gb ∙ eb r.value.bonded p.bonded) (gf ∙ ef r.value.fed p.fed) (gs ∙ el r.value.loaded p.loaded)
