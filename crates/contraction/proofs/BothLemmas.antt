-- Both rows of a value, and of two values together.
use Rattle.std.proofs.Common.{◌≡◌, ℕ, ◌+◌, ◌-◌, ◌*◌, ◌/◌, ◌++◌, Bool, List, length, take, drop, sym, ◌∙◌, ap, subst, arith}
use Rattle.std.specs.Prelude.{Contains}
use Rattle.std.proofs.lemmas.List.{drop_at, take_all, length-append}
use Rattle.contraction.specs.Answers.{Answers, Keeps, AreLabels, IsContraction}
use Rattle.contraction.specs.Composing.{ComposesLoad, IsGapRowOfBoth, IsLoadRowOfBoth, AreRowsOfBoth}
use Rattle.contraction.specs.Rows.{words, gap_row, load_row, load_bytes, whole_row, AreRowsOf}
use Rattle.contraction.proofs.RisingLemmas.{kept_equal}
use Rattle.contraction.proofs.RowLemmas.{length-words, gap_row_tells, load_row_tells}
use Rattle.contraction.proofs.ReadLemmas.{load_parts}
use Rattle.contraction.proofs.KeepLemmas.{via}
use Rattle.contraction.proofs.ViewLemmas.{back}

-- The gap view of the first value beside the load view of the second.
abbrev pub beside : Answers → Answers → Answers
beside x y = record {
  kept = x.kept;
  coupled = x.coupled;
  joined = y.joined;
  bonded = y.bonded;
  energisable = x.energisable;
  earthable = x.earthable;
  fed = y.fed;
  loaded = y.loaded;
}

module _ (x y : Answers) (wx : IsContraction x) (wy : IsContraction y) (same : x.kept ≡ y.kept) where
  pub beside_well : IsContraction (beside x y)
  beside_well = record {
    nodes = wx.nodes;
    coupled = wx.coupled;
    joined = subst (λ (k : List ℕ). AreLabels (length k) y.joined) (sym same) wy.joined;
    bonded = subst (λ (k : List ℕ). AreLabels (length k) y.bonded) (sym same) wy.bonded;
    energisable = wx.energisable;
    earthable = wx.earthable;
    fed = wy.fed ∙ ap length (sym same);
    loaded = wy.loaded ∙ ap length (sym same);
    fed_loaded = wy.fed_loaded;
  }

  pub beside_load_row : load_row y ≡ load_row (beside x y)
  beside_load_row = ap (λ (k : List ℕ). words k ++ load_bytes y) (sym same)

-- rows that are those of a value and of another are those of both views side by side
pub rows_beside : (x y : Answers) (gap load : List ℕ) → IsContraction x → IsContraction y → x.kept ≡ y.kept
    → gap ≡ gap_row x → load ≡ load_row y → AreRowsOf (beside x y) gap load
rows_beside x y gap load wx wy same gap_is load_is = record {
  contraction = beside_well x y wx wy same;
  gap_is = gap_is;
  load_is = load_is ∙ beside_load_row x y wx wy same;
}

abbrev answers : List ℕ → List ℕ → List ℕ → List ℕ → List Bool → List Bool → List Bool → List Bool → Answers
answers kept coupled joined bonded energisable earthable fed loaded = record {
  kept = kept;
  coupled = coupled;
  joined = joined;
  bonded = bonded;
  energisable = energisable;
  earthable = earthable;
  fed = fed;
  loaded = loaded;
}

-- values with the same rows are one
pub rows_tell : (x y : Answers) (gap load : List ℕ) → AreRowsOf x gap load → AreRowsOf y gap load → x ≡ y
rows_tell x y gap load hx hy =
    let g = gap_row_tells x y hx.contraction hy.contraction (sym hx.gap_is ∙ hy.gap_is) in
    let l = load_row_tells x y hx.contraction hy.contraction (sym hx.load_is ∙ hy.load_is) in
    ap (λ (k : List ℕ). answers k x.coupled x.joined x.bonded x.energisable x.earthable x.fed x.loaded) g.0
    ∙ (ap (λ (k : List ℕ). answers y.kept k x.joined x.bonded x.energisable x.earthable x.fed x.loaded) g.1.coupled
    ∙ (ap (λ (k : List ℕ). answers y.kept y.coupled k x.bonded x.energisable x.earthable x.fed x.loaded) l.1.joined
    ∙ (ap (λ (k : List ℕ). answers y.kept y.coupled y.joined k x.energisable x.earthable x.fed x.loaded) l.1.bonded
    ∙ (ap (λ (k : List Bool). answers y.kept y.coupled y.joined y.bonded k x.earthable x.fed x.loaded) g.1.energisable
    ∙ (ap (λ (k : List Bool). answers y.kept y.coupled y.joined y.bonded y.energisable k x.fed x.loaded) g.1.earthable
    ∙ (ap (λ (k : List Bool). answers y.kept y.coupled y.joined y.bonded y.energisable y.earthable k x.loaded) l.1.fed
    ∙ ap (λ (k : List Bool). answers y.kept y.coupled y.joined y.bonded y.energisable y.earthable y.fed k)
    l.1.loaded))))))

-- of the value whose rows these are each row tells the kept nodes
pub rows_keep : (v x y : Answers) (gap load : List ℕ) → AreRowsOf v gap load → IsContraction x → IsContraction y
    → gap ≡ gap_row x → load ≡ load_row y → x.kept ≡ y.kept
rows_keep v x y gap load h wx wy gap_is load_is =
    (gap_row_tells x v wx h.contraction (sym gap_is ∙ h.gap_is)).0
    ∙ (load_row_tells v y h.contraction wy (sym h.load_is ∙ load_is)).0

-- the row of both views is the one row, and the other without its kept nodes
pub whole_is : (c : Answers) (gap load : List ℕ) (count : ℕ) → AreRowsOf c gap load → count ≡ length load / 8
    → gap ++ take (length load - 2 * count) (drop (2 * count) load) ≡ whole_row c
whole_is c gap load count h e =
    let p = load_parts c h.contraction load h.load_is count e in
    let kept : length (words c.kept) ≡ 2 * count = length-words c.kept ∙ ap (λ k. 2 * k) (sym p.count_is) in
    let rest : drop (2 * count) load ≡ load_bytes c =
    ap (drop (2 * count)) h.load_is ∙ drop_at (words c.kept) (load_bytes c) (2 * count) kept in
    let long : length load ≡ 2 * count + length (load_bytes c) =
    ap length h.load_is ∙ (length-append (words c.kept) (load_bytes c) ∙ ap (λ k. k + length (load_bytes c)) kept) in
    let all : take (length load - 2 * count) (drop (2 * count) load) ≡ load_bytes c =
    ap (take (length load - 2 * count)) rest
    ∙ take_all (length load - 2 * count) (load_bytes c) (omega (arith, long)) in
    ap (λ (l : List ℕ). l ++ take (length load - 2 * count) (drop (2 * count) load)) h.gap_is
    ∙ ap (λ (l : List ℕ). gap_row c ++ l) all

module _ (nodes : List ℕ) (x y : Answers) (gap load : List ℕ) (g : IsGapRowOfBoth nodes x y gap)
    (l : IsLoadRowOfBoth nodes x y load) where
  same : g.value.kept ≡ l.value.kept
  same = kept_equal g.value l.value g.contraction l.contraction (λ n. via (Keeps g.value.kept n) (Contains nodes n)
      (Keeps l.value.kept n) (g.kept n) (back (Keeps l.value.kept n) (Contains nodes n) (l.kept n)))

  abbrev load_on : List ℕ → Answers
  load_on kept = record {
    kept = kept;
    coupled = g.value.coupled;
    joined = l.value.joined;
    bonded = l.value.bonded;
    energisable = g.value.energisable;
    earthable = g.value.earthable;
    fed = l.value.fed;
    loaded = l.value.loaded;
  }

  composes_load : ComposesLoad x y (load_on l.value.kept)
  composes_load = record {
    kept = l.composes.kept;
    joined = l.composes.joined;
    bonded = l.composes.bonded;
    fed = l.composes.fed;
    loaded = l.composes.loaded;
  }

  pub rows_of_both : AreRowsOfBoth nodes x y gap load
  rows_of_both = record {
    value = beside g.value l.value;
    rows = rows_beside g.value l.value gap load g.contraction l.contraction same g.row l.row;
    kept = g.kept;
    gap = record {
      kept = g.composes.kept;
      coupled = g.composes.coupled;
      energisable = g.composes.energisable;
      earthable = g.composes.earthable;
    };
    load = subst (λ (k : List ℕ). ComposesLoad x y (load_on k)) (sym same) composes_load;
  }
