-- Values of one view in a pool.
use Rattle.std.proofs.Common.{◌≡◌, ℕ, ◌↔◌, Bool, true, false, cond, List, [], ◌∷◌, ◌++◌, length, slice_get, Result, Ok}
use Rattle.std.proofs.Common.{Err, Some, None, refl, sym, ap, ◌∙◌, subst, inl, inr}
use Rattle.std.specs.Prelude.{IfOk}
use Rattle.station_graph.specs.Diagram.{Diagram}
use Rattle.station_graph.specs.Connection.{Item}
use Rattle.contraction.specs.Answers.{Answers}
use Rattle.contraction.specs.Stands.{Among, GapStandsFor, LoadStandsFor}
use Rattle.judge_pool.specs.declared.view.View.{View}
use Rattle.judge_pool.specs.declared.view.View.TheVariants.{Gap, Load}
use Rattle.std.specs.Str.{bytes_eq}
use Rattle.std.specs.HashMap.{HashMap, get, Updates}
use Rattle.std.specs.Map.{lookup}
use Rattle.std.proofs.lemmas.Bool.{false≢true}
use Rattle.std.proofs.lemmas.Slice.Eq.{bytes_eq-Decides}
use Rattle.station_graph.proofs.PathLemmas.{slice_get-push}
use Rattle.judge_pool.specs.Seen.{SeenFor, SameSeen, ComposesIn, seen_row}
use Rattle.judge_pool.specs.Folding.{AreApartIn, AreWell}
use Rattle.contraction.specs.Answers.{IsContraction}
use Rattle.contraction.proofs.ViewLemmas.{gap_rows, load_rows}
use Rattle.std.specs.Prelude.{Contains}
use Rattle.contraction.specs.Answers.{Keeps}
use Rattle.judge_pool.specs.declared.pool.Pool.{Pool}
use Rattle.judge_pool.specs.Pooling.{HasSame, IsRowIndex, IsMadeOf, HasCopy, IsPool, number_in}
use Rattle.judge_pool.proofs.LayerLemmas.{get_front, get_last}
use Rattle.judge_pool.proofs.MappedViews.{composes_same, kept_of_same, seen_same}

-- what holds of a result goes over to what follows from it
pub if_ok : {A E : Type 0} (r : Result A E) (P Q : A → Type 0) → ((x : A) → P x → Q x) → IfOk r P → IfOk r Q
if_ok (Ok x) P Q on h = on x h
if_ok (Err e) P Q on h = tt

-- a value more in the index
pub index_more : {S : Type 0} (view : View) (values : List Answers) (x : Answers) (old new : HashMap (List ℕ) ℕ S)
    (row : List ℕ) → IsRowIndex view values old → row ≡ seen_row view x →
    Updates bytes_eq old new row (Some (length values)) → IsRowIndex view (values ++ x ∷ []) new
index_more view values x old new row index is updates = record {
  found = λ q i e. found q i (bytes_eq row q) refl (sym (updates.0 q) ∙ e);
  missing = λ q e i y at same. missing q (bytes_eq row q) refl (sym (updates.0 q) ∙ e) i y at same;
}
  where
    found : (q : List ℕ) (i : ℕ) (b : Bool) → bytes_eq row q ≡ b →
        cond b (Some (length values)) (get bytes_eq old q) ≡ Some i →
        (y : Answers) × (slice_get (values ++ x ∷ []) i ≡ Some y) × (q ≡ seen_row view y)
    found q i true same e =
        let at : length values ≡ i = cc in
        (x, ap (slice_get (values ++ x ∷ [])) (sym at) ∙ get_last values x, sym ((bytes_eq-Decides row q).0 same) ∙ is)
    found q i false same e = let h = index.found q i e in (h.0, get_front values (x ∷ []) i h.0 h.1, h.2)

    missing : (q : List ℕ) (b : Bool) → bytes_eq row q ≡ b → cond b (Some (length values)) (get bytes_eq old q) ≡ None →
        (i : ℕ) (y : Answers) → slice_get (values ++ x ∷ []) i ≡ Some y → q ≡ seen_row view y → ⊥
    missing q true same e i y at is_y = cc
    missing q false same e i y at is_y = elim (slice_get-push values x y i at) [
      | inl before ↦ index.missing q e i y before is_y
      | inr here ↦ false≢true (sym same ∙ (bytes_eq-Decides row q).1 (is ∙ ap (seen_row view) here.1 ∙ sym is_y))
    ]

-- an index with the same entries
pub index_same : {S : Type 0} (view : View) (values : List Answers) (old new : HashMap (List ℕ) ℕ S) →
    IsRowIndex view values old → new.entries ≡ old.entries → IsRowIndex view values new
index_same {S} view values old new index same = record {
  found = λ row i e. index.found row i (sym (at row) ∙ e);
  missing = λ row e. index.missing row (sym (at row) ∙ e);
}
  where
    at : (row : List ℕ) → get bytes_eq new row ≡ get bytes_eq old row
    at row = ap (lookup (bytes_eq row)) same

-- a view of a value that keep_only gives
pub kept_view : (view : View) (x value : Answers) →
    ((items : List Item) (d : Diagram) (v : List Bool) → GapStandsFor (Among items) d v x →
    GapStandsFor (Among items) d v value) →
    ((items : List Item) (d : Diagram) (v : List Bool) → LoadStandsFor (Among items) d v x →
    LoadStandsFor (Among items) d v value) → (items : List Item) (d : Diagram) (v : List Bool) →
    SeenFor view (Among items) d v x → SeenFor view (Among items) d v value
kept_view Gap x value gap load items d v s = gap items d v s
kept_view Load x value gap load items d v s = load items d v s

-- ---- a new value

same_back : (view : View) (x y : Answers) → IsContraction x → IsContraction y → SameSeen view x y → SameSeen view y x
same_back Gap x y wx wy h = (gap_rows y x wy wx).0 (sym ((gap_rows x y wx wy).1 h))
same_back Load x y wx wy h = (load_rows y x wy wx).0 (sym ((load_rows x y wx wy).1 h))

module _ (view : View) (values : List Answers) (x : Answers) (well : AreWell values) (well_x : IsContraction x) where
  pub well_more : AreWell (values ++ x ∷ [])
  well_more t r at = elim (slice_get-push values x r t at) [
    | inl before ↦ well t r before
    | inr here ↦ subst IsContraction here.1 well_x
  ]

  pub apart_more : AreApartIn view values →
      ((i : ℕ) (y : Answers) → slice_get values i ≡ Some y → SameSeen view x y → ⊥) → AreApartIn view (values ++ x ∷ [])
  apart_more apart new t u y z at_t at_u same = elim (slice_get-push values x y t at_t) [
    | inl t_before ↦ elim (slice_get-push values x z u at_u) [
      | inl u_before ↦ apart t u y z t_before u_before same
      | inr u_here ↦
          absurd (new t y t_before
          (same_back view y x (well t y t_before) well_x (subst (λ w. SameSeen view y w) (sym u_here.1) same)))
    ]
    | inr t_here ↦ elim (slice_get-push values x z u at_u) [
      | inl u_before ↦ absurd (new u z u_before (subst (λ w. SameSeen view w z) (sym t_here.1) same))
      | inr u_here ↦ t_here.0 ∙ sym u_here.0
    ]
  ]

-- ---- a value that is the same stands in place of another

kept_same : (view : View) (x y : Answers) → SameSeen view x y → x.kept ≡ y.kept
kept_same Gap x y h = h.kept
kept_same Load x y h = h.kept

pub made_same : (p : Pool) (x y value : Answers) (keep : List ℕ) (t : ℕ) → HasSame p value t →
    ComposesIn p.view x y value → ((n : ℕ) → Keeps value.kept n ↔ Contains keep n) →
    IsMadeOf p.view x y keep p.values.items t
made_same p x y value keep t h composes kept = record {
  value = h.same;
  listed = h.listed;
  composes = composes_same p.view x y value h.same h.well h.well_same h.is_same composes;
  kept = λ n. subst (λ ks. Keeps ks n ↔ Contains keep n) (kept_same p.view value h.same h.is_same) (kept n);
}

-- values with one row have one view
pub rows_tell : (view : View) (x y : Answers) → IsContraction x → IsContraction y → seen_row view x ≡ seen_row view y →
    SameSeen view x y
rows_tell Gap x y wx wy same = (gap_rows x y wx wy).0 same
rows_tell Load x y wx wy same = (load_rows x y wx wy).0 same

-- and values with one view have one row
pub rows_told : (view : View) (x y : Answers) → IsContraction x → IsContraction y → SameSeen view x y →
    seen_row view x ≡ seen_row view y
rows_told Gap x y wx wy same = (gap_rows x y wx wy).1 same
rows_told Load x y wx wy same = (load_rows x y wx wy).1 same

-- ---- nothing yet

pub index_none : {S : Type 0} (view : View) (values : List Answers) (m : HashMap (List ℕ) ℕ S) → values ≡ [] →
    m.entries ≡ [] → IsRowIndex view values m
index_none view values m ev em = record {
  found = λ row i e. absurd (let h = rw em at e in cc);
  missing =
      λ row e i x at same. absurd
      (let h : slice_get {X = Answers} [] i ≡ Some x = ap (λ vs. slice_get vs i) (sym ev) ∙ at in cc);
}

pub apart_none : (view : View) (values : List Answers) → values ≡ [] → AreApartIn view values
apart_none view values ev t u x y at_t at_u same =
    absurd (let h : slice_get {X = Answers} [] t ≡ Some x = ap (λ vs. slice_get vs t) (sym ev) ∙ at_t in cc)

pub well_none : (values : List Answers) → values ≡ [] → AreWell values
well_none values ev t r at =
    absurd (let h : slice_get {X = Answers} [] t ≡ Some r = ap (λ vs. slice_get vs t) (sym ev) ∙ at in cc)

pub copy_of : (q : Pool) (x value : Answers) (id : ℕ) → HasSame q value id →
    ((n : ℕ) → Keeps value.kept n ↔ Keeps x.kept n) →
    ((view : View) (items : List Item) (d : Diagram) (v : List Bool) → SeenFor view (Among items) d v x →
    SeenFor view (Among items) d v value) → HasCopy q x id
copy_of q x value id h kept stands = record {
  value = h.same;
  listed = h.listed;
  kept = λ n. subst (λ ks. Keeps ks n ↔ Keeps x.kept n) (kept_of_same q.view value h.same h.is_same) (kept n);
  stands =
      λ items d v s. seen_same q.view (Among items) d v value h.same h.well h.well_same h.is_same
      (stands q.view items d v s);
}

-- ---- a value whose row the index has

pub has_found : (p q : Pool) (value : Answers) (t : ℕ) → q ≡ record p { index = q.index } → IsPool p →
    IsContraction value → number_in p.index (seen_row p.view value) ≡ Some t → HasSame q value t
has_found p q value t is h well e =
    let f = h.index.found (seen_row p.view value) t e in
    let well_same = h.well t f.0 f.1 in
    subst (λ r. HasSame r value t) (sym is) (record {
      same = f.0;
      listed = f.1;
      is_same = rows_tell p.view value f.0 well well_same f.2;
      well = well;
      well_same = well_same;
    })
