-- Values on other nodes, while the pool grows.
use Rattle.std.proofs.Common.{◌≡◌, ℕ, Bool, true, false, cond, List, [], ◌∷◌, ◌++◌, length, slice_get, Some, refl}
use Rattle.std.proofs.Common.{sym, ap, ◌∙◌, subst, inl, inr, arith}
use Rattle.std.specs.Prelude.{nat_eq, ◌&&◌}
use Rattle.std.specs.HashMap.{HashMap, get, Updates}
use Rattle.std.proofs.lemmas.Bool.Decides.{Decides-eqb}
use Rattle.std.proofs.lemmas.List.{length_push}
use Rattle.std.proofs.lemmas.Option.{slice_get_within, same_Some}
use Rattle.station_graph.proofs.PathLemmas.{slice_get-push}
use Rattle.contraction.specs.Answers.{Answers}
use Rattle.contraction.specs.Renaming.{renamed}
use Rattle.judge_pool.specs.declared.batch.ListStand.{ListStand}
use Rattle.judge_pool.specs.declared.batch.Stand.{Stand}
use Rattle.judge_pool.specs.declared.pool.Pool.{Pool}
use Rattle.judge_pool.specs.Pooling.{HasSame}
use Rattle.judge_pool.specs.Shapes.{SameAs}
use Rattle.judge_pool.specs.Standing.{IsOn, AreOn, CanStand, same_stand, StandsAreRight}
use Rattle.judge_pool.specs.Standing.{ListIsOn, same_list_stand, ListStandsAreRight}
use Rattle.judge_pool.proofs.LayeringLemmas.{Grows}
use Rattle.judge_pool.proofs.MappedViews.{kept_of_same}
use Rattle.judge_pool.specs.declared.view.View.{View}
use Rattle.judge_pool.specs.Lying.{AllKeepAs}
use Rattle.judge_pool.proofs.ShapeLemmas.{seen_tells_shape, shape_own, shape_back, renamed_as}

-- ---- a pool that grew

pub on_stays : (p q : Pool) → Grows p q → (keep id t : ℕ) → IsOn p keep id t → IsOn q keep id t
on_stays p q g keep id t h = record {
  x = h.x;
  y = h.y;
  nodes = h.nodes;
  first = g.values id h.x h.first;
  second = g.values t h.y h.second;
  at = g.keeps keep h.nodes h.at;
  same = subst (λ v. SameAs v (renamed h.nodes h.x) h.y) (sym g.view) h.same;
}

pub stands_stay : {S : Type 0} (p q : Pool) → Grows p q → (m : HashMap Stand ℕ S) → StandsAreRight p m →
    StandsAreRight q m
stands_stay p q g m right k t e = on_stays p q g k.keep k.id t (right k t e)

pub all_on_stay : (p q : Pool) → Grows p q → (keep : ℕ) (ids ts : List ℕ) → AreOn p keep ids ts → AreOn q keep ids ts
all_on_stay p q g keep ids ts h = record {
  len = h.len;
  each = λ k i t at_i at_t. on_stays p q g keep i t (h.each k i t at_i at_t);
}

pub list_on_stays : (p q : Pool) → Grows p q → (keep list n : ℕ) → ListIsOn p keep list n → ListIsOn q keep list n
list_on_stays p q g keep list n h = record {
  ids = h.ids;
  ts = h.ts;
  before = g.letters list h.ids h.before;
  behind = g.letters n h.ts h.behind;
  on = all_on_stay p q g keep h.ids h.ts h.on;
}

pub list_stands_stay : {S : Type 0} (p q : Pool) → Grows p q → (m : HashMap ListStand ℕ S) → ListStandsAreRight p m →
    ListStandsAreRight q m
list_stands_stay p q g m right k n e = list_on_stays p q g k.keep k.list n (right k n e)

pub can_stay : (p q : Pool) → Grows p q → (keep id : ℕ) → CanStand p keep id → CanStand q keep id
can_stay p q g keep id h = record {
  x = h.x;
  nodes = h.nodes;
  listed = g.values id h.x h.listed;
  at = g.keeps keep h.nodes h.at;
  are = h.are;
  count = h.count;
}

-- ---- a note more

and_two : (p q : Bool) → (p && q) ≡ true → (p ≡ true) × (q ≡ true)
and_two true true e = (refl, refl)
and_two true false e = cc
and_two false true e = cc
and_two false false e = cc

abbrev stand_at : ℕ → ℕ → Stand
stand_at id keep = record { id = id; keep = keep }

stand_is : (a b : Stand) → same_stand a b ≡ true → a ≡ b
stand_is a b same =
    let one = and_two (nat_eq a.id b.id) (nat_eq a.keep b.keep) same in
    let e1 : a.id ≡ b.id = (Decides-eqb a.id b.id).0 one.0 in
    let e2 : a.keep ≡ b.keep = (Decides-eqb a.keep b.keep).0 one.1 in
    ap (λ n. stand_at n a.keep) e1 ∙ ap (λ n. stand_at b.id n) e2

-- what holds of all that is noted, and of a note more, holds of all that is noted then
noted_more : {K S : Type 0} (same : K → K → Bool) (P : K → ℕ → Type 0) → ((a b : K) → same a b ≡ true → a ≡ b) →
    (old new : HashMap K ℕ S) (key : K) (n : ℕ) → ((k : K) (t : ℕ) → get same old k ≡ Some t → P k t) → P key n →
    Updates same old new key (Some n) → (k : K) (t : ℕ) → get same new k ≡ Some t → P k t
noted_more {K} same P is_same old new key n right is updates k t e = by_key (same key k) refl (sym (updates.0 k) ∙ e)
  where
    by_key : (b : Bool) → same key k ≡ b → cond b (Some n) (get same old k) ≡ Some t → P k t
    by_key true alike at =
        subst (λ (s : K). P s t) (is_same key k alike) (subst (λ m. P key m) (same_Some n t at) is)
    by_key false alike at = right k t at

pub stands_more : {S : Type 0} (p : Pool) (old new : HashMap Stand ℕ S) (stand : Stand) (id : ℕ) →
    StandsAreRight p old → IsOn p stand.keep stand.id id → Updates same_stand old new stand (Some id) →
    StandsAreRight p new
stands_more p old new stand id right is updates =
    noted_more same_stand (λ (k : Stand) t. IsOn p k.keep k.id t) stand_is old new stand id right is updates

abbrev list_stand_at : ℕ → ℕ → ListStand
list_stand_at list keep = record { list = list; keep = keep }

list_stand_is : (a b : ListStand) → same_list_stand a b ≡ true → a ≡ b
list_stand_is a b same =
    let one = and_two (nat_eq a.list b.list) (nat_eq a.keep b.keep) same in
    let e1 : a.list ≡ b.list = (Decides-eqb a.list b.list).0 one.0 in
    let e2 : a.keep ≡ b.keep = (Decides-eqb a.keep b.keep).0 one.1 in
    ap (λ n. list_stand_at n a.keep) e1 ∙ ap (λ n. list_stand_at b.list n) e2

pub list_stands_more : {S : Type 0} (p : Pool) (old new : HashMap ListStand ℕ S) (stand : ListStand) (n : ℕ) →
    ListStandsAreRight p old → ListIsOn p stand.keep stand.list n →
    Updates same_list_stand old new stand (Some n) → ListStandsAreRight p new
list_stands_more p old new stand n right is updates =
    noted_more same_list_stand (λ (k : ListStand) t. ListIsOn p k.keep k.list t) list_stand_is old new stand n right is
    updates

pub list_stands_none : {S : Type 0} (p : Pool) (m : HashMap ListStand ℕ S) → m.entries ≡ [] → ListStandsAreRight p m
list_stands_none p m em k t e = absurd (let h = rw em at e in cc)

pub stands_none : {S : Type 0} (p : Pool) (m : HashMap Stand ℕ S) → m.entries ≡ [] → StandsAreRight p m
stands_none p m em k t e = absurd (let h = rw em at e in cc)

-- ---- a value that was made to stand there

pub on_made : (q : Pool) (keep id t : ℕ) (x value : Answers) (nodes : List ℕ) → slice_get q.values.items id ≡ Some x →
    slice_get q.keeps.items keep ≡ Some nodes → value ≡ renamed nodes x → HasSame q value t → IsOn q keep id t
on_made q keep id t x value nodes first at is has = record {
  x = x;
  y = has.same;
  nodes = nodes;
  first = first;
  second = has.listed;
  at = at;
  same =
      subst (λ v. SameAs q.view v has.same) is (record {
        kept = kept_of_same q.view value has.same has.is_same;
        shape = seen_tells_shape q.view value has.same has.well has.well_same has.is_same;
      });
}

-- ---- one by one

pub on_none : (p : Pool) (keep : ℕ) (ts : List ℕ) → ts ≡ [] → AreOn p keep [] ts
on_none p keep ts e = record {
  len = ap length e;
  each = λ k i t at_i at_t. absurd (let h : slice_get {X = ℕ} [] k ≡ Some i = at_i in cc);
}

pub on_one : (p : Pool) (keep : ℕ) (ids ts : List ℕ) (i t : ℕ) → AreOn p keep ids ts → IsOn p keep i t →
    AreOn p keep (ids ++ i ∷ []) (ts ++ t ∷ [])
on_one p keep ids ts i t old is = record {
  len = omega (arith, length_push ids i, length_push ts t, old.len);
  each = λ k j u at_j at_u. elim (slice_get-push ids i j k at_j) [
    | inl before ↦ elim (slice_get-push ts t u k at_u) [
      | inl was ↦ old.each k j u before was
      | inr here ↦ absurd (omega (arith, slice_get_within ids k j before, here.0, old.len))
    ]
    | inr last ↦ elim (slice_get-push ts t u k at_u) [
      | inl was ↦ absurd (omega (arith, slice_get_within ts k u was, last.0, old.len))
      | inr here ↦
          subst (λ n. IsOn p keep j n) here.1 (subst (λ n. IsOn p keep n t) last.1 is)
    ]
  ];
}

-- ---- values that keep the nodes already

-- a value that keeps just these nodes is itself on them
on_own : (view : View) (x : Answers) (nodes : List ℕ) → x.kept ≡ nodes → SameAs view (renamed nodes x) x
on_own view x nodes is = record {
  kept = sym is;
  shape = shape_back view x (renamed nodes x) (renamed_as view x x nodes (shape_own view x));
}

pub all_own : (p : Pool) (keep : ℕ) (ids nodes : List ℕ) → slice_get p.keeps.items keep ≡ Some nodes →
    ((k i : ℕ) → slice_get ids k ≡ Some i → CanStand p keep i) → AllKeepAs p.values.items ids nodes →
    AreOn p keep ids ids
all_own p keep ids nodes at can all = record {
  len = refl;
  each = λ k i t at_i at_t.
      let h = can k i at_i in
      record {
        x = h.x;
        y = h.x;
        nodes = nodes;
        first = h.listed;
        second = subst (λ j. slice_get p.values.items j ≡ Some h.x) (same_Some i t (sym at_i ∙ at_t)) h.listed;
        at = at;
        same = on_own p.view h.x nodes (all k i h.x at_i h.listed);
      };
}
