-- Values that are apart, each the view of some vector, count the distinct views.
use Rattle.std.proofs.Common.{◌≡◌, ℕ, ◌<◌, ◌≤◌, ◌↔◌, zero, suc, Bool, List, [], ◌∷◌, length, slice_get, Some, refl, sym}
use Rattle.std.proofs.Common.{ap, ◌∙◌, subst, arith}
use Rattle.std.proofs.lemmas.Option.{slice_get_within, same_Some}
use Rattle.station_graph.specs.Diagram.{Diagram}
use Rattle.station_graph.specs.Connection.{Item}
use Rattle.station_graph.specs.Alike.{IsVector}
use Rattle.contraction.specs.Answers.{Answers, Keeps}
use Rattle.contraction.proofs.RisingLemmas.{rising_equal}
use Rattle.contraction.proofs.SameLemmas.{gap_self, load_self, gap_fewer, load_fewer}
use Rattle.contraction.proofs.ViewLemmas.{gap_told, load_told}
use Rattle.part_alphabets.specs.Counting.{AreDistinct, AreSoMany}
use Rattle.contraction.proofs.ListedLemmas.{list_of}
use Rattle.judge_pool.specs.declared.view.View.{View}
use Rattle.judge_pool.specs.declared.view.View.TheVariants.{Gap, Load}
use Rattle.judge_pool.specs.Seen.{SeenFor, SameSeen, SameView}
use Rattle.judge_pool.specs.Folding.{StandsIn, AreRising, AreApartIn, EachAnswers}
use Rattle.judge_pool.specs.Counted.{AreAtLeast}

-- values that answer in vectors with one view are the same
view_told : (view : View) (These : Item → Type 0) (d : Diagram) (v w : List Bool) (x y : Answers) (Kept : ℕ → Type 0) →
    x.kept ≡ y.kept → ((n : ℕ) → Keeps x.kept n → Kept n) → SeenFor view These d v x → SeenFor view These d w y →
    SameView view Kept These d v w → SameSeen view x y
view_told Gap These d v w x y Kept kept all sx sy same =
    (gap_told These d v w x y kept sx sy).1 (gap_fewer Kept (Keeps x.kept) These d v w all same)
view_told Load These d v w x y Kept kept all sx sy same =
    (load_told These d v w x y kept sx sy).1 (load_fewer Kept (Keeps x.kept) These d v w all same)

-- vectors in which one value answers have one view
pub view_one : (view : View) (These : Item → Type 0) (d : Diagram) (v w : List Bool) (x : Answers) (Kept : ℕ → Type 0) →
    ((n : ℕ) → Kept n → Keeps x.kept n) → SeenFor view These d v x → SeenFor view These d w x →
    SameView view Kept These d v w
view_one Gap These d v w x Kept all sv sw =
    gap_fewer (Keeps x.kept) Kept These d v w all ((gap_told These d v w x x refl sv sw).0 (gap_self x))
view_one Load These d v w x Kept all sv sw =
    load_fewer (Keeps x.kept) Kept These d v w all ((load_told These d v w x x refl sv sw).0 (load_self x))

-- in the vector the value of this number answers
pub record AnswersIn (view : View) (These : Item → Type 0) (d : Diagram) (values : List Answers) (t : ℕ)
    (v : List Bool) : Type 0 where
  pub whole : IsVector d v
  pub value : Answers
  pub listed : slice_get values t ≡ Some value
  pub seen : SeenFor view These d v value

module _ (view : View) (These : Item → Type 0) (d : Diagram) (Kept : ℕ → Type 0) (values : List Answers)
    (kept : (t : ℕ) (r : Answers) → slice_get values t ≡ Some r → (n : ℕ) → Keeps r.kept n ↔ Kept n)
    (rising : AreRising values) (apart : AreApartIn view values) (made : EachAnswers view These d values) where
  answers_some : (t : ℕ) → t < length values → (v : List Bool) × AnswersIn view These d values t v
  answers_some t lt =
      let (r, at) = some_at values t lt in
      let (v, whole, seen) = made t r at in
      (v, record { whole = whole; value = r; listed = at; seen = seen })
    where
      some_at : (xs : List Answers) (i : ℕ) → i < length xs → (x : Answers) × (slice_get xs i ≡ Some x)
      some_at [] i less = absurd (omega (arith, less))
      some_at (x ∷ xs) zero less = (x, refl)
      some_at (x ∷ xs) (suc i) less = some_at xs i (omega (arith, less))

  apart_in : (t u : ℕ) (v w : List Bool) → AnswersIn view These d values t v → AnswersIn view These d values u w →
      SameView view Kept These d v w → t ≡ u
  apart_in t u v w a b same =
      let one = rising_equal a.value.kept b.value.kept (rising t a.value a.listed) (rising u b.value b.listed) (λ n. (
        λ k. (kept u b.value b.listed n).1 ((kept t a.value a.listed n).0 k),
        λ k. (kept t a.value a.listed n).1 ((kept u b.value b.listed n).0 k),
      )) in
      apart t u a.value b.value a.listed b.listed (view_told view These d v w a.value b.value Kept one
      (λ n k. (kept t a.value a.listed n).0 k) a.seen b.seen same)

  distinct_of : (list : List (List Bool)) →
      ((t : ℕ) (v : List Bool) → slice_get list t ≡ Some v → AnswersIn view These d values t v) →
      AreDistinct d (SameView view Kept These d) list
  distinct_of list holds = record {
    vectors = λ t v at. (holds t v at).whole;
    apart = λ t u v w at_t at_u same. apart_in t u v w (holds t v at_t) (holds u w at_u) same;
  }

  pub views_at_least : AreAtLeast d (SameView view Kept These d) (length values)
  views_at_least =
      let (list, len, holds, some) = list_of (AnswersIn view These d values) (length values) answers_some in
      record { list = list; distinct = distinct_of list holds; count = len }

  pub views_so_many : ((v : List Bool) → IsVector d v → (t : ℕ) × StandsIn view These d v values t) →
      AreSoMany d (SameView view Kept These d) (length values)
  views_so_many cover =
      let (list, len, holds, some) = list_of (AnswersIn view These d values) (length values) answers_some in
      record {
        list = list;
        distinct = distinct_of list holds;
        all = λ v whole.
            let (t, s) = cover v whole in
            let (w, at) = some t (slice_get_within values t s.value s.listed) in
            let a = holds t w at in
            let one : a.value ≡ s.value = same_Some a.value s.value (sym a.listed ∙ s.listed) in
            let seen = subst (λ x. SeenFor view These d w x) one a.seen in
            record {
              place = t;
              entry = w;
              listed = at;
              same = view_one view These d v w s.value Kept (λ n k. (kept t s.value s.listed n).1 k) s.stands seen;
            };
        count = len;
      }

-- where there are exactly so many there are at least so many
pub at_least_of : (d : Diagram) (Same : List Bool → List Bool → Type 0) (n : ℕ) → AreSoMany d Same n →
    AreAtLeast d Same n
at_least_of d Same n h = record { list = h.list; distinct = h.distinct; count = h.count }

pub at_least_none : (d : Diagram) (Same : List Bool → List Bool → Type 0) → AreAtLeast d Same 0
at_least_none d Same = record {
  list = [];
  distinct = record { vectors = λ i v at. cc; apart = λ i k v w at_i. cc };
  count = refl;
}

-- where all vectors are the same there is at most one
pub at_most_one : (d : Diagram) (Same : List Bool → List Bool → Type 0) (n : ℕ) →
    ((v w : List Bool) → IsVector d v → IsVector d w → Same v w) → AreAtLeast d Same n → n ≤ 1
at_most_one d Same n all h = by h.list refl
  where
    by : (xs : List (List Bool)) → xs ≡ h.list → n ≤ 1
    by [] e = omega (arith, h.count, ap length e)
    by (v ∷ []) e = omega (arith, h.count, ap length e)
    by (v ∷ w ∷ ws) e =
        let at_v : slice_get h.list 0 ≡ Some v = ap (λ l. slice_get l 0) (sym e) in
        let at_w : slice_get h.list 1 ≡ Some w = ap (λ l. slice_get l 1) (sym e) in
        absurd (let no : 0 ≡ 1 =
        h.distinct.apart 0 1 v w at_v at_w (all v w (h.distinct.vectors 0 v at_v) (h.distinct.vectors 1 w at_w)) in
        omega (arith, no))

-- and one at least, as there is a vector
pub some_vector : (d : Diagram) (Same : List Bool → List Bool → Type 0) (n : ℕ) (v : List Bool) → IsVector d v →
    AreSoMany d Same n → 0 < n
some_vector d Same n v whole h =
    let s = h.all v whole in
    omega (arith, h.count, slice_get_within h.list s.place s.entry s.listed)
