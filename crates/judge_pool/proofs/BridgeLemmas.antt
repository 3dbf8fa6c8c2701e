-- From edges between numbers to a step between values.
use Rattle.std.proofs.Common.{◌≡◌, ℕ, ◌*◌, ◌/◌, ◌%◌, ◌↔◌, List, length, get_or, slice_get, Option, Some, None, refl}
use Rattle.std.proofs.Common.{sym, ap, ◌∙◌, subst, arith}
use Rattle.std.specs.Prelude.{option_map, Contains}
use Rattle.std.proofs.lemmas.List.{length-map}
use Rattle.std.proofs.lemmas.Option.{slice_get-map, get_or_from_slice_get, same_Some, none-some}
use Rattle.contraction.specs.Answers.{Answers, Keeps}
use Rattle.judge_pool.specs.declared.view.View.{View}
use Rattle.judge_pool.specs.Seen.{ComposesIn}
use Rattle.judge_pool.specs.Folding.{Carried, AreApartIn, AreRising, IsStep, AreReached}
use Rattle.judge_pool.specs.Layering.{no_answers, values_at}
use Rattle.judge_pool.specs.Pooling.{LeadsToMade, AreEdges}

pub from_map : {X Y : Type 0} (f : X → Y) (o : Option X) (y : Y) → option_map f o ≡ Some y →
    (x : X) × (o ≡ Some x) × (f x ≡ y)
from_map f None y e = absurd (none-some y e)
from_map f (Some x) y e = (x, refl, same_Some (f x) y e)

pub at_number : (values : List Answers) (ids : List ℕ) (k : ℕ) (x : Answers) →
    slice_get (values_at values ids) k ≡ Some x →
    (i : ℕ) × (slice_get ids k ≡ Some i) × (get_or values i no_answers ≡ x)
at_number values ids k x e =
    from_map (λ i. get_or values i no_answers) (slice_get ids k) x
    (sym (slice_get-map (λ i. get_or values i no_answers) ids k) ∙ e)

pub number_at : (values : List Answers) (ids : List ℕ) (k i : ℕ) (x : Answers) → slice_get ids k ≡ Some i →
    slice_get values i ≡ Some x → slice_get (values_at values ids) k ≡ Some x
number_at values ids k i x at listed =
    slice_get-map (λ n. get_or values n no_answers) ids k
    ∙ (ap (option_map (λ n. get_or values n no_answers)) at
    ∙ ap Some (get_or_from_slice_get values i x no_answers listed))

module _ (view : View) (values : List Answers) (keep states letters next edges : List ℕ) (n : ℕ)
    (h : AreEdges view values keep states letters next edges n) (apart : AreApartIn view values)
    (rising : AreRising values) where
  states_len : length (values_at values states) ≡ length states
  states_len = length-map states (λ i. get_or values i no_answers)

  letters_len : length (values_at values letters) ≡ length letters
  letters_len = length-map letters (λ i. get_or values i no_answers)

  -- what stands at a place of the next layer
  next_made : (t : ℕ) (r : Answers) → slice_get (values_at values next) t ≡ Some r →
      (id : ℕ) × (slice_get next t ≡ Some id) × (slice_get values id ≡ Some r)
      × ((m : ℕ) → Keeps r.kept m ↔ Contains keep m)
  next_made t r e =
      let at = at_number values next t r e in
      let w = h.hit t at.0 at.1 in
      let l = h.made w.0 w.1 w.2 w.3 w.4 w.5 in
      let same : l.id ≡ at.0 = same_Some l.id at.0 (sym l.at ∙ (ap (slice_get next) w.6 ∙ at.1)) in (
        at.0,
        at.1,
        refl_at t r at.0 l same at.2,
        λ m. kept_at l.made.value r (value_is l r at.0 same at.2) m (l.made.kept m),
      )
    where
      value_is : {i j place : ℕ} (l : LeadsToMade view values keep next i j place) (r : Answers) (id : ℕ) → l.id ≡ id →
          get_or values id no_answers ≡ r → l.made.value ≡ r
      value_is l r id same is =
          sym (get_or_from_slice_get values l.id l.made.value no_answers l.made.listed)
          ∙ (ap (λ k. get_or values k no_answers) same ∙ is)

      refl_at : (t : ℕ) (r : Answers) (id : ℕ) {i j place : ℕ} (l : LeadsToMade view values keep next i j place) →
          l.id ≡ id → get_or values id no_answers ≡ r → slice_get values id ≡ Some r
      refl_at t r id l same is = ap (slice_get values) (sym same) ∙ (l.made.listed ∙ ap Some (value_is l r id same is))

      kept_at : (x y : Answers) → x ≡ y → (m : ℕ) → Keeps x.kept m ↔ Contains keep m → Keeps y.kept m ↔ Contains keep m
      kept_at x y e m k = subst (λ z. Keeps z.kept m ↔ Contains keep m) e k

  -- a number of the next layer has a value
  pub next_listed : (t id : ℕ) → slice_get next t ≡ Some id →
      (r : Answers) × (slice_get values id ≡ Some r) × ((m : ℕ) → Keeps r.kept m ↔ Contains keep m)
  next_listed t id at =
      let w = h.hit t id at in
      let l = h.made w.0 w.1 w.2 w.3 w.4 w.5 in
      let same : l.id ≡ id = same_Some l.id id (sym l.at ∙ (ap (slice_get next) w.6 ∙ at)) in
      (l.made.value, ap (slice_get values) (sym same) ∙ l.made.listed, l.made.kept)

  -- what the edges so far lead to is reached
  pub reached_by_edges : AreReached view keep (values_at values states) (values_at values letters)
      (values_at values next)
  reached_by_edges = record {
    kept = λ t r at. (next_made t r at).3;
    rising = λ t r at. let m = next_made t r at in rising m.0 r m.2;
    apart = λ t u x y at_t at_u same.
        let m = next_made t x at_t in
        let q = next_made u y at_u in
        let e : m.0 ≡ q.0 = apart m.0 q.0 x y m.2 q.2 same in
        h.none_twice t u m.0 m.1 (q.1 ∙ ap Some (sym e));
    carried = λ t r at.
        let m = next_made t r at in
        let w = h.hit t m.0 m.1 in
        let l = h.made w.0 w.1 w.2 w.3 w.4 w.5 in
        let same : l.id ≡ m.0 = same_Some l.id m.0 (sym l.at ∙ (ap (slice_get next) w.6 ∙ m.1)) in
        let is : l.made.value ≡ r = same_Some l.made.value r (sym l.made.listed ∙ (ap (slice_get values) same ∙ m.2)) in
        record {
          state = w.0 / length letters;
          letter = w.0 % length letters;
          x = l.x;
          y = l.y;
          first = number_at values states (w.0 / length letters) w.1 l.x w.4 l.first;
          second = number_at values letters (w.0 % length letters) w.2 l.y w.5 l.second;
          composes = subst (λ z. ComposesIn view l.x l.y z) is l.made.composes;
        };
  }

  -- THE EDGES ARE A STEP
  pub step_of_edges : n ≡ length states * length letters →
      IsStep view keep (values_at values states) (values_at values letters) (values_at values next) edges
  step_of_edges all = record {
    len =
        h.len
        ∙ (all
        ∙ sym (ap (λ k. k * length (values_at values letters)) states_len ∙ ap (λ k. length states * k) letters_len));
    carried = λ p x y lt at_x at_y.
        let i = at_number values states (p / length letters) x
        (ap (λ k. slice_get (values_at values states) (p / k)) (sym letters_len) ∙ at_x) in
        let j = at_number values letters (p % length letters) y
        (ap (λ k. slice_get (values_at values letters) (p % k)) (sym letters_len) ∙ at_y) in
        let l = h.made p i.0 j.0 (omega (arith, lt, h.len)) i.1 j.1 in
        let ex : l.x ≡ x = sym (get_or_from_slice_get values i.0 l.x no_answers l.first) ∙ i.2 in
        let ey : l.y ≡ y = sym (get_or_from_slice_get values j.0 l.y no_answers l.second) ∙ j.2 in
        subst (λ z. Carried view x z (values_at values next) (get_or edges p 0)) ey
        (subst (λ z. Carried view z l.y (values_at values next) (get_or edges p 0)) ex (record {
          value = l.made.value;
          listed = number_at values next (get_or edges p 0) l.id l.made.value l.at l.made.listed;
          composes = l.made.composes;
        }));
    kept = λ t r at. (next_made t r at).3;
    rising = λ t r at. let m = next_made t r at in rising m.0 r m.2;
    apart = λ t u x y at_t at_u same.
        let m = next_made t x at_t in
        let q = next_made u y at_u in
        let e : m.0 ≡ q.0 = apart m.0 q.0 x y m.2 q.2 same in
        h.none_twice t u m.0 m.1 (q.1 ∙ ap Some (sym e));
    hit = λ t r at.
        let m = next_made t r at in
        let w = h.hit t m.0 m.1 in
        (w.0, omega (arith, w.3, h.len), w.6);
  }
