-- What the answers of a step's parts share.
use Rattle.std.proofs.Common.{◌≡◌, ◌<◌, ◌+◌, ℕ, Bool, true, false, cond, List, [], ◌∷◌, ◌++◌, length, Option, Some}
use Rattle.std.proofs.Common.{Result, Ok, Err, IfOk, refl, sym, ap, ◌∙◌, arith}
use Rattle.std.proofs.lemmas.List.{map-append, append-nil}
use Rattle.std.proofs.lemmas.Option.{slice_get_within}
use Rattle.std.specs.List.{filter, range_with_len}
use Rattle.bay_frames.specs.declared.frame.Frame.{Frame}
use Rattle.bay_protocol.proofs.Others.{filtered_more, another_yes, another_no}
use Rattle.station_graph.specs.Diagram.{Diagram, part_count}
use Rattle.bay_frames.specs.declared.frame.Body.{Body}
use Rattle.bay_protocol.specs.declared.values.Collection.{Collection}
use Rattle.bay_protocol.specs.State.{State, IsOther, is_another, collects}
use Rattle.bay_protocol.specs.Sends.{frame, to_each}
use Rattle.bay_protocol.specs.Fits.{IsOwn}

-- an answer that says more
pub if_ok : {X E : Type 0} (P Q : X → Type 0) (r : Result X E) → IfOk r P → ((x : X) → P x → Q x) → IfOk r Q
if_ok P Q (Ok x) p f = f x p
if_ok P Q (Err e) p f = tt

-- what is sent to nobody is sent to no one of a list
pub each_none : (from round : ℕ) (body : Body) (tos : List ℕ) → to_each from round body tos ≡ [] → tos ≡ []
each_none from round body [] e = refl
each_none from round body (x ∷ xs) e = absurd (cc e)

-- a switch of a bay is one of the station, and its bay is this
pub own_in : (d : Diagram) (b i : ℕ) → IsOwn d b i → i < length d.switches
own_in d b i own = slice_get_within d.switches i own.0 own.1

-- a node that collects g in its highest round
pub collected_same : (s : State) (g : Collection) → s.collecting ≡ Some g → g.round ≡ s.highest →
    collects s g.round g ≡ s
collected_same s g has newest =
    ap (λ (p : ℕ). record {
      bay = s.bay;
      highest = p;
      lock = s.lock;
      granted = s.granted;
      collecting = Some g;
      words = s.words;
    }) newest
    ∙ ap (λ (x : Option Collection). record {
      bay = s.bay;
      highest = s.highest;
      lock = s.lock;
      granted = s.granted;
      collecting = x;
      words = s.words;
    }) (sym has)

-- one more bay to which the same is sent, or a part to which nothing is
module _ (d : Diagram) (b round : ℕ) (body : Body) (n : ℕ) (old new : List Frame)
    (sent : old ≡ to_each b round body (filter (is_another d b) (range_with_len 0 n))) where
  with_next : (t : Bool) → is_another d b n ≡ t → new ≡ old ++ to_each b round body (cond t (n ∷ []) []) →
      new ≡ to_each b round body (filter (is_another d b) (range_with_len 0 (n + 1)))
  with_next t is e =
      e ∙ ap (λ xs. xs ++ to_each b round body (cond t (n ∷ []) [])) sent
      ∙ sym (map-append (λ to. frame b to round body) (filter (is_another d b) (range_with_len 0 n))
      (cond t (n ∷ []) []))
      ∙ ap (λ (x : Bool). to_each b round body (filter (is_another d b) (range_with_len 0 n) ++ cond x (n ∷ []) []))
      (sym is)
      ∙ ap (to_each b round body) (sym (filtered_more (is_another d b) n))

  pub sent_more : IsOther d b n → new ≡ old ++ frame b n round body ∷ [] →
      new ≡ to_each b round body (filter (is_another d b) (range_with_len 0 (n + 1)))
  sent_more other e = with_next true (another_yes d b n other) e

  pub sent_same : n < part_count d → ¬ IsOther d b n → new ≡ old →
      new ≡ to_each b round body (filter (is_another d b) (range_with_len 0 (n + 1)))
  sent_same low none e = with_next false (another_no d b n low none) (e ∙ sym (append-nil old))

-- a list of no length
pub none_long : {X : Type 0} (xs : List X) → length xs ≡ 0 → xs ≡ []
none_long [] e = refl
none_long (x ∷ xs) e = absurd (omega (arith, e))
