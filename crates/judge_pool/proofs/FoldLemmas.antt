-- A LAYER MORE IS EXACT: where each state answers for the items so far and each letter for the new ones, the next
-- states answer for both, and they are the distinct views of both.
use Rattle.std.proofs.Common.{◌≡◌, ℕ, ◌+◌, ◌*◌, ◌<◌, ◌↔◌, suc, Bool, List, [], ◌∷◌, ◌++◌, length, get_or, slice_get}
use Rattle.std.proofs.Common.{Some, sym, ap, ◌∙◌, subst, inl, inr, arith}
use Rattle.std.specs.Prelude.{Contains}
use Rattle.std.proofs.lemmas.List.{length-append}
use Rattle.std.proofs.lemmas.Option.{slice_get_within}
use Rattle.station_graph.proofs.PathLemmas.{slice_get-push}
use Rattle.part_alphabets.specs.Counting.{AreSoMany}
use Rattle.station_graph.specs.Diagram.{Diagram}
use Rattle.station_graph.specs.Connection.{Item}
use Rattle.station_graph.specs.Alike.{IsVector}
use Rattle.contraction.specs.Answers.{Answers}
use Rattle.contraction.specs.Stands.{Among, MeetsKept}
use Rattle.decision_graphs.specs.Label.{Layer, leads, AreLayers}
use Rattle.decision_graphs.proofs.RowLemmas.{length-rows_of, element-rows_of}
use Rattle.judge_pool.specs.declared.view.View.{View}
use Rattle.judge_pool.specs.Seen.{SeenFor, SameView}
use Rattle.judge_pool.specs.Folding.{IsStep, StandsIn, AreChosen, AreViews, IsExact}
use Rattle.judge_pool.specs.Plans.{CanBoth}
use Rattle.decision_graphs.specs.Finished.{layer_with}
use Rattle.judge_pool.proofs.StepLemmas.{carried_at, layer_fits}
use Rattle.judge_pool.proofs.MappedViews.{carries_of}
use Rattle.judge_pool.proofs.CountLemmas.{views_so_many}
use Rattle.judge_pool.proofs.MadeLemmas.{step_reaches, made_more, cover_more}
use Rattle.judge_pool.proofs.LayerLemmas.{snoc, get_front, get_last, leads_more, layers_more}

-- the front of chosen choices is chosen
chosen_front : (Chosen : ℕ → ℕ → List Bool → Type 0) (v : List Bool) (cs front : List ℕ) (last : ℕ) →
    cs ≡ front ++ last ∷ [] → AreChosen Chosen v cs → AreChosen Chosen v front
chosen_front Chosen v cs front last e chosen i c at =
    chosen i c (ap (λ xs. slice_get xs i) e ∙ get_front front (last ∷ []) i c at)

chosen_last : (Chosen : ℕ → ℕ → List Bool → Type 0) (v : List Bool) (cs front : List ℕ) (last : ℕ) →
    cs ≡ front ++ last ∷ [] → AreChosen Chosen v cs → Chosen (length front) last v
chosen_last Chosen v cs front last e chosen =
    chosen (length front) last (ap (λ xs. slice_get xs (length front)) e ∙ get_last front last)

longer : (j : ℕ) (xs : List Layer) (l : Layer) → length xs ≡ j → length (xs ++ l ∷ []) ≡ suc j
longer j xs l e = simp (length-append) (omega arith)

module _ (view : View) (d : Diagram) (Chosen : ℕ → ℕ → List Bool → Type 0) (items : ℕ → List Item)
    (Needed : ℕ → ℕ → Type 0) (j : ℕ) (new : List Item) where
  pub fold_step : (ls : List Layer) (keep : List ℕ) (states letters next : List Answers) (edges : List ℕ)
      → IsExact view d Chosen items Needed j ls states
      → IsStep view keep states letters next edges
      → 0 < length states → 0 < length letters
      → items (suc j) ≡ items j ++ new
      → ((n : ℕ) → Contains keep n ↔ Needed (suc j) n)
      → ((c : ℕ) (v : List Bool) → IsVector d v → Chosen j c v → StandsIn view (Among new) d v letters c)
      → ((k c : ℕ) (x y : Answers) → slice_get states k ≡ Some x → slice_get letters c ≡ Some y →
      MeetsKept (Among (items j)) (Among new) d x.kept y.kept)
      → ((c : ℕ) (x y : Answers) (v : List Bool) → slice_get letters c ≡ Some y → IsVector d v →
      SeenFor view (Among (items j)) d v x → CanBoth view d (Among (items j)) (Among new) x y)
      → ((v : List Bool) → IsVector d v → (c : ℕ) × StandsIn view (Among new) d v letters c)
      → IsExact view d Chosen items Needed (suc j) (ls ++ layer_with (length letters) (length states) edges ∷ []) next
  fold_step ls keep states letters next edges old s some_state some_letter more needed letter meets give cover =
      record {
        count = longer j ls (layer_with (length letters) (length states) edges) old.count;
        fits =
            layers_more (length next) ls (layer_with (length letters) (length states) edges)
            (subst (λ n. AreLayers n ls) (sym (length-rows_of (length letters) (length states) edges)) old.fits)
            (layer_fits view keep states letters next edges s some_state some_letter);
        kept = λ t r at n. (λ k. (needed n).0 ((s.kept t r at n).0 k), λ h. (s.kept t r at n).1 ((needed n).1 h));
        rising = s.rising;
        apart = s.apart;
        stands = λ v cs whole len chosen.
            let parts = snoc j cs len in
            let front = parts.0 in
            let last = parts.1 in
            let before : StandsIn view (Among (items j)) d v states (leads ls 0 front) =
            old.stands v front whole parts.3 (chosen_front Chosen v cs front last parts.2 chosen) in
            let here : StandsIn view (Among new) d v letters last =
            letter last v whole
            (subst (λ i. Chosen i last v) parts.3 (chosen_last Chosen v cs front last parts.2 chosen)) in
            let r = carried_at view keep states letters next edges s (leads ls 0 front) last before.value here.value
            before.listed here.listed in
            let k_in = slice_get_within states (leads ls 0 front) before.value before.listed in
            let c_in = slice_get_within letters last here.value here.listed in
            let led : leads (ls ++ (layer_with (length letters) (length states) edges) ∷ []) 0 cs
            ≡ get_or edges (leads ls 0 front * length letters + last) 0 =
            ap (leads (ls ++ (layer_with (length letters) (length states) edges) ∷ []) 0) parts.2
            ∙ (leads_more ls (layer_with (length letters) (length states) edges) 0 last front (old.count ∙ sym parts.3)
            ∙ element-rows_of (length letters) (length states) edges (leads ls 0 front) last 0 k_in c_in) in
            record {
              value = r.value;
              listed = ap (slice_get next) led ∙ r.listed;
              stands =
                  subst (λ xs. SeenFor view (Among xs) d v r.value) (sym more) (carries_of view before.value here.value
                  r.value r.composes (items j) new d v
                  (meets (leads ls 0 front) last before.value here.value before.listed here.listed)
                  before.stands here.stands);
            };
        views = subst (λ xs. AreViews view (Among xs) d next) (sym more) (record {
          made =
              made_more view d (items j) new keep states letters next meets
              (step_reaches view keep states letters next edges s some_letter) give old.views.made;
          cover = cover_more view d (items j) new keep states letters next meets edges s old.views.cover cover;
        });
        counted = λ i l at. elim (slice_get-push ls (layer_with (length letters) (length states) edges) l i at) [
          | inl before ↦ old.counted i l before
          | inr here ↦
              let e : j ≡ i = sym (here.0 ∙ old.count) in
              let now = views_so_many view (Among (items j)) d (Needed j) states old.kept old.rising old.apart
              old.views.made old.views.cover in
              let rows : length states ≡ length l.rows =
              sym (length-rows_of (length letters) (length states) edges) ∙ ap (λ (m : Layer). length m.rows) here.1 in
              subst (λ n. AreSoMany d (SameView view (Needed i) (Among (items i)) d) n) rows
              (subst (λ k. AreSoMany d (SameView view (Needed k) (Among (items k)) d) (length states)) e now)
        ];
      }
