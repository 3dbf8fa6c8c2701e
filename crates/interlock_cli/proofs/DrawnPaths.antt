-- No path of a drawing's station holds the end of a line.
use Rattle.std.proofs.Common.{◌≡◌, ◌+◌, ◌<◌, ◌&&◌, ℕ, zero, suc, Bool, true, false, List, [], ◌∷◌, ◌++◌, length, map}
use Rattle.std.proofs.Common.{get_or, None, Result, Ok, Err, Contains, refl, sym, ap, subst, ◌∙◌, inl, inr}
use Rattle.std.proofs.Common.{arith}
use Rattle.std.specs.Prelude.{slice_index_or}
use Rattle.std.specs.List.{list_all, flat_map, range_with_len}
use Rattle.station_graph.specs.declared.items.Switch.{Switch}
use Rattle.station_graph.specs.Diagram.{Diagram}
use Rattle.ssd_text.specs.declared.refusal.TextRefusal.{TextRefusal}
use Rattle.ssd_text.specs.Nesting.{Entry, Spells, IsInOrder}
use Rattle.ssd_text.proofs.Ordered.{read_order}
use Rattle.ssd_read.specs.Elements.{Element, element_at, elements_of}
use Rattle.ssd_read.specs.Names.{is_shown, root_fault, name_fault, first_fault}
use Rattle.ssd_read.specs.Laws.{switches_at, switch_paths_at}
use Rattle.ssd_read.specs.StandsFor.{Stands, station_of, outcome_of, after_text}
use Rattle.ssd_read.proofs.Drawn.{drawn_len}
use Rattle.ssd_read.proofs.InOrder.{has_in_order, no_root_fault, names_are_good}
use Rattle.station_lines.specs.Aside.{IsShown}
use Rattle.station_lines.proofs.ShownLemmas.{path_shown}
use Rattle.log_replay.specs.Telling.{PathsAreLines}

-- ---- paths that are shown

both_true : (a b : Bool) → (a && b) ≡ true → (a ≡ true) × (b ≡ true)
both_true true b h = (refl, h)
both_true false b h = absurd (cc h)

no_end_at : (xs : List ℕ) (k : ℕ) → IsShown xs → k < length xs → get_or xs k 10 ≡ 10 → ⊥
no_end_at [] k h lt is = omega (arith, lt)
no_end_at (x ∷ xs) zero h lt is =
    let shown : is_shown x ≡ true = (both_true (is_shown x) (list_all is_shown xs) h).0 in
    let ten : is_shown 10 ≡ true = ap is_shown (sym is) ∙ shown in
    cc ten
no_end_at (x ∷ xs) (suc k) h lt is =
    no_end_at xs k (both_true (is_shown x) (list_all is_shown xs) h).1 (omega (arith, lt)) is

no_end : (path : List ℕ) → IsShown path → ¬ Contains path 10
no_end path h there = no_end_at path there.0 h there.1 there.2

abbrev AllPaths : List (List ℕ) → Type 0
AllPaths [] = Unit {0}
AllPaths (path ∷ paths) = IsShown path × AllPaths paths

both_lists : (xs ys : List (List ℕ)) → AllPaths xs → AllPaths ys → AllPaths (xs ++ ys)
both_lists [] ys h g = g
both_lists (x ∷ xs) ys h g = (h.0, both_lists xs ys h.1 g)

copies : (path : List ℕ) (ss : List Switch) → IsShown path → AllPaths (map (λ (s : Switch). path) ss)
copies path [] h = tt
copies path (s ∷ ss) h = (h, copies path ss h)

along : (all : List Element) (n a : ℕ) → ((k : ℕ) → k < a + n → IsShown (element_at all k).path) →
    AllPaths (flat_map (switch_paths_at all) (range_with_len a n))
along all zero a h = tt
along all (suc n) a h =
    both_lists (switch_paths_at all a) (flat_map (switch_paths_at all) (range_with_len (a + 1) n))
    (copies (element_at all a).path (switches_at all a) (h a (omega arith)))
    (along all n (a + 1) (λ k less. h k (omega (arith, less))))

path_at : (paths : List (List ℕ)) (i : ℕ) → AllPaths paths → IsShown (slice_index_or paths i [])
path_at [] i h = refl
path_at (path ∷ paths) zero h = h.0
path_at (path ∷ paths) (suc i) h = path_at paths i h.1

-- ---- a drawing

tree_lines : (tree : List Entry) (d : Diagram) → IsInOrder tree → outcome_of tree ≡ Ok d → PathsAreLines d
tree_lines tree d order outcome i =
    let all : List Element = elements_of tree in
    let stands : station_of all ≡ Ok d = no_root_fault (root_fault tree) (station_of (elements_of tree)) d outcome in
    let good : first_fault name_fault [] (elements_of tree) ≡ None = names_are_good (elements_of tree) d stands in
    let each : (k : ℕ) → k < length (elements_of tree) → IsShown (element_at (elements_of tree) k).path = λ k less.
    path_shown tree order good k (omega (arith, less, drawn_len tree)) in
    let paths : AllPaths d.switch_paths = subst AllPaths (sym (has_in_order tree d order outcome).switch_paths)
    (along (elements_of tree) (length (elements_of tree)) 0 (λ k less. each k (omega (arith, less)))) in
    no_end (slice_index_or d.switch_paths i []) (path_at d.switch_paths i paths)

of_read : (text : List ℕ) (d : Diagram) (read : Result (List Entry) TextRefusal) → Spells text read →
    Ok d ≡ after_text read → PathsAreLines d
of_read text d (Err fault) spells is = absurd (cc is)
of_read text d (Ok tree) spells is = tree_lines tree d (read_order text tree spells) (sym is)

-- the station of a drawing
pub paths_are_lines : (text : List ℕ) (d : Diagram) → Stands text (Ok d) → PathsAreLines d
paths_are_lines text d (inl long) = absurd (cc long.1)
paths_are_lines text d (inr s) = of_read text d s.1 s.2 s.3
