-- What a station has, list by list, in document order.
use Rattle.std.proofs.Common.{◌≡◌, ℕ, ◌<◌, ◌+◌, List, [], ◌∷◌, ◌++◌, length, map, get_or, Option, Some, None, Bool}
use Rattle.std.proofs.Common.{true, false, cond, Result, Ok, Err, refl, arith, zero, suc, ap, ◌∙◌}
use Rattle.std.specs.List.{filter, filter_map, flat_map, range_with_len, cons_option}
use Rattle.std.specs.Option.{option_map_or, option_or}
use Rattle.std.proofs.lemmas.List.Elements.{filter_map-append}
use Rattle.station_graph.specs.Diagram.{Diagram, empty}
use Rattle.station_graph.specs.declared.items.Switch.{Switch}
use Rattle.ssd_text.specs.Nesting.{Entry, IsInOrder}
use Rattle.ssd_read.specs.declared.refusal.SsdRefusal.{SsdRefusal}
use Rattle.ssd_read.specs.Elements.{Element, element_at, elements_of, element_name}
use Rattle.ssd_read.specs.Names.{is_node, root_fault, name_fault, first_fault}
use Rattle.ssd_read.specs.PathBytes.{paths_fault}
use Rattle.ssd_read.specs.Ends.{end_fault}
use Rattle.ssd_read.specs.Steps.{Step, a_part, a_node, a_switch, a_link, a_tap, built, is_part, naming_step}
use Rattle.ssd_read.specs.Steps.{item_steps_at, steps_of}
use Rattle.ssd_read.specs.Lists.{switch_in, link_in, tap_in}
use Rattle.ssd_read.proofs.AddedPaths.{switch_path_in}
use Rattle.ssd_read.specs.Laws.{HasInOrder, switch_paths_at, numbers_of}
use Rattle.ssd_read.specs.StandsFor.{outcome_of, station_of, fault_of}
use Rattle.ssd_read.proofs.Laid.{switches_built, links_built, taps_built}
use Rattle.ssd_read.proofs.Given.{AllSwitches, item_all}
use Rattle.ssd_read.proofs.SwitchPaths.{laid_paths, own_path}
use Rattle.ssd_read.proofs.NewPaths.{laid_parts, laid_nodes, is_equipment}
use Rattle.ssd_read.proofs.Drawn.{drawn_len}

pub none_step : {X : Type 0} (w : Step → Option X) (b c : Bool) (x : Element) (ss : List Step) →
    ((path : List ℕ) → w (a_part path) ≡ None) → ((path : List ℕ) → w (a_node path) ≡ None)
    → filter_map w (cond b (a_part x.path ∷ []) (cond c (a_node x.path ∷ []) []) ++ ss) ≡ filter_map w ss
none_step w true c x ss h g = ap (λ o. cons_option o (filter_map w ss)) (h x.path)
none_step w false true x ss h g = ap (λ o. cons_option o (filter_map w ss)) (g x.path)
none_step w false false x ss h g = refl

none_named : {X : Type 0} (w : Step → Option X) (xs : List Element) → ((path : List ℕ) → w (a_part path) ≡ None) →
    ((path : List ℕ) → w (a_node path) ≡ None) → filter_map w (flat_map naming_step xs) ≡ []
none_named w [] h g = refl
none_named w (x ∷ xs) h g = none_step w (is_part x) (is_node x) x (flat_map naming_step xs) h g ∙ none_named w xs h g

pub each_apart : {X : Type 0} (w : Step → Option X) (f : ℕ → List Step) (is : List ℕ) →
    filter_map w (flat_map f is) ≡ flat_map (λ i. filter_map w (f i)) is
each_apart w f [] = refl
each_apart w f (i ∷ is) = filter_map-append w (f i) (flat_map f is) ∙ ap (λ l. filter_map w (f i) ++ l)
    (each_apart w f is)

items_alone : {X : Type 0} (w : Step → Option X) (all : List Element) → ((path : List ℕ) → w (a_part path) ≡ None) →
    ((path : List ℕ) → w (a_node path) ≡ None)
    → filter_map w (steps_of all) ≡ flat_map (λ i. filter_map w (item_steps_at all i)) (numbers_of all)
items_alone w all h g =
    filter_map-append w (flat_map naming_step all) (flat_map (item_steps_at all) (numbers_of all))
    ∙ (ap (λ l. l ++ filter_map w (flat_map (item_steps_at all) (numbers_of all))) (none_named w all h g)
    ∙ each_apart w (item_steps_at all) (numbers_of all))

-- ---- paths of switches

pub one_path : (parts : List (List ℕ)) (p : List ℕ) (ss : List Step) →
    AllSwitches (λ name x. get_or parts x.bay.0 [] ++ 47 ∷ name ≡ p) ss → filter_map (switch_path_in parts) ss
    ≡ map (λ (x : Switch). p) (filter_map switch_in ss)
one_path parts p [] h = refl
one_path parts p (a_part path ∷ ss) h = one_path parts p ss h
one_path parts p (a_node path ∷ ss) h = one_path parts p ss h
one_path parts p (a_switch name x ∷ ss) h = ap (λ (q : List ℕ). q ∷ filter_map (switch_path_in parts) ss) h.0
    ∙ ap (λ l. p ∷ l) (one_path parts p ss h.1)
one_path parts p (a_link x ∷ ss) h = one_path parts p ss h
one_path parts p (a_tap x ∷ ss) h = one_path parts p ss h

pub same_rows : (f g : ℕ → List (List ℕ)) (a n : ℕ) → ((k : ℕ) → k < a + n → f k ≡ g k) →
    flat_map f (range_with_len a n) ≡ flat_map g (range_with_len a n)
same_rows f g a zero h = refl
same_rows f g a (suc n) h =
    let rest : flat_map f (range_with_len (a + 1) n) ≡ flat_map g (range_with_len (a + 1) n) =
    same_rows f g (a + 1) n (λ k l. h k (omega arith)) in
    ap (λ (l : List (List ℕ)). l ++ flat_map f (range_with_len (a + 1) n)) (h a (omega arith))
    ∙ ap (λ (l : List (List ℕ)). g a ++ l) rest

item_paths : (tree : List Entry) (k : ℕ) → IsInOrder tree → k < length tree →
    filter_map (switch_path_in (map (λ (x : Element). x.path) (filter is_part (elements_of tree))))
    (item_steps_at (elements_of tree) k) ≡ switch_paths_at (elements_of tree) k
item_paths tree k o h =
    let all : List Element = elements_of tree in
    let parts : List (List ℕ) = map (λ (x : Element). x.path) (filter is_part all) in
    one_path parts (element_at all k).path (item_steps_at all k)
    (item_all (λ name x. get_or parts x.bay.0 [] ++ 47 ∷ name ≡ (element_at all k).path) all k
    (λ t x e. ap (λ (n : ℕ). get_or parts n [] ++ 47 ∷ element_name (element_at all k).entry) e
    ∙ own_path tree k o h (is_equipment (element_at all k).role t)))

all_paths : (tree : List Entry) (d : Diagram) → IsInOrder tree → built empty (steps_of (elements_of tree)) ≡ Ok d →
    d.switch_paths ≡ flat_map (switch_paths_at (elements_of tree)) (numbers_of (elements_of tree))
all_paths tree d o h =
    let all : List Element = elements_of tree in
    let parts : List (List ℕ) = map (λ (x : Element). x.path) (filter is_part all) in
    laid_paths all (numbers_of all) d h
    ∙ (each_apart (switch_path_in parts) (item_steps_at all) (numbers_of all)
    ∙ same_rows (λ i. filter_map (switch_path_in parts) (item_steps_at all i)) (switch_paths_at all) 0 (length all)
    (λ k l. item_paths tree k o (omega (arith, drawn_len tree))))

-- ---- the whole

pub no_root_fault : (o : Option SsdRefusal) (r : Result Diagram SsdRefusal) (d : Diagram) →
    option_map_or Err o r ≡ Ok d → r ≡ Ok d
no_root_fault None r d h = h
no_root_fault (Some e) r d h = absurd (cc)

fault_none : (o : Option SsdRefusal) (r : Result Diagram SsdRefusal) (d : Diagram) →
    option_map_or Err o r ≡ Ok d → o ≡ None
fault_none None r d h = refl
fault_none (Some e) r d h = absurd (cc)

second_none : (o r s : Option SsdRefusal) → option_or o (option_or r s) ≡ None → r ≡ None
second_none None None s h = refl
second_none None (Some e) s h = absurd (cc)
second_none (Some e) r s h = absurd (cc)

pub names_are_good : (all : List Element) (d : Diagram) → station_of all ≡ Ok d → first_fault name_fault [] all ≡ None
names_are_good all d h =
    second_none (paths_fault all) (first_fault name_fault [] all) (first_fault (end_fault all) [] all)
    (fault_none (fault_of all) (built empty (steps_of all)) d h)

pub accepted_builds : (tree : List Entry) (d : Diagram) → outcome_of tree ≡ Ok d →
    built empty (steps_of (elements_of tree)) ≡ Ok d
accepted_builds tree d h =
    no_root_fault (fault_of (elements_of tree)) (built empty (steps_of (elements_of tree))) d
    (no_root_fault (root_fault tree) (station_of (elements_of tree)) d h)

pub has_in_order : (tree : List Entry) (d : Diagram) → IsInOrder tree → outcome_of tree ≡ Ok d →
    HasInOrder (elements_of tree) d
has_in_order tree d o h =
    let all : List Element = elements_of tree in
    let b : built empty (steps_of all) ≡ Ok d = accepted_builds tree d h in
    record {
      parts = laid_parts all (numbers_of all) d b;
      nodes = laid_nodes all (numbers_of all) d b;
      switches = switches_built empty d (steps_of all) b ∙ items_alone switch_in all (λ p. refl) (λ p. refl);
      switch_paths = all_paths tree d o b;
      links = links_built empty d (steps_of all) b ∙ items_alone link_in all (λ p. refl) (λ p. refl);
      taps = taps_built empty d (steps_of all) b ∙ items_alone tap_in all (λ p. refl) (λ p. refl);
    }
