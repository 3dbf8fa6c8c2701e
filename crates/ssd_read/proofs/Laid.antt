-- What a diagram has after steps, list by list.
use Rattle.std.proofs.Common.{◌≡◌, List, [], ◌∷◌, ◌++◌, map, get_or, Bool, true, false, ◌||◌, ◌&&◌, not, cond, Ok}
use Rattle.std.proofs.Common.{refl, ap, ◌∙◌, sym, append_assoc}
use Rattle.std.specs.List.{filter, filter_map, flat_map}
use Rattle.station_graph.specs.Diagram.{Diagram}
use Rattle.ssd_read.specs.declared.role.Role.{Role}
use Rattle.ssd_read.specs.declared.role.Role.TheVariants.{Root, Substation, VoltageLevel, Bay, ConnectivityNode}
use Rattle.ssd_read.specs.declared.role.Role.TheVariants.{ConductingEquipment, PowerTransformer, TransformerWinding}
use Rattle.ssd_read.specs.declared.role.Role.TheVariants.{Terminal, Skipped}
use Rattle.ssd_read.specs.Elements.{Element, same_role}
use Rattle.ssd_read.specs.Names.{is_node}
use Rattle.ssd_read.specs.Steps.{Step, a_part, a_node, a_switch, a_link, a_tap, built, added, limit_at, is_part}
use Rattle.ssd_read.specs.Steps.{naming_step}
use Rattle.ssd_read.specs.Lists.{part_path, switch_in, link_in, tap_in}
use Rattle.ssd_read.proofs.AddedPaths.{added_node, switch_path_in}
use Rattle.ssd_read.proofs.Taken.{append_none}
use Rattle.ssd_read.proofs.Stepped.{then_case}

part_paths_added : (d : Diagram) (s : Step) (ss : List Step) → (added d s).part_paths ++ filter_map part_path ss
    ≡ d.part_paths ++ filter_map part_path (s ∷ ss)
part_paths_added d (a_part path) ss = append_assoc d.part_paths (path ∷ []) (filter_map part_path ss)
part_paths_added d (a_node path) ss = refl
part_paths_added d (a_switch name x) ss = refl
part_paths_added d (a_link x) ss = refl
part_paths_added d (a_tap x) ss = refl

pub part_paths_built : (d e : Diagram) (ss : List Step) → built d ss ≡ Ok e →
    e.part_paths ≡ d.part_paths ++ filter_map part_path ss
unfolding built
part_paths_built d e [] h = let same : d ≡ e = cc in sym (ap (λ (x : Diagram). x.part_paths) same)
    ∙ sym (append_none d.part_paths)
part_paths_built d e (s ∷ ss) h = let both = then_case ss (limit_at d s) (built (added d s) ss) e h in
    part_paths_built (added d s) e ss both.1 ∙ part_paths_added d s ss

node_paths_added : (d : Diagram) (s : Step) (ss : List Step) → (added d s).node_paths ++ filter_map added_node ss
    ≡ d.node_paths ++ filter_map added_node (s ∷ ss)
node_paths_added d (a_part path) ss = refl
node_paths_added d (a_node path) ss = append_assoc d.node_paths (path ∷ []) (filter_map added_node ss)
node_paths_added d (a_switch name x) ss = refl
node_paths_added d (a_link x) ss = refl
node_paths_added d (a_tap x) ss = refl

pub node_paths_built : (d e : Diagram) (ss : List Step) → built d ss ≡ Ok e →
    e.node_paths ≡ d.node_paths ++ filter_map added_node ss
unfolding built
node_paths_built d e [] h = let same : d ≡ e = cc in sym (ap (λ (x : Diagram). x.node_paths) same)
    ∙ sym (append_none d.node_paths)
node_paths_built d e (s ∷ ss) h = let both = then_case ss (limit_at d s) (built (added d s) ss) e h in
    node_paths_built (added d s) e ss both.1 ∙ node_paths_added d s ss

switches_added : (d : Diagram) (s : Step) (ss : List Step) → (added d s).switches ++ filter_map switch_in ss
    ≡ d.switches ++ filter_map switch_in (s ∷ ss)
switches_added d (a_part path) ss = refl
switches_added d (a_node path) ss = refl
switches_added d (a_switch name x) ss = append_assoc d.switches (x ∷ []) (filter_map switch_in ss)
switches_added d (a_link x) ss = refl
switches_added d (a_tap x) ss = refl

pub switches_built : (d e : Diagram) (ss : List Step) → built d ss ≡ Ok e →
    e.switches ≡ d.switches ++ filter_map switch_in ss
unfolding built
switches_built d e [] h = let same : d ≡ e = cc in sym (ap (λ (x : Diagram). x.switches) same)
    ∙ sym (append_none d.switches)
switches_built d e (s ∷ ss) h = let both = then_case ss (limit_at d s) (built (added d s) ss) e h in
    switches_built (added d s) e ss both.1 ∙ switches_added d s ss

links_added : (d : Diagram) (s : Step) (ss : List Step) → (added d s).links ++ filter_map link_in ss
    ≡ d.links ++ filter_map link_in (s ∷ ss)
links_added d (a_part path) ss = refl
links_added d (a_node path) ss = refl
links_added d (a_switch name x) ss = refl
links_added d (a_link x) ss = append_assoc d.links (x ∷ []) (filter_map link_in ss)
links_added d (a_tap x) ss = refl

pub links_built : (d e : Diagram) (ss : List Step) → built d ss ≡ Ok e → e.links ≡ d.links ++ filter_map link_in ss
unfolding built
links_built d e [] h = let same : d ≡ e = cc in sym (ap (λ (x : Diagram). x.links) same) ∙ sym (append_none d.links)
links_built d e (s ∷ ss) h = let both = then_case ss (limit_at d s) (built (added d s) ss) e h in
    links_built (added d s) e ss both.1 ∙ links_added d s ss

taps_added : (d : Diagram) (s : Step) (ss : List Step) → (added d s).taps ++ filter_map tap_in ss ≡ d.taps ++ filter_map
    tap_in (s ∷ ss)
taps_added d (a_part path) ss = refl
taps_added d (a_node path) ss = refl
taps_added d (a_switch name x) ss = refl
taps_added d (a_link x) ss = refl
taps_added d (a_tap x) ss = append_assoc d.taps (x ∷ []) (filter_map tap_in ss)

pub taps_built : (d e : Diagram) (ss : List Step) → built d ss ≡ Ok e → e.taps ≡ d.taps ++ filter_map tap_in ss
unfolding built
taps_built d e [] h = let same : d ≡ e = cc in sym (ap (λ (x : Diagram). x.taps) same) ∙ sym (append_none d.taps)
taps_built d e (s ∷ ss) h = let both = then_case ss (limit_at d s) (built (added d s) ss) e h in
    taps_built (added d s) e ss both.1 ∙ taps_added d s ss

some_first : {X : Type 0} (x : X) (xs : List X) → x ∷ xs ≡ [] → ⊥
some_first x xs h = cc

paths_added : (d : Diagram) (s : Step) (ss : List Step) → filter_map part_path (s ∷ ss) ≡ [] →
    (added d s).switch_paths ++ filter_map (switch_path_in (added d s).part_paths) ss ≡ d.switch_paths ++ filter_map
    (switch_path_in d.part_paths) (s ∷ ss)
paths_added d (a_part path) ss n = absurd (some_first path (filter_map part_path ss) n)
paths_added d (a_node path) ss n = refl
paths_added d (a_switch name x) ss n = append_assoc d.switch_paths ((get_or d.part_paths x.bay.0 [] ++ 47 ∷ name) ∷ [])
    (filter_map (switch_path_in d.part_paths) ss)
paths_added d (a_link x) ss n = refl
paths_added d (a_tap x) ss n = refl

fewer_names : (s : Step) (ss : List Step) → filter_map part_path (s ∷ ss) ≡ [] → filter_map part_path ss ≡ []
fewer_names (a_part path) ss n = absurd (some_first path (filter_map part_path ss) n)
fewer_names (a_node path) ss n = n
fewer_names (a_switch name x) ss n = n
fewer_names (a_link x) ss n = n
fewer_names (a_tap x) ss n = n

-- Where no part is added, a switch's path is that of its part and its name.
pub paths_built : (d e : Diagram) (ss : List Step) → filter_map part_path ss ≡ [] → built d ss ≡ Ok e →
    e.switch_paths ≡ d.switch_paths ++ filter_map (switch_path_in d.part_paths) ss
unfolding built
paths_built d e [] n h = let same : d ≡ e = cc in sym (ap (λ (x : Diagram). x.switch_paths) same)
    ∙ sym (append_none d.switch_paths)
paths_built d e (s ∷ ss) n h = let both = then_case ss (limit_at d s) (built (added d s) ss) e h in
    paths_built (added d s) e ss (fewer_names s ss n) both.1 ∙ paths_added d s ss n

-- ---- parts and nodes

no_node : (r w : Role) → (same_role r Bay || (same_role r PowerTransformer && not (same_role w Bay))) ≡ true →
    same_role r ConnectivityNode ≡ false
no_node Root w h = refl
no_node Substation w h = refl
no_node VoltageLevel w h = refl
no_node Bay w h = refl
no_node ConnectivityNode w h = absurd (cc)
no_node ConductingEquipment w h = refl
no_node PowerTransformer w h = refl
no_node TransformerWinding w h = refl
no_node Terminal w h = refl
no_node Skipped w h = refl

part_step : (b c : Bool) (x : Element) (xs : List Element) (ss : List Step) →
    filter_map part_path ss ≡ map (λ (x : Element). x.path) xs
    → filter_map part_path (cond b (a_part x.path ∷ []) (cond c (a_node x.path ∷ []) []) ++ ss)
    ≡ map (λ (x : Element). x.path) (cond b (x ∷ xs) xs)
part_step true c x xs ss h = ap (λ l. x.path ∷ l) h
part_step false true x xs ss h = h
part_step false false x xs ss h = h

pub parts_named : (xs : List Element) → filter_map part_path (flat_map naming_step xs) ≡ map (λ (x : Element). x.path)
    (filter is_part xs)
parts_named [] = refl
parts_named (x ∷ xs) = part_step (is_part x) (is_node x) x (filter is_part xs) (flat_map naming_step xs)
    (parts_named xs)

node_step : (b c : Bool) (x : Element) (xs : List Element) (ss : List Step) → (b ≡ true → c ≡ false) →
    filter_map added_node ss ≡ map (λ (x : Element). x.path) xs
    → filter_map added_node (cond b (a_part x.path ∷ []) (cond c (a_node x.path ∷ []) []) ++ ss)
    ≡ map (λ (x : Element). x.path) (cond c (x ∷ xs) xs)
node_step true true x xs ss n h = absurd (both (n refl))
  where
    both : true ≡ false → ⊥
    both w = cc
node_step true false x xs ss n h = h
node_step false true x xs ss n h = ap (λ l. x.path ∷ l) h
node_step false false x xs ss n h = h

pub nodes_named : (xs : List Element) → filter_map added_node (flat_map naming_step xs) ≡ map (λ (x : Element). x.path)
    (filter is_node xs)
nodes_named [] = refl
nodes_named (x ∷ xs) = node_step (is_part x) (is_node x) x (filter is_node xs) (flat_map naming_step xs)
    (no_node x.role x.within) (nodes_named xs)

item_free : (b c : Bool) (x : Element) (ss : List Step) →
    filter_map switch_in (cond b (a_part x.path ∷ []) (cond c (a_node x.path ∷ []) []) ++ ss) ≡ filter_map switch_in ss
item_free true c x ss = refl
item_free false true x ss = refl
item_free false false x ss = refl

pub no_switches_named : (xs : List Element) → filter_map switch_in (flat_map naming_step xs) ≡ []
no_switches_named [] = refl
no_switches_named (x ∷ xs) = item_free (is_part x) (is_node x) x (flat_map naming_step xs) ∙ no_switches_named xs
