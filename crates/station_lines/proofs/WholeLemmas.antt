-- The station that the lines of a drawing say is its own.
use Rattle.std.proofs.Common.{◌≡◌, ℕ, ◌<◌, ◌+◌, List, [], ◌∷◌, ◌++◌, length, map, get_or, Option, Some, None, Bool, true}
use Rattle.std.proofs.Common.{false, cond, Ok, Err, refl, ◌-◌, arith, zero, suc, ap, ◌∙◌, sym, subst, append_assoc, inl, inr}
use Rattle.std.specs.List.{filter, filter_map, flat_map, cons_option, range_with_len}
use Rattle.std.specs.Option.{option_map, option_map_or}
use Rattle.std.specs.Prelude.{◌⊎◌, codes}
use Rattle.std.proofs.lemmas.List.{map-append, append-nil, length-map, get_or_at, length_push}
use Rattle.std.proofs.lemmas.List.Elements.{filter_map-append}
use Rattle.station_graph.specs.declared.items.Switch.{Switch}
use Rattle.station_graph.specs.declared.items.Link.{Link}
use Rattle.station_graph.specs.declared.items.Tap.{Tap}
use Rattle.station_graph.specs.Diagram.{Diagram, IsStation, Differ}
use Rattle.ssd_text.specs.Nesting.{Entry, IsInOrder}
use Rattle.ssd_text.proofs.Ordered.{read_order}
use Rattle.ssd_read.specs.Elements.{Element, element_at, elements_of, nowhere}
use Rattle.ssd_read.specs.Names.{is_node, keys_of, key_of}
use Rattle.ssd_read.specs.Steps.{Step, a_part, a_node, a_switch, a_link, a_tap, naming_step, item_steps_at, is_part}
use Rattle.ssd_read.specs.Steps.{part_number, part_of}
use Rattle.ssd_read.specs.Lists.{part_path, switch_in, link_in, tap_in}
use Rattle.ssd_read.proofs.AddedPaths.{added_node}
use Rattle.ssd_read.specs.Laws.{HasInOrder, path_of, numbers_of, switches_at, links_at, taps_at, switch_paths_at}
use Rattle.ssd_read.specs.StandsFor.{station_of, outcome_of}
use Rattle.ssd_read.specs.Whole.{IsDrawing}
use Rattle.ssd_read.proofs.Drawn.{drawn_len}
use Rattle.ssd_read.proofs.InOrder.{has_in_order}
use Rattle.ssd_read.proofs.Laid.{parts_named, nodes_named}
use Rattle.station_lines.specs.Rows.{Row}
use Rattle.station_lines.specs.Lines.{step_row, step_rows, nodes_of, type_word, rows_at, rows_of}
use Rattle.station_lines.specs.Aside.{IsAside, AreAside}
use Rattle.station_lines.specs.ReadBack.{said_part, said_node, said_switch, said_switch_path, said_link, said_tap, said_all}
use Rattle.station_lines.specs.ReadBack.{station_said, parts_after}
use Rattle.station_lines.proofs.FitLemmas.{Fits, AllFit, items_fit}
use Rattle.station_lines.proofs.SaidLemmas.{node_said, part_said, switch_said, link_said, tap_said, path_said}
use Rattle.station_lines.proofs.GatherLemmas.{all_said}

-- ---- lines of one kind

picked : {X : Type 0} (say : Row → Option X) (pick : Step → Option X) (nodes : List (List ℕ)) (word path : List ℕ) →
    ((s : Step) → say (step_row nodes word path s) ≡ pick s) → (ss : List Step) →
    filter_map say (step_rows nodes word path ss) ≡ filter_map pick ss
picked say pick nodes word path h [] = refl
picked say pick nodes word path h (s ∷ ss) =
    ap (λ o. cons_option o (filter_map say (step_rows nodes word path ss))) (h s)
    ∙ ap (cons_option (pick s)) (picked say pick nodes word path h ss)

by_number : {X : Type 0} (f : Element → List X) (xs ys : List Element) →
    flat_map (λ i. f (element_at (xs ++ ys) i)) (range_with_len (length xs) (length ys)) ≡ flat_map f ys
by_number f xs [] = refl
by_number {X} f xs (y ∷ ys) =
    let later : flat_map (λ i. f (element_at (xs ++ y ∷ ys) i)) (range_with_len (length xs + 1) (length ys))
    ≡ flat_map f ys =
    subst (λ (l : List Element). flat_map (λ i. f (element_at l i)) (range_with_len (length xs + 1) (length ys))
    ≡ flat_map f ys) (append_assoc xs (y ∷ []) ys)
    (subst (λ (k : ℕ). flat_map (λ i. f (element_at ((xs ++ y ∷ []) ++ ys) i)) (range_with_len k (length ys))
    ≡ flat_map f ys) (length_push xs y) (by_number f (xs ++ y ∷ []) ys)) in
    ap (λ (z : Element). f z
    ++ flat_map (λ i. f (element_at (xs ++ y ∷ ys) i)) (range_with_len (length xs + 1) (length ys)))
    (get_or_at xs y ys nowhere (length xs) refl)
    ∙ ap (λ (l : List X). f y ++ l) later

rows_apart : {X : Type 0} (w : Row → Option X) (f : ℕ → List Row) (is : List ℕ) →
    filter_map w (flat_map f is) ≡ flat_map (λ i. filter_map w (f i)) is
rows_apart w f [] = refl
rows_apart w f (i ∷ is) =
    filter_map-append w (f i) (flat_map f is) ∙ ap (λ l. filter_map w (f i) ++ l) (rows_apart w f is)

steps_apart : {X : Type 0} (w : Step → Option X) (xs : List Element) →
    flat_map (λ x. filter_map w (naming_step x)) xs ≡ filter_map w (flat_map naming_step xs)
steps_apart w [] = refl
steps_apart w (x ∷ xs) =
    ap (λ l. filter_map w (naming_step x) ++ l) (steps_apart w xs)
    ∙ sym (filter_map-append w (naming_step x) (flat_map naming_step xs))

alike : {X : Type 0} (f g : ℕ → List X) → ((i : ℕ) → f i ≡ g i) → (is : List ℕ) → flat_map f is ≡ flat_map g is
alike f g h [] = refl
alike {X} f g h (i ∷ is) =
    ap (λ (l : List X). l ++ flat_map f is) (h i) ∙ ap (λ (l : List X). g i ++ l) (alike f g h is)

-- items are neither nodes nor parts
no_names : {X : Type 0} (w : Step → Option X) (count part : ℕ) → ((s : Step) → Fits count part s → w s ≡ None) →
    (ss : List Step) → AllFit count part ss → filter_map w ss ≡ []
no_names w count part none [] h = refl
no_names w count part none (s ∷ ss) h =
    ap (λ o. cons_option o (filter_map w ss)) (none s h.0) ∙ no_names w count part none ss h.1

no_node : (count part : ℕ) (s : Step) → Fits count part s → added_node s ≡ None
no_node count part (a_part own) h = absurd h
no_node count part (a_node own) h = absurd h
no_node count part (a_switch name x) h = refl
no_node count part (a_link x) h = refl
no_node count part (a_tap x) h = refl

no_path : (count part : ℕ) (s : Step) → Fits count part s → part_path s ≡ None
no_path count part (a_part own) h = absurd h
no_path count part (a_node own) h = absurd h
no_path count part (a_switch name x) h = refl
no_path count part (a_link x) h = refl
no_path count part (a_tap x) h = refl

-- the names of one kind, over all lines
named : (say : Row → Option (List ℕ)) (pick : Step → Option (List ℕ)) →
    ((nodes : List (List ℕ)) (word path : List ℕ) (s : Step) → say (step_row nodes word path s) ≡ pick s) →
    ((count part : ℕ) (s : Step) → Fits count part s → pick s ≡ None) → (all : List Element) →
    filter_map say (rows_of all) ≡ filter_map pick (flat_map naming_step all)
named say pick said none all =
    let here : (i : ℕ) → filter_map say (rows_at all i) ≡ filter_map pick (naming_step (element_at all i)) = λ i.
    picked say pick (nodes_of all) (type_word (element_at all i)) (element_at all i).path
    (said (nodes_of all) (type_word (element_at all i)) (element_at all i).path)
    (naming_step (element_at all i) ++ item_steps_at all i)
    ∙ (filter_map-append pick (naming_step (element_at all i)) (item_steps_at all i)
    ∙ (ap (λ (l : List (List ℕ)). filter_map pick (naming_step (element_at all i)) ++ l)
    (no_names pick (length (keys_of all)) (part_of all i (element_at all i))
    (none (length (keys_of all)) (part_of all i (element_at all i))) (item_steps_at all i) (items_fit all i))
    ∙ append-nil (filter_map pick (naming_step (element_at all i))))) in
    rows_apart say (rows_at all) (numbers_of all)
    ∙ (alike (λ i. filter_map say (rows_at all i)) (λ i. filter_map pick (naming_step (element_at all i))) here
    (numbers_of all)
    ∙ (by_number (λ x. filter_map pick (naming_step x)) [] all ∙ steps_apart pick all))

-- ---- lines aside

aside_none : {X : Type 0} (say : Row → Option X) →
    ((what name : List ℕ) → say (codes "remark" ∷ what ∷ name ∷ []) ≡ None) →
    ((what name : List ℕ) → say (codes "count" ∷ what ∷ name ∷ []) ≡ None) → (row : Row) → IsAside row → say row ≡ None
aside_none say remark count row aside = elim aside.words [
  | inl is ↦
      ap say (aside.is ∙ ap (λ (w : List ℕ). w ∷ aside.what ∷ aside.name ∷ []) is) ∙ remark aside.what aside.name
  | inr is ↦
      ap say (aside.is ∙ ap (λ (w : List ℕ). w ∷ aside.what ∷ aside.name ∷ []) is) ∙ count aside.what aside.name
]

more_none : {X : Type 0} (say : Row → Option X) → ((row : Row) → IsAside row → say row ≡ None) → (more : List Row) →
    AreAside more → filter_map say more ≡ []
more_none say none [] h = refl
more_none say none (row ∷ more) h =
    ap (λ o. cons_option o (filter_map say more)) (none row h.0) ∙ more_none say none more h.1

more_said : {X : Type 0} (say : ℕ → Row → Option X) → ((part : ℕ) (row : Row) → IsAside row → say part row ≡ None) →
    (before : ℕ) (more : List Row) → AreAside more → said_all say before more ≡ []
more_said say none before [] h = refl
more_said say none before (row ∷ more) h =
    let next : ℕ = parts_after before (said_part row) in
    ap (λ o. cons_option o (said_all say next more)) (none (next - 1) row h.0) ∙ more_said say none next more h.1

said_aside : {X : Type 0} (say : Row → Option X) (rows more : List Row) (xs : List X) →
    ((row : Row) → IsAside row → say row ≡ None) → AreAside more → filter_map say rows ≡ xs →
    filter_map say (rows ++ more) ≡ xs
said_aside {X} say rows more xs none aside e =
    filter_map-append say rows more
    ∙ (ap (λ (l : List X). filter_map say rows ++ l) (more_none say none more aside)
    ∙ (append-nil (filter_map say rows) ∙ e))

-- ---- the whole

six : (n p q : List (List ℕ)) (s : List Switch) (l : List Link) (t : List Tap) → Diagram
six n p q s l t = record {
  node_paths = n;
  part_paths = p;
  switch_paths = q;
  switches = s;
  links = l;
  taps = t;
}

same_six : (n n' p p' q q' : List (List ℕ)) (s s' : List Switch) (l l' : List Link) (t t' : List Tap) → n ≡ n' → p ≡ p' →
    q ≡ q' → s ≡ s' → l ≡ l' → t ≡ t' → six n p q s l t ≡ six n' p' q' s' l' t'
same_six n n' p p' q q' s s' l l' t t' en ep eq es el et =
    ap (λ x. six x p q s l t) en
    ∙ (ap (λ x. six n' x q s l t) ep
    ∙ (ap (λ x. six n' p' x s l t) eq
    ∙ (ap (λ x. six n' p' q' x l t) es ∙ (ap (λ x. six n' p' q' s' x t) el ∙ ap (λ x. six n' p' q' s' l' x) et))))

module _ (tree : List Entry) (d : Diagram) (o : IsInOrder tree) (stands : outcome_of tree ≡ Ok d) (station : IsStation d)
    (more : List Row) (aside : AreAside more) where
  laid : HasInOrder (elements_of tree) d
  laid = has_in_order tree d o stands

  nodes_said : filter_map said_node (rows_of (elements_of tree) ++ more) ≡ d.node_paths
  nodes_said =
      said_aside said_node (rows_of (elements_of tree)) more d.node_paths
      (aside_none said_node (λ what name. refl) (λ what name. refl)) aside
      (named said_node added_node node_said no_node (elements_of tree)
      ∙ (nodes_named (elements_of tree) ∙ sym laid.nodes))

  parts_said : filter_map said_part (rows_of (elements_of tree) ++ more) ≡ d.part_paths
  parts_said =
      said_aside said_part (rows_of (elements_of tree)) more d.part_paths
      (aside_none said_part (λ what name. refl) (λ what name. refl)) aside
      (named said_part part_path part_said no_path (elements_of tree)
      ∙ (parts_named (elements_of tree) ∙ sym laid.parts))

  same_nodes : nodes_of (elements_of tree) ≡ d.node_paths
  same_nodes = sym laid.nodes

  counts : length (keys_of (elements_of tree)) ≡ length d.node_paths
  counts =
      length-map (filter is_node (elements_of tree)) key_of
      ∙ (sym (length-map (filter is_node (elements_of tree)) path_of) ∙ ap length same_nodes)

  gathered : {X : Type 0} (say : ℕ → Row → Option X) (pick : Step → Option X) →
      ((part : ℕ) (own : List ℕ) → say part (step_row d.node_paths [] [] (a_part own)) ≡ None) →
      ((part : ℕ) (own : List ℕ) → say part (step_row d.node_paths [] [] (a_node own)) ≡ None) →
      ((part : ℕ) (word path : List ℕ) (s : Step) → Fits (length d.node_paths) part s →
      say part (step_row d.node_paths word path s) ≡ pick s) →
      ((part : ℕ) (row : Row) → IsAside row → say part row ≡ None) →
      said_all say 0 (rows_of (elements_of tree) ++ more)
      ≡ flat_map (λ i. filter_map pick (item_steps_at (elements_of tree) i)) (numbers_of (elements_of tree))
  gathered {X} say pick of_part of_node of_step none =
      let all : List Element = elements_of tree in
      let n : ℕ = length all in
      let whole : 0 + n ≡ length tree = omega (arith, drawn_len tree) in
      all_said say pick d.node_paths (length d.node_paths) of_part of_node of_step tree o same_nodes counts n 0 more whole
      ∙ (ap (λ (l : List X). flat_map (λ i. filter_map pick (item_steps_at all i)) (numbers_of all) ++ l)
      (more_said say none (part_number all (0 + n)) more aside)
      ∙ append-nil (flat_map (λ i. filter_map pick (item_steps_at all i)) (numbers_of all)))

  differ : Differ d.node_paths
  differ = station.paths_differ.nodes

  switches_said : said_all (said_switch d.node_paths) 0 (rows_of (elements_of tree) ++ more) ≡ d.switches
  switches_said =
      gathered (said_switch d.node_paths) switch_in (λ part own. refl) (λ part own. refl)
      (λ part word path s h. switch_said d.node_paths differ part word path s h)
      (λ part. aside_none (said_switch d.node_paths part) (λ what name. refl) (λ what name. refl))
      ∙ sym laid.switches

  links_said : said_all (said_link d.node_paths) 0 (rows_of (elements_of tree) ++ more) ≡ d.links
  links_said =
      gathered (said_link d.node_paths) link_in (λ part own. refl) (λ part own. refl)
      (λ part word path s h. link_said d.node_paths differ part word path s h)
      (λ part. aside_none (said_link d.node_paths part) (λ what name. refl) (λ what name. refl))
      ∙ sym laid.links

  taps_said : said_all (said_tap d.node_paths) 0 (rows_of (elements_of tree) ++ more) ≡ d.taps
  taps_said =
      gathered (said_tap d.node_paths) tap_in (λ part own. refl) (λ part own. refl)
      (λ part word path s h. tap_said d.node_paths differ part word path s h)
      (λ part. aside_none (said_tap d.node_paths part) (λ what name. refl) (λ what name. refl))
      ∙ sym laid.taps

  -- the paths of switches, line by line
  paths_of_items : (count part : ℕ) (nodes : List (List ℕ)) (word path : List ℕ) (ss : List Step) → AllFit count part ss →
      filter_map said_switch_path (step_rows nodes word path ss)
      ≡ map (λ (x : Switch). path) (filter_map switch_in ss)
  paths_of_items count part nodes word path [] h = refl
  paths_of_items count part nodes word path (s ∷ ss) h =
      ap (λ o. cons_option o (filter_map said_switch_path (step_rows nodes word path ss)))
      (path_said count part nodes word path s h.0)
      ∙ (ap (cons_option (option_map (λ (x : Switch). path) (switch_in s)))
      (paths_of_items count part nodes word path ss h.1)
      ∙ apart (switch_in s) (filter_map switch_in ss))
    where
      apart : (o : Option Switch) (xs : List Switch) →
          cons_option (option_map (λ (x : Switch). path) o) (map (λ (x : Switch). path) xs)
          ≡ map (λ (x : Switch). path) (cons_option o xs)
      apart None xs = refl
      apart (Some x) xs = refl

  naming_free : (nodes : List (List ℕ)) (word path own : List ℕ) (b c : Bool) (rest : List Row) →
      filter_map said_switch_path (step_rows nodes word path (cond b (a_part own ∷ []) (cond c (a_node own ∷ []) []))
      ++ rest) ≡ filter_map said_switch_path rest
  naming_free nodes word path own true c rest = refl
  naming_free nodes word path own false true rest = refl
  naming_free nodes word path own false false rest = refl

  paths_at : (i : ℕ) → filter_map said_switch_path (rows_at (elements_of tree) i)
      ≡ switch_paths_at (elements_of tree) i
  paths_at i =
      let all : List Element = elements_of tree in
      let x : Element = element_at all i in
      let nodes : List (List ℕ) = nodes_of all in
      let items : List Row = step_rows nodes (type_word x) x.path (item_steps_at all i) in
      ap (filter_map said_switch_path)
      (map-append (step_row nodes (type_word x) x.path) (naming_step x) (item_steps_at all i))
      ∙ (naming_free nodes (type_word x) x.path x.path (is_part x) (is_node x) items
      ∙ paths_of_items (length (keys_of all)) (part_of all i x) nodes (type_word x) x.path (item_steps_at all i)
      (items_fit all i))

  paths_said : filter_map said_switch_path (rows_of (elements_of tree) ++ more) ≡ d.switch_paths
  paths_said =
      said_aside said_switch_path (rows_of (elements_of tree)) more d.switch_paths
      (aside_none said_switch_path (λ what name. refl) (λ what name. refl)) aside
      (rows_apart said_switch_path (rows_at (elements_of tree)) (numbers_of (elements_of tree))
      ∙ (alike (λ i. filter_map said_switch_path (rows_at (elements_of tree) i)) (switch_paths_at (elements_of tree))
      paths_at (numbers_of (elements_of tree))
      ∙ sym laid.switch_paths))

  pub tree_said : station_said (rows_of (elements_of tree) ++ more) ≡ d
  unfolding six
  tree_said =
      let rows : List Row = rows_of (elements_of tree) ++ more in
      same_six (filter_map said_node rows) d.node_paths (filter_map said_part rows) d.part_paths
      (filter_map said_switch_path rows) d.switch_paths (said_all (said_switch (filter_map said_node rows)) 0 rows)
      d.switches (said_all (said_link (filter_map said_node rows)) 0 rows) d.links
      (said_all (said_tap (filter_map said_node rows)) 0 rows) d.taps nodes_said parts_said paths_said
      (ap (λ (ns : List (List ℕ)). said_all (said_switch ns) 0 rows) nodes_said ∙ switches_said)
      (ap (λ (ns : List (List ℕ)). said_all (said_link ns) 0 rows) nodes_said ∙ links_said)
      (ap (λ (ns : List (List ℕ)). said_all (said_tap ns) 0 rows) nodes_said ∙ taps_said)

pub said_is_read : (text : List ℕ) (all : List Element) (d : Diagram) (more : List Row) → IsDrawing text all →
    station_of all ≡ Ok d → AreAside more → station_said (rows_of all ++ more) ≡ d
said_is_read text all d more drawing stands aside =
    let tree : List Entry = drawing.tree in
    let order : IsInOrder tree = read_order text tree drawing.spells in
    let same : all ≡ elements_of tree = drawing.reads.elements in
    let of_tree : station_of (elements_of tree) ≡ Ok d = ap station_of (sym same) ∙ stands in
    let outcome : outcome_of tree ≡ Ok d =
    ap (λ o. option_map_or Err o (station_of (elements_of tree))) drawing.reads.root ∙ of_tree in
    let equal : drawing.reads.station.diagram ≡ d = cc (sym drawing.reads.station.stands ∙ stands) in
    let station : IsStation d = subst IsStation equal drawing.reads.station.station in
    ap (λ (xs : List Element). station_said (rows_of xs ++ more)) same
    ∙ tree_said tree d order outcome station more aside
