-- All fields of the lines of a drawing are shown.
use Rattle.std.proofs.Common.{◌≡◌, ℕ, ◌≤◌, ◌<◌, List, [], ◌∷◌, ◌++◌, length, map, take, get_or, Option, Some, None, Bool}
use Rattle.std.proofs.Common.{true, false, ◌&&◌, ◌||◌, not, cond, Ok, refl, arith, zero, suc, ap, ◌∙◌, sym, subst, ◌+◌}
use Rattle.std.specs.List.{list_all, filter, flat_map, range_with_len}
use Rattle.std.specs.Option.{option_map_or, unwrap_or}
use Rattle.std.specs.Prelude.{codes, is_some, nat_lt, ◌⊎◌}
use Rattle.std.proofs.lemmas.Bool.{cases_Bool}
use Rattle.std.proofs.lemmas.List.Folds.{list_all-append}
use Rattle.std.proofs.Common.{inl, inr}
use Rattle.ilk_base.specs.declared.words.Kind.{Kind}
use Rattle.ilk_base.specs.declared.words.Kind.TheVariants.{Breaker, Disconnector, Earthing, Infeed}
use Rattle.ilk_base.specs.declared.words.NodeId.{NodeId}
use Rattle.station_graph.specs.Diagram.{Diagram}
use Rattle.ssd_text.specs.Nesting.{Entry, IsInOrder, entry_at}
use Rattle.ssd_read.specs.declared.role.Role.{Role}
use Rattle.ssd_read.specs.declared.role.Role.TheVariants.{Root, Substation, VoltageLevel, Bay, ConnectivityNode}
use Rattle.ssd_read.specs.declared.role.Role.TheVariants.{ConductingEquipment, PowerTransformer, TransformerWinding}
use Rattle.ssd_read.specs.declared.role.Role.TheVariants.{Terminal, Skipped}
use Rattle.ssd_read.specs.declared.refusal.SsdRefusal.TheVariants.{NoName, Twice}
use Rattle.ssd_read.specs.Elements.{Element, element_at, elements_of, element_after, element_name, attribute_value}
use Rattle.ssd_read.specs.Elements.{counted_as, path_in, same_role, front_of_tree}
use Rattle.ssd_read.specs.Names.{is_shown, is_good_name, lacks_name, is_nameless, is_taken, name_fault, first_fault}
use Rattle.ssd_read.specs.Names.{is_node, keys_of}
use Rattle.ssd_read.specs.Steps.{Step, a_part, a_node, a_switch, a_link, a_tap, naming_step, item_steps_at, is_part}
use Rattle.ssd_read.specs.Steps.{part_of}
use Rattle.ssd_read.specs.Whole.{IsDrawing}
use Rattle.ssd_text.proofs.Ordered.{read_order}
use Rattle.ssd_read.specs.Laws.{StandsIn, path_of, numbers_of}
use Rattle.ssd_read.specs.StandsFor.{station_of}
use Rattle.ssd_read.specs.Types.{type_of}
use Rattle.ssd_read.proofs.Drawn.{drawn_at, drawn_len, drawn_entry, stands_in}
use Rattle.ssd_read.proofs.InOrder.{names_are_good}
use Rattle.ssd_read.proofs.NewPaths.{none_at, or_false}
use Rattle.station_lines.specs.Rows.{Row, text_of}
use Rattle.station_lines.specs.Lines.{step_row, step_rows, nodes_of, type_word, shown_word, node_in, second_in, kind_word}
use Rattle.station_lines.specs.Lines.{link_word, rows_at, rows_of}
use Rattle.station_lines.specs.Aside.{IsShown, AreShown, AllShown, IsAside, AreAside}
use Rattle.station_lines.specs.ReadBack.{station_said}
use Rattle.station_lines.proofs.FitLemmas.{Fits, AllFit, items_fit}
use Rattle.station_lines.proofs.CutLemmas.{cut_rows}
use Rattle.station_lines.proofs.WholeLemmas.{said_is_read}

-- ---- names

case_name : (n t : Bool) (at : ℕ) → cond n (Some (NoName at)) (cond t (Some (Twice at)) None) ≡ None → n ≡ false
case_name true t at h = absurd (cc)
case_name false t at h = refl

not_nameless : (before : List Element) (x : Element) → name_fault before x ≡ None → is_nameless x ≡ false
unfolding name_fault
not_nameless before x h = case_name (is_nameless x) (is_taken before x) x.entry.at h

good_case : (o : Option (List ℕ)) → not (option_map_or is_good_name o false) ≡ false → is_good_name (unwrap_or o []) ≡ true
good_case None h = absurd (cc)
good_case (Some name) h = by (is_good_name name) h
  where
    by : (b : Bool) → not b ≡ false → b ≡ true
    by true h = refl
    by false h = absurd (cc)

both_true : (a b : Bool) → (a && b) ≡ true → (a ≡ true) × (b ≡ true)
both_true true b h = (refl, h)
both_true false b h = absurd (cc)

pub good_shown : (name : List ℕ) → is_good_name name ≡ true → IsShown name
good_shown name h = (both_true (nat_lt 0 (length name)) (list_all is_shown name) h).1

counted_case : (c l r : Bool) → (c && (l || r)) ≡ false → c ≡ true → l ≡ false
counted_case true l r h e = (or_false l r h).0
counted_case false l r h e = absurd (cc)

name_shown : (before : List Element) (x : Element) → name_fault before x ≡ None → is_some (counted_as x.role) ≡ true →
    IsShown (element_name x.entry)
name_shown before x h c =
    let lacks : lacks_name x.entry ≡ false =
    counted_case (is_some (counted_as x.role)) (lacks_name x.entry)
    (same_role x.role ConductingEquipment && not (is_some (type_of x.entry))) (not_nameless before x h) c in
    good_shown (element_name x.entry) (good_case (attribute_value x.entry (codes "name")) lacks)

-- ---- paths

join_shown : (outer name : List ℕ) → IsShown outer → IsShown name → IsShown (outer ++ 47 ∷ name)
join_shown outer name ho hn =
    list_all-append is_shown outer (47 ∷ name)
    ∙ (ap (λ (b : Bool). b && list_all is_shown (47 ∷ name)) ho ∙ hn)

path_case : (outer : List ℕ) (r : Role) (e : Entry) → IsShown outer →
    (is_some (counted_as r) ≡ true → IsShown (element_name e)) → IsShown (path_in outer r e)
path_case outer Root e h n = refl
path_case outer Substation e h n = n refl
path_case outer VoltageLevel e h n = join_shown outer (element_name e) h (n refl)
path_case outer Bay e h n = join_shown outer (element_name e) h (n refl)
path_case outer ConnectivityNode e h n = join_shown outer (element_name e) h (n refl)
path_case outer ConductingEquipment e h n = join_shown outer (element_name e) h (n refl)
path_case outer PowerTransformer e h n = join_shown outer (element_name e) h (n refl)
path_case outer TransformerWinding e h n = refl
path_case outer Terminal e h n = refl
path_case outer Skipped e h n = refl

no_path : (front : List ℕ) (before : List Element) (e : Entry) → e.parent ≡ None →
    (element_after front before e).path ≡ []
no_path front before e h = rw h refl

module _ (tree : List Entry) (o : IsInOrder tree) (good : first_fault name_fault [] (elements_of tree) ≡ None) where
  paths_shown : (n i : ℕ) → i < n → i < length tree → IsShown (element_at (elements_of tree) i).path
  paths_shown zero i l h = absurd (omega arith)
  paths_shown (suc n) i l h =
      by (λ p less inside. paths_shown n p less inside) (element_at (elements_of tree) i).entry.parent refl
    where
      by : ((p : ℕ) → p < n → p < length tree → IsShown (element_at (elements_of tree) p).path) → (q : Option ℕ) →
          (element_at (elements_of tree) i).entry.parent ≡ q → IsShown (element_at (elements_of tree) i).path
      by above None e =
          let up : (entry_at tree i).parent ≡ None = sym (ap (λ (y : Entry). y.parent) (drawn_entry tree i h)) ∙ e in
          let none : (element_at (elements_of tree) i).path ≡ [] =
          ap (λ (y : Element). y.path) (drawn_at tree i h)
          ∙ no_path (front_of_tree tree) (take i (elements_of tree)) (entry_at tree i) up in
          ap (list_all is_shown) none
      by above (Some p) e =
          let s : StandsIn (elements_of tree) i p (front_of_tree tree) = stands_in tree i p o h e in
          let x : Element = element_at (elements_of tree) i in
          let less : p < i = s.before in
          let outer : IsShown (element_at (elements_of tree) p).path = above p (omega arith) (omega arith) in
          let inside : i < length (elements_of tree) = omega (arith, drawn_len tree) in
          let name : is_some (counted_as x.role) ≡ true → IsShown (element_name x.entry) =
          name_shown (take i (elements_of tree)) x (none_at name_fault (elements_of tree) i good inside) in
          subst IsShown (sym s.path) (path_case (element_at (elements_of tree) p).path x.role x.entry outer name)

  pub path_shown : (i : ℕ) → i < length tree → IsShown (element_at (elements_of tree) i).path
  path_shown i h = paths_shown (suc i) i (omega arith) h

-- ---- words

word_case : (b : Bool) (word : List ℕ) → (b ≡ true → IsShown word) → IsShown (cond b word (codes "-"))
word_case true word h = h refl
word_case false word h = refl

pub shown_word_shown : (word : List ℕ) → IsShown (shown_word word)
shown_word_shown word = word_case (is_good_name word) word (good_shown word)

type_case : (b : Bool) (word : List ℕ) → IsShown word → IsShown (cond b (codes "PTR") word)
type_case true word h = refl
type_case false word h = h

type_shown : (x : Element) → IsShown (type_word x)
type_shown x =
    type_case (same_role x.role PowerTransformer) (shown_word (unwrap_or (attribute_value x.entry (codes "type")) []))
    (shown_word_shown (unwrap_or (attribute_value x.entry (codes "type")) []))

kind_shown : (kind : Kind) → IsShown (kind_word kind)
kind_shown Breaker = refl
kind_shown Disconnector = refl
kind_shown Earthing = refl
kind_shown Infeed = refl

link_shown : (bond : Bool) → IsShown (link_word bond)
link_shown true = refl
link_shown false = refl

-- ---- lines

abbrev AllPaths : List (List ℕ) → Type 0
AllPaths [] = Unit {0}
AllPaths (p ∷ ps) = IsShown p × AllPaths ps

node_shown : (nodes : List (List ℕ)) (n : ℕ) → AllPaths nodes → IsShown (node_in nodes n)
node_shown [] n h = refl
node_shown (p ∷ ps) zero h = h.0
node_shown (p ∷ ps) (suc n) h = node_shown ps n h.1

ends_shown : (nodes : List (List ℕ)) (first : List ℕ) (second : Option NodeId) → AllPaths nodes → IsShown first →
    AreShown (first ∷ second_in nodes second)
ends_shown nodes first None h f = f
ends_shown nodes first (Some n) h f = (f, node_shown nodes n.0 h)

-- a part or a node that the step adds has this path
abbrev Names : List ℕ → Step → Type 0
Names path (a_part own) = own ≡ path
Names path (a_node own) = own ≡ path
Names path (a_switch name x) = Unit {0}
Names path (a_link x) = Unit {0}
Names path (a_tap x) = Unit {0}

abbrev AllName : List ℕ → List Step → Type 0
AllName path [] = Unit {0}
AllName path (s ∷ ss) = Names path s × AllName path ss

row_shown : (nodes : List (List ℕ)) (word path : List ℕ) (s : Step) → AllPaths nodes → IsShown word → IsShown path →
    Names path s → AreShown (step_row nodes word path s)
row_shown nodes word path (a_part own) h w p n = (refl, subst IsShown (sym n) p)
row_shown nodes word path (a_node own) h w p n = (refl, subst IsShown (sym n) p)
row_shown nodes word path (a_switch name x) h w p n =
    (kind_shown x.kind, (p, ends_shown nodes (node_in nodes x.first.0) x.second h (node_shown nodes x.first.0 h)))
row_shown nodes word path (a_link x) h w p n =
    (link_shown x.bond, (w, (p, (node_shown nodes x.first.0 h, node_shown nodes x.second.0 h))))
row_shown nodes word path (a_tap x) h w p n = (refl, (w, (p, node_shown nodes x.node.0 h)))

rows_shown : (nodes : List (List ℕ)) (word path : List ℕ) (ss : List Step) → AllPaths nodes → IsShown word →
    IsShown path → AllName path ss → AllShown (step_rows nodes word path ss)
rows_shown nodes word path [] h w p n = tt
rows_shown nodes word path (s ∷ ss) h w p n =
    (row_shown nodes word path s h w p n.0, rows_shown nodes word path ss h w p n.1)

pub shown_both : (rs qs : List Row) → AllShown rs → AllShown qs → AllShown (rs ++ qs)
shown_both [] qs h g = g
shown_both (r ∷ rs) qs h g = (h.0, shown_both rs qs h.1 g)

pub aside_shown : (more : List Row) → AreAside more → AllShown more
aside_shown [] h = tt
aside_shown (row ∷ more) h = (one row h.0, aside_shown more h.1)
  where
    word_shown : (word : List ℕ) → (word ≡ codes "remark") ⊎ (word ≡ codes "count") → IsShown word
    word_shown word (inl e) = ap (list_all is_shown) e
    word_shown word (inr e) = ap (list_all is_shown) e

    one : (row : Row) → IsAside row → AreShown row
    one row aside =
        subst AreShown (sym aside.is) (word_shown aside.word aside.words, (aside.what_shown, aside.name_shown))

-- ---- all elements

name_case : (b c : Bool) (own : List ℕ) → AllName own (cond b (a_part own ∷ []) (cond c (a_node own ∷ []) []))
name_case true c own = (refl, tt)
name_case false true own = (refl, tt)
name_case false false own = tt

fit_names : (count part : ℕ) (path : List ℕ) (ss : List Step) → AllFit count part ss → AllName path ss
fit_names count part path [] h = tt
fit_names count part path (s ∷ ss) h = (one s h.0, fit_names count part path ss h.1)
  where
    one : (s : Step) → Fits count part s → Names path s
    one (a_part own) h = absurd h
    one (a_node own) h = absurd h
    one (a_switch name x) h = tt
    one (a_link x) h = tt
    one (a_tap x) h = tt

names_both : (path : List ℕ) (ss ts : List Step) → AllName path ss → AllName path ts → AllName path (ss ++ ts)
names_both path [] ts h g = g
names_both path (s ∷ ss) ts h g = (h.0, names_both path ss ts h.1 g)

filtered : (b : Bool) (x : Element) (ps : List Element) → IsShown x.path → AllPaths (map path_of ps) →
    AllPaths (map path_of (cond b (x ∷ ps) ps))
filtered true x ps h g = (h, g)
filtered false x ps h g = g

node_paths_shown : (xs : List Element) → ((k : ℕ) → k < length xs → IsShown (element_at xs k).path) →
    AllPaths (map path_of (filter is_node xs))
node_paths_shown [] h = tt
node_paths_shown (x ∷ xs) h =
    filtered (is_node x) x (filter is_node xs) (h 0 (omega arith))
    (node_paths_shown xs (λ k l. h (suc k) (omega arith)))

each_shown : (f : ℕ → List Row) (n a : ℕ) → ((k : ℕ) → k < a + n → AllShown (f k)) →
    AllShown (flat_map f (range_with_len a n))
each_shown f zero a h = tt
each_shown f (suc n) a h =
    shown_both (f a) (flat_map f (range_with_len (a + 1) n)) (h a (omega arith))
    (each_shown f n (a + 1) (λ k l. h k (omega arith)))

pub tree_shown : (tree : List Entry) → IsInOrder tree → first_fault name_fault [] (elements_of tree) ≡ None →
    AllShown (rows_of (elements_of tree))
tree_shown tree o good =
    let all : List Element = elements_of tree in
    let paths : (k : ℕ) → k < length all → IsShown (element_at all k).path = λ k l.
    path_shown tree o good k (omega (arith, drawn_len tree)) in
    each_shown (rows_at all) (length all) 0 (λ i l.
    let x : Element = element_at all i in
    rows_shown (nodes_of all) (type_word x) x.path (naming_step x ++ item_steps_at all i) (node_paths_shown all paths)
    (type_shown x) (paths i (omega arith))
    (names_both x.path (naming_step x) (item_steps_at all i) (name_case (is_part x) (is_node x) x.path)
    (fit_names (length (keys_of all)) (part_of all i x) x.path (item_steps_at all i) (items_fit all i))))

-- ---- a drawing

pub drawing_shown : (text : List ℕ) (all : List Element) (d : Diagram) → IsDrawing text all → station_of all ≡ Ok d →
    AllShown (rows_of all)
drawing_shown text all d drawing stands =
    let tree : List Entry = drawing.tree in
    let order : IsInOrder tree = read_order text tree drawing.spells in
    let same : all ≡ elements_of tree = drawing.reads.elements in
    let good : first_fault name_fault [] all ≡ None = names_are_good all d stands in
    subst (λ (xs : List Element). AllShown (rows_of xs)) (sym same)
    (tree_shown tree order (subst (λ (xs : List Element). first_fault name_fault [] xs ≡ None) same good))

pub one_text : (first second : List ℕ) (all other : List Element) (d e : Diagram) (more rest : List Row) →
    IsDrawing first all → station_of all ≡ Ok d → AreAside more → IsDrawing second other → station_of other ≡ Ok e →
    AreAside rest → text_of (rows_of all ++ more) ≡ text_of (rows_of other ++ rest) → d ≡ e
one_text first second all other d e more rest hd sd ad he se ae t =
    let rows : rows_of all ++ more ≡ rows_of other ++ rest =
    cut_rows (rows_of all ++ more) (rows_of other ++ rest)
    (shown_both (rows_of all) more (drawing_shown first all d hd sd) (aside_shown more ad))
    (shown_both (rows_of other) rest (drawing_shown second other e he se) (aside_shown rest ae)) t in
    sym (said_is_read first all d more hd sd ad)
    ∙ (ap station_said rows ∙ said_is_read second other e rest he se ae)
