-- What all lines say, gathered in document order.
use Rattle.std.proofs.Common.{◌≡◌, ℕ, ◌≤◌, ◌<◌, ◌+◌, ◌-◌, List, [], ◌∷◌, ◌++◌, length, map, Option, Some, None, Bool, true}
use Rattle.std.proofs.Common.{false, cond, refl, arith, zero, suc, ap, ◌∙◌, sym, subst, append_assoc}
use Rattle.std.specs.List.{filter, filter_map, flat_map, cons_option, range_with_len}
use Rattle.std.proofs.lemmas.List.{map-append}
use Rattle.std.proofs.lemmas.List.Elements.{filter_map-append}
use Rattle.ssd_text.specs.Nesting.{Entry, IsInOrder}
use Rattle.ssd_read.specs.declared.role.Role.{Role}
use Rattle.ssd_read.specs.declared.role.Role.TheVariants.{Root, Substation, VoltageLevel, Bay, ConnectivityNode}
use Rattle.ssd_read.specs.declared.role.Role.TheVariants.{ConductingEquipment, PowerTransformer, TransformerWinding}
use Rattle.ssd_read.specs.declared.role.Role.TheVariants.{Terminal, Skipped}
use Rattle.ssd_read.proofs.NewPaths.{is_equipment}
use Rattle.ssd_read.specs.Elements.{Element, element_at, elements_of, same_role}
use Rattle.ssd_read.specs.Names.{keys_of, is_node}
use Rattle.ssd_read.specs.Ends.{ends_of, nodes_at, use_of}
use Rattle.ssd_read.specs.Steps.{Step, a_part, a_node, naming_step, item_steps_at, is_part, part_number, part_of}
use Rattle.ssd_read.specs.Steps.{use_steps, transformer_steps, winding_ends_of}
use Rattle.ssd_read.specs.Laws.{path_of}
use Rattle.ssd_read.proofs.Drawn.{drawn_len}
use Rattle.station_lines.specs.Rows.{Row}
use Rattle.station_lines.specs.Lines.{step_row, step_rows, nodes_of, type_word, rows_at}
use Rattle.station_lines.specs.ReadBack.{said_part, said_all, parts_after}
use Rattle.station_lines.proofs.FitLemmas.{Fits, AllFit, items_fit}
use Rattle.station_lines.proofs.SaidLemmas.{no_part}
use Rattle.station_lines.proofs.PartLemmas.{one_if, next_number, equipment_last, transformer_last}

cons_apart : {X : Type 0} (o : Option X) (xs ys : List X) → cons_option o (xs ++ ys) ≡ cons_option o xs ++ ys
cons_apart None xs ys = refl
cons_apart (Some x) xs ys = refl

-- ---- what an element gives is of the last part

is_transformer : (r : Role) → same_role r PowerTransformer ≡ true → r ≡ PowerTransformer
is_transformer r h = by r h
  where
    by : (r : Role) → same_role r PowerTransformer ≡ true → r ≡ PowerTransformer
    by Root h = absurd (cc)
    by Substation h = absurd (cc)
    by VoltageLevel h = absurd (cc)
    by Bay h = absurd (cc)
    by ConnectivityNode h = absurd (cc)
    by ConductingEquipment h = absurd (cc)
    by PowerTransformer h = refl
    by TransformerWinding h = absurd (cc)
    by Terminal h = absurd (cc)
    by Skipped h = absurd (cc)

fit_case : (count part : ℕ) (b c : Bool) (ss ts : List Step) → (own : ℕ) → (b ≡ true → part ≡ own) → (c ≡ true → part ≡ own) →
    AllFit count own (cond b ss (cond c ts [])) → AllFit count part (cond b ss (cond c ts []))
fit_case count part true c ss ts own equal same h = subst (λ n. AllFit count n ss) (sym (equal refl)) h
fit_case count part false true ss ts own equal same h = subst (λ n. AllFit count n ts) (sym (same refl)) h
fit_case count part false false ss ts own equal same h = tt

pub last_fit : (tree : List Entry) (i : ℕ) → IsInOrder tree → i < length tree →
    AllFit (length (keys_of (elements_of tree))) (part_number (elements_of tree) (i + 1) - 1)
    (item_steps_at (elements_of tree) i)
last_fit tree i o h =
    let all : List Element = elements_of tree in
    let x : Element = element_at all i in
    fit_case (length (keys_of all)) (part_number all (i + 1) - 1) (same_role x.role ConductingEquipment)
    (same_role x.role PowerTransformer)
    (use_steps (use_of x.entry) x.entry (part_of all i x) (nodes_at (ends_of all i)))
    (transformer_steps (part_of all i x) (nodes_at (winding_ends_of all i))) (part_of all i x)
    (λ t. equipment_last tree o i h (is_equipment x.role t)) (λ t. transformer_last tree o i h (is_transformer x.role t))
    (items_fit all i)

-- ---- what is said of each step, part by part

module _ {X : Type 0} (say : ℕ → Row → Option X) (pick : Step → Option X) (nodes : List (List ℕ)) (count : ℕ)
    (of_part : (part : ℕ) (own : List ℕ) → say part (step_row nodes [] [] (a_part own)) ≡ None)
    (of_node : (part : ℕ) (own : List ℕ) → say part (step_row nodes [] [] (a_node own)) ≡ None)
    (of_step : (part : ℕ) (word path : List ℕ) (s : Step) → Fits count part s →
    say part (step_row nodes word path s) ≡ pick s) where
  items_said : (before part : ℕ) (word path : List ℕ) (ss : List Step) (rest : List Row) → before - 1 ≡ part →
      AllFit count part ss → said_all say before (step_rows nodes word path ss ++ rest)
      ≡ filter_map pick ss ++ said_all say before rest
  items_said before part word path [] rest e h = refl
  items_said before part word path (s ∷ ss) rest e h =
      let row : Row = step_row nodes word path s in
      let tail : List Row = step_rows nodes word path ss ++ rest in
      let none : said_part row ≡ None = no_part count part nodes word path s h.0 in
      let head : say (before - 1) row ≡ pick s = ap (λ (n : ℕ). say n row) e ∙ of_step part word path s h.0 in
      ap (λ (o : Option (List ℕ)). cons_option (say (parts_after before o - 1) row)
      (said_all say (parts_after before o) tail)) none
      ∙ (ap (λ (o : Option X). cons_option o (said_all say before tail)) head
      ∙ (ap (cons_option (pick s)) (items_said before part word path ss rest e h.1)
      ∙ cons_apart (pick s) (filter_map pick ss) (said_all say before rest)))

  naming_case : (before : ℕ) (word path own : List ℕ) (b c : Bool) (rest : List Row) →
      said_all say before (step_rows nodes word path (cond b (a_part own ∷ []) (cond c (a_node own ∷ []) [])) ++ rest)
      ≡ said_all say (before + one_if b) rest
  naming_case before word path own true c rest =
      ap (λ (o : Option X). cons_option o (said_all say (before + 1) rest)) (of_part (before + 1 - 1) own)
  naming_case before word path own false true rest =
      let e : before + 0 ≡ before = omega arith in
      ap (λ (o : Option X). cons_option o (said_all say before rest)) (of_node (before - 1) own)
      ∙ ap (λ (n : ℕ). said_all say n rest) (sym e)
  naming_case before word path own false false rest =
      let e : before + 0 ≡ before = omega arith in
      ap (λ (n : ℕ). said_all say n rest) (sym e)

  module _ (tree : List Entry) (o : IsInOrder tree) (same : nodes_of (elements_of tree) ≡ nodes)
      (counts : length (keys_of (elements_of tree)) ≡ count) where
    at_nodes : (i : ℕ) → rows_at (elements_of tree) i ≡ step_rows nodes (type_word (element_at (elements_of tree) i))
        (element_at (elements_of tree) i).path
        (naming_step (element_at (elements_of tree) i) ++ item_steps_at (elements_of tree) i)
    at_nodes i = ap (λ (ns : List (List ℕ)). step_rows ns (type_word (element_at (elements_of tree) i))
        (element_at (elements_of tree) i).path
        (naming_step (element_at (elements_of tree) i) ++ item_steps_at (elements_of tree) i)) same

    element_said : (i : ℕ) (rest : List Row) → i < length tree →
        said_all say (part_number (elements_of tree) i) (rows_at (elements_of tree) i ++ rest)
        ≡ filter_map pick (item_steps_at (elements_of tree) i)
        ++ said_all say (part_number (elements_of tree) (i + 1)) rest
    element_said i rest h =
        let all : List Element = elements_of tree in
        let x : Element = element_at all i in
        let word : List ℕ = type_word x in
        let path : List ℕ = x.path in
        let first : List Row = step_rows nodes word path (naming_step x) in
        let then : List Row = step_rows nodes word path (item_steps_at all i) in
        let inside : i < length all = omega (arith, drawn_len tree) in
        let rows : rows_at all i ++ rest ≡ first ++ (then ++ rest) =
        ap (λ (l : List Row). l ++ rest)
        (at_nodes i ∙ map-append (step_row nodes word path) (naming_step x) (item_steps_at all i))
        ∙ append_assoc first then rest in
        let fit : AllFit count (part_number all (i + 1) - 1) (item_steps_at all i) =
        subst (λ (n : ℕ). AllFit n (part_number all (i + 1) - 1) (item_steps_at all i)) counts (last_fit tree i o h) in
        ap (said_all say (part_number all i)) rows
        ∙ (naming_case (part_number all i) word path x.path (is_part x) (is_node x) (then ++ rest)
        ∙ (ap (λ (n : ℕ). said_all say n (then ++ rest)) (sym (next_number all i inside))
        ∙ items_said (part_number all (i + 1)) (part_number all (i + 1) - 1) word path (item_steps_at all i) rest refl
        fit))

    pub all_said : (n a : ℕ) (more : List Row) → a + n ≡ length tree →
        said_all say (part_number (elements_of tree) a)
        (flat_map (rows_at (elements_of tree)) (range_with_len a n) ++ more)
        ≡ flat_map (λ i. filter_map pick (item_steps_at (elements_of tree) i)) (range_with_len a n)
        ++ said_all say (part_number (elements_of tree) (a + n)) more
    all_said zero a more e =
        let z : a ≡ a + 0 = omega arith in
        ap (λ (k : ℕ). said_all say (part_number (elements_of tree) k) more) z
    all_said (suc n) a more e =
        let all : List Element = elements_of tree in
        let rest : List Row = flat_map (rows_at all) (range_with_len (a + 1) n) in
        let here : List X = filter_map pick (item_steps_at all a) in
        let later : List X = flat_map (λ i. filter_map pick (item_steps_at all i)) (range_with_len (a + 1) n) in
        let next : a + 1 + n ≡ length tree = omega arith in
        let end : a + 1 + n ≡ a + suc n = omega arith in
        ap (said_all say (part_number all a)) (append_assoc (rows_at all a) rest more)
        ∙ (element_said a (rest ++ more) (omega arith)
        ∙ (ap (λ (l : List X). here ++ l) (all_said n (a + 1) more next)
        ∙ (ap (λ (k : ℕ). here ++ (later ++ said_all say (part_number all k) more)) end
        ∙ sym (append_assoc here later (said_all say (part_number all (a + suc n)) more)))))
