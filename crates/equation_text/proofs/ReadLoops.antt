-- Groups that are read entry by entry.
use Rattle.std.proofs.Common.{◌≡◌, ◌∙◌, ◌⊎◌, ℕ, ◌+◌, ◌<◌, ◌≤◌, suc, List, [], ◌∷◌, ◌++◌, length, map}
use Rattle.std.proofs.Common.{sym, ap, subst, inl, inr, arith, Some, append-nil, append_assoc}
use Rattle.std.specs.Prelude.{codes, slice_get}
use Rattle.std.specs.List.{flat_map, enumerate_from}
use Rattle.std.proofs.lemmas.Bool.{cases_lt}
use Rattle.std.proofs.lemmas.Grind.{flat_map-append, common_steps}
use Rattle.std.proofs.lemmas.List.{length_push, map-append}
use Rattle.std.proofs.lemmas.Option.{slice_get_within}
use Rattle.ilk_base.specs.declared.words.Direction.TheVariants.{ToOff, ToOn}
use Rattle.station_graph.specs.Diagram.{Diagram}
use Rattle.part_alphabets.specs.declared.fork.PartStep.{PartStep}
use Rattle.part_alphabets.specs.declared.fork.Target.{Target}
use Rattle.station_equations.specs.declared.goal.SwitchGoals.{SwitchGoals}
use Rattle.station_equations.specs.declared.goal.TheConstants.{NUMBERS}
use Rattle.station_equations.specs.EquationLines.{PartLines, NodeLine, part_node, switch_node}
use Rattle.station_equations.specs.EquationForm.{IsTarget, SwitchGoalsFit}
use Rattle.station_equations.specs.EquationText.{part_line, op_line, node_line, numbered, text_of}
use Rattle.equation_text.specs.Beginnings.{MayBeStep, MayBeNode, IsNodeLine}
use Rattle.equation_text.specs.Reading.{start_lines, step_lines, op_lines, node_lines, MayBeStarts, MayBeSteps}
use Rattle.equation_text.specs.Reading.{MayBeOps, MayBeNodes, NoneFrom, NoStep, AreAllSteps}
use Rattle.station_equations.proofs.TextLemmas.{text_of-append, enumerate_from-push}
use Rattle.station_equations.proofs.GrowingLemmas.{get_old, get_last, get_push}
use Rattle.equation_text.proofs.GroupLemmas.{text_one, once, next}
use Rattle.equation_text.proofs.OnceLemmas.{IsWritable}
use Rattle.equation_text.proofs.ReadLemmas.{start_of, StartFits, start_one, ops_of, OpFits, op_one, text_two}
use Rattle.equation_text.proofs.ReadLemmas.{node_of, NodeFits, node_one}

-- the lines of one entry more
pub grown_group : {X : Type 0} (lines : ℕ → X → List (List ℕ)) (xs more : List X) (x : X) (n : ℕ)
    (old left rest : List ℕ) → more ≡ xs ++ x ∷ [] → length xs ≡ n → old ≡ text_of (numbered lines xs) ++ left
    → left ≡ text_of (lines n x) ++ rest → old ≡ text_of (numbered lines more) ++ rest
grown_group {X} lines xs more x n old left rest same count is next =
    let line = λ (p : ℕ × X). lines p.0 p.1 in
    let all : numbered lines more ≡ numbered lines xs ++ lines n x =
    ap (numbered lines) same
    ∙ ap (flat_map line) (enumerate_from-push 0 n xs x (omega (arith, count)))
    ∙ flat_map-append line (enumerate_from 0 xs) ((n, x) ∷ [])
    ∙ ap (λ last. numbered lines xs ++ last) (append-nil (lines n x)) in
    is
    ∙ ap (λ (z : List ℕ). text_of (numbered lines xs) ++ z) next
    ∙ sym (append_assoc (text_of (numbered lines xs)) (text_of (lines n x)) rest)
    ∙ ap (λ (z : List ℕ). z ++ rest) (sym (text_of-append (numbered lines xs) (lines n x)) ∙ ap text_of (sym all))

-- ---- parts

pub starts_fit : (n : ℕ) (ts : List Target) → n ≤ NUMBERS → MayBeStarts n ts → (i : ℕ) (t : Target)
    → slice_get ts i ≡ Some t → StartFits (0 + i) t
starts_fit n ts few may i t at = record {
  number = omega (arith, slice_get_within ts i t at, may.count, few);
  target = may.each i t at;
}

pub starts_push : (n next : ℕ) (ts more : List Target) (t : Target) → next ≡ n + 1 → more ≡ ts ++ t ∷ []
    → IsTarget NUMBERS t → MayBeStarts n ts → MayBeStarts next more
starts_push n next ts more t one same is may = record {
  count = ap length same ∙ length_push ts t ∙ ap (λ k. k + 1) may.count ∙ sym one;
  each = λ p u at. elim (get_push ts t u p (ap (λ (zs : List Target). slice_get zs p) (sym same) ∙ at)) [
    | inl old ↦ may.each p u old
    | inr last ↦ subst (λ (z : Target). IsTarget NUMBERS z) last.1 is
  ];
}

abbrev pub part_of : Target → PartLines
part_of t = record { start = t; steps = [] }

-- the next part's line
pub record NextStart (n : ℕ) (left : List ℕ) : Type 0 where
  pub start : Target
  pub target : IsTarget NUMBERS start
  pub rest : List ℕ
  pub is : left ≡ part_line n (part_of start) ++ 10 ∷ rest

pub next_start : (all n : ℕ) (ts us : List Target) (old left rest : List ℕ) → all ≤ NUMBERS → n < all
    → MayBeStarts n ts → MayBeStarts all us → old ≡ text_of (start_lines ts) ++ left
    → old ≡ text_of (start_lines us) ++ rest → NextStart n left
next_start all n ts us old left rest few less may whole is same =
    let f = next start_of StartFits start_one 0 ts us left rest (starts_fit n ts (omega (arith, few, less)) may)
    (starts_fit all us few whole) (omega (arith, less, may.count, whole.count)) (sym is ∙ same) in
    let number : 0 + length ts ≡ n = omega (arith, may.count) in
    record {
      start = f.entry;
      target = f.fits.target;
      rest = f.rest;
      is = f.is ∙ text_one (part_line (0 + length ts) (part_of f.entry)) f.rest ∙ ap (λ k. part_line k
          (part_of f.entry) ++ 10 ∷ f.rest) number;
    }

-- ---- operations

pub ops_fit : (n : ℕ) (ops : List SwitchGoals) → n ≤ NUMBERS → MayBeOps n ops → (i : ℕ) (x : SwitchGoals)
    → slice_get ops i ≡ Some x → OpFits (0 + i) x
ops_fit n ops few may i x at = record {
  number = omega (arith, slice_get_within ops i x at, may.count, few);
  fit = may.fit i x at;
}

pub ops_push : (n next : ℕ) (ops more : List SwitchGoals) (x : SwitchGoals) → next ≡ n + 1 → more ≡ ops ++ x ∷ []
    → SwitchGoalsFit NUMBERS x → MayBeOps n ops → MayBeOps next more
ops_push n next ops more x one same is may = record {
  count = ap length same ∙ length_push ops x ∙ ap (λ k. k + 1) may.count ∙ sym one;
  fit = λ p u at. elim (get_push ops x u p (ap (λ (zs : List SwitchGoals). slice_get zs p) (sym same) ∙ at)) [
    | inl old ↦ may.fit p u old
    | inr last ↦ subst (λ (z : SwitchGoals). SwitchGoalsFit NUMBERS z) last.1 is
  ];
}

pub record NextOps (n : ℕ) (left : List ℕ) : Type 0 where
  pub goals : SwitchGoals
  pub fit : SwitchGoalsFit NUMBERS goals
  pub rest : List ℕ
  pub is : left ≡ op_line ToOff n goals ++ 10 ∷ (op_line ToOn n goals ++ 10 ∷ rest)

pub next_ops : (all n : ℕ) (ops more : List SwitchGoals) (old left rest : List ℕ) → all ≤ NUMBERS → n < all
    → MayBeOps n ops → MayBeOps all more → old ≡ text_of (op_lines ops) ++ left → old ≡ text_of
    (op_lines more) ++ rest → NextOps n left
next_ops all n ops more old left rest few less may whole is same =
    let f = next ops_of OpFits op_one 0 ops more left rest (ops_fit n ops (omega (arith, few, less)) may)
    (ops_fit all more few whole) (omega (arith, less, may.count, whole.count)) (sym is ∙ same) in
    let number : 0 + length ops ≡ n = omega (arith, may.count) in
    record {
      goals = f.entry;
      fit = f.fits.fit;
      rest = f.rest;
      is = f.is ∙ text_two (op_line ToOff (0 + length ops) f.entry) (op_line ToOn (0 + length ops) f.entry) f.rest
          ∙ ap (λ k. op_line ToOff k f.entry ++ 10 ∷ (op_line ToOn k f.entry ++ 10 ∷ f.rest)) number;
    }

pub ops_next : (ops more : List SwitchGoals) (x : SwitchGoals) (n : ℕ) (old left rest : List ℕ) → more ≡ ops ++ x ∷ []
    → length ops ≡ n → old ≡ text_of (op_lines ops) ++ left → left ≡ op_line ToOff n x ++ 10 ∷
    (op_line ToOn n x ++ 10 ∷ rest) → old ≡ text_of (op_lines more) ++ rest
ops_next ops more x n old left rest same count is next = grown_group ops_of ops more x n old left rest same count is
    (next ∙ sym (text_two (op_line ToOff n x) (op_line ToOn n x) rest))

-- ---- lines of one entry each

pub line_next : {X : Type 0} (line : ℕ → X → List ℕ) (xs more : List X) (x : X) (n : ℕ) (old left rest : List ℕ)
    → more ≡ xs ++ x ∷ [] → length xs ≡ n → old ≡ text_of (numbered (λ k y. line k y ∷ []) xs) ++ left
    → left ≡ line n x ++ 10 ∷ rest → old ≡ text_of (numbered (λ k y. line k y ∷ []) more) ++ rest
line_next {X} line xs more x n old left rest same count is next = grown_group (λ k
    (y : X). line k y ∷ []) xs more x n old left rest same count is (next ∙ sym (text_one (line n x) rest))

pub shorter : (old line left : List ℕ) → old ≡ line ++ 10 ∷ left → length left < length old
shorter old line left is = grind (arith, common_steps, ap length is)

-- ---- nodes

pub writable : (switches n : ℕ) (counts : List ℕ) (x : NodeLine) → switches ≤ 65536 → length counts ≤ 256
    → MayBeNode switches counts n x → IsWritable n x
writable switches n counts (part_node part goals) few short may = (
  omega (
    arith,
    slice_get_within counts part
        (length goals) may.0,
    short,
  ),
  may.1,
)
writable switches n counts (switch_node switch off on) few short may = (omega (arith, may.0, few), may.1, may.2)

-- a node that may be, and can be written
pub record NodeIs (switches : ℕ) (counts : List ℕ) (n : ℕ) (x : NodeLine) : Type 0 where
  pub may : MayBeNode switches counts n x
  pub fits : NodeFits n x

pub nodes_one : (switches : ℕ) (counts : List ℕ) (n : ℕ) (x y : NodeLine) (r s : List ℕ) → NodeIs switches counts n x
    → NodeIs switches counts n y → text_of (node_of n x) ++ r ≡ text_of (node_of n y) ++ s → (x ≡ y) × (r ≡ s)
nodes_one switches counts n x y r s fx fy same = node_one n x y r s fx.fits fy.fits same

pub nodes_fit : (switches : ℕ) (counts : List ℕ) (nodes : List NodeLine) → switches ≤ 65536 → length counts ≤ 256
    → length nodes ≤ NUMBERS → ((n : ℕ) (x : NodeLine) → slice_get nodes n ≡ Some x → MayBeNode switches counts n x)
    → (i : ℕ) (x : NodeLine) → slice_get nodes i ≡ Some x → NodeIs switches counts (0 + i) x
nodes_fit switches counts nodes few short small may i x at =
    let number : i ≡ 0 + i = omega arith in
    subst (λ k. NodeIs switches counts k x) number (record {
      may = may i x at;
      fits = record {
        number = omega
            (arith, slice_get_within nodes i x at, small);
        writable = writable switches i counts x few short
            (may i x at);
      };
    })

-- what comes after so many nodes, where the text has these
pub record NextNode (switches : ℕ) (counts : List ℕ) (n : ℕ) (left : List ℕ) : Type 0 where
  pub node : NodeLine
  pub number : n < NUMBERS
  pub may : MayBeNode switches counts n node
  pub rest : List ℕ
  pub is : left ≡ node_line n node ++ 10 ∷ rest

abbrev first_byte : List ℕ → ℕ
first_byte [] = 0
first_byte (b ∷ bs) = b

pub after_nodes : (switches : ℕ) (counts : List ℕ) (nodes more : List NodeLine) (old left rest : List ℕ)
    → switches ≤ 65536 → length counts ≤ 256 → length nodes ≤ NUMBERS → ((n : ℕ) (x : NodeLine)
    → slice_get nodes n ≡ Some x → MayBeNode switches counts n x) → MayBeNodes switches counts more
    → old ≡ text_of (node_lines nodes) ++ left → old ≡ text_of (node_lines more) ++ (codes "end\n" ++ rest)
    → NextNode switches counts (length nodes) left ⊎ (left ≡ codes "end\n" ++ rest)
after_nodes switches counts nodes more old left rest few short small may whole is same =
    elim (cases_lt (length nodes) (length more)) [
      | inl less ↦ inl (following less)
      | inr past ↦ elim (cases_lt (length more) (length nodes)) [
        | inl less ↦ absurd (no_node less)
        | inr equal ↦ inr (once node_of (NodeIs switches counts) (nodes_one switches counts) 0 nodes more left
            (codes "end\n" ++ rest) fit_nodes fit_more (omega (arith, past, equal)) both).1
      ]
    ]
  where
    both : text_of (node_lines nodes) ++ left ≡ text_of (node_lines more) ++ (codes "end\n" ++ rest)
    both = sym is ∙ same

    fit_nodes : (i : ℕ) (x : NodeLine) → slice_get nodes i ≡ Some x → NodeIs switches counts (0 + i) x
    fit_nodes = nodes_fit switches counts nodes few short small may

    fit_more : (i : ℕ) (x : NodeLine) → slice_get more i ≡ Some x → NodeIs switches counts (0 + i) x
    fit_more = nodes_fit switches counts more few short whole.few whole.each

    following : length nodes < length more → NextNode switches counts (length nodes) left
    following less =
        let f = next node_of (NodeIs switches counts) (nodes_one switches counts) 0 nodes more left
        (codes "end\n" ++ rest) fit_nodes fit_more less both in
        let number : 0 + length nodes ≡ length nodes = omega arith in
        record {
          node = f.entry;
          number = omega (arith, less, whole.few);
          may = subst (λ k. MayBeNode switches counts k f.entry) number f.fits.may;
          rest = f.rest;
          is = f.is ∙ text_one (node_line (0 + length nodes) f.entry) f.rest ∙ ap
              (λ k. node_line k f.entry ++ 10 ∷ f.rest) number;
        }

    no_node : length more < length nodes → ⊥
    no_node less =
        let f = next node_of (NodeIs switches counts) (nodes_one switches counts) 0 more nodes
        (codes "end\n" ++ rest) left fit_more fit_nodes less (sym both) in
        let e : 101 ≡ 110 = ap first_byte (f.is ∙ text_one (node_line (0 + length more) f.entry) f.rest) in
        omega (arith, e)

pub steps_push : (d : Diagram) (part n : ℕ) (steps more : List PartStep) (s : PartStep) → more ≡ steps ++ s ∷ []
    → length steps ≡ n → ((m : ℕ) (t : PartStep) → slice_get steps m ≡ Some t → MayBeStep d part m t)
    → MayBeStep d part n s → (m : ℕ) (t : PartStep) → slice_get more m ≡ Some t → MayBeStep d part m t
steps_push d part n steps more s same count each may m t at = elim (get_push steps s t m (ap (λ
    (zs : List PartStep). slice_get zs m) (sym same) ∙ at)) [
      | inl old ↦ each m t old
      | inr last ↦ subst (λ (z : PartStep). MayBeStep d part m z) last.1 (subst (λ k. MayBeStep d part k s) (sym (last.0
          ∙ count)) may)
    ]

pub nodes_push : (switches : ℕ) (counts : List ℕ) (n : ℕ) (nodes more : List NodeLine) (x : NodeLine)
    → more ≡ nodes ++ x ∷ [] → length nodes ≡ n → ((m : ℕ) (y : NodeLine) → slice_get nodes m ≡ Some y
    → MayBeNode switches counts m y) → MayBeNode switches counts n x → (m : ℕ) (y : NodeLine)
    → slice_get more m ≡ Some y → MayBeNode switches counts m y
nodes_push switches counts n nodes more x same count each may m y at = elim (get_push nodes x y m (ap (λ
    (zs : List NodeLine). slice_get zs m) (sym same) ∙ at)) [
      | inl old ↦ each m y old
      | inr last ↦ subst (λ (z : NodeLine). MayBeNode switches counts m z) last.1 (subst
          (λ k. MayBeNode switches counts k x) (sym (last.0 ∙ count)) may)
    ]

pub node_unread : (switches : ℕ) (counts : List ℕ) (n number : ℕ) (line : List ℕ) (x : NodeLine)
    → MayBeNode switches counts n x → line ≡ node_line n x → n ≡ number → ((y : NodeLine)
    → IsNodeLine switches counts number line y → ⊥) → ⊥
node_unread switches counts n number line x may is same none = none x (subst
    (λ k. IsNodeLine switches counts k line x) same (record { may = may; is = is }))

-- ---- the steps of one part more

none_yet : (parts more : List PartLines) (x : PartLines) (q : ℕ) → more ≡ parts ++ x ∷ [] → q < length parts
    → NoneFrom (suc q) more → NoneFrom (suc q) parts × (x.steps ≡ [])
none_yet parts more x q same less none = (
  λ r y le at. none r y le (ap (λ (zs : List PartLines). slice_get zs r) same ∙ get_old parts x y r at),
  none (length parts) x (omega (arith, less)) (ap (λ (zs : List PartLines). slice_get zs (length parts)) same
      ∙ get_last parts x),
)

pub all_steps_push : (d : Diagram) (starts before after : List Target) (n : ℕ) (old left new : List ℕ)
    (parts more : List PartLines) (x : PartLines) → length parts ≡ n → more ≡ parts ++ x ∷ []
    → after ≡ before ++ x.start ∷ []
    → MayBeSteps d n x.steps → left ≡ text_of (step_lines n x.steps) ++ new → NoStep d n (length x.steps) new
    → AreAllSteps d before old left parts → AreAllSteps d after old new more
all_steps_push d starts before after n old left new parts more x count same next may is last are = record {
  starts_are = ap (map (λ (y : PartLines). y.start)) same ∙ map-append (λ (y : PartLines). y.start) parts (x ∷ [])
      ∙ ap (λ (ts : List Target). ts ++ x.start ∷ []) are.starts_are ∙ sym next;
  steps = λ p y at. elim (get_push parts x y p (ap (λ (zs : List PartLines). slice_get zs p) (sym same) ∙ at)) [
    | inl there ↦ are.steps p y there
    | inr here ↦ subst (λ (z : PartLines). MayBeSteps d p z.steps) here.1 (subst (λ k. MayBeSteps d k x.steps) (sym
        (here.0 ∙ count)) may)
  ];
  text = grown_group (λ p (y : PartLines). step_lines p y.steps) parts more x n old left new same count are.text is;
  last = λ p y at none. elim (get_push parts x y p (ap (λ (zs : List PartLines). slice_get zs p) (sym same) ∙ at)) [
    | inl there ↦
        let before = none_yet parts more x p same (slice_get_within parts p y there) none in
        let unchanged : left ≡ new = is ∙ ap (λ (ss : List PartStep). text_of (step_lines n ss) ++ new) before.1 in
        subst (λ (z : List ℕ). NoStep d p (length y.steps) z) unchanged (are.last p y there before.0)
    | inr here ↦ subst (λ (z : PartLines). NoStep d p (length z.steps) new) here.1 (subst (λ k. NoStep d k
        (length x.steps) new) (sym (here.0 ∙ count)) last)
  ];
}
