-- A line of a group is read in one way.
use Rattle.std.proofs.Common.{◌≡◌, ◌∙◌, ℕ, ◌<◌, ◌≤◌, ◌^◌, suc, List, [], ◌∷◌, ◌++◌, refl, sym}
use Rattle.std.proofs.Common.{ap, subst, arith, append_assoc}
use Rattle.std.specs.Prelude.{codes, decimal}
use Rattle.std.proofs.lemmas.Fmt.{decimal_injective}
use Rattle.std.proofs.lemmas.List.{append_cancel_left}
use Rattle.ilk_base.specs.declared.words.Direction.{Direction}
use Rattle.ilk_base.specs.declared.words.Direction.TheVariants.{ToOff, ToOn}
use Rattle.central_rules.specs.Names.{direction_name}
use Rattle.part_alphabets.specs.declared.fork.PartStep.{PartStep}
use Rattle.part_alphabets.specs.declared.fork.Target.{Target}
use Rattle.station_equations.specs.declared.goal.Goal.{Goal}
use Rattle.station_equations.specs.declared.goal.SwitchGoals.{SwitchGoals}
use Rattle.station_equations.specs.declared.goal.TheConstants.{NUMBERS}
use Rattle.station_equations.specs.EquationLines.{PartLines, NodeLine, part_node, switch_node, goal_towards}
use Rattle.station_equations.specs.EquationForm.{IsTarget, IsLaterTarget, IsGoal, IsLaterGoal, AreLaterGoals}
use Rattle.station_equations.specs.EquationText.{then_number, then_word, target_text, goal_text, part_line, step_line}
use Rattle.station_equations.specs.EquationText.{op_line, node_line}
use Rattle.equation_text.specs.Words.{Lacks, EndsWord, numbered_head}
use Rattle.equation_text.specs.Beginnings.{test_text, goals_text}
use Rattle.equation_text.proofs.WordLemmas.{lacks_all, lacks_by, lacks_decimal, lacks_target, lacks_goal, cut_once}
use Rattle.equation_text.proofs.WordLemmas.{word_once, target_once, goal_once}
use Rattle.equation_text.proofs.SaidLemmas.{part_said, step_parts, step_said, op_parts, op_said, part_node_parts}
use Rattle.equation_text.proofs.SaidLemmas.{part_node_said, choice_text, switch_node_parts, switch_node_said}

pub any_target : (m : ℕ) (t : Target) → IsLaterTarget NUMBERS m t → IsTarget NUMBERS t
any_target m (Target.Step n) later = later.1
any_target m (Target.Index i) later = later

pub any_goal : (n : ℕ) (g : Goal) → IsLaterGoal NUMBERS n g → IsGoal NUMBERS g
any_goal n (Goal.Node k) later = later.1
any_goal n (Goal.Answer a) later = tt

-- a number and what follows it
lacks_more : (b n : ℕ) (rest : List ℕ) → b < 48 → (b ≡ 32 → ⊥) → n < 2 ^ 64 → Lacks b rest
    → Lacks b (decimal n ++ (codes " " ++ rest))
lacks_more b n rest mark blank small lacks = lacks_all b (decimal n) (codes " " ++ rest)
    (lacks_decimal b n mark small) ((λ e. blank (sym e)), lacks)

no_feed : (n : ℕ) → n ≡ 10 → n ≡ 32 → ⊥
no_feed n e f = omega (arith, e, f)

feed : (rest : List ℕ) (n : ℕ) → n < 2 ^ 64 → Lacks 10 rest → Lacks 10 (decimal n ++ (codes " " ++ rest))
feed rest n small lacks = lacks_more 10 n rest (omega arith) (no_feed 10 refl) small lacks

blank_then : (rest : List ℕ) → Lacks 10 rest → Lacks 10 (codes " " ++ rest)
blank_then rest lacks = lacks_all 10 (codes " ") rest (lacks_by 10 (codes " ") refl) lacks

-- ---- parts

pub part_lacks : (p : ℕ) (x : PartLines) → p < NUMBERS → IsTarget NUMBERS x.start → Lacks 10 (part_line p x)
part_lacks p x small fits =
    subst (λ (z : List ℕ). Lacks 10 z) (sym (append_assoc (codes "part") (then_number p) (then_word
    (target_text x.start))))
    (lacks_all 10 (codes "part ") (decimal p ++ (codes " " ++ target_text x.start)) (lacks_by 10 (codes "part ") refl)
    (feed (target_text x.start) p (omega (arith, small)) (lacks_target 10 x.start (omega arith) fits)))

pub part_once : (p : ℕ) (x y : PartLines) → IsTarget NUMBERS x.start → IsTarget NUMBERS y.start
    → part_line p x ≡ part_line p y → x.start ≡ y.start
part_once p x y fits_x fits_y same =
    target_once x.start y.start fits_x fits_y (append_cancel_left (numbered_head (codes "part ") p)
    (target_text x.start) (target_text y.start) (sym (part_said p x) ∙ same ∙ part_said p y))

-- ---- steps

test_lacks : (s : PartStep) → s.switch.0 < NUMBERS → IsTarget NUMBERS s.off → IsTarget NUMBERS s.on
    → Lacks 10 (test_text s)
test_lacks s small off on =
    feed (target_text s.off ++ (codes " " ++ target_text s.on)) s.switch.0 (omega (arith, small))
    (lacks_all 10 (target_text s.off) (codes " " ++ target_text s.on) (lacks_target 10 s.off (omega arith) off)
    (blank_then (target_text s.on) (lacks_target 10 s.on (omega arith) on)))

pub step_lacks : (p m : ℕ) (s : PartStep) → p < NUMBERS → m ≤ NUMBERS → s.switch.0 < NUMBERS → IsTarget NUMBERS s.off
    → IsTarget NUMBERS s.on → Lacks 10 (step_line p m s)
step_lacks p m s small_p small_m small off on =
    subst (λ (z : List ℕ). Lacks 10 z) (sym (step_parts p m s))
    (lacks_all 10 (codes "step ") _ (lacks_by 10 (codes "step ") refl) (feed (decimal m ++
    (codes " " ++ test_text s)) p (omega (arith, small_p)) (feed (test_text s) m (omega (arith, small_m))
    (test_lacks s small off on))))

same_step : (s t : PartStep) → s.switch.0 ≡ t.switch.0 → s.off ≡ t.off → s.on ≡ t.on → s ≡ t
same_step s t p q r = λ i. record { switch = record { 0 = p i }; off = q i; on = r i }

pub test_once : (s t : PartStep) → s.switch.0 < NUMBERS → t.switch.0 < NUMBERS → IsTarget NUMBERS s.off
    → IsTarget NUMBERS t.off → IsTarget NUMBERS s.on → IsTarget NUMBERS t.on → test_text s ≡ test_text t → s ≡ t
test_once s t small_s small_t off_s off_t on_s on_t same =
    let first = cut_once 32 (decimal s.switch.0) (decimal t.switch.0) (target_text s.off ++
    (codes " " ++ target_text s.on)) (target_text t.off ++ (codes " " ++ target_text t.on))
    (lacks_decimal 32 s.switch.0 (omega arith) (omega (arith, small_s))) (lacks_decimal 32 t.switch.0
    (omega arith) (omega (arith, small_t))) same in
    let second = cut_once 32 (target_text s.off) (target_text t.off) (target_text s.on) (target_text t.on)
    (lacks_target 32 s.off (omega arith) off_s) (lacks_target 32 t.off (omega arith) off_t) first.1 in
    same_step s t (decimal_injective s.switch.0 t.switch.0 (omega (arith, small_s)) (omega (arith, small_t)) first.0)
    (target_once s.off t.off off_s off_t second.0) (target_once s.on t.on on_s on_t second.1)

pub step_once : (p m : ℕ) (s t : PartStep) → s.switch.0 < NUMBERS → t.switch.0 < NUMBERS → IsTarget NUMBERS s.off
    → IsTarget NUMBERS t.off → IsTarget NUMBERS s.on → IsTarget NUMBERS t.on → step_line p m s ≡ step_line p m t → s ≡ t
step_once p m s t small_s small_t off_s off_t on_s on_t same =
    test_once s t small_s small_t off_s off_t on_s on_t
    (append_cancel_left (numbered_head [] m) (test_text s) (test_text t) (append_cancel_left (numbered_head
    (codes "step ") p) (numbered_head [] m ++ test_text s) (numbered_head [] m ++ test_text t) (sym
    (step_said p m s) ∙ same ∙ step_said p m t)))

abbrev behind : ℕ → PartStep → List ℕ → List ℕ
behind m s r = (decimal m ++ (codes " " ++ test_text s)) ++ 10 ∷ r

-- a step of one part is none of another
pub step_part : (p q m k : ℕ) (s t : PartStep) (r u : List ℕ) → p < NUMBERS → q < NUMBERS
    → step_line p m s ++ 10 ∷ r ≡ step_line q k t ++ 10 ∷ u → p ≡ q
step_part p q m k s t r u small_p small_q same =
    let words = append_cancel_left (codes "step ") (decimal p ++ 32 ∷ behind m s r) (decimal q ++ 32 ∷ behind k t u)
    (sym (spread p m s r) ∙ same ∙ spread q k t u) in
    let first = cut_once 32 (decimal p) (decimal q) (behind m s r) (behind k t u) (lacks_decimal 32 p (omega arith)
    (omega (arith, small_p))) (lacks_decimal 32 q (omega arith) (omega (arith, small_q))) words in
    decimal_injective p q (omega (arith, small_p)) (omega (arith, small_q)) first.0
  where
    spread : (p m : ℕ) (s : PartStep) (r : List ℕ) → step_line p m s ++ 10 ∷ r ≡ codes "step " ++
        (decimal p ++ 32 ∷ behind m s r)
    spread p m s r =
        ap (λ (z : List ℕ). z ++ 10 ∷ r) (step_parts p m s)
        ∙ append_assoc (codes "step ") (decimal p ++ (codes " " ++ (decimal m ++ (codes " " ++ test_text s)))) (10 ∷ r)
        ∙ ap (λ (z : List ℕ). codes "step " ++ z) (append_assoc (decimal p) (codes " " ++ (decimal m ++
        (codes " " ++ test_text s))) (10 ∷ r))

-- ---- operations

direction_lacks : (way : Direction) → Lacks 10 (direction_name way)
direction_lacks ToOff = lacks_by 10 (codes "open") refl
direction_lacks ToOn = lacks_by 10 (codes "close") refl

pub op_lacks : (way : Direction) (s : ℕ) (x : SwitchGoals) → s < NUMBERS → IsGoal NUMBERS (goal_towards x way)
    → Lacks 10 (op_line way s x)
op_lacks way s x small fits =
    subst (λ (z : List ℕ). Lacks 10 z) (sym (op_parts way s x))
    (lacks_all 10 (codes "op ") _ (lacks_by 10 (codes "op ") refl)
    (feed (direction_name way ++ (codes " " ++ goal_text (goal_towards x way))) s (omega (arith, small))
    (lacks_all 10 (direction_name way) (codes " " ++ goal_text (goal_towards x way)) (direction_lacks way) (blank_then
    (goal_text (goal_towards x way)) (lacks_goal 10 (goal_towards x way) (omega arith) fits)))))

pub op_once : (way : Direction) (s : ℕ) (x y : SwitchGoals) → IsGoal NUMBERS (goal_towards x way)
    → IsGoal NUMBERS (goal_towards y way) → op_line way s x ≡ op_line way s y → goal_towards x way ≡ goal_towards y way
op_once way s x y fits_x fits_y same =
    goal_once (goal_towards x way) (goal_towards y way) fits_x fits_y
    (append_cancel_left (codes " ") (goal_text (goal_towards x way)) (goal_text (goal_towards y way))
    (append_cancel_left (direction_name way) (codes " " ++ goal_text (goal_towards x way)) (codes " " ++ goal_text
    (goal_towards y way))
    (append_cancel_left (numbered_head (codes "op ") s) (direction_name way ++ (codes " " ++ goal_text
    (goal_towards x way))) (direction_name way ++ (codes " " ++ goal_text (goal_towards y way))) (sym
    (op_said way s x) ∙ same ∙ op_said way s y))))

-- ---- nodes

pub goals_end : (goals : List Goal) → EndsWord (goals_text goals)
goals_end [] = tt
goals_end (g ∷ goals) = refl

goals_lacks : (goals : List Goal) (n : ℕ) → AreLaterGoals NUMBERS n goals → Lacks 10 (goals_text goals)
goals_lacks [] n fits = tt
goals_lacks (g ∷ goals) n fits = (
  (λ e. omega (arith, e)),
  lacks_all 10 (goal_text g) (goals_text goals)
      (lacks_goal 10 g (omega arith) (any_goal n g (fits 0 g refl)))
      (goals_lacks goals n (λ i h at. fits (suc i) h at)),
)

pub goals_once : (n : ℕ) (goals more : List Goal) → AreLaterGoals NUMBERS n goals → AreLaterGoals NUMBERS n more
    → goals_text goals ≡ goals_text more → goals ≡ more
goals_once n [] [] fits_g fits_h same = refl
goals_once n [] (h ∷ more) fits_g fits_h same = absurd (cc same)
goals_once n (g ∷ goals) [] fits_g fits_h same = absurd (cc same)
goals_once n (g ∷ goals) (h ∷ more) fits_g fits_h same =
    let g_in = any_goal n g (fits_g 0 g refl) in
    let h_in = any_goal n h (fits_h 0 h refl) in
    let words : goal_text g ++ goals_text goals ≡ goal_text h ++ goals_text more = cc same in
    let first = word_once (goal_text g) (goal_text h) (goals_text goals) (goals_text more) (lacks_goal 32 g
    (omega arith) g_in) (lacks_goal 32 h (omega arith) h_in) (goals_end goals) (goals_end more) words in
    ap (λ (z : Goal). z ∷ goals) (goal_once g h g_in h_in first.0) ∙ ap (λ (zs : List Goal). h ∷ zs)
    (goals_once n goals more (λ i x at. fits_g (suc i) x at) (λ i x at. fits_h (suc i) x at) first.1)

-- the words behind a node's number
pub choice_once : (n switch other : ℕ) (off on off' on' : Goal) → switch < NUMBERS → other < NUMBERS
    → IsLaterGoal NUMBERS n off → IsLaterGoal NUMBERS n on → IsLaterGoal NUMBERS n off' → IsLaterGoal NUMBERS n on'
    → choice_text switch off on ≡ choice_text other off' on' → (switch ≡ other) × (off ≡ off') × (on ≡ on')
choice_once n switch other off on off' on' small small' a b a' b' same =
    let first = cut_once 32 (decimal switch) (decimal other) (goal_text off ++ (codes " " ++ goal_text on))
    (goal_text off' ++ (codes " " ++ goal_text on')) (lacks_decimal 32 switch (omega arith) (omega
    (arith, small))) (lacks_decimal 32 other (omega arith) (omega (arith, small'))) same in
    let second = cut_once 32 (goal_text off) (goal_text off') (goal_text on) (goal_text on') (lacks_goal 32 off
    (omega arith) (any_goal n off a)) (lacks_goal 32 off' (omega arith) (any_goal n off' a')) first.1 in (
      decimal_injective switch other (omega (arith, small)) (omega (arith, small')) first.0,
      goal_once off off'
          (any_goal n off a) (any_goal n off' a') second.0,
      goal_once on on' (any_goal n on b)
          (any_goal n on' b') second.1,
    )

-- the node can be written
abbrev pub IsWritable : ℕ → NodeLine → Type 0
IsWritable n (part_node part goals) = (part < NUMBERS) × AreLaterGoals NUMBERS n goals
IsWritable n (switch_node switch off on) = (switch < NUMBERS) × IsLaterGoal NUMBERS n off × IsLaterGoal NUMBERS n on

pub node_lacks : (n : ℕ) (x : NodeLine) → n < NUMBERS → IsWritable n x → Lacks 10 (node_line n x)
node_lacks n (part_node part goals) small fits =
    subst (λ (z : List ℕ). Lacks 10 z) (sym (part_node_parts n part goals))
    (lacks_all 10 (codes "node ") _ (lacks_by 10 (codes "node ") refl)
    (feed (codes "part " ++ (decimal part ++ goals_text goals)) n (omega (arith, small))
    (lacks_all 10 (codes "part ") _ (lacks_by 10 (codes "part ") refl)
    (lacks_all 10 (decimal part) (goals_text goals) (lacks_decimal 10 part (omega arith) (omega (arith, fits.0)))
    (goals_lacks goals n fits.1)))))
node_lacks n (switch_node switch off on) small fits =
    subst (λ (z : List ℕ). Lacks 10 z) (sym (switch_node_parts n switch off on))
    (lacks_all 10 (codes "node ") _ (lacks_by 10 (codes "node ") refl)
    (feed (codes "switch " ++ choice_text switch off on) n (omega (arith, small))
    (lacks_all 10 (codes "switch ") _ (lacks_by 10 (codes "switch ") refl)
    (feed (goal_text off ++ (codes " " ++ goal_text on)) switch (omega (arith, fits.0))
    (lacks_all 10 (goal_text off) (codes " " ++ goal_text on) (lacks_goal 10 off (omega arith)
    (any_goal n off fits.1)) (blank_then (goal_text on) (lacks_goal 10 on (omega arith)
    (any_goal n on fits.2))))))))

abbrev first_byte : List ℕ → ℕ
first_byte [] = 0
first_byte (b ∷ bs) = b

pub node_once : (n : ℕ) (x y : NodeLine) → IsWritable n x → IsWritable n y → node_line n x ≡ node_line n y → x ≡ y
node_once n (part_node part goals) (part_node other more) fits_x fits_y same =
    let words = append_cancel_left (codes "part ") (decimal part ++ goals_text goals)
    (decimal other ++ goals_text more) (append_cancel_left (numbered_head (codes "node ") n) (codes "part " ++
    (decimal part ++ goals_text goals)) (codes "part " ++ (decimal other ++ goals_text more)) (sym
    (part_node_said n part goals) ∙ same ∙ part_node_said n other more)) in
    let first = word_once (decimal part) (decimal other) (goals_text goals) (goals_text more) (lacks_decimal 32 part
    (omega arith) (omega (arith, fits_x.0))) (lacks_decimal 32 other (omega arith) (omega (arith, fits_y.0)))
    (goals_end goals) (goals_end more) words in
    ap (λ k. part_node k goals) (decimal_injective part other (omega (arith, fits_x.0)) (omega
    (arith, fits_y.0)) first.0) ∙ ap (λ (gs : List Goal). part_node other gs)
    (goals_once n goals more fits_x.1 fits_y.1 first.1)
node_once n (part_node part goals) (switch_node switch off on) fits_x fits_y same =
    let e : 112 ≡ 115 = ap first_byte (append_cancel_left (numbered_head (codes "node ") n) (codes "part " ++
    (decimal part ++ goals_text goals)) (codes "switch " ++ choice_text switch off on) (sym
    (part_node_said n part goals) ∙ same ∙ switch_node_said n switch off on)) in
    absurd (omega (arith, e))
node_once n (switch_node switch off on) (part_node part goals) fits_x fits_y same =
    let e : 115 ≡ 112 = ap first_byte (append_cancel_left (numbered_head (codes "node ") n)
    (codes "switch " ++ choice_text switch off on) (codes "part " ++ (decimal part ++ goals_text goals)) (sym
    (switch_node_said n switch off on) ∙ same ∙ part_node_said n part goals)) in
    absurd (omega (arith, e))
node_once n (switch_node switch off on) (switch_node other off' on') fits_x fits_y same =
    let words = append_cancel_left (codes "switch ") (choice_text switch off on) (choice_text other off' on')
    (append_cancel_left (numbered_head (codes "node ") n) (codes "switch " ++ choice_text switch off on)
    (codes "switch " ++ choice_text other off' on') (sym (switch_node_said n switch off on) ∙ same
    ∙ switch_node_said n other off' on')) in
    let is = choice_once n switch other off on off' on' fits_x.0 fits_y.0 fits_x.1 fits_x.2 fits_y.1 fits_y.2 words in
    λ i. switch_node (is.0 i) (is.1 i) (is.2 i)
