-- Statements are those of blocks in one way.
use Rattle.std.proofs.Common.{◌≡◌, ◌∙◌, sym, ap, subst, refl, append_assoc, append-nil, ℕ, ◌<◌, ◌==◌, ◌||◌, ◌⊎◌, Bool}
use Rattle.std.proofs.Common.{true, false, cond, List, [], ◌∷◌, ◌++◌, length, get_or, arith, inl, inr}
use Rattle.std.specs.Prelude.{⊤, map, flat_map}
use Rattle.std.specs.List.{list_any}
use Rattle.std.proofs.lemmas.List.Folds.{list_any-append}
use Rattle.ilk_base.specs.declared.words.Op.{Op}
use Rattle.station_graph.specs.Diagram.{Diagram, Differ}
use Rattle.equation_audit.specs.declared.condition.Condition.{Condition}
use Rattle.equation_audit.specs.Equations.{Equation, HasFewOwn, is_named, is_own}
use Rattle.equation_audit.specs.BlockLines.{Statement, Begins, Never, Or, When, End, LineSays, Say, body, whole}
use Rattle.equation_audit.specs.BlockLines.{HasBlock}
use Rattle.equation_audit.specs.BlockLines.{OneEach, AllFew}
use Rattle.equation_audit.proofs.OwnLemmas.{or_false}
use Rattle.equation_audit.proofs.OneStatement.{one_statement}

abbrev is_end : Statement → Bool
is_end (Begins op) = false
is_end Never = false
is_end Or = false
is_end (When c) = false
is_end End = true

abbrev NoEnd : List Statement → Type 0
NoEnd [] = ⊤
NoEnd (s ∷ ss) = (is_end s ≡ false) × NoEnd ss

-- `or` or a condition
abbrev pub IsInner : Statement → Type 0
IsInner (Begins op) = ⊥
IsInner Never = ⊥
IsInner Or = ⊤
IsInner (When c) = ⊤
IsInner End = ⊥

abbrev pub AllInner : List Statement → Type 0
AllInner [] = ⊤
AllInner (s ∷ ss) = IsInner s × AllInner ss

AllInner-append : (xs ys : List Statement) → AllInner xs → AllInner ys → AllInner (xs ++ ys)
AllInner-append [] ys first second = second
AllInner-append (x ∷ xs) ys first second = (first.0, AllInner-append xs ys first.1 second)

AllInner-parts : (xs : List Statement) (s : Statement) (zs : List Statement) → AllInner (xs ++ s ∷ zs) → IsInner s
    × AllInner xs
AllInner-parts [] s zs all = (all.0, tt)
AllInner-parts (x ∷ xs) s zs all = let rest = AllInner-parts xs s zs all.1 in (rest.0, (all.0, rest.1))

when_inner : (cs : List Condition) → AllInner (map When cs)
when_inner [] = tt
when_inner (c ∷ cs) = (tt, when_inner cs)

body_inner : (cs : List Condition) (rest : List (List Condition)) → AllInner (body (cs ∷ rest))
body_inner cs [] = when_inner cs
body_inner cs (next ∷ rest) = AllInner-append (map When cs) (Or ∷ body (next ∷ rest)) (when_inner cs)
    (tt, body_inner next rest)

not_end : (s : Statement) → IsInner s → is_end s ≡ false
not_end (Begins op) inner = refl
not_end Never inner = refl
not_end Or inner = refl
not_end (When c) inner = refl
not_end End inner = absurd inner

inner_no_end : (ss : List Statement) → AllInner ss → NoEnd ss
inner_no_end [] all = tt
inner_no_end (s ∷ ss) all = (not_end s all.0, inner_no_end ss all.1)

body_no_end : (alts : List (List Condition)) → NoEnd (body alts)
body_no_end [] = (refl, tt)
body_no_end (cs ∷ rest) = inner_no_end (body (cs ∷ rest)) (body_inner cs rest)

no_end_there : (xs ys : List Statement) → NoEnd (xs ++ End ∷ ys) → ⊥
no_end_there [] ys none = let e = none.0 in cc
no_end_there (x ∷ xs) ys none = no_end_there xs ys none.1

abbrev before_end : List Statement → List Statement
before_end [] = []
before_end (s ∷ ss) = cond (is_end s) [] (s ∷ before_end ss)

abbrev after_end : List Statement → List Statement
after_end [] = []
after_end (s ∷ ss) = cond (is_end s) ss (after_end ss)

before_end-append : (xs ys : List Statement) → NoEnd xs → before_end (xs ++ ys) ≡ xs ++ before_end ys
before_end-append [] ys none = refl
before_end-append (x ∷ xs) ys none =
    ap (λ t. cond t [] (x ∷ before_end (xs ++ ys))) none.0 ∙ ap (λ (ss : List Statement). x ∷ ss)
    (before_end-append xs ys none.1)

after_end-append : (xs ys : List Statement) → NoEnd xs → after_end (xs ++ ys) ≡ after_end ys
after_end-append [] ys none = refl
after_end-append (x ∷ xs) ys none = ap (λ t. cond t (xs ++ ys) (after_end (xs ++ ys))) none.0
    ∙ after_end-append xs ys none.1

before_whole : (alts : List (List Condition)) (x : List Statement) → before_end (body alts ++ End ∷ x) ≡ body alts
before_whole alts x = before_end-append (body alts) (End ∷ x) (body_no_end alts) ∙ append-nil (body alts)

abbrev onto : Condition → List (List Condition) → List (List Condition)
onto c [] = []
onto c (cs ∷ rest) = (c ∷ cs) ∷ rest

-- the alternatives of a body
abbrev gather : List Statement → List (List Condition)
gather [] = [] ∷ []
gather (Begins op ∷ ss) = []
gather (Never ∷ ss) = []
gather (Or ∷ ss) = [] ∷ gather ss
gather (When c ∷ ss) = onto c (gather ss)
gather (End ∷ ss) = []

gather-when : (cs : List Condition) (ss : List Statement) (first : List Condition) (rest : List (List Condition)) →
    gather ss ≡ first ∷ rest → gather (map When cs ++ ss) ≡ (cs ++ first) ∷ rest
gather-when [] ss first rest is = is
gather-when (c ∷ cs) ss first rest is = ap (onto c) (gather-when cs ss first rest is)

gather_body : (alts : List (List Condition)) → gather (body alts) ≡ alts
gather_body [] = refl
gather_body (cs ∷ []) =
    ap gather (sym (append-nil (map When cs))) ∙ gather-when cs [] [] [] refl
    ∙ ap (λ (first : List Condition). let one : List (List Condition) = first ∷ [] in one) (append-nil cs)
gather_body (cs ∷ next ∷ rest) =
    gather-when cs (Or ∷ body (next ∷ rest)) [] (gather (body (next ∷ rest))) refl
    ∙ (λ i. append-nil cs i ∷ gather_body (next ∷ rest) i)

-- a body is of one list of alternatives
one_body : (alts others : List (List Condition)) → body alts ≡ body others → alts ≡ others
one_body alts others same = sym (gather_body alts) ∙ ap gather same ∙ gather_body others

-- what a body that goes on says next
pub says_next : (alts before : List (List Condition)) (s : Statement) (zs : List Statement) →
    body alts ≡ body before ++ s ∷ zs → ((before ≡ [] ∷ []) × (s ≡ Never)) ⊎ (IsInner s × AllInner (body before))
says_next [] before s zs same =
    let only = only_never (body before) s zs same in
    inl (one_body before ([] ∷ []) only.0, only.1)
  where
    only_never : (xs : List Statement) (t : Statement) (us : List Statement) → Never ∷ [] ≡ xs ++ t ∷ us → (xs ≡ [])
        × (t ≡ Never)
    only_never [] t us e = (refl, cc)
    only_never (x ∷ []) t us e = absurd (cc)
    only_never (x ∷ y ∷ xs) t us e = absurd (cc)
says_next (cs ∷ rest) before s zs same =
    inr (AllInner-parts (body before) s zs (subst AllInner same (body_inner cs rest)))

pub never_inner : (before : List (List Condition)) → before ≡ [] → AllInner (body before) → ⊥
never_inner before is all = let here = subst (λ (alts : List (List Condition)). AllInner (body alts)) is all in here.0

-- up to its end, a block goes on with what is not its end
pub goes_on : (alts before : List (List Condition)) (s : Statement) (x ts : List Statement) → is_end s ≡ false →
    body alts ++ End ∷ x ≡ body before ++ s ∷ ts → body alts ≡ body before ++ s ∷ before_end ts
goes_on alts before s x ts other same =
    sym (before_whole alts x)
    ∙ ap before_end same
    ∙ before_end-append (body before) (s ∷ ts) (body_no_end before)
    ∙ ap (λ t. body before ++ cond t [] (s ∷ before_end ts)) other

-- a block is not all of a body
pub not_all : (alts before : List (List Condition)) (x : List Statement) → body alts ++ End ∷ x ≡ body before → ⊥
not_all alts before x same = no_end_there (body alts) x (subst NoEnd (sym same) (body_no_end before))

pub same_begin : (a b : Op) (xs ys : List Statement) → Begins a ∷ xs ≡ Begins b ∷ ys → (a ≡ b) × (xs ≡ ys)
same_begin a b xs ys e = (cc, cc)

pub whole-append : (e : Equation) (x : List Statement) → whole e ++ x ≡ Begins e.op ∷ (body e.alternatives ++ End ∷ x)
whole-append e x = ap (λ (ss : List Statement). Begins e.op ∷ ss) (append_assoc (body e.alternatives) (End ∷ []) x)

whole_one : (e f : Equation) (x y : List Statement) → whole e ++ x ≡ whole f ++ y → (e ≡ f) × (x ≡ y)
whole_one e f x y same =
    let parts = same_begin e.op f.op _ _ (sym (whole-append e x) ∙ same ∙ whole-append f y) in
    let bodies : body e.alternatives ≡ body f.alternatives = sym (before_whole e.alternatives x) ∙ ap before_end parts.1
    ∙ before_whole f.alternatives y in
    let alternatives = one_body e.alternatives f.alternatives bodies in (
      (λ i. record { op = parts.0 i; alternatives = alternatives i }),
      sym (after_end-append (body e.alternatives) (End ∷ x) (body_no_end e.alternatives)) ∙ ap after_end parts.1
          ∙ after_end-append (body f.alternatives) (End ∷ y) (body_no_end f.alternatives),
    )

-- the blocks after those that are read
pub record More (es read : List Equation) (tail : List Statement) : Type 0 where
  pub more : List Equation
  pub those : es ≡ read ++ more
  pub say : flat_map whole more ≡ tail

pub blocks_split : (es read : List Equation) (tail : List Statement) → flat_map whole es ≡ flat_map whole read ++ tail →
    More es read tail
blocks_split es [] tail same = record { more = es; those = refl; say = same }
blocks_split [] (f ∷ read) tail same = absurd (cc)
blocks_split (e ∷ es) (f ∷ read) tail same =
    let parts = whole_one e f (flat_map whole es) (flat_map whole read ++ tail) (same
    ∙ append_assoc (whole f) (flat_map whole read) tail) in
    let rest = blocks_split es read tail parts.1 in
    record { more = rest.more; those = (λ i. parts.0 i ∷ rest.those i); say = rest.say }

-- what a line says after those before it
pub record SaidNext (d : Diagram) (line : List ℕ) (before all : List Statement) : Type 0 where
  pub statement : Statement
  pub rest : List Statement
  pub those : all ≡ before ++ statement ∷ rest
  pub says : LineSays d line statement

pub said_split : (d : Diagram) → Differ d.switch_paths → (ls : List (ℕ × List ℕ)) (ss : List Statement) → Say d ls ss →
    (line : ℕ × List ℕ) (rest : List (ℕ × List ℕ)) (all : List Statement) → Say d (ls ++ line ∷ rest) all →
    SaidNext d line.1 ss all
said_split d differ [] [] say line rest [] says = absurd says
said_split d differ [] [] say line rest (s ∷ all) says = record {
  statement = s;
  rest = all;
  those = refl;
  says = says.0;
}
said_split d differ [] (t ∷ ss) say line rest all says = absurd say
said_split d differ (l ∷ ls) [] say line rest all says = absurd say
said_split d differ (l ∷ ls) (t ∷ ss) say line rest [] says = absurd says
said_split d differ (l ∷ ls) (t ∷ ss) say line rest (s ∷ all) says =
    let more = said_split d differ ls ss say.1 line rest all says.1 in
    record {
      statement = more.statement;
      rest = more.rest;
      those = (λ i. one_statement d differ l.1 s t says.0 say.0 i ∷ more.those i);
      says = more.says;
    }

pub said_same : (d : Diagram) → Differ d.switch_paths → (ls : List (ℕ × List ℕ)) (ss ts : List Statement) →
    Say d ls ss → Say d ls ts → ss ≡ ts
said_same d differ [] [] [] x y = refl
said_same d differ [] [] (t ∷ ts) x y = absurd y
said_same d differ [] (s ∷ ss) ts x y = absurd x
said_same d differ (l ∷ ls) [] ts x y = absurd x
said_same d differ (l ∷ ls) (s ∷ ss) [] x y = absurd y
said_same d differ (l ∷ ls) (s ∷ ss) (t ∷ ts) x y = λ i. one_statement d differ l.1 s t x.0 y.0 i ∷ said_same d differ
    ls ss ts x.1 y.1 i

HasBlock-mid : (es : List Equation) (e : Equation) (more : List Equation) (op : Op) → e.op ≡ op →
    HasBlock (es ++ e ∷ more) op
HasBlock-mid [] e more op is = inl is
HasBlock-mid (x ∷ es) e more op is = inr (HasBlock-mid es e more op is)

-- none of the blocks before one is of its operation
pub none_before : (es : List Equation) (e : Equation) (more : List Equation) → OneEach (es ++ e ∷ more) →
    HasBlock es e.op → ⊥
none_before [] e more each has = has
none_before (x ∷ es) e more each (inl is) = each.0 (HasBlock-mid es e more x.op (sym is))
none_before (x ∷ es) e more each (inr has) = none_before es e more each.1 has

at_mid : (es : List Equation) (e d : Equation) (more : List Equation) → get_or (es ++ e ∷ more) (length es) d ≡ e
at_mid [] e d more = refl
at_mid (x ∷ es) e d more = at_mid es e d more

within : (es : List Equation) (e : Equation) (more : List Equation) → length es < length (es ++ e ∷ more)
within [] e more = omega arith
within (x ∷ es) e more = omega (arith, within es e more)

pub few_mid : (es : List Equation) (e : Equation) (more : List Equation) → AllFew (es ++ e ∷ more) →
    HasFewOwn e.alternatives
few_mid es e more all = subst (λ (x : Equation). HasFewOwn x.alternatives) (at_mid es e e more)
    (all (length es) e (within es e more))

abbrev pub is_on : Statement → ℕ → Bool
is_on (Begins op) i = false
is_on Never i = false
is_on Or i = false
is_on (When c) i = c.switch.0 == i
is_on End i = false

names_when : (cs : List Condition) (i : ℕ) → list_any (λ s. is_on s i) (map When cs) ≡ is_named cs i
names_when [] i = refl
names_when (c ∷ cs) i = ap (λ b. (c.switch.0 == i) || b) (names_when cs i)

names_body : (alts : List (List Condition)) (i : ℕ) → list_any (λ s. is_on s i) (body alts) ≡ is_own alts i
names_body [] i = refl
names_body (cs ∷ []) i = names_when cs i ∙ sym (or_false (is_named cs i))
names_body (cs ∷ next ∷ rest) i =
    list_any-append (λ s. is_on s i) (map When cs) (Or ∷ body (next ∷ rest))
    ∙ (λ j. names_when cs i j || names_body (next ∷ rest) i j)

-- what a body names that goes on with a condition
pub names_more : (alts before : List (List Condition)) (c : Condition) (zs : List Statement) (i : ℕ) →
    body alts ≡ body before ++ When c ∷ zs →
    is_own alts i ≡ (is_own before i || ((c.switch.0 == i) || list_any (λ s. is_on s i) zs))
names_more alts before c zs i same =
    sym (names_body alts i)
    ∙ ap (list_any (λ s. is_on s i)) same
    ∙ list_any-append (λ s. is_on s i) (body before) (When c ∷ zs)
    ∙ ap (λ b. b || ((c.switch.0 == i) || list_any (λ s. is_on s i) zs)) (names_body before i)
