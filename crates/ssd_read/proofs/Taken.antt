-- Names that are taken after a list of elements.
use Rattle.std.proofs.Common.{◌≡◌, ℕ, List, [], ◌∷◌, ◌++◌, map, Option, Some, None, Bool, true, false, not, ◌||◌, ◌&&◌}
use Rattle.std.proofs.Common.{cond, refl, ap, ◌∙◌, sym, subst}
use Rattle.std.specs.List.{list_any, filter, cons_option}
use Rattle.std.specs.Option.{option_map, option_to_list}
use Rattle.std.specs.Str.{bytes_eq}
use Rattle.ssd_read.specs.declared.role.Role.{Role}
use Rattle.ssd_read.specs.Elements.{Element, counted_as}
use Rattle.ssd_read.specs.Names.{counted_path, counted_paths, same_pair, same_counted, same_path, same_key, is_node}
use Rattle.ssd_read.specs.Names.{key_of, keys_of, name_fault, is_nameless}
use Rattle.ssd_read.specs.declared.refusal.SsdRefusal.TheVariants.{NoName, Twice}
use Rattle.ssd_read.specs.declared.paths.Names.{Names}
use Rattle.ssd_read.specs.SeenPaths.{AreNumbered, HaveSame, AddsPair}
use Rattle.ssd_read.proofs.Lists.{not_true, not_false}

none_any : {X : Type 0} (xs : List X) → list_any (λ x. false) xs ≡ false
none_any [] = refl
none_any (x ∷ xs) = none_any xs

or_cons : (p : Role × List ℕ) (o : Option (Role × List ℕ)) (rest : List (Role × List ℕ)) →
    list_any (same_pair p) (cons_option o rest) ≡ (same_counted (Some p) o || list_any (same_pair p) rest)
or_cons p None rest = refl
or_cons p (Some q) rest = refl

any_counted : (p : Role × List ℕ) (before : List Element) → list_any (same_pair p) (counted_paths before) ≡ list_any
    (λ y. same_counted (Some p) (counted_path y)) before
any_counted p [] = refl
any_counted p (y ∷ ys) = or_cons p (counted_path y) (counted_paths ys)
    ∙ ap (λ b. same_counted (Some p) (counted_path y) || b) (any_counted p ys)

cons_end : {Y : Type 0} (o : Option Y) (xs ys : List Y) → cons_option o (xs ++ ys) ≡ cons_option o xs ++ ys
cons_end None xs ys = refl
cons_end (Some y) xs ys = refl

cons_none : {Y : Type 0} (o : Option Y) → cons_option o [] ≡ option_to_list o
cons_none None = refl
cons_none (Some y) = refl

counted_push : (before : List Element) (x : Element) → counted_paths (before ++ x ∷ []) ≡ counted_paths before
    ++ option_to_list (counted_path x)
counted_push [] x = cons_none (counted_path x)
counted_push (y ∷ ys) x = ap (cons_option (counted_path y)) (counted_push ys x) ∙ cons_end (counted_path y)
    (counted_paths ys) (option_to_list (counted_path x))

pub append_none : {Y : Type 0} (xs : List Y) → xs ++ [] ≡ xs
append_none [] = refl
append_none (x ∷ xs) = ap (λ l. x ∷ l) (append_none xs)

path_of_none : (x : Element) → None ≡ counted_as x.role → counted_path x ≡ None
path_of_none x h = ap (option_map (λ (kind : Role). (kind, x.path))) (sym h)

path_of_some : (x : Element) (kind : Role) → Some kind ≡ counted_as x.role → counted_path x ≡ Some (kind, x.path)
path_of_some x kind h = ap (option_map (λ (kind : Role). (kind, x.path))) (sym h)

pub uncounted_new : (x : Element) (before : List Element) → None ≡ counted_as x.role →
    true ≡ not (list_any (same_path x) before)
uncounted_new x before h = sym (ap (λ o. not (list_any (λ y. same_counted o (counted_path y)) before))
    (path_of_none x h) ∙ ap not (none_any before))

any_last : {X : Type 0} (p : X → Bool) (xs : List X) (y : X) → (list_any p xs || p y) ≡ list_any p (xs ++ y ∷ [])
any_last p [] y = last_alone (p y)
  where
    last_alone : (b : Bool) → b ≡ (b || false)
    last_alone true = refl
    last_alone false = refl
any_last p (x ∷ xs) y = one_end (p x) (list_any p xs) (p y) ∙ ap (λ b. p x || b) (any_last p xs y)
  where
    one_end : (a b c : Bool) → ((a || b) || c) ≡ (a || (b || c))
    one_end true b c = refl
    one_end false b c = refl

pub uncounted_added : (x : Element) (before : List Element) (paths : List (Role × List ℕ)) → None ≡ counted_as x.role →
    HaveSame paths (counted_paths before) → HaveSame paths (counted_paths (before ++ x ∷ []))
uncounted_added x before paths h same p =
    same p ∙ ap (list_any (same_pair p)) (sym (counted_push before x
    ∙ (ap (λ o. counted_paths before ++ option_to_list o) (path_of_none x h) ∙ append_none (counted_paths before))))

pub counted_new : (x : Element) (before : List Element) (paths : List (Role × List ℕ)) (kind : Role) (path : List ℕ)
    (b : Bool) → Some kind ≡ counted_as x.role → path ≡ x.path → b ≡ not (list_any (same_pair (kind, path)) paths) →
    HaveSame paths (counted_paths before)
    → b ≡ not (list_any (same_path x) before)
counted_new x before paths kind path b h p new same =
    let found : counted_path x ≡ Some (kind, path) = rw p (path_of_some x kind h) in
    new ∙ ap not (same (kind, path) ∙ (any_counted (kind, path) before
    ∙ ap (λ o. list_any (λ y. same_counted o (counted_path y)) before) (sym found)))

pub counted_added : (x : Element) (before : List Element) (paths news : List (Role × List ℕ)) (kind : Role)
    (path : List ℕ) → Some kind ≡ counted_as x.role → path ≡ x.path → AddsPair (kind, path) paths news →
    HaveSame paths (counted_paths before) → HaveSame news (counted_paths (before ++ x ∷ []))
counted_added x before paths news kind path h p adds same q =
    let found : counted_path x ≡ Some (kind, path) = rw p (path_of_some x kind h) in
    let pushed : counted_paths (before ++ x ∷ []) ≡ counted_paths before ++ (kind, path) ∷ [] =
    counted_push before x ∙ ap (λ o. counted_paths before ++ option_to_list o) found in
    adds q ∙ (ap (λ b. b || same_pair q (kind, path)) (same q) ∙ (any_last (same_pair q) (counted_paths before)
    (kind, path) ∙ ap (list_any (same_pair q)) (sym pushed)))

-- ---- keys

key_step : (b : Bool) (k : List ℕ) (y : Element) (ys : List Element) →
    list_any (bytes_eq k) (map key_of (cond b (y ∷ ys) ys)) ≡ ((b && bytes_eq k (key_of y)) || list_any (bytes_eq k)
    (map key_of ys))
key_step true k y ys = refl
key_step false k y ys = refl

any_key : (k : List ℕ) (before : List Element) → list_any (bytes_eq k) (keys_of before) ≡ list_any
    (λ y. is_node y && bytes_eq k (key_of y)) before
any_key k [] = refl
any_key k (y ∷ ys) = key_step (is_node y) k y (filter is_node ys) ∙ ap (λ b. (is_node y && bytes_eq k (key_of y)) || b)
    (any_key k ys)

pub unkeyed_new : (x : Element) (before : List Element) → is_node x ≡ false → true ≡ not (list_any (same_key x) before)
unkeyed_new x before h = sym (ap (λ b. not (list_any (λ y. b && is_node y && bytes_eq (key_of x) (key_of y)) before)) h
    ∙ ap not (none_any before))

pub keyed_new : (x : Element) (before : List Element) (key : List ℕ) (b : Bool) → is_node x ≡ true → key ≡ key_of x →
    b ≡ not (list_any (bytes_eq key) (keys_of before)) → b ≡ not (list_any (same_key x) before)
keyed_new x before key b h k new =
    new ∙ ap not (any_key key before ∙ (ap (λ k. list_any (λ y. is_node y && bytes_eq k (key_of y)) before) k
    ∙ ap (λ b. list_any (λ y. b && is_node y && bytes_eq (key_of x) (key_of y)) before) (sym h)))

cond_end : {X : Type 0} (b : Bool) (y : X) (xs ys : List X) → cond b (y ∷ (xs ++ ys)) (xs ++ ys) ≡ cond b
    (y ∷ xs) xs ++ ys
cond_end true y xs ys = refl
cond_end false y xs ys = refl

filter_push : {X : Type 0} (p : X → Bool) (xs : List X) (x : X) → filter p (xs ++ x ∷ []) ≡ filter p xs ++ cond
    (p x) (x ∷ []) []
filter_push p [] x = refl
filter_push p (y ∷ ys) x = ap (λ l. cond (p y) (y ∷ l) l) (filter_push p ys x) ∙ cond_end (p y) y (filter p ys)
    (cond (p x) (x ∷ []) [])

map_end : {X Y : Type 0} (f : X → Y) (xs ys : List X) → map f (xs ++ ys) ≡ map f xs ++ map f ys
map_end f [] ys = refl
map_end f (x ∷ xs) ys = ap (λ l. f x ∷ l) (map_end f xs ys)

keys_push : (before : List Element) (x : Element) → keys_of (before ++ x ∷ []) ≡ keys_of before ++ map key_of
    (cond (is_node x) (x ∷ []) [])
keys_push before x = ap (map key_of) (filter_push is_node before x) ∙ map_end key_of (filter is_node before)
    (cond (is_node x) (x ∷ []) [])

pub unkeyed_added : (x : Element) (before : List Element) (names : Names) → is_node x ≡ false →
    AreNumbered names (keys_of before) → AreNumbered names (keys_of (before ++ x ∷ []))
unkeyed_added x before names h numbered = subst (AreNumbered names)
    (sym (keys_push before x ∙ (ap (λ b. keys_of before ++ map key_of (cond b (x ∷ []) [])) h
    ∙ append_none (keys_of before)))) numbered

pub keyed_added : (x : Element) (before : List Element) (names : Names) (key : List ℕ) → is_node x ≡ true →
    key ≡ key_of x → AreNumbered names (keys_of before ++ key ∷ []) → AreNumbered names (keys_of (before ++ x ∷ []))
keyed_added x before names key h k numbered = subst (AreNumbered names) (ap (λ k. keys_of before ++ k ∷ []) k
    ∙ sym (keys_push before x ∙ ap (λ b. keys_of before ++ map key_of (cond b (x ∷ []) [])) h)) numbered

-- ---- the fault of an element

pub nameless_fault : (before : List Element) (x : Element) (at : ℕ) → at ≡ x.entry.at → true ≡ is_nameless x →
    name_fault before x ≡ Some (NoName at)
unfolding name_fault
nameless_fault before x at e n = rw (← n, e) refl

pub taken_fault : (before : List Element) (x : Element) (at : ℕ) → at ≡ x.entry.at → false ≡ is_nameless x →
    false ≡ not (list_any (same_path x) before) → name_fault before x ≡ Some (Twice at)
unfolding name_fault
taken_fault before x at e n p = rw (← n, not_false (list_any (same_path x) before) p, e) refl

pub keyed_fault : (before : List Element) (x : Element) (at : ℕ) → at ≡ x.entry.at → false ≡ is_nameless x →
    true ≡ not (list_any (same_path x) before) → false ≡ not (list_any (same_key x) before) →
    name_fault before x ≡ Some (Twice at)
unfolding name_fault
keyed_fault before x at e n p k = rw (
  ← n,
  not_true (list_any (same_path x) before) p,
  not_false (list_any (same_key x) before) k,
  e,
) refl

pub no_fault : (before : List Element) (x : Element) → false ≡ is_nameless x →
    true ≡ not (list_any (same_path x) before) → true ≡ not (list_any (same_key x) before) → name_fault before x ≡ None
unfolding name_fault
no_fault before x n p k = rw (
  ← n,
  not_true (list_any (same_path x) before) p,
  not_true (list_any (same_key x) before) k,
) refl
