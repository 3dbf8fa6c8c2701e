-- What a body says, when one more condition or alternative is added; and lines that say statements.
use Rattle.std.proofs.Common.{◌≡◌, ◌∙◌, sym, ap, refl, append_assoc, ℕ, List, [], ◌∷◌, ◌++◌}
use Rattle.std.specs.Prelude.{map}
use Rattle.std.specs.List.{AllZip}
use Rattle.station_graph.specs.Diagram.{Diagram}
use Rattle.equation_audit.specs.declared.condition.Condition.{Condition}
use Rattle.equation_audit.specs.BlockLines.{Statement, LineSays, Say, body}

-- what stands before the last alternative
heads : List (List Condition) → List Statement
heads [] = []
heads (cs ∷ rest) = map Statement.When cs ++ Statement.Or ∷ heads rest

body-last : (earlier : List (List Condition)) (last : List Condition) →
    body (earlier ++ last ∷ []) ≡ heads earlier ++ map Statement.When last
unfolding heads
body-last [] last = refl
body-last (cs ∷ []) last = sym (append_assoc (map Statement.When cs) (Statement.Or ∷ []) (map Statement.When last))
body-last (cs ∷ next ∷ rest) last =
    ap (λ (ss : List Statement). map Statement.When cs ++ Statement.Or ∷ ss) (body-last (next ∷ rest) last)
    ∙ sym (append_assoc (map Statement.When cs) (Statement.Or ∷ heads (next ∷ rest)) (map Statement.When last))

heads-push : (earlier : List (List Condition)) (last : List Condition) →
    heads (earlier ++ last ∷ []) ≡ (heads earlier ++ map Statement.When last) ++ Statement.Or ∷ []
unfolding heads
heads-push [] last = refl
heads-push (cs ∷ rest) last =
    ap (λ (ss : List Statement). map Statement.When cs ++ Statement.Or ∷ ss) (heads-push rest last)
    ∙ sym (append_assoc (map Statement.When cs) (Statement.Or ∷ (heads rest ++ map Statement.When last))
    (Statement.Or ∷ []))
    ∙ ap (λ (ss : List Statement). ss ++ Statement.Or ∷ [])
    (sym (append_assoc (map Statement.When cs) (Statement.Or ∷ heads rest) (map Statement.When last)))

map-append_one : {A B : Type 0} (f : A → B) (xs : List A) (x : A) → map f (xs ++ x ∷ []) ≡ map f xs ++ f x ∷ []
map-append_one f [] x = refl
map-append_one {B = B} f (y ∷ xs) x = ap (λ (zs : List B). f y ∷ zs) (map-append_one f xs x)

append-nothing : {X : Type 0} (xs : List X) → xs ++ [] ≡ xs
append-nothing [] = refl
append-nothing {X} (x ∷ xs) = ap (λ (ys : List X). x ∷ ys) (append-nothing xs)

-- one more alternative is one more `or`
pub body-or : (earlier : List (List Condition)) (last : List Condition) → body ((earlier ++ last ∷ []) ++ [] ∷ [])
    ≡ body (earlier ++ last ∷ []) ++ Statement.Or ∷ []
body-or earlier last =
    body-last (earlier ++ last ∷ []) []
    ∙ append-nothing (heads (earlier ++ last ∷ []))
    ∙ heads-push earlier last
    ∙ ap (λ (ss : List Statement). ss ++ Statement.Or ∷ []) (sym (body-last earlier last))

-- one more condition of the last alternative is one more line
pub body-when : (earlier : List (List Condition)) (last : List Condition) (c : Condition) →
    body (earlier ++ (last ++ c ∷ []) ∷ []) ≡ body (earlier ++ last ∷ []) ++ Statement.When c ∷ []
body-when earlier last c =
    body-last earlier (last ++ c ∷ [])
    ∙ ap (λ (ss : List Statement). heads earlier ++ ss) (map-append_one Statement.When last c)
    ∙ sym (append_assoc (heads earlier) (map Statement.When last) (Statement.When c ∷ []))
    ∙ ap (λ (ss : List Statement). ss ++ Statement.When c ∷ []) (sym (body-last earlier last))

pub AllZip-append : {A B : Type 0} (R : A → B → Type 0) (xs us : List A) (ys vs : List B) → AllZip R xs ys →
    AllZip R us vs → AllZip R (xs ++ us) (ys ++ vs)
AllZip-append R [] us [] vs first second = second
AllZip-append R [] us (y ∷ ys) vs first second = absurd first
AllZip-append R (x ∷ xs) us [] vs first second = absurd first
AllZip-append R (x ∷ xs) us (y ∷ ys) vs first second = (first.0, AllZip-append R xs us ys vs first.1 second)

pub Say-append : (d : Diagram) (xs us : List (ℕ × List ℕ)) (ys vs : List Statement) → Say d xs ys → Say d us vs →
    Say d (xs ++ us) (ys ++ vs)
Say-append d xs us ys vs first second = AllZip-append (λ line s. LineSays d line.1 s) xs us ys vs first second

pub Say-push : (d : Diagram) (xs : List (ℕ × List ℕ)) (line : ℕ × List ℕ) (ys : List Statement) (s : Statement) →
    Say d xs ys → LineSays d line.1 s → Say d (xs ++ line ∷ []) (ys ++ s ∷ [])
Say-push d xs line ys s say says = Say-append d xs (line ∷ []) ys (s ∷ []) say (says, tt)
