-- What is kept of the lines that define something.
use Rattle.std.proofs.Common.{◌≡◌, ◌≢◌, ◌∙◌, ◌⊎◌, ℕ, Bool, true, false, List, ◌∷◌, ◌++◌, refl, sym, ap, subst}
use Rattle.std.proofs.Common.{inl, inr}
use Rattle.std.specs.Prelude.{◌↔◌, IsTrue}
use Rattle.std.specs.declared.cmp.Ordering.{Ordering}
use Rattle.std.specs.declared.cmp.Ordering.TheVariants.{Less, Equal, Greater}
use Rattle.std.specs.Ordering.{nat_cmp, is_eq}
use Rattle.std.specs.BTreeSet.{contains, Updates, IsEmpty}
use Rattle.std.specs.BTreeMap.{is_at}
use Rattle.std.specs.List.{list_any}
use Rattle.std.proofs.lemmas.Map.Lookups.{exact_pairs, exact_unsigned}
use Rattle.equation_text.specs.declared.entries.Step.{Step}
use Rattle.equation_text.specs.declared.entries.Entries.{Entries}
use Rattle.equation_text.specs.Words.{Lacks}
use Rattle.equation_text.specs.Faults.{Entry, step_of, node_of, head_of, HasLine, IsDefined}
use Rattle.equation_text.specs.Entries.{step_order, has_entry, IsEntry32, Defines, AddsLine, AreDefined}
use Rattle.equation_text.proofs.WordLemmas.{true_false}
use Rattle.equation_text.proofs.LineLemmas.{line_here, line_later, line_split, last_here, last_only}
use Rattle.equation_text.proofs.EntryLemmas.{head_lacks, head_once}

-- The line defines no entry.
abbrev pub DefinesNone : List ℕ → Type 0
DefinesNone line = (x : Entry) (rest : List ℕ) → IsEntry32 x → line ≢ head_of x ++ rest

-- a line that defines no step and no node defines nothing
pub no_entry : (line : List ℕ) → ((p m : ℕ) (rest : List ℕ) → IsEntry32 (step_of p m) → line ≢ head_of
    (step_of p m) ++ rest) → ((n : ℕ) (rest : List ℕ) → IsEntry32 (node_of n) → line ≢ head_of (node_of n) ++ rest)
    → DefinesNone line
no_entry line steps nodes (step_of p m) rest small is = steps p m rest small is
no_entry line steps nodes (node_of n) rest small is = nodes n rest small is

pub adds_none : (line : List ℕ) (has : Entry → Bool) → DefinesNone line → AddsLine line has has
adds_none line has none x small = (
  λ had. inr had,
  λ e. elim e [
    | inl begins ↦ absurd (none x begins.0 small begins.1)
    | inr had ↦ had
  ],
)

-- what makes an entry be there, and leaves each other as it was, adds a line that defines it
pub adds_line : (line : List ℕ) (old new : Entry → Bool) (entry : Entry) → Defines line entry → IsTrue (new entry)
    → ((x : Entry) → (x ≡ entry) ⊎ (new x ≡ old x)) → AddsLine line old new
adds_line line old new entry by there others x small = (to, from)
  where
    to : IsTrue (new x) → ((rest : List ℕ) × (line ≡ head_of x ++ rest)) ⊎ IsTrue (old x)
    to has = elim (others x) [
      | inl same ↦ inl (by.rest, by.is ∙ ap (λ (e : Entry). head_of e ++ by.rest) (sym same))
      | inr stays ↦ inr (sym stays ∙ has)
    ]

    from : ((rest : List ℕ) × (line ≡ head_of x ++ rest)) ⊎ IsTrue (old x) → IsTrue (new x)
    from (inl begins) =
        let same = head_once entry x by.rest begins.0 by.small small (sym by.is ∙ begins.1) in
        subst (λ (e : Entry). IsTrue (new e)) same there
    from (inr had) = elim (others x) [
      | inl same ↦ subst (λ (e : Entry). IsTrue (new e)) (sym same) there
      | inr stays ↦ stays ∙ had
    ]

equal_by : (o : Ordering) → is_eq o ≡ true → o ≡ Equal
equal_by Less e = cc
equal_by Equal e = refl
equal_by Greater e = cc

same_entry : (s : Step) (p m : ℕ) → is_at (step_order s) (record { part = p; number = m }) ≡ true
    → step_of p m ≡ step_of s.part s.number
same_entry s p m e =
    let order = equal_by (step_order s (record { part = p; number = m })) e in
    let same = exact_pairs nat_cmp nat_cmp exact_unsigned exact_unsigned (s.part, s.number) (p, m) order in
    sym (ap (λ (t : ℕ × ℕ). step_of t.0 t.1) same)

pub adds_step : (line : List ℕ) (old new : Entries) (s : Step) → Defines line (step_of s.part s.number)
    → Updates step_order old.steps new.steps s true → new.nodes ≡ old.nodes
    → AddsLine line (has_entry old) (has_entry new)
adds_step line old new s by up nodes = adds_line line (has_entry old) (has_entry new) (step_of s.part s.number) by up.1
    others
  where
    others : (x : Entry) → (x ≡ step_of s.part s.number) ⊎ (has_entry new x ≡ has_entry old x)
    others (node_of n) = inr (ap (λ k. contains nat_cmp k n) nodes)
    others (step_of p m) = told (is_at (step_order s) (record { part = p; number = m })) refl
      where
        told : (b : Bool) → is_at (step_order s) (record { part = p; number = m }) ≡ b
            → (step_of p m ≡ step_of s.part s.number) ⊎ (has_entry new (step_of p m) ≡ has_entry old (step_of p m))
        told true e = inl (same_entry s p m e)
        told false e = inr (up.2 (record { part = p; number = m }) e)

pub adds_node : (line : List ℕ) (old new : Entries) (n : ℕ) → Defines line (node_of n)
    → Updates nat_cmp old.nodes new.nodes n true → new.steps ≡ old.steps
    → AddsLine line (has_entry old) (has_entry new)
adds_node line old new n by up steps = adds_line line (has_entry old) (has_entry new) (node_of n) by up.1 others
  where
    others : (x : Entry) → (x ≡ node_of n) ⊎ (has_entry new x ≡ has_entry old x)
    others (step_of p m) = inr (ap (λ k. contains step_order k (record { part = p; number = m })) steps)
    others (node_of k) = told (is_at (nat_cmp n) k) refl
      where
        told : (b : Bool) → is_at (nat_cmp n) k ≡ b
            → (node_of k ≡ node_of n) ⊎ (has_entry new (node_of k) ≡ has_entry old (node_of k))
        told true e = inl (ap (λ z. node_of z) (sym (exact_unsigned n k (equal_by (nat_cmp n k) e))))
        told false e = inr (up.2 k e)

none_kept : (entries : Entries) (x : Entry) → IsEmpty entries.steps → IsEmpty entries.nodes
    → has_entry entries x ≡ false
none_kept entries (step_of p m) steps nodes = ap (list_any (is_at (step_order (record { part = p; number = m })))) steps
none_kept entries (node_of n) steps nodes = ap (list_any (is_at (nat_cmp n))) nodes

-- what was kept of a text so far
abbrev pub KeptSoFar : List ℕ → List ℕ → (Entry → Bool) → Type 0
KeptSoFar text left has = (x : Entry) → IsEntry32 x → IsDefined text x ↔ (IsTrue (has x) ⊎ IsDefined left x)

pub kept_at_first : (text : List ℕ) (entries : Entries) → IsEmpty entries.steps → IsEmpty entries.nodes
    → KeptSoFar text text (has_entry entries)
kept_at_first text entries steps nodes x small = (
  λ has. inr has,
  λ e. elim e [
    | inl kept ↦ absurd (true_false (sym kept ∙ none_kept entries x steps nodes))
    | inr has ↦ has
  ],
)

module _ (text left : List ℕ) (old new : Entry → Bool) (so_far : KeptSoFar text left old) where
  pub kept_next : (line rest : List ℕ) → Lacks 10 line → left ≡ line ++ 10 ∷ rest → AddsLine line old new
      → KeptSoFar text rest new
  kept_next line rest lacks is adds x small = (
    λ has. elim ((so_far x small).0 has) [
      | inl kept ↦ inl ((adds x small).1 (inr kept))
      | inr there ↦ elim (line_split line rest (head_of x) lacks (head_lacks x small)
          (subst (λ (z : List ℕ). HasLine z (head_of x)) is there)) [
            | inl begins ↦ inl ((adds x small).1 (inl begins))
            | inr later ↦ inr later
          ]
    ],
    λ e. elim e [
      | inl kept ↦ elim ((adds x small).0 kept) [
        | inl begins ↦ (so_far x small).1 (inr (subst (λ (z : List ℕ). HasLine z (head_of x)) (sym is)
            (line_here line rest (head_of x) begins.0 begins.1)))
        | inr before ↦ (so_far x small).1 (inl before)
      ]
      | inr later ↦ (so_far x small).1 (inr (subst (λ (z : List ℕ). HasLine z (head_of x)) (sym is)
          (line_later line rest (head_of x) later)))
    ],
  )

  pub kept_at_last : Lacks 10 left → AddsLine left old new → AreDefined text new
  kept_at_last lacks adds x small = (
    λ kept. elim ((adds x small).0 kept) [
      | inl begins ↦ (so_far x small).1 (inr (last_here left (head_of x) begins.0 begins.1))
      | inr before ↦ (so_far x small).1 (inl before)
    ],
    λ has. elim ((so_far x small).0 has) [
      | inl before ↦ (adds x small).1 (inr before)
      | inr there ↦ (adds x small).1 (inl (last_only left (head_of x) lacks there))
    ],
  )
