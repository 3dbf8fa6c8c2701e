-- An input of lines that are not refused is answered to its end.
use Rattle.std.proofs.Common.{◌≡◌, ◌∙◌, ◌≤◌, ◌⊎◌, ◌+◌, ◌++◌, ◌∷◌, [], suc, refl, sym, ap, arith, subst, ℕ, List}
use Rattle.std.proofs.Common.{length, Option, Some, inl, inr}
use Rattle.std.specs.Prelude.{IfSome, false}
use Rattle.std.specs.List.{All}
use Rattle.std.specs.Str.Lines.{lines as lines_of}
use Rattle.std.proofs.lemmas.List.{length-append}
use Rattle.ilk_base.specs.Outside.{Rose}
use Rattle.station_graph.specs.Diagram.{Diagram}
use Rattle.central_rules.specs.Meaning.{Meaning}
use Rattle.node_session.specs.Requests.{IsRequest}
use Rattle.node_session.specs.SessionEnds.{Streams}
use Rattle.stored_session.specs.View.{View}
use Rattle.stored_session.specs.Opening.{IsUnfit}
use Rattle.stored_session.specs.Through.{HasNext}
use Rattle.stored_session.specs.Ends.{StoredEnds, IsStoredInput}
use Rattle.stored_session.specs.declared.end.StoredEnd.{StoredEnd}
use Rattle.stored_session.specs.declared.end.StoredEnd.TheVariants as e

told_is : (a : Option (List ℕ)) (content other : List ℕ) → a ≡ Some content → IfSome a (λ known. known ≡ other)
    → other ≡ content
told_is a content other is told = let known = rw is at told in sym known

-- the lines of the input that come next
next_of : (input : Option (List ℕ)) (content : List ℕ) (done : List (List ℕ)) (line : List ℕ) → input ≡ Some content
    → HasNext input done line → (more : List (List ℕ)) × (lines_of content ≡ (done ++ line ∷ []) ++ more)
next_of input content done line is (other, more, has) =
    (more, ap lines_of (sym (told_is input content other is has.told)) ∙ has.cut)

all_at : (P : List ℕ → Type 0) (done : List (List ℕ)) (line : List ℕ) (more : List (List ℕ))
    → All P ((done ++ line ∷ []) ++ more) → P line
all_at P [] line more all = all 0 [] (omega arith)
all_at P (x ∷ done) line more all = all_at P done line more (λ k d lt. all (suc k) d (omega (arith, lt)))

module _ {D : Type 0} (v : View D) (m : Meaning) (d : Diagram) (b : ℕ) (before now : Streams) (old device : D)
    (content image : List ℕ) (told : before.input ≡ Some content) (input : IsStoredInput d b content)
    (holds : v.content old ≡ Some image) (fit : ¬ IsUnfit d b image)
    (reads : ¬ Rose before.reads now.reads) (writes : ¬ Rose before.writes now.writes)
    (store_reads : ¬ Rose (v.reads old) (v.reads device)) (store_writes : ¬ Rose (v.writes old) (v.writes device)) where
  never_refused : (done : List (List ℕ)) (line : List ℕ) → HasNext before.input done line → ¬ IsRequest d b false line
      → ⊥
  never_refused done line comes refused =
      let (more, is) = next_of before.input content done line told comes in
      refused (all_at (IsRequest d b false) done line more (subst (All (IsRequest d b false)) is input.each))

  never_long : (done : List (List ℕ)) (line : List ℕ) → HasNext before.input done line
      → length done + 1 ≤ length (lines_of content)
  never_long done line comes =
      let (more, is) = next_of before.input content done line told comes in
      omega (arith, ap length is, length-append (done ++ line ∷ []) more, length-append done (line ∷ []))

  pub goes_through : (end : StoredEnd) → StoredEnds v m d b before now old device end
      → (end ≡ e.Done) ⊎ (end ≡ e.Memory)
  goes_through e.Done ends = inl refl
  goes_through e.Memory ends = inr refl
  goes_through e.Unfit (inl (idle, so)) = absurd (fit (so image holds))
  goes_through e.Unfit (inr (kept, begun, ends)) = absurd ends.so
  goes_through e.ReadFault (inl (idle, so)) = absurd (store_reads so)
  goes_through e.ReadFault (inr (kept, begun, ends)) = absurd (reads ends.so.0)
  goes_through e.WriteFault (inl (idle, so)) = absurd (store_writes so)
  goes_through e.WriteFault (inr (kept, begun, ends)) = elim ends.so.2.cause [
    | inl h ↦ absurd (store_writes h.0)
    | inr h ↦ absurd (writes h.0)
  ]
  goes_through (e.Refused line) (inl (idle, so)) = absurd so
  goes_through (e.Refused line) (inr (kept, begun, ends)) =
      let next = ends.so.2 in absurd (never_refused ends.lines next.0 next.1 next.2)
  goes_through e.Long (inl (idle, so)) = absurd so
  goes_through e.Long (inr (kept, begun, ends)) =
      let next = ends.so.1 in
      let few = input.few in
      absurd (omega (arith, never_long ends.lines next.0 next.1, ends.so.0, few))
