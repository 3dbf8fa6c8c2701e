-- A call of a block, with a store of its own, does to what the program knows what the lines do for which it stands.
use Rattle.std.proofs.Common.{◌≡◌, ◌≢◌, ◌∙◌, ◌++◌, ◌&&◌, ◌||◌, ℕ, zero, suc, List, [], ◌∷◌, Bool, true, false, Some}
use Rattle.std.proofs.Common.{slice_get, refl, sym, ap, subst, inl, inr}
use Rattle.std.specs.Prelude.{map}
use Rattle.std.specs.List.{Contains}
use Rattle.std.proofs.lemmas.Bool.{false≢true}
use Rattle.std.proofs.lemmas.List.Elements.{Contains-push_cases, Contains-append_cases, Contains-append_left, Contains-push}
use Rattle.std.proofs.lemmas.Option.{slice_get-get_or}
use Rattle.structured_text.specs.declared.name.Name.{Name}
use Rattle.structured_text.specs.declared.name.Name.TheVariants.{Off, On, May, Sure, Opens, Closes}
use Rattle.structured_text.specs.declared.line.GapDenial.{GapDenial}
use Rattle.structured_text.specs.declared.line.GapDenial.TheVariants.{One, Two}
use Rattle.structured_text.specs.declared.line.LoadDenial.{LoadDenial}
use Rattle.structured_text.specs.declared.line.LoadDenial.TheVariants.{Loaded, Unbonded}
use Rattle.structured_text.specs.declared.line.Operand.{Operand}
use Rattle.structured_text.specs.declared.line.Operand.TheVariants.{Variable, Product, Sum}
use Rattle.structured_text.specs.declared.line.Formula.{Formula}
use Rattle.structured_text.specs.declared.line.Formula.TheVariants.{Always, Never, MayBeClosed, IsClosed, Both, Either, Apart, Unloaded, Released}
use Rattle.structured_text.specs.declared.line.Line.{Line}
use Rattle.structured_text.specs.Meaning.{Store, b_not, may_be_closed, is_closed, gap_denied, load_denied, operand_value, value}
use Rattle.structured_text.specs.Meaning.{same_name, assign, after}
use Rattle.structured_text.specs.Reads.{GapReads, LoadReads, OperandReads, FormulaReads}
use Rattle.structured_text.proofs.StoreLemmas.{eq_true, same_true, chosen, passed}
use Rattle.program_blocks.specs.declared.block.Block.{Block}
use Rattle.program_blocks.specs.declared.block.BlockCall.{BlockCall}
use Rattle.program_blocks.specs.Renaming.{outer, outer_gap, outer_load, outer_operand, outer_formula, outer_line}
use Rattle.program_blocks.specs.Calls.{State, filled, drawn, instance_after, call_after}
use Rattle.program_blocks.specs.Wiring.{IsGiven, IsLineWired, AreLinesWired, IsBlockWired}

and_same : (a b c d : Bool) → a ≡ b → c ≡ d → (a && c) ≡ (b && d)
and_same a b c d e f = ap (λ x. x && c) e ∙ ap (λ x. b && x) f

or_same : (a b c d : Bool) → a ≡ b → c ≡ d → (a || c) ≡ (b || d)
or_same a b c d e f = ap (λ x. x || c) e ∙ ap (λ x. b || x) f

-- ---- one variable is set
same_self : (n : Name) → same_name n n ≡ true
same_self (Off i) = eq_true i.0 i.0 refl
same_self (On i) = eq_true i.0 i.0 refl
same_self (May k) = eq_true k k refl
same_self (Sure k) = eq_true k k refl
same_self (Opens i) = eq_true i.0 i.0 refl
same_self (Closes i) = eq_true i.0 i.0 refl

other_name : (n m : Name) → n ≢ m → same_name n m ≡ false
other_name n m differ = by (same_name n m) refl
  where
    by : (q : Bool) → same_name n m ≡ q → same_name n m ≡ false
    by true e = absurd (differ (same_true n m e))
    by false e = e

assigned : (s : Store) (n : Name) (x : Bool) → assign s n x n ≡ x
assigned s n x = chosen (same_name n n) x (s n) (same_self n)

unassigned : (s : Store) (n : Name) (x : Bool) (m : Name) → n ≢ m → assign s n x m ≡ s m
unassigned s n x m differ = passed (same_name n m) x (s m) (other_name n m differ)

-- the value is wanted: that which is given, or that which was there
assigned_as : (s : Store) (n : Name) (x : Bool) (m : Name) (w : Bool) → (n ≡ m → x ≡ w) → s m ≡ w → assign s n x m ≡ w
assigned_as s n x m w given there = by (same_name n m) refl
  where
    by : (q : Bool) → same_name n m ≡ q → assign s n x m ≡ w
    by true e = chosen (same_name n m) x (s m) e ∙ given (same_true n m e)
    by false e = passed (same_name n m) x (s m) e ∙ there

pub both_assigned : (s u : Store) (n : Name) (x y : Bool) (m : Name) → x ≡ y → (n ≢ m → s m ≡ u m) →
    assign s n x m ≡ assign u n y m
both_assigned s u n x y m e there = by (same_name n m) refl
  where
    by : (q : Bool) → same_name n m ≡ q → assign s n x m ≡ assign u n y m
    by true is = chosen (same_name n m) x (s m) is ∙ (e ∙ sym (chosen (same_name n m) y (u m) is))
    by false is =
        let other : n ≢ m = λ same. false≢true (sym is ∙ (ap (λ z. same_name z m) same ∙ same_self m)) in
        passed (same_name n m) x (s m) is ∙ (there other ∙ sym (passed (same_name n m) y (u m) is))

listed : (xs : List Name) (n : Name) → Contains xs n → (k : ℕ) × (slice_get xs k ≡ Some n)
listed xs n (k, within, e) = (k, slice_get-get_or xs k n within ∙ ap Some e)

module _ (c : BlockCall) where
  -- ---- formulas
  module _ (P : Name → Type 0) (t u : Store) (agree : (n : Name) → P n → t n ≡ u (outer c n)) where
    gap_same : (g : GapDenial) → GapReads P g → gap_denied t g ≡ gap_denied u (outer_gap c g)
    gap_same (One a) p = agree a p
    gap_same (Two a b) p = and_same (t a) (u (outer c a)) (t b) (u (outer c b)) (agree a p.0) (agree b p.1)

    load_same : (l : LoadDenial) → LoadReads P l → load_denied t l ≡ load_denied u (outer_load c l)
    load_same (Loaded a b) p = and_same (t a) (u (outer c a)) (t b) (u (outer c b)) (agree a p.0) (agree b p.1)
    load_same (Unbonded a b e) p =
        and_same (t a) (u (outer c a)) (t b && b_not (t e)) (u (outer c b) && b_not (u (outer c e))) (agree a p.0)
        (and_same (t b) (u (outer c b)) (b_not (t e)) (b_not (u (outer c e))) (agree b p.1) (ap b_not (agree e p.2)))

    operand_same : (o : Operand) → OperandReads P o → operand_value t o ≡ operand_value u (outer_operand c o)
    operand_same (Variable a) p = agree a p
    operand_same (Product a b) p = and_same (t a) (u (outer c a)) (t b) (u (outer c b)) (agree a p.0) (agree b p.1)
    operand_same (Sum a b) p = or_same (t a) (u (outer c a)) (t b) (u (outer c b)) (agree a p.0) (agree b p.1)

    value_same : (f : Formula) → FormulaReads P f → value t f ≡ value u (outer_formula c f)
    value_same Always p = refl
    value_same Never p = refl
    value_same (MayBeClosed i) p =
        ap (λ x. may_be_closed x (t (On i))) (agree (Off i) p.0)
        ∙ ap (λ x. may_be_closed (u (outer c (Off i))) x) (agree (On i) p.1)
    value_same (IsClosed i) p =
        ap (λ x. is_closed x (t (On i))) (agree (Off i) p.0)
        ∙ ap (λ x. is_closed (u (outer c (Off i))) x) (agree (On i) p.1)
    value_same (Both a b) p =
        and_same (operand_value t a) (operand_value u (outer_operand c a)) (operand_value t b)
        (operand_value u (outer_operand c b)) (operand_same a p.0) (operand_same b p.1)
    value_same (Either a b) p =
        or_same (operand_value t a) (operand_value u (outer_operand c a)) (operand_value t b)
        (operand_value u (outer_operand c b)) (operand_same a p.0) (operand_same b p.1)
    value_same (Apart g) p = ap b_not (gap_same g p)
    value_same (Unloaded l) p = ap b_not (load_same l p)
    value_same (Released g l) p =
        and_same (b_not (gap_denied t g)) (b_not (gap_denied u (outer_gap c g))) (b_not (load_denied t l))
        (b_not (load_denied u (outer_load c l))) (ap b_not (gap_same g p.0)) (ap b_not (load_same l p.1))

  -- ---- inputs and outputs
  filled_keeps : (xs : List Name) (s t : Store) (n : Name) → t n ≡ s (outer c n) → filled c xs s t n ≡ s (outer c n)
  filled_keeps [] s t n e = e
  filled_keeps (x ∷ xs) s t n e =
      filled_keeps xs s (assign t x (s (outer c x))) n
      (assigned_as t x (s (outer c x)) n (s (outer c n)) (λ is. ap (λ m. s (outer c m)) is) e)

  filled_at : (xs : List Name) (s t : Store) (n : Name) (k : ℕ) → slice_get xs k ≡ Some n →
      filled c xs s t n ≡ s (outer c n)
  filled_at [] s t n k at = absurd (cc at)
  filled_at (x ∷ xs) s t n zero at =
      let is : x ≡ n = cc at in
      filled_keeps xs s (assign t x (s (outer c x))) n
      (ap (λ m. assign t x (s (outer c x)) m) (sym is) ∙ (assigned t x (s (outer c x)) ∙ ap (λ m. s (outer c m)) is))
  filled_at (x ∷ xs) s t n (suc k) at = filled_at xs s (assign t x (s (outer c x))) n k at

  module _ (t u : Store) where
    abbrev Outs : List Name → Type 0
    Outs xs = (k : ℕ) (n : Name) → slice_get xs k ≡ Some n → t n ≡ u (outer c n)

    drawn_keeps : (xs : List Name) (s : Store) (m : Name) → Outs xs → s m ≡ u m → drawn c xs t s m ≡ u m
    drawn_keeps [] s m out e = e
    drawn_keeps (x ∷ xs) s m out e =
        drawn_keeps xs (assign s (outer c x) (t x)) m (λ k n at. out (suc k) n at)
        (assigned_as s (outer c x) (t x) m (u m) (λ is. out 0 x refl ∙ ap u is) e)

    drawn_at : (xs : List Name) (s : Store) (m : Name) (k : ℕ) → Outs xs →
        slice_get (map (λ (n : Name). outer c n) xs) k ≡ Some m → drawn c xs t s m ≡ u m
    drawn_at [] s m k out at = absurd (cc at)
    drawn_at (x ∷ xs) s m zero out at =
        let is : outer c x ≡ m = cc at in
        drawn_keeps xs (assign s (outer c x) (t x)) m (λ k n at_k. out (suc k) n at_k)
        (ap (λ n. assign s (outer c x) (t x) n) (sym is) ∙ (assigned s (outer c x) (t x) ∙ (out 0 x refl ∙ ap u is)))
    drawn_at (x ∷ xs) s m (suc k) out at =
        drawn_at xs (assign s (outer c x) (t x)) m k (λ j n at_j. out (suc j) n at_j) at

  -- ---- lines
  module _ (known : List Name) where
    abbrev InnerAgree : List Name → Store → Store → Type 0
    InnerAgree inner t u = (n : Name) → Contains inner n → t n ≡ u (outer c n)

    abbrev outer_lines : List Line → List Line
    outer_lines xs = map (λ (x : Line). outer_line c x) xs

    line_same : (inner : List Name) (x : Line) (t u : Store) → IsLineWired known c inner x → InnerAgree inner t u →
        InnerAgree (inner ++ x.name ∷ []) (assign t x.name (value t x.formula))
        (assign u (outer c x.name) (value u (outer_formula c x.formula)))
    line_same inner x t u w agree n h = elim (Contains-push_cases inner x.name n h) [
      | inl old ↦
          let at = listed inner n old in
          let apart : outer c x.name ≢ outer c n = λ e. w.once at.0 n at.1 (sym e) in
          let other : x.name ≢ n = λ e. apart (ap (λ m. outer c m) e) in
          unassigned t x.name (value t x.formula) n other
          ∙ (agree n old
          ∙ sym (unassigned u (outer c x.name) (value u (outer_formula c x.formula)) (outer c n) apart))
      | inr is ↦
          ap (λ m. assign t x.name (value t x.formula) m) (sym is)
          ∙ (assigned t x.name (value t x.formula)
          ∙ (value_same (IsGiven false inner) t u agree x.formula w.reads
          ∙ (sym (assigned u (outer c x.name) (value u (outer_formula c x.formula)))
          ∙ ap (λ m. assign u (outer c x.name) (value u (outer_formula c x.formula)) (outer c m)) is)))
    ]

    lines_keep : (inner : List Name) (xs : List Line) (t u : Store) (n : Name) → AreLinesWired known c inner xs →
        InnerAgree inner t u → Contains inner n → after xs t n ≡ after (outer_lines xs) u (outer c n)
    lines_keep inner [] t u n w agree h = agree n h
    lines_keep inner (x ∷ xs) t u n w agree h =
        lines_keep (inner ++ x.name ∷ []) xs (assign t x.name (value t x.formula))
        (assign u (outer c x.name) (value u (outer_formula c x.formula))) n w.1 (line_same inner x t u w.0 agree)
        (Contains-append_left inner (x.name ∷ []) n h)

    lines_same : (inner : List Name) (xs : List Line) (t u : Store) (n : Name) (k : ℕ) (y : Line) →
        AreLinesWired known c inner xs → InnerAgree inner t u → slice_get xs k ≡ Some y → y.name ≡ n →
        after xs t n ≡ after (outer_lines xs) u (outer c n)
    lines_same inner [] t u n k y w agree at e = absurd (cc at)
    lines_same inner (x ∷ xs) t u n zero y w agree at e =
        let is : x ≡ y = cc at in
        let named : x.name ≡ n = ap (λ (z : Line). z.name) is ∙ e in
        lines_keep (inner ++ x.name ∷ []) xs (assign t x.name (value t x.formula))
        (assign u (outer c x.name) (value u (outer_formula c x.formula))) n w.1 (line_same inner x t u w.0 agree)
        (subst (λ m. Contains (inner ++ x.name ∷ []) m) named (Contains-push inner x.name))
    lines_same inner (x ∷ xs) t u n (suc k) y w agree at e =
        lines_same (inner ++ x.name ∷ []) xs (assign t x.name (value t x.formula))
        (assign u (outer c x.name) (value u (outer_formula c x.formula))) n k y w.1 (line_same inner x t u w.0 agree) at e

    known_kept : (inner : List Name) (xs : List Line) (u : Store) (m : Name) → AreLinesWired known c inner xs →
        IsGiven true known m → after (outer_lines xs) u m ≡ u m
    known_kept inner [] u m w h = refl
    known_kept inner (x ∷ xs) u m w h =
        known_kept (inner ++ x.name ∷ []) xs (assign u (outer c x.name) (value u (outer_formula c x.formula))) m w.1 h
        ∙ unassigned u (outer c x.name) (value u (outer_formula c x.formula)) m
        (λ e. w.0.fresh (subst (IsGiven true known) (sym e) h))

    -- ---- a call
    pub block_same : (b : Block) (k : ℕ) (st : State) (u : Store) → IsBlockWired known c b →
        ((m : Name) → IsGiven true known m → st.variables m ≡ u m) → (m : Name) →
        IsGiven true (known ++ map (λ (n : Name). outer c n) b.outputs.items) m →
        (call_after c (Some b) k st).variables m ≡ after (outer_lines b.lines.items) u m
    block_same b k st u w agree m h = by h
      where
        start : Store
        start = filled c b.inputs.items st.variables (st.instances k)

        inputs_agree : InnerAgree b.inputs.items start u
        inputs_agree n there =
            let at = listed b.inputs.items n there in
            filled_at b.inputs.items st.variables (st.instances k) n at.0 at.1 ∙ agree (outer c n) (w.inputs at.0 n at.1)

        outs : Outs (instance_after c b k st) (after (outer_lines b.lines.items) u) b.outputs.items
        outs j n at =
            let set = w.outputs j n at in
            lines_same b.inputs.items b.lines.items start u n set.0 set.1 w.lines inputs_agree set.2 set.3

        old : IsGiven true known m → (call_after c (Some b) k st).variables m ≡ after (outer_lines b.lines.items) u m
        old there =
            drawn_keeps (instance_after c b k st) (after (outer_lines b.lines.items) u) b.outputs.items st.variables m outs
            (agree m there ∙ sym (known_kept b.inputs.items b.lines.items u m w.lines there))

        by : IsGiven true (known ++ map (λ (n : Name). outer c n) b.outputs.items) m →
            (call_after c (Some b) k st).variables m ≡ after (outer_lines b.lines.items) u m
        by (inl input) = old (inl input)
        by (inr there) = elim (Contains-append_cases known (map (λ (n : Name). outer c n) b.outputs.items) m there) [
          | inl before ↦ old (inr before)
          | inr new ↦
              let at = listed (map (λ (n : Name). outer c n) b.outputs.items) m new in
              drawn_at (instance_after c b k st) (after (outer_lines b.lines.items) u) b.outputs.items st.variables m at.0
              outs at.1
        ]
