-- The text of both rows, part by part.
use Rattle.std.proofs.Common.{◌≡◌, ℕ, ◌++◌, Bool, List, length, ◌∙◌, ap, subst, append_assoc}
use Rattle.contraction.specs.declared.row.Row.{Row}
use Rattle.contraction.specs.declared.layout.Layout.{Layout}
use Rattle.contraction.specs.Merging.{LabelsOfBoth}
use Rattle.contraction.specs.Restricting.{FlagsAt}
use Rattle.contraction.specs.Rows.{words, flags}
use Rattle.contraction.specs.Selecting.{AreBothMarks, IsGapPart, IsLoadPart, IsGapText, IsLoadText}

-- what is worked out of marks is that of the marks that these are
pub flags_seen : (labels places first : List ℕ) (x x1 : List Bool) (second : List ℕ) (y y1 : List Bool)
    (row : List ℕ) → x ≡ x1 → y ≡ y1 → FlagsAt labels places first x second y row →
    FlagsAt labels places first x1 second y1 row
flags_seen labels places first x x1 second y y1 row ex ey h =
    subst (λ z. FlagsAt labels places first x1 second z row) ey
    (subst (λ z. FlagsAt labels places first z second y row) ex h)

one_by_one : (a b c d : List ℕ) → a ++ (b ++ (c ++ d)) ≡ a ++ b ++ c ++ d
one_by_one a b c d = simp append_assoc

bonds_between : (a b e c d : List ℕ) → a ++ (b ++ (e ++ (c ++ d))) ≡ a ++ b ++ e ++ c ++ d
bonds_between a b e c d = simp append_assoc

module _ (s : Layout) (x y : Row) (wide : List ℕ)
    (composes : LabelsOfBoth s.union.first.items x.labels s.union.second.items y.labels (length s.union.kept.items)
    wide) where
  marks_are : (marks : List ℕ) (m : AreBothMarks s wide x y marks) →
      marks ≡ flags m.firsts.marks ++ flags m.seconds.marks
  marks_are marks m =
      m.bytes ∙ ap (λ (t : List ℕ). t ++ m.second) m.firsts.bytes
      ∙ ap (λ (t : List ℕ). flags m.firsts.marks ++ t) m.seconds.bytes

  pub gap_text_of : (start row text : List ℕ) → start ≡ s.bytes → IsGapPart s wide x y row → text ≡ start ++ row →
      IsGapText s x y text
  gap_text_of start row text begins p adds =
      let m = p.marked in
      record {
        wide = wide;
        labels = p.written.few;
        first = m.firsts.marks;
        second = m.seconds.marks;
        composes = composes;
        restricts = p.written.are;
        firsts = m.firsts.are;
        seconds = m.seconds.are;
        bytes =
            adds ∙ ap (λ (t : List ℕ). t ++ row) begins ∙ ap (λ (t : List ℕ). s.bytes ++ t) (p.bytes
            ∙ ap (λ (t : List ℕ). t ++ p.marks) p.written.bytes
            ∙ ap (λ (t : List ℕ). words p.written.few ++ t) (marks_are p.marks m))
            ∙ one_by_one s.bytes (words p.written.few) (flags m.firsts.marks) (flags m.seconds.marks);
      }

  pub load_text_of : (x_bonds y_bonds start row text : List ℕ) → start ≡ s.bytes →
      IsLoadPart s wide x y x_bonds y_bonds row → text ≡ start ++ row → IsLoadText s x y x_bonds y_bonds text
  load_text_of x_bonds y_bonds start row text begins p adds =
      let m = p.marked in
      let b = p.bonded in
      record {
        wide = wide;
        labels = p.written.few;
        bonds = b.written.few;
        first = m.firsts.marks;
        second = m.seconds.marks;
        composes = composes;
        restricts = p.written.are;
        bonded = record { wide = b.wide; composes = b.composes; restricts = b.written.are };
        firsts = m.firsts.are;
        seconds = m.seconds.are;
        bytes =
            adds ∙ ap (λ (t : List ℕ). t ++ row) begins ∙ ap (λ (t : List ℕ). s.bytes ++ t) (p.bytes
            ∙ ap (λ (t : List ℕ). t ++ (p.bonds ++ p.marks)) p.written.bytes
            ∙ ap (λ (t : List ℕ). words p.written.few ++ t) (ap (λ (t : List ℕ). t ++ p.marks) b.written.bytes
            ∙ ap (λ (t : List ℕ). words b.written.few ++ t) (marks_are p.marks m)))
            ∙ bonds_between s.bytes (words p.written.few) (words b.written.few) (flags m.firsts.marks)
            (flags m.seconds.marks);
      }
