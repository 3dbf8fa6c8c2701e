-- What the labels of the inner graphs say decides the answers for the operations of a bay, and other labels
-- give other answers.
use Rattle.std.proofs.Common.{◌≡◌, ◌≢◌, ℕ, ◌<◌, ◌⊎◌, ◌↔◌, zero, suc, Bool, List, Option, Some, None, refl, sym, ◌∙◌}
use Rattle.std.proofs.Common.{subst, inl, inr, arith}
use Rattle.std.proofs.lemmas.Bool.{cases_eq}
use Rattle.ilk_base.specs.declared.words.Direction.{Direction}
use Rattle.ilk_base.specs.declared.words.Direction.TheVariants.{ToOff, ToOn}
use Rattle.ilk_base.specs.declared.words.Op.{Op}
use Rattle.ilk_base.specs.declared.words.Rule.{Rule}
use Rattle.ilk_base.specs.declared.words.Rule.TheVariants.{R1, R2, R3}
use Rattle.station_graph.specs.Diagram.{Diagram}
use Rattle.station_graph.specs.Connection.{a_switch}
use Rattle.station_graph.specs.Sharing.{OfPart}
use Rattle.station_graph.specs.Alike.{IsVector, DifferInPart}
use Rattle.station_graph.specs.CentralRules.{Applies, Breaks, GapBreaks}
use Rattle.judge_pool.specs.declared.view.View.TheVariants.{Gap, Load}
use Rattle.judge_pool.specs.Graphs.{LabelSays, gap_rule}

-- Bay b is a partner of bay c, shown by two vectors that differ in switches of b alone and an operation of a
-- switch of c that has an answer in one of them and not in the other.
pub record Shown (d : Diagram) (b c : ℕ) : Type 0 where
  pub one : List Bool
  pub other : List Bool
  pub one_whole : IsVector d one
  pub other_whole : IsVector d other
  pub differ : DifferInPart d b one other
  pub op : Op
  pub own : OfPart d c (a_switch op.switch.0)
  pub answer : Option Rule
  pub given : Breaks d one op answer
  pub not_given : ¬ Breaks d other op answer

-- only closing breaks one of the first two rules
opening_free : (d : Diagram) (v : List Bool) (op : Op) → op.direction ≡ ToOff → GapBreaks d v op None
opening_free d v op opens = (
  λ h. absurd (let e = h.closes in cc),
  λ h. elim h [ inl k ↦ absurd (let e = k.closes in cc) | inr k ↦ absurd (let e = k.closes in cc) ],
)

-- the first two rules give the same in both, and so does the third: the answers are the same
breaks_along : (d : Diagram) (v w : List Bool) (op : Op) (r : Option Rule) → GapBreaks d v op r → GapBreaks d w op r →
    Applies R3 d v op ↔ Applies R3 d w op → (answer : Option Rule) → Breaks d v op answer → Breaks d w op answer
breaks_along d v w op None gv gw load None b = (gw.0, gw.1, λ h. b.2 (load.1 h))
breaks_along d v w op None gv gw load (Some R1) b = absurd (gv.0 b)
breaks_along d v w op None gv gw load (Some R2) b = absurd (gv.1 b.1)
breaks_along d v w op None gv gw load (Some R3) b = (gw.0, gw.1, load.0 b.2)
breaks_along d v w op (Some R1) gv gw load None b = absurd (b.0 gv)
breaks_along d v w op (Some R1) gv gw load (Some R1) b = gw
breaks_along d v w op (Some R1) gv gw load (Some R2) b = absurd (b.0 gv)
breaks_along d v w op (Some R1) gv gw load (Some R3) b = absurd (b.0 gv)
breaks_along d v w op (Some R2) gv gw load None b = absurd (b.1 gv.1)
breaks_along d v w op (Some R2) gv gw load (Some R1) b = absurd (gv.0 b)
breaks_along d v w op (Some R2) gv gw load (Some R2) b = gw
breaks_along d v w op (Some R2) gv gw load (Some R3) b = absurd (b.1 gv.1)
breaks_along d v w op (Some R3) gv gw load answer b = absurd gv

pub same_breaks : (d : Diagram) (v w : List Bool) (op : Op) (r : Option Rule) → GapBreaks d v op r →
    GapBreaks d w op r → Applies R3 d v op ↔ Applies R3 d w op → (answer : Option Rule) → Breaks d v op answer ↔
    Breaks d w op answer
same_breaks d v w op r gv gw load answer =
    (breaks_along d v w op r gv gw load answer, breaks_along d w v op r gw gv (load.1, load.0) answer)

-- ONE LABEL OF EACH VIEW: the answers for the switch are the same
pub says_same : (d : Diagram) (m : ℕ) (v w : List Bool) (gap load : ℕ) → LabelSays Gap d m v gap
    → LabelSays Gap d m w gap →
    LabelSays Load d m v load → LabelSays Load d m w load → (op : Op) → op.switch.0 ≡ m → (answer : Option Rule) →
    Breaks d v op answer ↔ Breaks d w op answer
says_same d m v w gap load gap_v gap_w load_v load_w op moves answer = by op.direction refl where
  third : Applies R3 d v op ↔ Applies R3 d w op
  third = (λ h. (load_w op moves).0 ((load_v op moves).1 h), λ h. (load_v op moves).0 ((load_w op moves).1 h))

  by : (direction : Direction) → op.direction ≡ direction → Breaks d v op answer ↔ Breaks d w op answer
  by ToOff e = same_breaks d v w op None (opening_free d v op e) (opening_free d w op e) third answer
  by ToOn e = same_breaks d v w op (gap_rule gap) (gap_v op moves e) (gap_w op moves e) third answer

-- ---- other labels: another answer, of closing by the gap view, of opening by the load view

-- the vectors are interchanged
pub shown_back : (d : Diagram) (b : ℕ) (v w : List Bool) → DifferInPart d b v w → DifferInPart d b w v
shown_back d b v w differ i not_b = sym (differ i not_b)

abbrev closing : ℕ → Op
closing m = record { switch = record { 0 = m }; direction = ToOn }

abbrev opening : ℕ → Op
opening m = record { switch = record { 0 = m }; direction = ToOff }

-- what the first two rules give is an answer
gap_gives : (d : Diagram) (v : List Bool) (op : Op) (r : Rule) → GapBreaks d v op (Some r) → Breaks d v op (Some r)
gap_gives d v op R1 g = g
gap_gives d v op R2 g = g
gap_gives d v op R3 g = absurd g

-- and no other rule of them
gap_refuses : (d : Diagram) (v : List Bool) (op : Op) (r : Rule) (other : Option Rule) → r ≢ R3 → other ≢ Some r →
    GapBreaks d v op other → ¬ Breaks d v op (Some r)
gap_refuses d v op R1 None third ne g b = g.0 b
gap_refuses d v op R2 None third ne g b = g.1 b.1
gap_refuses d v op R3 other third ne g b = third refl
gap_refuses d v op R1 (Some R1) third ne g b = ne refl
gap_refuses d v op R1 (Some R2) third ne g b = g.0 b
gap_refuses d v op R1 (Some R3) third ne g b = g
gap_refuses d v op R2 (Some R1) third ne g b = b.0 g
gap_refuses d v op R2 (Some R2) third ne g b = ne refl
gap_refuses d v op R2 (Some R3) third ne g b = g

-- two labels of an inner gap graph say two things
pub rules_apart : (x y : ℕ) → x < 3 → y < 3 → x ≢ y →
    ((r : Rule) × (gap_rule x ≡ Some r) × (r ≢ R3) × (gap_rule y ≢ Some r))
    ⊎ ((r : Rule) × (gap_rule y ≡ Some r) × (r ≢ R3) × (gap_rule x ≢ Some r))
rules_apart zero zero in_x in_y ne = absurd (ne refl)
rules_apart zero (suc zero) in_x in_y ne = inr (R1, refl, λ e. cc, λ e. cc)
rules_apart zero (suc (suc zero)) in_x in_y ne = inr (R2, refl, λ e. cc, λ e. cc)
rules_apart (suc zero) zero in_x in_y ne = inl (R1, refl, λ e. cc, λ e. cc)
rules_apart (suc zero) (suc zero) in_x in_y ne = absurd (ne refl)
rules_apart (suc zero) (suc (suc zero)) in_x in_y ne = inl (R1, refl, λ e. cc, λ e. cc)
rules_apart (suc (suc zero)) zero in_x in_y ne = inl (R2, refl, λ e. cc, λ e. cc)
rules_apart (suc (suc zero)) (suc zero) in_x in_y ne = inl (R2, refl, λ e. cc, λ e. cc)
rules_apart (suc (suc zero)) (suc (suc zero)) in_x in_y ne = absurd (ne refl)
rules_apart x (suc (suc (suc y))) in_x in_y ne = absurd (omega (arith, in_y))
rules_apart (suc (suc (suc x))) y in_x in_y ne = absurd (omega (arith, in_x))

module _ (d : Diagram) (b c m : ℕ) (own : OfPart d c (a_switch m)) (v w : List Bool) (whole_v : IsVector d v)
    (whole_w : IsVector d w) (differ : DifferInPart d b v w) where
  gap_one_way : (x y : ℕ) → LabelSays Gap d m v x → LabelSays Gap d m w y →
      (r : Rule) × (gap_rule x ≡ Some r) × (r ≢ R3) × (gap_rule y ≢ Some r) → Shown d b c
  gap_one_way x y says_v says_w t = record {
    one = v;
    other = w;
    one_whole = whole_v;
    other_whole = whole_w;
    differ = differ;
    op = closing m;
    own = own;
    answer = Some t.0;
    given = gap_gives d v (closing m) t.0 (subst (λ r. GapBreaks d v (closing m) r) t.1 (says_v (closing m) refl refl));
    not_given = gap_refuses d w (closing m) t.0 (gap_rule y) t.2 t.3 (says_w (closing m) refl refl);
  }

  load_one_way : (x y : ℕ) → LabelSays Load d m v x → LabelSays Load d m w y → x ≡ 1 → y ≢ 1 → Shown d b c
  load_one_way x y says_v says_w one not_one = record {
    one = v;
    other = w;
    one_whole = whole_v;
    other_whole = whole_w;
    differ = differ;
    op = opening m;
    own = own;
    answer = Some R3;
    given = (let g = opening_free d v (opening m) refl in (g.0, g.1, (says_v (opening m) refl).0 one));
    not_given = λ h. not_one ((says_w (opening m) refl).1 h.2);
  }

pub gap_shows : (d : Diagram) (b c m : ℕ) (v w : List Bool) (x y : ℕ) → OfPart d c (a_switch m) → IsVector d v →
    IsVector d w → DifferInPart d b v w → LabelSays Gap d m v x → LabelSays Gap d m w y → x < 3 → y < 3 → x ≢ y
    → Shown d b c
gap_shows d b c m v w x y own whole_v whole_w differ says_v says_w in_x in_y ne = elim (rules_apart x y in_x in_y ne) [
  | inl t ↦ gap_one_way d b c m own v w whole_v whole_w differ x y says_v says_w t
  | inr t ↦ gap_one_way d b c m own w v whole_w whole_v (shown_back d b v w differ) y x says_w says_v t
]

pub load_shows : (d : Diagram) (b c m : ℕ) (v w : List Bool) (x y : ℕ) → OfPart d c (a_switch m) → IsVector d v →
    IsVector d w → DifferInPart d b v w → LabelSays Load d m v x → LabelSays Load d m w y → x < 2 → y < 2 → x ≢ y
    → Shown d b c
load_shows d b c m v w x y own whole_v whole_w differ says_v says_w in_x in_y ne = elim (cases_eq x 1) [
  | inl e ↦ load_one_way d b c m own v w whole_v whole_w differ x y says_v says_w e (λ q. ne (e ∙ sym q))
  | inr not_one ↦
      load_one_way d b c m own w v whole_w whole_v (shown_back d b v w differ) y x says_w says_v
      (omega (arith, in_x, in_y, ne, not_one)) not_one
]
