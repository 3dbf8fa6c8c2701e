-- The worst word of what is found of an operation is its word.
use Rattle.std.proofs.Common.{◌≡◌, ◌⊎◌, Bool, true, false, List, Option, Some, None, refl, subst, inl, inr}
use Rattle.std.specs.Prelude.{if◌then◌else◌, option_map}
use Rattle.ilk_base.specs.declared.words.Op.{Op}
use Rattle.ilk_base.specs.declared.words.Rule.{Rule}
use Rattle.ilk_base.specs.declared.words.Rule.TheVariants.{R1, R2, R3}
use Rattle.station_graph.specs.Diagram.{Diagram}
use Rattle.station_changes.specs.declared.change.Change.{Change}
use Rattle.station_changes.specs.declared.change.Change.TheVariants.{Stricter, Looser}
use Rattle.station_changes.specs.Compare.{IsJoint, IsIsolated, IsChange, IsPart, Shows}
use Rattle.change_search.specs.declared.part.Shown.{Shown}
use Rattle.change_search.specs.Showing.{witness_of}
use Rattle.station_compare.specs.declared.found.OperationChanges.{OperationChanges}
use Rattle.station_compare.specs.declared.word.Word.{Word}
use Rattle.station_compare.specs.declared.word.Word.TheVariants.{Same, Kept, Changed}
use Rattle.station_compare.specs.Words.{ShowsSome, IsWord, worse, part_word, word_of}
use Rattle.station_compare.specs.Comparing.{AreChanges}

-- the position shows one of these changes
record SomeIn (o n : Diagram) (a b : Op) (These : Change → Rule → Type 0) (u v : List Bool) : Type 0 where
  change : Change
  rule : Rule
  among : These change rule
  joint : IsJoint o n u v
  shows : IsChange o n a b change rule u v

-- some position shows one, and none that is isolated
record KeptIn (o n : Diagram) (a b : Op) (These : Change → Rule → Type 0) : Type 0 where
  old : List Bool
  new : List Bool
  found : SomeIn o n a b These old new
  none : (u v : List Bool) → SomeIn o n a b These u v → ¬ IsIsolated o n u v

-- an isolated one does
record ChangedIn (o n : Diagram) (a b : Op) (These : Change → Rule → Type 0) : Type 0 where
  old : List Bool
  new : List Bool
  found : SomeIn o n a b These old new
  isolated : IsIsolated o n old new

-- the word of the operation where these changes alone count
abbrev WordIn : Diagram → Diagram → Op → Op → (Change → Rule → Type 0) → Word → Type 0
WordIn o n a b These Same = (u v : List Bool) → ¬ SomeIn o n a b These u v
WordIn o n a b These Kept = KeptIn o n a b These
WordIn o n a b These Changed = ChangedIn o n a b These

abbrev Either : (Change → Rule → Type 0) → (Change → Rule → Type 0) → Change → Rule → Type 0
Either P Q change rule = P change rule ⊎ Q change rule

abbrev Only : Change → Rule → Change → Rule → Type 0
Only change rule c r = (c ≡ change) × (r ≡ rule)

module _ (o n : Diagram) (a b : Op) where
  same_shown : (change c : Change) (rule r : Rule) (u v : List Bool) → Only change rule c r →
      IsChange o n a b c r u v → IsChange o n a b change rule u v
  same_shown change c rule r u v e h =
      subst (λ (x : Change). IsChange o n a b x rule u v) e.0
      (subst (λ (y : Rule). IsChange o n a b c y u v) e.1 h)

  -- ---- one change by one rule

  module _ (change : Change) (rule : Rule) where
    shown_word : (s : Shown) → Shows o n a b change rule (witness_of s) → (i : Bool) → s.isolated ≡ i →
        WordIn o n a b (Only change rule) (if i then Changed else Kept)
    shown_word s h true e = record {
      old = s.old_closed.items;
      new = s.new_closed.items;
      found = record { change = change; rule = rule; among = (refl, refl); joint = h.joint; shows = h.shows };
      isolated = h.isolated e;
    }
    shown_word s h false e = record {
      old = s.old_closed.items;
      new = s.new_closed.items;
      found = record { change = change; rule = rule; among = (refl, refl); joint = h.joint; shows = h.shows };
      none = λ u v x iso.
          h.none_isolated e u v x.joint iso (same_shown change x.change rule x.rule u v x.among x.shows);
    }

    of_part : (found : Option Shown) → IsPart o n a b change rule (option_map witness_of found) →
        WordIn o n a b (Only change rule) (part_word found)
    of_part None none =
        λ u v x. none u v x.joint (same_shown change x.change rule x.rule u v x.among x.shows)
    of_part (Some s) h = shown_word s h s.isolated refl

  -- ---- several

  module _ (P Q : Change → Rule → Type 0) where
    first : (u v : List Bool) → SomeIn o n a b P u v → SomeIn o n a b (Either P Q) u v
    first u v x = record {
      change = x.change;
      rule = x.rule;
      among = inl x.among;
      joint = x.joint;
      shows = x.shows;
    }

    second : (u v : List Bool) → SomeIn o n a b Q u v → SomeIn o n a b (Either P Q) u v
    second u v x = record {
      change = x.change;
      rule = x.rule;
      among = inr x.among;
      joint = x.joint;
      shows = x.shows;
    }

    -- what holds of the positions of both kinds
    both : (T : List Bool → List Bool → Type 0) → ((u v : List Bool) → SomeIn o n a b P u v → T u v) →
        ((u v : List Bool) → SomeIn o n a b Q u v → T u v) → (u v : List Bool) → SomeIn o n a b (Either P Q) u v →
        T u v
    both T p q u v x = elim x.among [
      | inl h ↦ p u v
          (record { change = x.change; rule = x.rule; among = h; joint = x.joint; shows = x.shows })
      | inr h ↦ q u v
          (record { change = x.change; rule = x.rule; among = h; joint = x.joint; shows = x.shows })
    ]

    changed_first : ChangedIn o n a b P → ChangedIn o n a b (Either P Q)
    changed_first h = record {
      old = h.old;
      new = h.new;
      found = first h.old h.new h.found;
      isolated = h.isolated;
    }

    changed_second : ChangedIn o n a b Q → ChangedIn o n a b (Either P Q)
    changed_second h = record {
      old = h.old;
      new = h.new;
      found = second h.old h.new h.found;
      isolated = h.isolated;
    }

    join : (w x : Word) → WordIn o n a b P w → WordIn o n a b Q x → WordIn o n a b (Either P Q) (worse w x)
    join Changed x p q = changed_first p
    join Kept Changed p q = changed_second q
    join Kept Kept p q = record {
      old = p.old;
      new = p.new;
      found = first p.old p.new p.found;
      none = both (λ u v. ¬ IsIsolated o n u v) p.none q.none;
    }
    join Kept Same p q = record {
      old = p.old;
      new = p.new;
      found = first p.old p.new p.found;
      none = both (λ u v. ¬ IsIsolated o n u v) p.none (λ u v s. absurd (q u v s));
    }
    join Same Changed p q = changed_second q
    join Same Kept p q = record {
      old = q.old;
      new = q.new;
      found = second q.old q.new q.found;
      none = both (λ u v. ¬ IsIsolated o n u v) (λ u v s. absurd (p u v s)) q.none;
    }
    join Same Same p q = both (λ u v. ⊥) p q

  -- ---- all of them

  module _ (These : Change → Rule → Type 0) (all : (change : Change) (rule : Rule) → These change rule) where
    of_all : (u v : List Bool) → ShowsSome o n a b u v → SomeIn o n a b These u v
    of_all u v x = record {
      change = x.change;
      rule = x.rule;
      among = all x.change x.rule;
      joint = x.joint;
      shows = x.shows;
    }

    some_of : (u v : List Bool) → SomeIn o n a b These u v → ShowsSome o n a b u v
    some_of u v x = record { change = x.change; rule = x.rule; joint = x.joint; shows = x.shows }

    whole : (w : Word) → WordIn o n a b These w → IsWord o n a b w
    whole Same h = λ u v x. h u v (of_all u v x)
    whole Kept h = record {
      old = h.old;
      new = h.new;
      shows = some_of h.old h.new h.found;
      none_isolated = λ u v x. h.none u v (of_all u v x);
    }
    whole Changed h = record {
      old = h.old;
      new = h.new;
      shows = some_of h.old h.new h.found;
      isolated = h.isolated;
    }

-- the three rules of a change
abbrev Three : Change → Change → Rule → Type 0
Three change = Either (Either (Only change R1) (Only change R2)) (Only change R3)

each_rule : (change : Change) (rule : Rule) → Three change change rule
each_rule change R1 = inl (inl (refl, refl))
each_rule change R2 = inl (inr (refl, refl))
each_rule change R3 = inr (refl, refl)

each_change : (change : Change) (rule : Rule) → Either (Three Stricter) (Three Looser) change rule
each_change Stricter rule = inl (each_rule Stricter rule)
each_change Looser rule = inr (each_rule Looser rule)

pub says_word : (o n : Diagram) (a b : Op) (c : OperationChanges) → AreChanges o n a b c → IsWord o n a b (word_of c)
says_word o n a b c h =
    whole o n a b (Either (Three Stricter) (Three Looser)) each_change (word_of c)
    (join o n a b (Three Stricter) (Three Looser) _ _
    (join o n a b (Either (Only Stricter R1) (Only Stricter R2)) (Only Stricter R3) _ _
    (join o n a b (Only Stricter R1) (Only Stricter R2) _ _
    (of_part o n a b Stricter R1 c.stricter.by_r1 h.stricter.first)
    (of_part o n a b Stricter R2 c.stricter.by_r2 h.stricter.second))
    (of_part o n a b Stricter R3 c.stricter.by_r3 h.stricter.third))
    (join o n a b (Either (Only Looser R1) (Only Looser R2)) (Only Looser R3) _ _
    (join o n a b (Only Looser R1) (Only Looser R2) _ _
    (of_part o n a b Looser R1 c.looser.by_r1 h.looser.first)
    (of_part o n a b Looser R2 c.looser.by_r2 h.looser.second))
    (of_part o n a b Looser R3 c.looser.by_r3 h.looser.third)))
