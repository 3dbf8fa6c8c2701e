-- An order undone leads back, and no step of it is idle.
use Rattle.std.proofs.Common.{◌≡◌, ◌≢◌, ◌∙◌, sym, ap, subst, refl, ℕ, zero, suc, Bool, true, false, List, [], ◌∷◌}
use Rattle.std.proofs.Common.{◌++◌, Some, None}
use Rattle.std.specs.Prelude.{slice_get, slice_set, ⊤, map, reverse}
use Rattle.std.proofs.lemmas.Option.{none-some, same_Some}
use Rattle.std.proofs.lemmas.List.{reverse-append}
use Rattle.ilk_base.specs.declared.words.Direction.{Direction}
use Rattle.ilk_base.specs.declared.words.Direction.TheVariants.{ToOff, ToOn}
use Rattle.ilk_base.specs.declared.words.Op.{Op}
use Rattle.station_graph.specs.CentralRules.{wanted_end, carried_out}
use Rattle.switching_orders.specs.OrderRuling.{after_all, IsIdle}
use Rattle.switching_orders.specs.Undoing.{other_way, opposite, undone}
use Rattle.switching_orders.proofs.Steps.{EachAfter, EachAfter-push, after_all-append}

other_position : (way : Direction) → wanted_end way ≢ wanted_end (other_way way)
other_position ToOff e = cc
other_position ToOn e = cc

-- of two positions a switch has one or the other
the_other : (x b c : Bool) → x ≢ b → b ≢ c → c ≡ x
the_other true true c off differ = absurd (off refl)
the_other true false true off differ = refl
the_other true false false off differ = absurd (differ refl)
the_other false false c off differ = absurd (off refl)
the_other false true true off differ = absurd (differ refl)
the_other false true false off differ = refl

set_back : (v : List Bool) (i : ℕ) (b c : Bool) → slice_get v i ≢ Some b → b ≢ c → slice_set (slice_set v i b) i c ≡ v
set_back [] zero b c off differ = refl
set_back [] (suc i) b c off differ = refl
set_back (x ∷ v) zero b c off differ = ap (λ y. y ∷ v) (the_other x b c (λ e. off (ap Some e)) differ)
set_back (x ∷ v) (suc i) b c off differ = ap (λ (w : List Bool). x ∷ w) (set_back v i b c off differ)

get_set : (v : List Bool) (i : ℕ) (b c : Bool) → b ≢ c → slice_get (slice_set v i b) i ≢ Some c
get_set [] zero b c differ e = none-some c e
get_set [] (suc i) b c differ e = none-some c e
get_set (x ∷ v) zero b c differ e = differ (same_Some b c e)
get_set (x ∷ v) (suc i) b c differ e = get_set v i b c differ e

moved_back : (v : List Bool) (op : Op) → ¬ IsIdle v op → carried_out (carried_out v op) (opposite op) ≡ v
moved_back v op idle = set_back v op.switch.0 (wanted_end op.direction) (wanted_end (other_way op.direction)) idle
    (other_position op.direction)

not_idle_back : (v : List Bool) (op : Op) → ¬ IsIdle (carried_out v op) (opposite op)
not_idle_back v op = get_set v op.switch.0 (wanted_end op.direction) (wanted_end (other_way op.direction))
    (other_position op.direction)

pub map-append_one : {A B : Type 0} (f : A → B) (xs : List A) (x : A) → map f (xs ++ x ∷ []) ≡ map f xs ++ f x ∷ []
map-append_one f [] x = refl
map-append_one {B = B} f (y ∷ xs) x = ap (λ (zs : List B). f y ∷ zs) (map-append_one f xs x)

undone-cons : (op : Op) (ops : List Op) → undone (op ∷ ops) ≡ undone ops ++ opposite op ∷ []
undone-cons op ops = ap (map opposite) (reverse-append (op ∷ []) ops) ∙ map-append_one opposite (reverse ops) op

abbrev pub Moves : List Bool → Op → Type 0
Moves v op = ¬ IsIdle v op

pub leads_back : (v : List Bool) (ops : List Op) → EachAfter Moves v ops → after_all (after_all v ops) (undone ops) ≡ v
leads_back v [] each = refl
leads_back v (op ∷ ops) each =
    ap (after_all (after_all (carried_out v op) ops)) (undone-cons op ops)
    ∙ after_all-append (after_all (carried_out v op) ops) (undone ops) (opposite op ∷ [])
    ∙ ap (λ w. carried_out w (opposite op)) (leads_back (carried_out v op) ops each.1)
    ∙ moved_back v op each.0

pub moves_back : (v : List Bool) (ops : List Op) → EachAfter Moves v ops →
    EachAfter Moves (after_all v ops) (undone ops)
moves_back v [] each = tt
moves_back v (op ∷ ops) each =
    subst (EachAfter Moves (after_all (carried_out v op) ops)) (sym (undone-cons op ops))
    (EachAfter-push Moves (after_all (carried_out v op) ops) (undone ops) (opposite op)
    (moves_back (carried_out v op) ops each.1)
    (subst (λ w. Moves w (opposite op)) (sym (leads_back (carried_out v op) ops each.1)) (not_idle_back v op)))
