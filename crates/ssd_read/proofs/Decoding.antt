-- What is kept of the elements of a drawing.
use Rattle.std.proofs.Common.{◌≡◌, ℕ, ◌<◌, List, [], ◌∷◌, ◌++◌, length, get_or, Option, Some, Bool, true, false}
use Rattle.std.proofs.Common.{arith, zero, suc, ap, sym, subst, cond}
use Rattle.std.specs.List.{slice_get}
use Rattle.ssd_text.specs.Nesting.{Entry, entry_at}
use Rattle.ssd_read.specs.declared.role.Role.{Role}
use Rattle.ssd_read.specs.declared.role.Role.TheVariants.{Root, Substation, VoltageLevel, Bay, ConnectivityNode}
use Rattle.ssd_read.specs.declared.role.Role.TheVariants.{ConductingEquipment, PowerTransformer, TransformerWinding}
use Rattle.ssd_read.specs.declared.role.Role.TheVariants.{Terminal, Skipped}
use Rattle.ssd_read.specs.declared.drawing.DrawnElement.{DrawnElement}
use Rattle.ssd_read.specs.Elements.{Element, element_at, says, unless_grounded}
use Rattle.std.specs.Prelude.{codes}
use Rattle.ssd_read.specs.Seen.{placed_all}
use Rattle.ssd_read.specs.Decoded.{IsNameOf, IsDecoded, AreDecoded, ArePlaces}
use Rattle.ssd_read.proofs.Placed.{in_places, place_is, entry_is}

get_at : (ps : List DrawnElement) (i : ℕ) (x : DrawnElement) → i < length ps → x ≡ get_or ps i x →
    slice_get ps i ≡ Some x
get_at [] i x l r = absurd (omega arith)
get_at (p ∷ ps) zero x l r = ap Some (sym r)
get_at (p ∷ ps) (suc i) x l r = let l' : i < length ps = omega arith in get_at ps i x l' r

pub decoded_is : (t : List Entry) (ps : List DrawnElement) (all : List Element) (i : ℕ) (x : DrawnElement) →
    placed_all t ps ≡ all → ArePlaces t ps → i < length all → x ≡ get_or ps i x → IsDecoded (element_at all i).entry x
decoded_is t ps all i x e places l r = subst (λ (en : Entry). IsDecoded en x) (entry_is t ps all i e places.len l)
    (places.decoded i x (get_at ps i x (in_places t ps all i e places.len l) r))

pub role_is : (t : List Entry) (ps : List DrawnElement) (all : List Element) (i : ℕ) (x : DrawnElement) →
    placed_all t ps ≡ all → length ps ≡ length t → i < length all → x ≡ get_or ps i x → x.role ≡ (element_at all i).role
role_is t ps all i x e h l r = sym (ap (λ (y : Element). y.role) (place_is t ps all i x e h l r))

pub decoded_none : (t : List Entry) → AreDecoded t []
decoded_none t i p e = cc

get_push : (P : ℕ → DrawnElement → Type 0) (ps : List DrawnElement) (p : DrawnElement) →
    ((i : ℕ) (q : DrawnElement) → slice_get ps i ≡ Some q → P i q) → P (length ps) p →
    (i : ℕ) (q : DrawnElement) → slice_get (ps ++ p ∷ []) i ≡ Some q → P i q
get_push P [] p h l zero q e = let same : p ≡ q = cc in subst (P 0) same l
get_push P [] p h l (suc i) q e = cc
get_push P (r ∷ ps) p h l zero q e = h 0 q e
get_push P (r ∷ ps) p h l (suc i) q e = get_push (λ n. P (suc n)) ps p (λ k x g. h (suc k) x g) l i q e

pub decoded_push : (t : List Entry) (ps : List DrawnElement) (p : DrawnElement) → AreDecoded t ps →
    IsDecoded (entry_at t (length ps)) p → AreDecoded t (ps ++ p ∷ [])
decoded_push t ps p all last = get_push (λ i q. IsDecoded (entry_at t i) q) ps p all last

kept_if : (b : Bool) (e : Entry) (name : Option (List ℕ)) → IsNameOf ConnectivityNode e name →
    IsNameOf (cond b Skipped ConnectivityNode) e name
kept_if true e name h = λ t. cc
kept_if false e name h = h

pub name_kept : (e : Entry) (role : Role) (name : Option (List ℕ)) → IsNameOf role e name →
    IsNameOf (unless_grounded e role) e name
name_kept e Root name h = h
name_kept e Substation name h = h
name_kept e VoltageLevel name h = h
name_kept e Bay name h = h
name_kept e ConnectivityNode name h = kept_if (says e (codes "name") (codes "grounded")) e name h
name_kept e ConductingEquipment name h = h
name_kept e PowerTransformer name h = h
name_kept e TransformerWinding name h = h
name_kept e Terminal name h = h
name_kept e Skipped name h = h
