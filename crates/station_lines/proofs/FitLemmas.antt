-- What the steps of an element say of nodes and parts.
use Rattle.std.proofs.Common.{◌≡◌, ℕ, ◌<◌, List, [], ◌∷◌, ◌++◌, length, get_or, Option, Some, None, Bool, true, false}
use Rattle.std.proofs.Common.{cond, refl, arith, ◌==◌, suc, zero}
use Rattle.ilk_base.specs.declared.words.Kind.{Kind}
use Rattle.ilk_base.specs.declared.words.Kind.TheVariants.{Breaker, Disconnector, Earthing, Infeed}
use Rattle.ilk_base.specs.declared.words.NodeId.{NodeId}
use Rattle.ssd_text.specs.Nesting.{Entry}
use Rattle.ssd_read.specs.declared.types.Use.{Use}
use Rattle.ssd_read.specs.declared.types.Use.TheVariants as uses
use Rattle.ssd_read.specs.declared.role.Role.TheVariants.{ConductingEquipment, PowerTransformer}
use Rattle.ssd_read.specs.Elements.{Element, element_at, same_role, element_name}
use Rattle.ssd_read.specs.Names.{keys_of}
use Rattle.ssd_read.specs.Ends.{ends_of, nodes_at, use_of, is_terminal_of}
use Rattle.std.specs.List.{filter}
use Rattle.ssd_read.specs.Steps.{Step, a_part, a_node, a_switch, a_link, a_tap, part_of, tap_step, is_winding_terminal_of}
use Rattle.ssd_read.specs.Steps.{tap_steps, link_step, links_after, links_along, lone_tap, is_tapless, is_bond}
use Rattle.ssd_read.specs.Steps.{use_steps, transformer_steps, winding_ends_of, item_steps_at}
use Rattle.ssd_read.proofs.Numbered.{AllBelow, nodes_below}

-- the second end is one of so many nodes, and is there where the kind has one
abbrev pub SecondIn : ℕ → Kind → Option NodeId → Type 0
SecondIn count Breaker None = ⊥
SecondIn count Breaker (Some n) = n.0 < count
SecondIn count Disconnector None = ⊥
SecondIn count Disconnector (Some n) = n.0 < count
SecondIn count Earthing None = Unit {0}
SecondIn count Earthing (Some n) = ⊥
SecondIn count Infeed None = Unit {0}
SecondIn count Infeed (Some n) = ⊥

-- the step adds an item of this part, on some of so many nodes
abbrev pub Fits : ℕ → ℕ → Step → Type 0
Fits count part (a_part path) = ⊥
Fits count part (a_node path) = ⊥
Fits count part (a_switch name x) = (x.bay.0 ≡ part) × (x.first.0 < count) × SecondIn count x.kind x.second
Fits count part (a_link x) = (x.part.0 ≡ part) × (x.first.0 < count) × (x.second.0 < count)
Fits count part (a_tap x) = (x.part.0 ≡ part) × (x.node.0 < count)

abbrev pub AllFit : ℕ → ℕ → List Step → Type 0
AllFit count part [] = Unit {0}
AllFit count part (s ∷ ss) = Fits count part s × AllFit count part ss

abbrev AllIn : ℕ → List ℕ → Type 0
AllIn count [] = Unit {0}
AllIn count (n ∷ ns) = (n < count) × AllIn count ns

all_in : (count : ℕ) (ns : List ℕ) → AllBelow count ns → AllIn count ns
all_in count [] h = tt
all_in count (n ∷ ns) h = (h 0 (omega arith), all_in count ns (λ k l. h (suc k) (omega arith)))

fit_both : (count part : ℕ) (ss ts : List Step) → AllFit count part ss → AllFit count part ts →
    AllFit count part (ss ++ ts)
fit_both count part [] ts h g = g
fit_both count part (s ∷ ss) ts h g = (h.0, fit_both count part ss ts h.1 g)

link_case : (count part a b : ℕ) (bond t : Bool) → a < count → b < count →
    AllFit count part (cond t [] (a_link (record {
      first = record { 0 = a };
      second = record { 0 = b };
      bond = bond;
      part = record { 0 = part };
    }) ∷ []))
link_case count part a b bond true ha hb = tt
link_case count part a b bond false ha hb = ((refl, ha, hb), tt)

after_fit : (count part : ℕ) (bond : Bool) (a : ℕ) (ns : List ℕ) → a < count → AllIn count ns →
    AllFit count part (links_after bond part a ns)
after_fit count part bond a [] ha h = tt
after_fit count part bond a (b ∷ ns) ha h =
    fit_both count part (link_step bond part a b) (links_after bond part b ns)
    (link_case count part a b bond (a == b) ha h.0) (after_fit count part bond b ns h.0 h.1)

along_fit : (count part : ℕ) (bond : Bool) (ns : List ℕ) → AllIn count ns →
    AllFit count part (links_along bond part ns)
along_fit count part bond [] h = tt
along_fit count part bond (a ∷ ns) h = after_fit count part bond a ns h.0 h.1

taps_fit : (count part : ℕ) (ns : List ℕ) → AllIn count ns → AllFit count part (tap_steps part ns)
taps_fit count part [] h = tt
taps_fit count part (n ∷ ns) h = ((refl, h.0), taps_fit count part ns h.1)

lone_case : (count part a : ℕ) (b : Bool) → a < count → AllFit count part (cond b [] (tap_step part a ∷ []))
lone_case count part a true h = tt
lone_case count part a false h = ((refl, h), tt)

lone_fit : (count part : ℕ) (e : Entry) (ns : List ℕ) → AllIn count ns → AllFit count part (lone_tap e part ns)
lone_fit count part e [] h = tt
lone_fit count part e (a ∷ []) h = lone_case count part a (is_tapless e) h.0
lone_fit count part e (a ∷ b ∷ ns) h = tt

use_fit : (count part : ℕ) (u : Use) (e : Entry) (ns : List ℕ) → AllIn count ns →
    AllFit count part (use_steps u e part ns)
use_fit count part uses.Breaker e [] h = tt
use_fit count part uses.Breaker e (a ∷ []) h = tt
use_fit count part uses.Breaker e (a ∷ b ∷ ns) h = ((refl, h.0, h.1.0), tt)
use_fit count part uses.Disconnector e [] h = tt
use_fit count part uses.Disconnector e (a ∷ []) h = ((refl, h.0, tt), tt)
use_fit count part uses.Disconnector e (a ∷ b ∷ ns) h = ((refl, h.0, h.1.0), tt)
use_fit count part uses.Infeed e [] h = tt
use_fit count part uses.Infeed e (a ∷ ns) h = ((refl, h.0, tt), ((refl, h.0), tt))
use_fit count part uses.Other e ns h =
    fit_both count part (links_along (is_bond e) part ns) (lone_tap e part ns) (along_fit count part (is_bond e) ns h)
    (lone_fit count part e ns h)

transformer_fit : (count part : ℕ) (ns : List ℕ) → AllIn count ns → AllFit count part (transformer_steps part ns)
transformer_fit count part ns h =
    fit_both count part (links_along false part ns) (tap_steps part ns) (along_fit count part false ns h)
    (taps_fit count part ns h)

item_case : (count part : ℕ) (b c : Bool) (ss ts : List Step) → AllFit count part ss → AllFit count part ts →
    AllFit count part (cond b ss (cond c ts []))
item_case count part true c ss ts u t = u
item_case count part false true ss ts u t = t
item_case count part false false ss ts u t = tt

-- what an element gives is of its part, on nodes of the drawing
pub items_fit : (all : List Element) (i : ℕ) →
    AllFit (length (keys_of all)) (part_of all i (element_at all i)) (item_steps_at all i)
items_fit all i =
    let x : Element = element_at all i in
    let count : ℕ = length (keys_of all) in
    let own : AllIn count (nodes_at (ends_of all i)) =
    all_in count (nodes_at (ends_of all i)) (nodes_below all (filter (is_terminal_of i) all)) in
    let windings : AllIn count (nodes_at (winding_ends_of all i)) =
    all_in count (nodes_at (winding_ends_of all i)) (nodes_below all (filter (is_winding_terminal_of all i) all)) in
    item_case count (part_of all i x) (same_role x.role ConductingEquipment) (same_role x.role PowerTransformer)
    (use_steps (use_of x.entry) x.entry (part_of all i x) (nodes_at (ends_of all i)))
    (transformer_steps (part_of all i x) (nodes_at (winding_ends_of all i)))
    (use_fit count (part_of all i x) (use_of x.entry) x.entry (nodes_at (ends_of all i)) own)
    (transformer_fit count (part_of all i x) (nodes_at (winding_ends_of all i)) windings)
