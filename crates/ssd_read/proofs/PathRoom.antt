-- The bytes of paths, element by element.
use Rattle.std.proofs.Common.{◌≡◌, ℕ, ◌≤◌, ◌<◌, ◌+◌, List, [], ◌∷◌, ◌++◌, length, drop, Some, None}
use Rattle.std.proofs.Common.{refl, arith, ap, ◌∙◌, sym, lt-ltb, le-ltb}
use Rattle.std.specs.String.{string_bytes}
use Rattle.std.proofs.lemmas.List.Sums.{sum_by-append, sum_by_push}
use Rattle.station_graph.specs.declared.fault.What.TheVariants.{Paths}
use Rattle.station_graph.specs.declared.limits.TheConstants.{PATH_BYTES}
use Rattle.ssd_text.specs.Nesting.{Entry, entry_at}
use Rattle.ssd_read.specs.declared.drawing.DrawnElement.{DrawnElement}
use Rattle.ssd_read.specs.declared.refusal.SsdRefusal.TheVariants.{Limit}
use Rattle.ssd_read.specs.Elements.{Element, element_after, elements_after}
use Rattle.ssd_read.specs.Seen.{placed, placed_all}
use Rattle.ssd_read.specs.PathBytes.{path_bytes, paths_fault}
use Rattle.ssd_read.proofs.Placed.{placed_none, placed_push, elements_next}
use Rattle.ssd_read.proofs.Drawn.{rest_after, after_rest}

-- ---- all paths

past : (all : List Element) → PATH_BYTES < path_bytes all → paths_fault all ≡ Some (Limit Paths (PATH_BYTES + 1))
unfolding paths_fault
past all h = rw (lt-ltb PATH_BYTES (path_bytes all) h) refl

within : (all : List Element) → path_bytes all ≤ PATH_BYTES → paths_fault all ≡ None
unfolding paths_fault
within all h = rw (le-ltb PATH_BYTES (path_bytes all) h) refl

-- ---- one path more

pushed : (es : List Entry) (ps : List DrawnElement) (p : DrawnElement) → length ps < length es →
    path_bytes (placed_all es (ps ++ p ∷ [])) ≡ path_bytes (placed_all es ps) + length (string_bytes p.path)
pushed es ps p h =
    ap path_bytes (placed_push es ps p h)
    ∙ sum_by_push (λ (x : Element). length x.path) (placed_all es ps) (placed (entry_at es (length ps)) p)

so_far : (front : List ℕ) (before all : List Element) (es : List Entry) → elements_after front before es ≡ all →
    path_bytes before ≤ path_bytes all
so_far front before all es h =
    let rest : List Element = rest_after front before es in
    let whole : path_bytes all ≡ path_bytes before + path_bytes rest =
    ap path_bytes (sym h ∙ after_rest front before es)
    ∙ sum_by-append (λ (x : Element). length x.path) before rest in
    omega (arith, whole)

-- ---- the room that is left to the paths to come

pub room_first : (es : List Entry) (ps : List DrawnElement) → ps ≡ [] →
    PATH_BYTES + path_bytes (placed_all es ps) ≡ PATH_BYTES
room_first es ps h = rw (h, placed_none es) refl

pub room_next : (es : List Entry) (ps qs : List DrawnElement) (p : DrawnElement) (room left : ℕ) →
    length ps < length es → qs ≡ ps ++ p ∷ [] → room + path_bytes (placed_all es ps) ≡ PATH_BYTES →
    left + length (string_bytes p.path) ≡ room → left + path_bytes (placed_all es qs) ≡ PATH_BYTES
room_next es ps qs p room left l eq g h =
    let push = ap (λ rs. path_bytes (placed_all es rs)) eq ∙ pushed es ps p l in
    omega (arith, push, g, h)

pub room_passed : (front : List ℕ) (es : List Entry) (ps : List DrawnElement) (p : DrawnElement) (i room : ℕ)
    (all : List Element) → length ps ≡ i → i < length es
    → placed (entry_at es i) p ≡ element_after front (placed_all es ps) (entry_at es i) →
    elements_after front (placed_all es ps) (drop i es) ≡ all → room + path_bytes (placed_all es ps) ≡ PATH_BYTES →
    room < length (string_bytes p.path) → paths_fault all ≡ Some (Limit Paths (PATH_BYTES + 1))
room_passed front es ps p i room all h l ep e g more =
    let short : length ps < length es = omega arith in
    let next = elements_next front es ps (ps ++ p ∷ []) p i all h l refl ep e in
    let front_bytes = so_far front (placed_all es (ps ++ p ∷ [])) all (drop (i + 1) es) next in
    past all (omega (arith, front_bytes, pushed es ps p short, g, more))

pub room_last : (es : List Entry) (ps : List DrawnElement) (all : List Element) (room : ℕ) → placed_all es ps ≡ all →
    room + path_bytes (placed_all es ps) ≡ PATH_BYTES → paths_fault all ≡ None
room_last es ps all room e g =
    let same : path_bytes (placed_all es ps) ≡ path_bytes all = ap path_bytes e in
    within all (omega (arith, same, g))
