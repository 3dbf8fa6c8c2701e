-- What a line says is what its step adds.
use Rattle.std.proofs.Common.{◌≡◌, ℕ, ◌<◌, ◌-◌, List, [], ◌∷◌, ◌++◌, length, Option, Some, None, Bool, true, false, refl, ap}
use Rattle.std.proofs.Common.{◌∙◌, sym, map}
use Rattle.std.specs.List.{cons_option, filter_map}
use Rattle.std.specs.Option.{option_map}
use Rattle.ilk_base.specs.declared.words.Kind.{Kind}
use Rattle.ilk_base.specs.declared.words.Kind.TheVariants.{Breaker, Disconnector, Earthing, Infeed}
use Rattle.ilk_base.specs.declared.words.NodeId.{NodeId}
use Rattle.ilk_base.specs.declared.words.BayId.{BayId}
use Rattle.station_graph.specs.declared.items.Switch.{Switch}
use Rattle.station_graph.specs.declared.items.Link.{Link}
use Rattle.station_graph.specs.declared.items.Tap.{Tap}
use Rattle.station_graph.specs.Diagram.{Differ}
use Rattle.ssd_read.specs.Steps.{Step, a_part, a_node, a_switch, a_link, a_tap}
use Rattle.ssd_read.specs.Lists.{part_path, switch_in, link_in, tap_in}
use Rattle.ssd_read.proofs.AddedPaths.{added_node}
use Rattle.station_lines.specs.Rows.{Row}
use Rattle.station_lines.specs.Lines.{step_row, step_rows, node_in, second_in, kind_word, link_word}
use Rattle.station_lines.specs.ReadBack.{said_part, said_node, said_switch, said_switch_path, said_link, said_tap}
use Rattle.station_lines.specs.ReadBack.{number_in, one_ended, two_ended, said_all, parts_after}
use Rattle.station_lines.proofs.NumberLemmas.{number_of}
use Rattle.station_lines.proofs.FitLemmas.{SecondIn, Fits, AllFit}

pub node_said : (nodes : List (List ℕ)) (word path : List ℕ) (s : Step) →
    said_node (step_row nodes word path s) ≡ added_node s
node_said nodes word path (a_part own) = refl
node_said nodes word path (a_node own) = refl
node_said nodes word path (a_switch name x) = refl
node_said nodes word path (a_link x) = refl
node_said nodes word path (a_tap x) = refl

pub part_said : (nodes : List (List ℕ)) (word path : List ℕ) (s : Step) →
    said_part (step_row nodes word path s) ≡ part_path s
part_said nodes word path (a_part own) = refl
part_said nodes word path (a_node own) = refl
part_said nodes word path (a_switch name x) = refl
part_said nodes word path (a_link x) = refl
part_said nodes word path (a_tap x) = refl

abbrev link_of : Bool → ℕ → ℕ → ℕ → Option Link
link_of bond a b p = Some (record {
  first = record { 0 = a };
  second = record { 0 = b };
  bond = bond;
  part = record { 0 = p };
})

module _ (nodes : List (List ℕ)) (differ : Differ nodes) (part : ℕ) (word path : List ℕ) where
  two_case : (kind : Kind) (first second : NodeId) (bay : BayId) → bay.0 ≡ part → first.0 < length nodes →
      second.0 < length nodes → Some (two_ended kind (number_in nodes (node_in nodes first.0))
      (number_in nodes (node_in nodes second.0)) part)
      ≡ Some (record { kind = kind; first = first; second = Some second; bay = bay })
  two_case kind first second bay e f s =
      ap (λ (n : ℕ). Some (two_ended kind n (number_in nodes (node_in nodes second.0)) part))
      (number_of nodes first.0 differ f)
      ∙ (ap (λ (n : ℕ). Some (two_ended kind first.0 n part)) (number_of nodes second.0 differ s)
      ∙ ap (λ (n : ℕ). Some (two_ended kind first.0 second.0 n)) (sym e))

  one_case : (kind : Kind) (first : NodeId) (bay : BayId) → bay.0 ≡ part → first.0 < length nodes →
      Some (one_ended kind (number_in nodes (node_in nodes first.0)) part)
      ≡ Some (record { kind = kind; first = first; second = None; bay = bay })
  one_case kind first bay e f =
      ap (λ (n : ℕ). Some (one_ended kind n part)) (number_of nodes first.0 differ f)
      ∙ ap (λ (n : ℕ). Some (one_ended kind first.0 n)) (sym e)

  switch_case : (kind : Kind) (first : NodeId) (second : Option NodeId) (bay : BayId) → bay.0 ≡ part →
      first.0 < length nodes → SecondIn (length nodes) kind second →
      said_switch nodes part (kind_word kind ∷ path ∷ node_in nodes first.0 ∷ second_in nodes second)
      ≡ Some (record { kind = kind; first = first; second = second; bay = bay })
  switch_case Breaker first None bay e f s = absurd s
  switch_case Breaker first (Some n) bay e f s = two_case Breaker first n bay e f s
  switch_case Disconnector first None bay e f s = absurd s
  switch_case Disconnector first (Some n) bay e f s = two_case Disconnector first n bay e f s
  switch_case Earthing first None bay e f s = one_case Earthing first bay e f
  switch_case Earthing first (Some n) bay e f s = absurd s
  switch_case Infeed first None bay e f s = one_case Infeed first bay e f
  switch_case Infeed first (Some n) bay e f s = absurd s

  pub switch_said : (s : Step) → Fits (length nodes) part s →
      said_switch nodes part (step_row nodes word path s) ≡ switch_in s
  switch_said (a_part own) h = absurd h
  switch_said (a_node own) h = absurd h
  switch_said (a_switch name x) h = switch_case x.kind x.first x.second x.bay h.0 h.1 h.2
  switch_said (a_link x) h = refl
  switch_said (a_tap x) h = refl

  link_none : (kind : Kind) (a : List ℕ) (second : Option NodeId) →
      said_link nodes part (kind_word kind ∷ path ∷ a ∷ second_in nodes second) ≡ None
  link_none kind a None = refl
  link_none kind a (Some n) = refl

  same_link : (bond : Bool) (first second : NodeId) (bay : BayId) → bay.0 ≡ part → first.0 < length nodes →
      second.0 < length nodes →
      link_of bond (number_in nodes (node_in nodes first.0)) (number_in nodes (node_in nodes second.0)) part
      ≡ link_of bond first.0 second.0 bay.0
  same_link bond first second bay e f s =
      ap (λ (n : ℕ). link_of bond n (number_in nodes (node_in nodes second.0)) part) (number_of nodes first.0 differ f)
      ∙ (ap (λ (n : ℕ). link_of bond first.0 n part) (number_of nodes second.0 differ s)
      ∙ ap (λ (n : ℕ). link_of bond first.0 second.0 n) (sym e))

  link_case : (bond : Bool) (first second : NodeId) (bay : BayId) → bay.0 ≡ part → first.0 < length nodes →
      second.0 < length nodes →
      said_link nodes part (link_word bond ∷ word ∷ path ∷ node_in nodes first.0 ∷ node_in nodes second.0 ∷ [])
      ≡ Some (record { first = first; second = second; bond = bond; part = bay })
  link_case true first second bay e f s = same_link true first second bay e f s
  link_case false first second bay e f s = same_link false first second bay e f s

  pub link_said : (s : Step) → Fits (length nodes) part s →
      said_link nodes part (step_row nodes word path s) ≡ link_in s
  link_said (a_part own) h = absurd h
  link_said (a_node own) h = absurd h
  link_said (a_switch name x) h = link_none x.kind (node_in nodes x.first.0) x.second
  link_said (a_link x) h = link_case x.bond x.first x.second x.part h.0 h.1 h.2
  link_said (a_tap x) h = refl

  tap_none : (kind : Kind) (a : List ℕ) (second : Option NodeId) →
      said_tap nodes part (kind_word kind ∷ path ∷ a ∷ second_in nodes second) ≡ None
  tap_none kind a None = refl
  tap_none Breaker a (Some n) = refl
  tap_none Disconnector a (Some n) = refl
  tap_none Earthing a (Some n) = refl
  tap_none Infeed a (Some n) = refl

  tap_case : (node : NodeId) (bay : BayId) → bay.0 ≡ part → node.0 < length nodes →
      said_tap nodes part (step_row nodes word path (a_tap (record { node = node; part = bay })))
      ≡ Some (record { node = node; part = bay })
  tap_case node bay e f =
      ap (λ (n : ℕ). let t : Tap = record { node = record { 0 = n }; part = record { 0 = part } } in Some t)
      (number_of nodes node.0 differ f)
      ∙ ap (λ (n : ℕ). let t : Tap = record { node = node; part = record { 0 = n } } in Some t) (sym e)

  pub tap_said : (s : Step) → Fits (length nodes) part s →
      said_tap nodes part (step_row nodes word path s) ≡ tap_in s
  tap_said (a_part own) h = absurd h
  tap_said (a_node own) h = absurd h
  tap_said (a_switch name x) h = tap_none x.kind (node_in nodes x.first.0) x.second
  tap_said (a_link x) h = refl
  tap_said (a_tap x) h = tap_case x.node x.part h.0 h.1

-- the path of a switch
path_case : (count : ℕ) (path a : List ℕ) (nodes : List (List ℕ)) (kind : Kind) (second : Option NodeId) →
    SecondIn count kind second → said_switch_path (kind_word kind ∷ path ∷ a ∷ second_in nodes second) ≡ Some path
path_case count path a nodes Breaker None s = absurd s
path_case count path a nodes Breaker (Some n) s = refl
path_case count path a nodes Disconnector None s = absurd s
path_case count path a nodes Disconnector (Some n) s = refl
path_case count path a nodes Earthing None s = refl
path_case count path a nodes Earthing (Some n) s = absurd s
path_case count path a nodes Infeed None s = refl
path_case count path a nodes Infeed (Some n) s = absurd s

pub path_said : (count part : ℕ) (nodes : List (List ℕ)) (word path : List ℕ) (s : Step) → Fits count part s →
    said_switch_path (step_row nodes word path s) ≡ option_map (λ (x : Switch). path) (switch_in s)
path_said count part nodes word path (a_part own) h = absurd h
path_said count part nodes word path (a_node own) h = absurd h
path_said count part nodes word path (a_switch name x) h =
    path_case count path (node_in nodes x.first.0) nodes x.kind x.second h.2
path_said count part nodes word path (a_link x) h = refl
path_said count part nodes word path (a_tap x) h = refl

-- an item's line says no part
pub no_part : (count part : ℕ) (nodes : List (List ℕ)) (word path : List ℕ) (s : Step) → Fits count part s →
    said_part (step_row nodes word path s) ≡ None
no_part count part nodes word path (a_part own) h = absurd h
no_part count part nodes word path (a_node own) h = absurd h
no_part count part nodes word path (a_switch name x) h = refl
no_part count part nodes word path (a_link x) h = refl
no_part count part nodes word path (a_tap x) h = refl
