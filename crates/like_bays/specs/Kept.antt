-- What a table of an exchange keeps.
use Rattle.std.specs.Prelude.{◌≡◌, ℕ, ◌+◌, ◌<◌, List, length, slice_get, Some}
use Rattle.station_graph.specs.Diagram.{Diagram, HasTap}
use Rattle.station_graph.specs.declared.items.Switch.{Switch}
use Rattle.station_graph.specs.declared.items.Link.{Link}
use Rattle.station_graph.specs.declared.items.Tap.{Tap}
use Rattle.release_dependence.specs.Exchange.{HasSwitch, HasLink}
use Rattle.like_bays.specs.Like.{led_by, IsOutside}

-- The table leads back to each number.
abbrev pub LeadsBack : List ℕ → Type 0
LeadsBack table = (n : ℕ) → led_by table (led_by table n) ≡ n

-- Where the table leads from switch i there stands that switch, at the nodes to which the other table leads.
abbrev pub KeepsSwitch : Diagram → List ℕ → List ℕ → ℕ → Type 0
KeepsSwitch d switches nodes i =
    (x : Switch) → slice_get d.switches i ≡ Some x → HasSwitch d (led_by nodes) (led_by switches i) x

-- Some link is link i, at the nodes to which the table leads.
abbrev pub KeepsLink : Diagram → List ℕ → ℕ → Type 0
KeepsLink d nodes i = (l : Link) → slice_get d.links i ≡ Some l → HasLink d (led_by nodes) l

-- Where the table leads from the node of tap i there is a tap.
abbrev pub KeepsTap : Diagram → List ℕ → ℕ → Type 0
KeepsTap d nodes i = (t : Tap) → slice_get d.taps i ≡ Some t → HasTap d (led_by nodes t.node.0)

-- The tables are those of an exchange that carries so many switches from the first on to those from the second on.
pub record AreTablesOf (d : Diagram) (switches nodes : List ℕ) (first second count : ℕ) : Type 0 where
  pub switches_back : LeadsBack switches
  pub nodes_back : LeadsBack nodes
  pub switches_kept : (i : ℕ) → i < length d.switches → KeepsSwitch d switches nodes i
  pub links_kept : (i : ℕ) → i < length d.links → KeepsLink d nodes i
  pub taps_kept : (i : ℕ) → i < length d.taps → KeepsTap d nodes i
  pub carried : (i : ℕ) → i < count → led_by switches (first + i) ≡ second + i
  pub left : (s : ℕ) → IsOutside first count s → IsOutside second count s → led_by switches s ≡ s
