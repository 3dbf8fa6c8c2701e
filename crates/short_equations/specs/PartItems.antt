-- The items of a part.
use Rattle.std.specs.Prelude.{◌≡◌, ◌≢◌, ◌<◌, ℕ}
use Rattle.station_graph.specs.Diagram.{Diagram}
use Rattle.station_graph.specs.Connection.{Item, a_switch, a_link, a_tap}
use Rattle.station_graph.specs.Sharing.{OfPart}

-- The switches of the part with numbers below k, but one.
abbrev pub SwitchesBelow : Diagram → ℕ → ℕ → ℕ → Item → Type 0
SwitchesBelow d part skip k item = (i : ℕ) × (item ≡ a_switch i) × (i < k) × (i ≢ skip) × OfPart d part (a_switch i)

-- The links of the part with numbers below k.
abbrev pub LinksBelow : Diagram → ℕ → ℕ → Item → Type 0
LinksBelow d part k item = (i : ℕ) × (item ≡ a_link i) × (i < k) × OfPart d part (a_link i)

-- The taps of the part with numbers below k.
abbrev pub TapsBelow : Diagram → ℕ → ℕ → Item → Type 0
TapsBelow d part k item = (i : ℕ) × (item ≡ a_tap i) × (i < k) × OfPart d part (a_tap i)

-- The items of the part but one switch.
abbrev pub PartBut : Diagram → ℕ → ℕ → Item → Type 0
PartBut d part skip item = OfPart d part item × (item ≢ a_switch skip)
