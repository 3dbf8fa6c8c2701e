-- The four lines: how large the station is, how many of its operations are released where every position is
-- known, and how many where each bay knows its own alone, and what came of the log.
use Rattle.std.specs.Prelude.{◌≡◌, ◌++◌, ℕ, List, length, codes, decimal}
use Rattle.ilk_base.specs.declared.words.Dbpos.{Dbpos}
use Rattle.station_graph.specs.Diagram.{Diagram, bay_count, node_count}
use Rattle.log_replay.specs.Replay.{Replayed, how_many, is_granted, is_denied, is_finished}
use Rattle.station_work.specs.declared.tally.Sight.TheVariants.{Full, Blind}
use Rattle.station_work.specs.declared.tally.Tally.{Tally}
use Rattle.station_work.specs.Tallying.{TalliesAll}

-- `station bays B switches S nodes N`.
abbrev pub sizes_line : List ℕ → ℕ → ℕ → ℕ → List ℕ
sizes_line name bays switches nodes =
    name ++ codes " bays " ++ decimal bays ++ codes " switches " ++ decimal switches ++ codes " nodes " ++ decimal
    nodes ++ codes "\n"

-- The line of the station's size.
abbrev pub size_line : Diagram → List ℕ
size_line d = sizes_line (codes "station") (bay_count d) (length d.switches) (node_count d)

-- `full released R denied D`, or `blind`.
abbrev pub tally_line : List ℕ → Tally → List ℕ
tally_line name t =
    name ++ codes " released " ++ decimal t.released ++ codes " denied " ++ decimal t.denied ++ codes "\n"

-- `log lines L granted G denied D finished F`: the records of the log, and the outcomes that are shown.
abbrev pub log_line : Replayed → List ℕ
log_line r =
    codes "log lines " ++ decimal r.count ++ codes " granted " ++ decimal (how_many is_granted r.out)
    ++ codes " denied " ++ decimal (how_many is_denied r.out) ++ codes " finished " ++ decimal
    (how_many is_finished r.out) ++ codes "\n"

-- The lines of a station, of words for its switches, and of a replay.
pub record IsWorkText (d : Diagram) (words : List Dbpos) (r : Replayed) (text : List ℕ) : Type 0 where
  pub full : Tally
  pub blind : Tally
  pub full_is : TalliesAll Full d words full
  pub blind_is : TalliesAll Blind d words blind
  pub text_is : text ≡ size_line d ++ tally_line (codes "full") full ++ tally_line (codes "blind") blind ++ log_line r
