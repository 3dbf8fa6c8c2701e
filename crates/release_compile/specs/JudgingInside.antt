-- How the fields of a graph judge are seen.
use Rattle.std.specs.Prelude.{map}
use Rattle.release_compile.specs.Judging.{Judging}
use Rattle.judge_graphs.specs.BuiltView.{seen_part}
use Rattle.release_compile.specs.declared.build.GraphJudge.TheInside.{Inside}

-- A judge, as a contract sees it.
abbrev pub judging_of : Inside → Judging
judging_of j = record { diagram = j.station.now; alphabets = j.parts; bays = map seen_part j.bays.items }
