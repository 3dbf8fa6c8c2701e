use Rattle.std.proofs.Common.{length, ◌+◌, ◌-◌, ◌*◌}
use Rattle.central_rules.proofs.trying.+trial.Given as goal

abbrev pub decreases-find_from : goal.decreases-find_from
decreases-find_from l = 2 * (length l.readings.now - l.at) + 1

abbrev pub decreases-find_with : goal.decreases-find_with
decreases-find_with l = 2 * (length l.readings.now - l.at)
