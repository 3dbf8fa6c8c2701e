use Rattle.drawing_remarks.proofs.places.+path_above.Given as goal

abbrev pub decreases-path_above : goal.decreases-path_above
decreases-path_above l = l.levels
