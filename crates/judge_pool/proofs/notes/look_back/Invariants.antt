use Rattle.judge_pool.proofs.notes.look_back.Given as goal

abbrev pub decreases-notes : goal.decreases-notes
decreases-notes l = l.next
