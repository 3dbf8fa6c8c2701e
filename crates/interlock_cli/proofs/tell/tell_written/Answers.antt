use Rattle.interlock_cli.proofs.tell.tell_written.Goals as goal

pub returns-in-Premise-clause-ok : goal.returns-in-Premise-clause-ok
returns-in-Premise-clause-ok g c = rw (c.in-Premise.is, ← c.from.ensures) c.tell_two.ensures.ok

pub returns-in-Premise-clause-err : goal.returns-in-Premise-clause-err
returns-in-Premise-clause-err g c = rw (c.in-Premise.is, ← c.from.ensures) c.tell_two.ensures.err

pub returns-in-TooWide-clause-ok : goal.returns-in-TooWide-clause-ok
returns-in-TooWide-clause-ok g c = rw (c.in-TooWide.is, ← c.from-in-TooWide.ensures) c.tell_one.ensures.ok

pub returns-in-TooWide-clause-err : goal.returns-in-TooWide-clause-err
returns-in-TooWide-clause-err g c = rw (c.in-TooWide.is, ← c.from-in-TooWide.ensures) c.tell_one.ensures.err
