use Rattle.why_text.proofs.lines.path_of_link.Goals as goal

pub returns : goal.returns
returns c = rw c.link-link.ensures.value c.path_of_part.ensures
