use Rattle.program_text.proofs.TextLemmas.{five_pieces}
use Rattle.program_text.proofs.bay_text.write_bay_exchange.Goals as goal

pub returns : goal.returns
returns c =
    five_pieces _ _ _ _ _ _ _ _ _ _ _ c.in_ok-push.ensures.ok c.in_ok-push_decimal.ensures.ok c.in_ok-push-2.ensures.ok
    c.in_ok-push_decimal-2.ensures.ok c.in_ok-push-3.ensures.ok
