use Rattle.std.proofs.Common.{◌∙◌, sym, ap, append-nil, ◌++◌, List, ℕ}
use Rattle.station_make.specs.EventsText.{moved_record}
use Rattle.station_make.proofs.Pushes.{on_ok, four}
use Rattle.station_make.proofs.records.push_moved.Goals as goal

pub returns : goal.returns
unfolding moved_record
returns c =
    on_ok c.push-3.result
    (λ last. four _ _ _ _ _ _ _ _ _ c.in_ok-push.ensures.ok c.in_ok-push_path_in.ensures c.in_ok-push-2.ensures.ok last
    ∙ ap (λ (t : List ℕ). c.args.text.now ++ t) (sym (append-nil _)))
    c.push-3.ensures.ok
