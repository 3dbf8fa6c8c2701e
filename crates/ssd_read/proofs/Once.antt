-- No text has two outcomes.
use Rattle.std.proofs.Common.{◌≡◌, ℕ, List, Result, arith, ap, ◌∙◌, sym, inl, inr}
use Rattle.station_graph.specs.Diagram.{Diagram}
use Rattle.ssd_text.proofs.Whole.{one_reading}
use Rattle.ssd_read.specs.declared.refusal.SsdRefusal.{SsdRefusal}
use Rattle.ssd_read.specs.StandsFor.{Stands, after_text}

pub one_station : (text : List ℕ) (o w : Result Diagram SsdRefusal) → Stands text o → Stands text w → o ≡ w
one_station text o w (inl p) (inl q) = p.1 ∙ sym q.1
one_station text o w (inl p) (inr q) = let long = p.0 in let short = q.0 in absurd (omega arith)
one_station text o w (inr p) (inl q) = let short = p.0 in let long = q.0 in absurd (omega arith)
one_station text o w (inr p) (inr q) = p.3 ∙ (ap after_text (one_reading text p.1 q.1 p.2 q.2) ∙ sym q.3)
