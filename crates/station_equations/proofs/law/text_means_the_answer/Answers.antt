use Rattle.std.proofs.Common.{refl}
use Rattle.station_equations.proofs.law.text_means_the_answer.Goals as goal

pub returns : goal.returns
returns c = λ d e op v answer are exact in_station whole breaks. record {
  lines = e;
  says = record { are = are; is = refl };
  means = (exact op v answer in_station whole).1 breaks;
}
