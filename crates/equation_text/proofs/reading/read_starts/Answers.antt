use Rattle.std.proofs.Common.{◌∙◌, ◌<◌, ◌++◌, ◌∷◌, List, ℕ, length, refl, ap, arith}
use Rattle.station_equations.specs.declared.goal.TheConstants.{NUMBERS}
use Rattle.station_equations.specs.EquationText.{part_line}
use Rattle.equation_text.proofs.WordLemmas.{not_cut, cut_said}
use Rattle.equation_text.proofs.OnceLemmas.{part_lacks}
use Rattle.equation_text.proofs.ReadLoops.{starts_push, part_of, line_next}
use Rattle.equation_text.proofs.reading.read_starts.Goals as goal

pub returns-in_default : goal.returns-in_default
returns-in_default c =
    let inv = c.loop-part.invariant in
    record {
      starts = c.loop-part.starts.items;
      few = omega (arith, c.loop-part-test.true, inv.fits.count);
      may = record { count = refl; each = inv.fits.each };
      passed = inv.sound;
      none = λ x rest fits is. not_cut 10 c.loop-part.left.text.now (part_line (length c.loop-part.starts.items) x) rest
          c.in_default.ensures.none is;
    }

pub returns-in_default-read_part : goal.returns-in_default-read_part
returns-in_default-read_part c =
    let inv = c.loop-part.invariant in
    record {
      starts = c.loop-part.starts.items;
      few = omega (arith, c.loop-part-test.true, inv.fits.count);
      may = record { count = refl; each = inv.fits.each };
      passed = inv.sound;
      none = λ x rest fits is.
          let small : c.loop-part.part < NUMBERS = omega (arith, c.loop-part-test.true, c.ranges.parts.fits) in
          let line = cut_said 10 c.loop-part.left.text.now c.in-Some.line.now (part_line c.loop-part.part x)
          c.in-Some.rest.now rest c.in-Some.ensures.some (part_lacks c.loop-part.part x small fits) (is ∙ ap (λ
          k. part_line k x ++ 10 ∷ rest) inv.fits.count) in
          c.in_default-read_part.ensures.none x fits line.0;
    }

pub loop-part-preserved : goal.loop-part-preserved
loop-part-preserved c =
    let inv = c.loop-part.invariant in
    let got = c.in-Some-read_part.ensures.some in
    record {
      fits = starts_push c.loop-part.part _ c.loop-part.starts.items c.push.new.self.items c.in-Some-read_part.start
          refl c.in_ok-push.ensures.items got.0 inv.fits;
      sound = line_next (λ p t. part_line p
          (part_of t)) c.loop-part.starts.items c.push.new.self.items c.in-Some-read_part.start c.loop-part.part
          c.args.left.now.text.now c.loop-part.left.text.now c.in-Some.rest.now c.in_ok-push.ensures.items
          inv.fits.count inv.sound (c.in-Some.ensures.some.is ∙ ap (λ (z : List ℕ). z ++ 10 ∷ c.in-Some.rest.now)
          (got.1 (part_of c.in-Some-read_part.start) refl));
    }
