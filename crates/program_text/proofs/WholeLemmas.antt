-- The texts of a program of a station.
use Rattle.std.proofs.Common.{◌≡◌, ◌≤◌, ◌<◌, ◌^◌, ◌++◌, ℕ, true, false, List, length, refl, subst, sym}
use Rattle.station_graph.specs.Diagram.{Diagram}
use Rattle.structured_text.specs.Width.{AreLinesShort}
use Rattle.program_text.specs.declared.block_program.BlockProgram.{BlockProgram}
use Rattle.program_text.specs.ProgramText.{whole_text, IsProgram, IsWholeText}
use Rattle.program_text.specs.BayText.{bay_blocks_text, bay_exchange_text, IsBayText}
use Rattle.program_text.specs.BayExchange.{ArePassed}
use Rattle.program_text.proofs.ProgramWidth.{whole_short, bay_short}

module _ (d : Diagram) (few : length d.switches ≤ 2 ^ 64) (p : BlockProgram) (program : IsProgram d p) where
  pub is_whole : (text : List ℕ) → text ≡ whole_text d p.blocks.items p.steps.items p.variables.items → IsWholeText d p text
  is_whole text same = record {
    program = program;
    spelled = same;
    short = subst AreLinesShort (sym same)
        (whole_short d few p.blocks.items p.steps.items p.variables.items program.stand.few_blocks program.stand.few_steps
        program.stand.blocks_within program.stand.steps_within program.stand.names_within);
  }

  pub has_whole : IsWholeText d p (whole_text d p.blocks.items p.steps.items p.variables.items)
  has_whole = is_whole (whole_text d p.blocks.items p.steps.items p.variables.items) refl

  pub is_of_bay : (bay told tells : ℕ) (text : List ℕ) → told < 2 ^ 64 → tells < 2 ^ 64 →
      ArePassed p.blocks.items bay false p.steps.items told → ArePassed p.blocks.items bay true p.steps.items tells →
      text ≡ bay_exchange_text told tells ++ bay_blocks_text d p.steps.items bay 0 p.blocks.items → IsBayText d p bay text
  is_of_bay bay told tells text few_told few_tells is_told is_telling same = record {
    told = told;
    tells = tells;
    is_told = is_told;
    is_telling = is_telling;
    spelled = same;
    short = subst AreLinesShort (sym same)
        (bay_short d few told tells few_told few_tells p.steps.items bay p.blocks.items program.stand.few_blocks
        program.stand.blocks_within);
  }
