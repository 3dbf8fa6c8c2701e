-- The command line as `clap` reads it: one level of commands, each with positional words, of which the last may be left out.
use Rattle.std.specs.Prelude.{ℕ, ◌-◌, Bool, true, List, [], ◌∷◌, ◌++◌, map, fold, take, drop, Some, codes}
use Rattle.std.specs.List.{filter_map}
use Rattle.clap.specs.declared.parser.matches.Found.{Found}
use Rattle.clap.specs.Words.{App, first_value, Rule, Shape, Text, new_app, new_rule, with_subcommand}
use Rattle.clap.specs.declared.builder.ArgAction.TheVariants.{Set}
use Rattle.command_words.specs.declared.parser.TheConstants.{IDS}
use Rattle.command_words.specs.Rows.{rows}

-- A required word, which has no flag before it.
abbrev pub word_rule : Text → Rule
word_rule id = record (new_rule id) { required = true; action = Some Set }

-- A word that may be left out.
abbrev pub optional_rule : Text → Rule
optional_rule id = record (new_rule id) { action = Some Set }

-- The ids of the words of a command, in order.
abbrev pub ids : List Text
ids = map (λ id. id.now) IDS

-- The command of a row.
abbrev pub row_shape : Text × ℕ × ℕ → Shape
row_shape r =
    record (new_app r.0).top {
      rules = map word_rule (take r.1 ids) ++ map optional_rule (take (r.2 - r.1) (drop r.1 ids));
    }

-- The command line without its commands: no program name before them, no help, and a command is required.
abbrev pub bare : App
bare = record (new_app (codes "interlock")) {
  top = record (new_app (codes "interlock")).top {
    no_binary_name = true;
    disable_help_flag = true;
    disable_help_subcommand = true;
    subcommand_required = true;
  };
}

-- The command line.
abbrev pub command_line : App
command_line = fold with_subcommand bare (map row_shape rows)

-- The words that were given for the ids, in order.
abbrev pub given : Found → List Text
given f = filter_map (first_value f) ids
