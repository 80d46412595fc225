-- What the words `NETWORK TRAFFIC --turns T [--workers W] [--drain M]` of the command line say, as `clap` reads them.
use Rattle.std.specs.Prelude.{◌≡◌, ℕ, List, [], ◌∷◌, Option, Some, codes, IsSome, IsSomeAnd, option_map, true}
use Rattle.std.specs.Str.Parse.{digits_value, without_leading_plus}
use Rattle.clap.specs.Words.{App, IsAmong, IsUnsignedIn, Kinds, Row, Rule, Text, first_of, kind_of, new_app, new_rule}
use Rattle.clap.specs.Words.{one_of}
use Rattle.clap.specs.Simple.{new_shape}
use Rattle.clap.specs.declared.builder.action.ArgAction.TheVariants.{Set}
use Rattle.clap.specs.declared.builder.value_parser.ValueParser.{ValueParser}
use Rattle.clap.specs.declared.builder.value_parser.ValueParser.TheVariants.{Unsigned}
use Rattle.worm_words.specs.declared.words.Words.{Words}
use Rattle.worm_words.specs.declared.words.WordsFault.{WordsFault}
use Rattle.worm_words.specs.declared.words.WordsFault.TheVariants as w

-- The command

-- a file, which has to be named
abbrev pub file : Text → Rule
file name = record (new_rule name) { action = Some Set; required = true }

-- `--name N`, where N is a number in its range
abbrev pub number : Text → ValueParser → Rule
number name range = record (new_rule name) { long = Some name; action = Some Set; parser = Some range }

-- the turns, which have to be said
abbrev pub turns_option : Rule
turns_option = record (number (codes "turns") (Unsigned 0 1000000)) { required = true }

-- the workers, of which there is 1 where no number is said
abbrev pub workers_option : Rule
workers_option = record (number (codes "workers") (Unsigned 1 16)) { defaults = codes "1" ∷ [] }

-- the turns of the drain, 0 where no number is said
abbrev pub drain_option : Rule
drain_option = record (number (codes "drain") (Unsigned 0 1000000)) { defaults = codes "0" ∷ [] }

abbrev pub arguments : List Rule
arguments = file (codes "NETWORK") ∷ file (codes "TRAFFIC") ∷ turns_option ∷ workers_option ∷ drain_option ∷ []

-- the command has these arguments, and neither `--help` nor `--version`
unfoldable pub command : App
command = record (new_app (codes "wormrun")) {
  top = record (new_shape (codes "wormrun")) {
    rules = arguments;
    disable_help_flag = true;
    disable_version_flag = true;
  };
}

-- What it makes of words

-- the number that the text of an option reads as
abbrev pub number_of : Text → List Row → Option ℕ
number_of name rows = option_map (λ t. digits_value 10 (without_leading_plus t)) (one_of name rows)

-- the matches of a parse say the same as these words
pub record Say (rows : List Row) (said : Words) : Type 0 where
  pub network : first_of (codes "NETWORK") rows ≡ Some said.network.now
  pub traffic : first_of (codes "TRAFFIC") rows ≡ Some said.traffic.now
  pub turns : number_of (codes "turns") rows ≡ Some said.options.turns
  pub workers : number_of (codes "workers") rows ≡ Some said.options.workers
  pub drain : number_of (codes "drain") rows ≡ Some said.options.drain

-- the matches of a parse have both files, and each number in its range
pub record IsComplete (rows : List Row) : Type 0 where
  pub network : IsSome (first_of (codes "NETWORK") rows)
  pub traffic : IsSome (first_of (codes "TRAFFIC") rows)
  pub turns : IsSomeAnd (one_of (codes "turns") rows) (IsUnsignedIn 0 1000000)
  pub workers : IsSomeAnd (one_of (codes "workers") rows) (IsUnsignedIn 1 16)
  pub drain : IsSomeAnd (one_of (codes "drain") rows) (IsUnsignedIn 0 1000000)

-- the words are refused for one of these kinds of fault, or memory ran out
abbrev pub IsRefused : Kinds → WordsFault → Type 0
IsRefused kinds (w.Words error) = IsAmong (kind_of error) kinds
IsRefused kinds w.NotText = ⊥
IsRefused kinds w.NoMemory = Unit {0}
