-- What the words `NETWORK [--text | --waits]` of the command line say, as `clap` reads them.
use Rattle.std.specs.Prelude.{◌≡◌, ◌⊎◌, Bool, false, true, List, [], ◌∷◌, Option, Some, None, codes}
use Rattle.std.specs.Option.{option_map_or}
use Rattle.std.specs.Str.{bytes_eq}
use Rattle.clap.specs.Words.{App, IsAmong, Kinds, Row, Rule, Text, fault_of, first_of, kind_of, matches_of, new_app}
use Rattle.clap.specs.Words.{new_rule, one_of, takes}
use Rattle.clap.specs.Simple.{new_shape}
use Rattle.clap.specs.declared.builder.action.ArgAction.TheVariants.{Set, SetTrue}
use Rattle.worm_view.specs.declared.form.Form.{Form}
use Rattle.worm_view.specs.declared.form.Form.TheVariants.{Picture, Map, Waits}
use Rattle.worm_view.specs.declared.words.Words.{Words}
use Rattle.worm_view.specs.declared.words.WordsFault.{WordsFault}
use Rattle.worm_view.specs.declared.words.WordsFault.TheVariants as w

-- The command

-- the file of the network, which has to be named
abbrev pub network_word : Rule
network_word = record (new_rule (codes "NETWORK")) { action = Some Set; required = true }

-- `--text`
abbrev pub text_word : Rule
text_word = record (new_rule (codes "text")) { long = Some (codes "text"); action = Some SetTrue }

-- `--waits`
abbrev pub waits_word : Rule
waits_word = record (new_rule (codes "waits")) { long = Some (codes "waits"); action = Some SetTrue }

-- the program has a version, and so `--version` beside `--help`
abbrev pub described : App
described =
    record (new_app (codes "wormview")) { top = record (new_shape (codes "wormview")) { has_version = true } }

-- and these words
unfoldable pub command : App
command = record described { top = record described.top { rules = network_word ∷ text_word ∷ waits_word ∷ [] } }

-- What it makes of words

-- whether a flag was given
abbrev pub is_set : Text → List Row → Bool
is_set name rows = option_map_or (λ t. bytes_eq t (codes "true")) (one_of name rows) false

-- what is drawn, by whether a map and the waits are asked for; nothing for both
abbrev pub form_of : Bool → Bool → Option Form
form_of false false = Some Picture
form_of true false = Some Map
form_of false true = Some Waits
form_of true true = None

-- the form that the matches of a parse ask for
abbrev pub form_asked : List Row → Option Form
form_asked rows = form_of (is_set (codes "text") rows) (is_set (codes "waits") rows)

abbrev pub AskBoth : List Row → Type 0
AskBoth rows = form_asked rows ≡ None

-- the matches of a parse say the same as these words
pub record Say (rows : List Row) (said : Words) : Type 0 where
  pub network : first_of (codes "NETWORK") rows ≡ Some said.network.now
  pub form : form_asked rows ≡ Some said.form

-- the words are answered by one of these kinds of fault, of which help and the version are two, or there are none and
-- these matches ask for two forms, or memory ran out
abbrev pub IsRefused : Kinds → List Row → WordsFault → Type 0
IsRefused kinds rows (w.Asked answer) = IsAmong (kind_of answer) kinds
IsRefused kinds rows (w.Words error) = IsAmong (kind_of error) kinds
IsRefused kinds rows w.Both = (kinds ≡ []) × AskBoth rows
IsRefused kinds rows w.NotText = ⊥
IsRefused kinds rows w.NoMemory = Unit {0}

-- these words are refused so
abbrev pub IsRefusal : List Text → WordsFault → Type 0
IsRefusal words = IsRefused (fault_of command words) (matches_of command words)

-- Words that the parser takes whole are refused for want of memory alone, or since they ask for two forms.
abbrev pub RefusesTaken : List Text → WordsFault → Type 0
RefusesTaken words fault =
    takes command words ≡ true → (fault ≡ w.NoMemory) ⊎ ((fault ≡ w.Both) × AskBoth (matches_of command words))
