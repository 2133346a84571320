-- What the commands of both programs share, as clap reads them.
use Rattle.std.specs.Prelude.{◌≡◌, ℕ, ◌<◌, ◌≤◌, List, [], Some, true, length, codes}
use Rattle.std.specs.Str.Parse.{AllDigits, digits_value}
use Rattle.clap.specs.Lexer.{usize_max}
use Rattle.clap.specs.Words.{App, Row, Rule, first_of, new_rule}
use Rattle.clap.specs.Simple.{new_shape}
use Rattle.clap.specs.declared.builder.action.ArgAction.TheVariants.{SetTrue}
use Rattle.fm_base.specs.declared.limits.TheConstants.{MAX_COMMAND_LINE_VALUE_BYTES}

-- a value has a character, and isn't too long
abbrev pub IsValue : List ℕ → Type 0
IsValue value = (0 < length value) × (length value ≤ MAX_COMMAND_LINE_VALUE_BYTES)

-- one to `width` decimal digits that write a number within these limits
pub record IsNumber (width : ℕ) (digits : List ℕ) (least most n : ℕ) : Type 0 where
  pub not_empty : 0 < length digits
  pub short : length digits ≤ width
  pub decimal : AllDigits 10 digits
  pub value : digits_value 10 digits ≡ n
  pub above : least ≤ n
  pub within : n ≤ most

-- an option with a value, which may be given once, as `--steps N`
abbrev pub option_rule : List ℕ → Rule
option_rule name = record (new_rule name) { long = Some name }

-- a flag, which may be given once, as `--rapid`
abbrev pub flag_rule : List ℕ → Rule
flag_rule name = record (new_rule name) { long = Some name; action = Some SetTrue }

-- the flag of this name is given: clap matches it as true
abbrev pub IsGiven : List ℕ → List Row → Type 0
IsGiven name matches = first_of name matches ≡ Some (codes "true")

-- the files, of which there may be many: what is among the words without an option before it
abbrev pub files_rule : Rule
files_rule = record (new_rule (codes "file")) { range = Some (record { start_inclusive = 1; end_inclusive = usize_max }) }

-- a command with these arguments, whose words begin after the program's name, and of which no word asks for help or for a version
abbrev pub command_with : List ℕ → List Rule → App
command_with name rules = record {
  top = record (new_shape name) { rules = rules; no_binary_name = true; disable_help_flag = true; disable_version_flag = true };
  subs = [];
}
