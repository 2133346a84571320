-- What the words of the command line ask fmrun for.
use Rattle.std.specs.Prelude.{◌≡◌, ℕ, List, [], ◌∷◌, Option, map, option_map, codes, IfSome, MatchOption}
use Rattle.clap.specs.Words.{App, Kinds, Row, Rule, fault_of, first_of, matches_of, new_rule}
use Rattle.fm_base.specs.declared.limits.TheConstants.{MAX_STEPS, DEFAULT_STEPS, MAX_LIVE_WORDS, DEFAULT_LIVE_WORDS, MAX_FRAMES, DEFAULT_FRAMES}
use Rattle.fm_cli_requests.specs.ClassFiles.{NameClasses}
use Rattle.fm_cli_requests.specs.ProgramText.{AskForNoText, AskForText}
use Rattle.fm_cli_requests.specs.Values.{IsNumber, IsValue, command_with, option_rule, files_rule}
use Rattle.fm_cli_requests.specs.declared.program_text.ProgramText.{ProgramText}
use Rattle.fm_cli_requests.specs.declared.fmrun_request.FmrunRequest.{FmrunRequest}

-- the budgets of steps, of live words and of frames, the file of the input and the text of the arguments where they are named, the main class,
-- the class files in order, and the number of the class that is made, if one is
pub record FmrunJob : Type 0 where
  pub steps : ℕ
  pub words : ℕ
  pub frames : ℕ
  pub input : Option (List ℕ)
  pub arguments : Option (List ℕ)
  pub main : List ℕ
  pub files : List (List ℕ)
  pub made : Option ℕ

-- the main class: the first of the words without an option before it
abbrev pub class_rule : Rule
class_rule = new_rule (codes "class")

-- what may be among the words: the six options, the main class and the files
abbrev pub fmrun_rules : List Rule
fmrun_rules = option_rule (codes "steps") ∷ option_rule (codes "words") ∷ option_rule (codes "frames") ∷ option_rule (codes "input")
    ∷ option_rule (codes "args") ∷ option_rule (codes "make") ∷ class_rule ∷ files_rule ∷ []

-- the command `fmrun [--steps N] [--words N] [--frames N] [--input FILE] [--args TEXT] [--make N] [CLASS] [FILE...]`, as clap reads it: which of them go
-- together is not its matter
unfoldable pub fmrun_command : App
fmrun_command = command_with (codes "fmrun") fmrun_rules

-- the faults that clap finds in the words
unfoldable pub faults_in : List (List ℕ) → Kinds
faults_in words = fault_of fmrun_command words

-- what clap matches in the words
unfoldable pub matched_in : List (List ℕ) → List Row
matched_in words = matches_of fmrun_command words

-- the number that is written, and where none is, the one that is given
abbrev pub IsBudget : Option (List ℕ) → ℕ → ℕ → ℕ → ℕ → Type 0
IsBudget text least most default n = MatchOption text (n ≡ default) (λ digits. IsNumber 10 digits least most n)

-- what clap matched is the job, each of whose values is one
pub record HasValuesOf (matches : List Row) (job : FmrunJob) : Type 0 where
  pub steps : IsBudget (first_of (codes "steps") matches) 0 MAX_STEPS DEFAULT_STEPS job.steps
  pub words : IsBudget (first_of (codes "words") matches) 0 MAX_LIVE_WORDS DEFAULT_LIVE_WORDS job.words
  pub frames : IsBudget (first_of (codes "frames") matches) 1 MAX_FRAMES DEFAULT_FRAMES job.frames
  pub input : first_of (codes "input") matches ≡ job.input
  pub arguments : first_of (codes "args") matches ≡ job.arguments
  pub input_is_value : IfSome job.input IsValue
  pub text_is_value : IfSome job.arguments IsValue
  pub classes : NameClasses (codes "class") matches job.main job.files job.made

-- what clap matched is no job
abbrev pub HasNoJob : List Row → Type 0
HasNoJob matches = (job : FmrunJob) → ¬ HasValuesOf matches job

-- clap finds no fault in the words, and what it matches there is the job
pub record Asks (words : List (List ℕ)) (job : FmrunJob) : Type 0 where
  pub faultless : faults_in words ≡ []
  pub values : HasValuesOf (matched_in words) job

-- the words ask for no job
abbrev pub AskNoJob : List (List ℕ) → Type 0
AskNoJob words = (job : FmrunJob) → ¬ Asks words job

-- the words ask for a text, and so for no job
pub record AskOnlyForText (words : List (List ℕ)) : Type 0 where
  pub asked : ProgramText
  pub asks : AskForText words asked
  pub no_job : AskNoJob words

-- the words ask for no text and for no job
pub record AskNothing (words : List (List ℕ)) : Type 0 where
  pub no_text : AskForNoText words
  pub no_job : AskNoJob words

-- the job of a request
abbrev pub job_of : FmrunRequest → FmrunJob
job_of r = record {
  steps = r.steps;
  words = r.words;
  frames = r.frames;
  input = option_map (λ file. file.now) r.input;
  arguments = option_map (λ text. text.now) r.arguments;
  main = r.main.now;
  files = map (λ file. file.now) r.files.items;
  made = r.made;
}
