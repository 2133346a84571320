-- What a job gives to its run.
use Rattle.std.specs.Prelude.{ℕ, ◌≤◌, ◌++◌, List, [], ◌∷◌, Option, Some, None, length, IfSome}
use Rattle.fm_base.specs.declared.limits.TheConstants.{MAX_ARGUMENTS, MAX_COMMAND_LINE_VALUE_BYTES, MAX_MADE_WORDS}
use Rattle.fm_code.specs.declared.class_file.ClassDef.{ClassDef}
use Rattle.fm_files.specs.Files.{Bytes, Contents}
use Rattle.fm_frames.specs.States.{State}
use Rattle.fm_load.specs.Given.{AreChecked, Given, given_program, IsMadeAlone}
use Rattle.fm_run_job.specs.Reading.{IsInputOf}
use Rattle.fm_cli_requests.specs.Arguments.{arguments_of}
use Rattle.fm_cli_requests.specs.FmrunRequest.{FmrunJob}
use Rattle.fm_run_job.specs.Runs.{AreWithin, opened_run}
use Rattle.fm_run_job.specs.declared.runs.Budgets.{Budgets}
use Rattle.fm_cli.specs.Encoding.{modified}
use Rattle.fm_world.specs.Programs.{Program}

-- the class files or the class that is made, and the main class as class files spell it
abbrev pub given_of : FmrunJob → Given
given_of job = record { files = job.files; made = job.made; main = modified job.main }

-- the arguments that a text gives; none where no text is named for them
abbrev pub text_arguments : Option (List ℕ) → List (List ℕ)
text_arguments None = []
text_arguments (Some text) = arguments_of text

-- the arguments of main
abbrev pub job_arguments : FmrunJob → List (List ℕ)
job_arguments job = text_arguments job.arguments

-- the budgets of the run; no word of the command line says how large the store may be
abbrev pub budgets_of : FmrunJob → Budgets
budgets_of job = record { steps = job.steps; words = job.words; store = MAX_MADE_WORDS; frames = job.frames }

-- the file of the input, where one is named
abbrev pub input_files : Option Bytes → List Bytes
input_files None = []
input_files (Some file) = file ∷ []

-- all files of a job
abbrev pub job_files : FmrunJob → List Bytes
job_files job = job.files ++ input_files job.input

-- the program that classes of a job make
abbrev pub job_program : FmrunJob → List ClassDef → Program
job_program job classes = given_program (given_of job) classes

-- the state at the opening of its run, with this input
abbrev pub opened_job : FmrunJob → List ClassDef → Bytes → State
opened_job job classes input = opened_run (job_program job classes) (budgets_of job) (job_arguments job) input

-- the classes that are given make a program of typed methods, there aren't too many arguments, and this is the input
pub record IsReady (job : FmrunJob) (contents : Contents) (classes : List ClassDef) (input : Bytes) : Type 0 where
  pub checked : AreChecked (given_of job) contents classes
  pub few : length (job_arguments job) ≤ MAX_ARGUMENTS
  pub input_is : IsInputOf job.input contents input

-- the budgets of the words are within their limits, the text of the arguments isn't too long, and a class is made only where no file is named
pub record IsWithinLimits (job : FmrunJob) : Type 0 where
  pub alone : IsMadeAlone (given_of job)
  pub budgets : AreWithin (budgets_of job)
  pub text : IfSome job.arguments (λ text. length text ≤ MAX_COMMAND_LINE_VALUE_BYTES)
