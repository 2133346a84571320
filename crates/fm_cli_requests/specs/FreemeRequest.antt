-- What the words of the command line ask freeme for.
use Rattle.std.specs.Prelude.{◌≡◌, ◌↔◌, ℕ, Bool, List, [], ◌∷◌, Option, Some, None, IsTrue, map, codes}
use Rattle.clap.specs.Words.{App, Kinds, Row, Rule, fault_of, first_of, matches_of}
use Rattle.fm_cli_requests.specs.AuditRequest.{Audit, HasNoAudit, HasAuditOf, audit_of}
use Rattle.fm_cli_requests.specs.ClassFiles.{NameClasses}
use Rattle.fm_cli_requests.specs.ProgramText.{AskForNoText, AskForText}
use Rattle.fm_cli_requests.specs.Values.{IsGiven, IsValue, command_with, files_rule, flag_rule, option_rule}
use Rattle.fm_cli_requests.specs.declared.program_text.ProgramText.{ProgramText}
use Rattle.fm_cli_requests.specs.declared.freeme_request.FreemeRequest.{FreemeRequest}
use Rattle.fm_cli_requests.specs.declared.freeme_request.FreemeRequest.TheVariants as request
use Rattle.fm_cli_requests.specs.declared.freeme_request.WriteRequest.{WriteRequest}

-- the folder to write into, the main class, the files to read in order, the number of the class that is made, if one is, whether targets are
-- looked for only in classes of which reachable code makes objects, and whether all objects that a site in a loop gives are freed
pub record FreemeJob : Type 0 where
  pub folder : List ℕ
  pub main : List ℕ
  pub files : List (List ℕ)
  pub made : Option ℕ
  pub rapid : Bool
  pub chains : Bool

-- what may be among the words: four options, two flags and the files
abbrev pub freeme_rules : List Rule
freeme_rules =
    option_rule (codes "out") ∷ option_rule (codes "audit") ∷ option_rule (codes "main") ∷ option_rule (codes "make") ∷ flag_rule (codes "rapid")
    ∷ flag_rule (codes "chains") ∷ files_rule ∷ []

-- the command `freeme [--out DIR] [--audit DIR] [--main CLASS] [--make N] [--rapid] [--chains] [FILE...]`, as clap reads it: which of them go
-- together is not its matter
unfoldable pub freeme_command : App
freeme_command = command_with (codes "freeme") freeme_rules

-- the faults that clap finds in the words
unfoldable pub faults_in : List (List ℕ) → Kinds
faults_in words = fault_of freeme_command words

-- what clap matches in the words
unfoldable pub matched_in : List (List ℕ) → List Row
matched_in words = matches_of freeme_command words

-- what clap matched is the job: the folder, the class files or the class that is made, and whether `--rapid` and `--chains` are given, beside
-- which no class is made; there is no folder to audit
pub record HasValuesOf (matches : List Row) (job : FreemeJob) : Type 0 where
  pub no_audit : first_of (codes "audit") matches ≡ None
  pub folder : first_of (codes "out") matches ≡ Some job.folder
  pub folder_is_value : IsValue job.folder
  pub classes : NameClasses (codes "main") matches job.main job.files job.made
  pub rapid : IsTrue job.rapid ↔ IsGiven (codes "rapid") matches
  pub chains : IsTrue job.chains ↔ IsGiven (codes "chains") matches
  pub of_files : IsTrue job.rapid → job.made ≡ None
  pub chains_of_files : IsTrue job.chains → job.made ≡ None

-- what clap matched is no job
abbrev pub HasNoJob : List Row → Type 0
HasNoJob matches = (job : FreemeJob) → ¬ HasValuesOf matches job

-- clap finds no fault in the words, and what it matches there is the job
pub record Asks (words : List (List ℕ)) (job : FreemeJob) : Type 0 where
  pub faultless : faults_in words ≡ []
  pub values : HasValuesOf (matched_in words) job

-- the words ask for no job
abbrev pub AskNoJob : List (List ℕ) → Type 0
AskNoJob words = (job : FreemeJob) → ¬ Asks words job

-- the same of what is to be audited
pub record AskToAudit (words : List (List ℕ)) (audit : Audit) : Type 0 where
  pub faultless : faults_in words ≡ []
  pub values : HasAuditOf (matched_in words) audit

-- the words ask for no audit
abbrev pub AskNoAudit : List (List ℕ) → Type 0
AskNoAudit words = (audit : Audit) → ¬ AskToAudit words audit

-- the words ask for a text, and so for nothing else
pub record AskOnlyForText (words : List (List ℕ)) : Type 0 where
  pub asked : ProgramText
  pub asks : AskForText words asked
  pub no_job : AskNoJob words
  pub no_audit : AskNoAudit words

-- the words ask for no text, no job and no audit
pub record AskNothing (words : List (List ℕ)) : Type 0 where
  pub no_text : AskForNoText words
  pub no_job : AskNoJob words
  pub no_audit : AskNoAudit words

-- the job of a request to write
abbrev pub job_of : WriteRequest → FreemeJob
job_of r = record {
  folder = r.folder.now;
  main = r.main.now;
  files = map (λ file. file.now) r.files.items;
  made = r.made;
  rapid = r.rapid;
  chains = r.chains;
}

-- ---- a request of either kind

-- what clap matched is what is requested
abbrev pub HasValuesFor : List Row → FreemeRequest → Type 0
HasValuesFor matches (request.Write r) = HasValuesOf matches (job_of r)
HasValuesFor matches (request.Audit r) = HasAuditOf matches (audit_of r)

-- it is nothing that may be requested
pub record HasNoRequest (matches : List Row) : Type 0 where
  pub no_job : HasNoJob matches
  pub no_audit : HasNoAudit matches

-- the words ask for what is requested
abbrev pub AskForRequest : List (List ℕ) → FreemeRequest → Type 0
AskForRequest words (request.Write r) = Asks words (job_of r)
AskForRequest words (request.Audit r) = AskToAudit words (audit_of r)

-- they ask for nothing that may be requested
pub record AskForNoRequest (words : List (List ℕ)) : Type 0 where
  pub no_job : AskNoJob words
  pub no_audit : AskNoAudit words
