-- What words ask fmrun for, by what clap matches in them.
use Rattle.std.proofs.lemmas.Bool.{false≢true}
use Rattle.std.specs.Borrow.{Bor}
use Rattle.std.proofs.Common.{false, IsTrue, IfSome, option_map, ◌≡◌, ◌∙◌, ◌≤◌, ⊎_elim, ℕ, true, Contains, Option, Some, None, List, [], ◌∷◌, sym, ap, subst, arith, refl, codes}
use Rattle.std.specs.Prelude.{◌⊎◌, MatchOption, Result}
use Rattle.clap.specs.Kinds.{FailsBy, IsAmong}
use Rattle.clap.specs.declared.error.Error.{Error}
use Rattle.clap.specs.declared.error.kind.ErrorKind.{ErrorKind}
use Rattle.clap.specs.declared.error.kind.ErrorKind.TheVariants.{OutOfMemory}
use Rattle.clap.specs.Words.{App, HasMatchesOf, fault_of, first_of, first_value, found_of, is_simple, is_simple_and_free, rows_of}
use Rattle.clap.specs.declared.parser.matches.ArgMatches.{ArgMatches}
use Rattle.clap.specs.declared.parser.matches.Found.{Found}
use Rattle.fm_base.specs.declared.limits.TheConstants.{MAX_STEPS, DEFAULT_STEPS, MAX_LIVE_WORDS, DEFAULT_LIVE_WORDS, MAX_FRAMES, DEFAULT_FRAMES}
use Rattle.clap.proofs.OnLiterals.{clap_on_literals}
use Rattle.fm_cli_requests.proofs.ClassFilesLemmas.{named_once}
use Rattle.fm_cli_requests.proofs.CommandLemmas.{faults_by, found_fault, is_fault, matched_by}
use Rattle.fm_cli_requests.proofs.ProgramTextLemmas.{one_of_two}
use Rattle.fm_cli_requests.proofs.MatchLemmas.{first_found, first_is}
use Rattle.fm_cli_requests.specs.ProgramText.{AskForText, text_words}
use Rattle.fm_cli_requests.specs.declared.program_text.ProgramText.{ProgramText}
use Rattle.fm_cli_requests.specs.declared.program_text.ProgramText.TheVariants as text
use Rattle.fm_cli_requests.specs.FmrunRequest.{AskNoJob, Asks, HasNoJob, HasValuesOf, IsBudget, FmrunJob, faults_in, fmrun_command, fmrun_rules, job_of, matched_in}
use Rattle.fm_cli_requests.specs.Values.{IsNumber, IsValue, command_with}
use Rattle.fm_cli_requests.specs.inner.FmrunRequest.{IsNoBudget}
use Rattle.fm_cli_requests.specs.inner.Values.{IsNoNumber}
use Rattle.fm_cli_requests.specs.declared.fmrun_request.FmrunRequest.{FmrunRequest}

-- the command by its arguments
pub is_command : (app : App) → app ≡ command_with (codes "fmrun") fmrun_rules → app ≡ fmrun_command
unfolding fmrun_command
is_command app is = is

-- the command is one whose matches and faults are functions of the words
is_simple_command : is_simple fmrun_command ≡ true
unfolding fmrun_command
is_simple_command = refl

is_free_command : is_simple_and_free fmrun_command ≡ true
unfolding fmrun_command
is_free_command = refl

-- what a parse matched, and the faults that it found
pub matched_are : (app : App) (words : List (List ℕ)) (m : ArgMatches) → app ≡ fmrun_command → HasMatchesOf app words m → matched_in words ≡ rows_of (found_of m)
unfolding matched_in
matched_are app words m = matched_by fmrun_command app words m is_simple_command

pub faults_are : (app : App) (words : List (List ℕ)) (result : Result ArgMatches Error) → app ≡ fmrun_command
    → (is_simple_and_free app ≡ true → FailsBy (fault_of app words) result) → FailsBy (faults_in words) result
unfolding faults_in
faults_are app words result = faults_by fmrun_command app words result is_free_command

-- what the matches hold is what the words ask for
pub asked_by : (words : List (List ℕ)) (asked : Option FmrunRequest) → faults_in words ≡ []
    → MatchOption asked (HasNoJob (matched_in words)) (λ r. HasValuesOf (matched_in words) (job_of r)) → MatchOption asked (AskNoJob words) (λ r. Asks words (job_of r))
asked_by words None faultless h = λ job asks. h job asks.values
asked_by words (Some r) faultless h = record { faultless = faultless; values = h }

-- words in which there is a fault ask for no job
pub faulty : (words : List (List ℕ)) (kind : ErrorKind) → ¬ (kind ≡ OutOfMemory) → (kind ≡ OutOfMemory) ⊎ IsAmong kind (faults_in words) → AskNoJob words
faulty words kind known fails = λ job asks. is_fault (faults_in words) kind known fails asks.faultless

-- clap finds a fault in each word that asks for a text
faulty_word : (word : List ℕ) → ¬ (faults_in (word ∷ []) ≡ []) → (asked : List ℕ) → asked ≡ word → ¬ (faults_in (asked ∷ []) ≡ [])
faulty_word word fault asked is none = fault (subst (λ (w : List ℕ). faults_in (w ∷ []) ≡ []) is none)

help_faulty : ¬ (faults_in (codes "--help" ∷ []) ≡ [])
unfolding faults_in fmrun_command clap_on_literals
help_faulty = found_fault (faults_in (codes "--help" ∷ [])) refl

short_help_faulty : ¬ (faults_in (codes "-h" ∷ []) ≡ [])
unfolding faults_in fmrun_command clap_on_literals
short_help_faulty = found_fault (faults_in (codes "-h" ∷ [])) refl

version_faulty : ¬ (faults_in (codes "--version" ∷ []) ≡ [])
unfolding faults_in fmrun_command clap_on_literals
version_faulty = found_fault (faults_in (codes "--version" ∷ [])) refl

short_version_faulty : ¬ (faults_in (codes "-V" ∷ []) ≡ [])
unfolding faults_in fmrun_command clap_on_literals
short_version_faulty = found_fault (faults_in (codes "-V" ∷ [])) refl

text_faulty : (asked : ProgramText) (word : List ℕ) → Contains (text_words asked) word → ¬ (faults_in (word ∷ []) ≡ [])
text_faulty text.Help word among =
    ⊎_elim (faulty_word (codes "--help") help_faulty word) (faulty_word (codes "-h") short_help_faulty word)
    (one_of_two (codes "--help") (codes "-h") word among)
text_faulty text.Version word among =
    ⊎_elim (faulty_word (codes "--version") version_faulty word) (faulty_word (codes "-V") short_version_faulty word)
    (one_of_two (codes "--version") (codes "-V") word among)

-- so words that ask for a text ask for no job
pub text_no_job : (words : List (List ℕ)) (asked : ProgramText) → AskForText words asked → AskNoJob words
text_no_job [] asked asks = absurd asks
text_no_job (word ∷ []) asked asks = λ job has. text_faulty asked word asks has.faultless
text_no_job (word ∷ next ∷ words) asked asks = absurd asks

-- one number is written, or given where none is
one_budget : (text : Option (List ℕ)) (least most default m n : ℕ) → IsBudget text least most default m → IsBudget text least most default n → m ≡ n
one_budget None least most default m n a b = a ∙ sym b
one_budget (Some digits) least most default m n a b = sym a.value ∙ b.value

-- words ask for one job at most
pub asks_one : (words : List (List ℕ)) (a b : FmrunJob) → Asks words a → Asks words b → a ≡ b
asks_one words a b p q =
    let found = matched_in words in
    let steps = one_budget (first_of (codes "steps") found) _ _ _ a.steps b.steps p.values.steps q.values.steps in
    let budget = one_budget (first_of (codes "words") found) _ _ _ a.words b.words p.values.words q.values.words in
    let frames = one_budget (first_of (codes "frames") found) _ _ _ a.frames b.frames p.values.frames q.values.frames in
    let input = sym p.values.input ∙ q.values.input in
    let arguments = sym p.values.arguments ∙ q.values.arguments in
    let classes = named_once (codes "class") found a.main b.main a.files b.files a.made b.made p.values.classes q.values.classes in
    λ i. record { steps = steps i; words = budget i; frames = frames i; input = input i; arguments = arguments i; main = classes.main_is i; files = classes.files_are i; made = classes.made_is i }

-- a value that may be lacking and passes no test isn't that of a job
pub untested_if_any : (answer : Option (Bor (List ℕ))) (value : Option (List ℕ)) → option_map (λ s. s.now) answer ≡ value → (IfSome answer (λ text. IsValue text.now) → IsTrue false) → ¬ IfSome value IsValue
untested_if_any None value is test passes = false≢true (test tt)
untested_if_any (Some text) value is test passes = let P : Option (List ℕ) → Type 0 = λ v. IfSome v IsValue in false≢true (test (subst P (sym is) passes))

-- and one that passes it is
pub value_if_any : (answer : Option (Bor (List ℕ))) → IfSome answer (λ text. IsValue text.now) → IfSome (option_map (λ s. s.now) answer) IsValue
value_if_any None passes = tt
value_if_any (Some text) passes = passes

-- the number that is named, and the default where none is
pub budget_named : (f : Found) (id : List ℕ) (answer : Option (Bor (List ℕ))) (digits : Bor (List ℕ)) (least most default : ℕ) (result : Option ℕ) → option_map (λ s. s.now) answer ≡ first_value f id
    → answer ≡ Some digits → MatchOption result (IsNoNumber 10 digits.now least most) (IsNumber 10 digits.now least most)
    → MatchOption result (IsNoBudget (first_of id (rows_of f)) least most default) (IsBudget (first_of id (rows_of f)) least most default)
budget_named f id answer digits least most default result got is number =
    let P : Option (List ℕ) → Type 0 = λ text. MatchOption result (IsNoBudget text least most default) (IsBudget text least most default) in
    subst P (sym (first_found f id answer digits got is)) number

pub budget_default : (f : Found) (id : List ℕ) (answer : Option (Bor (List ℕ))) (least most default : ℕ) → option_map (λ s. s.now) answer ≡ first_value f id
    → answer ≡ None → IsBudget (first_of id (rows_of f)) least most default default
budget_default f id answer least most default got is =
    let none : first_of id (rows_of f) ≡ None = first_is f id answer got ∙ ap (option_map (λ s. s.now)) is in
    let P : Option (List ℕ) → Type 0 = λ text. IsBudget text least most default default in
    subst P (sym none) refl

-- a budget is within its limits where that is the one that holds if none is named
budget_within : (text : Option (List ℕ)) (least most default n : ℕ) → least ≤ default → default ≤ most → IsBudget text least most default n → (least ≤ n) × (n ≤ most)
budget_within None least most default n above within is = subst (λ (m : ℕ). (least ≤ m) × (m ≤ most)) (sym is) (above, within)
budget_within (Some digits) least most default n above within is = (is.above, is.within)

-- the budgets of a job that is asked for are within their limits
pub steps_within : (words : List (List ℕ)) (job : FmrunJob) → Asks words job → job.steps ≤ MAX_STEPS
steps_within words job asks =
    (budget_within (first_of (codes "steps") (matched_in words)) 0 MAX_STEPS DEFAULT_STEPS job.steps (omega arith) (omega arith) asks.values.steps).1

pub words_within : (words : List (List ℕ)) (job : FmrunJob) → Asks words job → job.words ≤ MAX_LIVE_WORDS
words_within words job asks =
    (budget_within (first_of (codes "words") (matched_in words)) 0 MAX_LIVE_WORDS DEFAULT_LIVE_WORDS job.words (omega arith) (omega arith) asks.values.words).1

pub frames_within : (words : List (List ℕ)) (job : FmrunJob) → Asks words job → (1 ≤ job.frames) × (job.frames ≤ MAX_FRAMES)
frames_within words job asks =
    budget_within (first_of (codes "frames") (matched_in words)) 1 MAX_FRAMES DEFAULT_FRAMES job.frames (omega arith) (omega arith) asks.values.frames
