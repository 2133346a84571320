-- What words ask freeme for, by what clap matches in them.
use Rattle.std.proofs.Common.{◌≡◌, ⊎_elim, ℕ, true, Contains, Option, Some, None, List, [], ◌∷◌, refl, subst, codes}
use Rattle.std.specs.Prelude.{◌⊎◌, MatchOption, Result}
use Rattle.clap.specs.Kinds.{FailsBy, IsAmong}
use Rattle.clap.specs.declared.error.Error.{Error}
use Rattle.clap.specs.declared.error.kind.ErrorKind.{ErrorKind}
use Rattle.clap.specs.declared.error.kind.ErrorKind.TheVariants.{OutOfMemory}
use Rattle.clap.specs.Words.{App, HasMatchesOf, fault_of, first_of, found_of, is_simple, is_simple_and_free, rows_of}
use Rattle.clap.specs.declared.parser.matches.ArgMatches.{ArgMatches}
use Rattle.fm_cli_requests.specs.Values.{command_with}
use Rattle.clap.proofs.OnLiterals.{clap_on_literals}
use Rattle.fm_base.proofs.OptionFacts.{same_value}
use Rattle.fm_base.proofs.TestFacts.{same_test}
use Rattle.fm_cli_requests.proofs.ClassFilesLemmas.{named_once}
use Rattle.fm_cli_requests.proofs.CommandLemmas.{faults_by, found_fault, is_fault, matched_by}
use Rattle.fm_cli_requests.proofs.ProgramTextLemmas.{one_of_two}
use Rattle.fm_cli_requests.specs.ProgramText.{AskForText, text_words}
use Rattle.fm_cli_requests.specs.declared.program_text.ProgramText.{ProgramText}
use Rattle.fm_cli_requests.specs.declared.program_text.ProgramText.TheVariants as text
use Rattle.fm_cli_requests.specs.AuditRequest.{Audit}
use Rattle.fm_cli_requests.specs.FreemeRequest.{AskForRequest, AskForNoRequest, AskNoAudit, AskNoJob, AskToAudit, Asks, FreemeJob, HasNoRequest, HasValuesFor, faults_in, freeme_command, freeme_rules, matched_in}
use Rattle.fm_cli_requests.specs.declared.freeme_request.FreemeRequest.{FreemeRequest}
use Rattle.fm_cli_requests.specs.declared.freeme_request.FreemeRequest.TheVariants as request

-- the command by its arguments
pub is_command : (app : App) → app ≡ command_with (codes "freeme") freeme_rules → app ≡ freeme_command
unfolding freeme_command
is_command app is = is

-- the command is one whose matches and faults are functions of the words
is_simple_command : is_simple freeme_command ≡ true
unfolding freeme_command
is_simple_command = refl

is_free_command : is_simple_and_free freeme_command ≡ true
unfolding freeme_command
is_free_command = refl

-- what a parse matched, and the faults that it found
pub matched_are : (app : App) (words : List (List ℕ)) (m : ArgMatches) → app ≡ freeme_command → HasMatchesOf app words m → matched_in words ≡ rows_of (found_of m)
unfolding matched_in
matched_are app words m = matched_by freeme_command app words m is_simple_command

pub faults_are : (app : App) (words : List (List ℕ)) (result : Result ArgMatches Error) → app ≡ freeme_command
    → (is_simple_and_free app ≡ true → FailsBy (fault_of app words) result) → FailsBy (faults_in words) result
unfolding faults_in
faults_are app words result = faults_by freeme_command app words result is_free_command

-- what the matches hold is what the words ask for
pub asked_by : (words : List (List ℕ)) (asked : Option FreemeRequest) → faults_in words ≡ []
    → MatchOption asked (HasNoRequest (matched_in words)) (HasValuesFor (matched_in words)) → MatchOption asked (AskForNoRequest words) (AskForRequest words)
asked_by words None faultless h =
    record { no_job = λ job asks. h.no_job job asks.values; no_audit = λ job asks. h.no_audit job asks.values }
asked_by words (Some (request.Write r)) faultless h = record { faultless = faultless; values = h }
asked_by words (Some (request.Audit r)) faultless h = record { faultless = faultless; values = h }

-- words in which there is a fault ask for nothing
pub faulty : (words : List (List ℕ)) (kind : ErrorKind) → ¬ (kind ≡ OutOfMemory) → (kind ≡ OutOfMemory) ⊎ IsAmong kind (faults_in words) → AskForNoRequest words
faulty words kind known fails =
    let fault = is_fault (faults_in words) kind known fails in
    record { no_job = λ job asks. fault asks.faultless; no_audit = λ job asks. fault asks.faultless }

-- clap finds a fault in each word that asks for a text
faulty_word : (word : List ℕ) → ¬ (faults_in (word ∷ []) ≡ []) → (asked : List ℕ) → asked ≡ word → ¬ (faults_in (asked ∷ []) ≡ [])
faulty_word word fault asked is none = fault (subst (λ (w : List ℕ). faults_in (w ∷ []) ≡ []) is none)

help_faulty : ¬ (faults_in (codes "--help" ∷ []) ≡ [])
unfolding faults_in freeme_command clap_on_literals
help_faulty = found_fault (faults_in (codes "--help" ∷ [])) refl

short_help_faulty : ¬ (faults_in (codes "-h" ∷ []) ≡ [])
unfolding faults_in freeme_command clap_on_literals
short_help_faulty = found_fault (faults_in (codes "-h" ∷ [])) refl

version_faulty : ¬ (faults_in (codes "--version" ∷ []) ≡ [])
unfolding faults_in freeme_command clap_on_literals
version_faulty = found_fault (faults_in (codes "--version" ∷ [])) refl

short_version_faulty : ¬ (faults_in (codes "-V" ∷ []) ≡ [])
unfolding faults_in freeme_command clap_on_literals
short_version_faulty = found_fault (faults_in (codes "-V" ∷ [])) refl

text_faulty : (asked : ProgramText) (word : List ℕ) → Contains (text_words asked) word → ¬ (faults_in (word ∷ []) ≡ [])
text_faulty text.Help word among =
    ⊎_elim (faulty_word (codes "--help") help_faulty word) (faulty_word (codes "-h") short_help_faulty word)
    (one_of_two (codes "--help") (codes "-h") word among)
text_faulty text.Version word among =
    ⊎_elim (faulty_word (codes "--version") version_faulty word) (faulty_word (codes "-V") short_version_faulty word)
    (one_of_two (codes "--version") (codes "-V") word among)

-- so it finds one in words that ask for a text
text_faulty_words : (words : List (List ℕ)) (asked : ProgramText) → AskForText words asked → ¬ (faults_in words ≡ [])
text_faulty_words [] asked asks = absurd asks
text_faulty_words (word ∷ []) asked asks = text_faulty asked word asks
text_faulty_words (word ∷ next ∷ words) asked asks = absurd asks

-- and these ask for no job and for no audit
pub text_no_job : (words : List (List ℕ)) (asked : ProgramText) → AskForText words asked → AskNoJob words
text_no_job words asked asks job has = text_faulty_words words asked asks has.faultless

pub text_no_audit : (words : List (List ℕ)) (asked : ProgramText) → AskForText words asked → AskNoAudit words
text_no_audit words asked asks job has = text_faulty_words words asked asks has.faultless

-- words ask for one job at most
pub asks_one : (words : List (List ℕ)) (a b : FreemeJob) → Asks words a → Asks words b → a ≡ b
asks_one words a b p q =
    let folder = same_value (first_of (codes "out") (matched_in words)) a.folder b.folder p.values.folder q.values.folder in
    let classes = named_once (codes "main") (matched_in words) a.main b.main a.files b.files a.made b.made p.values.classes q.values.classes in
    let rapid = same_test a.rapid b.rapid (λ given. q.values.rapid.1 (p.values.rapid.0 given)) (λ given. p.values.rapid.1 (q.values.rapid.0 given)) in
    let chains = same_test a.chains b.chains (λ given. q.values.chains.1 (p.values.chains.0 given)) (λ given. p.values.chains.1 (q.values.chains.0 given)) in
    λ i. record {
      folder = folder i;
      main = classes.main_is i;
      files = classes.files_are i;
      made = classes.made_is i;
      rapid = rapid i;
      chains = chains i;
    }

-- for one audit at most
pub audits_one : (words : List (List ℕ)) (a b : Audit) → AskToAudit words a → AskToAudit words b → a ≡ b
audits_one words a b p q =
    let folder = same_value (first_of (codes "audit") (matched_in words)) a.folder b.folder p.values.folder q.values.folder in
    let classes = named_once (codes "main") (matched_in words) a.main b.main a.files b.files None None p.values.classes q.values.classes in
    λ i. record { folder = folder i; main = classes.main_is i; files = classes.files_are i }

-- and never for both
pub audits_alone : (words : List (List ℕ)) (job : Audit) → AskToAudit words job → AskNoJob words
audits_alone words job audits writing asks =
    let some = audits.values.folder in
    let none = asks.values.no_audit in cc
