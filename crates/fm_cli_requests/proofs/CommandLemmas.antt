-- What clap makes of a command, argument by argument, and of words by it.
use Rattle.std.proofs.Common.{inl, inr, ◌≡◌, ◌∙◌, ◌++◌, ◌∷◌, [], ℕ, true, false, List, sym, ap, subst}
use Rattle.std.proofs.lemmas.Bool.{false≢true}
use Rattle.std.specs.Prelude.{◌⊎◌, Result}
use Rattle.clap.specs.Walk.{is_empty}
use Rattle.clap.specs.Kinds.{FailsBy, IsAmong, Kinds}
use Rattle.clap.specs.Words.{AddsArg, App, HasMatchesOf, Rule, app_of, fault_of, found_of, is_simple, is_simple_and_free, matches_of, rows_of, rule_of, with_rule}
use Rattle.clap.specs.declared.builder.arg.Arg.{Arg}
use Rattle.clap.specs.declared.builder.command.Command.{Command}
use Rattle.clap.specs.declared.error.Error.{Error}
use Rattle.clap.specs.declared.error.kind.ErrorKind.{ErrorKind}
use Rattle.clap.specs.declared.error.kind.ErrorKind.TheVariants.{OutOfMemory}
use Rattle.clap.specs.declared.parser.matches.ArgMatches.{ArgMatches}
use Rattle.fm_cli_requests.specs.Values.{command_with}

-- a command with these arguments gets one more
pub with_one_more : {old new : Command} {a : Arg} (name : List ℕ) (rules : List Rule) (r : Rule) → app_of old ≡ command_with name rules → AddsArg old a new
    → rule_of a ≡ r → a.global ≡ false → app_of new ≡ command_with name (rules ++ r ∷ [])
with_one_more {a = a} name rules r was adds is local =
    adds.shape local ∙ (ap (λ app. with_rule app (rule_of a)) was ∙ ap (with_rule (command_with name rules)) is)

-- what a parse matched and the faults that it found, where the command is one whose matches and faults are functions of the words
pub matched_by : (wanted app : App) (words : List (List ℕ)) (m : ArgMatches) → is_simple wanted ≡ true → app ≡ wanted → HasMatchesOf app words m
    → matches_of wanted words ≡ rows_of (found_of m)
matched_by wanted app words m simple is has = sym (subst (λ (a : App). HasMatchesOf a words m) is has simple).0

pub faults_by : (wanted app : App) (words : List (List ℕ)) (result : Result ArgMatches Error) → is_simple_and_free wanted ≡ true → app ≡ wanted
    → (is_simple_and_free app ≡ true → FailsBy (fault_of app words) result) → FailsBy (fault_of wanted words) result
faults_by wanted app words result free is fails = subst (λ (a : App). is_simple_and_free a ≡ true → FailsBy (fault_of a words) result) is fails free

-- an error that isn't want of memory shows a fault
pub is_fault : (faults : Kinds) (kind : ErrorKind) → ¬ (kind ≡ OutOfMemory) → (kind ≡ OutOfMemory) ⊎ IsAmong kind faults → ¬ (faults ≡ [])
is_fault faults kind known (inl memory) none = absurd (known memory)
is_fault faults kind known (inr among) none = subst (IsAmong kind) none among

-- where computing shows a fault there is one
pub found_fault : (faults : Kinds) → is_empty faults ≡ false → ¬ (faults ≡ [])
found_fault faults found none = false≢true (sym found ∙ ap is_empty none)
