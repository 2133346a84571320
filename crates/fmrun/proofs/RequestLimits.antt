-- What the words of a job keep within limits.
use Rattle.std.proofs.Common.{◌≡◌, ◌<◌, ◌≤◌, ℕ, ◌*◌, ◌^◌, List, [], ◌∷◌, Option, Some, None, IfSome, Bor, IfOk, Ok, Err, Result, Vec, option_map, length, codes, sym, subst, arith}
use Rattle.std.specs.List.{AllByRecursion}
use Rattle.fm_base.specs.declared.limits.TheConstants.{MAX_ARGUMENTS, MAX_COMMAND_LINE_VALUE_BYTES}
use Rattle.fm_cli_requests.proofs.ArgumentLemmas.{argument_lengths}
use Rattle.fm_cli_requests.specs.Arguments.{arguments_of}
use Rattle.fm_cli_requests.proofs.ClassFilesLemmas.{made_alone}
use Rattle.fm_cli_requests.proofs.FmrunRequestLemmas.{steps_within, words_within}
use Rattle.fm_cli_requests.specs.FmrunRequest.{Asks, FmrunJob, matched_in}
use Rattle.fm_cli_requests.specs.Values.{IsValue}
use Rattle.fm_law_sound.specs.Making.{ArgumentsFit, AreUnits}
use Rattle.fmrun.specs.Jobs.{IsWithinLimits}

-- a value isn't too long
value_within : (text : Option (List ℕ)) → IfSome text IsValue → IfSome text (λ value. length value ≤ MAX_COMMAND_LINE_VALUE_BYTES)
value_within None is = tt
value_within (Some text) is = is.1

-- so what words ask for is within the limits
pub within_limits : (words : List (List ℕ)) (job : FmrunJob) → Asks words job → IsWithinLimits job
within_limits words job asks = record {
  budgets = record { words = words_within words job asks; store = omega arith; steps = steps_within words job asks };
  text = value_within job.arguments asks.values.text_is_value;
  alone = made_alone (codes "class") (matched_in words) job.main job.files job.made asks.values.classes;
}

-- the text of a request
pub text_within : (text : Option (Bor (List ℕ))) → IfSome (option_map (λ t. t.now) text) (λ value. length value ≤ MAX_COMMAND_LINE_VALUE_BYTES) → IfSome text (λ t. length t.now ≤ MAX_COMMAND_LINE_VALUE_BYTES)
text_within None is = tt
text_within (Some text) is = is

-- an argument has fewer units than an array may have elements, and each has 16 bits
abbrev pub Fits : List ℕ → Type 0
Fits argument = (length argument < 2 ^ 31) × AreUnits argument

all_fit : (n : ℕ) (arguments : List (List ℕ)) → n ≤ MAX_COMMAND_LINE_VALUE_BYTES → AllByRecursion (λ argument. length argument ≤ 2 * n) arguments
    → AllByRecursion (λ argument. AllByRecursion (λ unit. unit < 2 ^ 16) argument) arguments → AllByRecursion Fits arguments
all_fit n [] few short units = tt
all_fit n (argument ∷ arguments) few short units =
    let first = short.0 in ((omega arith, units.0), all_fit n arguments few short.1 units.1)

pub arguments_fit : (text : List ℕ) (arguments : List (List ℕ)) → arguments ≡ arguments_of text → length text ≤ MAX_COMMAND_LINE_VALUE_BYTES
    → AllByRecursion (λ argument. AllByRecursion (λ unit. unit < 2 ^ 16) argument) arguments → AllByRecursion Fits arguments
arguments_fit text arguments are few units =
    all_fit (length text) arguments few (subst (AllByRecursion (λ argument. length argument ≤ 2 * length text)) (sym are) (argument_lengths text)) units

-- as many as may be fit an array
pub fit_array : (arguments : List (List ℕ)) → length arguments ≤ MAX_ARGUMENTS → AllByRecursion Fits arguments → ArgumentsFit arguments
fit_array arguments few fits = record { few = omega arith; texts = fits }

-- and so do those that are made
pub made_fit : {Y E : Type 0} (text : List ℕ) (r : Result (Vec (List ℕ) Y) E) → length text ≤ MAX_COMMAND_LINE_VALUE_BYTES → IfOk r (λ made. made.items ≡ arguments_of text)
    → IfOk r (λ made. AllByRecursion (λ argument. AllByRecursion (λ unit. unit < 2 ^ 16) argument) made.items) → IfOk r (λ made. AllByRecursion Fits made.items)
made_fit text (Ok made) short are units = arguments_fit text made.items are short units
made_fit text (Err e) short are units = tt
