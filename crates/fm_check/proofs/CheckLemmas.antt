-- From the code that is walked over to the method.
use Rattle.std.proofs.Common.{◌≡◌, sym, ◌∙◌, ℕ, List, Option, Some, None, subst}
use Rattle.std.specs.Prelude.{Err, IfOk, IsSomeAnd, Ok, OnOk, Result, ◌<◌, length}
use Rattle.fm_check.specs.declared.error.CheckFail.{CheckFail}
use Rattle.fm_check.specs.declared.error.CheckFail.TheVariants as fail
use Rattle.fm_check.specs.inner.Judgements.{Judged}
use Rattle.fm_types.specs.Typings.{states_of}
use Rattle.fm_types.specs.declared.states.Typing.{Typing}
use Rattle.fm_base.proofs.OptionFacts.{IsSomeAnd-at_some, IsSomeAnd-from_some, same_value, Some-from_some_and}
use Rattle.fm_check.specs.Checking.{coded, HasCode, IsCheckable, IsLeastTyping, IsNarrow, IsTooWide}
use Rattle.fm_check.specs.inner.Steps.{IsLeast}
use Rattle.fm_check_walk.specs.inner.Walks.{Untypable}
use Rattle.fm_check_walk.specs.inner.Tasks.{IsSound, Task}
use Rattle.fm_code.specs.declared.code_array.Code.{Code}
use Rattle.fm_types.specs.States.{TypeState}
use Rattle.fm_types.specs.Typed.{IsTypingOf, Typed}
use Rattle.fm_world.specs.Members.{methods_of}
use Rattle.fm_world.specs.Programs.{code_at, method_info, Program}

abbrev pub task_of : Program → ℕ → Code → Task
task_of p method code = record { program = p; number = method; code = code }

pub method_there : (p : Program) (method : ℕ) → IsSomeAnd (code_at p method) (HasCode p method) → method < length (methods_of p.outline.classes)
method_there p method has = (Some-from_some_and (code_at p method) (HasCode p method) has).2.inside

-- the code that was found is the method's
pub record IsFound (p : Program) (method : ℕ) (code : Code) : Type 0 where
  pub at : code_at p method ≡ Some code
  pub has : HasCode p method code

pub found_code : (p : Program) (method : ℕ) (code : Code) → IsSomeAnd (code_at p method) (HasCode p method)
    → Some code ≡ coded (method_info p method).body → IsFound p method code
found_code p method code has is =
    let found = Some-from_some_and (code_at p method) (HasCode p method) has in
    let same : found.0 ≡ code = same_value (coded (method_info p method).body) found.0 code found.2.body (sym is) in
    subst (λ (x : Code). IsFound p method x) same (record { at = found.1; has = found.2 })

pub no_code : (p : Program) (method : ℕ) → IsSomeAnd (code_at p method) (HasCode p method) → None ≡ coded (method_info p method).body → ⊥
no_code p method has is =
    let found = Some-from_some_and (code_at p method) (HasCode p method) has in
    let body = found.2.body in
    let both : None ≡ Some found.0 = is ∙ body in cc

pub of_code : (p : Program) (method : ℕ) (code : Code) (P : Code → Type 0) → IsFound p method code → P code → IsSomeAnd (code_at p method) P
of_code p method code P found holds = IsSomeAnd-from_some (code_at p method) P code found.at holds

pub sound_task : (p : Program) (method : ℕ) (code : Code) → IsCheckable p → IsFound p method code → IsSound (task_of p method code)
sound_task p method code checkable found = record {
  tree = checkable.tree;
  uses = checkable.uses;
  member = found.has.inside;
  rules = found.has.spelled;
}

pub untyped : (p : Program) (method : ℕ) (code : Code) → IsFound p method code → Untypable (task_of p method code) → ¬ Typed p method
untyped p method code found none typed =
    none typed.0 (IsSomeAnd-at_some (code_at p method) (λ c. IsTypingOf p method c typed.0) code found.at typed.1)

pub least_typing : (p : Program) (method : ℕ) (code : Code) (states : List (Option TypeState)) → IsFound p method code
    → IsLeast (task_of p method code) states → IsLeastTyping p method states
least_typing p method code states found least = record {
  typing = IsSomeAnd-from_some (code_at p method) (λ c. IsTypingOf p method c states) code found.at least.typing;
  least = λ others typing.
      least.least others (IsSomeAnd-at_some (code_at p method) (λ c. IsTypingOf p method c others) code found.at typing);
}

-- ---- the clauses of the result

pub judged_least : (p : Program) (method : ℕ) (code : Code) → IsFound p method code → (r : Result Typing CheckFail) → Judged (task_of p method code) r
    → IfOk r (λ typing. IsLeastTyping p method (states_of typing))
judged_least p method code found (Ok typing) judged = least_typing p method code (states_of typing) found judged.1
judged_least p method code found (Err e) judged = tt

pub judged_narrow : (p : Program) (method : ℕ) (code : Code) → IsFound p method code → (r : Result Typing CheckFail) → Judged (task_of p method code) r
    → OnOk r (IsSomeAnd (code_at p method) IsNarrow)
judged_narrow p method code found (Ok typing) judged = of_code p method code IsNarrow found judged.0
judged_narrow p method code found (Err e) judged = tt

pub judged_wide : (p : Program) (method : ℕ) (code : Code) → IsFound p method code → (r : Result Typing CheckFail) → Judged (task_of p method code) r
    → (count : ℕ) → r ≡ Err (fail.TooWide count) → IsSomeAnd (code_at p method) (λ code. IsTooWide code count)
judged_wide p method code found r judged count is =
    of_code p method code (λ code. IsTooWide code count) found
    (subst (λ (r : Result Typing CheckFail). Judged (task_of p method code) r) is judged)

pub judged_untyped : (p : Program) (method : ℕ) (code : Code) → IsFound p method code → (r : Result Typing CheckFail) → Judged (task_of p method code) r
    → r ≡ Err fail.NotTyped → ¬ Typed p method
judged_untyped p method code found r judged is =
    untyped p method code found (subst (λ (r : Result Typing CheckFail). Judged (task_of p method code) r) is judged).1

pub judged_untyped_narrow : (p : Program) (method : ℕ) (code : Code) → IsFound p method code → (r : Result Typing CheckFail) → Judged (task_of p method code) r
    → r ≡ Err fail.NotTyped → IsSomeAnd (code_at p method) IsNarrow
judged_untyped_narrow p method code found r judged is =
    of_code p method code IsNarrow found (subst (λ (r : Result Typing CheckFail). Judged (task_of p method code) r) is judged).0
