-- Whether there is room for what is woven.
use Rattle.std.specs.Prelude.{◌+◌, ◌≤◌, ◌&&◌, not, Bool, true, false, List, ◌∷◌, length, Option, Some, None, nat_lt, if◌then◌else◌}
use Rattle.fm_base.specs.declared.limits.TheConstants.{MAX_STACK_WORDS}
use Rattle.fm_code.specs.Members.{code_of}
use Rattle.fm_code.specs.declared.class_file.Member.{Member}
use Rattle.fm_code.specs.declared.code_array.Code.{Code}
use Rattle.fm_place.specs.declared.plans.Plan.{Plan}
use Rattle.fm_place_weave.specs.declared.planned.Planned.{Planned}
use Rattle.fm_place_weave.specs.declared.planned.Planned.TheVariants as planned
use Rattle.fm_audit_classes.specs.declared.low.TheConstants.{MAX_WOVEN_STACK_WORDS}

-- ---- as a test

-- the stack may have one more word, and there are no more pairs than a code has bytes
abbrev pub is_low_code : Code → Plan → Bool
is_low_code code plan =
    if nat_lt MAX_WOVEN_STACK_WORDS code.max_stack then false else
    if nat_lt 65535 (length plan.before.items) then false else not (nat_lt 65535 (length plan.after.items))

-- of a method that may have code
abbrev pub is_low_in : Plan → Option Code → Bool
is_low_in plan None = true
is_low_in plan (Some code) = is_low_code code plan

-- of a method by what is to be done with it
abbrev pub is_low : Planned → Member → Bool
is_low (planned.Woven p) m = is_low_in p.plan (code_of m)
is_low d m = true

-- of all methods of a class
abbrev pub are_low : List Planned → List Member → Bool
are_low (d ∷ done) (m ∷ methods) = is_low d m && are_low done methods
are_low done methods = true

-- ---- as a fact

-- the same of a code and its plan
pub record IsLow (code : Code) (plan : Plan) : Type 0 where
  pub stack : code.max_stack + 1 ≤ MAX_STACK_WORDS
  pub before : length plan.before.items ≤ 65535
  pub after : length plan.after.items ≤ 65535
