-- How it is reported that class files make no program.
use Rattle.std.specs.Prelude.{ℕ, List, [], ◌∷◌, ◌++◌, codes, Option, Some, None}
use Rattle.fm_link_refusals.specs.Refused.{refusal_of}
use Rattle.fm_link_refusals.specs.declared.error.LinkFail.{LinkFail}
use Rattle.fm_cli.specs.Printed.{printed}
use Rattle.fm_cli.specs.CommandRefusal.{memory_line}
use Rattle.fm_world.specs.Causes.{Cause, Duplicate, BuiltIn, MissingClass, BadParent, MissingField, MissingMethod, NotImplemented, NoMain, Refusal}

-- the word for a cause
abbrev pub cause_word : Cause → List ℕ
cause_word Duplicate = codes "duplicate"
cause_word BuiltIn = codes "built-in"
cause_word MissingClass = codes "missing-class"
cause_word BadParent = codes "bad-parent"
cause_word MissingField = codes "missing-field"
cause_word MissingMethod = codes "missing-method"
cause_word NotImplemented = codes "not-implemented"
cause_word NoMain = codes "no-main"

-- the line of a word, of a name and of the class whose file has it, with its line end
abbrev pub bad_line : List ℕ → List ℕ → List ℕ → List ℕ
bad_line word name user = codes "refused: link " ++ (word ++ (codes " " ++ (printed name ++ (codes " in " ++ (printed user ++ 10 ∷ [])))))

-- the line of a refusal
abbrev pub link_line : Refusal → List ℕ
link_line r = bad_line (cause_word r.cause) r.name r.user

-- the line of a cause; where there is none, it is for want of memory
abbrev pub cause_line : Option Refusal → List ℕ
cause_line None = memory_line
cause_line (Some refusal) = link_line refusal

-- the line of an error
abbrev pub link_fail_line : LinkFail → List ℕ
link_fail_line fail = cause_line (refusal_of fail)
