-- What is known of a program and of one that has more in its methods. All laws of the second program rest on it, and on nothing else of class files.
use Rattle.std.specs.Prelude.{◌≡◌, ℕ, List, [], Option, Some, None, Contains}
use Rattle.std.specs.List.{slice_index_or}
use Rattle.fm_chain.specs.SafeChains.{looped_plans, SafeChainsOf}
use Rattle.fm_chain.specs.declared.calls.Calls.{Calls}
use Rattle.fm_code.specs.Edges.{insn_of, MeetsCodeRules}
use Rattle.fm_code.specs.declared.class_file.ClassDef.{ClassDef}
use Rattle.fm_code.specs.declared.code_array.Code.{Code}
use Rattle.fm_code.specs.declared.code_array.Handler.{Handler}
use Rattle.fm_code.specs.declared.instructions.Insn.{Insn}
use Rattle.fm_code.specs.declared.instructions.Insn.TheVariants as insn
use Rattle.fm_conn.specs.Facts.{Facts}
use Rattle.fm_conn.specs.Links.{typed_method}
use Rattle.fm_frames.specs.declared.natives.Native.{Native}
use Rattle.fm_frames.specs.declared.natives.Native.TheVariants.{FreeMeFree, FreeMeFreeChain, FreeMeLink}
use Rattle.fm_law_chained.specs.Called.{CallsNative}
use Rattle.fm_law_same_runs.specs.Beside.{Marks}
use Rattle.fm_law_same_runs.specs.Programs.{AreTaken}
use Rattle.fm_law_unwoven.specs.Laid.{IsLaid, mark_at}
use Rattle.fm_place.specs.Insertions.{Insertions}
use Rattle.fm_place.specs.Rewriting.{Plans}
use Rattle.fm_place.specs.Safe.{AreSafe, IsProgramOf, SafeOf}
use Rattle.fm_types.specs.Typed.{use_by, use_in}
use Rattle.fm_world.specs.Programs.{code_at, Program, program_of}

-- ---- one method

-- each instruction of the method's old code, and each catch type, is resolved in both programs to the same
pub record NamesTheSame (p q : Program) (method : ℕ) (code : Code) : Type 0 where
  pub insns : (j : ℕ) (i : Insn) → insn_of code j ≡ Some i → use_by q method i ≡ use_by p method i
  pub handlers : (h : Handler) → Contains code.handlers h → use_in q method h.catch_class ≡ use_in p method h.catch_class

-- the marks of a method's items
abbrev pub own_marks : Marks → ℕ → List (Option ℕ)
own_marks marks method = slice_index_or marks method []

-- nothing is inserted
abbrev pub nothing_inserted : Insertions
nothing_inserted = record { holders = []; before = [] }

-- what a plan inserts, and nothing where there is none
abbrev pub inserted_by : Option Insertions → Insertions
inserted_by None = nothing_inserted
inserted_by (Some plan) = plan

-- in this code an inserted call of the entry is one of this method
abbrev pub AreCalls : Program → Marks → (method : ℕ) → Code → Native → (call : ℕ) → Type 0
AreCalls q marks method new row call =
    (n : ℕ) → insn_of new n ≡ Some (insn.Static call) → mark_at (own_marks marks method) n ≡ None → CallsNative q.outline row (use_in q method call)

-- in the second program the method has its old code with these insertions, whose calls are of FreeMe's methods
pub record HasInserted (q : Program) (marks : Marks) (method : ℕ) (old : Code) (plan : Insertions) : Type 0 where
  pub calls : Calls
  pub new : Code
  pub new_is : code_at q method ≡ Some new
  pub laid : IsLaid calls old plan new (own_marks marks method)
  pub frees : AreCalls q marks method new FreeMeFree calls.free
  pub links : AreCalls q marks method new FreeMeLink calls.link
  pub chains : AreCalls q marks method new FreeMeFreeChain calls.free_chain

-- ---- two programs

-- the second program has the outline of the first one, and its methods with what these plans insert, which is safe
pub record IsWovenFrom (p q : Program) (facts : Facts) (plans : Plans) (marks : Marks) : Type 0 where
  pub outline : q.outline ≡ p.outline
  pub bare : (method : ℕ) → code_at p method ≡ None → code_at q method ≡ None
  pub rules : (method : ℕ) (code : Code) → code_at p method ≡ Some code → MeetsCodeRules code
  pub named : (method : ℕ) (code : Code) → code_at p method ≡ Some code → NamesTheSame p q method code
  pub methods : (method : ℕ) (code : Code) → code_at p method ≡ Some code → HasInserted q marks method code (inserted_by (plans method))
  pub safe : (method : ℕ) (code : Code) (plan : Insertions) → code_at p method ≡ Some code → plans method ≡ Some plan
      → AreSafe facts (typed_method p facts.typing method code) plan

-- so do classes with safe insertions and the classes that were given, whose program may be narrowed
abbrev pub SafeProgramsAreWoven : Type 0
SafeProgramsAreWoven =
    (given : List ClassDef) (main : List ℕ) → AreTaken given main → (p : Program) → IsProgramOf given main p
    → (written : List ClassDef) (marks : Marks) (safe : SafeOf p given written marks)
    → IsWovenFrom p (program_of written main) safe.facts safe.plans marks

-- and so do classes where holders of sites in loops hold chains
abbrev pub ChainedProgramsAreWoven : Type 0
ChainedProgramsAreWoven =
    (given : List ClassDef) (main : List ℕ) → AreTaken given main → (p : Program) → IsProgramOf given main p
    → (written : List ClassDef) (marks : Marks) (safe : SafeChainsOf p given written marks)
    → IsWovenFrom p (program_of written main) safe.facts (looped_plans p safe.plans) marks
