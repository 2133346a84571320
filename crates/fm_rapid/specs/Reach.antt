-- Which methods a program can come to run, and of which classes it can come to make objects: the least sets of both that hold what its methods lead to
-- (rapid type analysis).
use Rattle.std.specs.Prelude.{◌≡◌, ◌<◌, ℕ, Bool, true, List, [], length, reverse, Option, Some, None, option_and_then, is_none, if◌then◌else◌, Contains, IfSome}
use Rattle.std.specs.List.{filter_map}
use Rattle.fm_base.specs.Rows.{has}
use Rattle.fm_code.specs.Edges.{insn_of, IsReachable}
use Rattle.fm_code.specs.declared.code_array.Code.{Code}
use Rattle.fm_code.specs.declared.instructions.Insn.{Insn}
use Rattle.fm_code.specs.declared.instructions.Insn.TheVariants as insn
use Rattle.fm_conn.specs.Nodes.{TypedMethod}
use Rattle.fm_conn.specs.Pairs.{call_of, use_at}
use Rattle.fm_conn.specs.Shapes.{method_with}
use Rattle.fm_types.specs.Named.{class_of_method}
use Rattle.fm_types.specs.Typed.{type_of_use}
use Rattle.fm_world.specs.BuiltIns.{built_in}
use Rattle.fm_world.specs.Chains.{chain_of, class_at}
use Rattle.fm_world.specs.Members.{field_at, methods_of, start_of}
use Rattle.fm_world.specs.Programs.{class_of_type, code_at, Outline, Program, targets}
use Rattle.fm_world.specs.declared.uses.Use.{Use}
use Rattle.fm_world.specs.declared.uses.Use.TheVariants as resolved

-- ---- what an instruction leads to

-- the class of which it makes an object
abbrev pub made_by : Outline → Insn → Use → Option ℕ
made_by o (insn.New index) u = option_and_then class_of_type (type_of_use o u)
made_by o i u = None

-- the class that declares the member that is named
abbrev pub owner_of : Outline → Use → Option ℕ
owner_of o (resolved.OfField f t) = Some (field_at o.classes f.0).class
owner_of o (resolved.OfMethod m t) = Some (class_of_method o m.0)
owner_of o u = None

-- the class that is started before it is done, if it isn't started yet (JVMS 5.5)
abbrev pub started_by : Outline → Insn → Use → Option ℕ
started_by o (insn.New index) u = option_and_then class_of_type (type_of_use o u)
started_by o (insn.GetStatic index) u = owner_of o u
started_by o (insn.PutStatic index) u = owner_of o u
started_by o (insn.Static index) u = owner_of o u
started_by o i u = None

-- the methods that start a class and its superclasses, the uppermost first; a built-in class is always started
unfoldable pub starts_of : Outline → ℕ → List ℕ
starts_of o class =
    if is_none (class_at o.classes class).file then [] else filter_map (start_of o.classes) (reverse (chain_of o.classes class))

-- ---- sets that are closed

-- the program in which only objects of these classes are made: its virtual calls lead only to what these classes and arrays select
abbrev pub narrowed : Program → List Bool → Program
narrowed p made = record p { made = Some made }

-- each of these methods is in the set
abbrev pub AreIn : List Bool → List ℕ → Type 0
AreIn methods listed = (m : ℕ) → Contains listed m → has methods m ≡ true

-- what an instruction of the method leads to is in the sets: the class of which it makes an object, the methods that start the class which it uses, and
-- each target of its call, where only objects of classes of the set are made
pub record IsFollowed (methods made : List Bool) (x : TypedMethod) (i : Insn) : Type 0 where
  pub makes : IfSome (made_by x.program.outline i (use_at x i)) (λ class. has made class ≡ true)
  pub starts : IfSome (started_by x.program.outline i (use_at x i)) (λ class. AreIn methods (starts_of x.program.outline class))
  pub calls : IfSome (call_of x i) (λ call. AreIn methods (targets (narrowed x.program made) call))

-- main, what starts its class, and all built-in classes are in the sets, and so is all that each reachable item of each method of the set leads to
pub record IsClosed (p : Program) (methods made : List Bool) : Type 0 where
  pub main : has methods p.outline.main ≡ true
  pub opening : AreIn methods (starts_of p.outline p.outline.main_class)
  pub built_in : (class : ℕ) → class < length built_in → has made class ≡ true
  pub items : (method : ℕ) (code : Code) (j : ℕ) (i : Insn) → has methods method ≡ true → code_at p method ≡ Some code → IsReachable code j
      → insn_of code j ≡ Some i → IsFollowed methods made (method_with p method code []) i

-- ---- the least ones

-- each number of the first set is in the second
abbrev pub IsWithin : List Bool → List Bool → Type 0
IsWithin set other = (k : ℕ) → has set k ≡ true → has other k ≡ true

-- the least closed sets: the methods that are reached, and the classes that are made
pub record Reach (p : Program) (methods made : List Bool) : Type 0 where
  pub each_method : length methods ≡ length (methods_of p.outline.classes)
  pub each_class : length made ≡ length p.outline.classes
  pub closed : IsClosed p methods made
  pub least : (others classes : List Bool) → IsClosed p others classes → IsWithin methods others × IsWithin made classes
