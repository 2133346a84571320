-- Refusals of abstract methods, one method and one call after the other.
use Rattle.std.specs.Prelude.{ℕ, Bool, false, List, [], ◌∷◌, Option, Some, None, if◌then◌else◌}
use Rattle.std.specs.List.{flat_map}
use Rattle.fm_code.specs.ConstantPool.{MemberName}
use Rattle.fm_code.specs.declared.class_file.ClassDef.{ClassDef}
use Rattle.fm_code.specs.declared.instructions.Insn.{Insn}
use Rattle.fm_code.specs.declared.instructions.Insn.TheVariants as insn
use Rattle.fm_world.specs.Causes.{NotImplemented, abstract_methods, calls_abstract, declared_name, is_left_over, method_text, refused, refused_if, refused_where, Refusal}
use Rattle.fm_world.specs.Lookups.{is_abstract_method}
use Rattle.fm_world.specs.Uses.{named_member}
use Rattle.fm_world.specs.declared.declarations.DeclaredClass.{DeclaredClass}

-- a method that is left over in a class
abbrev pub left_over_by : List DeclaredClass → ClassDef → ℕ → ℕ → List Refusal
left_over_by classes c class method =
    if is_left_over classes class method then refused NotImplemented c (method_text (declared_name classes method)) ∷ [] else []

-- the same, where the method is abstract
abbrev pub left_over_at : List DeclaredClass → ClassDef → ℕ → ℕ → List Refusal
left_over_at classes c class method = if is_abstract_method classes method then left_over_by classes c class method else []

-- those that one class declares
abbrev pub left_over_of : List DeclaredClass → ClassDef → ℕ → ℕ → List Refusal
left_over_of classes c class above = flat_map (left_over_by classes c class) (abstract_methods classes above)

-- whether some member that is named passes
abbrev pub is_member_and : (MemberName → Bool) → Option MemberName → Bool
is_member_and test None = false
is_member_and test (Some m) = test m

-- a special call that names the index calls an abstract method
abbrev pub calls_abstract_at : List DeclaredClass → ClassDef → ℕ → ℕ → Bool
calls_abstract_at classes c class index = is_member_and (calls_abstract classes class) (named_member c.pool.entries index)

-- what a special call gives that names a member
abbrev pub call_refusals : List DeclaredClass → ClassDef → ℕ → MemberName → List Refusal
call_refusals classes c class m = refused_if (calls_abstract classes class m) (refused NotImplemented c (method_text m))

-- what a special call gives that names an index
abbrev pub special_call : List DeclaredClass → ClassDef → ℕ → ℕ → List Refusal
special_call classes c class index = refused_where (call_refusals classes c class) (named_member c.pool.entries index)

-- what an instruction gives
abbrev pub insn_call : List DeclaredClass → ClassDef → ℕ → Insn → List Refusal
insn_call classes c class (insn.Special index) = special_call classes c class index
insn_call classes c class i = []
