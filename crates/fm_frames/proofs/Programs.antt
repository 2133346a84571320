-- What is known of a program that the machine can run.
use Rattle.std.proofs.Common.{◌≡◌, ℕ, ◌<◌, List, ◌++◌, Option, Some, None, if◌then◌else◌, ◌==◌, ◌||◌, refl, ap, sym, ◌∙◌, subst, unwrap_or, option_map, Bool, false, length, arith}
use Rattle.std.specs.Str.{bytes_eq}
use Rattle.std.proofs.lemmas.Iterator.Adapters.{position_from-zero}
use Rattle.std.proofs.lemmas.Option.{same_Some}
use Rattle.fm_base.specs.declared.kinds.TypeRef.{TypeRef}
use Rattle.fm_code.specs.declared.code_array.Code.{Code}
use Rattle.fm_types.specs.Named.{built_in_type}
use Rattle.fm_world.specs.BuiltIns.{built_in, built_in_classes, class_literal_class, class_literal_name, string_name}
use Rattle.fm_world.specs.Chains.{same_type}
use Rattle.fm_world.specs.Descriptors.{class_number}
use Rattle.fm_world.specs.Members.{method_at}
use Rattle.fm_world.specs.Numbers.{type_of_class}
use Rattle.fm_base.specs.declared.ids.MethodId.{MethodId}
use Rattle.fm_types.specs.Named.{class_of_method}
use Rattle.fm_world.specs.Members.{size_of, start_of}
use Rattle.fm_world.specs.Programs.{class_info, code_at, IsTypeIn, method_id, method_info, body_of, Outline, Program}
use Rattle.fm_frames.specs.Steps.{is_start}
use Rattle.fm_world.specs.declared.declarations.DeclaredClass.{DeclaredClass}
use Rattle.fm_world.specs.declared.declarations.DeclaredMethod.{DeclaredMethod}
use Rattle.fm_world.specs.declared.uses.Use.{Use}
use Rattle.fm_world.specs.declared.uses.Use.TheVariants as resolved
use Rattle.fm_world.specs.inner.Tables.{code_in}
use Rattle.fm_frames.specs.Elements.{is_text_type, pack_of, pack_of_base}
use Rattle.fm_frames.specs.Literals.{class_literal, literal_count, literal_named}
use Rattle.fm_frames.specs.Runnable.{IsRunnable, IsUseIn, KeepsTable}
use Rattle.fm_world.specs.inner.Completions.{AreCompleted}

-- ---- code

code_in-body : (m : DeclaredMethod) (code : Option Code) → ((c : Code) → code ≡ Some c → m.row ≡ None) → code_in (body_of m code) ≡ code
code_in-body m None no_row = by_row m.row where
  by_row : (row : Option ℕ) → code_in (body_of (record m { row = row }) None) ≡ None
  by_row None = refl
  by_row (Some row) = refl
code_in-body m (Some code) no_row = ap (λ row. code_in (body_of (record m { row = row }) (Some code))) (no_row code refl)

pub code-is : (p : Program) (method : ℕ) → IsRunnable p → code_in (method_info p method).body ≡ code_at p method
unfolding method_info
code-is p method runnable = code_in-body (method_at p.outline.classes method).method (code_at p method) (runnable.no_row method)

-- ---- built-in classes by their names

-- a name that is found among the built-in classes is found there in each program
pub string_number : (given : List DeclaredClass) → class_number (built_in ++ given) string_name ≡ Some 1
unfolding built_in
string_number given = position_from-zero (λ (c : DeclaredClass). bytes_eq c.name string_name) (built_in ++ given)

pub string-is : (o : Outline) (given : List DeclaredClass) → o.classes ≡ built_in ++ given → built_in_type o string_name ≡ type_of_class 1
string-is o given classes =
    ap (λ n. type_of_class (unwrap_or n 0)) (ap (λ all. class_number all string_name) classes ∙ string_number given)

pub class_literal_number : (given : List DeclaredClass) → class_number (built_in ++ given) class_literal_name ≡ Some class_literal_class
unfolding built_in
class_literal_number given = position_from-zero (λ (c : DeclaredClass). bytes_eq c.name class_literal_name) (built_in ++ given)

-- the type of class literals
pub class_literal-is : (o : Outline) (given : List DeclaredClass) → o.classes ≡ built_in ++ given
    → built_in_type o class_literal_name ≡ type_of_class class_literal_class
class_literal-is o given classes =
    ap (λ n. type_of_class (unwrap_or n 0)) (ap (λ all. class_number all class_literal_name) classes ∙ class_literal_number given)

pub is_text-by : (p : Program) (t : TypeRef) → IsRunnable p
    → (same_type (type_of_class 1) t || same_type (type_of_class class_literal_class) t) ≡ is_text_type p.outline t
is_text-by p t runnable =
    let text = sym (string-is p.outline runnable.given runnable.classes) in
    let literal = sym (class_literal-is p.outline runnable.given runnable.classes) in λ i. same_type (text i) t || same_type (literal i) t

pub pack-is : (p : Program) (t : TypeRef) → IsRunnable p
    → (if t.dims == 1 then pack_of_base t.base else (if same_type (type_of_class 1) t || same_type (type_of_class class_literal_class) t then 4 else 1))
    ≡ pack_of p.outline t
pack-is p t runnable = ap (λ text. if t.dims == 1 then pack_of_base t.base else (if text then 4 else 1)) (is_text-by p t runnable)

-- ---- classes of methods, and types

-- what completes built-in classes
pub completed-are : (given : List DeclaredClass) → KeepsTable given → AreCompleted (built_in ++ given)
unfolding KeepsTable
completed-are given keeps = keeps

pub method-class : (p : Program) (method : ℕ) → (method_info p method).class.0 ≡ class_of_method p.outline method
unfolding method_info
method-class p method = refl

pub class-start : (o : Outline) (class : ℕ) → (class_info o class).start ≡ option_map method_id (start_of o.classes class)
unfolding class_info
class-start o class = refl

-- Object is there
pub object-inside : (p : Program) → IsRunnable p → IsTypeIn p.outline.classes (type_of_class 0)
unfolding built_in
object-inside p runnable =
    let P : List DeclaredClass → Type 0 = λ classes. 0 < length classes in
    subst P (sym runnable.classes) (omega arith)

-- whether the method is the one that is given, if one is
abbrev pub told_start : Option MethodId → ℕ → Bool
told_start None method = false
told_start (Some start) method = start.0 == method

abbrev pub start_by : ℕ → Option ℕ → Bool
start_by method None = false
start_by method (Some start) = start == method

pub start-is : (o : Outline) (method class : ℕ) (found : Option MethodId) → class ≡ class_of_method o method
    → found ≡ option_map method_id (start_of o.classes class) → told_start found method ≡ is_start o method
start-is o method class found owner is =
    ap (λ f. told_start f method) (is ∙ ap (λ c. option_map method_id (start_of o.classes c)) owner)
    ∙ by_start (start_of o.classes (class_of_method o method)) where
      by_start : (start : Option ℕ) → told_start (option_map method_id start) method ≡ start_by method start
      by_start None = refl
      by_start (Some start) = refl

pub class-size : (o : Outline) (class : ℕ) → (class_info o class).size ≡ size_of o.classes class
unfolding class_info
class-size o class = refl

-- each built-in class is there
pub built_in-inside : (p : Program) (class : ℕ) → IsRunnable p → class < built_in_classes → class < length p.outline.classes
unfolding built_in
built_in-inside p class runnable within =
    let P : List DeclaredClass → Type 0 = λ classes. class < length classes in
    subst P (sym runnable.classes) (omega arith)

-- a literal that is named is there
pub literal-inside : (o : Outline) (u : Use) (literal : ℕ) → IsUseIn o u → literal_named o u ≡ Some literal → literal < literal_count o
literal-inside o (resolved.OfText text) literal inside named = let same : text ≡ literal = same_Some text literal named in omega (arith, inside, same)
literal-inside o (resolved.OfType t) literal inside named =
    let same : class_literal o t.0 ≡ literal = same_Some (class_literal o t.0) literal named in omega (arith, inside, same)
literal-inside o (resolved.OfField f t) literal inside named = absurd (cc)
literal-inside o (resolved.OfMethod m t) literal inside named = absurd (cc)
literal-inside o (resolved.OfInt n) literal inside named = absurd (cc)
literal-inside o (resolved.OfLong n) literal inside named = absurd (cc)
literal-inside o resolved.Unused literal inside named = absurd (cc)
