-- Programs of class files have what is required of a program: what uses name is there, and built-in
-- methods have no code.
use Rattle.std.proofs.Common.{◌≡◌, refl, sym, ◌∙◌, ap, subst, ℕ, ◌+◌, ◌-◌, ◌<◌, ◌≤◌, List, [], ◌∷◌, ◌++◌, length, map, get_or, replicate, Option, None, ⊎_elim}
use Rattle.std.specs.List.{flat_map, AllByRecursion}
use Rattle.std.proofs.lemmas.Bool.{cases_lt}
use Rattle.std.proofs.lemmas.List.{get_or_append_left, get_or-append_right, get_or-replicate, length-replicate}
use Rattle.std.proofs.lemmas.Option.{none-some}
use Rattle.fm_base.proofs.ListFacts.{AllByRecursion-append, AllByRecursion-get_or}
use Rattle.fm_code.specs.Members.{code_of}
use Rattle.fm_code.specs.declared.class_file.ClassDef.{ClassDef}
use Rattle.fm_code.specs.declared.class_file.Member.{Member}
use Rattle.fm_code.specs.declared.code_array.Code.{Code}
use Rattle.fm_code.specs.declared.constant_pool.Entry.{Entry}
use Rattle.fm_check_rows.proofs.UseLemmas.{uses_name_members}
use Rattle.fm_check_rows.specs.Members.{NamesMember}
use Rattle.fm_world.proofs.TableLemmas.{methods_from-append}
use Rattle.fm_world.specs.BuiltIns.{built_in}
use Rattle.fm_world.specs.Declarations.{declared_from, declared_method, no_method}
use Rattle.fm_world.specs.Members.{method_at, methods_from, methods_of, OwnedMethod}
use Rattle.fm_world.specs.Programs.{classes_of, codes_of, outline_of, program_of, use_of, Outline}
use Rattle.fm_world.specs.declared.uses.Use.{Use}
use Rattle.fm_world.specs.declared.uses.Use.TheVariants as resolved
use Rattle.fm_conn.proofs.TypeLemmas.{types_in}
use Rattle.fm_types.specs.Named.{NamesMember}
use Rattle.fm_summ.specs.Programs.{ProgramsHaveBareBuiltIns, ProgramsHaveUsesIn}

-- ---- uses

is_use_in : (o : Outline) (u : Use) → NamesMember o u → NamesMember o u
is_use_in o (resolved.OfField field t) there = there
is_use_in o (resolved.OfMethod method t) there = there
is_use_in o u there = tt

pub have_uses_in : ProgramsHaveUsesIn
have_uses_in given main = record {
  members = λ class index. is_use_in (program_of given main).outline (use_of (program_of given main) class index) (uses_name_members given main class index);
  types = types_in given main;
}

-- ---- built-in methods

abbrev HasNoRow : OwnedMethod → Type 0
HasNoRow m = m.method.row ≡ None

-- a method of a class file has no row
no_rows : (class : ℕ) (entries : List Entry) (members : List Member) →
    AllByRecursion HasNoRow (map (λ m. record { class = class; method = m }) (map (declared_method entries) members))
no_rows class entries [] = tt
no_rows class entries (m ∷ members) = (refl, no_rows class entries members)

no_rows_from : (class file : ℕ) (given : List ClassDef) → AllByRecursion HasNoRow (methods_from class (declared_from file given))
no_rows_from class file [] = tt
no_rows_from class file (c ∷ given) =
    AllByRecursion-append HasNoRow (map (λ m. record { class = class; method = m }) (map (declared_method c.pool.entries) c.methods))
    (methods_from (class + 1) (declared_from (file + 1) given)) (no_rows class c.pool.entries c.methods) (no_rows_from (class + 1) (file + 1) given)

-- the methods of the files come behind the built-in ones
all_methods : (given : List ClassDef) →
    methods_of (classes_of given) ≡ methods_of built_in ++ methods_from (0 + length built_in) (declared_from 0 given)
unfolding methods_of classes_of
all_methods given = methods_from-append 0 built_in (declared_from 0 given)

-- a method whose number is that of no built-in one has no row
row_past : (given : List ClassDef) (method : ℕ) → length (methods_of built_in) ≤ method → (method_at (classes_of given) method).method.row ≡ None
row_past given method past =
    let d : OwnedMethod = record { class = 0; method = no_method } in
    let rest = methods_from (0 + length built_in) (declared_from 0 given) in
    let at : method_at (classes_of given) method ≡ get_or rest (method - length (methods_of built_in)) d =
    ap (λ list. get_or list method d) (all_methods given) ∙ get_or-append_right (methods_of built_in) rest (length (methods_of built_in)) method d refl past in
    ap (λ (m : OwnedMethod). m.method.row) at
    ∙ AllByRecursion-get_or HasNoRow rest d (no_rows_from (0 + length built_in) 0 given) refl (method - length (methods_of built_in))

-- a built-in method has no code
no_code : (given : List ClassDef) (method : ℕ) → method < length (methods_of built_in) → get_or (codes_of given) method None ≡ None
unfolding codes_of
no_code given method inside =
    let count = length (methods_of built_in) in
    let none : Option Code = None in
    let within : method < length (replicate count none) = subst (λ n. method < n) (sym (length-replicate count none)) inside in
    get_or_append_left (replicate count none) (flat_map (λ c. map code_of c.methods) given) none method within ∙ get_or-replicate count method none none inside

pub have_bare_built_ins : ProgramsHaveBareBuiltIns
unfolding program_of outline_of
have_bare_built_ins given main method row is =
    ⊎_elim (λ (inside : method < length (methods_of built_in)). no_code given method inside)
    (λ (past : length (methods_of built_in) ≤ method). absurd (none-some row (sym (row_past given method past) ∙ is)))
    (cases_lt method (length (methods_of built_in)))
