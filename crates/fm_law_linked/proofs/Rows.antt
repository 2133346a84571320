-- Methods of class files have no rows: only built-in ones do.
use Rattle.std.proofs.Common.{◌≡◌, refl, ◌∙◌, ap, ℕ, ◌+◌, ◌-◌, ◌≤◌, List, [], ◌∷◌, ◌++◌, length, map, get_or, None, arith}
use Rattle.std.specs.List.{AllByRecursion}
use Rattle.std.proofs.lemmas.List.{get_or-append_right}
use Rattle.fm_base.proofs.ListFacts.{AllByRecursion-append, AllByRecursion-get_or}
use Rattle.fm_code.specs.declared.class_file.ClassDef.{ClassDef}
use Rattle.fm_code.specs.declared.class_file.Member.{Member}
use Rattle.fm_code.specs.declared.constant_pool.Entry.{Entry}
use Rattle.fm_world.proofs.TableLemmas.{methods_from-append}
use Rattle.fm_world.specs.BuiltIns.{built_in}
use Rattle.fm_world.specs.Declarations.{declared_from, declared_method, no_method}
use Rattle.fm_world.specs.Members.{method_at, methods_from, methods_of, OwnedMethod}
use Rattle.fm_world.specs.Programs.{classes_of}

abbrev HasNoRow : OwnedMethod → Type 0
HasNoRow m = m.method.row ≡ None

-- a method of a class file has no row
no_rows : (class : ℕ) (entries : List Entry) (members : List Member)
    → AllByRecursion HasNoRow (map (λ m. record { class = class; method = m }) (map (declared_method entries) members))
no_rows class entries [] = tt
no_rows class entries (m ∷ members) = (refl, no_rows class entries members)

no_rows_from : (class file : ℕ) (given : List ClassDef) → AllByRecursion HasNoRow (methods_from class (declared_from file given))
no_rows_from class file [] = tt
no_rows_from class file (c ∷ given) =
    AllByRecursion-append HasNoRow (map (λ m. record { class = class; method = m }) (map (declared_method c.pool.entries) c.methods))
    (methods_from (class + 1) (declared_from (file + 1) given)) (no_rows class c.pool.entries c.methods) (no_rows_from (class + 1) (file + 1) given)

-- the methods of the files come behind the built-in ones
pub all_methods : (given : List ClassDef) → methods_of (classes_of given) ≡ methods_of built_in ++ methods_from (length built_in) (declared_from 0 given)
unfolding methods_of classes_of
all_methods given = methods_from-append 0 built_in (declared_from 0 given) ∙ ap (λ k. methods_from 0 built_in ++ methods_from k (declared_from 0 given)) (omega arith)

-- a method whose number is that of no built-in one has no row
pub row_past : (given : List ClassDef) (method : ℕ) → length (methods_of built_in) ≤ method → (method_at (classes_of given) method).method.row ≡ None
row_past given method past =
    let d : OwnedMethod = record { class = 0; method = no_method } in
    let rest = methods_from (length built_in) (declared_from 0 given) in
    let at : method_at (classes_of given) method ≡ get_or rest (method - length (methods_of built_in)) d =
    ap (λ list. get_or list method d) (all_methods given) ∙ get_or-append_right (methods_of built_in) rest (length (methods_of built_in)) method d refl past in
    ap (λ (m : OwnedMethod). m.method.row) at
    ∙ AllByRecursion-get_or HasNoRow rest d (no_rows_from (length built_in) 0 given) refl (method - length (methods_of built_in))
