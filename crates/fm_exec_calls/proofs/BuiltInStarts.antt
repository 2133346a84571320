-- Built-in methods, by computation over all of them: each has a row of the table, and its class and the superclasses of that one have always started.
use Rattle.std.proofs.Common.{◌≡◌, ℕ, zero, suc, ◌+◌, ◌<◌, ◌&&◌, not, cond, nat_lt, Bool, true, List, [], ◌∷◌, ◌++◌, length, reverse, Option, Some, None, option_and_then, slice_index_or, refl, ap, sym, ◌∙◌, arith, ⊎_elim}
use Rattle.std.specs.Prelude.{is_none, is_some}
use Rattle.std.specs.List.{filter}
use Rattle.std.proofs.lemmas.Bool.{and_parts, cases_lt, false≢true, ltb-true}
use Rattle.std.proofs.lemmas.List.{get_or_append_left}
use Rattle.std.proofs.lemmas.Option.{none-some}
use Rattle.fm_exec_calls.specs.Calls.{AreRowsBuiltIn}
use Rattle.fm_frames.specs.Natives.{native_of_row}
use Rattle.fm_frames.specs.declared.natives.Native.{Native}
use Rattle.fm_frames.specs.Runnable.{IsRunnable}
use Rattle.fm_frames.specs.Starts.{is_started, to_start}
use Rattle.fm_types.specs.Named.{class_of_method}
use Rattle.fm_world.proofs.TableLemmas.{methods_from-append}
use Rattle.fm_world.specs.BuiltIns.{built_in}
use Rattle.fm_world.specs.Chains.{chain_of, class_at}
use Rattle.fm_world.specs.Declarations.{no_class, no_method}
use Rattle.fm_world.specs.Members.{method_at, methods_from, methods_of, OwnedMethod}
use Rattle.fm_world.specs.Programs.{Outline, Program}
use Rattle.fm_world.specs.declared.declarations.DeclaredClass.{DeclaredClass}

-- ---- all built-in methods and classes

-- the method has a row of the table, and is of a built-in class
abbrev is_tabled : OwnedMethod → Bool
is_tabled m = is_some (option_and_then native_of_row m.method.row) && nat_lt m.class (length built_in)

abbrev all_tabled : List OwnedMethod → Bool
all_tabled [] = true
all_tabled (m ∷ methods) = is_tabled m && all_tabled methods

table_tabled : all_tabled (methods_of built_in) ≡ true
unfolding built_in methods_of
table_tabled = refl

tabled-at : (methods : List OwnedMethod) (n : ℕ) (d : OwnedMethod) → all_tabled methods ≡ true → n < length methods
    → is_tabled (slice_index_or methods n d) ≡ true
tabled-at [] n d h inside = absurd (omega (arith, inside))
tabled-at (m ∷ methods) zero d h inside = (and_parts (is_tabled m) (all_tabled methods) h).0
tabled-at (m ∷ methods) (suc n) d h inside = tabled-at methods n d (and_parts (is_tabled m) (all_tabled methods) h).1 (omega (arith, inside))

abbrev all_settled : List DeclaredClass → Bool
all_settled [] = true
all_settled (c ∷ classes) = is_none c.file && all_settled classes

-- no built-in class has a file
table_settled : all_settled built_in ≡ true
unfolding built_in
table_settled = refl

settled-at : (classes : List DeclaredClass) (n : ℕ) → all_settled classes ≡ true → n < length classes → is_none (class_at classes n).file ≡ true
settled-at [] n h inside = absurd (omega (arith, inside))
settled-at (c ∷ classes) zero h inside = (and_parts (is_none c.file) (all_settled classes) h).0
settled-at (c ∷ classes) (suc n) h inside = settled-at classes n (and_parts (is_none c.file) (all_settled classes) h).1 (omega (arith, inside))

-- ---- in each program

tabled-first : (given : List DeclaredClass) (method : ℕ) → method < length (methods_of built_in) → is_tabled (method_at (built_in ++ given) method) ≡ true
unfolding methods_of
tabled-first given method inside =
    let none : OwnedMethod = record { class = 0; method = no_method } in
    ap is_tabled
    (ap (λ ms. slice_index_or ms method none) (methods_from-append 0 built_in given)
    ∙ get_or_append_left (methods_from 0 built_in) (methods_from (0 + length built_in) given) none method inside)
    ∙ tabled-at (methods_from 0 built_in) method none table_tabled inside

inside-built_in : (o : Outline) (method row : ℕ) → AreRowsBuiltIn o → (method_at o.classes method).method.row ≡ Some row → method < length (methods_of built_in)
inside-built_in o method row rows is =
    ⊎_elim (λ inside. inside) (λ past. absurd (none-some row (sym (rows method past) ∙ is))) (cases_lt method (length (methods_of built_in)))

tabled : (p : Program) (method row : ℕ) → IsRunnable p → AreRowsBuiltIn p.outline → (method_at p.outline.classes method).method.row ≡ Some row
    → is_tabled (method_at p.outline.classes method) ≡ true
tabled p method row runnable rows is =
    ap (λ classes. is_tabled (method_at classes method)) runnable.classes
    ∙ tabled-first runnable.given method (inside-built_in p.outline method row rows is)

some-of : {A : Type 0} (found : Option A) → is_some found ≡ true → (x : A) × (found ≡ Some x)
some-of None h = absurd (false≢true h)
some-of (Some x) h = (x, refl)

-- a row is one of the table
pub row-known : (p : Program) (method row : ℕ) → IsRunnable p → AreRowsBuiltIn p.outline → (method_at p.outline.classes method).method.row ≡ Some row
    → (n : Native) × (native_of_row row ≡ Some n)
row-known p method row runnable rows is =
    let m = method_at p.outline.classes method in
    some-of (native_of_row row)
    (ap (λ r. is_some (option_and_then native_of_row r)) (sym is)
    ∙ (and_parts (is_some (option_and_then native_of_row m.method.row)) (nat_lt m.class (length built_in)) (tabled p method row runnable rows is)).0)

-- ---- classes that have always started

-- a built-in class is as it is among only the built-in ones
class-settled : (given : List DeclaredClass) (class : ℕ) → class < length built_in → is_none (class_at (built_in ++ given) class).file ≡ true
class-settled given class inside =
    ap (λ (c : DeclaredClass). is_none c.file) (get_or_append_left built_in given no_class class inside) ∙ settled-at built_in class table_settled inside

-- the class of a built-in method has nothing to start
pub nothing-starts : (p : Program) (started : List Bool) (method row : ℕ) → IsRunnable p → AreRowsBuiltIn p.outline
    → (method_at p.outline.classes method).method.row ≡ Some row → to_start p.outline started (class_of_method p.outline method) ≡ []
nothing-starts p started method row runnable rows is =
    let o = p.outline in
    let m = method_at o.classes method in
    let class = class_of_method o method in
    let inside : class < length built_in = ltb-true class (length built_in)
    (and_parts (is_some (option_and_then native_of_row m.method.row)) (nat_lt m.class (length built_in)) (tabled p method row runnable rows is)).1 in
    ap (λ b. cond b [] (filter (λ above. not (is_started o started above)) (reverse (chain_of o.classes class))))
    (ap (λ classes. is_none (class_at classes class).file) runnable.classes ∙ class-settled runnable.given class inside)
