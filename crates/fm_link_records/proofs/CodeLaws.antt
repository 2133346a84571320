-- The codes of files' methods are where their methods are.
use Rattle.std.proofs.Common.{◌≡◌, refl, sym, ap, subst, ℕ, zero, suc, ◌+◌, ◌<◌, List, [], ◌∷◌, ◌++◌, length, map, replicate, get_or, Option, Some, None, arith}
use Rattle.std.specs.List.{flat_map}
use Rattle.fm_code.specs.Members.{code_of}
use Rattle.fm_code.specs.declared.class_file.ClassDef.{ClassDef}
use Rattle.fm_code.specs.declared.class_file.Member.{Member}
use Rattle.fm_code.specs.declared.code_array.Code.{Code}
use Rattle.fm_world.proofs.TableLemmas.{methods_from-append}
use Rattle.fm_world.specs.BuiltIns.{built_in}
use Rattle.fm_world.specs.Declarations.{declared_from, declared_method, no_method}
use Rattle.fm_world.specs.Members.{OwnedMethod, methods_from, methods_of}
use Rattle.fm_world.specs.Programs.{classes_of, codes_of}
use Rattle.fm_link_records.specs.inner.Assembled.{AreCodes}

-- as many codes as methods, and none of a built-in method
Parallel : List OwnedMethod → List (Option Code) → Type 0
Parallel [] [] = Unit {0}
Parallel [] (c ∷ codes) = ⊥
Parallel (m ∷ methods) [] = ⊥
Parallel (m ∷ methods) (c ∷ codes) = ((row : ℕ) → m.method.row ≡ Some row → c ≡ None) × Parallel methods codes

Parallel-append : (methods more : List OwnedMethod) (codes others : List (Option Code)) → Parallel methods codes → Parallel more others
    → Parallel (methods ++ more) (codes ++ others)
unfolding Parallel
Parallel-append [] more [] others first second = second
Parallel-append [] more (c ∷ codes) others first second = absurd first
Parallel-append (m ∷ methods) more [] others first second = absurd first
Parallel-append (m ∷ methods) more (c ∷ codes) others first second = (first.0, Parallel-append methods more codes others first.1 second)

Parallel-none : (methods : List OwnedMethod) → Parallel methods (replicate (length methods) None)
unfolding Parallel
Parallel-none [] = tt
Parallel-none (m ∷ methods) = (λ row is. refl, Parallel-none methods)

Parallel-members : (class : ℕ) (c : ClassDef) (members : List Member)
    → Parallel (map (λ m. record { class = class; method = m }) (map (declared_method c.pool.entries) members)) (map code_of members)
unfolding Parallel
Parallel-members class c [] = tt
Parallel-members class c (m ∷ members) = (λ row is. absurd cc, Parallel-members class c members)

Parallel-files : (class file : ℕ) (given : List ClassDef) → Parallel (methods_from class (declared_from file given)) (flat_map (λ c. map code_of
    c.methods) given)
unfolding Parallel
Parallel-files class file [] = tt
Parallel-files class file (c ∷ given) =
    Parallel-append (map (λ m. record { class = class; method = m }) (map (declared_method c.pool.entries) c.methods))
    (methods_from (class + 1) (declared_from (file + 1) given)) (map code_of c.methods) (flat_map (λ d. map code_of d.methods) given)
    (Parallel-members class c c.methods) (Parallel-files (class + 1) (file + 1) given)

Parallel-all : (given : List ClassDef) → Parallel (methods_of (classes_of given)) (codes_of given)
unfolding methods_of classes_of codes_of
Parallel-all given =
    subst (λ ms. Parallel ms (codes_of given)) (sym (methods_from-append 0 built_in (declared_from 0 given)))
    (Parallel-append (methods_of built_in) (methods_from (0 + length built_in) (declared_from 0 given)) (replicate (length (methods_of built_in))
    None)
    (flat_map (λ c. map code_of c.methods) given) (Parallel-none (methods_of built_in)) (Parallel-files (0 + length built_in) 0 given))

length-Parallel : (methods : List OwnedMethod) (codes : List (Option Code)) → Parallel methods codes → length codes ≡ length methods
unfolding Parallel
length-Parallel [] [] p = refl
length-Parallel [] (c ∷ codes) p = absurd p
length-Parallel (m ∷ methods) [] p = absurd p
length-Parallel (m ∷ methods) (c ∷ codes) p = ap suc (length-Parallel methods codes p.1)

at-Parallel : (methods : List OwnedMethod) (codes : List (Option Code)) → Parallel methods codes → (k row : ℕ) → k < length methods
    → (get_or methods k (record { class = 0; method = no_method })).method.row ≡ Some row → get_or codes k None ≡ None
unfolding Parallel
at-Parallel [] codes p k row h is = absurd (omega (arith, h))
at-Parallel (m ∷ methods) [] p k row h is = absurd p
at-Parallel (m ∷ methods) (c ∷ codes) p zero row h is = p.0 row is
at-Parallel (m ∷ methods) (c ∷ codes) p (suc k) row h is = at-Parallel methods codes p.1 k row (omega (arith, h)) is

pub AreCodes-all : (given : List ClassDef) → AreCodes (classes_of given) (codes_of given)
AreCodes-all given = record {
  count = length-Parallel (methods_of (classes_of given)) (codes_of given) (Parallel-all given);
  built_in = λ k row h is. at-Parallel (methods_of (classes_of given)) (codes_of given) (Parallel-all given) k row h is;
}
