-- The tables of a program return what the definitions say, read from its parts.
use Rattle.std.proofs.Common.{◌≡◌, refl, sym, ◌∙◌, ap, subst, ℕ, ◌<◌, List, length, map, zero-add, get_or, Option, Some, None, slice_get, IsSomeAnd, ◌+◌, [], ◌∷◌, ◌++◌, arith, append_assoc, true}
use Rattle.std.proofs.lemmas.Bool.{eq-eqb, eqb-true, false≢true}
use Rattle.std.proofs.lemmas.Option.{slice_get_within, slice_get_read}
use Rattle.std.proofs.lemmas.List.FromFn.{length-map-range_with_len, get_or-map-range_with_len}
use Rattle.fm_base.specs.declared.kinds.Base.{Base}
use Rattle.fm_world.specs.Chains.{same_base}
use Rattle.fm_world.specs.Members.{fields_from, methods_from, OwnedField, OwnedMethod}
use Rattle.fm_world.specs.Programs.{Program}
use Rattle.fm_world.specs.declared.declarations.DeclaredClass.{DeclaredClass}
use Rattle.fm_world.specs.declared.parts.Parts.{Parts}
use Rattle.fm_world.specs.inner.Tables.{numbers_below, program_in}
use Rattle.fm_base.specs.declared.kinds.Base.TheVariants as base

-- ---- a list by a function of its numbers

pub length-row : {X : Type 0} (f : ℕ → X) (n : ℕ) (xs : List X) → xs ≡ map f (numbers_below n) → length xs ≡ n
length-row f n xs e = ap length e ∙ length-map-range_with_len f 0 n

pub row_within : {X : Type 0} (f : ℕ → X) (n i : ℕ) (xs ys : List X) → xs ≡ ys → ys ≡ map f (numbers_below n) → i < n → i < length xs
row_within f n i xs ys same e h = let P : ℕ → Type 0 = λ k. i < k in subst P (sym (length-row f n xs (same ∙ e))) h

pub row_is : {X : Type 0} (f : ℕ → X) (n i : ℕ) (xs ys : List X) (r : X) → xs ≡ ys → ys ≡ map f (numbers_below n) → i < n → r ≡ get_or xs i r
    → r ≡ f i
row_is f n i xs ys r same e h read = read ∙ ap (λ zs. get_or zs i r) (same ∙ e) ∙ get_or-map-range_with_len f 0 n i i r h (zero-add i)

-- ---- what is known of the program is known of its parts, and the other way round

pub to_parts : (P : Program → Type 0) (x : Parts) (p : Program) → program_in x ≡ p → P p → P (program_in x)
to_parts P x p e h = subst P (sym e) h

pub from_parts : (P : Program → Type 0) (x : Parts) (p : Program) → program_in x ≡ p → P (program_in x) → P p
from_parts P x p e h = subst P e h

-- ---- an element of which something is known

pub known_within : {X : Type 0} (P : X → Type 0) (xs : List X) (i : ℕ) → IsSomeAnd (slice_get xs i) P → i < length xs
known_within P xs i h = elim (slice_get xs i) as (λ o. slice_get xs i ≡ o → IsSomeAnd o P
    → i < length xs) [ None ↦ λ e k. absurd k | Some y ↦ λ e k. slice_get_within xs i y e ] refl h

pub known_at : {X : Type 0} (P : X → Type 0) (xs ys : List X) (i : ℕ) (r : X) → xs ≡ ys → IsSomeAnd (slice_get ys i) P → r ≡ get_or xs i r → P r
known_at {X} P xs ys i r same h read =
    let within : i < length ys = known_within P ys i h in
    let found : slice_get ys i ≡ Some r = slice_get_read ys (length ys) i r refl within (read ∙ ap (λ zs. get_or zs i r) same) in
    let Q : Option X → Type 0 = λ o. IsSomeAnd o P in
    subst Q found h

-- the fields of two lists of classes
pub fields_from-append : (class : ℕ) (cs ds : List DeclaredClass) → fields_from class (cs ++ ds) ≡ fields_from class cs ++ fields_from (class + length cs) ds
fields_from-append class [] ds = let e : class ≡ class + 0 = omega arith in ap (λ k. fields_from k ds) e
fields_from-append class (c ∷ cs) ds =
    let e : class + 1 + length cs ≡ class + length (c ∷ cs) = omega arith in
    let own : List OwnedField = map (λ f. record { class = class; field = f }) c.fields in
    ap (λ fs. own ++ fs) (fields_from-append (class + 1) cs ds ∙ ap (λ k. fields_from (class + 1) cs ++ fields_from k ds) e)
    ∙ sym (append_assoc own (fields_from (class + 1) cs) (fields_from (class + length (c ∷ cs)) ds))

-- the methods of two lists of classes
pub methods_from-append : (class : ℕ) (cs ds : List DeclaredClass) → methods_from class (cs ++ ds)
    ≡ methods_from class cs ++ methods_from (class + length cs) ds
methods_from-append class [] ds = let e : class ≡ class + 0 = omega arith in ap (λ k. methods_from k ds) e
methods_from-append class (c ∷ cs) ds =
    let e : class + 1 + length cs ≡ class + length (c ∷ cs) = omega arith in
    let own : List OwnedMethod = map (λ m. record { class = class; method = m }) c.methods in
    ap (λ ms. own ++ ms) (methods_from-append (class + 1) cs ds ∙ ap (λ k. methods_from (class + 1) cs ++ methods_from k ds) e)
    ∙ sym (append_assoc own (methods_from (class + 1) cs) (methods_from (class + length (c ∷ cs)) ds))

-- bases that the test finds the same are the same
pub same_base-eq : (a b : Base) → same_base a b ≡ true → a ≡ b
same_base-eq base.Boolean base.Boolean h = refl
same_base-eq base.Byte base.Byte h = refl
same_base-eq base.Char base.Char h = refl
same_base-eq base.Short base.Short h = refl
same_base-eq base.Int base.Int h = refl
same_base-eq base.Long base.Long h = refl
same_base-eq (base.OfClass c) (base.OfClass d) h = ap (λ n. base.OfClass (record { 0 = n })) (eqb-true c.0 d.0 h)
same_base-eq a b h = absurd (false≢true h)

-- a base passes it with itself
pub same_base-refl : (b : Base) → same_base b b ≡ true
same_base-refl base.Boolean = refl
same_base-refl base.Byte = refl
same_base-refl base.Char = refl
same_base-refl base.Short = refl
same_base-refl base.Int = refl
same_base-refl base.Long = refl
same_base-refl (base.OfClass c) = eq-eqb c.0 c.0 refl
