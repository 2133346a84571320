-- The first pool that is full and the first method that is too long are those of a class file.
use Rattle.std.proofs.Common.{◌≡◌, refl, sym, ◌∙◌, ap, subst, ℕ, suc, ◌+◌, ◌<◌, ◌≤◌, ◌⊎◌, inl, inr, Bool, true, false, cond, ◌&&◌, List, [], ◌∷◌, ◌++◌, length, map, get_or, Option, Some, None, option_and_then, arith}
use Rattle.std.specs.Prelude.{nat_lt, slice_get}
use Rattle.std.specs.List.{flat_map}
use Rattle.std.specs.Option.{option_map, option_or}
use Rattle.std.proofs.lemmas.Bool.{cases_lt, ltb-true}
use Rattle.std.proofs.lemmas.List.{get_or-append-add, get_or_append_left, get_or_past, length-map}
use Rattle.fm_base.proofs.OptionFacts.{cond-some_then, option_and_then-some}
use Rattle.fm_base.proofs.TestFacts.{and_right}
use Rattle.fm_base.specs.declared.ids.ClassId.{ClassId}
use Rattle.fm_base.specs.declared.ids.MethodId.{MethodId}
use Rattle.fm_chain.proofs.WithoutChains.{class_none}
use Rattle.fm_chain.specs.Chained.{chained}
use Rattle.fm_chain.specs.Chaining.{class_calls, plan_has_chain}
use Rattle.fm_chain.specs.declared.calls.Calls.{Calls}
use Rattle.fm_code.specs.FreeEntries.{with_free}
use Rattle.fm_code.specs.Members.{code_of}
use Rattle.fm_code.specs.declared.class_file.ClassDef.{ClassDef}
use Rattle.fm_code.specs.declared.class_file.Member.{Member}
use Rattle.fm_code.specs.declared.code_array.Code.{Code}
use Rattle.fm_code.specs.declared.code_array.TheConstants.{MAX_CODE_BYTES}
use Rattle.fm_layout.specs.Laid.{laid_length, narrow_length, refused_length}
use Rattle.fm_place.specs.Insertions.{Insertions}
use Rattle.fm_place.specs.Rewriting.{changes, first_given, Plans}
use Rattle.fm_place.specs.Safe.{full_plans, IsProgramOf}
use Rattle.fm_rewrite.proofs.ProgramByLemmas.{full_where}
use Rattle.fm_rewrite.proofs.ProgramMeantLemmas.{code_given}
use Rattle.fm_rewrite.proofs.WithoutChains.{plans_plain}
use Rattle.fm_rewrite.specs.Causes.{first_cause, full_from, full_pool, long_among, long_code, long_from, long_method, max_pool_indices, method_too_long, pool_full}
use Rattle.fm_rewrite.specs.declared.error.RewriteFail.{RewriteFail}
use Rattle.fm_rewrite.specs.declared.error.RewriteFail.TheVariants as fail
use Rattle.fm_law_beside_freeme.proofs.Calls.{call_there}
use Rattle.fm_law_beside_freeme.specs.Told.{IsTooFull, IsTooLong, RefusalsNameWhatIsThere}
use Rattle.fm_world.specs.BuiltIns.{built_in}
use Rattle.fm_world.specs.Programs.{code_at, Program}

-- ---- what a refusal names

abbrev class_in : RewriteFail → ℕ
class_in (fail.PoolFull class indices) = class.0
class_in e = 0

abbrev method_in : RewriteFail → ℕ
method_in (fail.MethodTooLong method bytes) = method.0
method_in e = 0

abbrev count_in : RewriteFail → ℕ
count_in (fail.PoolFull class indices) = indices
count_in (fail.MethodTooLong method bytes) = bytes
count_in e = 0

-- ---- pools

-- no holder of theirs holds a chain
abbrev HaveNoChains : Plans → Type 0
HaveNoChains plans = (method : ℕ) → plan_has_chain (plans method) ≡ false

-- a file at a place among these, the first of which is the class of this number
record IsFullFile (class : ℕ) (given : List ClassDef) (full : ℕ × ℕ) : Type 0 where
  place : ℕ
  file : ClassDef
  there : slice_get given place ≡ Some file
  class_is : full.0 ≡ class + place
  indices_are : full.1 ≡ length (with_free file.pool.entries)
  too_many : max_pool_indices < full.1

pool_is_full : (plans : Plans) → HaveNoChains plans → (first indices : ℕ) (c : ClassDef) → full_pool plans first c ≡ Some indices
    → (indices ≡ length (with_free c.pool.entries)) × (max_pool_indices < indices)
pool_is_full plans none first indices c full =
    let is = sym (ap (full_where c (changes plans first c)) (class_none plans none first c)) ∙ full in
    let count = length (with_free c.pool.entries) in
    let both = cond-some_then (changes plans first c && nat_lt max_pool_indices count) (Some count) indices is in
    let same : count ≡ indices = let own = both.1 in cc in
    let many = ltb-true max_pool_indices count (and_right (changes plans first c) (nat_lt max_pool_indices count) both.0) in (
      sym same,
      omega (arith, same, many),
    )

first_file : (class : ℕ) (c : ClassDef) (given : List ClassDef) (indices : ℕ) → indices ≡ length (with_free c.pool.entries) → max_pool_indices < indices
    → IsFullFile class (c ∷ given) (class, indices)
first_file class c given indices are many = record {
  place = 0;
  file = c;
  there = refl;
  class_is = omega arith;
  indices_are = are;
  too_many = many;
}

full_there : (plans : Plans) → HaveNoChains plans → (class first : ℕ) (given : List ClassDef) (full : ℕ × ℕ) → full_from plans class first given ≡ Some full → IsFullFile class given full
full_there plans none class first [] full is = cc
full_there plans none class first (c ∷ given) full is =
    by_first (full_pool plans first c) refl is (full_there plans none (class + 1) (first + length c.methods) given full) where
      by_first : (o : Option ℕ) → full_pool plans first c ≡ o
          → option_or (option_map (λ indices. (class, indices)) o) (full_from plans (class + 1) (first + length c.methods) given) ≡ Some full
          → (full_from plans (class + 1) (first + length c.methods) given ≡ Some full → IsFullFile (class + 1) given full)
          → IsFullFile class (c ∷ given) full
      by_first None here found later =
          let rest = later found in
          let place = rest.class_is in
          record {
            place = suc rest.place;
            file = rest.file;
            there = rest.there;
            class_is = omega (arith, place);
            indices_are = rest.indices_are;
            too_many = rest.too_many;
          }
      by_first (Some indices) here found later =
          let both : ◌≡◌ {A = ℕ × ℕ} (class, indices) full = cc in
          let own = pool_is_full plans none first indices c here in
          subst (λ (f : ℕ × ℕ). IsFullFile class (c ∷ given) f) both (first_file class c given indices own.0 own.1)

-- ---- methods

-- a code among these, the first of which is that of the method of this number
record IsLongCode (first : ℕ) (codes : List (Option Code)) (long : ℕ × ℕ) : Type 0 where
  place : ℕ
  code : Code
  there : get_or codes place None ≡ Some code
  method_is : long.0 ≡ first + place
  too_many : MAX_CODE_BYTES < long.1

code_is_long : (calls : Calls) (bytes : ℕ) (plan : Insertions) (code : Code) → long_code calls plan code ≡ Some bytes → MAX_CODE_BYTES < bytes
code_is_long calls bytes plan code is =
    let items = chained calls code plan in
    let both = cond-some_then (nat_lt MAX_CODE_BYTES (laid_length code.items items)) (Some (refused_length code.items items)) bytes is in
    let same : refused_length code.items items ≡ bytes = let own = both.1 in cc in
    let many = ltb-true MAX_CODE_BYTES (laid_length code.items items) both.0 in
    by_narrow (narrow_length code.items items) (laid_length code.items items) many same where
      by_test : (b : Bool) (narrow laid : ℕ) → nat_lt MAX_CODE_BYTES narrow ≡ b → MAX_CODE_BYTES < laid → cond b narrow laid ≡ bytes → MAX_CODE_BYTES < bytes
      by_test true narrow laid over many same = let more = ltb-true MAX_CODE_BYTES narrow over in omega (arith, more, same)
      by_test false narrow laid over many same = omega (arith, many, same)

      by_narrow : (narrow laid : ℕ) → MAX_CODE_BYTES < laid → cond (nat_lt MAX_CODE_BYTES narrow) narrow laid ≡ bytes → MAX_CODE_BYTES < bytes
      by_narrow narrow laid many same = by_test (nat_lt MAX_CODE_BYTES narrow) narrow laid refl many same

-- a method that is too long has code
method_is_long : (calls : Calls) (bytes : ℕ) (plan : Option Insertions) (m : Member) → long_method calls plan m ≡ Some bytes
    → (code : Code) × (code_of m ≡ Some code) × (MAX_CODE_BYTES < bytes)
method_is_long calls bytes plan m is =
    let own = option_and_then-some (λ (own : Insertions). option_and_then (long_code calls own) (code_of m)) plan bytes is in
    let code = option_and_then-some (long_code calls own.0) (code_of m) bytes own.2 in (
      code.0,
      code.1,
      code_is_long calls bytes own.0 code.0 code.2,
    )

among_there : (plans : Plans) (calls : Calls) (first : ℕ) (methods : List Member) (long : ℕ × ℕ) → long_among plans calls first methods ≡ Some long
    → IsLongCode first (map code_of methods) long
among_there plans calls first [] long is = cc
among_there plans calls first (m ∷ methods) long is = by_first (long_method calls (plans first) m) refl is (among_there plans calls (first + 1) methods long) where
  by_first : (o : Option ℕ) → long_method calls (plans first) m ≡ o
      → option_or (option_map (λ bytes. (first, bytes)) o) (long_among plans calls (first + 1) methods) ≡ Some long
      → (long_among plans calls (first + 1) methods ≡ Some long → IsLongCode (first + 1) (map code_of methods) long)
      → IsLongCode first (code_of m ∷ map code_of methods) long
  by_first None none found later =
      let rest = later found in
      let place = rest.method_is in
      record { place = suc rest.place; code = rest.code; there = rest.there; method_is = omega (arith, place); too_many = rest.too_many }
  by_first (Some bytes) here found later =
      let both : ◌≡◌ {A = ℕ × ℕ} (first, bytes) long = cc in
      let own = method_is_long calls bytes (plans first) m here in
      subst (λ (l : ℕ × ℕ). IsLongCode first (code_of m ∷ map code_of methods) l) both
      (record { place = 0; code = own.0; there = own.1; method_is = omega arith; too_many = own.2 })

-- what is in a list is there also where more follows
in_front : (front rest : List (Option Code)) (place : ℕ) (code : Code) → get_or front place None ≡ Some code → get_or (front ++ rest) place None ≡ Some code
in_front front rest place code there = by_place (cases_lt place (length front)) where
  no_code : None ≡ Some code → get_or (front ++ rest) place None ≡ Some code
  no_code e = cc

  by_place : (place < length front) ⊎ (length front ≤ place) → get_or (front ++ rest) place None ≡ Some code
  by_place (inl within) = get_or_append_left front rest None place within ∙ there
  by_place (inr past) = no_code (sym (get_or_past front place None past) ∙ there)

long_there : (plans : Plans) (first : ℕ) (given : List ClassDef) (long : ℕ × ℕ) → long_from plans first given ≡ Some long
    → IsLongCode first (flat_map (λ (c : ClassDef). map code_of c.methods) given) long
long_there plans first [] long is = cc
long_there plans first (c ∷ given) long is =
    by_first (long_among plans (class_calls plans first c) first c.methods) refl is (long_there plans (first + length c.methods) given long) where
      by_first : (o : Option (ℕ × ℕ)) → long_among plans (class_calls plans first c) first c.methods ≡ o
          → option_or o (long_from plans (first + length c.methods) given) ≡ Some long
          → (long_from plans (first + length c.methods) given ≡ Some long
          → IsLongCode (first + length c.methods) (flat_map (λ (d : ClassDef). map code_of d.methods) given) long)
          → IsLongCode first (map code_of c.methods ++ flat_map (λ (d : ClassDef). map code_of d.methods) given) long
      by_first None none found later =
          let rest = later found in
          let others = flat_map (λ (d : ClassDef). map code_of d.methods) given in
          let count = length-map c.methods code_of in
          let number = rest.method_is in
          record {
            place = length (map code_of c.methods) + rest.place;
            code = rest.code;
            there = get_or-append-add (map code_of c.methods) others rest.place None ∙ rest.there;
            method_is = omega (arith, number, count);
            too_many = rest.too_many;
          }
      by_first (Some own) here found later =
          let same : own ≡ long = cc in
          let code = among_there plans (class_calls plans first c) first c.methods long (here ∙ ap (λ (l : ℕ × ℕ). Some l) same) in
          record {
            place = code.place;
            code = code.code;
            there = in_front (map code_of c.methods) (flat_map (λ (d : ClassDef). map code_of d.methods) given) code.place code.code code.there;
            method_is = code.method_is;
            too_many = code.too_many;
          }

-- ---- causes

module _ (given : List ClassDef) (main : List ℕ) (p : Program) (program_is : IsProgramOf given main p) (plans : Plans) (none : HaveNoChains plans) where
  -- the first of them
  abbrev first_full : Option (ℕ × ℕ)
  first_full = full_from plans (length built_in) first_given given

  abbrev first_long : Option (ℕ × ℕ)
  first_long = long_from plans first_given given

  full_named : (class indices : ℕ) → first_full ≡ Some (class, indices) → IsTooFull given class indices
  full_named class indices is =
      let file = full_there plans none (length built_in) first_given given (class, indices) is in
      record {
        place = file.place;
        file = file.file;
        there = file.there;
        class_is = file.class_is;
        indices_are = file.indices_are;
        too_many = file.too_many;
      }

  long_named : (method bytes : ℕ) → first_long ≡ Some (method, bytes) → IsTooLong p method bytes
  long_named method bytes is =
      let long = long_there plans first_given given (method, bytes) is in
      let number : method ≡ first_given + long.place = long.method_is in
      record {
        code = long.code;
        coded = ap (code_at p) number ∙ code_given given main p program_is long.place ∙ long.there;
        too_many = long.too_many;
      }

  -- the cause is a pool that is full, and then it is the first one
  pool_named : (class : ClassId) (indices : ℕ) → first_cause plans given ≡ Some (fail.PoolFull class indices) → IsTooFull given class.0 indices
  pool_named class indices is = by_full first_full refl is where
    by_long : (l : Option (ℕ × ℕ)) → option_map method_too_long l ≡ Some (fail.PoolFull class indices) → IsTooFull given class.0 indices
    by_long None found = cc
    by_long (Some long) found = cc

    by_full : (o : Option (ℕ × ℕ)) → first_full ≡ o
        → option_or (option_map pool_full o) (option_map method_too_long first_long) ≡ Some (fail.PoolFull class indices) → IsTooFull given class.0 indices
    by_full None none found = by_long first_long found
    by_full (Some full) here found =
        let same : pool_full full ≡ fail.PoolFull class indices = cc in
        let number : full.0 ≡ class.0 = ap (λ e. class_in e) same in
        let count : full.1 ≡ indices = ap (λ e. count_in e) same in
        subst (λ n. IsTooFull given class.0 n) count (subst (λ k. IsTooFull given k full.1) number (full_named full.0 full.1 here))

  -- the cause is a method that is too long, and then it is the first one
  method_named : (method : MethodId) (bytes : ℕ) → first_cause plans given ≡ Some (fail.MethodTooLong method bytes)
      → IsTooLong p method.0 bytes
  method_named method bytes is = by_full first_full is where
    by_long : (l : Option (ℕ × ℕ)) → first_long ≡ l → option_map method_too_long l ≡ Some (fail.MethodTooLong method bytes)
        → IsTooLong p method.0 bytes
    by_long None none found = cc
    by_long (Some long) here found =
        let same : method_too_long long ≡ fail.MethodTooLong method bytes = cc in
        let number : long.0 ≡ method.0 = ap (λ e. method_in e) same in
        let count : long.1 ≡ bytes = ap (λ e. count_in e) same in
        subst (λ n. IsTooLong p method.0 n) count
        (subst (λ k. IsTooLong p k long.1) number (long_named long.0 long.1 here))

    by_full : (o : Option (ℕ × ℕ)) → option_or (option_map pool_full o) (option_map method_too_long first_long) ≡ Some (fail.MethodTooLong method bytes)
        → IsTooLong p method.0 bytes
    by_full None found = by_long first_long refl found
    by_full (Some full) found = cc

pub refusals_named : RefusalsNameWhatIsThere
refusals_named given main p program_is (fail.CallsFree method offset) comes = call_there p (method.0, offset) comes
refusals_named given main p program_is (fail.PoolFull class indices) comes =
    pool_named given main p program_is (full_plans p comes.facts) (plans_plain p comes.facts) class indices comes.first
refusals_named given main p program_is (fail.MethodTooLong method bytes) comes =
    method_named given main p program_is (full_plans p comes.facts) (plans_plain p comes.facts) method bytes comes.first
refusals_named given main p program_is fail.NoMemory comes = tt
