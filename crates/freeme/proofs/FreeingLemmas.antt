-- What a refusal names is there: the method or the class has a number of the program.
use Rattle.std.proofs.Common.{◌≡◌, ℕ, zero, suc, ◌+◌, ◌<◌, ◌⊎◌, inl, inr, ⊎_elim, Bool, List, [], ◌∷◌, length, Option, Some, None, Err, refl, sym, ap, ◌∙◌, arith}
use Rattle.std.specs.Prelude.{unwrap_or}
use Rattle.std.specs.List.{range_with_len}
use Rattle.std.specs.Option.{option_map, option_or}
use Rattle.fm_base.specs.declared.ids.ClassId.{ClassId}
use Rattle.fm_base.specs.declared.ids.MethodId.{MethodId}
use Rattle.fm_chain.specs.Chaining.{class_calls}
use Rattle.fm_chain.specs.declared.calls.Calls.{Calls}
use Rattle.fm_code.specs.declared.class_file.ClassDef.{ClassDef}
use Rattle.fm_code.specs.declared.class_file.Member.{Member}
use Rattle.fm_place.specs.Rewriting.{first_given, Plans}
use Rattle.fm_place.specs.Safe.{IsProgramOf}
use Rattle.fm_rewrite.proofs.JudgedLemmas.{classes_counted}
use Rattle.fm_rewrite.proofs.ProgramMeantLemmas.{methods_counted}
use Rattle.fm_rewrite.specs.FreeCalls.{call_among, call_in_method, first_call}
use Rattle.fm_rewrite.specs.Causes.{AreNotWoven, first_cause, full_from, full_pool, long_among, long_from, long_method, method_too_long, plans_for, pool_full}
use Rattle.fm_rewrite.specs.declared.error.RewriteFail.{RewriteFail}
use Rattle.fm_rewrite.specs.declared.error.RewriteFail.TheVariants as fail
use Rattle.fm_rewrite.specs.inner.ByPlans.{method_count}
use Rattle.fm_world.specs.BuiltIns.{built_in}
use Rattle.fm_world.specs.Members.{methods_of}
use Rattle.fm_world.specs.Programs.{Program}
use Rattle.freeme.specs.Rewriting.{ComesOfRewritingBy}
use Rattle.freeme.specs.inner.Freeing.{ComesOfFreeing, IsNamed, IsThere}
use Rattle.freeme.specs.declared.refusal.FreeRefusal.TheVariants as free_refusal

-- ---- first ones

either : {X : Type 0} (a b : Option X) (x : X) → option_or a b ≡ Some x → (a ≡ Some x) ⊎ (b ≡ Some x)
either None b x e = inr e
either (Some y) b x e = inl e

-- a number that is put before what is found
numbered : (number : ℕ) (o : Option ℕ) (found : ℕ × ℕ) → option_map (λ n. (number, n)) o ≡ Some found → found.0 ≡ number
numbered number None found e = absurd cc
numbered number (Some n) found e = ap (λ (o : Option (ℕ × ℕ)). (unwrap_or o found).0) (sym e)

among_inside : (p : Program) (a n : ℕ) (call : ℕ × ℕ) → call_among p (range_with_len a n) ≡ Some call → call.0 < a + n
among_inside p a zero call e = absurd cc
among_inside p a (suc n) call e = ⊎_elim
    (λ (here : option_map (λ offset. (a, offset)) (call_in_method p a) ≡ Some call). let is = numbered a (call_in_method p a) call here in omega (arith, is))
    (λ (later : call_among p (range_with_len (a + 1) n) ≡ Some call). let rest = among_inside p (a + 1) n call later in omega (arith, rest))
    (either (option_map (λ offset. (a, offset)) (call_in_method p a)) (call_among p (range_with_len (a + 1) n)) call e)

pub call_inside : (p : Program) (call : ℕ × ℕ) → first_call p ≡ Some call → call.0 < length (methods_of p.outline.classes)
unfolding first_call
call_inside p call e = let is = among_inside p 0 (length (methods_of p.outline.classes)) call e in omega (arith, is)

full_inside : (plans : Plans) (class first : ℕ) (given : List ClassDef) (full : ℕ × ℕ) → full_from plans class first given ≡ Some full → full.0 < class + length given
full_inside plans class first [] full e = absurd cc
full_inside plans class first (c ∷ given) full e = ⊎_elim
    (λ (here : option_map (λ indices. (class, indices)) (full_pool plans first c) ≡ Some full). let is = numbered class (full_pool plans first c) full here in omega (arith, is))
    (λ (later : full_from plans (class + 1) (first + length c.methods) given ≡ Some full).
    let rest = full_inside plans (class + 1) (first + length c.methods) given full later in omega (arith, rest))
    (either (option_map (λ indices. (class, indices)) (full_pool plans first c)) (full_from plans (class + 1) (first + length c.methods) given) full e)

long_inside : (plans : Plans) (calls : Calls) (first : ℕ) (methods : List Member) (long : ℕ × ℕ) → long_among plans calls first methods ≡ Some long
    → long.0 < first + length methods
long_inside plans calls first [] long e = absurd cc
long_inside plans calls first (m ∷ methods) long e = ⊎_elim
    (λ (here : option_map (λ bytes. (first, bytes)) (long_method calls (plans first) m) ≡ Some long). let is = numbered first (long_method calls (plans first) m) long here in omega (arith, is))
    (λ (later : long_among plans calls (first + 1) methods ≡ Some long). let rest = long_inside plans calls (first + 1) methods long later in omega (arith, rest))
    (either (option_map (λ bytes. (first, bytes)) (long_method calls (plans first) m)) (long_among plans calls (first + 1) methods) long e)

all_long_inside : (plans : Plans) (first : ℕ) (given : List ClassDef) (long : ℕ × ℕ) → long_from plans first given ≡ Some long → long.0 < first + method_count given
all_long_inside plans first [] long e = absurd cc
all_long_inside plans first (c ∷ given) long e = ⊎_elim
    (λ (here : long_among plans (class_calls plans first c) first c.methods ≡ Some long).
    let own = long_inside plans (class_calls plans first c) first c.methods long here in omega (arith, own))
    (λ (later : long_from plans (first + length c.methods) given ≡ Some long). let rest = all_long_inside plans (first + length c.methods) given long later in omega (arith, rest))
    (either (long_among plans (class_calls plans first c) first c.methods) (long_from plans (first + length c.methods) given) long e)

-- ---- causes

-- the first pool that is full, and the first method that is too long
abbrev first_full : Plans → List ClassDef → Option (ℕ × ℕ)
first_full plans given = full_from plans (length built_in) first_given given

abbrev first_long : Plans → List ClassDef → Option (ℕ × ℕ)
first_long plans given = long_from plans first_given given

-- the number of what a cause names
abbrev number_of : RewriteFail → ℕ
number_of (fail.CallsFree method offset) = method.0
number_of (fail.PoolFull class indices) = class.0
number_of (fail.MethodTooLong method bytes) = method.0
number_of fail.NoMemory = 0

same_number : (f g : RewriteFail) → Some f ≡ Some g → number_of f ≡ number_of g
same_number f g e = ap (λ (o : Option RewriteFail). number_of (unwrap_or o g)) e

pool_inside : (plans : Plans) (given : List ClassDef) (class : ClassId) (indices : ℕ) → first_cause plans given ≡ Some (fail.PoolFull class indices) → class.0 < length built_in + length given
pool_inside plans given class indices e = by (first_full plans given) refl (first_long plans given) refl where
  by : (full : Option (ℕ × ℕ)) → first_full plans given ≡ full → (long : Option (ℕ × ℕ)) → first_long plans given ≡ long → class.0 < length built_in + length given
  by (Some full) is long other =
      let cause : first_cause plans given ≡ Some (pool_full full) = λ k. option_or (option_map pool_full (is k)) (option_map method_too_long (first_long plans given)) in
      let same : Some (pool_full full) ≡ Some (fail.PoolFull class indices) = sym cause ∙ e in
      let number = same_number (pool_full full) (fail.PoolFull class indices) same in
      let inside = full_inside plans (length built_in) first_given given full is in
      omega (arith, number, inside)
  by None is (Some long) other =
      let cause : first_cause plans given ≡ Some (method_too_long long) = λ k. option_or (option_map pool_full (is k)) (option_map method_too_long (other k)) in
      let same : Some (method_too_long long) ≡ Some (fail.PoolFull class indices) = sym cause ∙ e in
      absurd cc
  by None is None other =
      let cause : first_cause plans given ≡ None = λ k. option_or (option_map pool_full (is k)) (option_map method_too_long (other k)) in
      let none : None ≡ Some (fail.PoolFull class indices) = sym cause ∙ e in
      absurd cc

method_inside : (plans : Plans) (given : List ClassDef) (method : MethodId) (bytes : ℕ) → first_cause plans given ≡ Some (fail.MethodTooLong method bytes) → method.0 < first_given + method_count given
method_inside plans given method bytes e = by (first_full plans given) refl (first_long plans given) refl where
  by : (full : Option (ℕ × ℕ)) → first_full plans given ≡ full → (long : Option (ℕ × ℕ)) → first_long plans given ≡ long → method.0 < first_given + method_count given
  by (Some full) is long other =
      let cause : first_cause plans given ≡ Some (pool_full full) = λ k. option_or (option_map pool_full (is k)) (option_map method_too_long (first_long plans given)) in
      let same : Some (pool_full full) ≡ Some (fail.MethodTooLong method bytes) = sym cause ∙ e in
      absurd cc
  by None is (Some long) other =
      let cause : first_cause plans given ≡ Some (method_too_long long) = λ k. option_or (option_map pool_full (is k)) (option_map method_too_long (other k)) in
      let same : Some (method_too_long long) ≡ Some (fail.MethodTooLong method bytes) = sym cause ∙ e in
      let number = same_number (method_too_long long) (fail.MethodTooLong method bytes) same in
      let inside = all_long_inside plans first_given given long other in
      omega (arith, number, inside)
  by None is None other =
      let cause : first_cause plans given ≡ None = λ k. option_or (option_map pool_full (is k)) (option_map method_too_long (other k)) in
      let none : None ≡ Some (fail.MethodTooLong method bytes) = sym cause ∙ e in
      absurd cc

-- ---- numbers of a program

module _ (given : List ClassDef) (main : List ℕ) (p : Program) (program_is : IsProgramOf given main p) (chains : Bool) where
  pool_there : (class : ClassId) (indices : ℕ) → AreNotWoven chains p given (fail.PoolFull class indices) → class.0 < length p.outline.classes
  pool_there class indices refused =
      let inside = pool_inside (plans_for chains p refused.facts) given class indices refused.first in
      let count = classes_counted given main p program_is in
      omega (arith, inside, count)

  method_there : (method : MethodId) (bytes : ℕ) → AreNotWoven chains p given (fail.MethodTooLong method bytes)
      → method.0 < length (methods_of p.outline.classes)
  method_there method bytes refused =
      let inside = method_inside (plans_for chains p refused.facts) given method bytes refused.first in
      let count = methods_counted given main p program_is in
      omega (arith, inside, count)

  -- what a cause names is there
  pub cause_there : (cause : RewriteFail) → ComesOfRewritingBy chains p given (Err cause) → IsThere p.outline cause
  cause_there (fail.CallsFree method offset) comes = call_inside p (method.0, offset) comes
  cause_there (fail.PoolFull class indices) comes = pool_there class indices comes
  cause_there (fail.MethodTooLong method bytes) comes = method_there method bytes comes
  cause_there fail.NoMemory comes = tt

-- and is reported by its name
pub cause_reported : (chains : Bool) (given : List ClassDef) (p : Program) (cause : RewriteFail) (name : List ℕ) → ComesOfRewritingBy chains p given (Err cause)
    → IsNamed p.outline cause name → ComesOfFreeing chains p given (Err (free_refusal.Rewrite cause name))
cause_reported chains given p (fail.CallsFree method offset) name comes named = (comes, named)
cause_reported chains given p (fail.PoolFull class indices) name comes named = (comes, named)
cause_reported chains given p (fail.MethodTooLong method bytes) name comes named = (comes, named)
cause_reported chains given p fail.NoMemory name comes named = absurd named
