-- Classes by what is to be done with their methods, where that is insertions that have room.
use Rattle.std.proofs.Common.{arith, ◌≡◌, refl, sym, ◌∙◌, ap, subst, ℕ, zero, suc, ◌+◌, ◌≤◌, ◌||◌, Bool, true, false, cond, List, [], ◌∷◌, length, map, Option, Some, None}
use Rattle.std.specs.Prelude.{if◌then◌else◌, is_some}
use Rattle.std.specs.List.{AllByRecursion, list_any, range_with_len}
use Rattle.std.specs.Option.{option_map, option_or}
use Rattle.std.proofs.lemmas.Bool.{and_parts, le-ltb}
use Rattle.std.proofs.lemmas.Option.{none-some, same_Some}
use Rattle.fm_chain.proofs.WithoutChains.{calls_same, class_none, class_same, plain_calls}
use Rattle.fm_chain.specs.Chaining as changing
use Rattle.fm_chain.specs.Chaining.{calls_for, chained_class, class_has_chain, entries_for, plan_has_chain}
use Rattle.fm_chain.specs.declared.calls.Calls.{Calls}
use Rattle.fm_chain.specs.declared.plans.ChainPlan.{ChainPlan}
use Rattle.fm_code.specs.AccessFlags.{is_interface}
use Rattle.fm_code.specs.CodeRules.{CodeIsValid}
use Rattle.fm_code.specs.FreeEntries.{with_free}
use Rattle.fm_code.specs.Members.{MethodAttrIsValid, MethodIsValid}
use Rattle.fm_code.specs.Spells.{HasSpelling}
use Rattle.fm_code.specs.declared.class_file.ClassDef.{ClassDef}
use Rattle.fm_code.specs.declared.class_file.Member.{Member}
use Rattle.fm_code.specs.declared.class_file.MemberAttr.{MemberAttr}
use Rattle.fm_code.specs.declared.class_file.MemberAttr.TheVariants as attribute
use Rattle.fm_code.specs.declared.code_array.Code.{Code}
use Rattle.fm_code.specs.declared.code_array.TheConstants.{MAX_CODE_BYTES}
use Rattle.fm_code.specs.declared.constant_pool.Entry.{Entry}
use Rattle.fm_layout.specs.Laid.{laid_length, laid_of, refused_length}
use Rattle.fm_law_spelled.proofs.ClassSpelled.{changed_spelled}
use Rattle.fm_law_spelled.specs.Changed.{IsShort, MethodsCan}
use Rattle.fm_place.specs.Insertions.{Insertions}
use Rattle.fm_place.specs.Rewriting.{changes, Plans, rewritten_class, rewritten_from}
use Rattle.fm_place_weave.proofs.ClassLawLemmas.{by_change, classes_are_chained}
use Rattle.fm_place_weave.specs.ByPlan.{code_by, items_by}
use Rattle.fm_place_weave.specs.ClassByPlan.{attribute_by, class_by, first_long, has_chains, long_attributes, long_code, long_method, MayDo, MayDoAll, method_by, methods_by}
use Rattle.fm_place_weave.specs.ClassLaws.{AreAlike}
use Rattle.fm_place_weave.specs.declared.planned.Planned.{Planned}
use Rattle.fm_place_weave.specs.declared.planned.Planned.TheVariants as planned
use Rattle.fm_rewrite.proofs.ClassMeantLemmas.{or_first, or_rest}
use Rattle.fm_rewrite.specs.Alike.{IsShortEnough}
use Rattle.fm_rewrite.specs.Plans.{CallsFit}
use Rattle.fm_rewrite.specs.inner.ByPlans.{changes_by, classes_by, is_changed, others, own, rewritten_by}
use Rattle.fm_audit_classes.proofs.InsertedLemmas.{alike_do, can_do, may_do, plain_do}
use Rattle.fm_audit_classes.specs.inner.Compared.{MayBeCompared, MayBeComparedEach}
use Rattle.fm_audit_classes.specs.inner.Inserted.{AreAllInserted, AreInserted, IsInserted}
use Rattle.fm_audit_classes.specs.inner.Low.{are_low, is_low}
use Rattle.fm_audit_classes.specs.inner.Methods.{MayDoEach}

-- ---- the methods of a class

pub one_each : (plans : Plans) (first : ℕ) (done : List Planned) (methods : List Member) → AreInserted plans first done methods → length done ≡ length methods
one_each plans first [] [] are = refl
one_each plans first [] (m ∷ methods) are = absurd are
one_each plans first (d ∷ done) [] are = absurd are
one_each plans first (d ∷ done) (m ∷ methods) are = ap suc (one_each plans (first + 1) done methods are.1)

alike_all : (plans : Plans) (first : ℕ) (done : List Planned) (methods : List Member) → AreInserted plans first done methods → AreAlike plans first done methods
alike_all plans first [] [] are = tt
alike_all plans first [] (m ∷ methods) are = absurd are
alike_all plans first (d ∷ done) [] are = absurd are
alike_all plans first (d ∷ done) (m ∷ methods) are = (alike_do (plans first) d m are.0, alike_all plans (first + 1) done methods are.1)

pub may_all : (plans : Plans) (first : ℕ) (done : List Planned) (methods : List Member) → AreInserted plans first done methods → are_low done methods ≡ true
    → (calls : Calls) → CallsFit calls → MayDoAll calls done methods
may_all plans first [] [] are low calls fit = tt
may_all plans first [] (m ∷ methods) are low calls fit = absurd are
may_all plans first (d ∷ done) [] are low calls fit = absurd are
may_all plans first (d ∷ done) (m ∷ methods) are low calls fit =
    let lows = and_parts (is_low d m) (are_low done methods) low in
    (may_do (plans first) d m are.0 lows.0 calls fit, may_all plans (first + 1) done methods are.1 lows.1 calls fit)

-- so may each of which there is room
may_each : (plans : Plans) (first : ℕ) (done : List Planned) (methods : List Member) → AreInserted plans first done methods → (calls : Calls) → CallsFit calls
    → MayDoEach calls done methods
may_each plans first [] [] are calls fit place m is low = absurd (none-some m is)
may_each plans first [] (n ∷ methods) are calls fit place m is low = absurd are
may_each plans first (d ∷ done) [] are calls fit place m is low = absurd are
may_each plans first (d ∷ done) (n ∷ methods) are calls fit zero m is low =
    let same : n ≡ m = same_Some n m is in
    subst (λ (k : Member). MayDo calls d k) same
    (may_do (plans first) d n are.0 (subst (λ (k : Member). is_low d k ≡ true) (sym same) low) calls fit)
may_each plans first (d ∷ done) (n ∷ methods) are calls fit (suc place) m is low = may_each plans (first + 1) done methods are.1 calls fit place m is low

short_do : (o : Option Insertions) (d : Planned) (m : Member) → IsInserted o d m → IsShortEnough d
short_do o planned.Same m is = tt
short_do o (planned.Woven plan) m is = tt
short_do None (planned.TooLong bytes chains) m is = absurd is
short_do (Some ins) (planned.TooLong bytes chains) m is = absurd is

short_all : (plans : Plans) (first : ℕ) (done : List Planned) (methods : List Member) → AreInserted plans first done methods → AllByRecursion IsShortEnough done
short_all plans first [] methods are = tt
short_all plans first (d ∷ done) [] are = absurd are
short_all plans first (d ∷ done) (m ∷ methods) are = (short_do (plans first) d m are.0, short_all plans (first + 1) done methods are.1)

pub plain_all : (plans : Plans) (first : ℕ) (done : List Planned) (methods : List Member) → AreInserted plans first done methods → has_chains done ≡ false
plain_all plans first [] [] are = refl
plain_all plans first [] (m ∷ methods) are = absurd are
plain_all plans first (d ∷ done) [] are = absurd are
plain_all plans first (d ∷ done) (m ∷ methods) are =
    λ k. plain_do (plans first) d m are.0 k || plain_all plans (first + 1) done methods are.1 k

-- what there may be of a place and a length
abbrev placed : ℕ → Option ℕ → Option (ℕ × ℕ)
placed n o = option_map (λ bytes. (n, bytes)) o

none_placed : (n : ℕ) (o : Option ℕ) → placed n o ≡ None → o ≡ None
none_placed n None none = refl
none_placed n (Some bytes) none = absurd cc

can_all : (plans : Plans) (first : ℕ) (done : List Planned) (methods : List Member) → AreInserted plans first done methods → are_low done methods ≡ true
    → (calls : Calls) (n : ℕ) → CallsFit calls → first_long calls n done methods ≡ None → MethodsCan plans calls first methods
can_all plans first [] [] are low calls n fit none = tt
can_all plans first [] (m ∷ methods) are low calls n fit none = absurd are
can_all plans first (d ∷ done) [] are low calls n fit none = absurd are
can_all plans first (d ∷ done) (m ∷ methods) are low calls n fit none =
    let here = placed n (long_method calls d m) in
    let rest = first_long calls (n + 1) done methods in
    let lows = and_parts (is_low d m) (are_low done methods) low in (
      can_do (plans first) d m are.0 lows.0 calls fit (none_placed n (long_method calls d m) (or_first here rest none)),
      can_all plans (first + 1) done methods are.1 lows.1 calls (n + 1) fit (or_rest here rest none),
    )

-- ---- changed or not

changed_do : (o : Option Insertions) (d : Planned) (m : Member) → IsInserted o d m → is_changed d ≡ is_some o
changed_do None planned.Same m is = refl
changed_do None (planned.Woven plan) m is = absurd is
changed_do None (planned.TooLong bytes chains) m is = absurd is
changed_do (Some ins) planned.Same m is = absurd is
changed_do (Some ins) (planned.Woven plan) m is = refl
changed_do (Some ins) (planned.TooLong bytes chains) m is = absurd is

changed_all : (plans : Plans) (first : ℕ) (done : List Planned) (methods : List Member) → AreInserted plans first done methods
    → changes_by done ≡ list_any (λ method. is_some (plans method)) (range_with_len first (length methods))
changed_all plans first [] [] are = refl
changed_all plans first [] (m ∷ methods) are = absurd are
changed_all plans first (d ∷ done) [] are = absurd are
changed_all plans first (d ∷ done) (m ∷ methods) are =
    λ k. changed_do (plans first) d m are.0 k || changed_all plans (first + 1) done methods are.1 k

-- ---- methods that bytes spell

-- a code that is spelled isn't too long
short_code : (entries : List Entry) (calls : Calls) (plan : ChainPlan) (code : Code) → CodeIsValid entries (code_by calls code plan) → long_code calls plan code ≡ None
unfolding laid_of laid_length
short_code entries calls plan code valid =
    ap (λ b. cond b (Some (refused_length code.items (items_by calls code plan))) None)
    (le-ltb MAX_CODE_BYTES (laid_length code.items (items_by calls code plan)) valid.not_long)

short_attributes : (entries : List Entry) (calls : Calls) (plan : ChainPlan) (attributes : List MemberAttr)
    → AllByRecursion (MethodAttrIsValid entries) (map (attribute_by calls plan) attributes) → long_attributes calls plan attributes ≡ None
short_attributes entries calls plan [] valid = refl
short_attributes entries calls plan (attribute.Coded name code ∷ rest) valid =
    λ k. option_or (short_code entries calls plan code valid.0.1 k) (short_attributes entries calls plan rest valid.1 k)
short_attributes entries calls plan (attribute.Constant name value ∷ rest) valid = absurd valid.0
short_attributes entries calls plan (attribute.Other raw ∷ rest) valid = short_attributes entries calls plan rest valid.1

short_method : (in_interface : Bool) (entries : List Entry) (calls : Calls) (o : Option Insertions) (d : Planned) (m : Member) → IsInserted o d m
    → MethodIsValid in_interface entries (method_by calls d m) → long_method calls d m ≡ None
short_method in_interface entries calls o planned.Same m is valid = refl
short_method in_interface entries calls o (planned.Woven plan) m is valid = short_attributes entries calls plan m.attributes valid.attributes
short_method in_interface entries calls None (planned.TooLong bytes chains) m is valid = absurd is
short_method in_interface entries calls (Some ins) (planned.TooLong bytes chains) m is valid = absurd is

never_long : (in_interface : Bool) (entries : List Entry) (plans : Plans) (first : ℕ) (calls : Calls) (n : ℕ) (done : List Planned) (methods : List Member)
    → AreInserted plans first done methods → AllByRecursion (MethodIsValid in_interface entries) (methods_by calls done methods)
    → first_long calls n done methods ≡ None
never_long in_interface entries plans first calls n [] [] are valid = refl
never_long in_interface entries plans first calls n [] (m ∷ methods) are valid = absurd are
never_long in_interface entries plans first calls n (d ∷ done) [] are valid = absurd are
never_long in_interface entries plans first calls n (d ∷ done) (m ∷ methods) are valid =
    λ k. option_or (placed n (short_method in_interface entries calls (plans first) d m are.0 valid.0 k))
    (never_long in_interface entries plans (first + 1) calls (n + 1) done methods are.1 valid.1 k)

-- ---- the class

module _ (plans : Plans) (plain : (method : ℕ) → plan_has_chain (plans method) ≡ false) (first : ℕ) (done : List Planned) (c : ClassDef)
    (are : AreInserted plans first done c.methods) where
  has_changed : changes_by done ≡ true → changes plans first c ≡ true
  has_changed is = sym (changed_all plans first done c.methods are) ∙ is

  -- a changed class is the one with what is inserted
  by_plans : changes_by done ≡ true → class_by done c ≡ chained_class plans first c
  by_plans is = classes_are_chained plans first done c (alike_all plans first done c.methods are) (has_changed is)

  -- and so the rewritten one
  changed_class : changes_by done ≡ true → class_by done c ≡ rewritten_class plans first c
  changed_class is = by_plans is ∙ class_same plans plain first c

  -- and so is each class
  pub class_is : rewritten_by done c ≡ rewritten_class plans first c
  class_is = by_test (changes_by done) refl where
    by_test : (b : Bool) → changes_by done ≡ b → rewritten_by done c ≡ rewritten_class plans first c
    by_test true is = ap (λ b. cond b (class_by done c) c) is ∙ changed_class is
    by_test false is =
        ap (λ b. cond b (class_by done c) c) is ∙ sym (ap (by_change plans first c) (sym (changed_all plans first done c.methods are) ∙ is))

  pub may_be_compared : HasSpelling c → IsShort c → MayBeCompared done c
  may_be_compared spelled short = record {
    one_each = one_each plans first done c.methods are;
    spelled = spelled;
    plain = plain_all plans first done c.methods are;
    short = short_all plans first done c.methods are;
    each = λ calls fit. may_each plans first done c.methods are calls fit;
    may = λ low. may_all plans first done c.methods are low;
    woven = λ low changed fits few none.
        let is : class_by done c ≡ changing.changed_class plans first c =
        by_plans changed ∙ ap (λ (b : Bool). if b then changing.changed_class plans first c else c) (has_changed changed) in
        let all = can_all plans first done c.methods are low (plain_calls plans plain c) 0 (record { free = fits; link = omega arith; free_chain = omega arith }) none in
        let room : length (entries_for (class_has_chain plans first c) c.pool.entries) ≤ 65535 =
        subst (λ b. length (entries_for b c.pool.entries) ≤ 65535) (sym (class_none plans plain first c)) few in
        subst HasSpelling (sym is)
        (changed_spelled plans first c spelled short room
        (subst (λ calls. MethodsCan plans calls first c.methods) (sym (calls_same plans plain first c)) all));
    fitting = λ made.
        let valid = subst
        (λ (chains : Bool). AllByRecursion (MethodIsValid (is_interface c.flags) (entries_for chains c.pool.entries)) (methods_by (calls_for chains c.pool.entries) done c.methods))
        (plain_all plans first done c.methods are) made.1.methods in
        never_long (is_interface c.flags) (with_free c.pool.entries) plans first (calls_for false c.pool.entries) 0 done c.methods are valid;
  }

-- ---- all classes

module _ (plans : Plans) (plain : (method : ℕ) → plan_has_chain (plans method) ≡ false) where
  pub classes_are : (first : ℕ) (done : List Planned) (classes : List ClassDef) → AreAllInserted plans first done classes
      → classes_by done classes ≡ rewritten_from plans first classes
  classes_are first done [] are = refl
  classes_are first done (c ∷ classes) are =
      λ k. class_is plans plain first (own c done) c are.0 k ∷ classes_are (first + length c.methods) (others c done) classes are.1 k

  pub may_be_compared_each : (first : ℕ) (done : List Planned) (classes : List ClassDef) → AllByRecursion HasSpelling classes
      → AllByRecursion IsShort classes → AreAllInserted plans first done classes → MayBeComparedEach done classes
  may_be_compared_each first done [] spelled short are = tt
  may_be_compared_each first done (c ∷ classes) spelled short are = (
    may_be_compared plans plain first (own c done) c are.0 spelled.0 short.0,
    may_be_compared_each (first + length c.methods) (others c done) classes spelled.1 short.1 are.1,
  )
