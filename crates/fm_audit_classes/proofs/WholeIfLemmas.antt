-- A class that has the first part, and whose methods have the codes that they have to have, is the given one by what is to be done with its methods.
use Rattle.std.proofs.Common.{◌≡◌, ◌≢◌, refl, sym, ◌∙◌, ap, subst, ℕ, suc, ◌+◌, ◌<◌, ◌≤◌, ⊎_elim, Bool, true, false, cond, List, [], ◌∷◌, length, map, drop, Option, Some, None, Result, Ok, Err, IfOk, arith}
use Rattle.std.specs.Prelude.{IfSome}
use Rattle.std.specs.List.{AllByRecursion}
use Rattle.std.proofs.lemmas.Bool.{and_from, cases_eq, false≢true, or_parts}
use Rattle.std.proofs.lemmas.List.{length-map}
use Rattle.std.proofs.lemmas.Option.{none-some, same_Some}
use Rattle.fm_chain.specs.Chaining.{calls_for, entries_for}
use Rattle.fm_chain.specs.declared.calls.Calls.{Calls}
use Rattle.fm_code.specs.AccessFlags.{is_interface}
use Rattle.fm_code.specs.FreeEntries.{with_free}
use Rattle.fm_code.specs.Members.{code_of, MethodAttrIsValid, MethodIsValid}
use Rattle.fm_code.specs.Spells.{HasSpelling}
use Rattle.fm_code.specs.declared.class_file.ClassDef.{ClassDef}
use Rattle.fm_code.specs.declared.class_file.Member.{Member}
use Rattle.fm_code.specs.declared.class_file.MemberAttr.{MemberAttr}
use Rattle.fm_code.specs.declared.class_file.MemberAttr.TheVariants as attribute
use Rattle.fm_code.specs.declared.code_array.Code.{Code}
use Rattle.fm_code.specs.declared.code_array.TheConstants.{MAX_CODE_BYTES}
use Rattle.fm_code.specs.declared.constant_pool.Entry.{Entry}
use Rattle.fm_place_weave.specs.ClassByPlan.{class_by, methods_by}
use Rattle.fm_place_weave.specs.declared.planned.Planned.{Planned}
use Rattle.fm_place_weave.specs.declared.planned.Planned.TheVariants as planned
use Rattle.fm_rewrite.specs.inner.ByPlans.{changes_by, is_changed, rewritten_by}
use Rattle.fm_audit_classes.proofs.HeadLemmas.{never_full_pool}
use Rattle.fm_audit_classes.proofs.MemberLemmas.{AreAsPlanned, low_all, members_are, stays_at}
use Rattle.fm_audit.proofs.SameLemmas.{are_same_codes}
use Rattle.fm_audit_classes.specs.Parts.{bare_class, bare_method, class_codes, HasClass, with_entries}
use Rattle.fm_audit_classes.specs.declared.error.AuditFail.{AuditFail}
use Rattle.fm_audit_classes.specs.declared.error.AuditFail.TheVariants as fail
use Rattle.fm_audit_classes.specs.inner.Compared.{MayBeCompared}
use Rattle.fm_audit_classes.specs.inner.Low.{are_low, is_low}
use Rattle.fm_audit_classes.specs.inner.Methods.{HasShortCode, IsAsPlanned, IsFirstIn, IsFirstOf, NamesOf, NamesSo}
use Rattle.fm_audit_classes.specs.inner.Named.{IsStill, IsWholeIf}

-- ---- methods that stay as they are

low_one : (d : Planned) (m : Member) → is_changed d ≡ false → is_low d m ≡ true
low_one planned.Same m same = refl
low_one (planned.Woven plan) m same = absurd (false≢true (sym same))
low_one (planned.TooLong bytes chains) m same = absurd (false≢true (sym same))

pub low_still : (done : List Planned) (methods : List Member) → changes_by done ≡ false → are_low done methods ≡ true
low_still [] methods still = refl
low_still (d ∷ done) [] still = refl
low_still (d ∷ done) (m ∷ methods) still =
    let both = or_parts (is_changed d) (changes_by done) still in
    and_from (is_low d m) (are_low done methods) (low_one d m both.0) (low_still done methods both.1)

pub methods_counted : (calls : Calls) (done : List Planned) (methods : List Member) → length done ≡ length methods → length (methods_by calls done methods) ≡ length methods
methods_counted calls [] [] same = refl
methods_counted calls [] (m ∷ methods) same = absurd (let none : 0 ≡ suc (length methods) = same in omega (arith, none))
methods_counted calls (d ∷ done) [] same = absurd (let none : suc (length done) ≡ 0 = same in omega (arith, none))
methods_counted calls (d ∷ done) (m ∷ methods) same =
    ap suc (methods_counted calls done methods (let more : suc (length done) ≡ suc (length methods) = same in omega (arith, more)))

still_rest : (done : List Planned) → changes_by done ≡ false → changes_by (drop 1 done) ≡ false
still_rest [] still = refl
still_rest (d ∷ done) still = (or_parts (is_changed d) (changes_by done) still).1

codes_same : (calls : Calls) (done : List Planned) (old new : List Member) → length new ≡ length old → changes_by done ≡ false
    → AreAsPlanned calls done old new → map code_of new ≡ map code_of old
codes_same calls done [] [] count still are = refl
codes_same calls done [] (v ∷ new) count still are = absurd (let none : suc (length new) ≡ 0 = count in omega (arith, none))
codes_same calls done (m ∷ old) [] count still are = absurd (let none : 0 ≡ suc (length old) = count in omega (arith, none))
codes_same calls done (m ∷ old) (v ∷ new) count still are =
    let here : code_of v ≡ code_of m =
    subst (λ (d : Planned). IsAsPlanned calls d (code_of m) (code_of v)) (stays_at done still 0) (are 0 (omega arith) m v refl refl) in
    let rest = codes_same calls (drop 1 done) old new (let n : suc (length new) ≡ suc (length old) = count in omega (arith, n)) (still_rest done still)
    (λ k inside own other own_is other_is.
    subst (λ (d : Planned). IsAsPlanned calls d (code_of own) (code_of other)) (stays_at done still (suc k) ∙ sym (stays_at (drop 1 done) (still_rest done still) k))
    (are (suc k) (omega (arith, inside)) own other own_is other_is)) in
    λ k. here k ∷ rest k

-- ---- one class

module _ (done : List Planned) (c w : ClassDef) (has : HasClass c w) where
  counted_if : bare_class w ≡ bare_class (with_entries c) → length w.methods ≡ length c.methods
  counted_if bare =
      sym (length-map w.methods bare_method) ∙ ap (λ (d : ClassDef). length d.methods) bare ∙ length-map c.methods bare_method

  -- as many methods
  pub counted : length w.methods ≡ length c.methods
  counted = ⊎_elim
      (λ (same : length w.methods ≡ length c.methods). same)
      (λ (other : length w.methods ≢ length c.methods).
      counted_if (has.changed (λ codes. other (sym (length-map w.methods code_of) ∙ ap length codes ∙ length-map c.methods code_of))))
      (cases_eq (length w.methods) (length c.methods))

  -- no method of it is changed
  still_whole : changes_by done ≡ false → class_codes w ≡ class_codes c → (are_low done c.methods ≡ true) × (w ≡ rewritten_by done c)
  still_whole still codes = (low_still done c.methods still, has.same codes ∙ sym (ap (λ b. cond b (class_by done c) c) still))

  -- its codes are other ones
  bare : (class_codes w ≡ class_codes c → ⊥) → bare_class w ≡ bare_class (with_entries c)
  bare differ = has.changed differ

  module _ (may : MayBeCompared done c) (spelled : HasSpelling w) where
    abbrev own_calls : Calls
    own_calls = calls_for false c.pool.entries

    -- some method is changed
    changed_whole : changes_by done ≡ true → (class_codes w ≡ class_codes c → ⊥) → AreAsPlanned own_calls done c.methods w.methods
        → (are_low done c.methods ≡ true) × (w ≡ rewritten_by done c)
    changed_whole changed differ are = (
      low_all own_calls done c.methods w.methods may.one_each counted are,
      (λ k. record {
        minor = (bare differ k).minor;
        major = (bare differ k).major;
        pool = record { entries = entries k };
        flags = (bare differ k).flags;
        this_class = (bare differ k).this_class;
        super_class = (bare differ k).super_class;
        interfaces = (bare differ k).interfaces;
        fields = (bare differ k).fields;
        methods = methods k;
        attributes = (bare differ k).attributes;
      })
          ∙ sym (ap (λ b. cond b (class_by done c) c) changed),
    ) where
      entries : w.pool.entries ≡ (class_by done c).pool.entries
      entries = ap (λ (d : ClassDef). d.pool.entries) (bare differ) ∙ ap (λ (chains : Bool). entries_for chains c.pool.entries) (sym may.plain)

      methods : w.methods ≡ (class_by done c).methods
      methods =
          members_are own_calls (is_interface w.flags) (is_interface c.flags) w.pool.entries c.pool.entries done c.methods w.methods may.one_each may.spelled.1.methods
          spelled.1.methods (ap (λ (d : ClassDef). d.methods) (bare differ)) are
          ∙ ap (λ (chains : Bool). methods_by (calls_for chains c.pool.entries) done c.methods) (sym may.plain)

    -- each method has the code that it has to have
    pub whole_if : IsStill done c w → AreAsPlanned own_calls done c.methods w.methods → (are_low done c.methods ≡ true) × (w ≡ rewritten_by done c)
    whole_if still are = by_test (changes_by done) refl where
      by_test : (b : Bool) → changes_by done ≡ b → (are_low done c.methods ≡ true) × (w ≡ rewritten_by done c)
      by_test true changed = changed_whole changed (λ codes. false≢true (sym (still codes) ∙ changed)) are
      by_test false same = still_whole same (codes_same own_calls done c.methods w.methods counted same are)

    -- the pool is full
    pub full_if : IsStill done c w → 65535 < length (with_free c.pool.entries) → (are_low done c.methods ≡ true) × (w ≡ rewritten_by done c)
    full_if still full = ⊎_elim
        (λ (codes : class_codes w ≡ class_codes c). still_whole (still codes) codes)
        (λ (differ : class_codes w ≡ class_codes c → ⊥). absurd (never_full_pool c w spelled full (ap (λ (d : ClassDef). d.pool.entries) (bare differ))))
        (are_same_codes (class_codes w) (class_codes c))

-- ---- as the code finds it

pub whole_of : (done : List Planned) (c w : ClassDef) → MayBeCompared done c → HasSpelling w → (o : Option ℕ)
    → IsFirstOf (calls_for false c.pool.entries) done c.methods w.methods o → IsWholeIf done c w o
whole_of done c w may spelled None are = λ has own. whole_if done c w has may spelled own are
whole_of done c w may spelled (Some place) first = tt

pub first_of : (calls : Calls) (done : List Planned) (old new : List Member) (o : Option ℕ) → IsFirstOf calls done old new o
    → IfSome o (IsFirstIn calls done old new)
first_of calls done old new None are = tt
first_of calls done old new (Some place) first = first

-- by the result of the search, with the entries and the lists as the code has them
pub first_ok : {E : Type 0} (found calls : Calls) → found ≡ calls → (done : List Planned) (old_list old : List Member) → old_list ≡ old
    → (new_list new : List Member) → new_list ≡ new → (r : Result (Option ℕ) E) → IfOk r (IsFirstOf found done old_list new_list)
    → IfOk r (λ other. IfSome other (IsFirstIn calls done old new))
first_ok found calls same done old_list old old_is new_list new new_is (Ok o) are =
    first_of calls done old new o
    (subst (λ (q : Calls × (List Member × List Member)). IsFirstOf q.0 done q.1.0 q.1.1 o) (λ k. (same k, (old_is k, new_is k))) are)
first_ok found calls same done old_list old old_is new_list new new_is (Err e) are = tt

pub whole_ok : {E : Type 0} (found : Calls) (done : List Planned) (c w : ClassDef) → MayBeCompared done c → HasSpelling w
    → found ≡ calls_for false c.pool.entries → (old_list : List Member) → old_list ≡ c.methods → (new_list : List Member) → new_list ≡ w.methods
    → (r : Result (Option ℕ) E) → IfOk r (IsFirstOf found done old_list new_list) → IfOk r (IsWholeIf done c w)
whole_ok found done c w may spelled same old_list old_is new_list new_is (Ok o) are =
    whole_of done c w may spelled o
    (subst (λ (q : Calls × (List Member × List Member)). IsFirstOf q.0 done q.1.0 q.1.1 o) (λ k. (same k, (old_is k, new_is k))) are)
whole_ok found done c w may spelled same old_list old_is new_list new_is (Err e) are = tt

pub whole_full : (done : List Planned) (c w : ClassDef) → MayBeCompared done c → HasSpelling w → 65535 < length (with_free c.pool.entries)
    → IsWholeIf done c w None
whole_full done c w may spelled full = λ has own. full_if done c w has may spelled own full

-- codes that bytes spell are short
short_first : (entries : List Entry) (m : Member) (attributes : List MemberAttr) (code : Code) → AllByRecursion (MethodAttrIsValid entries) attributes
    → code_of (record m { attributes = attributes }) ≡ Some code → code.length ≤ MAX_CODE_BYTES
short_first entries m [] code valid found = absurd (none-some code found)
short_first entries m (attribute.Constant name value ∷ rest) code valid found = absurd valid.0
short_first entries m (attribute.Coded name first ∷ rest) code valid found =
    let same : first ≡ code = same_Some first code found in subst (λ (c : Code). c.length ≤ MAX_CODE_BYTES) same valid.0.1.not_long
short_first entries m (attribute.Other raw ∷ rest) code valid found = short_first entries m rest code valid.1 found

short_method : (in_interface : Bool) (entries : List Entry) (m : Member) → MethodIsValid in_interface entries m → HasShortCode m
short_method in_interface entries m valid = by_code (code_of m) refl where
  by_code : (o : Option Code) → code_of m ≡ o → IfSome o (λ (code : Code). code.length ≤ MAX_CODE_BYTES)
  by_code None is = tt
  by_code (Some code) is = short_first entries m m.attributes code valid.attributes is

pub short_each : (in_interface : Bool) (entries : List Entry) (methods : List Member) → AllByRecursion (MethodIsValid in_interface entries) methods
    → AllByRecursion HasShortCode methods
short_each in_interface entries [] valid = tt
short_each in_interface entries (m ∷ methods) valid = (short_method in_interface entries m valid.0, short_each in_interface entries methods valid.1)

-- ---- what a refusal names

-- what is named of a class that has the first part and isn't the given one by what is to be done with its methods
pub names_by : (done : List Planned) (c w : ClassDef) (P : Type 0) (F : (class method : ℕ) → Type 0) (class first : ℕ) (o : Option ℕ) (e : AuditFail)
    → (P → HasClass c w) → IsStill done c w → IsWholeIf done c w o → IfSome o (IsFirstIn (calls_for false c.pool.entries) done c.methods w.methods)
    → length done ≡ length c.methods → NamesOf class first (length done) o e → (are_low done c.methods ≡ true → w ≡ rewritten_by done c → ⊥)
    → ((place : ℕ) → P → IsFirstIn (calls_for false c.pool.entries) done c.methods w.methods place → F class (first + place)) → NamesSo P F e
names_by done c w P F class first o (fail.CallsFree method offset) has still whole is count named other found = tt
names_by done c w P F class first o fail.NoMemory has still whole is count named other found = tt
names_by done c w P F class first None (fail.NotSafe own None part) has still whole is count named other found = λ p.
    let both = whole (has p) still in other both.0 both.1
names_by done c w P F class first None (fail.NotSafe own (Some method) part) has still whole is count named other found = λ p.
    absurd (let both = whole (has p) still in other both.0 both.1)
names_by done c w P F class first (Some place) (fail.NotSafe own None part) has still whole is count named other found = λ p.
    named (let inside = is.inside in omega (arith, inside, count))
names_by done c w P F class first (Some place) (fail.NotSafe own (Some method) part) has still whole is count named other found = λ p.
    let names = named (let inside = is.inside in omega (arith, inside, count)) in
    subst (λ (q : ℕ × ℕ). F q.0 q.1) (λ k. (sym names.0 k, sym names.1 k)) (found place p is)
