-- A method that has the code of another one, and is it but for its code, is that one; so it is with all methods of a class by what is to be done with them.
use Rattle.std.proofs.Common.{◌≡◌, refl, sym, ◌∙◌, ap, subst, ℕ, zero, suc, ◌+◌, ◌<◌, ◌≤◌, ⊎_elim, Bool, true, false, List, [], ◌∷◌, length, map, get_or, Option, Some, None, arith}
use Rattle.std.specs.Prelude.{IfSome, slice_get}
use Rattle.std.specs.List.{AllByRecursion}
use Rattle.std.specs.Option.{option_map}
use Rattle.std.proofs.lemmas.Bool.{and_from, and_parts, cases_lt, false≢true, or_parts}
use Rattle.std.proofs.lemmas.Option.{get_or_from_slice_get, none-some, same_Some, slice_get_read}
use Rattle.fm_base.proofs.ListFacts.{same_head, same_tail}
use Rattle.fm_chain.specs.declared.calls.Calls.{Calls}
use Rattle.fm_chain.specs.declared.plans.ChainPlan.{ChainPlan}
use Rattle.fm_code.specs.Members.{code_of, MethodIsValid}
use Rattle.fm_code.specs.declared.class_file.Member.{Member}
use Rattle.fm_code.specs.declared.class_file.MemberAttr.{MemberAttr}
use Rattle.fm_code.specs.declared.class_file.MemberAttr.TheVariants as attribute
use Rattle.fm_code.specs.declared.code_array.Code.{Code}
use Rattle.fm_code.specs.declared.code_array.TheConstants.{MAX_CODE_BYTES}
use Rattle.fm_code.specs.declared.constant_pool.Entry.{Entry}
use Rattle.fm_layout.specs.Laid.{laid_length, laid_of}
use Rattle.fm_place_weave.specs.ByPlan.{code_by, items_by}
use Rattle.fm_place_weave.specs.ClassByPlan.{attribute_by, MayDo, MayWeave, method_by, methods_by}
use Rattle.fm_place_weave.specs.Conditions.{MayBeWoven}
use Rattle.fm_place_weave.specs.declared.planned.Planned.{Planned}
use Rattle.fm_place_weave.specs.declared.planned.Planned.TheVariants as planned
use Rattle.fm_rewrite.proofs.MeantLemmas.{codes_own}
use Rattle.fm_rewrite.specs.Alike.{IsOwnCode, IsShortEnough}
use Rattle.fm_rewrite.specs.Plans.{planned_at}
use Rattle.fm_rewrite.specs.inner.ByPlans.{changes_by, is_changed}
use Rattle.fm_audit_classes.specs.Parts.{bare_attribute, bare_method}
use Rattle.fm_audit_classes.specs.inner.Low.{are_low, is_low, is_low_code, is_low_in}
use Rattle.fm_audit_classes.specs.inner.Methods.{HasShortCode, IsAsPlanned, IsAsPlannedAt, MayDoEach}

-- ---- attributes

-- with this code, if it is code
abbrev pub with_code : Code → MemberAttr → MemberAttr
with_code code (attribute.Coded name own) = attribute.Coded name code
with_code code a = a

own_again : (code : Code) (attributes : List MemberAttr) → AllByRecursion (IsOwnCode code) attributes
    → map (with_code code) (map bare_attribute attributes) ≡ attributes
own_again code [] own = refl
own_again code (attribute.Coded name old ∷ rest) own = λ k. attribute.Coded name (sym own.0 k) ∷ own_again code rest own.1 k
own_again code (attribute.Constant name value ∷ rest) own = λ k. attribute.Constant name value ∷ own_again code rest own.1 k
own_again code (attribute.Other raw ∷ rest) own = λ k. attribute.Other raw ∷ own_again code rest own.1 k

woven_again : (calls : Calls) (plan : ChainPlan) (code : Code) (attributes : List MemberAttr) → AllByRecursion (IsOwnCode code) attributes
    → map (with_code (code_by calls code plan)) (map bare_attribute attributes) ≡ map (attribute_by calls plan) attributes
woven_again calls plan code [] own = refl
woven_again calls plan code (attribute.Coded name old ∷ rest) own =
    λ k. attribute.Coded name (code_by calls (sym own.0 k) plan) ∷ woven_again calls plan code rest own.1 k
woven_again calls plan code (attribute.Constant name value ∷ rest) own = λ k. attribute.Constant name value ∷ woven_again calls plan code rest own.1 k
woven_again calls plan code (attribute.Other raw ∷ rest) own = λ k. attribute.Other raw ∷ woven_again calls plan code rest own.1 k

bare_again : (m : Member) (attributes : List MemberAttr) → code_of (record m { attributes = attributes }) ≡ None → map bare_attribute attributes ≡ attributes
bare_again m [] none = refl
bare_again m (attribute.Coded name code ∷ rest) none = absurd (none-some code (sym none))
bare_again m (attribute.Constant name value ∷ rest) none = λ k. attribute.Constant name value ∷ bare_again m rest none k
bare_again m (attribute.Other raw ∷ rest) none = λ k. attribute.Other raw ∷ bare_again m rest none k

woven_none : (calls : Calls) (plan : ChainPlan) (m : Member) (attributes : List MemberAttr) → code_of (record m { attributes = attributes }) ≡ None
    → map (attribute_by calls plan) attributes ≡ attributes
woven_none calls plan m [] none = refl
woven_none calls plan m (attribute.Coded name code ∷ rest) none = absurd (none-some code (sym none))
woven_none calls plan m (attribute.Constant name value ∷ rest) none = λ k. attribute.Constant name value ∷ woven_none calls plan m rest none k
woven_none calls plan m (attribute.Other raw ∷ rest) none = λ k. attribute.Other raw ∷ woven_none calls plan m rest none k

woven_codes : (calls : Calls) (plan : ChainPlan) (m : Member) (attributes : List MemberAttr)
    → code_of (record m { attributes = map (attribute_by calls plan) attributes })
    ≡ option_map (λ (code : Code). code_by calls code plan) (code_of (record m { attributes = attributes }))
woven_codes calls plan m [] = refl
woven_codes calls plan m (attribute.Coded name code ∷ rest) = refl
woven_codes calls plan m (attribute.Constant name value ∷ rest) = woven_codes calls plan m rest
woven_codes calls plan m (attribute.Other raw ∷ rest) = woven_codes calls plan m rest

-- ---- one method

-- it has the code that it has to have
planned_code : (calls : Calls) (d : Planned) (m : Member) → is_low d m ≡ true → IsShortEnough d
    → IsAsPlanned calls d (code_of m) (code_of (method_by calls d m))
planned_code calls planned.Same m low short = refl
planned_code calls (planned.Woven plan) m low short = (low, woven_codes calls plan m m.attributes)
planned_code calls (planned.TooLong bytes chains) m low short = absurd short

pub low_planned : (calls : Calls) (d : Planned) (m v : Member) → IsAsPlanned calls d (code_of m) (code_of v) → is_low d m ≡ true
low_planned calls planned.Same m v is = refl
low_planned calls (planned.Woven plan) m v is = is.0
low_planned calls (planned.TooLong bytes chains) m v is = absurd is

module _ (new_interface old_interface : Bool) (new_entries old_entries : List Entry) (m v : Member) (old_valid : MethodIsValid old_interface old_entries m)
    (new_valid : MethodIsValid new_interface new_entries v) (bare : bare_method v ≡ bare_method m) where
  attributes_bare : map bare_attribute v.attributes ≡ map bare_attribute m.attributes
  attributes_bare = ap (λ (d : Member). d.attributes) bare

  -- with these attributes
  with_those : (attributes : List MemberAttr) → v.attributes ≡ attributes → v ≡ record m { attributes = attributes }
  with_those attributes same = λ k. record { flags = (bare k).flags; name = (bare k).name; descriptor = (bare k).descriptor; attributes = same k }

  own_code : (code : Code) → code_of v ≡ Some code → v.attributes ≡ map (with_code code) (map bare_attribute m.attributes)
  own_code code is =
      sym (own_again code v.attributes (codes_own new_interface new_entries v code new_valid is)) ∙ ap (map (with_code code)) attributes_bare

  no_code : code_of v ≡ None → v.attributes ≡ map bare_attribute m.attributes
  no_code none = sym (bare_again v v.attributes none) ∙ attributes_bare

  same_code : (o : Option Code) → code_of m ≡ o → code_of v ≡ code_of m → v ≡ m
  same_code None is same = with_those m.attributes (no_code (same ∙ is) ∙ bare_again m m.attributes is)
  same_code (Some code) is same =
      with_those m.attributes
      (own_code code (same ∙ is) ∙ own_again code m.attributes (codes_own old_interface old_entries m code old_valid is))

  woven_member : (calls : Calls) (plan : ChainPlan) (o : Option Code) → code_of m ≡ o
      → code_of v ≡ option_map (λ (code : Code). code_by calls code plan) (code_of m) → v ≡ method_by calls (planned.Woven plan) m
  woven_member calls plan None is same =
      with_those (map (attribute_by calls plan) m.attributes)
      (no_code (same ∙ ap (option_map (λ (code : Code). code_by calls code plan)) is) ∙ bare_again m m.attributes is
      ∙ sym (woven_none calls plan m m.attributes is))
  woven_member calls plan (Some code) is same =
      with_those (map (attribute_by calls plan) m.attributes)
      (own_code (code_by calls code plan) (same ∙ ap (option_map (λ (code : Code). code_by calls code plan)) is)
      ∙ woven_again calls plan code m.attributes (codes_own old_interface old_entries m code old_valid is))

  pub member_is : (calls : Calls) (d : Planned) → IsAsPlanned calls d (code_of m) (code_of v) → v ≡ method_by calls d m
  member_is calls planned.Same is = same_code (code_of m) refl is
  member_is calls (planned.Woven plan) is = woven_member calls plan (code_of m) refl is.1
  member_is calls (planned.TooLong bytes chains) is = absurd is

-- ---- all methods of a class

stays_here : (d : Planned) → is_changed d ≡ false → d ≡ planned.Same
stays_here planned.Same same = refl
stays_here (planned.Woven plan) same = absurd (false≢true (sym same))
stays_here (planned.TooLong bytes chains) same = absurd (false≢true (sym same))

pub stays_at : (done : List Planned) → changes_by done ≡ false → (k : ℕ) → planned_at done k ≡ planned.Same
stays_at [] still k = refl
stays_at (d ∷ done) still zero = stays_here d (or_parts (is_changed d) (changes_by done) still).0
stays_at (d ∷ done) still (suc k) = stays_at done (or_parts (is_changed d) (changes_by done) still).1 k

abbrev pub AreAsPlanned : Calls → List Planned → (old new : List Member) → Type 0
AreAsPlanned calls done old new = (k : ℕ) → k < length old → IsAsPlannedAt calls done old new k

module _ (calls : Calls) where
  later : (d : Planned) (done : List Planned) (m v : Member) (old new : List Member) → AreAsPlanned calls (d ∷ done) (m ∷ old) (v ∷ new)
      → AreAsPlanned calls done old new
  later d done m v old new are = λ k inside. are (suc k) (omega (arith, inside))

  pub low_all : (done : List Planned) (old new : List Member) → length done ≡ length old → length new ≡ length old → AreAsPlanned calls done old new
      → are_low done old ≡ true
  low_all [] old new count as_many are = refl
  low_all (d ∷ done) [] new count as_many are = refl
  low_all (d ∷ done) (m ∷ old) [] count as_many are = absurd (let none : 0 ≡ suc (length old) = as_many in omega (arith, none))
  low_all (d ∷ done) (m ∷ old) (v ∷ new) count as_many are =
      and_from (is_low d m) (are_low done old) (low_planned calls d m v (are 0 (omega arith) m v refl refl))
      (low_all done old new (let n : suc (length done) ≡ suc (length old) = count in omega (arith, n))
      (let n : suc (length new) ≡ suc (length old) = as_many in omega (arith, n)) (later d done m v old new are))

  module _ (new_interface old_interface : Bool) (new_entries old_entries : List Entry) where
    pub members_are : (done : List Planned) (old new : List Member) → length done ≡ length old → AllByRecursion (MethodIsValid old_interface old_entries) old
        → AllByRecursion (MethodIsValid new_interface new_entries) new → map bare_method new ≡ map bare_method old → AreAsPlanned calls done old new
        → new ≡ methods_by calls done old
    members_are [] [] [] count old_valid new_valid bare are = refl
    members_are [] [] (v ∷ new) count old_valid new_valid bare are = absurd cc
    members_are [] (m ∷ old) new count old_valid new_valid bare are = absurd (let none : 0 ≡ suc (length old) = count in omega (arith, none))
    members_are (d ∷ done) [] new count old_valid new_valid bare are = absurd (let none : suc (length done) ≡ 0 = count in omega (arith, none))
    members_are (d ∷ done) (m ∷ old) [] count old_valid new_valid bare are = absurd cc
    members_are (d ∷ done) (m ∷ old) (v ∷ new) count old_valid new_valid bare are =
        let here = member_is new_interface old_interface new_entries old_entries m v old_valid.0 new_valid.0
        (same_head (bare_method v) (bare_method m) (map bare_method new) (map bare_method old) bare) calls d (are 0 (omega arith) m v refl refl) in
        let rest = members_are done old new (let n : suc (length done) ≡ suc (length old) = count in omega (arith, n)) old_valid.1 new_valid.1
        (same_tail (bare_method v) (bare_method m) (map bare_method new) (map bare_method old) bare) (later d done m v old new are) in
        λ k. here k ∷ rest k

  -- where they are what they have to be, each has the code that it has to have
  pub woven_each : (done : List Planned) (old : List Member) → AllByRecursion IsShortEnough done → are_low done old ≡ true → length done ≡ length old
      → AreAsPlanned calls done old (methods_by calls done old)
  woven_each [] [] short low count k inside = absurd (omega (arith, inside))
  woven_each [] (m ∷ old) short low count k inside = absurd (let none : 0 ≡ suc (length old) = count in omega (arith, none))
  woven_each (d ∷ done) [] short low count k inside = absurd (omega (arith, inside))
  woven_each (d ∷ done) (m ∷ old) short low count zero inside = λ own new own_is new_is.
      let lows = and_parts (is_low d m) (are_low done old) low in
      subst (λ (q : Member × Member). IsAsPlanned calls d (code_of q.0) (code_of q.1))
      (λ k. (same_Some m own own_is k, same_Some (method_by calls d m) new new_is k)) (planned_code calls d m lows.0 short.0)
  woven_each (d ∷ done) (m ∷ old) short low count (suc k) inside =
      woven_each done old short.1 (and_parts (is_low d m) (are_low done old) low).1
      (let n : suc (length done) ≡ suc (length old) = count in omega (arith, n)) k (omega (arith, inside))

  pub same_each : (done : List Planned) (old : List Member) → changes_by done ≡ false → AreAsPlanned calls done old old
  same_each done old still k inside = λ own new own_is new_is.
      subst (λ (d : Planned). IsAsPlanned calls d (code_of own) (code_of new)) (sym (stays_at done still k))
      (ap code_of (same_Some new own (sym new_is ∙ own_is)))

-- ---- in the loop over methods

module _ (calls : Calls) (done : List Planned) (old : List Member) (place : ℕ) (d : Planned) (m : Member) (listed : place < length done)
    (within : place < length old) (d_is : d ≡ get_or done place d) (m_is : m ≡ get_or old place m) where
  planned_is : planned_at done place ≡ d
  planned_is = get_or_from_slice_get done place d planned.Same (slice_get_read done (length done) place d refl listed d_is)

  own_is : slice_get old place ≡ Some m
  own_is = slice_get_read old (length old) place m refl within m_is

  pub may_here : MayDoEach calls done old → is_low d m ≡ true → MayDo calls d m
  may_here may low =
      subst (λ (p : Planned). MayDo calls p m) planned_is (may place m own_is (subst (λ (p : Planned). is_low p m ≡ true) (sym planned_is) low))

  module _ (new : List Member) (v : Member) (inside : place < length new) (v_is : v ≡ get_or new place v) where
    pub planned_here : IsAsPlanned calls d (code_of m) (code_of v) → IsAsPlannedAt calls done old new place
    planned_here well own other own_found other_found =
        let same_old : m ≡ own = same_Some m own (sym own_is ∙ own_found) in
        let same_new : v ≡ other = same_Some v other (sym (slice_get_read new (length new) place v refl inside v_is) ∙ other_found) in
        subst (λ (q : Planned × (Member × Member)). IsAsPlanned calls q.0 (code_of q.1.0) (code_of q.1.1))
        (λ k. (sym planned_is k, (same_old k, same_new k))) well

    pub unplanned_here : (r : Bool) → r ≡ false → (IsAsPlanned calls d (code_of m) (code_of v) → r ≡ true) → (own other : Member)
        → slice_get old place ≡ Some own → slice_get new place ≡ Some other → IsAsPlanned calls (planned_at done place) (code_of own) (code_of other) → ⊥
    unplanned_here r fails decides own other own_found other_found well =
        let same_old : m ≡ own = same_Some m own (sym own_is ∙ own_found) in
        let same_new : v ≡ other = same_Some v other (sym (slice_get_read new (length new) place v refl inside v_is) ∙ other_found) in
        false≢true (sym fails ∙ decides
        (subst (λ (q : Planned × (Member × Member)). IsAsPlanned calls q.0 (code_of q.1.0) (code_of q.1.1))
        (λ k. (planned_is k, (sym same_old k, sym same_new k))) well))

pub planned_more : (calls : Calls) (done : List Planned) (old new : List Member) (place : ℕ) → ((k : ℕ) → k < place → IsAsPlannedAt calls done old new k)
    → IsAsPlannedAt calls done old new place → (k : ℕ) → k < place + 1 → IsAsPlannedAt calls done old new k
planned_more calls done old new place so_far now k inside = ⊎_elim
    (λ (earlier : k < place). so_far k earlier)
    (λ (last : place ≤ k). let same : place ≡ k = omega (arith, last, inside) in subst (IsAsPlannedAt calls done old new) same now)
    (cases_lt k place)

each_short : (new : List Member) → AllByRecursion HasShortCode new → (place : ℕ) (v : Member) → slice_get new place ≡ Some v → HasShortCode v
each_short [] short place v is = absurd (none-some v is)
each_short (n ∷ new) short zero v is = subst HasShortCode (same_Some n v is) short.0
each_short (n ∷ new) short (suc place) v is = each_short new short.1 place v is

pub short_here : (new : List Member) (place : ℕ) (v : Member) → place < length new → v ≡ get_or new place v → AllByRecursion HasShortCode new → HasShortCode v
short_here new place v inside v_is short = each_short new short place v (slice_get_read new (length new) place v refl inside v_is)

-- a code that would be too long is none that there may be
pub never_long_code : (calls : Calls) (plan : ChainPlan) (code : Code) (v : Member) → HasShortCode v
    → MAX_CODE_BYTES < laid_length code.items (items_by calls code plan) → code_of v ≡ Some (code_by calls code plan) → ⊥
unfolding laid_of laid_length
never_long_code calls plan code v short long is =
    let few : laid_length code.items (items_by calls code plan) ≤ MAX_CODE_BYTES =
    subst (λ (o : Option Code). IfSome o (λ (c : Code). c.length ≤ MAX_CODE_BYTES)) is short in
    omega (arith, few, long)

-- ---- the code of a method that may be woven

may_first : (calls : Calls) (plan : ChainPlan) (m : Member) (attributes : List MemberAttr) (code : Code) → AllByRecursion (MayWeave calls plan) attributes
    → code_of (record m { attributes = attributes }) ≡ Some code → MayBeWoven calls code plan
may_first calls plan m [] code may is = absurd (none-some code is)
may_first calls plan m (attribute.Coded name own ∷ rest) code may is = subst (λ (c : Code). MayBeWoven calls c plan) (same_Some own code is) may.0
may_first calls plan m (attribute.Constant name value ∷ rest) code may is = may_first calls plan m rest code may.1 is
may_first calls plan m (attribute.Other raw ∷ rest) code may is = may_first calls plan m rest code may.1 is

pub may_woven : (calls : Calls) (d : Planned) (plan : ChainPlan) (m : Member) (code : Code) → d ≡ planned.Woven plan → code_of m ≡ Some code
    → (is_low d m ≡ true → MayDo calls d m) → is_low_code code plan.plan ≡ true → MayBeWoven calls code plan
may_woven calls d plan m code d_is is may low =
    may_first calls plan m m.attributes code
    (subst (λ (p : Planned). MayDo calls p m) d_is (may (ap (λ (p : Planned). is_low p m) d_is ∙ ap (is_low_in plan.plan) is ∙ low))) is
