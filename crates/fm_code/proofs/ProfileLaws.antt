-- A class that isn't accepted fails first at one place alone.
use Rattle.std.proofs.Common.{◌≡◌, ℕ, Bool, zero, suc, inl, inr, List, [], ◌∷◌, take, Option, Some, None, refl, sym, ap, subst, ◌∙◌, arith}
use Rattle.std.specs.Prelude.{IsSomeAnd, IfSome, slice_get}
use Rattle.std.specs.List.{AllByRecursion}
use Rattle.fm_code.specs.AccessFlags.{is_interface}
use Rattle.fm_code.specs.Members.{code_of}
use Rattle.fm_code.specs.Profile.{MethodIsWithin, IsWithinLimits, CodeIsWithin, IsFirstOver, IsFirstOverLimit, ItemIsSupported, MethodIsSupported, FieldIsSupported, IsSupported, IsFirstUnsupportedItem, FailsAt, IsFirstUnsupportedField, IsFirstUnsupportedMethod, IsFirstUnsupportedEntry, IsFirstUnsupported, EntryIsSupported}
use Rattle.fm_code.specs.declared.constant_pool.Entry.{Entry}
use Rattle.fm_code.specs.declared.class_file.ClassDef.{ClassDef}
use Rattle.fm_code.specs.declared.class_file.Member.{Member}
use Rattle.fm_code.specs.declared.code_array.Code.{Code}
use Rattle.fm_code.specs.declared.code_array.Item.{Item}
use Rattle.fm_code.specs.declared.profile.What.{What}
use Rattle.fm_code.specs.declared.profile.What.TheVariants as what
use Rattle.fm_code.specs.declared.profile.OverLimit.{OverLimit}
use Rattle.fm_code.specs.declared.profile.Place.{Place}
use Rattle.fm_code.specs.declared.profile.Place.TheVariants as place
use Rattle.fm_code.specs.declared.profile.Unsupported.{Unsupported}

-- ---- the first element that fails

-- where some element fails, not all hold
not_all : {X : Type 0} (P Q : X → Type 0) → ((x : X) → Q x → ¬ P x) → (xs : List X) (i : ℕ) → IsSomeAnd (slice_get xs i) Q → ¬ AllByRecursion P xs
not_all P Q fails [] i there all = there
not_all P Q fails (x ∷ xs) zero there all = fails x there all.0
not_all P Q fails (x ∷ xs) (suc i) there all = not_all P Q fails xs i there all.1

-- the first that fails is one
same_index : {X : Type 0} (P Q R : X → Type 0) → ((x : X) → Q x → ¬ P x) → ((x : X) → R x → ¬ P x) → (xs : List X) (i j : ℕ) → AllByRecursion P (take i xs)
    → AllByRecursion P (take j xs) → IsSomeAnd (slice_get xs i) Q → IsSomeAnd (slice_get xs j) R → i ≡ j
same_index P Q R q r [] i j before_i before_j at_i at_j = absurd at_i
same_index P Q R q r (x ∷ xs) zero zero before_i before_j at_i at_j = refl
same_index P Q R q r (x ∷ xs) zero (suc j) before_i before_j at_i at_j = absurd (q x at_i before_j.0)
same_index P Q R q r (x ∷ xs) (suc i) zero before_i before_j at_i at_j = absurd (r x at_j before_i.0)
same_index P Q R q r (x ∷ xs) (suc i) (suc j) before_i before_j at_i at_j = ap suc (same_index P Q R q r xs i j before_i.1 before_j.1 at_i at_j)

-- ---- limits

pub record SameOver (a b : What) (m n : ℕ) : Type 0 where
  pub kind : a ≡ b
  pub count : m ≡ n

same_over : (code : Code) (a b : What) (m n : ℕ) → IsFirstOver a m code → IsFirstOver b n code → SameOver a b m n
same_over code what.Stack what.Stack m n p q = record { kind = refl; count = p.count_is ∙ sym q.count_is }
same_over code what.Locals what.Locals m n p q = record { kind = refl; count = p.count_is ∙ sym q.count_is }
same_over code what.Handlers what.Handlers m n p q = record { kind = refl; count = p.count_is ∙ sym q.count_is }
same_over code what.Stack what.Locals m n p q = absurd (omega (arith, p.above, p.count_is, q.before))
same_over code what.Stack what.Handlers m n p q = absurd (omega (arith, p.above, p.count_is, q.before.0))
same_over code what.Locals what.Stack m n p q = absurd (omega (arith, q.above, q.count_is, p.before))
same_over code what.Locals what.Handlers m n p q = absurd (omega (arith, p.above, p.count_is, q.before.1))
same_over code what.Handlers what.Stack m n p q = absurd (omega (arith, q.above, q.count_is, p.before.0))
same_over code what.Handlers what.Locals m n p q = absurd (omega (arith, q.above, q.count_is, p.before.1))

code_over : (code : Code) (kind : What) (count : ℕ) → IsFirstOver kind count code → ¬ CodeIsWithin code
code_over code what.Stack count over within = omega (arith, over.above, over.count_is, within.stack)
code_over code what.Locals count over within = omega (arith, over.above, over.count_is, within.locals)
code_over code what.Handlers count over within = omega (arith, over.above, over.count_is, within.handlers)

abbrev IsOver : What → ℕ → Member → Type 0
IsOver kind count m = IsSomeAnd (code_of m) (IsFirstOver kind count)

some_over : (o : Option Code) (kind : What) (count : ℕ) → IsSomeAnd o (IsFirstOver kind count) → ¬ IfSome o CodeIsWithin
some_over None kind count over within = over
some_over (Some code) kind count over within = code_over code kind count over within

method_over : (kind : What) (count : ℕ) (m : Member) → IsOver kind count m → ¬ MethodIsWithin m
method_over kind count m over within = some_over (code_of m) kind count over within

pub over_limit : (c : ClassDef) (over : OverLimit) → IsFirstOverLimit c over → ¬ IsWithinLimits c
over_limit c over first within = not_all MethodIsWithin (IsOver over.what over.count) (method_over over.what over.count) c.methods over.method first.there within

same_over_some : (o : Option Code) (a b : What) (m n : ℕ) → IsSomeAnd o (IsFirstOver a m) → IsSomeAnd o (IsFirstOver b n) → SameOver a b m n
same_over_some None a b m n p q = absurd p
same_over_some (Some code) a b m n p q = same_over code a b m n p q

same_over_method : (o : Option Member) (a b : What) (m n : ℕ) → IsSomeAnd o (IsOver a m) → IsSomeAnd o (IsOver b n) → SameOver a b m n
same_over_method None a b m n p q = absurd p
same_over_method (Some x) a b m n p q = same_over_some (code_of x) a b m n p q

pub one_over_limit : (c : ClassDef) (a b : OverLimit) → IsFirstOverLimit c a → IsFirstOverLimit c b → a ≡ b
one_over_limit c a b p q =
    let method = same_index MethodIsWithin (IsOver a.what a.count) (IsOver b.what b.count) (method_over a.what a.count) (method_over b.what b.count) c.methods a.method b.method p.before q.before p.there q.there in
    let there : IsSomeAnd (slice_get c.methods a.method) (IsOver b.what b.count) = subst (λ (k : ℕ). IsSomeAnd (slice_get c.methods k) (IsOver b.what b.count)) (sym method) q.there in
    let same = same_over_method (slice_get c.methods a.method) a.what b.what a.count b.count p.there there in
    λ k. record { what = same.kind k; method = method k; count = same.count k }

-- ---- what is supported

abbrev IsFailing : List Entry → ℕ → Item → Type 0
IsFailing entries offset item = (¬ ItemIsSupported entries item) × (offset ≡ item.offset)

items_fail : (entries : List Entry) (offset : ℕ) (code : Code) → IsFirstUnsupportedItem entries offset code → ¬ AllByRecursion (ItemIsSupported entries) code.items
items_fail entries offset code first all = not_all (ItemIsSupported entries) (IsFailing entries offset) (λ item h. h.0) code.items first.index first.there all

same_offset_item : (entries : List Entry) (m n : ℕ) (o : Option Item) → IsSomeAnd o (IsFailing entries m) → IsSomeAnd o (IsFailing entries n) → m ≡ n
same_offset_item entries m n None p q = absurd p
same_offset_item entries m n (Some item) p q = p.1 ∙ sym q.1

same_offset_code : (entries : List Entry) (m n : ℕ) (code : Code) → IsFirstUnsupportedItem entries m code → IsFirstUnsupportedItem entries n code → m ≡ n
same_offset_code entries m n code p q =
    let index = same_index (ItemIsSupported entries) (IsFailing entries m) (IsFailing entries n) (λ item h. h.0) (λ item h. h.0) code.items p.index q.index p.before q.before p.there q.there in
    same_offset_item entries m n (slice_get code.items p.index) p.there (subst (λ (k : ℕ). IsSomeAnd (slice_get code.items k) (IsFailing entries n)) (sym index) q.there)

same_offset_some : (entries : List Entry) (m n : ℕ) (o : Option Code) → IsSomeAnd o (IsFirstUnsupportedItem entries m) → IsSomeAnd o (IsFirstUnsupportedItem entries n) → m ≡ n
same_offset_some entries m n None p q = absurd p
same_offset_some entries m n (Some code) p q = same_offset_code entries m n code p q

some_fails : (entries : List Entry) (offset : ℕ) (o : Option Code) → IsSomeAnd o (IsFirstUnsupportedItem entries offset) → ¬ IfSome o (λ code. AllByRecursion (ItemIsSupported entries) code.items)
some_fails entries offset None first all = first
some_fails entries offset (Some code) first all = items_fail entries offset code first all

method_fails : (in_interface : Bool) (entries : List Entry) (offset : ℕ) (m : Member) → FailsAt in_interface entries offset m → ¬ MethodIsSupported in_interface entries m
method_fails in_interface entries offset m (inl head) supported = head.0 supported.head
method_fails in_interface entries offset m (inr items) supported = some_fails entries offset (code_of m) items.1 supported.items

same_offset : (in_interface : Bool) (entries : List Entry) (m n : ℕ) (x : Member) → FailsAt in_interface entries m x → FailsAt in_interface entries n x → m ≡ n
same_offset in_interface entries m n x (inl p) (inl q) = p.1 ∙ sym q.1
same_offset in_interface entries m n x (inl p) (inr q) = absurd (p.0 q.0)
same_offset in_interface entries m n x (inr p) (inl q) = absurd (q.0 p.0)
same_offset in_interface entries m n x (inr p) (inr q) = same_offset_some entries m n (code_of x) p.1 q.1

same_offset_method : (in_interface : Bool) (entries : List Entry) (m n : ℕ) (o : Option Member) → IsSomeAnd o (FailsAt in_interface entries m) → IsSomeAnd o (FailsAt in_interface entries n) → m ≡ n
same_offset_method in_interface entries m n None p q = absurd p
same_offset_method in_interface entries m n (Some x) p q = same_offset in_interface entries m n x p q

fields_fail : (c : ClassDef) (index : ℕ) → IsFirstUnsupportedField c index → ¬ AllByRecursion (FieldIsSupported c.pool.entries) c.fields
fields_fail c index first all = not_all (FieldIsSupported c.pool.entries) (λ m. ¬ FieldIsSupported c.pool.entries m) (λ m h. h) c.fields index first.there all

methods_fail : (c : ClassDef) (index offset : ℕ) → IsFirstUnsupportedMethod c index offset → ¬ AllByRecursion (MethodIsSupported (is_interface c.flags) c.pool.entries) c.methods
methods_fail c index offset first all =
    let kind = is_interface c.flags in
    let entries = c.pool.entries in
    not_all (MethodIsSupported kind entries) (FailsAt kind entries offset) (method_fails kind entries offset) c.methods index first.there all

entries_fail : (c : ClassDef) (index : ℕ) → IsFirstUnsupportedEntry c index → ¬ AllByRecursion EntryIsSupported c.pool.entries
entries_fail c index first all = not_all EntryIsSupported (λ e. ¬ EntryIsSupported e) (λ e h. h) c.pool.entries index first.there all

unsupported_at : (c : ClassDef) (p : Place) (offset : ℕ) → IsFirstUnsupported c (record { place = p; offset = offset }) → ¬ IsSupported c
unsupported_at c place.OfClass offset first supported = first.0 supported.name
unsupported_at c (place.OfField index) offset first supported = fields_fail c index first.0 supported.fields
unsupported_at c (place.OfMethod index) offset first supported = methods_fail c index offset first supported.methods
unsupported_at c place.OfPool offset first supported = entries_fail c offset first supported.pool

pub unsupported : (c : ClassDef) (u : Unsupported) → IsFirstUnsupported c u → ¬ IsSupported c
unsupported c u first = unsupported_at c u.place u.offset first

abbrev made : Place → ℕ → Unsupported
made p offset = record { place = p; offset = offset }

one_place : (c : ClassDef) (p q : Place) (m n : ℕ) → IsFirstUnsupported c (made p m) → IsFirstUnsupported c (made q n) → made p m ≡ made q n
one_place c place.OfClass place.OfClass m n first second = ap (made place.OfClass) (first.1 ∙ sym second.1)
one_place c place.OfClass (place.OfField j) m n first second = absurd (first.0 second.0.name)
one_place c place.OfClass (place.OfMethod j) m n first second = absurd (first.0 second.name)
one_place c place.OfClass place.OfPool m n first second = absurd (first.0 second.name)
one_place c place.OfPool place.OfClass m n first second = absurd (second.0 first.name)
one_place c (place.OfField i) place.OfPool m n first second = absurd (fields_fail c i first.0 second.fields)
one_place c place.OfPool (place.OfField j) m n first second = absurd (fields_fail c j second.0 first.fields)
one_place c (place.OfMethod i) place.OfPool m n first second = absurd (methods_fail c i m first second.methods)
one_place c place.OfPool (place.OfMethod j) m n first second = absurd (methods_fail c j n second first.methods)
one_place c place.OfPool place.OfPool m n first second =
    let fails : Entry → Type 0 = λ e. ¬ EntryIsSupported e in
    let index = same_index EntryIsSupported fails fails (λ e h. h) (λ e h. h) c.pool.entries m n first.before second.before first.there second.there in
    ap (made place.OfPool) index
one_place c (place.OfField i) place.OfClass m n first second = absurd (second.0 first.0.name)
one_place c (place.OfField i) (place.OfField j) m n first second =
    let index = same_index (FieldIsSupported c.pool.entries) (λ x. ¬ FieldIsSupported c.pool.entries x) (λ x. ¬ FieldIsSupported c.pool.entries x) (λ x h. h) (λ x h. h) c.fields i j first.0.before second.0.before first.0.there second.0.there in
    let offset = first.1 ∙ sym second.1 in
    λ k. made (place.OfField (index k)) (offset k)
one_place c (place.OfField i) (place.OfMethod j) m n first second = absurd (fields_fail c i first.0 second.fields)
one_place c (place.OfMethod i) place.OfClass m n first second = absurd (second.0 first.name)
one_place c (place.OfMethod i) (place.OfField j) m n first second = absurd (fields_fail c j second.0 first.fields)
one_place c (place.OfMethod i) (place.OfMethod j) m n first second =
    let kind = is_interface c.flags in
    let entries = c.pool.entries in
    let index = same_index (MethodIsSupported kind entries) (FailsAt kind entries m) (FailsAt kind entries n) (method_fails kind entries m) (method_fails kind entries n) c.methods i j first.before second.before first.there second.there in
    let there : IsSomeAnd (slice_get c.methods i) (FailsAt kind entries n) = subst (λ (k : ℕ). IsSomeAnd (slice_get c.methods k) (FailsAt kind entries n)) (sym index) second.there in
    let offset = same_offset_method kind entries m n (slice_get c.methods i) first.there there in
    λ k. made (place.OfMethod (index k)) (offset k)

pub one_unsupported : (c : ClassDef) (a b : Unsupported) → IsFirstUnsupported c a → IsFirstUnsupported c b → a ≡ b
one_unsupported c a b first second = one_place c a.place b.place a.offset b.offset first second
