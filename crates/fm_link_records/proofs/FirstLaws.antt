-- What fields hold first is what their values are resolved to.
use Rattle.std.proofs.Common.{◌≡◌, refl, sym, ◌∙◌, ap, subst, ℕ, zero, suc, ◌+◌, ◌<◌, ◌≤◌, ◌||◌, ◌⊎◌, inl, inr, Bool, true, false, cond, List, [], ◌∷◌, ◌++◌, length, map, replicate, get_or, nat_eq, Option, Some, None, slice_get, zero-add, arith}
use Rattle.std.specs.List.{AllByRecursion, filter_map, flat_map}
use Rattle.std.specs.Option.{option_and_then}
use Rattle.std.proofs.Math.ListN.{get_or-eq_default}
use Rattle.std.proofs.lemmas.Bool.{cases_lt, or_right}
use Rattle.std.proofs.lemmas.List.{get_or-map}
use Rattle.std.proofs.lemmas.List.FromFn.{get_or-map-range_with_len}
use Rattle.std.proofs.lemmas.Option.{get_or_from_slice_get, slice_get_within}
use Rattle.fm_code.specs.AccessFlags.{is_interface, is_static}
use Rattle.fm_code.specs.ConstantPool.{entry_at}
use Rattle.fm_code.specs.Members.{FieldAttrIsValid, FieldIsValid, IsValue}
use Rattle.fm_code.specs.Spells.{HasSpelling}
use Rattle.fm_code.specs.declared.class_file.ClassDef.{ClassDef}
use Rattle.fm_code.specs.declared.class_file.Member.{Member}
use Rattle.fm_code.specs.declared.class_file.MemberAttr.{MemberAttr}
use Rattle.fm_code.specs.declared.class_file.MemberAttr.TheVariants as attribute
use Rattle.fm_code.specs.declared.constant_pool.Entry.{Entry}
use Rattle.fm_code.specs.declared.constant_pool.Entry.TheVariants as entry
use Rattle.fm_link_names.specs.declared.given.GivenFile.{GivenFile}
use Rattle.fm_link_names.specs.inner.Files.{AreFiles, IsFile}
use Rattle.fm_world.proofs.TableLemmas.{fields_from-append}
use Rattle.fm_world.specs.BuiltIns.{built_in}
use Rattle.fm_world.specs.Chains.{is_among}
use Rattle.fm_world.specs.Declarations.{constant_at, declared_field, declared_from, first_constant, no_field, text_at}
use Rattle.fm_world.specs.Members.{OwnedField, fields_from, fields_of}
use Rattle.fm_world.specs.Numbers.{text_number}
use Rattle.fm_world.specs.Programs.{Outline, class_uses, classes_of, first_value, resolved_at, with_number}
use Rattle.fm_code.specs.Operands.{pool_index}
use Rattle.fm_world.specs.Uses.{caught_by, class_items, is_used, used_indices, values_of}
use Rattle.fm_world.specs.declared.declarations.Constant.{Constant}
use Rattle.fm_world.specs.declared.declarations.Constant.TheVariants as constant
use Rattle.fm_world.specs.declared.declarations.DeclaredClass.{DeclaredClass}
use Rattle.fm_world.specs.declared.uses.Use.{Use}
use Rattle.fm_world.specs.declared.uses.Use.TheVariants as resolved
use Rattle.fm_link_supers.proofs.Downwards.{among_head as among-itself, among_left, among_right}
use Rattle.fm_link_records.specs.inner.Assembled.{AreFirsts}
use Rattle.fm_link_records.specs.inner.Firsts.{first_by, first_use, firsts_told}
use Rattle.fm_link_records.proofs.TextLaws.{units_by}
use Rattle.fm_link_records.proofs.UseLaws.{resolved_by}

-- ---- the values of fields are used

values_used : (c : ClassDef) (n : ℕ) → is_among n (flat_map values_of c.fields) ≡ true → is_used c n ≡ true
unfolding used_indices
values_used c n h =
    let values = flat_map values_of c.fields in
    let operands = filter_map (λ item. pool_index item.insn) (class_items c) in
    let caught = flat_map caught_by c.methods in
    let rest = c.interfaces ++ values ++ operands ++ caught in
    or_right (nat_eq n c.this_class) (nat_eq n c.super_class || is_among n rest) (or_right (nat_eq n c.super_class) (is_among n rest)
    (among_left n (c.interfaces ++ values ++ operands) caught (among_left n (c.interfaces ++ values) operands (among_right n c.interfaces values
    h))))

-- each value of each of these fields is used
each_used : (c : ClassDef) (fields : List Member) → ((n : ℕ) → is_among n (flat_map values_of fields) ≡ true → is_used c n ≡ true)
    → AllByRecursion (λ m. (n : ℕ) → is_among n (values_of m) ≡ true → is_used c n ≡ true) fields
each_used c [] used = tt
each_used c (m ∷ fields) used = (
  λ n h. used n (among_left n (values_of m) (flat_map values_of fields) h),
  each_used c fields (λ n h. used n (among_right n (values_of m) (flat_map values_of fields) h)),
)

-- ---- one field

-- what an entry gives to a field
abbrev pub constant_by : List Entry → Entry → Option Constant
constant_by entries (entry.Integer value) = Some (constant.Int value)
constant_by entries (entry.Long value) = Some (constant.Long value)
constant_by entries (entry.Text units) = Some (constant.Text (text_at entries units))
constant_by entries e = None

-- the value of a field is resolved to what the field declares
value_is : (o : Outline) (entries : List Entry) (value : ℕ) (e : Entry) → entry_at entries value ≡ e → IsValue e
    → resolved_at o entries value ≡ first_value o (constant_at entries value)
value_is o entries value (entry.Integer v) is ok = rw is refl
value_is o entries value (entry.Long v) is ok = rw is refl
value_is o entries value (entry.Text t) is ok =
    ap (resolved_by o entries value) is
    ∙ ap (λ u. with_number resolved.OfText (option_and_then (text_number o.texts) u)) (ap (units_by entries) is)
    ∙ sym (ap (λ e. first_value o (constant_by entries e)) is)
value_is o entries value (entry.Float v) is ok = rw is refl
value_is o entries value (entry.Double v) is ok = rw is refl
value_is o entries value e is ok = absurd (ok refl)

-- what the class's uses have at the index of a value
value_at : (o : Outline) (c : ClassDef) (value : ℕ) → is_used c value ≡ true → IsValue (entry_at c.pool.entries value)
    → get_or (class_uses o c) value resolved.Unused ≡ first_value o (constant_at c.pool.entries value)
value_at o c value used ok = by (cases_lt value (length c.pool.entries)) where
  use_of : ℕ → Use
  use_of index = cond (is_used c index) (resolved_at o c.pool.entries index) resolved.Unused

  by : (value < length c.pool.entries) ⊎ (length c.pool.entries ≤ value)
      → get_or (class_uses o c) value resolved.Unused ≡ first_value o (constant_at c.pool.entries value)
  by (inl within) =
      get_or-map-range_with_len use_of 0 (length c.pool.entries) value value resolved.Unused within (zero-add value)
      ∙ ap (λ b. cond b (resolved_at o c.pool.entries value) resolved.Unused) used
      ∙ value_is o c.pool.entries value (entry_at c.pool.entries value) refl ok
  by (inr past) = let P : Entry → Type 0 = λ e. IsValue e in
      absurd (subst P (get_or-eq_default c.pool.entries entry.Second past) ok refl)

first_by-is : (o : Outline) (c : ClassDef) (m : Member) (attributes : List MemberAttr) → AllByRecursion (FieldAttrIsValid c.pool.entries) attributes
    → ((n : ℕ) → is_among n (values_of (record m { attributes = attributes })) ≡ true → is_used c n ≡ true)
    → first_by (class_uses o c) attributes ≡ first_value o (first_constant c.pool.entries attributes)
first_by-is o c m [] valid used = refl
first_by-is o c m (attribute.Constant name value ∷ attributes) valid used =
    value_at o c value (used value (among-itself value (values_of (record m { attributes = attributes })))) valid.0.1
first_by-is o c m (attribute.Coded name code ∷ attributes) valid used = absurd valid.0
first_by-is o c m (attribute.Other raw ∷ attributes) valid used = first_by-is o c m attributes valid.1 used

first-is : (o : Outline) (c : ClassDef) (m : Member) → AllByRecursion (FieldAttrIsValid c.pool.entries) m.attributes
    → ((n : ℕ) → is_among n (values_of m) ≡ true → is_used c n ≡ true)
    → first_use (class_uses o c) m ≡ first_value o (declared_field c.pool.entries m).value
first-is o c m valid used = by (is_static m.flags) where
  by : (b : Bool) → cond b (first_by (class_uses o c) m.attributes) resolved.Unused
      ≡ first_value o (cond b (first_constant c.pool.entries m.attributes) None)
  by true = first_by-is o c m m.attributes valid used
  by false = refl

-- ---- all fields

-- what each field holds first
Hold : Outline → List OwnedField → List Use → Type 0
Hold o [] [] = Unit {0}
Hold o [] (u ∷ us) = ⊥
Hold o (f ∷ fs) [] = ⊥
Hold o (f ∷ fs) (u ∷ us) = (u ≡ first_value o f.field.value) × Hold o fs us

Hold-append : (o : Outline) (fs gs : List OwnedField) (us vs : List Use) → Hold o fs us → Hold o gs vs → Hold o (fs ++ gs) (us ++ vs)
unfolding Hold
Hold-append o [] gs [] vs h k = k
Hold-append o [] gs (u ∷ us) vs h k = absurd h
Hold-append o (f ∷ fs) gs [] vs h k = absurd h
Hold-append o (f ∷ fs) gs (u ∷ us) vs h k = (h.0, Hold-append o fs gs us vs h.1 k)

Hold-members : (o : Outline) (c : ClassDef) (class : ℕ) (members : List Member)
    → AllByRecursion (FieldIsValid (is_interface c.flags) c.pool.entries) members
    → AllByRecursion (λ m. (n : ℕ) → is_among n (values_of m) ≡ true → is_used c n ≡ true) members
    → Hold o (map (λ f. record { class = class; field = f }) (map (declared_field c.pool.entries) members)) (map (first_use (class_uses o c)) members)
unfolding Hold
Hold-members o c class [] valid used = tt
Hold-members o c class (m ∷ members) valid used =
    (first-is o c m valid.0.attributes used.0, Hold-members o c class members valid.1 used.1)

Hold-files : (o : Outline) (texts : List (List ℕ)) (uses : List (List Use)) (class n : ℕ) (given : List ClassDef) (files : List GivenFile)
    → AllByRecursion HasSpelling given → length files ≡ length given
    → ((k : ℕ) (c : ClassDef) (file : GivenFile) → slice_get given k ≡ Some c → slice_get files k ≡ Some file → IsFile texts (n + k) c file)
    → ((k : ℕ) (c : ClassDef) → slice_get given k ≡ Some c → get_or uses (n + k) [] ≡ class_uses o c)
    → Hold o (fields_from class (declared_from n given)) (firsts_told uses n files)
unfolding Hold
Hold-files o texts uses class n [] [] spelled long each known = tt
Hold-files o texts uses class n [] (file ∷ files) spelled long each known = absurd (omega (arith, long))
Hold-files o texts uses class n (c ∷ given) [] spelled long each known = absurd (omega (arith, long))
Hold-files o texts uses class n (c ∷ given) (file ∷ files) spelled long each known =
    let zero_ : n + 0 ≡ n = omega arith in
    let is = each 0 c file refl refl in
    let here : map (first_use (class_uses o c)) c.fields ≡ map (first_use (get_or uses n [])) file.class.now.fields =
    ap (λ us. map (first_use us) c.fields) (sym (known 0 c refl) ∙ ap (λ k. get_or uses k []) zero_)
    ∙ ap (λ (d : ClassDef). map (first_use (get_or uses n [])) d.fields) (sym is.class_is) in
    Hold-append o (map (λ f. record { class = class; field = f }) (map (declared_field c.pool.entries) c.fields))
    (fields_from (class + 1) (declared_from (n + 1) given)) (map (first_use (get_or uses n [])) file.class.now.fields) (firsts_told uses (n + 1)
    files)
    (let P : List Use → Type 0 = λ us. Hold o (map (λ f. record { class = class; field = f }) (map (declared_field c.pool.entries) c.fields)) us in
    subst P here (Hold-members o c class c.fields spelled.0.1.fields (each_used c c.fields (values_used c))))
    (Hold-files o texts uses (class + 1) (n + 1) given files spelled.1 (let l = long in omega (arith, l))
    (λ k d other at there. let e : n + suc k ≡ n + 1 + k = omega arith in
    let P : ℕ → Type 0 = λ j. IsFile texts j d other in subst P e (each (suc k) d other at there))
    (λ k d at. let e : n + suc k ≡ n + 1 + k = omega arith in ap (λ j. get_or uses j []) (sym e) ∙ known (suc k) d at))

Hold-at : (o : Outline) (fs : List OwnedField) (us : List Use) → Hold o fs us → (k : ℕ) → k < length fs
    → get_or us k resolved.Unused ≡ first_value o (get_or fs k (record { class = 0; field = no_field })).field.value
unfolding Hold
Hold-at o [] us h k within = absurd (omega (arith, within))
Hold-at o (f ∷ fs) [] h k within = absurd h
Hold-at o (f ∷ fs) (u ∷ us) h zero within = h.0
Hold-at o (f ∷ fs) (u ∷ us) h (suc k) within = Hold-at o fs us h.1 k (omega (arith, within))

-- the fields of built-in classes hold no first value that is recorded
Hold-built_in : (o : Outline) → Hold o (fields_of built_in) (replicate 2 resolved.Unused)
unfolding Hold fields_of built_in
Hold-built_in o = (refl, (refl, tt))

pub AreFirsts-all : (o : Outline) (texts : List (List ℕ)) (uses : List (List Use)) (given : List ClassDef) (files : List GivenFile)
    → o.classes ≡ classes_of given → AllByRecursion HasSpelling given → AreFiles texts given files → uses ≡ map (class_uses o) given
    → AreFirsts o (replicate 2 resolved.Unused ++ firsts_told uses 0 files)
unfolding classes_of fields_of
AreFirsts-all o texts uses given files classes spelled are uses_are k within =
    let P : List DeclaredClass → Type 0 = λ cs. Hold o (fields_from 0 cs) (replicate 2 resolved.Unused ++ firsts_told uses 0 files) in
    Hold-at o (fields_of o.classes) (replicate 2 resolved.Unused ++ firsts_told uses 0 files)
    (subst P (sym classes) (subst (λ fs. Hold o fs (replicate 2 resolved.Unused ++ firsts_told uses 0 files))
    (sym (fields_from-append 0 built_in (declared_from 0 given)))
    (Hold-append o (fields_of built_in) (fields_from (0 + length built_in) (declared_from 0 given)) (replicate 2 resolved.Unused) (firsts_told uses 0
    files)
    (Hold-built_in o)
    (Hold-files o texts uses (0 + length built_in) 0 given files spelled are.count
    (λ j c file at there. let e : j ≡ 0 + j = omega arith in let Q : ℕ → Type 0 = λ i. IsFile texts i c file in subst Q e (are.each j c file at
    there))
    (λ j c at. let e : 0 + j ≡ j = omega arith in ap (λ i. get_or uses i []) e ∙ ap (λ us. get_or us j []) uses_are
    ∙ get_or-map (class_uses o) given j c [] (slice_get_within given j c at) ∙ ap (class_uses o) (get_or_from_slice_get given j c c at))))))
    k within
