-- A changed class has a spelling: its pool, its members and its codes meet the rules of a class file.
use Rattle.std.proofs.Common.{◌≡◌, ℕ, suc, ◌+◌, inl, inr, ⊎_elim, Bool, true, List, [], ◌∷◌, ◌++◌, length, map, cond, codes, Option, Some, None, IsSome, refl, sym, ap, subst, ◌∙◌, arith}
use Rattle.std.specs.Prelude.{count_by}
use Rattle.std.specs.List.{AllByRecursion}
use Rattle.std.proofs.lemmas.List.{length-map}
use Rattle.std.proofs.lemmas.List.Sums.{sum_by-cons}
use Rattle.fm_base.proofs.ListFacts.{AllByRecursion-weaker}
use Rattle.fm_base.specs.declared.limits.TheConstants.{MAX_FILE_BYTES}
use Rattle.fm_chain.specs.Chained.{has_chain}
use Rattle.fm_chain.specs.Chaining.{chained_attribute, chained_method, chained_methods, class_calls, class_has_chain, plan_has_chain}
use Rattle.fm_chain.specs.declared.calls.Calls.{Calls}
use Rattle.fm_code.specs.AccessFlags.{is_interface}
use Rattle.fm_code.specs.ClassBytes.{class_bytes}
use Rattle.fm_code.specs.CodeRules.{CodeAttrIsValid, CodeIsValid, HandlerIsValid}
use Rattle.fm_code.specs.ConstantPool.{class_name_at, utf8_at}
use Rattle.fm_code.specs.Fits.{MemberAttrFits, MemberFits}
use Rattle.fm_code.specs.Members.{AreDifferent, AreDistinct, FieldIsValid, is_coded, MethodAttrIsValid, MethodIsValid}
use Rattle.fm_code.specs.Operands.{OperandIsValid}
use Rattle.fm_code.specs.Spells.{HasSpelling}
use Rattle.fm_code.specs.declared.class_file.Member.{Member}
use Rattle.fm_code.specs.declared.class_file.MemberAttr.{MemberAttr}
use Rattle.fm_code.specs.declared.class_file.MemberAttr.TheVariants as attribute
use Rattle.fm_code.specs.declared.class_file.Raw.{Raw}
use Rattle.fm_code.specs.declared.code_array.Code.{Code}
use Rattle.fm_code.specs.declared.constant_pool.Entry.{Entry}
use Rattle.fm_place.specs.Insertions.{Insertions}
use Rattle.fm_place.specs.Rewriting.{Plans}
use Rattle.fm_pool.proofs.GrownPool.{and_kept, class_kept, text_kept, there_kept}
use Rattle.fm_law_spelled.proofs.CodeSpelled.{code_fits, code_valid}
use Rattle.fm_law_spelled.proofs.Growing.{first_may, grown_is, grows, MayChain, more_for, pool_spelled, rest_may}
use Rattle.fm_law_spelled.proofs.InsertedFits.{NamesCalls}
use Rattle.fm_law_spelled.proofs.KeptNames.{code_attribute_kept, field_valid_kept, handler_kept, operand_kept, some_of_such, such_kept, super_kept, text_back, text_same}
use Rattle.fm_law_spelled.proofs.WrittenSizes.{codes_short, HasShortCode}
use Rattle.fm_law_spelled.specs.Calling.{grown, Grows}
use Rattle.fm_law_spelled.specs.Changed.{AttributeCan, ChangedHaveSpellings, MethodCan, MethodsCan}

-- ---- methods

-- a rewritten attribute is code where the old one is
coded_same : (calls : Calls) (plan : Insertions) (attributes : List MemberAttr) → count_by is_coded (map (chained_attribute calls plan) attributes) ≡ count_by is_coded attributes
coded_same calls plan [] = refl
coded_same calls plan (a ∷ attributes) =
    sum_by-cons (λ x. cond (is_coded x) 1 0) (chained_attribute calls plan a) (map (chained_attribute calls plan) attributes)
    ∙ (λ k. cond (one a k) 1 0 + coded_same calls plan attributes k)
    ∙ sym (sum_by-cons (λ x. cond (is_coded x) 1 0) a attributes)
  where
    one : (b : MemberAttr) → is_coded (chained_attribute calls plan b) ≡ is_coded b
    one (attribute.Constant name value) = refl
    one (attribute.Coded name code) = refl
    one (attribute.Other raw) = refl

module _ (chains : Bool) (entries more : List Entry) (calls : Calls) (named : NamesCalls chains calls (entries ++ more)) where
  -- a code that isn't changed
  same_code : (code : Code) → CodeIsValid entries code → CodeIsValid (entries ++ more) code
  same_code code valid = record {
    not_empty = valid.not_empty;
    not_long = valid.not_long;
    measured = valid.measured;
    spelled = valid.spelled;
    locals = valid.locals;
    operands = AllByRecursion-weaker (OperandIsValid entries) (OperandIsValid (entries ++ more)) (operand_kept entries more) code.items valid.operands;
    handlers = AllByRecursion-weaker (HandlerIsValid entries (length code.items)) (HandlerIsValid (entries ++ more) (length code.items)) (handler_kept entries more (length code.items)) code.handlers valid.handlers;
    attributes = AllByRecursion-weaker (CodeAttrIsValid entries (length code.items)) (CodeAttrIsValid (entries ++ more) (length code.items)) (code_attribute_kept entries more (length code.items)) code.attributes valid.attributes;
  }

  same_attribute : (a : MemberAttr) → MethodAttrIsValid entries a → MethodAttrIsValid (entries ++ more) a
  same_attribute (attribute.Constant name value) valid = valid
  same_attribute (attribute.Coded name code) valid = (text_kept entries more name (codes "Code") valid.0, same_code code valid.1)
  same_attribute (attribute.Other raw) valid = such_kept entries more raw.name _ valid

  changed_attributes : (plan : Insertions) → (has_chain plan ≡ true → chains ≡ true) → (attributes : List MemberAttr)
      → AllByRecursion (AttributeCan calls plan) attributes → AllByRecursion (MethodAttrIsValid entries) attributes
      → AllByRecursion (MethodAttrIsValid (entries ++ more)) (map (chained_attribute calls plan) attributes)
  changed_attributes plan may [] can valid = tt
  changed_attributes plan may (attribute.Constant name value ∷ attributes) can valid = absurd valid.0
  changed_attributes plan may (attribute.Coded name code ∷ attributes) can valid = (
    (text_kept entries more name (codes "Code") valid.0.0, code_valid chains entries more calls named code plan may can.0 valid.0.1),
    changed_attributes plan may attributes can.1 valid.1,
  )
  changed_attributes plan may (attribute.Other raw ∷ attributes) can valid = (such_kept entries more raw.name _ valid.0, changed_attributes plan may attributes can.1 valid.1)

  -- a method with other attributes
  method_with : (in_interface : Bool) (m : Member) (attributes : List MemberAttr) → MethodIsValid in_interface entries m → AllByRecursion (MethodAttrIsValid (entries ++ more)) attributes
      → count_by is_coded attributes ≡ count_by is_coded m.attributes → MethodIsValid in_interface (entries ++ more) (record m { attributes = attributes })
  method_with in_interface m attributes valid new count = record {
    name = such_kept entries more m.name _ valid.name;
    descriptor = such_kept entries more m.descriptor _ valid.descriptor;
    attributes = new;
    coded = count ∙ valid.coded;
    abstract_alone = valid.abstract_alone;
    constructor = λ is.
        let was = valid.constructor (text_back entries more m.name (codes "<init>") (some_of_such entries more m.name _ valid.name) is) in
        record { returns_nothing = such_kept entries more m.descriptor _ was.returns_nothing; not_static = was.not_static; not_abstract = was.not_abstract };
    of_interface = λ within. ⊎_elim (λ abstract. inl abstract) (λ start. inr (text_kept entries more m.name (codes "<clinit>") start)) (valid.of_interface within);
  }

  method_valid : (in_interface : Bool) (plan : Option Insertions) (m : Member) → (plan_has_chain plan ≡ true → chains ≡ true) → MethodCan calls plan m
      → MethodIsValid in_interface entries m → MethodIsValid in_interface (entries ++ more) (chained_method calls plan m)
  method_valid in_interface None m may can valid =
      method_with in_interface m m.attributes valid (AllByRecursion-weaker (MethodAttrIsValid entries) (MethodAttrIsValid (entries ++ more)) same_attribute m.attributes valid.attributes) refl
  method_valid in_interface (Some plan) m may can valid =
      method_with in_interface m (map (chained_attribute calls plan) m.attributes) valid (changed_attributes plan may m.attributes can valid.attributes) (coded_same calls plan m.attributes)

  -- the methods of a class
  methods_valid : (in_interface : Bool) (plans : Plans) (first : ℕ) (methods : List Member) → MayChain chains plans first methods → MethodsCan plans calls first methods
      → AllByRecursion (MethodIsValid in_interface entries) methods
      → AllByRecursion (MethodIsValid in_interface (entries ++ more)) (chained_methods plans calls first methods)
  methods_valid in_interface plans first [] may can valid = tt
  methods_valid in_interface plans first (m ∷ methods) may can valid = (
    method_valid in_interface (plans first) m (first_may chains plans first m methods may) can.0 valid.0,
    methods_valid in_interface plans (first + 1) methods (rest_may chains plans first m methods may) can.1 valid.1,
  )

  -- ---- members that agree

  name_same : (plan : Option Insertions) (m : Member) → (chained_method calls plan m).name ≡ m.name
  name_same None m = refl
  name_same (Some plan) m = refl

  descriptor_same : (plan : Option Insertions) (m : Member) → (chained_method calls plan m).descriptor ≡ m.descriptor
  descriptor_same None m = refl
  descriptor_same (Some plan) m = refl

  -- the name and the descriptor of a member are texts
  abbrev HasTexts : Member → Type 0
  HasTexts m = IsSome (utf8_at entries m.name) × IsSome (utf8_at entries m.descriptor)

  -- two members with the names and descriptors of these differ still
  different_kept : (m n : Member) (k l : Member) → HasTexts m → HasTexts n → k.name ≡ m.name → k.descriptor ≡ m.descriptor → l.name ≡ n.name → l.descriptor ≡ n.descriptor
      → AreDifferent entries m n → AreDifferent (entries ++ more) k l
  different_kept m n k l texts others k_name k_descriptor l_name l_descriptor different (names, descriptors) =
      different (
        sym (text_same entries more m.name texts.0) ∙ sym (ap (utf8_at (entries ++ more)) k_name) ∙ names ∙ ap (utf8_at (entries ++ more)) l_name ∙ text_same entries more n.name others.0,
        sym (text_same entries more m.descriptor texts.1) ∙ sym (ap (utf8_at (entries ++ more)) k_descriptor) ∙ descriptors ∙ ap (utf8_at (entries ++ more)) l_descriptor ∙ text_same entries more n.descriptor others.1,
      )

  others_differ : (plans : Plans) (first : ℕ) (m k : Member) (methods : List Member) → HasTexts m → k.name ≡ m.name → k.descriptor ≡ m.descriptor → AllByRecursion HasTexts methods
      → AllByRecursion (AreDifferent entries m) methods → AllByRecursion (AreDifferent (entries ++ more) k) (chained_methods plans calls first methods)
  others_differ plans first m k [] texts name descriptor all different = tt
  others_differ plans first m k (n ∷ methods) texts name descriptor all different = (
    different_kept m n k (chained_method calls (plans first) n) texts all.0 name descriptor (name_same (plans first) n) (descriptor_same (plans first) n) different.0,
    others_differ plans (first + 1) m k methods texts name descriptor all.1 different.1,
  )

  methods_distinct : (plans : Plans) (first : ℕ) (methods : List Member) → AllByRecursion HasTexts methods → AreDistinct entries methods
      → AreDistinct (entries ++ more) (chained_methods plans calls first methods)
  methods_distinct plans first [] texts distinct = tt
  methods_distinct plans first (m ∷ methods) texts distinct = (
    others_differ plans (first + 1) m (chained_method calls (plans first) m) methods texts.0 (name_same (plans first) m) (descriptor_same (plans first) m) texts.1 distinct.0,
    methods_distinct plans (first + 1) methods texts.1 distinct.1,
  )

  fields_differ : (m : Member) (fields : List Member) → HasTexts m → AllByRecursion HasTexts fields → AllByRecursion (AreDifferent entries m) fields
      → AllByRecursion (AreDifferent (entries ++ more) m) fields
  fields_differ m [] texts all different = tt
  fields_differ m (n ∷ fields) texts all different = (different_kept m n m n texts all.0 refl refl refl refl different.0, fields_differ m fields texts all.1 different.1)

  fields_distinct : (fields : List Member) → AllByRecursion HasTexts fields → AreDistinct entries fields → AreDistinct (entries ++ more) fields
  fields_distinct [] texts distinct = tt
  fields_distinct (m ∷ fields) texts distinct = (fields_differ m fields texts.0 texts.1 distinct.0, fields_distinct fields texts.1 distinct.1)

  -- ---- numbers that fit

  attributes_fit : (plan : Insertions) → (has_chain plan ≡ true → chains ≡ true) → (attributes : List MemberAttr)
      → AllByRecursion (AttributeCan calls plan) attributes → AllByRecursion (MethodAttrIsValid entries) attributes
      → AllByRecursion (HasShortCode MAX_FILE_BYTES) attributes → AllByRecursion MemberAttrFits attributes → AllByRecursion MemberAttrFits (map (chained_attribute calls plan) attributes)
  attributes_fit plan may [] can valid short fit = tt
  attributes_fit plan may (attribute.Constant name value ∷ attributes) can valid short fit = absurd valid.0
  attributes_fit plan may (attribute.Coded name code ∷ attributes) can valid short fit = (
    (fit.0.0, code_fits chains entries more calls named code plan may can.0 valid.0.1 fit.0.1 short.0),
    attributes_fit plan may attributes can.1 valid.1 short.1 fit.1,
  )
  attributes_fit plan may (attribute.Other raw ∷ attributes) can valid short fit = (fit.0, attributes_fit plan may attributes can.1 valid.1 short.1 fit.1)

  method_fits : (plan : Option Insertions) (m : Member) → (plan_has_chain plan ≡ true → chains ≡ true) → MethodCan calls plan m
      → AllByRecursion (MethodAttrIsValid entries) m.attributes
      → AllByRecursion (HasShortCode MAX_FILE_BYTES) m.attributes → MemberFits m → MemberFits (chained_method calls plan m)
  method_fits None m may can valid short fits = fits
  method_fits (Some plan) m may can valid short fits = record {
    flags = fits.flags;
    name = fits.name;
    descriptor = fits.descriptor;
    attributes = record {
      count = let same = length-map m.attributes (chained_attribute calls plan) in let was = fits.attributes.count in omega (arith, same, was);
      each = attributes_fit plan may m.attributes can valid short fits.attributes.each;
    };
  }

  methods_fit : (in_interface : Bool) (plans : Plans) (first : ℕ) (methods : List Member) → MayChain chains plans first methods
      → MethodsCan plans calls first methods → AllByRecursion (MethodIsValid in_interface entries) methods
      → AllByRecursion (λ (m : Member). AllByRecursion (HasShortCode MAX_FILE_BYTES) m.attributes) methods → AllByRecursion MemberFits methods
      → AllByRecursion MemberFits (chained_methods plans calls first methods)
  methods_fit in_interface plans first [] may can valid short fit = tt
  methods_fit in_interface plans first (m ∷ methods) may can valid short fit = (
    method_fits (plans first) m (first_may chains plans first m methods may) can.0 valid.0.attributes short.0 fit.0,
    methods_fit in_interface plans (first + 1) methods (rest_may chains plans first m methods may) can.1 valid.1 short.1 fit.1,
  )

  count_same : (plans : Plans) (first : ℕ) (methods : List Member) → length (chained_methods plans calls first methods) ≡ length methods
  count_same plans first [] = refl
  count_same plans first (m ∷ methods) = ap suc (count_same plans (first + 1) methods)

-- ---- classes

field_texts : (in_interface : Bool) (entries : List Entry) (fields : List Member) → AllByRecursion (FieldIsValid in_interface entries) fields
    → AllByRecursion (λ (m : Member). IsSome (utf8_at entries m.name) × IsSome (utf8_at entries m.descriptor)) fields
field_texts in_interface entries fields = AllByRecursion-weaker (FieldIsValid in_interface entries) _
    (λ m valid. (some_of_such entries [] m.name _ valid.name, some_of_such entries [] m.descriptor _ valid.descriptor)) fields

method_texts : (in_interface : Bool) (entries : List Entry) (methods : List Member) → AllByRecursion (MethodIsValid in_interface entries) methods
    → AllByRecursion (λ (m : Member). IsSome (utf8_at entries m.name) × IsSome (utf8_at entries m.descriptor)) methods
method_texts in_interface entries methods = AllByRecursion-weaker (MethodIsValid in_interface entries) _
    (λ m valid. (some_of_such entries [] m.name _ valid.name, some_of_such entries [] m.descriptor _ valid.descriptor)) methods

pub changed_spelled : ChangedHaveSpellings
changed_spelled plans first c (bytes, spells) short few can =
    let chains = class_has_chain plans first c in
    let entries = c.pool.entries in
    let more = more_for chains entries in
    let calls = class_calls plans first c in
    let grow : Grows chains more calls plans first c = grows plans first c in
    let named = grow.named in
    let may = grow.chained in
    let codes_are = codes_short MAX_FILE_BYTES c short in
    let valid = spells.methods in
    subst HasSpelling (sym (grown_is plans first c)) (
      class_bytes (grown more calls plans first c),
      record {
        bytes_are = refl;
        fits = record {
          minor = omega arith;
          major = omega arith;
          flags = spells.fits.flags;
          this_class = spells.fits.this_class;
          super_class = spells.fits.super_class;
          interfaces = spells.fits.interfaces;
          fields = spells.fits.fields;
          methods = record {
            count =
                let same = count_same chains entries more calls named plans first c.methods in
                let was = spells.fits.methods.count in
                omega (arith, same, was);
            each = methods_fit chains entries more calls named (is_interface c.flags) plans first c.methods may can valid codes_are spells.fits.methods.each;
          };
          attributes = spells.fits.attributes;
        };
        pool = pool_spelled chains c.pool spells.pool few;
        this_class = and_kept (class_name_at entries c.this_class) (class_name_at (entries ++ more) c.this_class) _ (class_kept entries more c.this_class)
            spells.this_class;
        super_class = super_kept entries more c.super_class spells.super_class;
        interfaces = AllByRecursion-weaker (λ (index : ℕ). IsSome (class_name_at entries index)) (λ (index : ℕ). IsSome (class_name_at (entries ++ more) index))
            (λ index there. there_kept (class_name_at entries index) (class_name_at (entries ++ more) index) (class_kept entries more index) there)
            c.interfaces spells.interfaces;
        fields = AllByRecursion-weaker (FieldIsValid (is_interface c.flags) entries) (FieldIsValid (is_interface c.flags) (entries ++ more))
            (field_valid_kept entries more (is_interface c.flags)) c.fields spells.fields;
        distinct_fields = fields_distinct chains entries more calls named c.fields (field_texts (is_interface c.flags) entries c.fields spells.fields)
            spells.distinct_fields;
        methods = methods_valid chains entries more calls named (is_interface c.flags) plans first c.methods may can valid;
        distinct_methods = methods_distinct chains entries more calls named plans first c.methods (method_texts (is_interface c.flags) entries c.methods valid)
            spells.distinct_methods;
        attributes = AllByRecursion-weaker (λ (raw : Raw). IsSome (utf8_at entries raw.name)) (λ (raw : Raw). IsSome (utf8_at (entries ++ more) raw.name))
            (λ raw there. there_kept (utf8_at entries raw.name) (utf8_at (entries ++ more) raw.name) (text_kept entries more raw.name) there)
            c.attributes spells.attributes;
      },
    )
