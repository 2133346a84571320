-- A changed class is accepted where the class is: its version, the counts of its methods, and all that stands in it.
use Rattle.std.proofs.Common.{◌≡◌, ℕ, ◌+◌, ◌≤◌, inl, inr, ⊎_elim, codes, Bool, true, false, List, [], ◌∷◌, ◌++◌, length, map, Option, Some, None, IfSome, IsSome, refl, sym, ap, subst, ◌∙◌, arith, is_some}
use Rattle.std.specs.List.{AllByRecursion}
use Rattle.std.specs.Option.{option_map}
use Rattle.std.proofs.lemmas.Bool.{false≢true}
use Rattle.std.proofs.lemmas.List.{length-map}
use Rattle.fm_base.proofs.ListFacts.{AllByRecursion-get_or, AllByRecursion-weaker}
use Rattle.fm_base.proofs.OptionFacts.{IsSome-from_some, Some-from_is_some, Some-from_some_and}
use Rattle.fm_chain.specs.Chained.{anchors_of, chained, chained_code, has_chain}
use Rattle.fm_chain.specs.Chaining.{chained_attribute, chained_method, chained_methods, class_calls, class_has_chain, plan_has_chain}
use Rattle.fm_chain.specs.declared.calls.Calls.{Calls}
use Rattle.fm_code.specs.AccessFlags.{is_interface}
use Rattle.fm_code.specs.ConstantPool.{class_name_at, entry_at, EntryIsValid, field_ref_at, interface_method_ref_at, MemberName, method_ref_at, utf8_at}
use Rattle.fm_code.specs.FreeEntries.{free_class}
use Rattle.fm_code.specs.Members.{code_of, MethodAttrIsValid, MethodIsValid}
use Rattle.fm_code.specs.CodeRules.{CodeIsValid}
use Rattle.fm_code.specs.Names.{IsClassName}
use Rattle.fm_code.specs.Operands.{OperandIsValid}
use Rattle.fm_code.specs.Profile.{calls_of_class, class_named, CodeIsWithin, FieldIsSupported, HeadIsSupported, is_left_out, is_supported_constant, IsFloatingArray, IsSupportedName, ItemIsSupported, loads_supported, MethodIsSupported, MethodIsWithin, Profile}
use Rattle.fm_code.specs.declared.class_file.Member.{Member}
use Rattle.fm_code.specs.declared.class_file.MemberAttr.{MemberAttr}
use Rattle.fm_code.specs.declared.class_file.MemberAttr.TheVariants as attribute
use Rattle.fm_code.specs.declared.code_array.Code.{Code}
use Rattle.fm_code.specs.declared.code_array.Item.{Item}
use Rattle.fm_code.specs.declared.constant_pool.Entry.{Entry}
use Rattle.fm_code.specs.declared.constant_pool.Entry.TheVariants as entry
use Rattle.fm_code.specs.declared.instructions.Insn.{Insn}
use Rattle.fm_code.specs.declared.instructions.Insn.TheVariants as insn
use Rattle.fm_code.specs.declared.operations.Reg.TheVariants as reg
use Rattle.fm_layout.proofs.ReadsLemmas.{same_untargeted, untargeted}
use Rattle.fm_layout.proofs.StillLemmas.{names_target}
use Rattle.fm_layout.specs.Conditions.{IsSameButTargets}
use Rattle.fm_layout.specs.Laid.{firsts_from, laid_of, moved_item}
use Rattle.fm_layout.specs.Rooms.{rooms_of, starts_from, widened_rooms}
use Rattle.fm_layout.specs.Tables.{moved_handler}
use Rattle.fm_place.specs.Insertions.{Insertions}
use Rattle.fm_place.specs.Rewriting.{Plans}
use Rattle.fm_pool.proofs.GrownPool.{and_kept, class_from, class_kept, entry_kept, method_kept, text_kept, there_kept}
use Rattle.fm_read_limits.proofs.FloatingLemmas.{array_begins}
use Rattle.fm_read_limits.proofs.LimitLemmas.{code_is, first_code}
use Rattle.fm_read_limits.specs.inner.Declared.{PoolIsValid}
use Rattle.fm_law_spelled.proofs.Growing.{class_of_called, first_may, grown_is, grows, MayChain, more_for, pool_supported, rest_may}
use Rattle.fm_law_spelled.proofs.InsertedFits.{chained_fit, InsertedFits, NamesCalls}
use Rattle.fm_law_spelled.proofs.KeptNames.{field_kept, interface_method_kept, such_kept}
use Rattle.fm_law_spelled.proofs.LaidFits.{HoldsOfTargets, laid_hold}
use Rattle.fm_law_spelled.specs.Calling.{Grows, member_name_of}
use Rattle.fm_law_spelled.specs.Changed.{AttributeCan, CanWeave, ChangedAreAccepted, MethodCan, MethodsCan}

-- ---- instructions

-- an instruction is supported, by the entries of a pool
abbrev IsSupportedInsn : List Entry → Insn → Type 0
IsSupportedInsn entries i = (is_left_out i ≡ false) × (loads_supported entries i ≡ true) × (calls_of_class entries i ≡ true) × IfSome (class_named entries i) (λ name. ¬ IsFloatingArray name)

abbrev HasSupportedInsn : List Entry → Item → Type 0
HasSupportedInsn entries item = IsSupportedInsn entries item.insn

-- one with targets is
targeted_supported : (entries : List Entry) → HoldsOfTargets (HasSupportedInsn entries)
targeted_supported entries offset bytes f (insn.IfInt t n) named = (refl, refl, refl, tt)
targeted_supported entries offset bytes f (insn.IfPair t n) named = (refl, refl, refl, tt)
targeted_supported entries offset bytes f (insn.IfSame t n) named = (refl, refl, refl, tt)
targeted_supported entries offset bytes f (insn.IfNull t n) named = (refl, refl, refl, tt)
targeted_supported entries offset bytes f (insn.Goto n) named = (refl, refl, refl, tt)
targeted_supported entries offset bytes f (insn.Table low others targets) named = (refl, refl, refl, tt)
targeted_supported entries offset bytes f (insn.Lookup others keys targets) named = (refl, refl, refl, tt)
targeted_supported entries offset bytes f i named = absurd cc

kept_supported : (entries : List Entry) (starts firsts : List ℕ) (start : ℕ) (item : Item) (i : Insn) → IsSameButTargets i item.insn → HasSupportedInsn entries item
    → HasSupportedInsn entries (moved_item starts firsts start (Some item) i)
kept_supported entries starts firsts start item i same supported = by (names_target i) refl where
  by : (t : Bool) → names_target i ≡ t → HasSupportedInsn entries (moved_item starts firsts start (Some item) i)
  by true named = targeted_supported entries start (moved_item starts firsts start (Some item) i).bytes _ i named
  by false plain =
      let own = same_untargeted i item.insn same plain in
      subst (IsSupportedInsn entries) (sym (untargeted _ i plain ∙ own.0)) supported

-- the name of an array begins with a bracket
free_is_no_array : ¬ IsFloatingArray free_class
free_is_no_array is = false≢true (array_begins free_class is)

inserted_supported : (chains : Bool) (calls : Calls) (locals : ℕ) (entries : List Entry) → NamesCalls chains calls entries → (starts firsts : List ℕ)
    (start : ℕ) (i : Insn) → InsertedFits chains calls locals i → HasSupportedInsn entries (moved_item starts firsts start None i)
inserted_supported chains calls locals entries named starts firsts start insn.Null fits = (refl, refl, refl, tt)
inserted_supported chains calls locals entries named starts firsts start insn.Dup fits = (refl, refl, refl, tt)
inserted_supported chains calls locals entries named starts firsts start (insn.Load reg.Ref local) fits = (refl, refl, refl, tt)
inserted_supported chains calls locals entries named starts firsts start (insn.Store reg.Ref local) fits = (refl, refl, refl, tt)
inserted_supported chains calls locals entries named starts firsts start (insn.Static index) fits =
    let there : method_ref_at entries index ≡ Some (member_name_of fits.0) = ap (method_ref_at entries) fits.2 ∙ named fits.0 fits.1 in
    let class : Option (List ℕ) → Type 0 = λ o. IfSome o (λ name. ¬ IsFloatingArray name) in
    let named_class : option_map (λ (m : MemberName). m.class) (method_ref_at entries index) ≡ Some free_class =
    ap (option_map (λ (m : MemberName). m.class)) there ∙ ap (λ name. Some name) (class_of_called fits.0) in
    (refl, refl, ap is_some there, subst class (sym named_class) free_is_no_array)
inserted_supported chains calls locals entries named starts firsts start i fits = absurd fits

-- ---- more entries

module _ (entries more : List Entry) (pool : PoolIsValid entries) where
  same_of : (i : List Entry → ℕ → Option MemberName) (index : ℕ) → ((m : MemberName) → i entries index ≡ Some m → i (entries ++ more) index ≡ Some m) → IsSome (i entries index)
      → option_map (λ (m : MemberName). m.class) (i (entries ++ more) index) ≡ option_map (λ (m : MemberName). m.class) (i entries index)
  same_of i index stays there = let v = Some-from_is_some (i entries index) there in ap (option_map (λ (m : MemberName). m.class)) (stays v.0 v.1 ∙ sym v.1)

  class_same : (index : ℕ) → IsSome (class_name_at entries index) → class_name_at (entries ++ more) index ≡ class_name_at entries index
  class_same index there = let v = Some-from_is_some (class_name_at entries index) there in class_kept entries more index v.0 v.1 ∙ sym v.1

  -- a class that is loaded is there too
  loaded_same : (index : ℕ) → is_supported_constant (entry_at entries index) ≡ true → class_name_at (entries ++ more) index ≡ class_name_at entries index
  loaded_same index supported = by (entry_at entries index) refl where
    stays : entry_at (entries ++ more) index ≡ entry_at entries index
    stays = entry_kept entries more index (entry_at entries index) refl (λ second. let none : is_supported_constant entry.Second ≡ true = ap is_supported_constant second ∙ supported in cc)

    by : (e : Entry) → entry_at entries index ≡ e → class_name_at (entries ++ more) index ≡ class_name_at entries index
    by (entry.Class name) is =
        let valid = subst (EntryIsValid entries) is (AllByRecursion-get_or (EntryIsValid entries) entries entry.Second pool tt index) in
        let text = Some-from_some_and (utf8_at entries name) IsClassName valid in
        let there = class_from entries index name text.0 is text.1 in
        class_kept entries more index text.0 there ∙ sym there
    by e is = rw (stays ∙ is, is) refl

  -- an instruction names the same class
  named_same : (offset : ℕ) (bytes : List ℕ) (i : Insn) → OperandIsValid entries (record { offset = offset; bytes = bytes; insn = i }) → loads_supported entries i ≡ true
      → calls_of_class entries i ≡ true → class_named (entries ++ more) i ≡ class_named entries i
  named_same offset bytes (insn.LoadPool index) valid loaded called = loaded_same index loaded
  named_same offset bytes (insn.GetStatic index) valid loaded called = same_of field_ref_at index (field_kept entries more index) valid
  named_same offset bytes (insn.PutStatic index) valid loaded called = same_of field_ref_at index (field_kept entries more index) valid
  named_same offset bytes (insn.GetField index) valid loaded called = same_of field_ref_at index (field_kept entries more index) valid
  named_same offset bytes (insn.PutField index) valid loaded called = same_of field_ref_at index (field_kept entries more index) valid
  named_same offset bytes (insn.Virtual index) valid loaded called = same_of method_ref_at index (method_kept entries more index) valid
  named_same offset bytes (insn.Special index) valid loaded called = same_of method_ref_at index (method_kept entries more index) called
  named_same offset bytes (insn.Static index) valid loaded called = same_of method_ref_at index (method_kept entries more index) called
  named_same offset bytes (insn.Interface index) valid loaded called =
      let v = Some-from_some_and (interface_method_ref_at entries index) _ valid in
      same_of interface_method_ref_at index (interface_method_kept entries more index) (IsSome-from_some (interface_method_ref_at entries index) v.0 v.1)
  named_same offset bytes (insn.New index) valid loaded called = class_same index valid
  named_same offset bytes (insn.NewRefs index) valid loaded called = class_same index valid
  named_same offset bytes (insn.Cast index) valid loaded called = class_same index valid
  named_same offset bytes (insn.IsA index) valid loaded called = class_same index valid
  named_same offset bytes (insn.MultiArray index dimensions) valid loaded called = class_same index valid
  named_same offset bytes i valid loaded called = refl

  -- and may load what it loads
  loads_kept : (i : Insn) → loads_supported entries i ≡ true → loads_supported (entries ++ more) i ≡ true
  loads_kept (insn.LoadPool index) supported =
      let stays = entry_kept entries more index (entry_at entries index) refl (λ second. let none : is_supported_constant entry.Second ≡ true = ap is_supported_constant second ∙ supported in cc) in
      ap is_supported_constant stays ∙ supported
  loads_kept i supported = refl

  -- and may call what it calls
  calls_kept : (i : Insn) → calls_of_class entries i ≡ true → calls_of_class (entries ++ more) i ≡ true
  calls_kept (insn.Special index) called = there_kept (method_ref_at entries index) (method_ref_at (entries ++ more) index) (method_kept entries more index) called
  calls_kept (insn.Static index) called = there_kept (method_ref_at entries index) (method_ref_at (entries ++ more) index) (method_kept entries more index) called
  calls_kept i called = refl

  item_kept : (item : Item) → OperandIsValid entries item → ItemIsSupported entries item → HasSupportedInsn (entries ++ more) item
  item_kept item valid supported = (
    supported.not_left_out,
    loads_kept item.insn supported.constant,
    calls_kept item.insn supported.of_class,
    subst (λ (o : Option (List ℕ)). IfSome o (λ name. ¬ IsFloatingArray name)) (sym (named_same item.offset item.bytes item.insn valid supported.constant supported.of_class)) supported.class,
  )

  items_kept : (items : List Item) → AllByRecursion (OperandIsValid entries) items → AllByRecursion (ItemIsSupported entries) items → AllByRecursion (HasSupportedInsn (entries ++ more)) items
  items_kept [] valid supported = tt
  items_kept (item ∷ items) valid supported = (item_kept item valid.0 supported.0, items_kept items valid.1 supported.1)

are_supported : (entries : List Entry) (items : List Item) → AllByRecursion (HasSupportedInsn entries) items → AllByRecursion (ItemIsSupported entries) items
are_supported entries = AllByRecursion-weaker (HasSupportedInsn entries) (ItemIsSupported entries) (λ item own. record { not_left_out = own.0; constant = own.1; of_class = own.2; class = own.3 })

-- ---- codes

-- what an attribute's code is with what is inserted
chained_first : (calls : Calls) (plan : Insertions) (attributes : List MemberAttr)
    → first_code (map (chained_attribute calls plan) attributes) ≡ option_map (λ code. chained_code calls code plan) (first_code attributes)
chained_first calls plan [] = refl
chained_first calls plan (attribute.Constant name value ∷ attributes) = chained_first calls plan attributes
chained_first calls plan (attribute.Coded name code ∷ attributes) = refl
chained_first calls plan (attribute.Other raw ∷ attributes) = chained_first calls plan attributes

-- the first code of valid attributes is valid
first_valid : (entries : List Entry) (attributes : List MemberAttr) (code : Code) → AllByRecursion (MethodAttrIsValid entries) attributes → first_code attributes ≡ Some code → CodeIsValid entries code
first_valid entries [] code valid is = absurd cc
first_valid entries (attribute.Constant name value ∷ attributes) code valid is = absurd valid.0
first_valid entries (attribute.Coded name own ∷ attributes) code valid is = let same : own ≡ code = cc in subst (CodeIsValid entries) same valid.0.1
first_valid entries (attribute.Other raw ∷ attributes) code valid is = first_valid entries attributes code valid.1 is

first_can : (calls : Calls) (plan : Insertions) (attributes : List MemberAttr) (code : Code) → AllByRecursion (AttributeCan calls plan) attributes
    → first_code attributes ≡ Some code → CanWeave calls code plan
first_can calls plan [] code can is = absurd cc
first_can calls plan (attribute.Constant name value ∷ attributes) code can is = first_can calls plan attributes code can.1 is
first_can calls plan (attribute.Coded name own ∷ attributes) code can is = let same : own ≡ code = cc in subst (λ (c : Code). CanWeave calls c plan) same can.0
first_can calls plan (attribute.Other raw ∷ attributes) code can is = first_can calls plan attributes code can.1 is

module _ (chains : Bool) (entries more : List Entry) (pool : PoolIsValid entries) (calls : Calls) (named : NamesCalls chains calls (entries ++ more)) where
  code_supported : (code : Code) (plan : Insertions) → (has_chain plan ≡ true → chains ≡ true) → CanWeave calls code plan
      → AllByRecursion (OperandIsValid entries) code.items → AllByRecursion (ItemIsSupported entries) code.items
      → AllByRecursion (ItemIsSupported (entries ++ more)) (chained_code calls code plan).items
  unfolding laid_of
  code_supported code plan may can valid supported =
      let new_items = chained calls code plan in
      let rooms = widened_rooms (rooms_of code.items new_items) in
      let locals = code.max_locals + length plan.holders in
      are_supported (entries ++ more) (laid_of code.items new_items).items
      (laid_hold (HasSupportedInsn (entries ++ more)) (targeted_supported (entries ++ more)) chains calls locals code.items (kept_supported (entries ++ more))
      (inserted_supported chains calls locals (entries ++ more) named) (items_kept entries more pool code.items valid supported)
      (starts_from 0 rooms) (firsts_from 0 rooms) 0 0 new_items rooms can.new_items.each (chained_fit chains calls code plan can.suits may))

  -- ---- methods

  head_kept : (in_interface : Bool) (m : Member) → HeadIsSupported in_interface entries m → HeadIsSupported in_interface (entries ++ more) m
  head_kept in_interface m head = record {
    descriptor = such_kept entries more m.descriptor _ head.descriptor;
    not_native = head.not_native;
    of_interface = λ within. ⊎_elim (λ abstract. inl abstract) (λ start. inr (text_kept entries more m.name (codes "<clinit>") start)) (head.of_interface within);
  }

  -- the items of a code that may be there
  abbrev ItemsIn : List Entry → Option Code → Type 0
  ItemsIn all o = IfSome o (λ code. AllByRecursion (ItemIsSupported all) code.items)

  same_items : (attributes : List MemberAttr) → AllByRecursion (MethodAttrIsValid entries) attributes → ItemsIn entries (first_code attributes) → ItemsIn (entries ++ more) (first_code attributes)
  same_items attributes valid supported = by (first_code attributes) refl supported where
    by : (o : Option Code) → first_code attributes ≡ o → ItemsIn entries o → ItemsIn (entries ++ more) o
    by None is own = tt
    by (Some code) is own =
        let code_valid = first_valid entries attributes code valid is in
        are_supported (entries ++ more) code.items (items_kept entries more pool code.items code_valid.operands own)

  chained_in : (plan : Insertions) → (has_chain plan ≡ true → chains ≡ true) → (attributes : List MemberAttr)
      → AllByRecursion (AttributeCan calls plan) attributes → AllByRecursion (MethodAttrIsValid entries) attributes
      → ItemsIn entries (first_code attributes) → ItemsIn (entries ++ more) (option_map (λ code. chained_code calls code plan) (first_code attributes))
  chained_in plan may attributes can valid supported = by (first_code attributes) refl supported where
    by : (o : Option Code) → first_code attributes ≡ o → ItemsIn entries o → ItemsIn (entries ++ more) (option_map (λ code. chained_code calls code plan) o)
    by None is own = tt
    by (Some code) is own = code_supported code plan may (first_can calls plan attributes code can is) (first_valid entries attributes code valid is).operands own

  method_supported : (in_interface : Bool) (plan : Option Insertions) (m : Member) → (plan_has_chain plan ≡ true → chains ≡ true) → MethodCan calls plan m
      → AllByRecursion (MethodAttrIsValid entries) m.attributes → MethodIsSupported in_interface entries m
      → MethodIsSupported in_interface (entries ++ more) (chained_method calls plan m)
  method_supported in_interface None m may can valid supported = record {
    head = head_kept in_interface m supported.head;
    items = subst (ItemsIn (entries ++ more)) (sym (code_is m)) (same_items m.attributes valid (subst (ItemsIn entries) (code_is m) supported.items));
  }
  method_supported in_interface (Some plan) m may can valid supported = record {
    head =
        let kept = head_kept in_interface m supported.head in
        record { descriptor = kept.descriptor; not_native = kept.not_native; of_interface = kept.of_interface };
    items =
        let new = map (chained_attribute calls plan) m.attributes in
        let is : code_of (record m { attributes = new }) ≡ option_map (λ code. chained_code calls code plan) (first_code m.attributes) = code_is (record m { attributes = new }) ∙ chained_first calls plan m.attributes in
        subst (ItemsIn (entries ++ more)) (sym is) (chained_in plan may m.attributes can valid (subst (ItemsIn entries) (code_is m) supported.items));
  }

  methods_supported : (in_interface : Bool) (plans : Plans) (first : ℕ) (methods : List Member) → MayChain chains plans first methods
      → MethodsCan plans calls first methods → AllByRecursion (MethodIsValid in_interface entries) methods
      → AllByRecursion (MethodIsSupported in_interface entries) methods → AllByRecursion (MethodIsSupported in_interface (entries ++ more)) (chained_methods plans calls first methods)
  methods_supported in_interface plans first [] may can valid supported = tt
  methods_supported in_interface plans first (m ∷ methods) may can valid supported = (
    method_supported in_interface (plans first) m (first_may chains plans first m methods may) can.0 valid.0.attributes supported.0,
    methods_supported in_interface plans (first + 1) methods (rest_may chains plans first m methods may) can.1 valid.1 supported.1,
  )

-- ---- counts

-- the counts of a code with what is inserted are within their limits
code_within : (calls : Calls) (code : Code) (plan : Insertions) → CanWeave calls code plan → CodeIsWithin code → CodeIsWithin (chained_code calls code plan)
code_within calls code plan can within = record {
  stack =
      let low = can.stack in omega (arith, low);
  locals = let room = can.suits.room in omega (arith, room);
  handlers =
      let same = length-map code.handlers (moved_handler (laid_of code.items (chained calls code plan)).firsts (anchors_of plan code.items)) in
      let own = within.handlers in
      omega (arith, same, own);
}

chained_within : (calls : Calls) (plan : Insertions) (attributes : List MemberAttr) → AllByRecursion (AttributeCan calls plan) attributes → IfSome (first_code attributes) CodeIsWithin
    → IfSome (option_map (λ code. chained_code calls code plan) (first_code attributes)) CodeIsWithin
chained_within calls plan attributes can within = by (first_code attributes) refl within where
  by : (o : Option Code) → first_code attributes ≡ o → IfSome o CodeIsWithin → IfSome (option_map (λ code. chained_code calls code plan) o) CodeIsWithin
  by None is own = tt
  by (Some code) is own = code_within calls code plan (first_can calls plan attributes code can is) own

method_within : (calls : Calls) (plan : Option Insertions) (m : Member) → MethodCan calls plan m → MethodIsWithin m → MethodIsWithin (chained_method calls plan m)
method_within calls None m can within = within
method_within calls (Some plan) m can within =
    let new = map (chained_attribute calls plan) m.attributes in
    let is : code_of (record m { attributes = new }) ≡ option_map (λ code. chained_code calls code plan) (first_code m.attributes) = code_is (record m { attributes = new }) ∙ chained_first calls plan m.attributes in
    subst (λ (o : Option Code). IfSome o CodeIsWithin) (sym is) (chained_within calls plan m.attributes can (subst (λ (o : Option Code). IfSome o CodeIsWithin) (code_is m) within))

methods_within : (calls : Calls) (plans : Plans) (first : ℕ) (methods : List Member) → MethodsCan plans calls first methods → AllByRecursion MethodIsWithin methods
    → AllByRecursion MethodIsWithin (chained_methods plans calls first methods)
methods_within calls plans first [] can within = tt
methods_within calls plans first (m ∷ methods) can within = (method_within calls (plans first) m can.0 within.0, methods_within calls plans (first + 1) methods can.1 within.1)

-- ---- classes

pub changed_accepted : ChangedAreAccepted
changed_accepted plans first c (bytes, spells) profile can =
    let chains = class_has_chain plans first c in
    let entries = c.pool.entries in
    let more = more_for chains entries in
    let calls = class_calls plans first c in
    let grow : Grows chains more calls plans first c = grows plans first c in
    subst Profile (sym (grown_is plans first c)) (record {
      version = inr (omega arith, omega arith, refl);
      limits = methods_within calls plans first c.methods can profile.limits;
      supported = record {
        name = and_kept (class_name_at entries c.this_class) (class_name_at (entries ++ more) c.this_class) IsSupportedName
            (class_kept entries more c.this_class) profile.supported.name;
        fields = AllByRecursion-weaker (FieldIsSupported entries) (FieldIsSupported (entries ++ more))
            (λ m own. such_kept entries more m.descriptor _ own) c.fields profile.supported.fields;
        methods = methods_supported chains entries more spells.pool.entries calls grow.named (is_interface c.flags) plans first c.methods grow.chained can
            spells.methods profile.supported.methods;
        pool = pool_supported chains entries profile.supported.pool;
      };
    })
