-- What the instructions of a class with insertions name, make and call, against those of the old class.
use Rattle.std.proofs.Common.{◌≡◌, refl, sym, ◌∙◌, ap, subst, ℕ, suc, ◌+◌, ◌<◌, Bool, true, false, cond, ◌||◌, List, [], ◌∷◌, ◌++◌, length, map, nat_eq, Option, Some, None, arith}
use Rattle.std.specs.List.{cons_option, filter_map, flat_map, list_any}
use Rattle.std.proofs.lemmas.Bool.{false≢true}
use Rattle.std.proofs.lemmas.List.Elements.{filter_map-append}
use Rattle.std.proofs.lemmas.List.Folds.{list_any-append}
use Rattle.fm_law_relinked.proofs.LaidLists.{chained_listed, IsView}
use Rattle.fm_law_spelled.proofs.Growing.{chain_in}
use Rattle.fm_law_spelled.specs.Calling.{grown, Grows, IsCall}
use Rattle.fm_chain.specs.Chained.{anchors_of, chained, has_chain}
use Rattle.fm_chain.specs.Chaining.{chained_attribute, chained_method, chained_methods, plan_has_chain}
use Rattle.fm_chain.specs.declared.calls.Calls.{Calls}
use Rattle.fm_code.specs.declared.class_file.ClassDef.{ClassDef}
use Rattle.fm_code.specs.declared.class_file.Member.{Member}
use Rattle.fm_code.specs.declared.class_file.MemberAttr.{MemberAttr}
use Rattle.fm_code.specs.declared.class_file.MemberAttr.TheVariants as attribute
use Rattle.fm_code.specs.declared.code_array.Handler.{Handler}
use Rattle.fm_code.specs.declared.code_array.Item.{Item}
use Rattle.fm_code.specs.declared.constant_pool.Entry.{Entry}
use Rattle.fm_code.specs.declared.instructions.Insn.{Insn}
use Rattle.fm_code.specs.declared.instructions.Insn.TheVariants as insn
use Rattle.fm_link_names.proofs.MarkLemmas.{other_number}
use Rattle.fm_link_names.proofs.WantLemmas.{names_it}
use Rattle.fm_layout.proofs.StillLemmas.{names_target}
use Rattle.fm_layout.specs.Laid.{laid_of}
use Rattle.fm_layout.specs.Tables.{moved_handler}
use Rattle.fm_place.specs.Insertions.{Insertions}
use Rattle.fm_place.specs.Rewriting.{Plans}
use Rattle.fm_world.specs.Causes.{differs, static_field_wanted, static_method_wanted, wanted_at}
use Rattle.fm_world.specs.Chains.{is_among}
use Rattle.fm_code.specs.Operands.{pool_index}
use Rattle.fm_world.specs.Uses.{caught_by, class_items, is_used, items_of, made_array, used_indices, values_of}
use Rattle.fm_world.specs.declared.declarations.DeclaredClass.{DeclaredClass}

-- ---- views

-- the number, if it is this one
abbrev kept_if : ℕ → Option ℕ → Option ℕ
kept_if index None = None
kept_if index (Some k) = cond (nat_eq index k) (Some k) None

-- a flag that isn't set
abbrev pub unset : Option Bool → Option Bool
unset (Some false) = Some false
unset o = None

-- the index that a special call names_it
abbrev pub special_operand : Insn → Option ℕ
special_operand (insn.Special index) = Some index
special_operand i = None

neither : {A : Type 0} (b : Bool) → ◌≡◌ {A = Option A} (cond b None None) None
neither true = refl
neither false = refl

operand_branch : (i : Insn) → names_target i ≡ true → pool_index i ≡ None
operand_branch (insn.IfInt t n) named = refl
operand_branch (insn.IfPair t n) named = refl
operand_branch (insn.IfSame t n) named = refl
operand_branch (insn.IfNull t n) named = refl
operand_branch (insn.Goto n) named = refl
operand_branch (insn.Table low others targets) named = refl
operand_branch (insn.Lookup others keys targets) named = refl
operand_branch i named = absurd (false≢true named)

array_branch : (classes : List DeclaredClass) (entries : List Entry) (i : Insn) → names_target i ≡ true → made_array classes entries i ≡ None
array_branch classes entries (insn.IfInt t n) named = refl
array_branch classes entries (insn.IfPair t n) named = refl
array_branch classes entries (insn.IfSame t n) named = refl
array_branch classes entries (insn.IfNull t n) named = refl
array_branch classes entries (insn.Goto n) named = refl
array_branch classes entries (insn.Table low others targets) named = refl
array_branch classes entries (insn.Lookup others keys targets) named = refl
array_branch classes entries i named = absurd (false≢true named)

special_branch : (i : Insn) → names_target i ≡ true → special_operand i ≡ None
special_branch (insn.IfInt t n) named = refl
special_branch (insn.IfPair t n) named = refl
special_branch (insn.IfSame t n) named = refl
special_branch (insn.IfNull t n) named = refl
special_branch (insn.Goto n) named = refl
special_branch (insn.Table low others targets) named = refl
special_branch (insn.Lookup others keys targets) named = refl
special_branch i named = absurd (false≢true named)

-- an index that isn't called differs from one that is
not_called : (chains : Bool) (calls : Calls) (index called : ℕ) → (IsCall chains calls index → ⊥) → IsCall chains calls called → index ≡ called → ⊥
not_called chains calls index called other may same = other (subst (IsCall chains calls) (sym same) may)

-- operands that are this index, by which nothing is called
operand_view : (chains : Bool) (calls : Calls) (index : ℕ) → (IsCall chains calls index → ⊥) → IsView chains calls (λ i. kept_if index (pool_index i))
operand_view chains calls index other = record {
  branches = λ i named. ap (kept_if index) (operand_branch i named);
  null = refl;
  doubled = refl;
  load = λ k. refl;
  store = λ k. refl;
  call = λ called may. ap (λ b. cond b (Some called) None) (other_number index called (not_called chains calls index called other may));
}

-- what is wanted of a field
field_view : (chains : Bool) (calls : Calls) (index : ℕ)
    → IsView chains calls (λ i. cond (names_it index (pool_index i)) (static_field_wanted i) None)
field_view chains calls index = record {
  branches = λ i named. ap (λ o. cond (names_it index o) (static_field_wanted i) None) (operand_branch i named);
  null = refl;
  doubled = refl;
  load = λ k. refl;
  store = λ k. refl;
  call = λ called may. neither (nat_eq called index);
}

-- what is wanted of a method by whose entry nothing is called
method_view : (chains : Bool) (calls : Calls) (index : ℕ) → (IsCall chains calls index → ⊥)
    → IsView chains calls (λ i. cond (names_it index (pool_index i)) (static_method_wanted i) None)
method_view chains calls index other = record {
  branches = λ i named. ap (λ o. cond (names_it index o) (static_method_wanted i) None) (operand_branch i named);
  null = refl;
  doubled = refl;
  load = λ k. refl;
  store = λ k. refl;
  call = λ called may.
      ap (λ b. cond b (Some true) None) (other_number called index (λ same. not_called chains calls index called other may (sym same)));
}

-- whether a method is wanted that isn't static
unset_view : (chains : Bool) (calls : Calls) (index : ℕ)
    → IsView chains calls (λ i. cond (names_it index (pool_index i)) (unset (static_method_wanted i)) None)
unset_view chains calls index = record {
  branches = λ i named. ap (λ o. cond (names_it index o) (unset (static_method_wanted i)) None) (operand_branch i named);
  null = refl;
  doubled = refl;
  load = λ k. refl;
  store = λ k. refl;
  call = λ called may. neither (nat_eq called index);
}

array_view : (chains : Bool) (calls : Calls) (classes : List DeclaredClass) (entries : List Entry) → IsView chains calls (made_array classes entries)
array_view chains calls classes entries = record {
  branches = array_branch classes entries;
  null = refl;
  doubled = refl;
  load = λ k. refl;
  store = λ k. refl;
  call = λ called may. refl;
}

special_view : (chains : Bool) (calls : Calls) → IsView chains calls special_operand
special_view chains calls =
    record { branches = special_branch; null = refl; doubled = refl; load = λ k. refl; store = λ k. refl; call = λ called may. refl }

-- ---- the items of a class

module _ {B : Type 0} (chains : Bool) (calls : Calls) (view : Insn → Option B) (is : IsView chains calls view) where
  abbrev told : List Item → List B
  told items = filter_map (λ (item : Item). view item.insn) items

  attributes_told : (plan : Insertions) → (has_chain plan ≡ true → chains ≡ true) → (m : Member) (attributes : List MemberAttr)
      → told (items_of (record m { attributes = map (chained_attribute calls plan) attributes })) ≡ told (items_of (record m { attributes = attributes }))
  attributes_told plan may m [] = refl
  attributes_told plan may m (attribute.Constant name value ∷ attributes) = attributes_told plan may m attributes
  attributes_told plan may m (attribute.Coded name code ∷ attributes) =
      chained_listed chains calls view is code plan (λ h looped. may (chain_in plan.holders h looped))
  attributes_told plan may m (attribute.Other raw ∷ attributes) = attributes_told plan may m attributes

  method_told : (plan : Option Insertions) → (plan_has_chain plan ≡ true → chains ≡ true) → (m : Member)
      → told (items_of (chained_method calls plan m)) ≡ told (items_of m)
  method_told None may m = refl
  method_told (Some plan) may m = attributes_told plan may m m.attributes

  methods_told : (plans : Plans) (first : ℕ) (methods : List Member)
      → ((i : ℕ) → i < length methods → plan_has_chain (plans (first + i)) ≡ true → chains ≡ true)
      → told (flat_map items_of (chained_methods plans calls first methods)) ≡ told (flat_map items_of methods)
  methods_told plans first [] may = refl
  methods_told plans first (m ∷ methods) may =
      let others = chained_methods plans calls (first + 1) methods in
      let here : first + 0 ≡ first = omega arith in
      let own : plan_has_chain (plans first) ≡ true → chains ≡ true =
      λ has. may 0 (omega arith) (ap (λ n. plan_has_chain (plans n)) here ∙ has) in
      let rest : (i : ℕ) → i < length methods → plan_has_chain (plans (first + 1 + i)) ≡ true → chains ≡ true =
      λ i within has.
      let same : first + suc i ≡ first + 1 + i = omega arith in
      may (suc i) (omega (arith, within)) (ap (λ n. plan_has_chain (plans n)) same ∙ has) in
      filter_map-append (λ (item : Item). view item.insn) (items_of (chained_method calls (plans first) m)) (flat_map items_of others)
      ∙ (λ k. method_told (plans first) own m k ++ methods_told plans (first + 1) methods rest k)
      ∙ sym (filter_map-append (λ (item : Item). view item.insn) (items_of m) (flat_map items_of methods))

-- ---- the catch types of a class

same_caught : (firsts anchors : List ℕ) (handlers : List Handler)
    → map (λ (h : Handler). h.catch_class) (map (moved_handler firsts anchors) handlers) ≡ map (λ (h : Handler). h.catch_class) handlers
same_caught firsts anchors [] = refl
same_caught firsts anchors (h ∷ handlers) = ap (λ ks. h.catch_class ∷ ks) (same_caught firsts anchors handlers)

attributes_caught : (calls : Calls) (plan : Insertions) (m : Member) (attributes : List MemberAttr)
    → caught_by (record m { attributes = map (chained_attribute calls plan) attributes }) ≡ caught_by (record m { attributes = attributes })
attributes_caught calls plan m [] = refl
attributes_caught calls plan m (attribute.Constant name value ∷ attributes) = attributes_caught calls plan m attributes
attributes_caught calls plan m (attribute.Coded name code ∷ attributes) =
    same_caught (laid_of code.items (chained calls code plan)).firsts (anchors_of plan code.items) code.handlers
attributes_caught calls plan m (attribute.Other raw ∷ attributes) = attributes_caught calls plan m attributes

method_caught : (calls : Calls) (plan : Option Insertions) (m : Member) → caught_by (chained_method calls plan m) ≡ caught_by m
method_caught calls None m = refl
method_caught calls (Some plan) m = attributes_caught calls plan m m.attributes

methods_caught : (plans : Plans) (calls : Calls) (first : ℕ) (methods : List Member)
    → flat_map caught_by (chained_methods plans calls first methods) ≡ flat_map caught_by methods
methods_caught plans calls first [] = refl
methods_caught plans calls first (m ∷ methods) = λ k. method_caught calls (plans first) m k ++ methods_caught plans calls (first + 1) methods k

-- ---- numbers among others

one_among : (index : ℕ) (o : Option ℕ) (xs ys : List ℕ) → is_among index xs ≡ is_among index ys
    → is_among index (cons_option o xs) ≡ is_among index (cons_option (kept_if index o) ys)
one_among index None xs ys later = later
one_among index (Some k) xs ys later = by_test (nat_eq index k) refl where
  by_test : (b : Bool) → nat_eq index k ≡ b → (nat_eq index k || is_among index xs) ≡ is_among index (cons_option (cond b (Some k) None) ys)
  by_test true same = ap (λ b. b || is_among index xs) same ∙ sym (ap (λ b. b || is_among index ys) same)
  by_test false other = ap (λ b. b || is_among index xs) other ∙ later

among_kept : (index : ℕ) (items : List Item)
    → is_among index (filter_map (λ (item : Item). pool_index item.insn) items)
    ≡ is_among index (filter_map (λ (item : Item). kept_if index (pool_index item.insn)) items)
among_kept index [] = refl
among_kept index (item ∷ items) = one_among index (pool_index item.insn) _ _ (among_kept index items)

one_unset : (b : Bool) (o : Option Bool) (rest unset_rest : List Bool) → list_any (differs true) rest ≡ list_any (λ (flag : Bool). true) unset_rest
    → list_any (differs true) (cons_option (cond b o None) rest) ≡ list_any (λ (flag : Bool). true) (cons_option (cond b (unset o) None) unset_rest)
one_unset false o rest unset_rest later = later
one_unset true None rest unset_rest later = later
one_unset true (Some true) rest unset_rest later = later
one_unset true (Some false) rest unset_rest later = refl

-- a flag that isn't set is wanted where some flag is unlike a set one
any_unset : (index : ℕ) (items : List Item)
    → list_any (differs true) (filter_map (λ (item : Item). cond (names_it index (pool_index item.insn)) (static_method_wanted item.insn) None) items)
    ≡ list_any (λ (flag : Bool). true) (filter_map (λ (item : Item). cond (names_it index (pool_index item.insn)) (unset (static_method_wanted item.insn)) None) items)
any_unset index [] = refl
any_unset index (item ∷ items) = one_unset (names_it index (pool_index item.insn)) (static_method_wanted item.insn) _ _ (any_unset index items)

-- ---- a changed class

module _ (chains : Bool) (more : List Entry) (calls : Calls) (plans : Plans) (first : ℕ) (c : ClassDef) (grows : Grows chains more calls plans first c) where
  pub arrays_same : (classes : List DeclaredClass) (entries : List Entry)
      → filter_map (λ (item : Item). made_array classes entries item.insn) (class_items (grown more calls plans first c))
      ≡ filter_map (λ (item : Item). made_array classes entries item.insn) (class_items c)
  arrays_same classes entries = methods_told chains calls (made_array classes entries) (array_view chains calls classes entries) plans first c.methods grows.chained

  pub specials_same : filter_map (λ (item : Item). special_operand item.insn) (class_items (grown more calls plans first c))
      ≡ filter_map (λ (item : Item). special_operand item.insn) (class_items c)
  specials_same = methods_told chains calls special_operand (special_view chains calls) plans first c.methods grows.chained

  pub fields_wanted : (index : ℕ) → wanted_at static_field_wanted (grown more calls plans first c) index ≡ wanted_at static_field_wanted c index
  fields_wanted index =
      methods_told chains calls (λ i. cond (names_it index (pool_index i)) (static_field_wanted i) None) (field_view chains calls index) plans first c.methods grows.chained

  pub methods_wanted : (index : ℕ) → (IsCall chains calls index → ⊥)
      → wanted_at static_method_wanted (grown more calls plans first c) index ≡ wanted_at static_method_wanted c index
  methods_wanted index other =
      methods_told chains calls (λ i. cond (names_it index (pool_index i)) (static_method_wanted i) None) (method_view chains calls index other) plans first
      c.methods grows.chained

  -- at each index instances are wanted where they were
  pub instances_wanted : (index : ℕ)
      → list_any (differs true) (wanted_at static_method_wanted (grown more calls plans first c) index) ≡ list_any (differs true) (wanted_at static_method_wanted c index)
  instances_wanted index =
      any_unset index (class_items (grown more calls plans first c))
      ∙ ap (list_any (λ (flag : Bool). true))
      (methods_told chains calls (λ i. cond (names_it index (pool_index i)) (unset (static_method_wanted i)) None) (unset_view chains calls index) plans first
      c.methods grows.chained)
      ∙ sym (any_unset index (class_items c))

  operands_same : (index : ℕ) → (IsCall chains calls index → ⊥)
      → is_among index (filter_map (λ (item : Item). pool_index item.insn) (class_items (grown more calls plans first c)))
      ≡ is_among index (filter_map (λ (item : Item). pool_index item.insn) (class_items c))
  operands_same index other =
      among_kept index (class_items (grown more calls plans first c))
      ∙ ap (is_among index)
      (methods_told chains calls (λ i. kept_if index (pool_index i)) (operand_view chains calls index other) plans first c.methods grows.chained)
      ∙ sym (among_kept index (class_items c))

  -- each index by which nothing is called is used where it was
  pub used_same : (index : ℕ) → (IsCall chains calls index → ⊥) → is_used (grown more calls plans first c) index ≡ is_used c index
  unfolding used_indices
  used_same index other =
      let front = c.interfaces ++ flat_map values_of c.fields in
      let operands = filter_map (λ (item : Item). pool_index item.insn) (class_items c) in
      let new_operands = filter_map (λ (item : Item). pool_index item.insn) (class_items (grown more calls plans first c)) in
      let caught = flat_map caught_by c.methods in
      let new_caught = flat_map caught_by (grown more calls plans first c).methods in
      let four : (os cs : List ℕ) → is_among index ((front ++ os) ++ cs) ≡ ((is_among index front || is_among index os) || is_among index cs) =
      λ os cs. list_any-append (nat_eq index) (front ++ os) cs ∙ ap (λ b. b || is_among index cs) (list_any-append (nat_eq index) front os) in
      let rest : is_among index ((front ++ new_operands) ++ new_caught) ≡ is_among index ((front ++ operands) ++ caught) =
      four new_operands new_caught
      ∙ (λ k. (is_among index front || operands_same index other k) || is_among index (methods_caught plans calls first c.methods k))
      ∙ sym (four operands caught) in
      ap (λ b. nat_eq index c.this_class || (nat_eq index c.super_class || b)) rest
