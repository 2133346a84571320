-- Where no holder holds a chain, what is written is what is written without chains; and all that can be inserted is safe.
use Rattle.std.proofs.Common.{◌≡◌, ℕ, zero, suc, ◌+◌, ◌*◌, ◌||◌, ◌++◌, Bool, true, false, cond, List, [], ◌∷◌, length, map, replicate, Option, Some, None, refl, ap, ◌∙◌, arith}
use Rattle.std.specs.Prelude.{slice_get}
use Rattle.std.specs.List.{AllByRecursion, flat_map, list_any, range_with_len, sum}
use Rattle.fm_base.proofs.TestFacts.{or_left_fails, or_right_fails}
use Rattle.fm_code.specs.FreeEntries.{with_free}
use Rattle.fm_code.specs.Members.{code_of}
use Rattle.fm_code.specs.declared.class_file.ClassDef.{ClassDef}
use Rattle.fm_code.specs.declared.class_file.Member.{Member}
use Rattle.fm_code.specs.declared.class_file.MemberAttr.{MemberAttr}
use Rattle.fm_code.specs.declared.class_file.MemberAttr.TheVariants as attribute
use Rattle.fm_code.specs.declared.code_array.Code.{Code}
use Rattle.fm_code.specs.declared.code_array.Item.{Item}
use Rattle.fm_code.specs.declared.instructions.Insn.{Insn}
use Rattle.fm_layout.specs.Laid.{laid_of, marks_of}
use Rattle.fm_layout.specs.Tables.{moved_tables}
use Rattle.fm_layout.specs.declared.new_items.NewItem.{NewItem}
use Rattle.fm_chain.proofs.Replaced.{sum_cons}
use Rattle.fm_place.proofs.FullLemmas.{method-safe}
use Rattle.fm_place.specs.Insertions.{after_at, before_at, Holder, Insertions}
use Rattle.fm_place.specs.Rewriting.{changes, first_given, free_index, Plans, rewritten_attribute, rewritten_class, rewritten_from, rewritten_major, rewritten_method, rewritten_methods}
use Rattle.fm_place.specs.Rewriting as plain
use Rattle.fm_place.specs.Safe.{full_plans}
use Rattle.fm_place.specs.Woven.{freed_items, kept, local_of, null_stored, null_stored_items, top_stored_items, woven, woven_from, woven_item}
use Rattle.fm_place.specs.Woven as woven_specs
use Rattle.fm_chain.specs.Chained.{added_words, anchors_from, anchors_of, chained, chained_item, chained_items, count_at, has_chain, holds_chain, looped_at, released, taken, taken_items}
use Rattle.fm_chain.specs.Chaining.{calls_for, chained_attribute, chained_class, chained_from, chained_method, chained_methods, changed_class, class_calls, class_has_chain, entries_for, marks_from, marks_in, marks_of_methods, method_marks, plan_has_chain}
use Rattle.fm_chain.specs.Laws.{ClassesAreRewritten, CodesAreWoven, FullChainsAreSafe, IsWovenCode}
use Rattle.fm_chain.specs.declared.calls.Calls.{Calls}

-- ---- holders

pub none_in : (holders : List Holder) (number : ℕ) → list_any (λ (h : Holder). h.looped) holders ≡ false → holds_chain (slice_get holders number) ≡ false
none_in [] zero none = refl
none_in [] (suc number) none = refl
none_in (h ∷ holders) zero none = or_left_fails h.looped (list_any (λ (g : Holder). g.looped) holders) none
none_in (h ∷ holders) (suc number) none = none_in holders number (or_right_fails h.looped (list_any (λ (g : Holder). g.looped) holders) none)

-- so it is where each flag is unset
pub none_looped : (holders : List Holder) → AllByRecursion (λ (h : Holder). h.looped ≡ false) holders → list_any (λ (h : Holder). h.looped) holders ≡ false
none_looped [] all = refl
none_looped (h ∷ holders) all = λ k. all.0 k || none_looped holders all.1 k

-- ---- one code

-- the code of new items
abbrev coded_by : Code → List NewItem → (anchors : List ℕ) → (words holders : ℕ) → Code
coded_by code items anchors words holders =
    let laid = laid_of code.items items in
    let tables = moved_tables code laid anchors in
    record {
      max_stack = code.max_stack + words;
      max_locals = code.max_locals + holders;
      items = laid.items;
      length = laid.length;
      handlers = tables.handlers;
      attributes = tables.attributes;
    }

module _ (calls : Calls) (code : Code) (plan : Insertions) (none : has_chain plan ≡ false) where
  unlooped : (number : ℕ) → looped_at plan number ≡ false
  unlooped number = none_in plan.holders number none

  counted : (hs : List ℕ) → sum (map (λ h. taken_items (looped_at plan h)) hs) ≡ top_stored_items * length hs
  counted [] = refl
  counted (h ∷ hs) = let one : taken_items (looped_at plan h) ≡ 2 = ap taken_items (unlooped h) in let rest = counted hs in let sum = sum_cons (λ h. taken_items (looped_at plan h)) h hs in omega (arith, one, rest, sum)

  count_same : (j : ℕ) → count_at plan j ≡ woven_specs.count_at plan j
  count_same j = ap (λ n. freed_items * length (before_at plan j) + 1 + n) (counted (after_at plan j))

  anchors_from_same : (number j : ℕ) (items : List Item) → anchors_from plan number j items ≡ woven_specs.anchors_from plan number j items
  anchors_from_same number j [] = refl
  anchors_from_same number j (item ∷ items) =
      ap (λ rest. number ∷ rest)
      (ap (λ n. anchors_from plan (number + n) (j + 1) items) (count_same j) ∙ anchors_from_same (number + woven_specs.count_at plan j) (j + 1) items)

  anchors_same : anchors_of plan code.items ≡ woven_specs.anchors_of plan code.items
  anchors_same = anchors_from_same (null_stored_items * length plan.holders) 0 code.items

  item_same : (anchors : List ℕ) (j : ℕ) (i : Insn) → chained_item calls code plan anchors j i ≡ woven_item calls.free code plan anchors j i
  item_same anchors j i =
      λ k. flat_map (λ h. released calls (unlooped h k) (local_of code h)) (before_at plan j)
      ++ kept anchors j i ∷ flat_map (λ h. taken calls (unlooped h k) (local_of code h)) (after_at plan j)

  items_same : (anchors : List ℕ) (j : ℕ) (items : List Item) → chained_items calls code plan anchors j items ≡ woven_from calls.free code plan anchors j items
  items_same anchors j [] = refl
  items_same anchors j (item ∷ items) = λ k. item_same anchors j item.insn k ++ items_same anchors (j + 1) items k

  pub chained_same : chained calls code plan ≡ woven calls.free code plan
  chained_same =
      λ k. flat_map (λ h. null_stored (local_of code h)) (range_with_len 0 (length plan.holders)) ++ items_same (anchors_same k) 0 code.items k

  words_same : added_words plan ≡ 1
  words_same = ap (λ b. cond b 2 1) none

  code_same : IsWovenCode calls code plan
  code_same = record {
    code_is = λ k. coded_by code (chained_same k) (anchors_same k) (words_same k) (length plan.holders);
    marks_are = ap (marks_of code.items) chained_same;
  }

pub codes_are_woven : CodesAreWoven
codes_are_woven calls code plan none = code_same calls code plan none

-- ---- methods and classes

attribute_same : (calls : Calls) (plan : Insertions) → has_chain plan ≡ false → (a : MemberAttr) → chained_attribute calls plan a ≡ rewritten_attribute calls.free plan a
attribute_same calls plan none (attribute.Coded name code) = ap (attribute.Coded name) (code_same calls code plan none).code_is
attribute_same calls plan none (attribute.Constant name value) = refl
attribute_same calls plan none (attribute.Other raw) = refl

method_same : (calls : Calls) (plan : Option Insertions) → plan_has_chain plan ≡ false → (m : Member) → chained_method calls plan m ≡ rewritten_method calls.free plan m
method_same calls None none m = refl
method_same calls (Some plan) none m = λ k. record m { attributes = map (λ a. attribute_same calls plan none a k) m.attributes }

marks_in_same : (calls : Calls) (code : Option Code) (plan : Option Insertions) → plan_has_chain plan ≡ false
    → marks_in calls code plan ≡ plain.marks_in calls.free code plan
marks_in_same calls None plan none = refl
marks_in_same calls (Some code) None none = refl
marks_in_same calls (Some code) (Some plan) none = (code_same calls code plan none).marks_are

method_marks_same : (calls : Calls) (plan : Option Insertions) (m : Member) → plan_has_chain plan ≡ false
    → method_marks calls plan m ≡ plain.method_marks calls.free plan m
method_marks_same calls plan m none = marks_in_same calls (code_of m) plan none

module _ (plans : Plans) (none : (method : ℕ) → plan_has_chain (plans method) ≡ false) where
  none_among : (first n : ℕ) → list_any (λ method. plan_has_chain (plans method)) (range_with_len first n) ≡ false
  none_among first zero = refl
  none_among first (suc n) = ap (λ b. b || list_any (λ method. plan_has_chain (plans method)) (range_with_len (first + 1) n)) (none first) ∙ none_among (first + 1) n

  pub class_none : (first : ℕ) (c : ClassDef) → class_has_chain plans first c ≡ false
  class_none first c = none_among first (length c.methods)

  -- the entries of a class without chains
  abbrev pub plain_calls : ClassDef → Calls
  plain_calls c = calls_for false c.pool.entries

  pub calls_same : (first : ℕ) (c : ClassDef) → class_calls plans first c ≡ plain_calls c
  calls_same first c = ap (λ b. calls_for b c.pool.entries) (class_none first c)

  methods_same : (calls : Calls) (first : ℕ) (methods : List Member) → chained_methods plans calls first methods ≡ rewritten_methods plans calls.free first methods
  methods_same calls first [] = refl
  methods_same calls first (m ∷ methods) = λ k. method_same calls (plans first) (none first) m k ∷ methods_same calls (first + 1) methods k

  -- a class that is written without chains, as it is or changed
  abbrev by_change : (first : ℕ) → ClassDef → Bool → ClassDef
  by_change first c false = c
  by_change first c true = record c {
    minor = 0;
    major = rewritten_major;
    pool = record { entries = with_free c.pool.entries };
    methods = rewritten_methods plans (free_index c) first c.methods;
  }

  changed_same : (first : ℕ) (c : ClassDef) → changed_class plans first c ≡ by_change first c true
  changed_same first c =
      (λ k. record c {
        minor = 0;
        major = rewritten_major;
        pool = record { entries = entries_for (class_none first c k) c.pool.entries };
        methods = chained_methods plans (calls_for (class_none first c k) c.pool.entries) first c.methods;
      })
      ∙ (λ k. record c {
        minor = 0;
        major = rewritten_major;
        pool = record { entries = with_free c.pool.entries };
        methods = methods_same (plain_calls c) first c.methods k;
      })

  pub class_same : (first : ℕ) (c : ClassDef) → chained_class plans first c ≡ rewritten_class plans first c
  class_same first c = by_test (changes plans first c) where
    by_test : (b : Bool) → cond b (changed_class plans first c) c ≡ by_change first c b
    by_test false = refl
    by_test true = changed_same first c

  classes_same : (first : ℕ) (given : List ClassDef) → chained_from plans first given ≡ rewritten_from plans first given
  classes_same first [] = refl
  classes_same first (c ∷ given) = λ k. class_same first c k ∷ classes_same (first + length c.methods) given k

  marks_of_same : (calls : Calls) (first : ℕ) (methods : List Member) → marks_of_methods plans calls first methods ≡ plain.marks_of_methods plans calls.free first methods
  marks_of_same calls first [] = refl
  marks_of_same calls first (m ∷ methods) =
      λ k. method_marks_same calls (plans first) m (none first) k ∷ marks_of_same calls (first + 1) methods k

  marks_same : (first : ℕ) (given : List ClassDef) → marks_from plans first given ≡ plain.marks_from plans first given
  marks_same first [] = refl
  marks_same first (c ∷ given) =
      (λ k. marks_of_methods plans (calls_same first c k) first c.methods ++ marks_same (first + length c.methods) given k)
      ∙ ap (λ marks. marks ++ plain.marks_from plans (first + length c.methods) given) (marks_of_same (plain_calls c) first c.methods)

pub classes_are_rewritten : ClassesAreRewritten
classes_are_rewritten plans none given = record {
  classes_are = classes_same plans none first_given given;
  marks_are = ap (λ marks. replicate first_given [] ++ marks) (marks_same plans none first_given given);
}

-- ---- all that can be inserted

pub full_chains_are_safe : FullChainsAreSafe
full_chains_are_safe p given written marks full = record {
  facts = full.facts;
  exact = full.exact;
  plans = full_plans p full.facts;
  methods = method-safe p full.facts;
  written_is = full.written_is;
  marks_are = full.marks_are;
}
