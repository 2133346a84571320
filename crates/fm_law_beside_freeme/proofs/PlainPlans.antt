-- What is written by plans, and what is counted of it, doesn't depend on the numbers of their
-- holders' classes.
use Rattle.std.proofs.Common.{◌≡◌, refl, ◌∙◌, ap, ℕ, ◌+◌, ◌*◌, ◌++◌, Bool, true, false, cond, List, [], ◌∷◌, length, map, Option, Some, None, is_some}
use Rattle.std.specs.Prelude.{◌==◌}
use Rattle.std.specs.List.{flat_map, list_any, range_with_len, sum}
use Rattle.std.specs.Option.{option_map}
use Rattle.std.proofs.lemmas.List.{length-map}
use Rattle.fm_code.specs.FreeEntries.{with_free}
use Rattle.fm_code.specs.Members.{code_of}
use Rattle.fm_code.specs.declared.class_file.ClassDef.{ClassDef}
use Rattle.fm_code.specs.declared.class_file.Member.{Member}
use Rattle.fm_code.specs.declared.class_file.MemberAttr.{MemberAttr}
use Rattle.fm_code.specs.declared.class_file.MemberAttr.TheVariants as attribute
use Rattle.fm_code.specs.declared.code_array.Code.{Code}
use Rattle.fm_code.specs.declared.code_array.Item.{Item}
use Rattle.fm_code.specs.declared.instructions.Insn.{Insn}
use Rattle.fm_layout.specs.Laid.{laid_of, marks_of}
use Rattle.fm_layout.specs.Tables.{moved_tables}
use Rattle.fm_layout.specs.declared.new_items.NewItem.{NewItem}
use Rattle.fm_place.specs.Insertions.{after_at, before_at, Holder, Insertions, numbers_of}
use Rattle.fm_place.specs.Rewriting.{changes, free_count, free_index, frees_in, marks_from, marks_in, marks_of_methods, method_marks, Plans, rewritten_attribute, rewritten_class, rewritten_from, rewritten_major, rewritten_method, rewritten_methods, site_count, sites_in}
use Rattle.fm_place.specs.Woven.{anchors_from, anchors_of, count_at, freed, freed_items, kept, local_of, null_stored, null_stored_items, top_stored, top_stored_items, woven, woven_code, woven_from, woven_item}
use Rattle.fm_rewrite.specs.Rewritten.{counts_from}
use Rattle.fm_rewrite.specs.declared.counts.Count.{Count}
use Rattle.fm_place_weave.proofs.ClassLawLemmas.{by_change}

-- ---- plans without the numbers of classes

-- a holder without the number of its class
abbrev pub unnumbered : Holder → Holder
unnumbered h = record h { class = 0 }

-- insertions without these numbers
abbrev pub plain : Insertions → Insertions
plain plan = record { holders = map unnumbered plan.holders; before = plan.before }

-- and plans
abbrev pub plains : Plans → Plans
plains plans method = option_map plain (plans method)

-- ---- one code

numbers_plain : (j n : ℕ) (holders : List Holder) → numbers_of (λ h. h.site == j) n (map unnumbered holders) ≡ numbers_of (λ h. h.site == j) n holders
numbers_plain j n [] = refl
numbers_plain j n (h ∷ holders) = ap (λ ks. cond (h.site == j) (n ∷ ks) ks) (numbers_plain j (n + 1) holders)

pub after_plain : (plan : Insertions) (j : ℕ) → after_at (plain plan) j ≡ after_at plan j
after_plain plan j = numbers_plain j 0 plan.holders

count_plain : (plan : Insertions) (j : ℕ) → count_at (plain plan) j ≡ count_at plan j
count_plain plan j = ap (λ (hs : List ℕ). freed_items * length (before_at plan j) + 1 + top_stored_items * length hs) (after_plain plan j)

anchors_from_plain : (plan : Insertions) (number j : ℕ) (items : List Item) → anchors_from (plain plan) number j items ≡ anchors_from plan number j items
anchors_from_plain plan number j [] = refl
anchors_from_plain plan number j (item ∷ items) =
    ap (λ rest. number ∷ rest)
    (ap (λ c. anchors_from (plain plan) (number + c) (j + 1) items) (count_plain plan j) ∙ anchors_from_plain plan (number + count_at plan j) (j + 1) items)

anchors_plain : (plan : Insertions) (items : List Item) → anchors_of (plain plan) items ≡ anchors_of plan items
anchors_plain plan items =
    ap (λ n. anchors_from (plain plan) (null_stored_items * n) 0 items) (length-map plan.holders unnumbered)
    ∙ anchors_from_plain plan (null_stored_items * length plan.holders) 0 items

item_plain : (free : ℕ) (code : Code) (plan : Insertions) (anchors : List ℕ) (j : ℕ) (i : Insn)
    → woven_item free code (plain plan) anchors j i ≡ woven_item free code plan anchors j i
item_plain free code plan anchors j i =
    ap (λ (hs : List ℕ). flat_map (λ h. freed free (local_of code h)) (before_at plan j)
    ++ kept anchors j i ∷ flat_map (λ h. top_stored (local_of code h)) hs) (after_plain plan j)

from_plain : (free : ℕ) (code : Code) (plan : Insertions) (anchors : List ℕ) (j : ℕ) (items : List Item)
    → woven_from free code (plain plan) anchors j items ≡ woven_from free code plan anchors j items
from_plain free code plan anchors j [] = refl
from_plain free code plan anchors j (item ∷ items) =
    (λ k. item_plain free code plan anchors j item.insn k ++ from_plain free code plan anchors (j + 1) items k)

woven_plain : (free : ℕ) (code : Code) (plan : Insertions) → woven free code (plain plan) ≡ woven free code plan
woven_plain free code plan =
    (λ k. flat_map (λ h. null_stored (local_of code h)) (range_with_len 0 (length-map plan.holders unnumbered k))
    ++ woven_from free code (plain plan) (anchors_plain plan code.items k) 0 code.items)
    ∙ ap (λ (items : List NewItem). flat_map (λ h. null_stored (local_of code h)) (range_with_len 0 (length plan.holders)) ++ items)
    (from_plain free code plan (anchors_of plan code.items) 0 code.items)

-- the code of woven items
abbrev coded_by : Code → List NewItem → (anchors : List ℕ) → (holders : ℕ) → Code
coded_by code items anchors holders =
    let laid = laid_of code.items items in
    let tables = moved_tables code laid anchors in
    record {
      max_stack = code.max_stack + 1;
      max_locals = code.max_locals + holders;
      items = laid.items;
      length = laid.length;
      handlers = tables.handlers;
      attributes = tables.attributes;
    }

code_plain : (free : ℕ) (code : Code) (plan : Insertions) → woven_code free code (plain plan) ≡ woven_code free code plan
code_plain free code plan =
    λ k. coded_by code (woven_plain free code plan k) (anchors_plain plan code.items k) (length-map plan.holders unnumbered k)

-- ---- methods and classes

attribute_plain : (free : ℕ) (plan : Insertions) (a : MemberAttr) → rewritten_attribute free (plain plan) a ≡ rewritten_attribute free plan a
attribute_plain free plan (attribute.Coded name code) = ap (attribute.Coded name) (code_plain free code plan)
attribute_plain free plan a = refl

method_plain : (free : ℕ) (plan : Option Insertions) (m : Member) → rewritten_method free (option_map plain plan) m ≡ rewritten_method free plan m
method_plain free None m = refl
method_plain free (Some plan) m = λ k. record m { attributes = map (λ a. attribute_plain free plan a k) m.attributes }

marks_in_plain : (free : ℕ) (code : Option Code) (plan : Option Insertions) → marks_in free code (option_map plain plan) ≡ marks_in free code plan
marks_in_plain free None plan = refl
marks_in_plain free (Some code) None = refl
marks_in_plain free (Some code) (Some plan) = ap (marks_of code.items) (woven_plain free code plan)

is_some_plain : (o : Option Insertions) → is_some (option_map plain o) ≡ is_some o
is_some_plain None = refl
is_some_plain (Some plan) = refl

site_count_plain : (o : Option Insertions) → site_count (option_map plain o) ≡ site_count o
site_count_plain None = refl
site_count_plain (Some plan) = length-map plan.holders unnumbered

free_count_plain : (o : Option Insertions) → free_count (option_map plain o) ≡ free_count o
free_count_plain None = refl
free_count_plain (Some plan) = refl

module _ (plans : Plans) where
  methods_plain : (free first : ℕ) (methods : List Member) → rewritten_methods (plains plans) free first methods ≡ rewritten_methods plans free first methods
  methods_plain free first [] = refl
  methods_plain free first (m ∷ methods) = (λ k. method_plain free (plans first) m k ∷ methods_plain free (first + 1) methods k)

  pub changes_plain : (first : ℕ) (c : ClassDef) → changes (plains plans) first c ≡ changes plans first c
  changes_plain first c = λ k. list_any (λ method. is_some_plain (plans method) k) (range_with_len first (length c.methods))

  class_by_plain : (first : ℕ) (c : ClassDef) (b : Bool) → by_change (plains plans) first c b ≡ by_change plans first c b
  class_by_plain first c false = refl
  class_by_plain first c true = λ k. record c {
    minor = 0;
    major = rewritten_major;
    pool = record { entries = with_free c.pool.entries };
    methods = methods_plain (free_index c) first c.methods k;
  }

  class_plain : (first : ℕ) (c : ClassDef) → rewritten_class (plains plans) first c ≡ rewritten_class plans first c
  class_plain first c = ap (by_change (plains plans) first c) (changes_plain first c) ∙ class_by_plain first c (changes plans first c)

  pub classes_plain : (first : ℕ) (given : List ClassDef) → rewritten_from (plains plans) first given ≡ rewritten_from plans first given
  classes_plain first [] = refl
  classes_plain first (c ∷ given) = (λ k. class_plain first c k ∷ classes_plain (first + length c.methods) given k)

  method_marks_plain : (free first : ℕ) (m : Member) → method_marks free (plains plans first) m ≡ method_marks free (plans first) m
  method_marks_plain free first m = marks_in_plain free (code_of m) (plans first)

  marks_of_plain : (free first : ℕ) (methods : List Member) → marks_of_methods (plains plans) free first methods ≡ marks_of_methods plans free first methods
  marks_of_plain free first [] = refl
  marks_of_plain free first (m ∷ methods) = (λ k. method_marks_plain free first m k ∷ marks_of_plain free (first + 1) methods k)

  pub marks_plain : (first : ℕ) (given : List ClassDef) → marks_from (plains plans) first given ≡ marks_from plans first given
  marks_plain first [] = refl
  marks_plain first (c ∷ given) = (λ k. marks_of_plain (free_index c) first c.methods k ++ marks_plain (first + length c.methods) given k)

  count_of_plain : (first : ℕ) (c : ClassDef)
      → ◌≡◌ {A = Count} (record { sites = sites_in (plains plans) first c; frees = frees_in (plains plans) first c })
      (record { sites = sites_in plans first c; frees = frees_in plans first c })
  count_of_plain first c = λ k. record {
    sites = sum (map (λ method. site_count_plain (plans method) k) (range_with_len first (length c.methods)));
    frees = sum (map (λ method. free_count_plain (plans method) k) (range_with_len first (length c.methods)));
  }

  pub counts_plain : (first : ℕ) (given : List ClassDef) → counts_from (plains plans) first given ≡ counts_from plans first given
  counts_plain first [] = refl
  counts_plain first (c ∷ given) = (λ k. count_of_plain first c k ∷ counts_plain (first + length c.methods) given k)
