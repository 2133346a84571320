-- What is inserted with chains, and the first cause against it, don't depend on the numbers of the classes of holders.
use Rattle.std.proofs.Common.{◌≡◌, refl, ◌∙◌, ap, ℕ, zero, suc, ◌+◌, ◌*◌, ◌&&◌, ◌||◌, ◌++◌, cond, List, [], ◌∷◌, length, map, Option, Some, None, option_and_then}
use Rattle.std.specs.Prelude.{nat_lt, slice_get}
use Rattle.std.specs.List.{flat_map, list_any, range_with_len, sum}
use Rattle.std.specs.Option.{option_map, option_or}
use Rattle.std.proofs.lemmas.List.{length-map}
use Rattle.fm_chain.specs.Chained.{anchors_from, anchors_of, chained, chained_item, chained_items, count_at, has_chain, holds_chain, released, taken, taken_items}
use Rattle.fm_chain.specs.Chaining.{calls_for, class_calls, class_has_chain, entries_for, plan_has_chain}
use Rattle.fm_chain.specs.declared.calls.Calls.{Calls}
use Rattle.fm_code.specs.Members.{code_of}
use Rattle.fm_code.specs.declared.class_file.ClassDef.{ClassDef}
use Rattle.fm_code.specs.declared.class_file.Member.{Member}
use Rattle.fm_code.specs.declared.code_array.Code.{Code}
use Rattle.fm_code.specs.declared.code_array.Item.{Item}
use Rattle.fm_code.specs.declared.code_array.TheConstants.{MAX_CODE_BYTES}
use Rattle.fm_code.specs.declared.instructions.Insn.{Insn}
use Rattle.fm_layout.specs.Laid.{laid_length, refused_length}
use Rattle.fm_layout.specs.declared.new_items.NewItem.{NewItem}
use Rattle.fm_law_beside_freeme.proofs.PlainPlans.{after_plain, changes_plain, plain, plains, unnumbered}
use Rattle.fm_place.specs.Insertions.{before_at, Holder, Insertions}
use Rattle.fm_place.specs.Rewriting.{first_given, Plans}
use Rattle.fm_place.specs.Woven.{freed_items, kept, local_of, null_stored, null_stored_items}
use Rattle.fm_rewrite.specs.Causes.{first_cause, full_from, full_pool, long_among, long_code, long_from, long_method, max_pool_indices, method_too_long, pool_full}
use Rattle.fm_world.specs.BuiltIns.{built_in}

-- ---- one code

-- which holders hold chains doesn't depend on these numbers
looped_plain : (holders : List Holder) (number : ℕ) → holds_chain (slice_get (map unnumbered holders) number) ≡ holds_chain (slice_get holders number)
looped_plain [] number = refl
looped_plain (h ∷ holders) zero = refl
looped_plain (h ∷ holders) (suc number) = looped_plain holders number

any_plain : (holders : List Holder) → list_any (λ (h : Holder). h.looped) (map unnumbered holders) ≡ list_any (λ (h : Holder). h.looped) holders
any_plain [] = refl
any_plain (h ∷ holders) = ap (λ b. h.looped || b) (any_plain holders)

pub has_plain : (plan : Insertions) → has_chain (plain plan) ≡ has_chain plan
has_plain plan = any_plain plan.holders

count_plain : (plan : Insertions) (j : ℕ) → count_at (plain plan) j ≡ count_at plan j
count_plain plan j =
    λ k. freed_items * length (before_at plan j) + 1 + sum (map (λ h. taken_items (looped_plain plan.holders h k)) (after_plain plan j k))

anchors_from_plain : (plan : Insertions) (number j : ℕ) (items : List Item) → anchors_from (plain plan) number j items ≡ anchors_from plan number j items
anchors_from_plain plan number j [] = refl
anchors_from_plain plan number j (item ∷ items) =
    ap (λ rest. number ∷ rest)
    (ap (λ c. anchors_from (plain plan) (number + c) (j + 1) items) (count_plain plan j) ∙ anchors_from_plain plan (number + count_at plan j) (j + 1) items)

pub anchors_plain : (plan : Insertions) (items : List Item) → anchors_of (plain plan) items ≡ anchors_of plan items
anchors_plain plan items =
    ap (λ n. anchors_from (plain plan) (null_stored_items * n) 0 items) (length-map plan.holders unnumbered)
    ∙ anchors_from_plain plan (null_stored_items * length plan.holders) 0 items

item_plain : (calls : Calls) (code : Code) (plan : Insertions) (anchors : List ℕ) (j : ℕ) (i : Insn)
    → chained_item calls code (plain plan) anchors j i ≡ chained_item calls code plan anchors j i
item_plain calls code plan anchors j i =
    λ k. flat_map (λ h. released calls (looped_plain plan.holders h k) (local_of code h)) (before_at plan j)
    ++ kept anchors j i ∷ flat_map (λ h. taken calls (looped_plain plan.holders h k) (local_of code h)) (after_plain plan j k)

items_plain : (calls : Calls) (code : Code) (plan : Insertions) (anchors : List ℕ) (j : ℕ) (items : List Item)
    → chained_items calls code (plain plan) anchors j items ≡ chained_items calls code plan anchors j items
items_plain calls code plan anchors j [] = refl
items_plain calls code plan anchors j (item ∷ items) =
    (λ k. item_plain calls code plan anchors j item.insn k ++ items_plain calls code plan anchors (j + 1) items k)

pub chained_plain : (calls : Calls) (code : Code) (plan : Insertions) → chained calls code (plain plan) ≡ chained calls code plan
chained_plain calls code plan =
    (λ k. flat_map (λ h. null_stored (local_of code h)) (range_with_len 0 (length-map plan.holders unnumbered k))
    ++ chained_items calls code (plain plan) (anchors_plain plan code.items k) 0 code.items)
    ∙ ap (λ (items : List NewItem). flat_map (λ h. null_stored (local_of code h)) (range_with_len 0 (length plan.holders)) ++ items)
    (items_plain calls code plan (anchors_of plan code.items) 0 code.items)

-- ---- methods and classes

plan_plain : (plan : Option Insertions) → plan_has_chain (option_map plain plan) ≡ plan_has_chain plan
plan_plain None = refl
plan_plain (Some plan) = has_plain plan

long_plain : (calls : Calls) (plan : Option Insertions) (m : Member) → long_method calls (option_map plain plan) m ≡ long_method calls plan m
long_plain calls None m = refl
long_plain calls (Some plan) m = by_code (code_of m) where
  by_code : (o : Option Code) → option_and_then (long_code calls (plain plan)) o ≡ option_and_then (long_code calls plan) o
  by_code None = refl
  by_code (Some code) =
      ap (λ (items : List NewItem). cond (nat_lt MAX_CODE_BYTES (laid_length code.items items)) (Some (refused_length code.items items)) None)
      (chained_plain calls code plan)

module _ (plans : Plans) where
  pub class_plain_chain : (first : ℕ) (c : ClassDef) → class_has_chain (plains plans) first c ≡ class_has_chain plans first c
  class_plain_chain first c = λ k. list_any (λ method. plan_plain (plans method) k) (range_with_len first (length c.methods))

  pub calls_plain : (first : ℕ) (c : ClassDef) → class_calls (plains plans) first c ≡ class_calls plans first c
  calls_plain first c = ap (λ chains. calls_for chains c.pool.entries) (class_plain_chain first c)

  -- ---- causes

  pool_plain : (first : ℕ) (c : ClassDef) → full_pool (plains plans) first c ≡ full_pool plans first c
  pool_plain first c =
      λ k. cond (changes_plain plans first c k && nat_lt max_pool_indices (length (entries_for (class_plain_chain first c k) c.pool.entries)))
      (Some (length (entries_for (class_plain_chain first c k) c.pool.entries))) None

  pools_plain : (class first : ℕ) (given : List ClassDef) → full_from (plains plans) class first given ≡ full_from plans class first given
  pools_plain class first [] = refl
  pools_plain class first (c ∷ given) =
      (λ k. option_or (option_map (λ indices. (class, indices)) (pool_plain first c k)) (pools_plain (class + 1) (first + length c.methods) given k))

  among_plain : (calls : Calls) (first : ℕ) (methods : List Member) → long_among (plains plans) calls first methods ≡ long_among plans calls first methods
  among_plain calls first [] = refl
  among_plain calls first (m ∷ methods) =
      (λ k. option_or (option_map (λ bytes. (first, bytes)) (long_plain calls (plans first) m k)) (among_plain calls (first + 1) methods k))

  longs_plain : (first : ℕ) (given : List ClassDef) → long_from (plains plans) first given ≡ long_from plans first given
  longs_plain first [] = refl
  longs_plain first (c ∷ given) =
      (λ k. option_or (long_among (plains plans) (calls_plain first c k) first c.methods) (longs_plain (first + length c.methods) given k))
      ∙ ap (λ (o : Option (ℕ × ℕ)). option_or o (long_from plans (first + length c.methods) given)) (among_plain (class_calls plans first c) first c.methods)

  pub cause_plain : (given : List ClassDef) → first_cause (plains plans) given ≡ first_cause plans given
  cause_plain given =
      λ k. option_or (option_map pool_full (pools_plain (length built_in) first_given given k)) (option_map method_too_long (longs_plain first_given given k))
