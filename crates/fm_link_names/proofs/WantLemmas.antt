-- What is wanted of each member, noted one instruction after the other.
use Rattle.std.proofs.Common.{◌≡◌, refl, sym, ◌∙◌, ap, ℕ, ◌+◌, ◌<◌, ◌⊎◌, inl, inr, Bool, true, false, cond, not, ◌||◌, List, [], ◌∷◌, ◌++◌, length, replicate, drop, get_or, set, nat_eq, Option, Some, None, arith, length-set, get_or-set_same, get_or-set_other, zero-add}
use Rattle.std.proofs.Math.Bool.{or-false, or-true}
use Rattle.std.specs.List.{flat_map, filter_map, cons_option, list_any}
use Rattle.std.proofs.lemmas.Bool.{cases_eq}
use Rattle.std.proofs.lemmas.List.{ext_get_or, get_or-replicate, length-replicate}
use Rattle.std.proofs.lemmas.List.FromFn.{get_or-map-range_with_len, length-map-range_with_len}
use Rattle.fm_base.proofs.ListFacts.{drop_here}
use Rattle.fm_base.proofs.TestFacts.{same-nat_eq}
use Rattle.fm_code.specs.declared.class_file.ClassDef.{ClassDef}
use Rattle.fm_code.specs.declared.class_file.Member.{Member}
use Rattle.fm_code.specs.declared.code_array.Item.{Item}
use Rattle.fm_code.specs.declared.instructions.Insn.{Insn}
use Rattle.fm_link_names.proofs.MarkLemmas.{other_number}
use Rattle.fm_link_names.specs.declared.wanted.Wanted.{Wanted}
use Rattle.fm_link_names.specs.inner.Wanting.{differs_from, is_something, noted, noted_among, noted_if, wanted_by, wanted_of, with_flag}
use Rattle.fm_world.specs.Causes.{differs, wanted_at}
use Rattle.fm_code.specs.Operands.{pool_index}
use Rattle.fm_world.specs.Uses.{class_items, items_of}

-- ---- flags one after the other

abbrev nothing : Wanted
nothing = wanted_of []

abbrev with_flags : Wanted → List Bool → Wanted
with_flags w [] = w
with_flags w (flag ∷ flags) = with_flags (with_flag w flag) flags

abbrev with_option : Wanted → Option Bool → Wanted
with_option w None = w
with_option w (Some flag) = with_flag w flag

or_assoc : (a b c : Bool) → ((a || b) || c) ≡ (a || (b || c))
or_assoc true b c = refl
or_assoc false b c = refl

with_flags-is : (w : Wanted) (flags : List Bool)
    → with_flags w flags ≡ record { in_class = w.in_class || list_any (λ b. b) flags; in_object = w.in_object || list_any not flags }
with_flags-is w [] =
    sym (ap (λ (b : Bool). record { in_class = b; in_object = w.in_object || false }) (or-false w.in_class)
    ∙ ap (λ (b : Bool). record { in_class = w.in_class; in_object = b }) (or-false w.in_object))
with_flags-is w (flag ∷ flags) =
    with_flags-is (with_flag w flag) flags
    ∙ ap (λ (b : Bool). record { in_class = b; in_object = (w.in_object || not flag) || list_any not flags })
    (or_assoc w.in_class flag (list_any (λ b. b) flags))
    ∙ ap (λ (b : Bool). record { in_class = w.in_class || (flag || list_any (λ b. b) flags); in_object = b })
    (or_assoc w.in_object (not flag) (list_any not flags))

with_flags-cons : (w : Wanted) (flag : Option Bool) (flags : List Bool)
    → with_flags (with_option w flag) flags ≡ with_flags w (cons_option flag flags)
with_flags-cons w None flags = refl
with_flags-cons w (Some flag) flags = refl

-- ---- what is noted at an index

abbrev pub names_it : ℕ → Option ℕ → Bool
names_it k None = false
names_it k (Some operand) = nat_eq operand k

-- the flags that items want at an index
abbrev flags_at : (Insn → Option Bool) → ℕ → List Item → List Bool
flags_at flag k items = filter_map (λ item. cond (names_it k (pool_index item.insn)) (flag item.insn) None) items

nothing_either : (b : Bool) → ◌≡◌ {A = Option Bool} (cond b None None) None
nothing_either true = refl
nothing_either false = refl

length-noted_if : (w : List Wanted) (o : Option ℕ) (flag : Option Bool) → length (noted_if w o flag) ≡ length w
length-noted_if w None flag = refl
length-noted_if w (Some i) None = refl
length-noted_if w (Some i) (Some flag) = length-set w i (with_flag (get_or w i nothing) flag)

pub length-noted_among : (flag : Insn → Option Bool) (w : List Wanted) (items : List Item) → length (noted_among flag w items) ≡ length w
length-noted_among flag w [] = refl
length-noted_among flag w (item ∷ items) =
    length-noted_among flag (noted_if w (pool_index item.insn) (flag item.insn)) items ∙ length-noted_if w (pool_index item.insn) (flag item.insn)

get_or-noted : (w : List Wanted) (k : ℕ) → k < length w → (i : ℕ) (flag : Bool) → (i ≡ k) ⊎ (i ≡ k → ⊥)
    → get_or (noted w i flag) k nothing ≡ with_option (get_or w k nothing) (cond (nat_eq i k) (Some flag) None)
get_or-noted w k within i flag (inl same) =
    ap (λ j. get_or (set w j (with_flag (get_or w j nothing) flag)) k nothing) same
    ∙ get_or-set_same w k (with_flag (get_or w k nothing) flag) nothing within
    ∙ sym (ap (λ b. with_option (get_or w k nothing) (cond b (Some flag) None)) (ap (λ j. nat_eq j k) same ∙ same-nat_eq k))
get_or-noted w k within i flag (inr other) =
    get_or-set_other w i k (with_flag (get_or w i nothing) flag) nothing (λ e. other (sym e))
    ∙ sym (ap (λ b. with_option (get_or w k nothing) (cond b (Some flag) None)) (other_number i k other))

get_or-noted_if : (w : List Wanted) (k : ℕ) → k < length w → (o : Option ℕ) (flag : Option Bool)
    → get_or (noted_if w o flag) k nothing ≡ with_option (get_or w k nothing) (cond (names_it k o) flag None)
get_or-noted_if w k within None flag = refl
get_or-noted_if w k within (Some i) None = sym (ap (with_option (get_or w k nothing)) (nothing_either (nat_eq i k)))
get_or-noted_if w k within (Some i) (Some flag) = get_or-noted w k within i flag (cases_eq i k)

pub get_or-noted_among : (flag : Insn → Option Bool) (w : List Wanted) (items : List Item) (k : ℕ) → k < length w
    → get_or (noted_among flag w items) k nothing ≡ with_flags (get_or w k nothing) (flags_at flag k items)
get_or-noted_among flag w [] k within = refl
get_or-noted_among flag w (item ∷ items) k within =
    let o = pool_index item.insn in
    let f = flag item.insn in
    let longer : k < length (noted_if w o f) = let same = length-noted_if w o f in omega (arith, same, within) in
    get_or-noted_among flag (noted_if w o f) items k longer
    ∙ ap (λ x. with_flags x (flags_at flag k items)) (get_or-noted_if w k within o f)
    ∙ with_flags-cons (get_or w k nothing) (cond (names_it k o) f None) (flags_at flag k items)

-- ---- all of a class

pub noted_all : (flag : Insn → Option Bool) (c : ClassDef)
    → noted_among flag (replicate (length c.pool.entries) nothing) (class_items c) ≡ wanted_by flag c
noted_all flag c =
    ext_get_or nothing (noted_among flag (replicate (length c.pool.entries) nothing) (class_items c)) (wanted_by flag c) lengths each where
      long : length (noted_among flag (replicate (length c.pool.entries) nothing) (class_items c)) ≡ length c.pool.entries
      long = length-noted_among flag (replicate (length c.pool.entries) nothing) (class_items c) ∙ length-replicate (length c.pool.entries) nothing

      lengths : length (noted_among flag (replicate (length c.pool.entries) nothing) (class_items c)) ≡ length (wanted_by flag c)
      lengths = long ∙ sym (length-map-range_with_len (λ index. wanted_of (wanted_at flag c index)) 0 (length c.pool.entries))

      each : (i : ℕ) → i < length (noted_among flag (replicate (length c.pool.entries) nothing) (class_items c))
          → get_or (noted_among flag (replicate (length c.pool.entries) nothing) (class_items c)) i nothing ≡ get_or (wanted_by flag c) i nothing
      each i within =
          let below : i < length c.pool.entries = omega (arith, within, long) in
          let inside : i < length (replicate (length c.pool.entries) nothing) = let l = length-replicate (length c.pool.entries) nothing in
          omega (arith, below, l) in
          get_or-noted_among flag (replicate (length c.pool.entries) nothing) (class_items c) i inside
          ∙ ap (λ x. with_flags x (flags_at flag i (class_items c))) (get_or-replicate (length c.pool.entries) i nothing nothing below)
          ∙ with_flags-is nothing (flags_at flag i (class_items c))
          ∙ sym (get_or-map-range_with_len (λ index. wanted_of (wanted_at flag c index)) 0 (length c.pool.entries) i i nothing below (zero-add i))

noted_among-append : (flag : Insn → Option Bool) (w : List Wanted) (xs ys : List Item)
    → noted_among flag w (xs ++ ys) ≡ noted_among flag (noted_among flag w xs) ys
noted_among-append flag w [] ys = refl
noted_among-append flag w (x ∷ xs) ys = noted_among-append flag (noted_if w (pool_index x.insn) (flag x.insn)) xs ys

-- one method after the other
pub noted_step : (flag : Insn → Option Bool) (methods : List Member) (i : ℕ) (m : Member) (items : List Item) (old new all : List Wanted)
    → i < length methods
    → m ≡ get_or methods i m → items ≡ items_of m → new ≡ noted_among flag old items
    → noted_among flag old (flat_map items_of (drop i methods)) ≡ all → noted_among flag new (flat_map items_of (drop (i + 1) methods)) ≡ all
noted_step flag methods i m items old new all within is items_are noted left =
    let rest = flat_map items_of (drop (i + 1) methods) in
    ap (λ w. noted_among flag w rest) (noted ∙ ap (noted_among flag old) items_are)
    ∙ sym (noted_among-append flag old (items_of m) rest)
    ∙ ap (λ ms. noted_among flag old (flat_map items_of ms)) (sym (drop_here methods i m within is))
    ∙ left

-- ---- what callers ask

-- whether there is no flag
abbrev pub is_empty : List Bool → Bool
is_empty [] = true
is_empty (flag ∷ flags) = false

any_of : (flags : List Bool) → (list_any (λ b. b) flags || list_any not flags) ≡ not (is_empty flags)
any_of [] = refl
any_of (true ∷ flags) = refl
any_of (false ∷ flags) = or-true (list_any (λ b. b) flags)

-- something is wanted where there is a flag
pub something_wanted : (flags : List Bool) → is_something (wanted_of flags) ≡ not (is_empty flags)
something_wanted flags = any_of flags

-- another flag is wanted where one differs
pub differs_wanted : (flags : List Bool) (is_static : Bool) → differs_from (wanted_of flags) is_static ≡ list_any (differs is_static) flags
differs_wanted flags true = refl
differs_wanted flags false = refl
