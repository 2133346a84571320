-- Where no superclass and no interface is refused, no chain leads into a cycle, and the classes are a tree below Object.
use Rattle.std.proofs.Common.{◌≡◌, refl, sym, ◌∙◌, ap, subst, ℕ, zero, suc, ◌+◌, ◌-◌, ◌<◌, ◌≤◌, ◌⊎◌, inl, inr, ◌==◌, ◌&&◌, ◌||◌, not, Bool, true, false, cond, List, [], ◌∷◌, ◌++◌, length, map, filter, nat_eq, get_or, slice_get, Option, Some, None, IsSome, option_and_then, unwrap_or, arith, zero-add, length-append}
use Rattle.std.specs.List.{AllByRecursion, cons_option, filter_map, flat_map, list_any}
use Rattle.std.specs.Str.{bytes_eq}
use Rattle.std.proofs.lemmas.Bool.{cases_lt, eqb-true, false≢true, not-false, or_cases, or_left, or_parts, or_right}
use Rattle.std.proofs.lemmas.List.{get_or-append-add, get_or_past}
use Rattle.std.proofs.lemmas.List.FromFn.{get_or-range_with_len, length-range_with_len}
use Rattle.std.proofs.lemmas.Option.{none-some, same_Some}
use Rattle.std.specs.Cmp.Lexicographic.{same_text}
use Rattle.fm_base.proofs.TestFacts.{same-nat_eq}
use Rattle.fm_code.specs.AccessFlags.{is_interface}
use Rattle.fm_code.specs.ConstantPool.{AreSlots, class_name_at}
use Rattle.fm_code.specs.Spells.{HasSpelling}
use Rattle.fm_code.specs.declared.class_file.ClassDef.{ClassDef}
use Rattle.fm_code.specs.declared.code_array.Item.{Item}
use Rattle.fm_code.specs.declared.constant_pool.Entry.{Entry}
use Rattle.fm_code.specs.declared.constant_pool.Entry.TheVariants as entry
use Rattle.fm_link_supers.proofs.BuiltInParents.{are_completed, built_in_fit, declared_at, is_other_than_object, IsFit, object_is_class, object_number_is, object_parent_is}
pub use Rattle.fm_link_supers.proofs.BuiltInParents.{nil_left, nil_right, none_of}
use Rattle.fm_link_supers.proofs.Downwards.{among_head, among_left}
use Rattle.fm_link_supers.proofs.InterfaceLemmas.{any_ends, listed_past}
use Rattle.fm_link_supers.proofs.ParentTables.{parent_past}
use Rattle.fm_link_supers.specs.inner.Hierarchy.{AreSound}
use Rattle.fm_world.proofs.Completions.{interface-declared}
use Rattle.fm_world.proofs.Displays.{is_among_at}
use Rattle.fm_world.specs.BuiltIns.{built_in, object_name}
use Rattle.fm_world.specs.Causes.{bad_parent_at, bad_parents, bad_superclass, goes_deep, goes_up, is_bad_interface, is_bad_superclass, is_there_and, Refusal, refused_if}
use Rattle.fm_world.specs.Chains.{class_at, is_among, listed_interfaces, parent_of, superclass_in}
use Rattle.fm_world.specs.Declarations.{declared_from, declared_of, name_at, no_class}
use Rattle.fm_world.specs.Descriptors.{class_number}
use Rattle.fm_world.specs.Linking.{refused_built_ins, refused_parents}
use Rattle.fm_world.specs.Lookups.{is_interface_at, object_number}
use Rattle.fm_world.specs.Programs.{classes_of}
use Rattle.fm_code.specs.Operands.{pool_index}
use Rattle.fm_world.specs.Uses.{caught_by, class_items, is_used, values_of, pool_indices, used_indices, uses_in_order}
use Rattle.fm_world.specs.declared.declarations.DeclaredClass.{DeclaredClass}

-- ---- lists without refusals

pub none_at : (f : ℕ → List Refusal) (xs : List ℕ) (i : ℕ) → flat_map f xs ≡ [] → is_among i xs ≡ true → f i ≡ []
none_at f [] i none among = absurd (false≢true among)
none_at f (y ∷ ys) i none among =
    by_case (none_at f ys i (nil_right (f y) (flat_map f ys) none)) (or_cases (nat_eq i y) (is_among i ys) among) where
      by_case : (is_among i ys ≡ true → f i ≡ []) → (nat_eq i y ≡ true) ⊎ (is_among i ys ≡ true) → f i ≡ []
      by_case later (inl same) = ap f (eqb-true i y same) ∙ nil_left (f y) (flat_map f ys) none
      by_case later (inr there) = later there

-- ---- the indices that are judged

pub among_filter : (p : ℕ → Bool) (x : ℕ) (xs : List ℕ) → is_among x xs ≡ true → p x ≡ true → is_among x (filter p xs) ≡ true
among_filter p x [] among passes = absurd (false≢true among)
among_filter p x (y ∷ ys) among passes =
    by_case (λ h. among_filter p x ys h passes) (or_cases (nat_eq x y) (is_among x ys) among) (p y) refl where
      by_case : (is_among x ys ≡ true → is_among x (filter p ys) ≡ true) → (nat_eq x y ≡ true) ⊎ (is_among x ys ≡ true) → (b : Bool) → p y ≡ b
          → is_among x (cond b (y ∷ filter p ys) (filter p ys)) ≡ true
      by_case later (inl same) true e = ap (λ b. b || is_among x (filter p ys)) same
      by_case later (inl same) false e = absurd (false≢true (sym e ∙ sym (ap p (eqb-true x y same)) ∙ passes))
      by_case later (inr there) true e = or_right (nat_eq x y) (is_among x (filter p ys)) (later there)
      by_case later (inr there) false e = later there

judged : (classes : List DeclaredClass) (c : ClassDef) (index : ℕ) → bad_parents classes c ≡ [] → index < length c.pool.entries → is_used c index ≡ true
    → bad_parent_at classes c index ≡ []
judged classes c index none within used =
    let n = length c.pool.entries in
    let inside : index < length (pool_indices c) = let l = length-range_with_len 0 n in omega (arith, within, l) in
    let there = is_among_at (pool_indices c) index index inside (get_or-range_with_len 0 n index 0 within ∙ zero-add index) in
    none_at (bad_parent_at classes c) (uses_in_order c) index none (among_filter (is_used c) index (pool_indices c) there used)

pub superclass_used : (c : ClassDef) → is_used c c.super_class ≡ true
unfolding used_indices
superclass_used c = or_right (nat_eq c.super_class c.this_class) _ (or_left (nat_eq c.super_class c.super_class) _ (same-nat_eq c.super_class))

abbrev operands_in_class : ClassDef → List ℕ
operands_in_class c = filter_map (λ (item : Item). pool_index item.insn) (class_items c)

interface_used : (c : ClassDef) (index : ℕ) → is_among index c.interfaces ≡ true → is_used c index ≡ true
unfolding used_indices
interface_used c index among = or_right (nat_eq index c.this_class) _ (or_right (nat_eq index c.super_class) _
    (among_left index ((c.interfaces ++ flat_map values_of c.fields) ++ operands_in_class c) (flat_map caught_by c.methods)
    (among_left index (c.interfaces ++ flat_map values_of c.fields) (operands_in_class c) (among_left index c.interfaces (flat_map values_of c.fields) among))))

pub name_within : (entries : List Entry) (index : ℕ) → IsSome (class_name_at entries index) → index < length entries
name_within entries index some = by_place (cases_lt index (length entries)) where
  by_place : (index < length entries) ⊎ (length entries ≤ index) → index < length entries
  by_place (inl h) = h
  by_place (inr h) = absurd (false≢true (rw (get_or_past entries index entry.Second h) at some))

-- ---- a superclass that isn't refused

pub not_refused : (a b : Bool) (r s : Refusal) → cond a (r ∷ []) (cond b (s ∷ []) []) ≡ [] → (a ≡ false) × (b ≡ false)
not_refused false false r s e = (refl, refl)
not_refused false true r s e = absurd (omega (arith, ap length e))
not_refused true b r s e = absurd (omega (arith, ap length e))

pub if_true : (b : Bool) (xs : List Refusal) → b ≡ true → cond b xs [] ≡ [] → xs ≡ []
if_true true xs e h = h
if_true false xs e h = absurd (false≢true e)

superclass_judged : (classes : List DeclaredClass) (c : ClassDef) → bad_parents classes c ≡ [] → c.super_class < length c.pool.entries
    → ((c.super_class == 0) ≡ false) × (is_bad_superclass classes c (name_at c.pool.entries c.super_class) ≡ false)
superclass_judged classes c none within =
    let all = judged classes c c.super_class none within (superclass_used c) in
    not_refused (c.super_class == 0) (is_bad_superclass classes c (name_at c.pool.entries c.super_class)) _ _
    (if_true (c.super_class == c.super_class) (bad_superclass classes c) (same-nat_eq c.super_class) (nil_left (cond (c.super_class == c.super_class) (bad_superclass classes c) []) _ all))

pub refused_not : (b : Bool) (r : Refusal) → refused_if b r ≡ [] → b ≡ false
refused_not false r e = refl
refused_not true r e = absurd (omega (arith, ap length e))

interface_judged : (classes : List DeclaredClass) (c : ClassDef) (index : ℕ) → bad_parents classes c ≡ [] → index < length c.pool.entries
    → is_among index c.interfaces ≡ true → is_bad_interface classes (name_at c.pool.entries index) ≡ false
interface_judged classes c index none within among =
    let all = judged classes c index none within (interface_used c index among) in
    refused_not (is_bad_interface classes (name_at c.pool.entries index)) _
    (if_true (is_among index c.interfaces) _ among (nil_right (cond (index == c.super_class) (bad_superclass classes c) []) _ all))

-- ---- a file

pub some_entries : (entries : List Entry) → AreSlots true entries → 0 < length entries
some_entries [] slots = absurd slots
some_entries (e ∷ entries) slots = omega arith

-- its superclass has a name, which isn't refused
pub record HasSuperclass (classes : List DeclaredClass) (c : ClassDef) : Type 0 where
  pub name : List ℕ
  pub named : class_name_at c.pool.entries c.super_class ≡ Some name
  pub good : is_bad_superclass classes c name ≡ false

superclass_there : (classes : List DeclaredClass) (c : ClassDef) → HasSpelling c → bad_parents classes c ≡ [] → HasSuperclass classes c
superclass_there classes c spelled none = by_sort spelled.1.super_class where
  entries : List Entry
  entries = c.pool.entries

  by_name : (o : Option (List ℕ)) → class_name_at entries c.super_class ≡ o → IsSome o → is_bad_superclass classes c (unwrap_or o []) ≡ false → HasSuperclass classes c
  by_name None e some good = absurd (false≢true some)
  by_name (Some name) e some good = record { name = name; named = e; good = good }

  by_sort : (c.super_class ≡ 0) ⊎ IsSome (class_name_at entries c.super_class) → HasSuperclass classes c
  by_sort (inl zero_is) =
      let some = some_entries entries spelled.1.pool.slots in
      let within : c.super_class < length entries = omega (arith, zero_is, some) in
      absurd (false≢true (sym (superclass_judged classes c none within).0 ∙ ap (λ k. k == 0) zero_is))
  by_sort (inr some) =
      by_name (class_name_at entries c.super_class) refl some (superclass_judged classes c none (name_within entries c.super_class some)).1

-- an interface's superclass is Object
object_alone : (classes : List DeclaredClass) (name : List ℕ) → object_number classes ≡ Some 0 → (a b : Bool) → bytes_eq name object_name ≡ b
    → (a && not b) ≡ false → (a && is_other_than_object (class_number classes name)) ≡ false
object_alone classes name object false b is e = refl
object_alone classes name object true false is e = absurd (false≢true (sym e))
object_alone classes name object true true is e = ap is_other_than_object (ap (class_number classes) (same_text name object_name (sym is)) ∙ object)

all_at : (P : ℕ → Type 0) (xs : List ℕ) (i : ℕ) → AllByRecursion P xs → is_among i xs ≡ true → P i
all_at P [] i all among = absurd (false≢true among)
all_at P (x ∷ xs) i all among = by_case (all_at P xs i all.1) (or_cases (nat_eq i x) (is_among i xs) among) where
  by_case : (is_among i xs ≡ true → P i) → (nat_eq i x ≡ true) ⊎ (is_among i xs ≡ true) → P i
  by_case later (inl same) = subst P (sym (eqb-true i x same)) all.0
  by_case later (inr there) = later there

-- an interface that is refused: it is none, or leads into a cycle
abbrev pub is_wrong : List DeclaredClass → ℕ → Bool
is_wrong classes i = not (is_interface_at classes i) || goes_deep (length classes) classes i

none_wrong : (q : ℕ → Bool) (o : Option ℕ) (rest : List ℕ) → is_there_and q o ≡ false → list_any q rest ≡ false → list_any q (cons_option o rest) ≡ false
none_wrong q None rest here others = others
none_wrong q (Some i) rest here others = ap (λ b. b || list_any q rest) here ∙ others

listed_good : (classes : List DeclaredClass) (entries : List Entry) (indices : List ℕ)
    → ((index : ℕ) → is_among index indices ≡ true → is_there_and (is_wrong classes) (class_number classes (name_at entries index)) ≡ false)
    → list_any (is_wrong classes) (filter_map (class_number classes) (map (name_at entries) indices)) ≡ false
listed_good classes entries [] good = refl
listed_good classes entries (x ∷ xs) good =
    none_wrong (is_wrong classes) (class_number classes (name_at entries x)) (filter_map (class_number classes) (map (name_at entries) xs))
    (good x (among_head x xs)) (listed_good classes entries xs (λ index among. good index (or_right (nat_eq index x) (is_among index xs) among)))

interfaces_good : (classes : List DeclaredClass) (c : ClassDef) → HasSpelling c → bad_parents classes c ≡ []
    → list_any (is_wrong classes) (filter_map (class_number classes) (map (name_at c.pool.entries) c.interfaces)) ≡ false
interfaces_good classes c spelled none =
    listed_good classes c.pool.entries c.interfaces
    (λ index among.
    let some = all_at (λ i. IsSome (class_name_at c.pool.entries i)) c.interfaces index spelled.1.interfaces among in
    (or_parts _ (is_there_and (is_wrong classes) (class_number classes (name_at c.pool.entries index)))
    (interface_judged classes c index none (name_within c.pool.entries index some) among)).1)

file_fit : (classes : List DeclaredClass) (c : ClassDef) (k m : ℕ) → HasSpelling c → bad_parents classes c ≡ [] → object_number classes ≡ Some 0
    → class_at classes k ≡ declared_of m c → IsFit classes k
file_fit classes c k m spelled none object is =
    let n = length classes in
    let there = superclass_there classes c spelled none in
    let parent : parent_of classes k ≡ class_number classes there.name =
    ap (superclass_in classes) is ∙ ap (option_and_then (λ name. class_number classes name)) there.named in
    let listed : listed_interfaces classes k ≡ filter_map (class_number classes) (map (name_at c.pool.entries) c.interfaces) =
    ap (λ (d : DeclaredClass). filter_map (class_number classes) d.interfaces) is in
    let wrong = ap (list_any (is_wrong classes)) listed ∙ interfaces_good classes c spelled none in
    let not_sealed = (or_parts _ _ there.good).0 in
    let above_class = (or_parts _ _ not_sealed).0 in
    let ends = (or_parts _ _ above_class).0 in
    record {
      up = ap (goes_up n classes) parent ∙ (or_parts _ _ above_class).1;
      deep =
          any_ends (is_wrong classes) (goes_deep n classes) (λ i e. (or_parts (not (is_interface_at classes i)) (goes_deep n classes i) e).1)
          (listed_interfaces classes k) wrong;
      only =
          any_ends (is_wrong classes) (λ i. not (is_interface_at classes i)) (λ i e. (or_parts (not (is_interface_at classes i)) (goes_deep n classes i) e).0)
          (listed_interfaces classes k) wrong;
      parent = ap (is_there_and (is_interface_at classes)) parent ∙ (or_parts _ _ ends).1;
      marker =
          ap (λ (d : DeclaredClass). is_interface d.flags && is_other_than_object (parent_of classes k)) is
          ∙ ap (λ b. b && is_other_than_object (parent_of classes k)) (interface-declared c)
          ∙ ap (λ o. is_interface c.flags && is_other_than_object o) parent
          ∙ object_alone classes there.name object (is_interface c.flags) (bytes_eq there.name object_name) refl (or_parts _ _ not_sealed).1;
    }

-- ---- all classes

past_fit : (classes : List DeclaredClass) (k : ℕ) → length classes ≤ k → IsFit classes k
past_fit classes k past =
    let n = length classes in
    let parent = parent_past classes k past in
    let listed = listed_past classes k past in
    record {
      up = ap (goes_up n classes) parent;
      deep = ap (list_any (goes_deep n classes)) listed;
      only = ap (list_any (λ i. not (is_interface_at classes i))) listed;
      parent = ap (is_there_and (is_interface_at classes)) parent;
      marker = ap (λ (d : DeclaredClass). is_interface d.flags && is_other_than_object (parent_of classes k)) (get_or_past classes k no_class past);
    }

pub length-declared : (n : ℕ) (given : List ClassDef) → length (declared_from n given) ≡ length given
length-declared n [] = refl
length-declared n (c ∷ given) = ap suc (length-declared (n + 1) given)

pub past_none : {X : Type 0} (xs : List X) (j : ℕ) → slice_get xs j ≡ None → length xs ≤ j
past_none [] j e = omega arith
past_none (x ∷ xs) zero e = absurd (none-some x (sym e))
past_none (x ∷ xs) (suc j) e = let rest = past_none xs j e in omega (arith, rest)

pub spelled_at : (given : List ClassDef) (j : ℕ) (c : ClassDef) → AllByRecursion HasSpelling given → slice_get given j ≡ Some c → HasSpelling c
spelled_at [] j c all at = absurd (none-some c at)
spelled_at (d ∷ given) zero c all at = subst HasSpelling (same_Some d c at) all.0
spelled_at (d ∷ given) (suc j) c all at = spelled_at given j c all.1 at

pub all_fit : (given : List ClassDef) → AllByRecursion HasSpelling given → refused_built_ins given ≡ [] → refused_parents given ≡ [] → (k : ℕ)
    → IsFit (classes_of given) k
unfolding classes_of refused_parents
all_fit given spelled apart none k = by_place (cases_lt k (length built_in)) where
  more : List DeclaredClass
  more = declared_from 0 given

  file : (j : ℕ) → k ≡ length built_in + j → (o : Option ClassDef) → slice_get given j ≡ o → IsFit (built_in ++ more) k
  file j is None e =
      let past = past_none given j e in
      past_fit (built_in ++ more) k (let l = length-append built_in more in let d = length-declared 0 given in omega (arith, is, past, l, d))
  file j is (Some c) e =
      let declared = declared_at 0 given j c e in
      file_fit (built_in ++ more) c k declared.number (spelled_at given j c spelled e) (none_of (bad_parents (built_in ++ more)) given j c none e) (object_number_is more)
      (ap (λ i. get_or (built_in ++ more) i no_class) is ∙ get_or-append-add built_in more j no_class ∙ declared.declared)

  by_place : (k < length built_in) ⊎ (length built_in ≤ k) → IsFit (built_in ++ more) k
  by_place (inl own) = built_in_fit more (are_completed given apart) k own
  by_place (inr later) = file (k - length built_in) (omega (arith, later)) (slice_get given (k - length built_in)) refl

none_among : (p : ℕ → Bool) (x : ℕ) (xs : List ℕ) → list_any p xs ≡ false → is_among x xs ≡ true → p x ≡ false
none_among p x [] none among = absurd (false≢true among)
none_among p x (y ∷ ys) none among =
    let both = or_parts (p y) (list_any p ys) none in by_case both.0 (none_among p x ys both.1) (or_cases (nat_eq x y) (is_among x ys) among) where
      by_case : p y ≡ false → (is_among x ys ≡ true → p x ≡ false) → (nat_eq x y ≡ true) ⊎ (is_among x ys ≡ true) → p x ≡ false
      by_case here later (inl same) = ap p (eqb-true x y same) ∙ here
      by_case here later (inr there) = later there

-- no chain leads into a cycle, and only interfaces are listed
pub are_sound : (given : List ClassDef) → AllByRecursion HasSpelling given → refused_built_ins given ≡ [] → refused_parents given ≡ []
    → AreSound (classes_of given)
are_sound given spelled apart none =
    let classes = classes_of given in
    let fit = all_fit given spelled apart none in
    record {
      acyclic = record { superclasses = λ class within. (fit class).up; interfaces = λ class within. (fit class).deep };
      only_interfaces =
          λ class number among.
          not-false (is_interface_at classes number)
          (none_among (λ i. not (is_interface_at classes i)) number (listed_interfaces classes class) (fit class).only among);
    }

-- ---- a tree below Object

pub tree_object : (given : List ClassDef) → object_number (classes_of given) ≡ Some 0
unfolding classes_of
tree_object given = object_number_is (declared_from 0 given)

pub tree_top : (given : List ClassDef) → parent_of (classes_of given) 0 ≡ None
unfolding classes_of
tree_top given = object_parent_is (declared_from 0 given)

pub tree_object_is_class : (given : List ClassDef) → is_interface_at (classes_of given) 0 ≡ false
unfolding classes_of
tree_object_is_class given = object_is_class (declared_from 0 given)

-- no superclass is an interface
pub tree_parents : (given : List ClassDef) → AllByRecursion HasSpelling given → refused_built_ins given ≡ [] → refused_parents given ≡ []
    → (class parent : ℕ) → parent_of (classes_of given) class ≡ Some parent → is_interface_at (classes_of given) parent ≡ false
tree_parents given spelled apart none class parent e =
    sym (ap (is_there_and (is_interface_at (classes_of given))) e) ∙ (all_fit given spelled apart none class).parent

object_is : (o : Option ℕ) → is_other_than_object o ≡ false → o ≡ Some 0
object_is None e = absurd (false≢true (sym e))
object_is (Some k) e = ap Some (eqb-true k 0 (not-false (nat_eq k 0) e))

-- the superclass of an interface is Object
pub tree_interfaces : (given : List ClassDef) → AllByRecursion HasSpelling given → refused_built_ins given ≡ [] → refused_parents given ≡ []
    → (class : ℕ) → is_interface_at (classes_of given) class ≡ true → parent_of (classes_of given) class ≡ Some 0
tree_interfaces given spelled apart none class is =
    object_is (parent_of (classes_of given) class)
    (sym (ap (λ b. b && is_other_than_object (parent_of (classes_of given) class)) is) ∙ (all_fit given spelled apart none class).marker)
