-- The built-in classes have the same superclasses and interfaces in each program, but for the classes that complete them, and none leads into a cycle.
use Rattle.std.proofs.Common.{◌≡◌, refl, sym, ◌∙◌, ap, ℕ, zero, suc, ◌+◌, ◌-◌, ◌<◌, ◌≤◌, ◌⊎◌, inl, inr, ◌&&◌, ◌||◌, not, Bool, true, false, cond, List, [], ◌∷◌, ◌++◌, length, map, get_or, slice_get, nat_eq, replicate, Option, Some, None, is_none, is_some, unwrap_or, arith, length-append}
use Rattle.std.specs.List.{cons_option, filter_map, flat_map, list_any, position_from}
use Rattle.std.specs.Str.{bytes_eq}
use Rattle.std.specs.Cmp.Lexicographic.{same_text}
use Rattle.std.proofs.lemmas.Bool.{and_parts, cases_lt, false≢true, not-true, or_parts}
use Rattle.std.proofs.lemmas.List.{get_or-append-add}
use Rattle.std.proofs.lemmas.Option.{none-some, same_Some}
use Rattle.fm_code.specs.AccessFlags.{is_abstract, is_interface}
use Rattle.fm_code.specs.ConstantPool.{class_name_at}
use Rattle.fm_code.specs.declared.class_file.ClassDef.{ClassDef}
use Rattle.fm_code.specs.declared.class_file.Member.{Member}
use Rattle.fm_code.specs.declared.constant_pool.Entry.{Entry}
use Rattle.fm_link_supers.proofs.InterfaceLemmas.{any_ends, any_within, goes_deep_later, listed_within}
use Rattle.fm_link_supers.proofs.NamedParentLemmas.{number_given}
use Rattle.fm_world.proofs.Acyclic.{none_passes, none_passes_after}
use Rattle.fm_world.proofs.Completions.{class_same, completing, concrete-declared, count_is, fails_at, goes_up_ends, interface-declared, IsBelow, named_itself, number_first, number_same, parent_completed, parent_plain, self_built_in, table_below}
use Rattle.fm_world.specs.BuiltIns.{built_in, built_in_classes, object_name}
use Rattle.fm_world.specs.Causes.{BuiltIn, built_in_named, completes, goes_deep, goes_up, is_there_and, may_be_completed, may_have_fields, own_name, refused, Refusal, refused_if, refused_where, same_name}
use Rattle.fm_world.specs.Chains.{chain_of, class_at, completion_of, given_number, listed_interfaces, parent_of, self_of}
use Rattle.fm_world.specs.Declarations.{declared_field, declared_from, declared_of, no_class}
use Rattle.fm_world.specs.Descriptors.{class_number}
use Rattle.fm_world.specs.Linking.{refused_built_ins}
use Rattle.fm_world.specs.Lookups.{is_interface_at, object_number}
use Rattle.fm_world.specs.Members.{field_kind, is_instance, own_kinds}
use Rattle.fm_world.specs.Programs.{classes_of}
use Rattle.fm_world.specs.declared.declarations.DeclaredClass.{DeclaredClass}
use Rattle.fm_world.specs.declared.declarations.DeclaredField.{DeclaredField}
use Rattle.fm_world.specs.inner.Completions.{AreCompleted, is_below_throwable}
use Rattle.fm_world.specs.inner.Tables.{numbers_below}

-- ---- classes whose interfaces are among them

-- an interface that is listed isn't there
abbrev lacks : List DeclaredClass → ℕ → Bool
lacks own class = list_any (λ name. is_none (class_number own name)) (class_at own class).interfaces

listed_same : (own more : List DeclaredClass) (k : ℕ) → k < length own → lacks own k ≡ false → listed_interfaces (own ++ more) k ≡ listed_interfaces own k
listed_same own more k within closed =
    ap (λ (c : DeclaredClass). filter_map (class_number (own ++ more)) c.interfaces) (class_same own more k within)
    ∙ by_names (class_at own k).interfaces closed where
      by_names : (names : List (List ℕ)) → list_any (λ name. is_none (class_number own name)) names ≡ false
          → filter_map (class_number (own ++ more)) names ≡ filter_map (class_number own) names
      by_names [] e = refl
      by_names (name ∷ names) e =
          ap (λ o. cons_option o (filter_map (class_number (own ++ more)) names))
          (number_same own more name (none_passes (λ n. is_none (class_number own n)) name names e))
          ∙ ap (cons_option (class_number own name)) (by_names names (none_passes_after (λ n. is_none (class_number own n)) name names e))

deep_same : (own more : List DeclaredClass) → ((k : ℕ) → k < length own → lacks own k ≡ false) → (bound k : ℕ) → k < length own
    → goes_deep bound (own ++ more) k ≡ goes_deep bound own k
deep_same own more closed zero k within = refl
deep_same own more closed (suc bound) k within =
    ap (list_any (goes_deep bound (own ++ more))) (listed_same own more k within (closed k within))
    ∙ any_within (length own) (goes_deep bound (own ++ more)) (goes_deep bound own) (deep_same own more closed bound) (listed_interfaces own k) (listed_within own k)

-- ---- the built-in classes

-- the superclass is another one than Object
abbrev pub is_other_than_object : Option ℕ → Bool
is_other_than_object None = true
is_other_than_object (Some k) = not (nat_eq k 0)

closed_table : map (lacks built_in) (numbers_below built_in_classes) ≡ replicate built_in_classes false
unfolding built_in
closed_table = refl

deep_table : map (λ k. list_any (goes_deep built_in_classes built_in) (listed_interfaces built_in k)) (numbers_below built_in_classes) ≡ replicate built_in_classes false
unfolding built_in
deep_table = refl

interfaces_table : map (λ k. list_any (λ i. not (is_interface_at built_in i)) (listed_interfaces built_in k)) (numbers_below built_in_classes) ≡ replicate built_in_classes false
unfolding built_in
interfaces_table = refl

parents_table : map (λ k. is_there_and (is_interface_at built_in) (parent_of built_in k)) (numbers_below built_in_classes) ≡ replicate built_in_classes false
unfolding built_in
parents_table = refl

markers_table : map (λ k. is_interface_at built_in k && is_other_than_object (parent_of built_in k)) (numbers_below built_in_classes) ≡ replicate built_in_classes false
unfolding built_in
markers_table = refl

object_first : object_number built_in ≡ Some 0
unfolding built_in
object_first = refl

object_flags : is_interface_at built_in 0 ≡ false
unfolding built_in
object_flags = refl

closed : (k : ℕ) → k < length built_in → lacks built_in k ≡ false
closed k within = fails_at (lacks built_in) built_in_classes closed_table k (omega (arith, within, count_is))

-- ---- what no refusal leaves of one class

-- its chains end, it lists only interfaces, its superclass is none, and where it is one, that is Object, which has the number 0
pub record IsFit (classes : List DeclaredClass) (class : ℕ) : Type 0 where
  pub up : goes_up (length classes) classes (parent_of classes class) ≡ false
  pub deep : list_any (goes_deep (length classes) classes) (listed_interfaces classes class) ≡ false
  pub only : list_any (λ i. not (is_interface_at classes i)) (listed_interfaces classes class) ≡ false
  pub parent : is_there_and (is_interface_at classes) (parent_of classes class) ≡ false
  pub marker : (is_interface_at classes class && is_other_than_object (parent_of classes class)) ≡ false

interface_same : (own more : List DeclaredClass) (k : ℕ) → k < length own → is_interface_at (own ++ more) k ≡ is_interface_at own k
interface_same own more k within = ap (λ (c : DeclaredClass). is_interface c.flags) (class_same own more k within)

there_same : (own more : List DeclaredClass) (o : Option ℕ) → IsBelow (length own) o
    → is_there_and (is_interface_at (own ++ more)) o ≡ is_there_and (is_interface_at own) o
there_same own more None below = refl
there_same own more (Some p) below = interface_same own more p below

module _ (more : List DeclaredClass) (completed : AreCompleted (built_in ++ more)) where
  abbrev classes : List DeclaredClass
  classes = built_in ++ more

  -- no superclass is an interface, neither the table's nor what completes the class
  parent_is_class : (k : ℕ) → k < length built_in → (o : Option ℕ) → completing more k ≡ o → is_there_and (is_interface_at classes) (parent_of classes k) ≡ false
  parent_is_class k within None is =
      ap (is_there_and (is_interface_at classes)) (parent_plain more k within is) ∙ there_same built_in more (parent_of built_in k) (table_below more k within)
      ∙ fails_at (λ i. is_there_and (is_interface_at built_in) (parent_of built_in i)) built_in_classes parents_table k (omega (arith, within, count_is))
  parent_is_class k within (Some f) is =
      ap (is_there_and (is_interface_at classes)) (parent_completed more completed k f within is) ∙ (completed k f within is).is_class

  -- nothing completes an interface
  marker_is : (k : ℕ) → k < length built_in → (o : Option ℕ) → completing more k ≡ o
      → (is_interface_at classes k && is_other_than_object (parent_of classes k)) ≡ false
  marker_is k within None is =
      ap (λ b. b && is_other_than_object (parent_of classes k)) (interface_same built_in more k within)
      ∙ ap (λ o. is_interface_at built_in k && is_other_than_object o) (parent_plain more k within is)
      ∙ fails_at (λ i. is_interface_at built_in i && is_other_than_object (parent_of built_in i)) built_in_classes markers_table k (omega (arith, within, count_is))
  marker_is k within (Some f) is = ap (λ b. b && is_other_than_object (parent_of classes k)) (completed k f within is).completes_class

  pub built_in_fit : (k : ℕ) → k < length built_in → IsFit (built_in ++ more) k
  built_in_fit k within =
      let n = length classes in
      let few : built_in_classes ≤ n = let l = length-append built_in more in omega (arith, l, count_is) in
      let low : k < built_in_classes = omega (arith, within, count_is) in
      let listed = listed_same built_in more k within (closed k within) in
      let own = listed_interfaces built_in k in
      let own_within = listed_within built_in k in
      record {
        up = goes_up_ends more completed k (suc n) within (omega (arith, few));
        deep =
            ap (list_any (goes_deep n classes)) listed
            ∙ any_within (length built_in) (goes_deep n classes) (goes_deep n built_in) (deep_same built_in more closed n) own own_within
            ∙ any_ends (goes_deep built_in_classes built_in) (goes_deep n built_in) (λ i e. goes_deep_later built_in n built_in_classes i few e) own
            (fails_at (λ i. list_any (goes_deep built_in_classes built_in) (listed_interfaces built_in i)) built_in_classes deep_table k low);
        only =
            ap (list_any (λ i. not (is_interface_at classes i))) listed
            ∙ any_within (length built_in) (λ i. not (is_interface_at classes i)) (λ i. not (is_interface_at built_in i))
            (λ i h. ap not (interface_same built_in more i h)) own own_within
            ∙ fails_at (λ i. list_any (λ j. not (is_interface_at built_in j)) (listed_interfaces built_in i)) built_in_classes interfaces_table k low;
        parent = parent_is_class k within (completing more k) refl;
        marker = marker_is k within (completing more k) refl;
      }

-- Object has the number 0, no superclass, and is no interface
pub object_number_is : (more : List DeclaredClass) → object_number (built_in ++ more) ≡ Some 0
object_number_is more = number_first built_in more object_name 0 object_first

pub object_parent_is : (more : List DeclaredClass) → parent_of (built_in ++ more) 0 ≡ None
unfolding built_in
object_parent_is more = refl

pub object_is_class : (more : List DeclaredClass) → is_interface_at (built_in ++ more) 0 ≡ false
object_is_class more = interface_same built_in more 0 (omega (arith, count_is)) ∙ object_flags

-- ---- lists without refusals

pub nil_left : {X : Type 0} (xs ys : List X) → xs ++ ys ≡ [] → xs ≡ []
nil_left [] ys e = refl
nil_left (x ∷ xs) ys e = absurd (omega (arith, ap length e))

pub nil_right : {X : Type 0} (xs ys : List X) → xs ++ ys ≡ [] → ys ≡ []
nil_right [] ys e = e
nil_right (x ∷ xs) ys e = absurd (omega (arith, ap length e))

pub none_of : {X : Type 0} (f : X → List Refusal) (xs : List X) (j : ℕ) (x : X) → flat_map f xs ≡ [] → slice_get xs j ≡ Some x → f x ≡ []
none_of f [] j x none at = absurd (none-some x at)
none_of f (y ∷ ys) zero x none at = sym (ap f (same_Some y x at)) ∙ nil_left (f y) (flat_map f ys) none
none_of f (y ∷ ys) (suc j) x none at = none_of f ys j x (nil_right (f y) (flat_map f ys) none) at

-- ---- files

pub record IsDeclared (classes : List DeclaredClass) (j : ℕ) (c : ClassDef) : Type 0 where
  pub number : ℕ
  pub declared : get_or classes j no_class ≡ declared_of number c

pub declared_at : (n : ℕ) (given : List ClassDef) (j : ℕ) (c : ClassDef) → slice_get given j ≡ Some c → IsDeclared (declared_from n given) j c
declared_at n [] j c at = absurd (none-some c at)
declared_at n (d ∷ given) zero c at = record { number = n; declared = ap (declared_of n) (same_Some d c at) }
declared_at n (d ∷ given) (suc j) c at = let later = declared_at (n + 1) given j c at in record { number = later.number; declared = later.declared }

-- ---- what may be completed

abbrev may_be : ℕ → Bool
may_be k = may_be_completed (class_at built_in k).name

classes_table : map (λ k. may_be k && is_interface_at built_in k) (numbers_below built_in_classes) ≡ replicate built_in_classes false
unfolding built_in
classes_table = refl

supers_table : map (λ k. may_be k && is_none (class_at built_in k).superclass) (numbers_below built_in_classes) ≡ replicate built_in_classes false
unfolding built_in
supers_table = refl

fields_table : map (λ k. may_be k && (not (is_below_throwable k) && may_have_fields (class_at built_in k))) (numbers_below built_in_classes) ≡ replicate built_in_classes false
unfolding built_in chain_of
fields_table = refl

second_not : (a b : Bool) → a ≡ true → (a && b) ≡ false → b ≡ false
second_not true b is none = none
second_not false b is none = absurd (false≢true is)

pub second_of : (a b : Bool) → a ≡ false → (a || b) ≡ true → b ≡ true
second_of true b none is = absurd (false≢true (sym none))
second_of false b none is = is

some_not : {X : Type 0} (o : Option X) → is_none o ≡ false → is_some o ≡ true
some_not None h = absurd (false≢true (sym h))
some_not (Some x) h = refl

same_names : (a b : Option (List ℕ)) → same_name a b ≡ true → b ≡ a
same_names None None is = refl
same_names None (Some name) is = absurd (false≢true is)
same_names (Some name) None is = absurd (false≢true is)
same_names (Some name) (Some other) is = ap (λ n. Some n) (sym (same_text name other (sym is)))

-- ---- the file of what completes a class

-- a file of this name
record IsNamed (name : List ℕ) (first : ℕ) (given : List ClassDef) (class : ℕ) : Type 0 where
  place : ℕ
  file : ClassDef
  at : slice_get given place ≡ Some file
  is : class ≡ first + place
  name_is : own_name file ≡ name

named_file : (name : List ℕ) (i n : ℕ) (given : List ClassDef) (f : ℕ)
    → position_from (λ (c : DeclaredClass). bytes_eq c.name name) i (declared_from n given) ≡ Some f → IsNamed name i given f
named_file name i n [] f is = absurd (none-some f is)
named_file name i n (c ∷ given) f is = by_name (bytes_eq (own_name c) name) refl (named_file name (i + 1) (n + 1) given f) is where
  by_name : (b : Bool) → bytes_eq (own_name c) name ≡ b
      → (position_from (λ (d : DeclaredClass). bytes_eq d.name name) (i + 1) (declared_from (n + 1) given) ≡ Some f → IsNamed name (i + 1) given f)
      → cond b (Some i) (position_from (λ (d : DeclaredClass). bytes_eq d.name name) (i + 1) (declared_from (n + 1) given)) ≡ Some f
      → IsNamed name i (c ∷ given) f
  by_name true same rest h = record {
    place = 0;
    file = c;
    at = refl;
    is = (let e = same_Some i f h in omega (arith, e));
    name_is = same_text (own_name c) name (sym same);
  }
  by_name false other rest h =
      let later = rest h in
      record {
        place = suc later.place;
        file = later.file;
        at = later.at;
        is = (let e = later.is in omega (arith, e));
        name_is = later.name_is;
      }

kept_if : (b : Bool) (r : Refusal) → refused_if (not b) r ≡ [] → b ≡ true
kept_if true r e = refl
kept_if false r e = absurd (omega (arith, ap length e))

given_there : (b : Bool) (o : Option ℕ) (f : ℕ) → cond b o None ≡ Some f → o ≡ Some f
given_there true o f e = e
given_there false o f e = absurd (none-some f e)

-- a file with the name of a built-in class completes it
pub named_completes : (given : List ClassDef) → refused_built_ins given ≡ [] → (j : ℕ) (c : ClassDef) → slice_get given j ≡ Some c → (class : ℕ)
    → class_number built_in (own_name c) ≡ Some class → completes (class_at built_in class) c ≡ true
unfolding refused_built_ins
named_completes given none j c at class number =
    kept_if (completes (class_at built_in class) c) (refused BuiltIn c (own_name c))
    (sym (ap (refused_where (λ k. refused_if (not (completes (class_at built_in k) c)) (refused BuiltIn c (own_name c)))) number)
    ∙ none_of built_in_named given j c none at)

-- the file of a class that completes a built-in one, as it may
pub record IsCompletedBy (given : List ClassDef) (class completing : ℕ) : Type 0 where
  pub place : ℕ
  pub file : ClassDef
  pub at : slice_get given place ≡ Some file
  pub is : completing ≡ length built_in + place
  pub name_is : own_name file ≡ (class_at built_in class).name
  pub completes_it : completes (class_at built_in class) file ≡ true

pub completed_by : (given : List ClassDef) → refused_built_ins given ≡ [] → (class completing : ℕ) → class < length built_in
    → completion_of (classes_of given) (class_at (classes_of given) class) ≡ Some completing → IsCompletedBy given class completing
unfolding classes_of
completed_by given none class completing within is =
    let c = class_at (classes_of given) class in
    let found = named_file c.name (length built_in) 0 given completing
    (sym (number_given given c.name) ∙ given_there (is_none c.file) (given_number (classes_of given) c.name) completing is) in
    let name = found.name_is ∙ ap (λ (d : DeclaredClass). d.name) (class_same built_in (declared_from 0 given) class within) in
    let number : class_number built_in (own_name found.file) ≡ Some class = ap (class_number built_in) name ∙ named_itself class within in
    record {
      place = found.place;
      file = found.file;
      at = found.at;
      is = found.is;
      name_is = name;
      completes_it = named_completes given none found.place found.file found.at class number;
    }

-- it is the class whose objects the methods of what completes it have
pub self_of_completion : (given : List ClassDef) → refused_built_ins given ≡ [] → (class completing : ℕ) → class < length built_in
    → completion_of (classes_of given) (class_at (classes_of given) class) ≡ Some completing → self_of (classes_of given) completing ≡ class
unfolding classes_of
self_of_completion given none class completing within is =
    let by = completed_by given none class completing within is in
    let own = declared_at 0 given by.place by.file by.at in
    ap (λ (c : DeclaredClass). unwrap_or (class_number built_in c.name) completing)
    (ap (class_at (classes_of given)) by.is ∙ get_or-append-add built_in (declared_from 0 given) by.place no_class ∙ own.declared)
    ∙ ap (λ name. unwrap_or (class_number built_in name) completing) by.name_is ∙ ap (λ o. unwrap_or o completing) (named_itself class within)

-- the file that completes a class is neither an interface nor abstract
pub plain_completion : (b : DeclaredClass) (c : ClassDef) → completes b c ≡ true → (is_interface c.flags ≡ false) × (is_abstract c.flags ≡ false)
plain_completion b c is =
    let halves = and_parts (not (is_interface c.flags) && not (is_abstract c.flags)) _ (and_parts (may_be_completed b.name) _ is).1 in
    let plain = and_parts (not (is_interface c.flags)) (not (is_abstract c.flags)) halves.0 in
    (not-true (is_interface c.flags) plain.0, not-true (is_abstract c.flags) plain.1)

-- ---- what is asked of the classes that complete built-in ones

no_instance : (among : List DeclaredClass) (entries : List Entry) (members : List Member) → list_any (λ (m : Member). is_instance m.flags) members ≡ false
    → filter_map (λ (f : DeclaredField). cond (is_instance f.flags) (Some (field_kind among f)) None) (map (declared_field entries) members) ≡ []
no_instance among entries [] none = refl
no_instance among entries (m ∷ members) none =
    let parts = or_parts (is_instance m.flags) (list_any (λ (x : Member). is_instance x.flags) members) none in
    ap (λ b. cons_option (cond b (Some (field_kind among (declared_field entries m))) None)
    (filter_map (λ (f : DeclaredField). cond (is_instance f.flags) (Some (field_kind among f)) None) (map (declared_field entries) members))) parts.0
    ∙ no_instance among entries members parts.1

pub are_completed : (given : List ClassDef) → refused_built_ins given ≡ [] → AreCompleted (classes_of given)
unfolding classes_of
are_completed given none class completing within is =
    let classes = classes_of given in
    let low : class < built_in_classes = omega (arith, within, count_is) in
    let by = completed_by given none class completing within is in
    let c = by.file in
    let b = class_at built_in class in
    let same : class_at classes class ≡ b = class_same built_in (declared_from 0 given) class within in
    let own = declared_at 0 given by.place c by.at in
    let here : class_at classes completing ≡ declared_of own.number c =
    ap (class_at classes) by.is ∙ get_or-append-add built_in (declared_from 0 given) by.place no_class ∙ own.declared in
    let parts = and_parts (may_be class) _ by.completes_it in
    let halves = and_parts (not (is_interface c.flags) && not (is_abstract c.flags)) _ parts.1 in
    let plain = and_parts (not (is_interface c.flags)) (not (is_abstract c.flags)) halves.0 in
    let rest = and_parts (same_name b.superclass (class_name_at c.pool.entries c.super_class))
    (may_have_fields b || not (list_any (λ (f : Member). is_instance f.flags) c.fields)) halves.1 in
    let plain_fields = λ (above : is_below_throwable class ≡ false). second_not (not (is_below_throwable class)) (may_have_fields b) (ap not above)
    (second_not (may_be class) (not (is_below_throwable class) && may_have_fields b) parts.0
    (fails_at (λ k. may_be k && (not (is_below_throwable k) && may_have_fields (class_at built_in k))) built_in_classes fields_table class low)) in
    record {
      completes_class =
          ap (λ (d : DeclaredClass). is_interface d.flags) same
          ∙ second_not (may_be class) (is_interface_at built_in class) parts.0
          (fails_at (λ k. may_be k && is_interface_at built_in k) built_in_classes classes_table class low);
      has_superclass =
          ap (λ (d : DeclaredClass). is_some d.superclass) same
          ∙ some_not b.superclass
          (second_not (may_be class) (is_none b.superclass) parts.0 (fails_at (λ k. may_be k && is_none (class_at built_in k).superclass) built_in_classes supers_table class low));
      superclass =
          ap (λ (d : DeclaredClass). d.superclass) here ∙ same_names b.superclass (class_name_at c.pool.entries c.super_class) rest.0
          ∙ sym (ap (λ (d : DeclaredClass). d.superclass) same);
      is_class = ap (λ (d : DeclaredClass). is_interface d.flags) here ∙ interface-declared c ∙ not-true (is_interface c.flags) plain.0;
      not_hidden = ap (λ (d : DeclaredClass). d.hidden) here;
      no_fields = λ above. ap (own_kinds classes) here
          ∙ no_instance classes c.pool.entries c.fields
          (not-true (list_any (λ (f : Member). is_instance f.flags) c.fields) (second_of (may_have_fields b) _ (plain_fields above) rest.1));
    }

-- its superclass is what completes it, and else that of the table
pub completed_parent : (given : List ClassDef) → refused_built_ins given ≡ [] → (class completing : ℕ) → class < length built_in
    → completion_of (classes_of given) (class_at (classes_of given) class) ≡ Some completing → parent_of (classes_of given) class ≡ Some completing
unfolding classes_of
completed_parent given none class completing within is = parent_completed (declared_from 0 given) (are_completed given none) class completing within is

pub table_parent : (given : List ClassDef) (class : ℕ) → class < length built_in
    → completion_of (classes_of given) (class_at (classes_of given) class) ≡ None → parent_of (classes_of given) class ≡ parent_of built_in class
unfolding classes_of
table_parent given class within is = parent_plain (declared_from 0 given) class within is

-- ---- what has objects

no_name : class_number built_in [] ≡ None
unfolding built_in
no_name = refl

-- the objects that the methods of a class have are those of the class, where it has any
pub self_has_objects : (given : List ClassDef) (class : ℕ) → is_abstract (class_at (classes_of given) class).flags ≡ false → self_of (classes_of given) class ≡ class
unfolding classes_of
self_has_objects given class concrete = by_place (cases_lt class (length built_in)) where
  more : List DeclaredClass
  more = declared_from 0 given

  none_found : (o : Option ℕ) → is_none o ≡ true → o ≡ None
  none_found None e = refl
  none_found (Some k) e = absurd (false≢true e)

  of_file : (n j : ℕ) (files : List ClassDef) → is_abstract (get_or (declared_from n files) j no_class).flags ≡ false
      → class_number built_in (get_or (declared_from n files) j no_class).name ≡ None
  of_file n j [] h = no_name
  of_file n zero (c ∷ files) h = none_found (class_number built_in (own_name c)) (concrete-declared c h).1
  of_file n (suc j) (c ∷ files) h = of_file (n + 1) j files h

  by_place : (class < length built_in) ⊎ (length built_in ≤ class) → self_of (built_in ++ more) class ≡ class
  by_place (inl within) = self_built_in more class within
  by_place (inr past) =
      let j : ℕ = class - length built_in in
      let is : class ≡ length built_in + j = omega (arith, past) in
      let there : class_at (built_in ++ more) class ≡ get_or more j no_class =
      ap (λ i. get_or (built_in ++ more) i no_class) is ∙ get_or-append-add built_in more j no_class in
      ap (λ (c : DeclaredClass). unwrap_or (class_number built_in c.name) class) there
      ∙ ap (λ o. unwrap_or o class) (of_file 0 j given (sym (ap (λ (c : DeclaredClass). is_abstract c.flags) there) ∙ concrete))
