-- What the tables of members return is what names are resolved to, and which method is called.
use Rattle.std.proofs.Common.{◌≡◌, refl, sym, ◌∙◌, ap, subst, ℕ, ◌<◌, ◌==◌, ◌&&◌, not, Bool, true, false, cond, List, [], ◌∷◌, ◌++◌, length, map, filter, drop, get_or, nat_eq, Option, Some, None, option_and_then, option_to_list, unwrap_or, slice_get, arith, zero-add}
use Rattle.std.proofs.Math.ListN.{get_or-map}
use Rattle.std.specs.Str.{bytes_eq}
use Rattle.std.proofs.lemmas.Bool.{false≢true}
use Rattle.std.proofs.lemmas.List.{get_or-map as get_or-map_within, length-map}
use Rattle.std.proofs.lemmas.List.FromFn.{get_or-map-range_with_len}
use Rattle.std.proofs.lemmas.List.Quantifiers.{position-Some}
use Rattle.std.proofs.lemmas.Option.{get_or_from_slice_get, slice_get-get_or, slice_get_within}
use Rattle.fm_code.specs.ConstantPool.{MemberName}
use Rattle.fm_world.proofs.Displays.{class_number-within, parent_of-within}
use Rattle.fm_world.specs.BuiltIns.{object_name}
use Rattle.fm_world.specs.Chains.{chain_of, class_at, completing_of, first_found, interfaces_of, is_among, parent_of, superclasses_of, superinterfaces_of}
use Rattle.fm_world.specs.Declarations.{no_method}
use Rattle.fm_world.specs.Descriptors.{class_number, class_type}
use Rattle.fm_world.specs.Lookups.{any_flags, class_searched, constructor_name, constructor_path, field_path, is_interface_at, method_path, object_number, own_instance, resolved_field, resolved_method, searches_above, special_target}
use Rattle.fm_world.specs.Members.{field_among, fields_of, is_instance, method_among, method_at, methods_of, own_field, own_method}
use Rattle.fm_world.specs.declared.declarations.DeclaredClass.{DeclaredClass}
use Rattle.fm_world.specs.inner.Layers.{HasRoom}
use Rattle.fm_world.specs.inner.Tables.{chain_from, numbers_below, IsLinear}
use Rattle.fm_link_supers.proofs.ParentTables.{list_in-row}
use Rattle.fm_link_members.proofs.FoundLemmas.{first_found-append, first_found-distinct, first_found-none, first_found-without, interfaces_listed, or_else-None, own_in-is, row_of_own}
use Rattle.fm_world.proofs.OverridingLemmas.{first_found-same}
use Rattle.fm_link_members.proofs.NearestLemmas.{first_found-cons}
use Rattle.fm_link_members.proofs.StartLemmas.{first_along-is}
use Rattle.fm_link_supers.proofs.SuperclassLemmas.{superclass-is}
use Rattle.fm_link_members.proofs.SectionLemmas.{own_field-position, own_method-position}
use Rattle.fm_link_members.proofs.SectionRows.{AreSections-fields, AreSections-methods}
use Rattle.fm_link_members.proofs.SignatureLemmas.{count_of_signatures, none-named, own_by-named, signature_at, text-number}
use Rattle.fm_link_supers.specs.declared.hierarchy.Hierarchy.{Hierarchy}
use Rattle.fm_link_members.specs.declared.lookups.Fields.{Fields}
use Rattle.fm_link_members.specs.declared.lookups.Methods.{Methods}
use Rattle.fm_link_members.specs.declared.members.MemberRow.{MemberRow}
use Rattle.fm_link_members.specs.declared.members.Nearest.{Nearest}
use Rattle.fm_link_members.specs.inner.FoundMembers.{above_in, constructor_in, field_found_in, field_in, first_along, interface_method_in, is_constructor_in, is_marked, method_found_in, method_in, own_method_in, searches_in, special_in}
use Rattle.fm_link_supers.specs.inner.Hierarchy.{completing_in, distinct_path, is_superclass_in, IsHierarchy}
use Rattle.fm_link_supers.specs.inner.ListTables.{list_in}
use Rattle.fm_link_members.specs.inner.MemberRows.{field_alike, method_alike, no_row, row_alike, Owned}
use Rattle.fm_link_members.specs.inner.MemberTables.{has_key, nearest_in, number_of_key, own_by, own_in, signature_of, start_in, AreFields, AreMethods, AreNearest, IsStart}
use Rattle.fm_link_members.specs.inner.NearestSteps.{or_else}

-- ---- fields

field_by_signature : (texts : List (List ℕ)) (classes : List DeclaredClass) (f : Fields) → AreFields texts classes f
    → (name descriptor signature : ℕ) (n d : List ℕ) → slice_get texts name ≡ Some n → slice_get texts descriptor ≡ Some d
    → signature_of f.members.rows.items name descriptor ≡ Some signature → (class : ℕ)
    → own_by f.members.rows.items f.signatures.of_members.items any_flags signature class ≡ own_field classes n d class
field_by_signature texts classes f are name descriptor signature n d there_n there_d found class =
    own_by-named texts f.members.rows.items (map field_alike (fields_of classes)) f.signatures are.distinct are.rows.rows are.signatures any_flags
    name
    descriptor signature n d class there_n there_d found
    ∙ sym (own_field-position classes n d class)

field_in-is : (texts : List (List ℕ)) (classes : List DeclaredClass) (f : Fields) (h : Hierarchy) → AreFields texts classes f → IsHierarchy classes h
    → (name descriptor signature : ℕ) (n d : List ℕ) → slice_get texts name ≡ Some n → slice_get texts descriptor ≡ Some d
    → signature_of f.members.rows.items name descriptor ≡ Some signature → (class : ℕ) → class < length classes
    → field_in f h class signature ≡ field_among classes n d (field_path classes class)
field_in-is texts classes f h are is name descriptor signature n d there_n there_d found class within =
    by_mark (is_marked f.in_interfaces.items signature) refl where
      rows : List MemberRow
      rows = f.members.rows.items

      find : ℕ → Option ℕ
      find = own_by rows f.signatures.of_members.items any_flags signature

      by_name : (x : ℕ) → find x ≡ own_field classes n d x
      by_name = field_by_signature texts classes f are name descriptor signature n d there_n there_d found

      room : HasRoom f.nearest.layers signature
      room = are.nearest.room signature (position-Some (has_key name descriptor) rows signature no_row found).0

      path : first_found find (distinct_path classes class) ≡ first_found find (field_path classes class)
      path = first_found-distinct find (field_path classes class)

      unmarked : is_marked f.in_interfaces.items signature ≡ false → (x i : ℕ) → is_among i (superinterfaces_of classes x) ≡ true → (o : Option ℕ)
          → find i ≡ o → o ≡ None
      unmarked off x i among None e = refl
      unmarked off x i among (Some k) e =
          let row = row_of_own rows f.signatures.of_members.items any_flags signature i k e in
          let interface = ap (is_interface_at classes) row.class_is ∙ is.only_interfaces x i among in
          let marked = get_or_from_slice_get f.in_interfaces.items (get_or f.signatures.of_members.items k 0) true false
          (are.in_interfaces k row.within interface) in
          absurd (false≢true (sym off ∙ ap (is_marked f.in_interfaces.items) (sym row.signed) ∙ marked))

      by_mark : (b : Bool) → is_marked f.in_interfaces.items signature ≡ b
          → cond b
          (first_along f.nearest rows f.starts class (list_in h.paths.items class) signature)
          (nearest_in f.nearest class signature)
          ≡ field_among classes n d (field_path classes class)
      by_mark true e =
          ap (λ list. first_along f.nearest rows f.starts class list signature)
          (list_in-row (distinct_path classes) (length classes) class h.paths.items is.paths within)
          ∙ first_along-is f.nearest rows f.starts f.signatures.of_members.items class (distinct_path classes class) signature
          (λ x. own_in-is classes f.members f.signatures.of_members.items any_flags f.nearest is.linear (AreSections-fields texts classes f.members are.rows)
          are.nearest signature x room) (are.starts class signature within)
          ∙ path
          ∙ first_found-same find (own_field classes n d) (field_path classes class) by_name
      by_mark false e =
          are.nearest.nearest class signature within room
          ∙ sym (first_found-without find (superinterfaces_of classes) (chain_of classes class) (λ x i among. unmarked e x i among (find i) refl))
          ∙ first_found-same find (own_field classes n d) (field_path classes class) by_name

pub field_found-is : (texts : List (List ℕ)) (classes : List DeclaredClass) (f : Fields) (h : Hierarchy) (class : Option ℕ) (name descriptor : ℕ)
    (member : MemberName) → AreFields texts classes f → IsHierarchy classes h → class ≡ class_number classes member.class
    → slice_get texts name ≡ Some member.name → slice_get texts descriptor ≡ Some member.descriptor
    → field_found_in f h class name descriptor ≡ resolved_field classes member
unfolding resolved_field
field_found-is texts classes f h class name descriptor member are is named there_n there_d = by_class class named where
  rows : List MemberRow
  rows = f.members.rows.items

  from_class : ℕ → Option ℕ
  from_class c = field_among classes member.name member.descriptor (field_path classes c)

  by_key : (c : ℕ) → c < length classes → (s : Option ℕ) → signature_of rows name descriptor ≡ s
      → option_and_then (field_in f h c) s ≡ from_class c
  by_key c within None e =
      sym (first_found-none (own_field classes member.name member.descriptor) (field_path classes c)
      (λ x among. own_field-position classes member.name member.descriptor x
      ∙ none-named texts rows (map field_alike (fields_of classes)) are.distinct are.rows.rows any_flags name descriptor member.name member.descriptor
      x
      there_n there_d e))
  by_key c within (Some s) e =
      field_in-is texts classes f h are is name descriptor s member.name member.descriptor there_n there_d e c within

  by_class : (o : Option ℕ) → o ≡ class_number classes member.class
      → option_and_then (λ c. option_and_then (field_in f h c) (number_of_key f.signatures.numbers name descriptor)) o
      ≡ option_and_then from_class (class_number classes member.class)
  by_class None e = ap (option_and_then from_class) e
  by_class (Some c) e =
      ap (option_and_then (field_in f h c)) (are.signatures.numbered name descriptor)
      ∙ by_key c (class_number-within classes member.class c (sym e)) (signature_of rows name descriptor) refl
      ∙ ap (option_and_then from_class) e

-- ---- methods

pub method_by_signature : (texts : List (List ℕ)) (classes : List DeclaredClass) (m : Methods) → AreMethods texts classes m → (passes : ℕ → Bool)
    (name descriptor signature : ℕ) (n d : List ℕ) → slice_get texts name ≡ Some n → slice_get texts descriptor ≡ Some d
    → signature_of m.members.rows.items name descriptor ≡ Some signature → (class : ℕ)
    → own_by m.members.rows.items m.signatures.of_members.items passes signature class ≡ own_method classes passes n d class
method_by_signature texts classes m are passes name descriptor signature n d there_n there_d found class =
    own_by-named texts m.members.rows.items (map method_alike (methods_of classes)) m.signatures are.distinct are.rows.rows are.signatures passes name
    descriptor signature n d class there_n there_d found
    ∙ sym (own_method-position classes passes n d class)

-- the class's own method by its signature
own_method_in-is : (texts : List (List ℕ)) (classes : List DeclaredClass) (m : Methods) (h : Hierarchy) → AreMethods texts classes m
    → IsHierarchy classes h → (name descriptor signature : ℕ) (n d : List ℕ) → slice_get texts name ≡ Some n
    → slice_get texts descriptor ≡ Some d → signature_of m.members.rows.items name descriptor ≡ Some signature → (class : ℕ)
    → own_method_in m signature class ≡ own_method classes any_flags n d class
own_method_in-is texts classes m h are is name descriptor signature n d there_n there_d found class =
    own_in-is classes m.members m.signatures.of_members.items any_flags m.nearest is.linear (AreSections-methods texts classes m.members are.rows) are.nearest
    signature class
    (are.nearest.room signature (position-Some (has_key name descriptor) m.members.rows.items signature no_row found).0)
    ∙ method_by_signature texts classes m are any_flags name descriptor signature n d there_n there_d found class

-- what is found in one class, where it is there
first_of_option : (f g : ℕ → Option ℕ) → ((x : ℕ) → g x ≡ f x) → (o : Option ℕ) → option_and_then g o ≡ first_found f (option_to_list o)
first_of_option f g same None = refl
first_of_option f g same (Some x) = same x ∙ sym (first_found-cons f x [] ∙ or_else-None (f x))

completing-is : (classes : List DeclaredClass) (h : Hierarchy) → IsHierarchy classes h → (class : ℕ) → class < length classes
    → option_to_list (completing_in h class) ≡ completing_of classes class
completing-is classes h is class within =
    ap (λ xs. option_to_list (option_and_then (named_in h.classes.now) (get_or xs class None))) is.parents
    ∙ ap (λ cs. option_to_list (option_and_then (named_in cs) (get_or parents class None))) is.classes_are
    ∙ ap (λ o. option_to_list (option_and_then (named_in classes) o))
    (get_or-map-range_with_len (parent_of classes) 0 (length classes) class class None within (zero-add class))
    ∙ by_parent (parent_of classes class) where
      parents : List (Option ℕ)
      parents = map (parent_of classes) (numbers_below (length classes))

      named : List DeclaredClass → ℕ → Bool
      named cs above = bytes_eq (class_at cs above).name (class_at cs class).name

      named_in : List DeclaredClass → ℕ → Option ℕ
      named_in cs above = cond (named cs above) (Some above) None

      by_test : (p : ℕ) (b : Bool) → option_to_list (cond b (Some p) None) ≡ cond b (p ∷ []) []
      by_test p true = refl
      by_test p false = refl

      by_parent : (o : Option ℕ) → option_to_list (option_and_then (named_in classes) o) ≡ filter (named classes) (option_to_list o)
      by_parent None = refl
      by_parent (Some p) = by_test p (named classes p)

method_in-is : (texts : List (List ℕ)) (classes : List DeclaredClass) (m : Methods) (h : Hierarchy) → AreMethods texts classes m
    → IsHierarchy classes h → (name descriptor signature : ℕ) (n d : List ℕ) → slice_get texts name ≡ Some n
    → slice_get texts descriptor ≡ Some d → signature_of m.members.rows.items name descriptor ≡ Some signature → (class : ℕ) → class < length classes
    → method_in m h class signature ≡ method_among classes any_flags n d (method_path classes class)
method_in-is texts classes m h are is name descriptor signature n d there_n there_d found class within =
    ap (λ cs. by_interface_in (is_interface_at cs class)) is.classes_are ∙ by_test (is_interface_at classes class) refl where
      f : ℕ → Option ℕ
      f = own_method classes any_flags n d

      find : ℕ → Option ℕ
      find = own_by m.members.rows.items m.signatures.of_members.items any_flags signature

      by_name : (x : ℕ) → find x ≡ f x
      by_name = method_by_signature texts classes m are any_flags name descriptor signature n d there_n there_d found

      own : (x : ℕ) → own_method_in m signature x ≡ f x
      own = own_method_in-is texts classes m h are is name descriptor signature n d there_n there_d found

      by_interface_in : Bool → Option ℕ
      by_interface_in b =
          or_else (cond b (own_method_in m signature class) (nearest_in m.nearest class signature))
          (cond b
          (or_else (interface_method_in m class (list_in h.above.items class) signature) (option_and_then (own_method_in m signature) h.object))
          (interface_method_in m class (list_in h.interfaces.items class) signature))

      -- the first one in a list of interfaces is that of the whole list
      along : (b : Bool) → is_interface_at classes class ≡ b → (table list : List ℕ) → table ≡ list
          → list ≡ cond b (superinterfaces_of classes class) (interfaces_of classes class)
          → interface_method_in m class table signature ≡ first_found f list
      along b test table list same is_list =
          ap (λ xs. interface_method_in m class xs signature) same
          ∙ first_along-is m.nearest m.members.rows.items m.starts m.signatures.of_members.items class list signature
          (λ x. own x ∙ sym (by_name x))
          (subst (λ xs. IsStart xs m.members.rows.items m.signatures.of_members.items signature (start_in m.starts class signature))
          (ap (λ t. cond t (superinterfaces_of classes class) (interfaces_of classes class)) test ∙ sym is_list) (are.starts class signature within))
          ∙ first_found-same find f list by_name

      by_test : (b : Bool) → is_interface_at classes class ≡ b → by_interface_in b
          ≡ method_among classes any_flags n d
          (cond b (class ∷ (superinterfaces_of classes class ++ option_to_list (object_number classes)))
          (chain_of classes class ++ interfaces_of classes class))
      by_test true e =
          ap (λ o. or_else o (or_else (interface_method_in m class (list_in h.above.items class) signature)
          (option_and_then (own_method_in m signature) h.object))) (own class)
          ∙ ap (or_else (f class)) (ap (λ o. or_else o (option_and_then (own_method_in m signature) h.object))
          (along true e (list_in h.above.items class) (superinterfaces_of classes class) (interfaces_listed classes h.above.items is.above class) refl)
          ∙ ap (or_else (first_found f (superinterfaces_of classes class))) (first_of_option f (own_method_in m signature) own h.object
          ∙ ap (λ o. first_found f (option_to_list o)) is.object)
          ∙ sym (first_found-append f (superinterfaces_of classes class) (option_to_list (object_number classes))))
          ∙ sym (first_found-cons f class (superinterfaces_of classes class ++ option_to_list (object_number classes)))
      by_test false e =
          ap (λ o. or_else o (interface_method_in m class (list_in h.interfaces.items class) signature))
          (are.nearest.nearest class signature within
          (are.nearest.room signature (position-Some (has_key name descriptor) m.members.rows.items signature no_row found).0)
          ∙ first_found-same find f (chain_of classes class) by_name)
          ∙ ap (or_else (first_found f (chain_of classes class)))
          (along false e (list_in h.interfaces.items class) (interfaces_of classes class)
          (list_in-row (interfaces_of classes) (length classes) class h.interfaces.items is.interfaces within) refl)
          ∙ sym (first_found-append f (chain_of classes class) (interfaces_of classes class))

searched-within : (classes : List DeclaredClass) (name : List ℕ) (c : ℕ) → class_searched classes name ≡ Some c → c < length classes
searched-within classes name c e = by_test ((class_type name).dimensions == 0) e where
  by_test : (b : Bool) → cond b (class_number classes name) (object_number classes) ≡ Some c → c < length classes
  by_test true h = class_number-within classes name c h
  by_test false h = class_number-within classes object_name c h

pub method_found-is : (texts : List (List ℕ)) (classes : List DeclaredClass) (m : Methods) (h : Hierarchy) (named searched : Option ℕ)
    (name descriptor : ℕ) (member : MemberName) → AreMethods texts classes m → IsHierarchy classes h → named ≡ class_number classes member.class
    → searched ≡ class_searched classes member.class → slice_get texts name ≡ Some member.name → slice_get texts descriptor ≡ Some member.descriptor
    → method_found_in m h named searched name descriptor ≡ resolved_method classes member
unfolding resolved_method
method_found-is texts classes m h named searched name descriptor member are is named_is searched_is there_n there_d =
    ap (option_and_then answer) (are.signatures.numbered name descriptor) ∙ by_key (signature_of rows name descriptor) refl where
      rows : List MemberRow
      rows = m.members.rows.items

      f : ℕ → Option ℕ
      f = own_method classes any_flags member.name member.descriptor

      answer : ℕ → Option ℕ
      answer signature =
          cond (name == m.constructor) (option_and_then (constructor_in m h signature) named)
          (option_and_then (λ class. method_in m h class signature) searched)

      alone : ℕ → Option ℕ
      alone c = first_found f (constructor_path classes c)

      along : ℕ → Option ℕ
      along c = first_found f (method_path classes c)

      is_constructor : nat_eq name m.constructor ≡ bytes_eq member.name constructor_name
      is_constructor = text-number texts are.distinct name m.constructor constructor_name (slice_get_within texts name member.name there_n)
          are.constructor
          ∙ ap (λ t. bytes_eq t constructor_name) (get_or_from_slice_get texts name member.name [] there_n)

      goal_by : Bool → Option ℕ
      goal_by b = cond b (option_and_then alone (class_number classes member.class)) (option_and_then along (class_searched classes member.class))

      none : signature_of rows name descriptor ≡ None → (x : ℕ) → f x ≡ None
      none e x =
          own_method-position classes any_flags member.name member.descriptor x
          ∙ none-named texts rows (map method_alike (methods_of classes)) are.distinct are.rows.rows any_flags name descriptor member.name
          member.descriptor x there_n there_d e

      no_class_has : (g : ℕ → Option ℕ) → ((x : ℕ) → g x ≡ None) → (o : Option ℕ) → None ≡ option_and_then g o
      no_class_has g fails None = refl
      no_class_has g fails (Some x) = sym (fails x)

      none_by : signature_of rows name descriptor ≡ None → (b : Bool) → None ≡ goal_by b
      none_by e true = no_class_has alone (λ x. first_found-none f (constructor_path classes x) (λ y among. none e y)) (class_number classes member.class)
      none_by e false = no_class_has along (λ x. first_found-none f (method_path classes x) (λ y among. none e y))
          (class_searched classes member.class)

      by_named : (s : ℕ) → signature_of rows name descriptor ≡ Some s → (o : Option ℕ) → o ≡ class_number classes member.class
          → option_and_then (constructor_in m h s) o ≡ option_and_then alone o
      by_named s e None is_it = refl
      by_named s e (Some c) is_it =
          let own = own_method_in-is texts classes m h are is name descriptor s member.name member.descriptor there_n there_d e in
          let within = class_number-within classes member.class c (sym is_it) in
          ap (λ o. or_else o (option_and_then (own_method_in m s) (completing_in h c))) (own c)
          ∙ ap (or_else (f c)) (first_of_option f (own_method_in m s) own (completing_in h c) ∙ ap (first_found f) (completing-is classes h is c within))
          ∙ sym (first_found-cons f c (completing_of classes c))

      by_searched : (s : ℕ) → signature_of rows name descriptor ≡ Some s → (o : Option ℕ) → o ≡ class_searched classes member.class
          → option_and_then (λ class. method_in m h class s) o ≡ option_and_then along o
      by_searched s e None is_it = refl
      by_searched s e (Some c) is_it =
          method_in-is texts classes m h are is name descriptor s member.name member.descriptor there_n there_d e c
          (searched-within classes member.class c (sym is_it))

      by_test : (s : ℕ) → signature_of rows name descriptor ≡ Some s → (b : Bool)
          → cond b (option_and_then (constructor_in m h s) named) (option_and_then (λ class. method_in m h class s) searched) ≡ goal_by b
      by_test s e true = by_named s e named named_is ∙ ap (option_and_then alone) named_is
      by_test s e false = by_searched s e searched searched_is ∙ ap (option_and_then along) searched_is

      by_key : (o : Option ℕ) → signature_of rows name descriptor ≡ o → option_and_then answer o ≡ goal_by (bytes_eq member.name constructor_name)
      by_key None e = none_by e (bytes_eq member.name constructor_name)
      by_key (Some s) e = by_test s e (nat_eq name m.constructor) ∙ ap goal_by is_constructor

-- ---- the method that is called

-- what the row of a method says
pub method_row : (texts : List (List ℕ)) (classes : List DeclaredClass) (m : Methods) → AreMethods texts classes m → (method : ℕ)
    → method < length (methods_of classes) → row_alike texts (get_or m.members.rows.items method no_row) ≡ method_alike (method_at classes method)
method_row texts classes m are method within =
    sym (get_or-map (row_alike texts) m.members.rows.items method no_row)
    ∙ ap (λ xs. get_or xs method (row_alike texts no_row)) are.rows.rows.same
    ∙ get_or-map_within method_alike (methods_of classes) method (record { class = 0; method = no_method }) (row_alike texts no_row) within

pub methods_within : (texts : List (List ℕ)) (classes : List DeclaredClass) (m : Methods) → AreMethods texts classes m → (method : ℕ)
    → method < length (methods_of classes) → method < length m.members.rows.items
methods_within texts classes m are method within =
    omega (
      arith,
      within,
      sym (length-map m.members.rows.items (row_alike texts)) ∙ ap length are.rows.rows.same
          ∙ length-map (methods_of classes) method_alike,
    )

-- the signature of a method is the number of one
signature_low : (texts : List (List ℕ)) (classes : List DeclaredClass) (m : Methods) → AreMethods texts classes m → (method : ℕ)
    → method < length (methods_of classes) → get_or m.signatures.of_members.items method 0 < length m.members.rows.items
signature_low texts classes m are method within =
    let row = get_or m.members.rows.items method no_row in
    (position-Some (has_key row.name row.descriptor) m.members.rows.items (get_or m.signatures.of_members.items method 0) no_row
    (signature_at m.members.rows.items m.signatures are.signatures method (methods_within texts classes m are method within))).0

-- a class's own method by the signature of a method is the one by its name and descriptor
pub own_by_method : (texts : List (List ℕ)) (classes : List DeclaredClass) (m : Methods) → AreMethods texts classes m → (passes : ℕ → Bool) (method : ℕ)
    → method < length (methods_of classes) → (class : ℕ)
    → own_by m.members.rows.items m.signatures.of_members.items passes (get_or m.signatures.of_members.items method 0) class
    ≡ own_method classes passes (method_at classes method).method.name (method_at classes method).method.descriptor class
own_by_method texts classes m are passes method m_within =
    method_by_signature texts classes m are passes row.name row.descriptor signature (method_at classes method).method.name
    (method_at classes method).method.descriptor name_there descriptor_there of_row where
      row : MemberRow
      row = get_or m.members.rows.items method no_row

      signature : ℕ
      signature = get_or m.signatures.of_members.items method 0

      rows_within : method < length m.members.rows.items
      rows_within = methods_within texts classes m are method m_within

      of_row : signature_of m.members.rows.items row.name row.descriptor ≡ Some signature
      of_row = signature_at m.members.rows.items m.signatures are.signatures method rows_within

      there : slice_get m.members.rows.items method ≡ Some row
      there = slice_get-get_or m.members.rows.items method no_row rows_within

      name_there : slice_get texts row.name ≡ Some (method_at classes method).method.name
      name_there = slice_get-get_or texts row.name [] (are.rows.rows.names method row there)
          ∙ ap (λ (o : Owned). Some o.name) (method_row texts classes m are method m_within)

      descriptor_there : slice_get texts row.descriptor ≡ Some (method_at classes method).method.descriptor
      descriptor_there = slice_get-get_or texts row.descriptor [] (are.rows.rows.descriptors method row there)
          ∙ ap (λ (o : Owned). Some o.descriptor) (method_row texts classes m are method m_within)

-- a table of nearest methods returns by the signature of a method what its name and descriptor are looked up for
pub nearest_by_method : (texts : List (List ℕ)) (classes : List DeclaredClass) (m : Methods) → AreMethods texts classes m → (passes : ℕ → Bool)
    (n : Nearest) → AreNearest classes m.members.rows.items m.signatures.of_members.items passes n → (class method : ℕ) → class < length classes
    → method < length (methods_of classes)
    → nearest_in n class (get_or m.signatures.of_members.items method 0)
    ≡ method_among classes passes (method_at classes method).method.name (method_at classes method).method.descriptor (chain_of classes class)
nearest_by_method texts classes m are passes n nearest class method within m_within =
    let signature = get_or m.signatures.of_members.items method 0 in
    nearest.nearest class signature within (nearest.room signature (signature_low texts classes m are method m_within))
    ∙ first_found-same (own_by m.members.rows.items m.signatures.of_members.items passes signature)
    (own_method classes passes (method_at classes method).method.name (method_at classes method).method.descriptor) (chain_of classes class)
    (own_by_method texts classes m are passes method m_within)

-- so is a class's own method in such a table
pub own_in_by_method : (texts : List (List ℕ)) (classes : List DeclaredClass) (m : Methods) → AreMethods texts classes m → IsLinear classes
    → (passes : ℕ → Bool) (n : Nearest) → AreNearest classes m.members.rows.items m.signatures.of_members.items passes n → (method : ℕ)
    → method < length (methods_of classes) → (class : ℕ)
    → own_in n m.members.rows.items (get_or m.signatures.of_members.items method 0) class
    ≡ own_method classes passes (method_at classes method).method.name (method_at classes method).method.descriptor class
own_in_by_method texts classes m are linear passes n nearest method within class =
    own_in-is classes m.members m.signatures.of_members.items passes n linear (AreSections-methods texts classes m.members are.rows) nearest
    (get_or m.signatures.of_members.items method 0) class
    (nearest.room (get_or m.signatures.of_members.items method 0) (signature_low texts classes m are method within))
    ∙ own_by_method texts classes m are passes method within class

pub signature_there : (texts : List (List ℕ)) (classes : List DeclaredClass) (m : Methods) → AreMethods texts classes m → (method : ℕ)
    → method < length (methods_of classes)
    → slice_get m.signatures.of_members.items method ≡ Some (get_or m.signatures.of_members.items method 0)
signature_there texts classes m are method within =
    slice_get-get_or m.signatures.of_members.items method 0 (omega (
      arith,
      methods_within texts classes m are method within,
      count_of_signatures m.members.rows.items m.signatures are.signatures,
    ))

-- ---- special calls

constructor_test : (m : Methods) (method : ℕ) (row : MemberRow) → slice_get m.members.rows.items method ≡ Some row
    → is_constructor_in m method ≡ nat_eq row.name m.constructor
constructor_test m method row there = rw there refl

searches-is : (texts : List (List ℕ)) (classes : List DeclaredClass) (m : Methods) (h : Hierarchy) → AreMethods texts classes m
    → IsHierarchy classes h → (caller : ℕ) (named : Option ℕ) (method : ℕ) → caller < length classes → method < length (methods_of classes)
    → searches_in m h caller named method ≡ searches_above classes caller named (method_at classes method).method.name
searches-is texts classes m h are is caller None method within m_within = refl
searches-is texts classes m h are is caller (Some named) method within m_within =
    ap (λ b. not b && is_superclass_in h caller named) is_constructor
    ∙ ap (λ b. not (bytes_eq (method_at classes method).method.name constructor_name) && b) (superclass-is classes h is caller named within) where
      row : MemberRow
      row = get_or m.members.rows.items method no_row

      there : slice_get m.members.rows.items method ≡ Some row
      there = slice_get-get_or m.members.rows.items method no_row (methods_within texts classes m are method m_within)

      is_constructor : is_constructor_in m method ≡ bytes_eq (method_at classes method).method.name constructor_name
      is_constructor =
          constructor_test m method row there
          ∙ text-number texts are.distinct row.name m.constructor constructor_name (are.rows.rows.names method row there) are.constructor
          ∙ ap (λ (o : Owned). bytes_eq o.name constructor_name) (method_row texts classes m are method m_within)

above-is : (texts : List (List ℕ)) (classes : List DeclaredClass) (m : Methods) (h : Hierarchy) → AreMethods texts classes m → IsHierarchy classes h
    → (caller method : ℕ) → caller < length classes → method < length (methods_of classes)
    → above_in m h caller method ≡ first_found (own_instance classes method) (superclasses_of classes caller)
above-is texts classes m h are is caller method within m_within =
    ap (option_and_then from_parent) (ap (λ xs. get_or xs caller None) is.parents
    ∙ get_or-map-range_with_len (parent_of classes) 0 (length classes) caller caller None within (zero-add caller))
    ∙ by_parent (parent_of classes caller) refl
    ∙ ap (λ xs. first_found (own_instance classes method) (drop 1 xs)) (sym (is.linear caller within)) where
      from_parent : ℕ → Option ℕ
      from_parent parent = option_and_then (nearest_in m.of_objects parent) (slice_get m.signatures.of_members.items method)

      by_parent : (o : Option ℕ) → parent_of classes caller ≡ o
          → option_and_then from_parent o ≡ first_found (own_instance classes method) (chain_from classes o)
      by_parent None e = refl
      by_parent (Some p) e =
          ap (option_and_then (nearest_in m.of_objects p)) (signature_there texts classes m are method m_within)
          ∙ nearest_by_method texts classes m are is_instance m.of_objects are.of_objects p method (parent_of-within classes caller p e) m_within

pub special-is : (texts : List (List ℕ)) (classes : List DeclaredClass) (m : Methods) (h : Hierarchy) (caller : ℕ) (named : Option ℕ) (method : ℕ)
    → AreMethods texts classes m → IsHierarchy classes h → caller < length classes → method < length (methods_of classes)
    → special_in m h caller named method ≡ special_target classes caller named method
unfolding special_target
special-is texts classes m h caller named method are is within m_within =
    ap (λ b. cond b (unwrap_or (above_in m h caller method) method) method) (searches-is texts classes m h are is caller named method within m_within)
    ∙ ap (λ o. cond (searches_above classes caller named (method_at classes method).method.name) (unwrap_or o method) method)
    (above-is texts classes m h are is caller method within m_within)
