-- One lemma over the instructions: what holds of each sort of effect that a row of the machine's table can have holds of the row.
use Rattle.std.proofs.Common.{◌≡◌, ℕ, ℤ, pos, ◌+◌, ◌-◌, ◌<◌, ◌||◌, not, Bool, true, false, arith, List, [], ◌∷◌, codes, reverse, length, take, Option, Some, None, option_map, refl, ap, slice_get}
use Rattle.std.specs.Prelude.{int_lt, unsigned_abs, nat_lt}
use Rattle.std.specs.List.{AllByRecursion, list_any, range_with_len}
use Rattle.fm_base.specs.Kinds.{kind_words}
use Rattle.fm_base.specs.declared.ids.FieldId.{FieldId}
use Rattle.fm_base.specs.declared.ids.TypeId.{TypeId}
use Rattle.fm_base.specs.declared.kinds.Base.{Base}
use Rattle.fm_base.specs.declared.kinds.Kind.{Kind}
use Rattle.fm_base.specs.declared.kinds.Kind.TheVariants as kind
use Rattle.fm_base.specs.declared.kinds.TypeRef.{TypeRef}
use Rattle.fm_code.specs.SpellsCode.{LocalsFit, targets_of}
use Rattle.fm_code.specs.StackWords.{element_words, number_given}
use Rattle.fm_code.specs.declared.instructions.Insn.{Insn}
use Rattle.fm_code.specs.declared.instructions.Insn.TheVariants as insn
use Rattle.fm_code.specs.declared.operations.Elem.{Elem}
use Rattle.fm_code.specs.declared.operations.Elem.TheVariants as elem
use Rattle.fm_code.specs.declared.operations.Reg.{Reg}
use Rattle.fm_code.specs.declared.operations.Reg.TheVariants as reg
use Rattle.fm_types.proofs.EachCheckRow.{is_number, wanted_by}
use Rattle.fm_types.specs.ArrayRows.{is_array_of}
use Rattle.fm_types.specs.Fits.{fits_type}
use Rattle.fm_types.specs.Named.{throwable_type}
use Rattle.fm_world.specs.Chains.{is_sub}
use Rattle.fm_world.specs.Members.{slot_of}
use Rattle.fm_world.specs.Programs.{class_of_type, Outline}
use Rattle.fm_world.specs.Uses.{array_of, base_of_elem}
use Rattle.fm_world.specs.declared.uses.Use.{Use}
use Rattle.fm_world.specs.declared.uses.Use.TheVariants as resolved
use Rattle.fm_frames.specs.ArrayRows as arrays
use Rattle.fm_frames.specs.ArrayRows.{array_actions, element_kind, element_type, on_element, put_element, put_reference}
use Rattle.fm_frames.specs.CallRows as calls
use Rattle.fm_frames.specs.Effects.{acting, Effect, Enters, Exits, Falls, Faults, faulty, given_number, giving_literal, going, int_word, Jumps, JumpsIfSame, loaded, long_words, Make, making, Next, null_word, OfLocal, OfMade, OfOperand, OfPlace, OfStatic, LocalPlus, Plain, Put, Returns, SetStatic, Source, Throws, words}
use Rattle.fm_frames.specs.JumpRows as jumps
use Rattle.fm_frames.specs.NumberRows as numbers
use Rattle.fm_frames.specs.ObjectRows as objects
use Rattle.fm_frames.specs.Operands.{size_of_type, thrown, thrown_null}
use Rattle.fm_frames.specs.Rows.{effect_of}
use Rattle.fm_frames.specs.Sights.{Looks, Sight, Thing}
use Rattle.fm_frames.specs.declared.values.Value.TheVariants as value
use Rattle.fm_frames.proofs.Cases.{by_held, by_if, by_int, by_long, by_object, by_on_field, by_on_type, by_passing, by_reference}
use Rattle.fm_frames.proofs.EachNumber.{each_number}
use Rattle.fm_frames.proofs.Failures.{Arithmetic, ArrayStore, ClassCast, Failures, IndexOutside, NegativeSize, NullPointer}
use Rattle.fm_frames.proofs.SwitchTargets.{few_keys, key_within, table_within}
use Rattle.fm_frames.specs.Literals.{class_literal, literal_named}

-- ---- what an instruction names

-- a local that the instruction names, however many its method has
abbrev pub IsLocalOf : Insn → ℕ → Type 0
IsLocalOf i k = (max : ℕ) → LocalsFit max i → k < max

-- a number or null, or what is no place of an object; and locals only where the instruction names them
abbrev pub IsNamed : Insn → Source → Type 0
IsNamed i (Plain (value.Ref cell)) = cell.0 ≡ 0
IsNamed i (OfLocal k) = IsLocalOf i k
IsNamed i (LocalPlus k by) = IsLocalOf i k
IsNamed i (OfPlace n place k) = ⊥
IsNamed i source = Unit {0}

-- a local that the instruction names gets such a value
abbrev pub WritesNamed : Insn → ℕ × Source → Type 0
WritesNamed i w = IsLocalOf i w.0 × IsNamed i w.1

-- on, to a target that the instruction has, into a method, or back
abbrev pub LeadsOn : Insn → Next → Type 0
LeadsOn i (Jumps n) = n < length (targets_of i)
LeadsOn i (JumpsIfSame same) = 0 < length (targets_of i)
LeadsOn i (Throws source) = ⊥
LeadsOn i (Faults source) = ⊥
LeadsOn i (Enters methods) = ⊥
LeadsOn i (Exits n) = ⊥
LeadsOn i next = Unit {0}

abbrev pub IsCall : Insn → Type 0
IsCall (insn.Virtual index) = Unit {0}
IsCall (insn.Interface index) = Unit {0}
IsCall (insn.Special index) = Unit {0}
IsCall (insn.Static index) = Unit {0}
IsCall i = ⊥

-- as many elements as the counts say; a negative one throws before
abbrev pub magnitudes : List ℤ → List ℕ
magnitudes [] = []
magnitudes (n ∷ others) = unsigned_abs n ∷ magnitudes others

-- ---- what has to hold

-- of the four calls of a method
pub record CallRows (o : Outline) (s : List Sight) (method : ℕ) (u : Use) (byte : Option ℕ) (A : Effect → Type 0) : Type 0 where
  pub virtual : A (calls.virtual_effect o u byte s)
  pub interface : A (calls.interface_effect o u byte s)
  pub special : A (calls.special_effect o method u byte s)
  pub static : A (calls.static_effect o u byte s)

-- of each sort of effect that an instruction's row can have
pub record InsnLeaves (o : Outline) (s : List Sight) (method : ℕ) (i : Insn) (u : Use) (byte : Option ℕ) (A : Effect → Type 0) : Type 0 where
  pub failures : Failures o A
  -- nothing is done: words are given and locals are written; or something else than the next item follows
  pub plain : (e : Effect) (gives : List Source) (writes : List (ℕ × Source)) → AllByRecursion (IsNamed i) gives → AllByRecursion (WritesNamed i) writes
      → A (record e { actions = []; gives = gives; writes = writes; next = Falls })
  pub goes : (e : Effect) (next : Next) → LeadsOn i next → A (record e { actions = []; gives = []; writes = []; next = next })
  pub throws : (it : Looks) → i ≡ insn.Throw → slice_get s 0 ≡ Some (Thing it) → fits_type o.classes it.type (throwable_type o) ≡ true
      → A (going 0 (Throws (OfOperand 0)))
  pub literal : (index literal : ℕ) → i ≡ insn.LoadPool index → literal_named o u ≡ Some literal → A (giving_literal 0 literal)
  -- objects and arrays are made
  pub new : (index : ℕ) (n : TypeId) (t : TypeRef) (class : ℕ) → i ≡ insn.New index → u ≡ resolved.OfType n → slice_get o.types n.0 ≡ Some t
      → class_of_type t ≡ Some class → A (objects.starting class (making 0 (Make t (size_of_type o t) [])))
  pub number_array : (e : Elem) (b : Base) (len : ℕ) → i ≡ insn.NewArray e → base_of_elem e ≡ Some b
      → A (making 1 (Make (record { dims = 1; base = b }) len []))
  pub reference_array : (index : ℕ) (n : TypeId) (t array : TypeRef) (len : ℕ) → i ≡ insn.NewRefs index → u ≡ resolved.OfType n
      → slice_get o.types n.0 ≡ Some t → array_of t ≡ Some array → A (making 1 (Make array len []))
  pub nested : (index dimensions : ℕ) (n : TypeId) (t : TypeRef) (counts : List ℤ) → i ≡ insn.MultiArray index dimensions → u ≡ resolved.OfType n
      → slice_get o.types n.0 ≡ Some t → arrays.ints_at s (reverse (range_with_len 0 dimensions)) ≡ Some counts
      → A (record (words dimensions (OfMade 0 ∷ [])) { actions = array_actions t (magnitudes counts) 0 })
  -- fields and elements are read and put
  pub put_static : (index : ℕ) (f : FieldId) (n : TypeId) (t : TypeRef) → i ≡ insn.PutStatic index → u ≡ resolved.OfField f n
      → slice_get o.types n.0 ≡ Some t
      → (let k = objects.kind_of_field o f.0 in A (objects.starting (objects.class_of_field o f.0)
      (acting (kind_words k) (SetStatic (slot_of o.classes f.0) k (OfOperand (kind_words k - 1)) ∷ []))))
  pub get_field : (index : ℕ) (f : FieldId) (n : TypeId) (t : TypeRef) (it : Looks) → i ≡ insn.GetField index → u ≡ resolved.OfField f n
      → slice_get o.types n.0 ≡ Some t → slice_get s 0 ≡ Some (Thing it) → fits_type o.classes it.type t ≡ true
      → (let k = objects.kind_of_field o f.0 in A (words 1 (loaded k (OfPlace 0 (slot_of o.classes f.0) k))))
  pub put_field : (index : ℕ) (f : FieldId) (n : TypeId) (t : TypeRef) (it : Looks) → i ≡ insn.PutField index → u ≡ resolved.OfField f n
      → slice_get o.types n.0 ≡ Some t → slice_get s (kind_words (objects.kind_of_field o f.0)) ≡ Some (Thing it) → fits_type o.classes it.type t ≡ true
      → (let k = objects.kind_of_field o f.0 in
      A (acting (kind_words k + 1) (Put (OfOperand (kind_words k)) (slot_of o.classes f.0) k (OfOperand (kind_words k - 1)) ∷ [])))
  pub get_element : (e : Elem) (it : Looks) (place : ℕ) → i ≡ insn.ArrayLoad e → slice_get s 1 ≡ Some (Thing it) → is_array_of e it.type ≡ true
      → A (words 2 (loaded (element_kind it.type) (OfPlace 1 place (element_kind it.type))))
  pub put_element : (e : Elem) (it : Looks) (place : ℕ) → i ≡ insn.ArrayStore e → slice_get s (element_words e + 1) ≡ Some (Thing it)
      → is_array_of e it.type ≡ true → A (put_element (element_words e) it place)
  pub calls : IsCall i → CallRows o s method u byte A

-- the words of a number name nothing
number_named : (i : Insn) (is_long : Bool) (n : ℤ) → AllByRecursion (IsNamed i) (given_number is_long n)
number_named i true n = (tt, (tt, tt))
number_named i false n = (tt, tt)

-- what holds of a value, and of the second half of a long, holds of the words of a value of each kind
pub loaded_all : (P : Source → Type 0) → P (Plain value.Top) → (k : Kind) (source : Source) → P source → AllByRecursion P (loaded k source)
loaded_all P half kind.Long source holds = (half, (holds, tt))
loaded_all P half kind.Boolean source holds = (holds, tt)
loaded_all P half kind.Byte source holds = (holds, tt)
loaded_all P half kind.Char source holds = (holds, tt)
loaded_all P half kind.Short source holds = (holds, tt)
loaded_all P half kind.Int source holds = (holds, tt)
loaded_all P half (kind.Ref t) source holds = (holds, tt)

module _ (o : Outline) (s : List Sight) (method : ℕ) (byte : Option ℕ) (A : Effect → Type 0) where
  abbrev L : Insn → Use → Type 0
  L i u = InsnLeaves o s method i u byte A

  module _ (i : Insn) (u : Use) (l : L i u) where
    null : A (thrown_null o)
    null = l.failures.raised NullPointer

    lost : (n : ℕ) → A (faulty n)
    lost n = l.failures.lost n

    given : (takes : ℕ) (gives : List Source) → AllByRecursion (IsNamed i) gives → A (words takes gives)
    given takes gives named = l.plain (words takes []) gives [] named tt

    going_on : (takes : ℕ) (next : Next) → LeadsOn i next → A (going takes next)
    going_on takes next leads = l.goes (words takes []) next leads

    -- ---- constants, numbers and jumps

    constant_row : (index : ℕ) → i ≡ insn.LoadPool index → (used : Use) → u ≡ used → A (numbers.constant_effect o used)
    unfolding numbers.constant_effect
    constant_row index it_is (resolved.OfInt n) is = given 0 (int_word n) (tt, tt)
    constant_row index it_is (resolved.OfLong n) is = given 0 (long_words n) (tt, (tt, tt))
    constant_row index it_is (resolved.OfText text) is = l.literal index text it_is (ap (literal_named o) is)
    constant_row index it_is (resolved.OfType t) is = l.literal index (class_literal o t.0) it_is (ap (literal_named o) is)
    constant_row index it_is (resolved.OfField f t) is = l.failures.none
    constant_row index it_is (resolved.OfMethod m t) is = l.failures.none
    constant_row index it_is resolved.Unused is = l.failures.none

    number_row : is_number i ≡ true → A (effect_of o method u i byte s)
    number_row is =
        each_number o s method u byte A i is (record {
          int = λ n at k each. by_int A s n k l.failures.none each;
          long = λ n at k each. by_long A s n k l.failures.none each;
          thrown = l.failures.raised Arithmetic;
          gives = λ n. given (length (wanted_by i)) (given_number (number_given i) n) (number_named i (number_given i) n);
        })

    jump_row : (takes : ℕ) → 0 < length (targets_of i) → (taken : Bool) → A (going takes (jumps.jumps_if taken))
    jump_row takes some true = going_on takes (Jumps 0) some
    jump_row takes some false = going_on takes Falls tt

    return_row : (value : Option Reg) → A (jumps.return_effect value)
    unfolding jumps.return_effect
    return_row None = going_on 0 (Returns 0) tt
    return_row (Some reg.Int) = going_on 0 (Returns 1) tt
    return_row (Some reg.Long) = going_on 0 (Returns 2) tt
    return_row (Some reg.Ref) = going_on 0 (Returns 1) tt

    throw_row : i ≡ insn.Throw → A (jumps.throw_effect o s)
    unfolding jumps.throw_effect
    throw_row it_is = by_object A o (throwable_type o) s 0 _ null l.failures.none (lost 0) (λ it seen fits. l.throws it it_is seen fits)

    -- ---- objects, fields and casts

    made_row : (index : ℕ) (n : TypeId) (t : TypeRef) → i ≡ insn.New index → u ≡ resolved.OfType n → slice_get o.types n.0 ≡ Some t → (class : Option ℕ)
        → class_of_type t ≡ class → A (objects.made_of o t class)
    made_row index n t it_is used at None is = l.failures.none
    made_row index n t it_is used at (Some class) is = l.new index n t class it_is used at is

    new_row : (index : ℕ) → i ≡ insn.New index → A (objects.new_effect o u)
    unfolding objects.new_effect
    new_row index it_is = by_on_type A o u _ l.failures.none (λ n t used at. made_row index n t it_is used at (class_of_type t) refl)

    get_static_row : A (objects.get_static_effect o u)
    unfolding objects.get_static_effect
    get_static_row =
        by_on_field A o u _ l.failures.none
        (λ f n t used at. l.plain (objects.starting (objects.class_of_field o f.0) (words 0 []))
        (loaded (objects.kind_of_field o f.0) (OfStatic (slot_of o.classes f.0))) []
        (loaded_all (IsNamed i) tt (objects.kind_of_field o f.0) (OfStatic (slot_of o.classes f.0)) tt) tt)

    put_static_row : (index : ℕ) → i ≡ insn.PutStatic index → A (objects.put_static_effect o u)
    unfolding objects.put_static_effect
    put_static_row index it_is = by_on_field A o u _ l.failures.none (λ f n t used at. l.put_static index f n t it_is used at)

    get_field_row : (index : ℕ) → i ≡ insn.GetField index → A (objects.get_field_effect o u s)
    unfolding objects.get_field_effect
    get_field_row index it_is =
        by_on_field A o u _ l.failures.none
        (λ f n t used at. by_object A o t s 0 _ null l.failures.none (lost 0) (λ it seen fits. l.get_field index f n t it it_is used at seen fits))

    put_field_row : (index : ℕ) → i ≡ insn.PutField index → A (objects.put_field_effect o u s)
    unfolding objects.put_field_effect
    put_field_row index it_is =
        by_on_field A o u _ l.failures.none
        (λ f n t used at. by_object A o t s (kind_words (objects.kind_of_field o f.0)) _ null l.failures.none (lost (kind_words (objects.kind_of_field o f.0)))
        (λ it seen fits. l.put_field index f n t it it_is used at seen fits))

    cast_row : A (objects.cast_effect o u s)
    unfolding objects.cast_effect
    cast_row =
        by_on_type A o u _ l.failures.none
        (λ n t used at. by_held A _ s 0 _ (given 0 [] tt) l.failures.none (lost 0)
        (λ it seen. by_if A (is_sub o.classes it.type t) _ (thrown o (codes "java/lang/ClassCastException")) (λ passes. given 0 [] tt)
        (λ fails. l.failures.raised ClassCast)))

    is_a_row : A (objects.is_a_effect o u s)
    unfolding objects.is_a_effect
    is_a_row =
        by_on_type A o u _ l.failures.none
        (λ n t used at. by_held A _ s 0 _ (given 1 _ (tt, tt)) l.failures.none (lost 0) (λ it seen. given 1 _ (tt, tt)))

    -- ---- arrays

    by_element : (e : Elem) (index : ℕ) (follows : Looks → ℕ → Effect)
        → ((it : Looks) (place : ℕ) → slice_get s (index + 1) ≡ Some (Thing it) → is_array_of e it.type ≡ true → A (follows it place))
        → A (on_element o e s index follows)
    by_element e index follows some =
        by_passing A o (λ it. is_array_of e it.type) s (index + 1) _ null l.failures.none (lost (index + 1))
        (λ it seen passes. by_int A s index _ l.failures.none
        (λ n. by_if A (int_lt n (pos 0) || not (int_lt n (pos it.len))) (thrown o (codes "java/lang/ArrayIndexOutOfBoundsException"))
        (follows it (unsigned_abs n)) (λ out. l.failures.raised IndexOutside) (λ inside. some it (unsigned_abs n) seen passes)))

    array_load_row : (e : Elem) → i ≡ insn.ArrayLoad e → A (arrays.array_load_effect o e s)
    unfolding arrays.array_load_effect
    array_load_row e it_is =
        by_element e 0 (λ it place. words 2 (loaded (element_kind it.type) (OfPlace 1 place (element_kind it.type))))
        (λ it place seen passes. l.get_element e it place it_is seen passes)

    -- the type of a reference is tested where it is put
    reference_row : (it : Looks) (place : ℕ) → A (put_element 1 it place) → A (put_reference o s it place)
    reference_row it place put =
        by_held A (put_element 1 it place) s 0 _ put l.failures.none (lost 0)
        (λ v held. by_if A (is_sub o.classes v.type (element_type it.type)) (put_element 1 it place) (thrown o (codes "java/lang/ArrayStoreException"))
        (λ fits. put) (λ fails. l.failures.raised ArrayStore))

    array_store_row : (e : Elem) → i ≡ insn.ArrayStore e → A (arrays.array_store_effect o e s)
    unfolding arrays.array_store_effect
    array_store_row elem.Ref it_is =
        by_element elem.Ref 1 (λ it place. put_reference o s it place)
        (λ it place seen passes. reference_row it place (l.put_element elem.Ref it place it_is seen passes))
    array_store_row elem.Boolean it_is = by_element elem.Boolean 1 (put_element 1) (λ it place. l.put_element elem.Boolean it place it_is)
    array_store_row elem.Byte it_is = by_element elem.Byte 1 (put_element 1) (λ it place. l.put_element elem.Byte it place it_is)
    array_store_row elem.Char it_is = by_element elem.Char 1 (put_element 1) (λ it place. l.put_element elem.Char it place it_is)
    array_store_row elem.Short it_is = by_element elem.Short 1 (put_element 1) (λ it place. l.put_element elem.Short it place it_is)
    array_store_row elem.Int it_is = by_element elem.Int 1 (put_element 1) (λ it place. l.put_element elem.Int it place it_is)
    array_store_row elem.Long it_is = by_element elem.Long 2 (put_element 2) (λ it place. l.put_element elem.Long it place it_is)

    length_row : A (arrays.length_effect o s)
    unfolding arrays.length_effect
    length_row = by_passing A o (λ it. nat_lt 0 it.type.dims) s 0 _ null l.failures.none (lost 0) (λ it seen passes. given 1 (int_word (pos it.len)) (tt, tt))

    counted_row : (t : TypeRef) → ((len : ℕ) → A (making 1 (Make t len []))) → A (arrays.array_made o (Some t) s)
    counted_row t makes =
        by_int A s 0 _ l.failures.none
        (λ n. by_if A (int_lt n (pos 0)) (arrays.thrown_negative o) (making 1 (Make t (unsigned_abs n) []))
        (λ negative. l.failures.raised NegativeSize) (λ positive. makes (unsigned_abs n)))

    number_array_row : (e : Elem) → i ≡ insn.NewArray e → (b : Option Base) → base_of_elem e ≡ b
        → A (arrays.array_made o (option_map (λ (b : Base). record { dims = 1; base = b }) b) s)
    number_array_row e it_is None is = l.failures.none
    number_array_row e it_is (Some b) is = counted_row (record { dims = 1; base = b }) (λ len. l.number_array e b len it_is is)

    reference_array_row : (index : ℕ) (n : TypeId) (t : TypeRef) → i ≡ insn.NewRefs index → u ≡ resolved.OfType n → slice_get o.types n.0 ≡ Some t
        → (array : Option TypeRef) → array_of t ≡ array → A (arrays.array_made o array s)
    reference_array_row index n t it_is used at None is = l.failures.none
    reference_array_row index n t it_is used at (Some array) is = counted_row array (λ len. l.reference_array index n t array len it_is used at is)

    new_array_row : (e : Elem) → i ≡ insn.NewArray e → A (arrays.new_array_effect o e s)
    unfolding arrays.new_array_effect
    new_array_row e it_is = number_array_row e it_is (base_of_elem e) refl

    new_references_row : (index : ℕ) → i ≡ insn.NewRefs index → A (arrays.new_references_effect o u s)
    unfolding arrays.new_references_effect
    new_references_row index it_is =
        by_on_type A o u _ l.failures.none (λ n t used at. reference_array_row index n t it_is used at (array_of t) refl)

    nested_row : (index dimensions : ℕ) (n : TypeId) (t : TypeRef) → i ≡ insn.MultiArray index dimensions → u ≡ resolved.OfType n
        → slice_get o.types n.0 ≡ Some t → (counts : Option (List ℤ)) → arrays.ints_at s (reverse (range_with_len 0 dimensions)) ≡ counts
        → A (arrays.arrays_of o t dimensions counts)
    nested_row index dimensions n t it_is used at None is = l.failures.none
    nested_row index dimensions n t it_is used at (Some counts) is =
        by_if A (list_any (λ n. int_lt n (pos 0)) counts) (arrays.thrown_negative o)
        (record (words dimensions (OfMade 0 ∷ [])) { actions = array_actions t (magnitudes counts) 0 }) (λ negative. l.failures.raised NegativeSize)
        (λ positive. l.nested index dimensions n t counts it_is used at is)

    multi_array_row : (index dimensions : ℕ) → i ≡ insn.MultiArray index dimensions → A (arrays.multi_array_effect o u dimensions s)
    unfolding arrays.multi_array_effect
    multi_array_row index dimensions it_is =
        by_on_type A o u _ l.failures.none
        (λ n t used at. nested_row index dimensions n t it_is used at (arrays.ints_at s (reverse (range_with_len 0 dimensions))) refl)

  -- ---- all instructions

  pub each_insn : (i : Insn) (u : Use) → L i u → A (effect_of o method u i byte s)
  unfolding effect_of numbers.load_effect numbers.store_effect numbers.move_effect jumps.int_jump_effect jumps.pair_jump_effect jumps.null_jump_effect jumps.table_effect jumps.lookup_effect
  each_insn insn.Nop u l = given insn.Nop u l 0 [] tt
  each_insn insn.Null u l = given insn.Null u l 0 null_word (refl, tt)
  each_insn (insn.Const n) u l = given (insn.Const n) u l 0 (int_word n) (tt, tt)
  each_insn (insn.LongConst n) u l = given (insn.LongConst n) u l 0 (long_words n) (tt, (tt, tt))
  each_insn (insn.LoadPool index) u l = constant_row (insn.LoadPool index) u l index refl u refl
  each_insn (insn.Load reg.Int k) u l = given (insn.Load reg.Int k) u l 0 (OfLocal k ∷ []) ((λ max fits. fits), tt)
  each_insn (insn.Load reg.Long k) u l =
      given (insn.Load reg.Long k) u l 0 (Plain value.Top ∷ OfLocal k ∷ []) (tt, ((λ max fits. omega (arith, fits)), tt))
  each_insn (insn.Load reg.Ref k) u l = given (insn.Load reg.Ref k) u l 0 (OfLocal k ∷ []) ((λ max fits. fits), tt)
  each_insn (insn.Store reg.Int k) u l = l.plain (words 1 []) [] ((k, OfOperand 0) ∷ []) tt (((λ max fits. fits), tt), tt)
  each_insn (insn.Store reg.Long k) u l =
      l.plain (words 2 []) [] ((k, OfOperand 1) ∷ (k + 1, Plain value.Top) ∷ []) tt
      (((λ max fits. omega (arith, fits)), tt), (((λ max fits. fits), tt), tt))
  each_insn (insn.Store reg.Ref k) u l = l.plain (words 1 []) [] ((k, OfOperand 0) ∷ []) tt (((λ max fits. fits), tt), tt)
  each_insn (insn.Inc k by) u l = l.plain (words 0 []) [] ((k, LocalPlus k by) ∷ []) tt (((λ max fits. fits), (λ max fits. fits)), tt)
  each_insn insn.Pop u l = given insn.Pop u l 1 [] tt
  each_insn insn.Pop2 u l = given insn.Pop2 u l 2 [] tt
  each_insn insn.Dup u l = given insn.Dup u l _ _ (tt, (tt, tt))
  each_insn insn.DupX1 u l = given insn.DupX1 u l _ _ (tt, (tt, (tt, tt)))
  each_insn insn.DupX2 u l = given insn.DupX2 u l _ _ (tt, (tt, (tt, (tt, tt))))
  each_insn insn.Dup2 u l = given insn.Dup2 u l _ _ (tt, (tt, (tt, (tt, tt))))
  each_insn insn.Dup2X1 u l = given insn.Dup2X1 u l _ _ (tt, (tt, (tt, (tt, (tt, tt)))))
  each_insn insn.Dup2X2 u l = given insn.Dup2X2 u l _ _ (tt, (tt, (tt, (tt, (tt, (tt, tt))))))
  each_insn insn.Swap u l = given insn.Swap u l _ _ (tt, (tt, tt))
  each_insn (insn.IfInt test target) u l = by_int A s 0 _ l.failures.none (λ a. jump_row (insn.IfInt test target) u l 1 (omega arith) _)
  each_insn (insn.IfPair test target) u l =
      by_int A s 0 _ l.failures.none (λ b. by_int A s 1 _ l.failures.none (λ a. jump_row (insn.IfPair test target) u l 2 (omega arith) _))
  each_insn (insn.IfSame same target) u l = going_on (insn.IfSame same target) u l 2 _ (omega arith)
  each_insn (insn.IfNull is_null target) u l =
      by_reference A s 0 _ l.failures.none (λ b. jump_row (insn.IfNull is_null target) u l 1 (omega arith) _)
  each_insn (insn.Goto target) u l = going_on (insn.Goto target) u l 0 (Jumps 0) (omega arith)
  each_insn (insn.Table low others targets) u l =
      by_int A s 0 _ l.failures.none (λ key. going_on (insn.Table low others targets) u l 1 _ (table_within low (length targets) key))
  each_insn (insn.Lookup others keys targets) u l =
      by_int A s 0 _ l.failures.none
      (λ key. going_on (insn.Lookup others keys targets) u l 1 _ (key_within (take (length targets) keys) key (length targets) (few_keys keys (length targets))))
  each_insn (insn.Return value) u l = return_row (insn.Return value) u l value
  each_insn insn.Throw u l = throw_row insn.Throw u l refl
  each_insn (insn.New index) u l = new_row (insn.New index) u l index refl
  each_insn (insn.GetStatic index) u l = get_static_row (insn.GetStatic index) u l
  each_insn (insn.PutStatic index) u l = put_static_row (insn.PutStatic index) u l index refl
  each_insn (insn.GetField index) u l = get_field_row (insn.GetField index) u l index refl
  each_insn (insn.PutField index) u l = put_field_row (insn.PutField index) u l index refl
  each_insn (insn.Cast index) u l = cast_row (insn.Cast index) u l
  each_insn (insn.IsA index) u l = is_a_row (insn.IsA index) u l
  each_insn (insn.ArrayLoad e) u l = array_load_row (insn.ArrayLoad e) u l e refl
  each_insn (insn.ArrayStore e) u l = array_store_row (insn.ArrayStore e) u l e refl
  each_insn insn.Length u l = length_row insn.Length u l
  each_insn (insn.NewArray e) u l = new_array_row (insn.NewArray e) u l e refl
  each_insn (insn.NewRefs index) u l = new_references_row (insn.NewRefs index) u l index refl
  each_insn (insn.MultiArray index dimensions) u l = multi_array_row (insn.MultiArray index dimensions) u l index dimensions refl
  each_insn (insn.Virtual index) u l = (l.calls tt).virtual
  each_insn (insn.Interface index) u l = (l.calls tt).interface
  each_insn (insn.Special index) u l = (l.calls tt).special
  each_insn (insn.Static index) u l = (l.calls tt).static
  each_insn (insn.LeftOut opcode) u l = l.failures.none
  each_insn i u l = number_row i u l refl
