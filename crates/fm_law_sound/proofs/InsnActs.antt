-- The actions of each instruction but calls fit: what it makes has a number and a length, and what it puts has the kind of its place.
use Rattle.std.proofs.Common.{◌≡◌, ℕ, ℤ, suc, ◌+◌, ◌-◌, ◌<◌, ◌≤◌, ◌==◌, ◌&&◌, not, cond, Bool, true, false, List, [], ◌∷◌, ◌++◌, length, reverse, take, nat_lt, nat_le, replicate, Option, Some, None, refl, sym, ◌∙◌, ap, subst, slice_get, arith}
use Rattle.std.specs.List.{list_any, range_with_len}
use Rattle.std.specs.Option.{option_map}
use Rattle.std.proofs.lemmas.Bool.{and_parts, eqb-true, false≢true, leb-true, ltb-true}
use Rattle.std.proofs.lemmas.List.{length-reverse}
use Rattle.std.proofs.lemmas.List.FromFn.{length-range_with_len}
use Rattle.std.proofs.lemmas.Option.{same_Some}
use Rattle.fm_base.proofs.OptionFacts.{cond-some_then, option_and_then-some}
use Rattle.fm_base.specs.declared.kinds.Base.{Base}
use Rattle.fm_base.specs.declared.kinds.Base.TheVariants as base
use Rattle.fm_base.specs.declared.kinds.Kind.{Kind}
use Rattle.fm_base.specs.declared.kinds.Kind.TheVariants as kind
use Rattle.fm_base.specs.declared.kinds.TypeRef.{TypeRef}
use Rattle.fm_cells.specs.Stores.{Store}
use Rattle.fm_code.specs.declared.instructions.Insn.{Insn}
use Rattle.fm_code.specs.declared.instructions.Insn.TheVariants as insn
use Rattle.fm_code.specs.declared.operations.Elem.{Elem}
use Rattle.fm_code.specs.declared.operations.Elem.TheVariants as elem
use Rattle.fm_types.specs.ArrayRows as typed
use Rattle.fm_types.specs.ArrayRows.{array_store_row, has_letter, is_array_of, multi_array_row, on_array, stored_element}
use Rattle.fm_types.specs.Fits.{depth_of, depth_with, object_of}
use Rattle.fm_types.specs.Named.{field_words}
use Rattle.fm_types.specs.ObjectRows.{has_objects, new_row, put_field_row, takes_field}
use Rattle.fm_types.specs.Rows.{row_after}
use Rattle.fm_types.specs.States.{is_uninit, is_whole, replaced, stack_slots, taken, TypeState, worked, worked_below}
use Rattle.fm_types.specs.declared.slots.Slot.{Slot}
use Rattle.fm_types.specs.declared.slots.Slot.TheVariants as slot
use Rattle.fm_base.specs.Kinds.{kind_words}
use Rattle.fm_world.specs.Members.{slot_of}
use Rattle.fm_world.specs.Numbers.{type_of_class}
use Rattle.fm_world.specs.Programs.{kind_at, Outline, Program}
use Rattle.fm_world.specs.Uses.{array_of}
use Rattle.fm_world.specs.declared.uses.Use.{Use}
use Rattle.fm_world.specs.declared.uses.Use.TheVariants as resolved
use Rattle.fm_frames.specs.ArrayRows as arrays
use Rattle.fm_frames.specs.ArrayRows.{element_kind, put_element}
use Rattle.fm_frames.specs.Effects.{acting, Effect, Falls, faulty, loaded, Make, making, OfMade, OfOperand, OfPlace, Put, stuck, words}
use Rattle.fm_frames.specs.ObjectRows as objects
use Rattle.fm_frames.specs.Operands.{size_of_type}
use Rattle.fm_frames.specs.Rows.{effect_of}
use Rattle.fm_frames.specs.Sights.{Looks, Sight, sights, Thing, type_numbered}
use Rattle.fm_frames.specs.States.{Frame, word_at}
use Rattle.fm_frames.specs.declared.values.Value.{Value}
use Rattle.fm_code.specs.StackWords.{element_words}
pub use Rattle.fm_frames.proofs.EachInsn.{magnitudes}
use Rattle.fm_frames.proofs.EachInsn.{each_insn, IsCall}
use Rattle.fm_frames.proofs.Failures.{Arithmetic, ArrayStore, ClassCast, ClassChange, Failures, IndexOutside, name_of, NegativeSize, NotCloneable, NullPointer, Raised, TextOutside}
use Rattle.fm_law_sound.specs.Acting.{ActsFit, PlaceFits}
use Rattle.fm_law_sound.specs.Leading.{is_call, NamesField}
use Rattle.fm_law_sound.specs.Making.{AreFew, IsMakeable, NamesMade}
use Rattle.fm_law_sound.specs.Sound.{field_slot, FrameHasKinds, HasKind, HaveKinds, IsReference}
use Rattle.fm_law_sound.proofs.ArrayRows.{number_slots, reference_kind}
use Rattle.fm_law_sound.proofs.HiddenFields.{field_seen}
use Rattle.fm_law_sound.proofs.KindLemmas.{taken_words}
use Rattle.fm_law_sound.proofs.MadeObjects.{arithmetic_thrown, array_fits, cast_thrown, change_thrown, index_thrown, IsThrown, literal_fits, negative_thrown, no_text, null_thrown, numbered, object_fits, outside_thrown, store_thrown, uncloneable_thrown}
use Rattle.fm_law_sound.proofs.NestedArrays.{array_kind, arrays_fit}
use Rattle.fm_law_sound.proofs.SeenObjects.{seen_at}
use Rattle.fm_law_sound.proofs.ObjectRows.{row_of_field, row_of_type, static_slot_at}

-- ---- values of a kind on the stack

pub kind_is_whole : (k : Kind) → is_whole (stack_slots (k ∷ [])) ≡ true
kind_is_whole kind.Boolean = refl
kind_is_whole kind.Byte = refl
kind_is_whole kind.Char = refl
kind_is_whole kind.Short = refl
kind_is_whole kind.Int = refl
kind_is_whole kind.Long = refl
kind_is_whole (kind.Ref t) = refl

-- the value is the last of its words
top_kind : (k : Kind) (values : List Value) → HaveKinds (stack_slots (k ∷ [])) (take (length (stack_slots (k ∷ []))) values)
    → HasKind (field_slot k) (word_at values (kind_words k - 1))
top_kind kind.Boolean [] h = absurd h
top_kind kind.Boolean (v ∷ values) h = h.0
top_kind kind.Byte [] h = absurd h
top_kind kind.Byte (v ∷ values) h = h.0
top_kind kind.Char [] h = absurd h
top_kind kind.Char (v ∷ values) h = h.0
top_kind kind.Short [] h = absurd h
top_kind kind.Short (v ∷ values) h = h.0
top_kind kind.Int [] h = absurd h
top_kind kind.Int (v ∷ values) h = h.0
top_kind kind.Long [] h = absurd h
top_kind kind.Long (v ∷ []) h = absurd h.1
top_kind kind.Long (v ∷ w ∷ values) h = h.1.0
top_kind (kind.Ref t) [] h = absurd h
top_kind (kind.Ref t) (v ∷ values) h = h.0

pub int_kind : (k : Kind) (v : Value) → stack_slots (k ∷ []) ≡ slot.Int ∷ [] → HasKind slot.Int v → HasKind (field_slot k) v
int_kind kind.Boolean v is h = h
int_kind kind.Byte v is h = h
int_kind kind.Char v is h = h
int_kind kind.Short v is h = h
int_kind kind.Int v is h = h
int_kind kind.Long v is h = absurd (let many = ap length is in omega (arith, many))
int_kind (kind.Ref t) v is h = absurd (cc)

pub long_kind : (k : Kind) (v : Value) → stack_slots (k ∷ []) ≡ slot.Top ∷ slot.Long ∷ [] → HasKind slot.Long v → HasKind (field_slot k) v
long_kind kind.Long v is h = h
long_kind k v is h = absurd (let many = ap length is in omega (arith, many))

-- words of a store
pub first_int : (values : List Value) → HaveKinds (slot.Int ∷ slot.Int ∷ []) (take 2 values) → HasKind slot.Int (word_at values 0)
first_int [] h = absurd h
first_int (v ∷ values) h = h.0

pub second_long : (values : List Value) → HaveKinds (slot.Top ∷ slot.Long ∷ slot.Int ∷ []) (take 3 values) → HasKind slot.Long (word_at values 1)
second_long [] h = absurd h
second_long (v ∷ []) h = absurd h.1
second_long (v ∷ w ∷ values) h = h.1.0

first_reference : (t : TypeRef) (values : List Value) → HaveKinds (slot.Ref t ∷ slot.Int ∷ []) (take 2 values) → IsReference (word_at values 0)
first_reference t [] h = absurd h
first_reference t (v ∷ values) h = h.0

-- ---- new arrays

pub array_deep : (t array : TypeRef) → array_of t ≡ Some array → 0 < array.dims
array_deep t array is =
    let parts = cond-some_then (nat_lt t.dims 255) (Some (record { dims = t.dims + 1; base = t.base })) array is in
    let P : TypeRef → Type 0 = λ u. 0 < u.dims in subst P (same_Some (record { dims = t.dims + 1; base = t.base }) array parts.1) (omega arith)

-- an array of numbers of the letter has a dimension
pub letter_deep : (t : TypeRef) (rest : Bool) → ((t.dims == 1) && rest) ≡ true → 0 < t.dims
letter_deep t rest is = let one : t.dims ≡ 1 = eqb-true t.dims 1 (and_parts (t.dims == 1) rest is).0 in omega (arith, one)

pub depth_deep : (dims : ℕ) (b : Base) → 0 < depth_with dims b → 0 < dims
depth_deep dims (base.OfClass class) deep = deep
depth_deep dims b deep = omega (arith, deep)

-- and so has each array of such elements
pub elements_deep : (e : Elem) (t : TypeRef) → is_array_of e t ≡ true → 0 < t.dims
elements_deep elem.Boolean t is = letter_deep t (has_letter elem.Boolean t.base) is
elements_deep elem.Byte t is = letter_deep t (has_letter elem.Byte t.base) is
elements_deep elem.Char t is = letter_deep t (has_letter elem.Char t.base) is
elements_deep elem.Short t is = letter_deep t (has_letter elem.Short t.base) is
elements_deep elem.Int t is = letter_deep t (has_letter elem.Int t.base) is
elements_deep elem.Long t is = letter_deep t (has_letter elem.Long t.base) is
elements_deep elem.Ref t is = depth_deep t.dims t.base (ltb-true 0 (depth_of t) is)

-- ---- counts of arrays

pub magnitudes_many : (counts : List ℤ) → length (magnitudes counts) ≡ length counts
magnitudes_many [] = refl
magnitudes_many (n ∷ counts) = ap suc (magnitudes_many counts)

pub ints_many : (s : List Sight) (operands : List ℕ) (counts : List ℤ) → arrays.ints_at s operands ≡ Some counts → length counts ≡ length operands
ints_many s [] counts is = sym (ap length (same_Some [] counts is))
ints_many s (operand ∷ operands) counts is = by_parts (λ others at. ints_many s operands others at) (arrays.int_at s operand) (arrays.ints_at s operands) refl is where
  joined : Option ℤ → Option (List ℤ) → Option (List ℤ)
  joined (Some n) (Some others) = Some (n ∷ others)
  joined n others = None

  by_parts : ((others : List ℤ) → arrays.ints_at s operands ≡ Some others → length others ≡ length operands) → (first : Option ℤ) (others : Option (List ℤ)) → arrays.ints_at s operands ≡ others → joined first others ≡ Some counts
      → length counts ≡ suc (length operands)
  by_parts more (Some n) (Some others) at all = sym (ap length (same_Some (n ∷ others) counts all)) ∙ ap suc (more others at)
  by_parts more (Some n) None at all = absurd (cc)
  by_parts more None others at all = absurd (cc)

-- ---- the rows

-- the actions of the effect fit, where they make objects of few words
pub record Fits (o : Outline) (store : Store) (f : Frame) (e : Effect) : Type 0 where
  pub fits : AreFew o e.actions → ActsFit o store f [] e.actions

-- what rows throw has a number and a length
each_thrown : (p : Program) (ready : IsMakeable p) (x : Raised) → IsThrown p ready (name_of x)
each_thrown p ready NullPointer = null_thrown p ready
each_thrown p ready Arithmetic = arithmetic_thrown p ready
each_thrown p ready ArrayStore = store_thrown p ready
each_thrown p ready ClassCast = cast_thrown p ready
each_thrown p ready NegativeSize = negative_thrown p ready
each_thrown p ready IndexOutside = index_thrown p ready
each_thrown p ready TextOutside = outside_thrown p ready
each_thrown p ready ClassChange = change_thrown p ready
each_thrown p ready NotCloneable = uncloneable_thrown p ready

no_call : (i : Insn) → is_call i ≡ false → IsCall i → ⊥
no_call (insn.Virtual index) call is = false≢true (sym call)
no_call (insn.Interface index) call is = false≢true (sym call)
no_call (insn.Special index) call is = false≢true (sym call)
no_call (insn.Static index) call is = false≢true (sym call)
no_call i call is = is

module _ (p : Program) (ready : IsMakeable p) (store : Store) (f : Frame) where
  abbrev o : Outline
  o = p.outline

  abbrev A : Effect → Type 0
  A e = Fits o store f e

  abbrev s : List Sight
  s = sights o store f.stack

  pub quiet : (e : Effect) → e.actions ≡ [] → A e
  quiet e none = record { fits = λ few. subst (λ actions. ActsFit o store f [] actions) (sym none) tt }

  pub failures : Failures o A
  failures = record {
    raised = λ x. record { fits = λ few. (each_thrown p ready x, tt) };
    none = quiet stuck refl;
    lost = λ n. quiet (faulty n) refl;
  }

  -- a value goes into an object that is seen to have the place
  put_fits : (taken n place value : ℕ) (k : Kind) (it : Looks) → slice_get s n ≡ Some (Thing it) → kind_at o.classes it.type place ≡ Some k
      → HasKind (field_slot k) (word_at f.stack value) → A (acting taken (Put (OfOperand n) place k (OfOperand value) ∷ []))
  put_fits taken n place value k it seen at has = record {
    fits = λ few.
        let seen_here = seen_at o store f.stack n it seen in (
          (
            seen_here.object,
            seen_here.held,
            placed (type_numbered o seen_here.object.class) (ap (λ t. kind_at o.classes t place) (sym seen_here.type_is) ∙ at),
          ),
          (λ areas made statics. has),
          tt,
        );
  } where
    placed : (t : TypeRef) → kind_at o.classes t place ≡ Some k → PlaceFits o t place k
    placed t is = record { kind = is; no_text = no_text p ready t place k is }

  module _ (known : TypeState) (h : FrameHasKinds known f.locals f.stack) (whole : is_whole known.stack ≡ true) (after : TypeState) where
    -- the value on top has the kind of the field
    pub value_has : (k : Kind) (rest : List Slot) → taken o (stack_slots (k ∷ [])) known.stack ≡ Some rest
        → HasKind (field_slot k) (word_at f.stack (kind_words k - 1))
    value_has k rest is = top_kind k f.stack (taken_words o (stack_slots (k ∷ [])) known.stack rest f.stack (kind_is_whole k) whole is h.in_stack)

    -- what is below the words that are taken
    pub taken_below : (wanted : List Slot) (given : Slot → Option (List Slot)) → worked_below o wanted given known ≡ Some after
        → (rest : List Slot) × (taken o wanted known.stack ≡ Some rest)
    taken_below wanted given row =
        let found = option_and_then-some (below_of given) (taken o wanted known.stack) after row in (found.0, found.1) where
          below_of : (Slot → Option (List Slot)) → List Slot → Option TypeState
          below_of given [] = None
          below_of given (below ∷ stack) = option_map (λ slots. record known { stack = slots ++ stack }) (given below)

    -- ---- objects

    made_fits : (item n : ℕ) (t : TypeRef) (class : ℕ) → slice_get o.types n ≡ Some t
        → cond ((t.dims == 0) && has_objects o.classes t.base && not (list_any (is_uninit item) known.stack))
        (Some (record known { locals = replaced (is_uninit item) slot.Top known.locals; stack = slot.Uninit item ∷ known.stack })) None ≡ Some after
        → A (objects.starting class (making 0 (Make t (size_of_type o t) [])))
    made_fits item n t class at row =
        let parts = cond-some_then ((t.dims == 0) && has_objects o.classes t.base && not (list_any (is_uninit item) known.stack)) _ after row in
        let flat = and_parts ((t.dims == 0) && has_objects o.classes t.base) (not (list_any (is_uninit item) known.stack)) parts.0 in
        let both = and_parts (t.dims == 0) (has_objects o.classes t.base) flat.0 in
        record { fits = λ few. (object_fits o ready.runnable.sizes n t at both.0 both.1, tt) }

    -- ---- arrays

    element_put : (n value : ℕ) (it : Looks) (place : ℕ) → slice_get s n ≡ Some (Thing it) → 0 < it.type.dims
        → HasKind (field_slot (element_kind it.type)) (word_at f.stack value)
        → A (acting (n + 1) (Put (OfOperand n) place (element_kind it.type) (OfOperand value) ∷ []))
    element_put n value it place seen deep has =
        put_fits (n + 1) n place value (element_kind it.type) it seen (array_kind o.classes it.type place deep) has

    int_put : (e : Elem) (it : Looks) (place : ℕ) → slice_get s 2 ≡ Some (Thing it) → ((it.type.dims == 1) && has_letter e it.type.base) ≡ true
        → typed.element_words e ≡ slot.Int ∷ [] → HaveKinds (slot.Int ∷ slot.Int ∷ []) (take 2 f.stack) → A (put_element 1 it place)
    int_put e it place seen passes is have =
        record {
          fits = (element_put 2 0 it place seen (letter_deep it.type (has_letter e it.type.base) passes)
              (int_kind (element_kind it.type) (word_at f.stack 0) (number_slots e it.type.dims it.type.base passes ∙ is) (first_int f.stack have))).fits;
        }

    long_put : (it : Looks) (place : ℕ) → slice_get s 3 ≡ Some (Thing it) → ((it.type.dims == 1) && has_letter elem.Long it.type.base) ≡ true
        → HaveKinds (slot.Top ∷ slot.Long ∷ slot.Int ∷ []) (take 3 f.stack) → A (put_element 2 it place)
    long_put it place seen passes have =
        record {
          fits = (element_put 3 1 it place seen (letter_deep it.type (has_letter elem.Long it.type.base) passes)
              (long_kind (element_kind it.type) (word_at f.stack 1) (number_slots elem.Long it.type.dims it.type.base passes) (second_long f.stack have))).fits;
        }

    reference_put : (it : Looks) (place : ℕ) → slice_get s 2 ≡ Some (Thing it) → nat_lt 0 (depth_of it.type) ≡ true → IsReference (word_at f.stack 0)
        → A (put_element 1 it place)
    reference_put it place seen passes has =
        let found = reference_kind it.type.dims it.type.base passes in
        record {
          fits = (element_put 2 0 it place seen (depth_deep it.type.dims it.type.base (ltb-true 0 (depth_of it.type) passes))
              (subst (λ k. HasKind (field_slot k) (word_at f.stack 0)) (sym found.1) has)).fits;
        }

    pub stored_words : (e : Elem) → is_whole (stored_element o e ++ slot.Int ∷ []) ≡ true → array_store_row o e known ≡ Some after
        → HaveKinds (stored_element o e ++ slot.Int ∷ []) (take (length (stored_element o e ++ slot.Int ∷ [])) f.stack)
    unfolding array_store_row
    stored_words e whole_words row =
        let below = taken_below (stored_element o e ++ slot.Int ∷ []) (on_array (is_array_of e) [] (λ t. [])) row in
        taken_words o (stored_element o e ++ slot.Int ∷ []) known.stack below.0 f.stack whole_words whole below.1 h.in_stack

    element_fits : (e : Elem) (it : Looks) (place : ℕ) → slice_get s (element_words e + 1) ≡ Some (Thing it) → is_array_of e it.type ≡ true
        → array_store_row o e known ≡ Some after → A (put_element (element_words e) it place)
    element_fits elem.Boolean it place seen passes row = int_put elem.Boolean it place seen passes refl (stored_words elem.Boolean refl row)
    element_fits elem.Byte it place seen passes row = int_put elem.Byte it place seen passes refl (stored_words elem.Byte refl row)
    element_fits elem.Char it place seen passes row = int_put elem.Char it place seen passes refl (stored_words elem.Char refl row)
    element_fits elem.Short it place seen passes row = int_put elem.Short it place seen passes refl (stored_words elem.Short refl row)
    element_fits elem.Int it place seen passes row = int_put elem.Int it place seen passes refl (stored_words elem.Int refl row)
    element_fits elem.Long it place seen passes row = long_put it place seen passes (stored_words elem.Long refl row)
    element_fits elem.Ref it place seen passes row =
        reference_put it place seen passes (first_reference (type_of_class (object_of o.classes)) f.stack (stored_words elem.Ref refl row))

    nested_fits : (n : ℕ) (t : TypeRef) (dimensions : ℕ) (counts : List ℤ) → slice_get o.types n ≡ Some t
        → arrays.ints_at s (reverse (range_with_len 0 dimensions)) ≡ Some counts
        → cond (nat_lt 0 dimensions && nat_le dimensions t.dims) (worked o (replicate dimensions slot.Int) (slot.Ref t ∷ []) known) None ≡ Some after
        → A (record (words dimensions (OfMade 0 ∷ [])) { actions = arrays.array_actions t (magnitudes counts) 0 })
    nested_fits n t dimensions counts at found row =
        let parts = cond-some_then (nat_lt 0 dimensions && nat_le dimensions t.dims) (worked o (replicate dimensions slot.Int) (slot.Ref t ∷ []) known) after row in
        let both = and_parts (nat_lt 0 dimensions) (nat_le dimensions t.dims) parts.0 in
        let some : 0 < dimensions = ltb-true 0 dimensions both.0 in
        let within : dimensions ≤ t.dims = leb-true dimensions t.dims both.1 in
        let places : List ℕ = reverse (range_with_len 0 dimensions) in
        let all : length (magnitudes counts) ≡ dimensions =
        magnitudes_many counts ∙ ints_many s places counts found ∙ length-reverse (range_with_len 0 dimensions) ∙ length-range_with_len 0 dimensions in
        record {
          fits = λ few. arrays_fit p ready store f t (magnitudes counts) (omega (arith, all, some)) (omega (arith, all, within)) (numbered o n t at) few;
        }

    -- ---- all instructions but calls

    pub insn_fits : (i : Insn) (u : Use) (news : ℕ → Option TypeRef) (byte : Option ℕ) → NamesField o u i → NamesMade o u i → is_call i ≡ false
        → row_after o f.method f.item news u i known ≡ Some after → A (effect_of o f.method u i byte s)
    unfolding row_after new_row put_field_row multi_array_row
    insn_fits i u news byte names made call row =
        each_insn o s f.method byte A i u
        (record {
          failures = failures;
          plain = λ e gives writes named written. quiet (record e { actions = []; gives = gives; writes = writes; next = Falls }) refl;
          goes = λ e next leads. quiet (record e { actions = []; gives = []; writes = []; next = next }) refl;
          throws = λ it it_is seen fits. quiet _ refl;
          literal = λ index n it_is named. record { fits = λ few. (literal_fits p ready n, tt) };
          new = λ index n t class it_is used at is.
              let there : new_row o f.item u known ≡ Some after = subst (λ j. row_after o f.method f.item news u j known ≡ Some after) it_is row in
              made_fits f.item n.0 t class at (row_of_type o u _ n t after used at there);
          number_array = λ e b len it_is is.
              let named : NamesMade o u (insn.NewArray e) = subst (λ j. NamesMade o u j) it_is made in
              record { fits = λ few. (array_fits o (record { dims = 1; base = b }) len (named b is) (omega arith) few.0, tt) };
          reference_array = λ index n t array len it_is used at is.
              let named : NamesMade o (resolved.OfType n) (insn.NewRefs index) =
              subst (λ w. NamesMade o w (insn.NewRefs index)) used (subst (λ j. NamesMade o u j) it_is made) in
              record { fits = λ few. (array_fits o array len (named t array at is) (array_deep t array is) few.0, tt) };
          nested = λ index dimensions n t counts it_is used at found.
              let there : multi_array_row o u dimensions known ≡ Some after = subst (λ j. row_after o f.method f.item news u j known ≡ Some after) it_is row in
              nested_fits n.0 t dimensions counts at found (row_of_type o u _ n t after used at there);
          put_static = λ index g n t it_is used at.
              let named : NamesField o (resolved.OfField g n) (insn.PutStatic index) =
              subst (λ w. NamesField o w (insn.PutStatic index)) used (subst (λ j. NamesField o u j) it_is names) in
              record { fits = λ few. (static_slot_at o g.0 named.0 named.1, tt) };
          get_field = λ index g n t it it_is used at seen fits. quiet _ refl;
          put_field = λ index g n t it it_is used at seen fits.
              let named : NamesMade o (resolved.OfField g n) (insn.PutField index) =
              subst (λ w. NamesMade o w (insn.PutField index)) used (subst (λ j. NamesMade o u j) it_is made) in
              let there : put_field_row o f.method u known ≡ Some after = subst (λ j. row_after o f.method f.item news u j known ≡ Some after) it_is row in
              let k : Kind = objects.kind_of_field o g.0 in
              let below = taken_below (field_words o g.0) (takes_field o f.method g.0 t) (row_of_field o u _ g n t after used at there) in
              put_fits (kind_words k + 1) (kind_words k) (slot_of o.classes g.0) (kind_words k - 1) k it seen
              (field_seen o ready.tree g.0 it.type (named t it.type at fits)) (value_has k below.0 below.1);
          get_element = λ e it place it_is seen passes.
              quiet (words 2 (loaded (element_kind it.type) (OfPlace 1 place (element_kind it.type)))) refl;
          put_element = λ e it place it_is seen passes.
              element_fits e it place seen passes (subst (λ j. row_after o f.method f.item news u j known ≡ Some after) it_is row);
          calls = λ is. absurd (no_call i call is);
        })

pub instructions_fit : (p : Program) (ready : IsMakeable p) (store : Store) (f : Frame) (known after : TypeState) → FrameHasKinds known f.locals f.stack
    → is_whole known.stack ≡ true → (i : Insn) (u : Use) (news : ℕ → Option TypeRef) (byte : Option ℕ) → NamesField p.outline u i → NamesMade p.outline u i
    → is_call i ≡ false → row_after p.outline f.method f.item news u i known ≡ Some after
    → AreFew p.outline (effect_of p.outline f.method u i byte (sights p.outline store f.stack)).actions
    → ActsFit p.outline store f [] (effect_of p.outline f.method u i byte (sights p.outline store f.stack)).actions
instructions_fit p ready store f known after h whole i u news byte names made call row few =
    (insn_fits p ready store f known h whole after i u news byte names made call row).fits few
