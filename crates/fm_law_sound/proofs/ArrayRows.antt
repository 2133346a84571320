-- The rows of arrays lead where the checker's rows do.
use Rattle.std.proofs.Common.{◌≡◌, ℕ, ℤ, ◌+◌, ◌-◌, ◌==◌, ◌&&◌, ◌||◌, not, int_lt, pos, unsigned_abs, reverse, Bool, true, false, List, [], ◌∷◌, ◌++◌, length, cond, codes, replicate, nat_lt, nat_le, Option, Some, None, refl, sym, ◌∙◌, ap, subst, arith}
use Rattle.std.specs.List.{list_any, range_with_len}
use Rattle.std.proofs.lemmas.Bool.{and_parts, false≢true}
use Rattle.std.proofs.lemmas.Bool.Decides.{nat_tests}
use Rattle.std.proofs.lemmas.List.{length-replicate}
use Rattle.std.proofs.lemmas.Option.{same_Some}
use Rattle.fm_base.proofs.OptionFacts.{cond-some_then, option_and_then-some}
use Rattle.fm_base.specs.declared.kinds.Base.{Base}
use Rattle.fm_base.specs.declared.kinds.Base.TheVariants as base
use Rattle.fm_base.specs.declared.kinds.Kind.{Kind}
use Rattle.fm_base.specs.declared.kinds.Kind.TheVariants as kind
use Rattle.fm_base.specs.declared.kinds.TypeRef.{TypeRef}
use Rattle.fm_code.specs.declared.instructions.Insn.{Insn}
use Rattle.fm_code.specs.declared.instructions.Insn.TheVariants as insn
use Rattle.fm_code.specs.Edges.{falls_through}
use Rattle.fm_code.specs.declared.operations.Elem.{Elem}
use Rattle.fm_code.specs.declared.operations.Elem.TheVariants as elem
use Rattle.fm_types.specs.ArrayRows as typed
use Rattle.fm_types.specs.ArrayRows.{array_load_row, array_store_row, has_letter, is_array_of, length_row, multi_array_row, new_array_row, new_references_row, null_element, on_array, stored_element}
use Rattle.fm_types.specs.Fits.{depth_of, depth_with}
use Rattle.fm_types.specs.States.{stack_slots, TypeState, worked}
use Rattle.fm_types.specs.declared.slots.Slot.{Slot}
use Rattle.fm_types.specs.declared.slots.Slot.TheVariants as slot
use Rattle.fm_world.specs.Chains.{is_sub}
use Rattle.fm_world.specs.Descriptors.{kind_with}
use Rattle.fm_world.specs.Programs.{Outline}
use Rattle.fm_world.specs.Uses.{array_of}
use Rattle.fm_world.specs.declared.uses.Use.{Use}
use Rattle.fm_code.specs.StackWords.{element_words}
use Rattle.fm_frames.specs.ArrayRows.{array_load_effect, array_made, array_store_effect, arrays_of, element_kind, element_type, ints_at, length_effect, multi_array_effect, new_array_effect, new_references_effect, on_element, put_element, put_reference, thrown_negative}
use Rattle.fm_frames.specs.Effects.{Action, Effect, faulty, int_word, loaded, Make, making, OfMade, OfPlace, stuck, words}
use Rattle.fm_frames.specs.Operands.{thrown, thrown_null}
use Rattle.fm_frames.specs.Sights.{Looks, Sight}
use Rattle.fm_frames.specs.States.{Frame}
use Rattle.fm_law_sound.specs.Leading.{LeadsAs, LeavesAs}
use Rattle.fm_law_sound.specs.Sound.{FrameHasKinds}
use Rattle.fm_law_sound.proofs.Cases.{by_held, by_if, by_int, by_on_type, by_passing}
use Rattle.fm_law_sound.proofs.Leaving.{loaded_gives, read_kind, worked_below_leaves, worked_leaves}
use Rattle.fm_law_sound.proofs.NumberRows.{int_gives, Leads, thrown_leads}
use Rattle.fm_law_sound.proofs.ObjectRows.{row_of_type}
use Rattle.fm_law_sound.specs.BuiltIns.{GivesSlots}

-- ---- what an array's elements are

letter_slots : (e : Elem) (b : Base) → has_letter e b ≡ true → stack_slots (kind_with 0 b ∷ []) ≡ typed.element_words e
letter_slots elem.Boolean base.Boolean is = refl
letter_slots elem.Byte base.Byte is = refl
letter_slots elem.Byte base.Boolean is = refl
letter_slots elem.Char base.Char is = refl
letter_slots elem.Short base.Short is = refl
letter_slots elem.Int base.Int is = refl
letter_slots elem.Long base.Long is = refl
letter_slots e b is = absurd (false≢true is)

pub number_slots : (e : Elem) (dims : ℕ) (b : Base) → ((dims == 1) && has_letter e b) ≡ true → stack_slots (kind_with (dims - 1) b ∷ []) ≡ typed.element_words e
number_slots e dims b is =
    let parts = and_parts (dims == 1) (has_letter e b) is in
    let one = parts.0 in
    let level : dims - 1 ≡ 0 = grind (arith, nat_tests, one) in
    ap (λ n. stack_slots (kind_with n b ∷ [])) level ∙ letter_slots e b parts.1

-- whatever its dimensions, an array with some depth has references for elements
class_reference : (test : Bool) (t other : TypeRef) → (u : TypeRef) × (cond test (kind.Ref t) (kind.Ref other) ≡ kind.Ref u)
class_reference true t other = (t, refl)
class_reference false t other = (other, refl)

letter_reference : (test : Bool) (k : Kind) (t : TypeRef) → test ≡ false → (u : TypeRef) × (cond test k (kind.Ref t) ≡ kind.Ref u)
letter_reference true k t is = absurd (false≢true (sym is))
letter_reference false k t is = (t, refl)

pub above_zero : (n : ℕ) → nat_lt 0 n ≡ true → (n == 0) ≡ false
above_zero n is = grind (arith, nat_tests, is)

pub reference_kind : (dims : ℕ) (b : Base) → nat_lt 0 (depth_with dims b) ≡ true → (u : TypeRef) × (kind_with (dims - 1) b ≡ kind.Ref u)
reference_kind dims (base.OfClass class) is = class_reference ((dims - 1) == 0) _ _
reference_kind dims base.Boolean is = letter_reference ((dims - 1) == 0) _ _ (above_zero (dims - 1) is)
reference_kind dims base.Byte is = letter_reference ((dims - 1) == 0) _ _ (above_zero (dims - 1) is)
reference_kind dims base.Char is = letter_reference ((dims - 1) == 0) _ _ (above_zero (dims - 1) is)
reference_kind dims base.Short is = letter_reference ((dims - 1) == 0) _ _ (above_zero (dims - 1) is)
reference_kind dims base.Int is = letter_reference ((dims - 1) == 0) _ _ (above_zero (dims - 1) is)
reference_kind dims base.Long is = letter_reference ((dims - 1) == 0) _ _ (above_zero (dims - 1) is)

-- ---- what the checker gives of an array's slot

given_if : (Q : List Slot → Type 0) (b : Bool) (given slots : List Slot) → Q given → cond b (Some given) None ≡ Some slots → Q slots
given_if Q b given slots of_type is = let parts = cond-some_then b (Some given) slots is in subst Q (same_Some given slots parts.1) of_type

pub by_array : (Q : List Slot → Type 0) (passes : TypeRef → Bool) (null : List Slot) (given : TypeRef → List Slot) (below : Slot) (slots : List Slot)
    → Q null → ((t : TypeRef) → Q (given t)) → on_array passes null given below ≡ Some slots → Q slots
by_array Q passes null given slot.Null slots of_null of_type is = subst Q (same_Some null slots is) of_null
by_array Q passes null given (slot.Ref t) slots of_null of_type is = given_if Q (passes t) (given t) slots (of_type t) is
by_array Q passes null given slot.Top slots of_null of_type is = absurd (cc)
by_array Q passes null given slot.Int slots of_null of_type is = absurd (cc)
by_array Q passes null given slot.Long slots of_null of_type is = absurd (cc)
by_array Q passes null given (slot.Uninit item) slots of_null of_type is = absurd (cc)
by_array Q passes null given slot.UninitThis slots of_null of_type is = absurd (cc)

-- ---- what loading gives

module _ (o : Outline) (f : Frame) where
  number_gives : (e : Elem) (t : TypeRef) (place : ℕ) → ((t.dims == 1) && has_letter e t.base) ≡ true
      → GivesSlots o f (typed.element_words e) (loaded (element_kind t) (OfPlace 1 place (element_kind t)))
  number_gives e t place is =
      subst (λ slots. GivesSlots o f slots (loaded (element_kind t) (OfPlace 1 place (element_kind t)))) (number_slots e t.dims t.base is)
      (loaded_gives o f (element_kind t) (OfPlace 1 place (element_kind t)) (λ areas made statics. read_kind (element_kind t) _))

  reference_gives : (t u : TypeRef) (place : ℕ) → nat_lt 0 (depth_of t) ≡ true
      → GivesSlots o f (slot.Ref u ∷ []) (loaded (element_kind t) (OfPlace 1 place (element_kind t)))
  reference_gives t u place is =
      let found = reference_kind t.dims t.base is in
      subst (λ k. GivesSlots o f (slot.Ref u ∷ []) (loaded k (OfPlace 1 place k))) (sym found.1)
      (λ areas made statics. (read_kind (kind.Ref found.0) _, tt))

  element_gives : (e : Elem) (t : TypeRef) (place : ℕ) (below : Slot) (slots : List Slot) → is_array_of e t ≡ true
      → on_array (is_array_of e) (null_element e) (typed.element_of e) below ≡ Some slots
      → GivesSlots o f slots (loaded (element_kind t) (OfPlace 1 place (element_kind t)))
  element_gives elem.Ref t place below slots is given =
      by_array (λ xs. GivesSlots o f xs (loaded (element_kind t) (OfPlace 1 place (element_kind t)))) (is_array_of elem.Ref) (slot.Null ∷ []) (typed.element_of elem.Ref)
      below slots (reference_gives t t place is) (λ other. reference_gives t (record { dims = other.dims - 1; base = other.base }) place is) given
  element_gives elem.Boolean t place below slots is given =
      by_array (λ xs. GivesSlots o f xs (loaded (element_kind t) (OfPlace 1 place (element_kind t)))) _ _ _ below slots
      (number_gives elem.Boolean t place is) (λ other. number_gives elem.Boolean t place is) given
  element_gives elem.Byte t place below slots is given =
      by_array (λ xs. GivesSlots o f xs (loaded (element_kind t) (OfPlace 1 place (element_kind t)))) _ _ _ below slots
      (number_gives elem.Byte t place is) (λ other. number_gives elem.Byte t place is) given
  element_gives elem.Char t place below slots is given =
      by_array (λ xs. GivesSlots o f xs (loaded (element_kind t) (OfPlace 1 place (element_kind t)))) _ _ _ below slots
      (number_gives elem.Char t place is) (λ other. number_gives elem.Char t place is) given
  element_gives elem.Short t place below slots is given =
      by_array (λ xs. GivesSlots o f xs (loaded (element_kind t) (OfPlace 1 place (element_kind t)))) _ _ _ below slots
      (number_gives elem.Short t place is) (λ other. number_gives elem.Short t place is) given
  element_gives elem.Int t place below slots is given =
      by_array (λ xs. GivesSlots o f xs (loaded (element_kind t) (OfPlace 1 place (element_kind t)))) _ _ _ below slots
      (number_gives elem.Int t place is) (λ other. number_gives elem.Int t place is) given
  element_gives elem.Long t place below slots is given =
      by_array (λ xs. GivesSlots o f xs (loaded (element_kind t) (OfPlace 1 place (element_kind t)))) _ _ _ below slots
      (number_gives elem.Long t place is) (λ other. number_gives elem.Long t place is) given

-- how many words a store takes
store_takes : (o : Outline) (e : Elem) → element_words e + 2 ≡ length (stored_element o e ++ slot.Int ∷ []) + 1
store_takes o elem.Boolean = refl
store_takes o elem.Byte = refl
store_takes o elem.Char = refl
store_takes o elem.Short = refl
store_takes o elem.Int = refl
store_takes o elem.Long = refl
store_takes o elem.Ref = refl

-- ---- the rows

-- what holds of each way in which a row asks for an element
pub by_element : (P : Effect → Type 0) (o : Outline) (e : Elem) (s : List Sight) (index : ℕ) (follows : Looks → ℕ → Effect) → P (thrown_null o) → P stuck
    → P (faulty (index + 1)) → P (thrown o (codes "java/lang/ArrayIndexOutOfBoundsException"))
    → ((it : Looks) (place : ℕ) → is_array_of e it.type ≡ true → P (follows it place)) → P (on_element o e s index follows)
by_element P o e s index follows null none gone outside some =
    by_passing P o (λ it. is_array_of e it.type) s (index + 1) _ null none gone
    (λ it seen passes. by_int P s index _ none
    (λ i. by_if P (int_lt i (pos 0) || not (int_lt i (pos it.len))) (thrown o (codes "java/lang/ArrayIndexOutOfBoundsException")) (follows it (unsigned_abs i))
    (λ out. outside) (λ inside. some it (unsigned_abs i) passes)))

-- the effect leads where the checker's row does
record Led (o : Outline) (f : Frame) (after : TypeState) (i : Insn) (e : Effect) : Type 0 where
  leads : LeadsAs o i after f e e.next

module _ (o : Outline) (s : TypeState) (f : Frame) (h : FrameHasKinds s f.locals f.stack) (after : TypeState) where
  -- an element of an array that passes
  element_leads : (i : Insn) (e : Elem) (sights : List Sight) (index : ℕ) (follows : Looks → ℕ → Effect)
      → ((it : Looks) → is_array_of e it.type ≡ true → (place : ℕ) → Leads o s f h after i (follows it place))
      → Leads o s f h after i (on_element o e sights index follows)
  element_leads i e sights index follows each =
      by_element (Leads o s f h after i) o e sights index follows (thrown_leads o s f h after i (codes "java/lang/NullPointerException")) tt tt
      (thrown_leads o s f h after i (codes "java/lang/ArrayIndexOutOfBoundsException")) (λ it place passes. each it passes place)

  pub array_load_leads : (e : Elem) (sights : List Sight) → array_load_row o e s ≡ Some after
      → Leads o s f h after (insn.ArrayLoad e) (array_load_effect o e sights)
  unfolding array_load_row array_load_effect
  array_load_leads e sights row =
      element_leads (insn.ArrayLoad e) e sights 0 (λ it place. words 2 (loaded (element_kind it.type) (OfPlace 1 place (element_kind it.type))))
      (λ it passes place. (
        refl,
        worked_below_leaves o s f h (slot.Int ∷ []) (on_array (is_array_of e) (null_element e) (typed.element_of e)) after
            (words 2 (loaded (element_kind it.type) (OfPlace 1 place (element_kind it.type)))) row refl refl
            (λ below slots given. element_gives o f e it.type place below slots passes given),
      ))

  put_leaves : (e : Elem) (it : Looks) (place : ℕ) → array_store_row o e s ≡ Some after → LeavesAs o after f (put_element (element_words e) it place)
  unfolding array_store_row
  put_leaves e it place row =
      worked_below_leaves o s f h (stored_element o e ++ slot.Int ∷ []) (on_array (is_array_of e) [] (λ t. [])) after
      (put_element (element_words e) it place) row (store_takes o e) refl
      (λ below slots given. by_array (λ xs. GivesSlots o f xs []) (is_array_of e) [] (λ t. []) below slots (λ areas made statics. tt)
      (λ t areas made statics. tt) given)

  pub array_store_leads : (e : Elem) (sights : List Sight) → array_store_row o e s ≡ Some after
      → Leads o s f h after (insn.ArrayStore e) (array_store_effect o e sights)
  unfolding array_store_effect
  array_store_leads elem.Boolean sights row =
      element_leads (insn.ArrayStore elem.Boolean) elem.Boolean sights 1 (λ it place. put_element 1 it place) (λ it passes place. (refl, put_leaves elem.Boolean it place row))
  array_store_leads elem.Byte sights row =
      element_leads (insn.ArrayStore elem.Byte) elem.Byte sights 1 (λ it place. put_element 1 it place) (λ it passes place. (refl, put_leaves elem.Byte it place row))
  array_store_leads elem.Char sights row =
      element_leads (insn.ArrayStore elem.Char) elem.Char sights 1 (λ it place. put_element 1 it place) (λ it passes place. (refl, put_leaves elem.Char it place row))
  array_store_leads elem.Short sights row =
      element_leads (insn.ArrayStore elem.Short) elem.Short sights 1 (λ it place. put_element 1 it place) (λ it passes place. (refl, put_leaves elem.Short it place row))
  array_store_leads elem.Int sights row =
      element_leads (insn.ArrayStore elem.Int) elem.Int sights 1 (λ it place. put_element 1 it place) (λ it passes place. (refl, put_leaves elem.Int it place row))
  array_store_leads elem.Long sights row =
      element_leads (insn.ArrayStore elem.Long) elem.Long sights 2 (λ it place. put_element 2 it place) (λ it passes place. (refl, put_leaves elem.Long it place row))
  array_store_leads elem.Ref sights row =
      let i : Insn = insn.ArrayStore elem.Ref in
      element_leads i elem.Ref sights 1 (λ it place. put_reference o sights it place)
      (λ it passes place. by_held (Leads o s f h after i) (put_element 1 it place) sights 0 _ (refl, put_leaves elem.Ref it place row) tt tt
      (λ v seen. by_if (Leads o s f h after i) (is_sub o.classes v.type (element_type it.type)) (put_element 1 it place)
      (thrown o (codes "java/lang/ArrayStoreException")) (λ fits_it. (refl, put_leaves elem.Ref it place row))
      (λ fails. thrown_leads o s f h after i (codes "java/lang/ArrayStoreException"))))

  pub length_leads : (sights : List Sight) → length_row o s ≡ Some after → Leads o s f h after insn.Length (length_effect o sights)
  unfolding length_row length_effect
  length_leads sights row =
      by_passing (Leads o s f h after insn.Length) o (λ it. nat_lt 0 it.type.dims) sights 0 _
      (thrown_leads o s f h after insn.Length (codes "java/lang/NullPointerException")) tt tt
      (λ it seen passes. (
        refl,
        worked_below_leaves o s f h [] (on_array (λ t. nat_lt 0 t.dims) (slot.Int ∷ []) (λ t. slot.Int ∷ [])) after (words 1 (int_word (pos it.len))) row refl refl
            (λ below slots given. by_array (λ xs. GivesSlots o f xs (int_word (pos it.len))) (λ t. nat_lt 0 t.dims) (slot.Int ∷ []) (λ t. slot.Int ∷ []) below slots
            (int_gives o f (pos it.len)) (λ t. int_gives o f (pos it.len)) given),
      ))

  -- ---- new arrays

  made_leads : (i : Insn) → falls_through i ≡ true → (t given : TypeRef) (sights : List Sight)
      → worked o (slot.Int ∷ []) (slot.Ref given ∷ []) s ≡ Some after → Leads o s f h after i (array_made o (Some t) sights)
  made_leads i falls t given sights row =
      by_int (Leads o s f h after i) sights 0 _ tt
      (λ n. by_if (Leads o s f h after i) (int_lt n (pos 0)) (thrown_negative o) (making 1 (Make t (unsigned_abs n) [])) (λ below. thrown_leads o s f h after i (codes "java/lang/NegativeArraySizeException"))
      (λ fine. (
        falls,
        worked_leaves o s f h (slot.Int ∷ []) (slot.Ref given ∷ []) after (making 1 (Make t (unsigned_abs n) [])) row refl refl
            (λ areas made statics. (tt, tt)),
      )))

  pub new_array_leads : (e : Elem) (sights : List Sight) → new_array_row o e s ≡ Some after → Leads o s f h after (insn.NewArray e) (new_array_effect o e sights)
  unfolding new_array_row new_array_effect
  new_array_leads elem.Boolean sights row = made_leads (insn.NewArray elem.Boolean) refl (record { dims = 1; base = base.Boolean }) (record { dims = 1; base = base.Boolean }) sights row
  new_array_leads elem.Byte sights row = made_leads (insn.NewArray elem.Byte) refl (record { dims = 1; base = base.Byte }) (record { dims = 1; base = base.Byte }) sights row
  new_array_leads elem.Char sights row = made_leads (insn.NewArray elem.Char) refl (record { dims = 1; base = base.Char }) (record { dims = 1; base = base.Char }) sights row
  new_array_leads elem.Short sights row = made_leads (insn.NewArray elem.Short) refl (record { dims = 1; base = base.Short }) (record { dims = 1; base = base.Short }) sights row
  new_array_leads elem.Int sights row = made_leads (insn.NewArray elem.Int) refl (record { dims = 1; base = base.Int }) (record { dims = 1; base = base.Int }) sights row
  new_array_leads elem.Long sights row = made_leads (insn.NewArray elem.Long) refl (record { dims = 1; base = base.Long }) (record { dims = 1; base = base.Long }) sights row
  new_array_leads elem.Ref sights row = absurd (cc)

  pub new_references_leads : (index : ℕ) (u : Use) (sights : List Sight) → new_references_row o u s ≡ Some after
      → Leads o s f h after (insn.NewRefs index) (new_references_effect o u sights)
  unfolding new_references_row new_references_effect
  new_references_leads index u sights row =
      by_on_type (Leads o s f h after (insn.NewRefs index)) o u _ tt
      (λ n t is at.
      let found = option_and_then-some (λ array. worked o (slot.Int ∷ []) (slot.Ref array ∷ []) s) (array_of t) after (row_of_type o u _ n t after is at row) in
      subst (λ a. Leads o s f h after (insn.NewRefs index) (array_made o a sights)) (sym found.1)
      (made_leads (insn.NewRefs index) refl found.0 found.0 sights found.2))

  made_arrays : (index dimensions : ℕ) (t : TypeRef) (actions : List Action) → worked o (replicate dimensions slot.Int) (slot.Ref t ∷ []) s ≡ Some after
      → Led o f after (insn.MultiArray index dimensions) (record (words dimensions (OfMade 0 ∷ [])) { actions = actions })
  made_arrays index dimensions t actions row = record {
    leads = (
      refl,
      worked_leaves o s f h (replicate dimensions slot.Int) (slot.Ref t ∷ []) after (record (words dimensions (OfMade 0 ∷ [])) { actions = actions }) row
          (sym (length-replicate dimensions slot.Int)) refl (λ areas made statics. (tt, tt)),
    );
  }

  arrays_lead : (index dimensions : ℕ) (t : TypeRef) (counts : Option (List ℤ)) → worked o (replicate dimensions slot.Int) (slot.Ref t ∷ []) s ≡ Some after
      → Led o f after (insn.MultiArray index dimensions) (arrays_of o t dimensions counts)
  arrays_lead index dimensions t None row = record { leads = tt }
  arrays_lead index dimensions t (Some counts) row =
      by_if (Led o f after (insn.MultiArray index dimensions)) (list_any (λ n. int_lt n (pos 0)) counts) (thrown_negative o) _
      (λ below. record { leads = thrown_leads o s f h after (insn.MultiArray index dimensions) (codes "java/lang/NegativeArraySizeException") })
      (λ fine. made_arrays index dimensions t _ row)

  pub multi_array_leads : (index dimensions : ℕ) (u : Use) (sights : List Sight) → multi_array_row o u dimensions s ≡ Some after
      → Leads o s f h after (insn.MultiArray index dimensions) (multi_array_effect o u dimensions sights)
  unfolding multi_array_row multi_array_effect
  multi_array_leads index dimensions u sights row =
      by_on_type (Leads o s f h after (insn.MultiArray index dimensions)) o u _ tt
      (λ n t is at.
      let parts = cond-some_then (nat_lt 0 dimensions && nat_le dimensions t.dims) (worked o (replicate dimensions slot.Int) (slot.Ref t ∷ []) s) after
      (row_of_type o u _ n t after is at row) in
      (arrays_lead index dimensions t (ints_at sights (reverse (range_with_len 0 dimensions))) parts.1).leads)
