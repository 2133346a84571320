-- A frame whose words have the kinds that the checker found has what the row of its next instruction asks.
use Rattle.std.proofs.Common.{◌≡◌, ◌≢◌, ℕ, ◌+◌, ℤ, true, false, arith, List, [], ◌∷◌, ◌++◌, length, drop, take, zero, suc, Bool, cond, option_map, Option, Some, None, slice_get, refl, ap, sym, ◌∙◌, subst}
use Rattle.std.proofs.lemmas.Bool.{false≢true}
use Rattle.std.proofs.lemmas.List.{drop-drop}
use Rattle.std.proofs.lemmas.Option.{none-some}
use Rattle.fm_base.proofs.OptionFacts.{cond-some_then, option_and_then-some, option_map-some}
use Rattle.fm_base.specs.declared.ids.FieldId.{FieldId}
use Rattle.fm_base.specs.declared.ids.TypeId.{TypeId}
use Rattle.fm_base.specs.declared.kinds.Kind.{Kind}
use Rattle.fm_base.specs.declared.kinds.Kind.TheVariants as kind
use Rattle.fm_base.specs.declared.kinds.TypeRef.{TypeRef}
use Rattle.fm_cells.specs.declared.answers.Cell.{Cell}
use Rattle.fm_code.specs.StackWords.{numbers_taken}
use Rattle.fm_code.specs.declared.instructions.Insn.{Insn}
use Rattle.fm_code.specs.declared.instructions.Insn.TheVariants as insn
use Rattle.fm_code.specs.declared.operations.Elem.{Elem}
use Rattle.fm_code.specs.declared.operations.Elem.TheVariants as elem
use Rattle.fm_code.specs.declared.operations.Reg.{Reg}
use Rattle.fm_code.specs.declared.operations.Reg.TheVariants as reg
use Rattle.fm_fast.specs.Operands.{AsksOf, AsksOfPut, AsksOfStore, HasInt, HasLocalOf, HasNumbers, HasReference, HasWord, HasWordOf}
use Rattle.fm_frames.specs.States.{Frame, word_at}
use Rattle.fm_frames.specs.declared.values.Value.{Value}
use Rattle.fm_frames.specs.declared.values.Value.TheVariants as value
use Rattle.fm_law_sound.proofs.KindLemmas.{as_local, int_local, local_kind_or, taken_rest, taken_words}
use Rattle.fm_law_sound.proofs.FramesLeft.{related_at}
use Rattle.fm_law_sound.specs.Sound.{FrameHasKinds, HasKind, HaveKinds, IsReference, LocalHasKind}
use Rattle.fm_types.proofs.EachCheckRow.{given_by, has_one, is_number, number_row, numbers, slots_of, wanted_by}
use Rattle.fm_types.specs.ArrayRows.{array_load_row, array_store_row, element_of, is_array_of, length_row, null_element, on_array}
use Rattle.fm_types.specs.Fits.{fits, object_of}
use Rattle.fm_types.specs.Named.{field_words, object_slot}
use Rattle.fm_types.specs.NumberRows.{increment_row, is_int, load_row, loaded, move_row, store_row, suits}
use Rattle.fm_types.specs.ObjectRows.{get_field_row, put_field_row, takes_field}
use Rattle.fm_types.specs.Rows.{row_after}
use Rattle.fm_types.specs.States.{is_long, is_reference, is_whole, local_at, pushed, stack_slots, taken, TypeState, worked, worked_below}
use Rattle.fm_types.specs.declared.slots.Slot.{Slot}
use Rattle.fm_types.specs.declared.slots.Slot.TheVariants as slot
use Rattle.fm_world.specs.Members.{field_at, field_kind}
use Rattle.fm_world.specs.Numbers.{type_of_class}
use Rattle.fm_world.specs.Programs.{Outline}
use Rattle.fm_world.specs.declared.uses.Use.{Use}
use Rattle.fm_world.specs.declared.uses.Use.TheVariants as resolved

-- ---- words of a stack

-- of the words that are taken, one int or two
one-int : (words : List Value) → HaveKinds (slot.Int ∷ []) (take 1 words) → (n : ℤ) × (slice_get words 0 ≡ Some (value.Int n))
one-int [] h = absurd h
one-int (v ∷ words) h = (h.0.0, ap Some h.0.1)

two-ints : (words : List Value) → HaveKinds (slot.Int ∷ slot.Int ∷ []) (take 2 words)
    → ((n : ℤ) × (slice_get words 1 ≡ Some (value.Int n))) × ((n : ℤ) × (slice_get words 0 ≡ Some (value.Int n)))
two-ints [] h = absurd h
two-ints (v ∷ []) h = absurd h.1
two-ints (v ∷ w ∷ words) h = ((h.1.0.0, ap Some h.1.0.1), (h.0.0, ap Some h.0.1))

-- of the words that are taken, one long or two, or one below which an int is
one-long : (words : List Value) → HaveKinds (slot.Top ∷ slot.Long ∷ []) (take 2 words) → (n : ℤ) × (slice_get words 1 ≡ Some (value.Long n))
one-long [] h = absurd h
one-long (v ∷ []) h = absurd h.1
one-long (v ∷ w ∷ words) h = (h.1.0.0, ap Some h.1.0.1)

int-below : (words : List Value) → HaveKinds (slot.Top ∷ slot.Long ∷ slot.Int ∷ []) (take 3 words)
    → ((n : ℤ) × (slice_get words 2 ≡ Some (value.Int n))) × ((n : ℤ) × (slice_get words 1 ≡ Some (value.Long n)))
int-below [] h = absurd h
int-below (v ∷ []) h = absurd h.1
int-below (v ∷ w ∷ []) h = absurd h.1.1
int-below (v ∷ w ∷ x ∷ words) h = ((h.1.1.0.0, ap Some h.1.1.0.1), (h.1.0.0, ap Some h.1.0.1))

-- a reference is of a cell
cell-of : (v : Value) → IsReference v → (cell : Cell) × (v ≡ value.Ref cell)
cell-of value.Top is = absurd is
cell-of (value.Int n) is = absurd is
cell-of (value.Long n) is = absurd is
cell-of (value.Ref cell) is = (cell, refl)

one-reference : (t : TypeRef) (words : List Value) → HaveKinds (slot.Ref t ∷ []) (take 1 words) → (cell : Cell) × (slice_get words 0 ≡ Some (value.Ref cell))
one-reference t [] h = absurd h
one-reference t (v ∷ words) h = let c = cell-of v h.0 in (c.0, ap Some c.1)

two-references : (t : TypeRef) (words : List Value) → HaveKinds (slot.Ref t ∷ slot.Ref t ∷ []) (take 2 words)
    → ((cell : Cell) × (slice_get words 1 ≡ Some (value.Ref cell))) × ((cell : Cell) × (slice_get words 0 ≡ Some (value.Ref cell)))
two-references t [] h = absurd h
two-references t (v ∷ []) h = absurd h.1
two-references t (v ∷ w ∷ words) h =
    let c = cell-of v h.0 in
    let d = cell-of w h.1.0 in
    ((d.0, ap Some d.1), (c.0, ap Some c.1))

-- a slot on top has a word
first-word : (s : Slot) (stack : List Slot) (words : List Value) → HaveKinds (s ∷ stack) words → (v : Value) × (slice_get words 0 ≡ Some v)
first-word s stack [] h = absurd h
first-word s stack (v ∷ words) h = (v, refl)

-- where an array is wanted there is a reference
array-cell : (passes : TypeRef → Bool) (null : List Slot) (given : TypeRef → List Slot) (s : Slot) (slots : List Slot) (v : Value)
    → on_array passes null given s ≡ Some slots → HasKind s v → (cell : Cell) × (v ≡ value.Ref cell)
array-cell passes null given slot.Null slots v is h = cell-of v h
array-cell passes null given (slot.Ref t) slots v is h = cell-of v h
array-cell passes null given s slots v is h = absurd (none-some slots is)

-- each slot with which something follows has a reference
abbrev IsOfCells : (Slot → Option (List Slot)) → Type 0
IsOfCells given = (s : Slot) (slots : List Slot) (v : Value) → given s ≡ Some slots → HasKind s v → (cell : Cell) × (v ≡ value.Ref cell)

-- so it is where a field is put
receiver-cell : (o : Outline) (method field : ℕ) (named : TypeRef) → IsOfCells (takes_field o method field named)
unfolding fits
receiver-cell o method field named slot.Top slots v is h = absurd (none-some slots is)
receiver-cell o method field named slot.Int slots v is h = absurd (none-some slots is)
receiver-cell o method field named slot.Long slots v is h = absurd (none-some slots is)
receiver-cell o method field named s slots v is h = cell-of v h

top-left : (n : ℕ) (words : List Value) → slice_get (drop n words) 0 ≡ slice_get words n
top-left zero words = refl
top-left (suc n) [] = refl
top-left (suc n) (v ∷ words) = top-left n words

-- ---- locals

-- what may be stored as an int, as a long or as a reference is one
stored-int : (s : Slot) (stack : List Slot) (words : List Value) → is_int s ≡ true → HaveKinds (s ∷ stack) words
    → (n : ℤ) × (slice_get words 0 ≡ Some (value.Int n))
stored-int s stack [] is h = absurd h
stored-int s stack (v ∷ words) is h = let number = int_local s v is (as_local s v h.0) in (number.0, ap Some number.1)

long-value : (s : Slot) (v : Value) → is_long s ≡ true → HasKind s v → (n : ℤ) × (v ≡ value.Long n)
long-value slot.Long v is h = h
long-value s v is h = absurd (false≢true is)

stored-long : (half s : Slot) (stack : List Slot) (words : List Value) → is_long s ≡ true → HaveKinds (half ∷ s ∷ stack) words
    → (n : ℤ) × (slice_get words 1 ≡ Some (value.Long n))
stored-long half s stack [] is h = absurd h
stored-long half s stack (v ∷ []) is h = absurd h.1
stored-long half s stack (v ∷ w ∷ words) is h = let number = long-value s w is h.1.0 in (number.0, ap Some number.1)

-- a long is a value of its own
own-value : (s : Slot) (v : Value) → is_long s ≡ true → LocalHasKind s v → v ≢ value.Top
own-value slot.Long v is h top = let number = h.1 in absurd (cc)
own-value s v is h top = absurd (false≢true is)

-- what may be loaded or stored as a reference is one
local-cell : (s : Slot) (v : Value) → is_reference s ≡ true → LocalHasKind s v → (cell : Cell) × (v ≡ value.Ref cell)
local-cell slot.Null v is h = cell-of v h
local-cell (slot.Ref t) v is h = cell-of v h
local-cell (slot.Uninit item) v is h = cell-of v h
local-cell slot.UninitThis v is h = cell-of v h
local-cell s v is h = absurd (false≢true is)

stored-cell : (s : Slot) (stack : List Slot) (words : List Value) → is_reference s ≡ true → HaveKinds (s ∷ stack) words
    → (cell : Cell) × (slice_get words 0 ≡ Some (value.Ref cell))
stored-cell s stack [] is h = absurd h
stored-cell s stack (v ∷ words) is h = let c = local-cell s v is (as_local s v h.0) in (c.0, ap Some c.1)

module _ (o : Outline) (s : TypeState) (f : Frame) (callers : List Frame) (h : FrameHasKinds s f.locals f.stack) (whole : is_whole s.stack ≡ true)
    (after : TypeState) where
  -- the words that a row takes have the kinds that it wants
  words-taken : (wanted given : List Slot) → is_whole wanted ≡ true → worked o wanted given s ≡ Some after → HaveKinds wanted (take (length wanted) f.stack)
  words-taken wanted given w row =
      let rest = option_map-some (λ stack. record s { stack = given ++ stack }) (taken o wanted s.stack) after row in
      taken_words o wanted s.stack rest.0 f.stack w whole rest.1 h.in_stack

  local-loaded : (r : Reg) (k : ℕ) → load_row r k s ≡ Some after → (found : Slot) × (suits r found ≡ true) × LocalHasKind found (word_at f.locals k)
  unfolding load_row
  local-loaded r k row =
      let found = option_and_then-some (λ found. cond (suits r found) (Some (pushed (loaded r found) s)) None) (slice_get s.locals k) after row in
      (found.0, (cond-some_then (suits r found.0) _ after found.2).0, related_at LocalHasKind s.locals f.locals k found.0 h.in_locals found.1)

  loads : (r : Reg) (k : ℕ) → load_row r k s ≡ Some after → HasLocalOf r (f ∷ callers) k
  loads reg.Int k row = let found = local-loaded reg.Int k row in int_local found.0 (word_at f.locals k) found.1 found.2
  loads reg.Long k row = let found = local-loaded reg.Long k row in own-value found.0 (word_at f.locals k) found.1 found.2
  loads reg.Ref k row = let found = local-loaded reg.Ref k row in local-cell found.0 (word_at f.locals k) found.1 found.2

  stores : (r : Reg) (k : ℕ) (stack : List Slot) → s.stack ≡ stack → store_row o r k (record s { stack = stack }) ≡ Some after
      → HasWordOf r (f ∷ callers)
  unfolding store_row
  stores reg.Int k [] is row = absurd (cc)
  stores reg.Ref k [] is row = absurd (cc)
  stores reg.Long k [] is row = absurd (cc)
  stores reg.Int k (found ∷ stack) is row =
      stored-int found stack f.stack (cond-some_then (is_int found) _ after row).0 (subst (λ xs. HaveKinds xs f.stack) is h.in_stack)
  stores reg.Ref k (found ∷ stack) is row =
      stored-cell found stack f.stack (cond-some_then (is_reference found) _ after row).0 (subst (λ xs. HaveKinds xs f.stack) is h.in_stack)
  stores reg.Long k (half ∷ []) is row = absurd (cc)
  stores reg.Long k (half ∷ found ∷ stack) is row =
      stored-long half found stack f.stack (cond-some_then (is_long found) _ after row).0 (subst (λ xs. HaveKinds xs f.stack) is h.in_stack)

  increments : (k : ℕ) → increment_row k s ≡ Some after → (n : ℤ) × (word_at f.locals k ≡ value.Int n)
  unfolding increment_row
  increments k row =
      int_local (local_at s.locals k) (word_at f.locals k) (cond-some_then (is_int (local_at s.locals k)) (Some s) after row).0
      (local_kind_or s.locals f.locals k h.in_locals)

  doubles : (stack : List Slot) → s.stack ≡ stack → move_row insn.Dup (record s { stack = stack }) ≡ Some after → HasWord (f ∷ callers) 0
  unfolding move_row
  doubles [] is row = absurd (none-some after row)
  doubles (found ∷ stack) is row = first-word found stack f.stack (subst (λ xs. HaveKinds xs f.stack) is h.in_stack)

  -- ---- numbers

  -- the words from a place on
  word-there : (place : ℕ) (v : Value) (words : List Value) → drop place f.stack ≡ v ∷ words → slice_get f.stack place ≡ Some v
  word-there place v words is = sym (top-left place f.stack) ∙ ap (λ xs. slice_get xs 0) is

  words-after : (place : ℕ) (v : Value) (words : List Value) → drop place f.stack ≡ v ∷ words → drop (place + 1) f.stack ≡ words
  words-after place v words is = sym (drop-drop 1 place f.stack) ∙ ap (drop 1) is

  words-behind : (place : ℕ) (v w : Value) (words : List Value) → drop place f.stack ≡ v ∷ w ∷ words → drop (place + 2) f.stack ≡ words
  words-behind place v w words is =
      let next : place + 2 ≡ place + 1 + 1 = omega arith in
      ap (λ n. drop n f.stack) next ∙ words-after (place + 1) w words (words-after place v (w ∷ words) is)

  -- the numbers that are wanted are there
  numbers-there : (longs : List Bool) (place : ℕ) (words : List Value) → drop place f.stack ≡ words
      → HaveKinds (slots_of longs) (take (length (slots_of longs)) words) → HasNumbers longs (f ∷ callers) place
  numbers-there [] place words is h = tt
  numbers-there (false ∷ []) place [] is h = absurd h
  numbers-there (true ∷ []) place [] is h = absurd h
  numbers-there (false ∷ next ∷ more) place [] is h = absurd h
  numbers-there (true ∷ next ∷ more) place [] is h = absurd h
  numbers-there (true ∷ []) place (v ∷ []) is h = absurd h.1
  numbers-there (true ∷ next ∷ more) place (v ∷ []) is h = absurd h.1
  numbers-there (false ∷ []) place (v ∷ words) is h = (h.0.0, word-there place v words is ∙ ap Some h.0.1)
  numbers-there (false ∷ next ∷ more) place (v ∷ words) is h = (
    numbers-there (next ∷ more) (place + 1) words (words-after place v words is) h.1,
    (h.0.0, word-there place v words is ∙ ap Some h.0.1),
  )
  numbers-there (true ∷ []) place (v ∷ w ∷ words) is h =
      (h.1.0.0, word-there (place + 1) w words (words-after place v (w ∷ words) is) ∙ ap Some h.1.0.1)
  numbers-there (true ∷ next ∷ more) place (v ∷ w ∷ words) is h = (
    numbers-there (next ∷ more) (place + 2) words (words-behind place v w words is) h.1.1,
    (h.1.0.0, word-there (place + 1) w words (words-after place v (w ∷ words) is) ∙ ap Some h.1.0.1),
  )

  no-numbers : (longs : List Bool) → has_one longs ≡ false → HasNumbers longs (f ∷ callers) 0
  no-numbers [] none = tt
  no-numbers (is_long ∷ more) none = absurd (false≢true (sym none))

  numbers-asked : (method item : ℕ) (news : ℕ → Option TypeRef) (u : Use) (i : Insn) (number : Bool) → is_number i ≡ number
      → row_after o method item news u i s ≡ Some after → HasNumbers (numbers_taken i) (f ∷ callers) 0
  numbers-asked method item news u i true is row =
      numbers-there (numbers_taken i) 0 f.stack refl
      (words-taken (wanted_by i) (given_by i) (numbers (numbers_taken i)).whole (sym (number_row o method item news u i s is) ∙ row))
  numbers-asked method item news u i false is row = no-numbers (numbers_taken i) is

  reads : (u : Use) → get_field_row o u s ≡ Some after → HasReference (f ∷ callers) 0
  unfolding get_field_row
  reads (resolved.OfField g t) row =
      let named = option_and_then-some (λ (named : TypeRef). worked o (slot.Ref named ∷ []) (field_words o g.0) s) (slice_get o.types t.0) after row in
      one-reference named.0 f.stack (words-taken (slot.Ref named.0 ∷ []) (field_words o g.0) refl named.2)
  reads u row = absurd (none-some after row)

  -- ---- arrays below what is taken

  abbrev below_of : (Slot → Option (List Slot)) → List Slot → Option TypeState
  below_of given [] = None
  below_of given (below ∷ stack) = option_map (λ slots. record s { stack = slots ++ stack }) (given below)

  left-cell : (given : Slot → Option (List Slot)) → IsOfCells given → (rest : List Slot) (words : List Value) → below_of given rest ≡ Some after
      → HaveKinds rest words → (cell : Cell) × (slice_get words 0 ≡ Some (value.Ref cell))
  left-cell given cells [] words row kinds = absurd (none-some after row)
  left-cell given cells (below ∷ stack) [] row kinds = absurd kinds
  left-cell given cells (below ∷ stack) (v ∷ words) row kinds =
      let slots = option_map-some (λ slots. record s { stack = slots ++ stack }) (given below) after row in
      let c = cells below slots.0 v slots.1 kinds.0 in
      (c.0, ap Some c.1)

  -- the words that are taken, and the reference below them
  cell-below : (wanted : List Slot) (given : Slot → Option (List Slot)) → IsOfCells given → is_whole wanted ≡ true → worked_below o wanted given s ≡ Some after
      → HasReference (f ∷ callers) (length wanted) × HaveKinds wanted (take (length wanted) f.stack)
  cell-below wanted given cells w row =
      let rest = option_and_then-some (below_of given) (taken o wanted s.stack) after row in
      let c = left-cell given cells rest.0 (drop (length wanted) f.stack) rest.2 (taken_rest o wanted s.stack rest.0 f.stack rest.1 h.in_stack) in
      ((c.0, sym (top-left (length wanted) f.stack) ∙ c.1), taken_words o wanted s.stack rest.0 f.stack w whole rest.1 h.in_stack)

  array-below : (wanted : List Slot) (passes : TypeRef → Bool) (null : List Slot) (given : TypeRef → List Slot) → is_whole wanted ≡ true
      → worked_below o wanted (on_array passes null given) s ≡ Some after
      → HasReference (f ∷ callers) (length wanted) × HaveKinds wanted (take (length wanted) f.stack)
  array-below wanted passes null given w row = cell-below wanted (on_array passes null given) (array-cell passes null given) w row

  elements-loaded : (e : Elem) → array_load_row o e s ≡ Some after → HasReference (f ∷ callers) 1 × HasInt (f ∷ callers) 0
  unfolding array_load_row
  elements-loaded e row =
      let found = array-below (slot.Int ∷ []) (is_array_of e) (null_element e) (element_of e) refl row in
      (found.0, one-int f.stack found.1)

  lengths : length_row o s ≡ Some after → HasReference (f ∷ callers) 0
  unfolding length_row
  lengths row = (array-below [] _ _ _ refl row).0

  int-stored : (e : Elem) → worked_below o (slot.Int ∷ slot.Int ∷ []) (on_array (is_array_of e) [] (λ t. [])) s ≡ Some after
      → HasReference (f ∷ callers) 2 × HasInt (f ∷ callers) 1 × HasInt (f ∷ callers) 0
  int-stored e row =
      let found = array-below (slot.Int ∷ slot.Int ∷ []) (is_array_of e) [] (λ t. []) refl row in
      let ints = two-ints f.stack found.1 in
      (found.0, ints.0, ints.1)

  elements-stored : (e : Elem) → array_store_row o e s ≡ Some after → AsksOfStore e (f ∷ callers)
  unfolding array_store_row
  elements-stored elem.Boolean row = int-stored elem.Boolean row
  elements-stored elem.Byte row = int-stored elem.Byte row
  elements-stored elem.Char row = int-stored elem.Char row
  elements-stored elem.Short row = int-stored elem.Short row
  elements-stored elem.Int row = int-stored elem.Int row
  elements-stored elem.Long row =
      let found = array-below (slot.Top ∷ slot.Long ∷ slot.Int ∷ []) (is_array_of elem.Long) [] (λ t. []) refl row in
      let numbers = int-below f.stack found.1 in
      (found.0, numbers.0, numbers.1)
  elements-stored elem.Ref row = tt

  -- ---- fields that are put

  int-put : (given : Slot → Option (List Slot)) → IsOfCells given → worked_below o (slot.Int ∷ []) given s ≡ Some after
      → HasReference (f ∷ callers) 1 × HasInt (f ∷ callers) 0
  int-put given cells row = let found = cell-below (slot.Int ∷ []) given cells refl row in (found.0, one-int f.stack found.1)

  value-put : (k : Kind) (given : Slot → Option (List Slot)) → IsOfCells given → worked_below o (stack_slots (k ∷ [])) given s ≡ Some after
      → AsksOfPut k (f ∷ callers)
  value-put kind.Long given cells row =
      let found = cell-below (slot.Top ∷ slot.Long ∷ []) given cells refl row in (found.0, one-long f.stack found.1)
  value-put (kind.Ref t) given cells row =
      let found = cell-below (slot.Ref t ∷ []) given cells refl row in (found.0, one-reference t f.stack found.1)
  value-put kind.Boolean given cells row = int-put given cells row
  value-put kind.Byte given cells row = int-put given cells row
  value-put kind.Char given cells row = int-put given cells row
  value-put kind.Short given cells row = int-put given cells row
  value-put kind.Int given cells row = int-put given cells row

  -- where the row of putfield is met
  pub put-asked : (method : ℕ) (g : FieldId) (t : TypeId) → put_field_row o method (resolved.OfField g t) s ≡ Some after
      → AsksOfPut (field_kind o.classes (field_at o.classes g.0).field) (f ∷ callers)
  unfolding put_field_row
  put-asked method g t row =
      let named = option_and_then-some (λ (named : TypeRef). worked_below o (field_words o g.0) (takes_field o method g.0 named) s) (slice_get o.types t.0) after row in
      value-put (field_kind o.classes (field_at o.classes g.0).field) (takes_field o method g.0 named.0) (receiver-cell o method g.0 named.0) named.2

  -- where the checker's row is met
  pub asked : (method item : ℕ) (news : ℕ → Option TypeRef) (u : Use) (i : Insn) → row_after o method item news u i s ≡ Some after → AsksOf i (f ∷ callers)
  unfolding row_after
  asked method item news u (insn.Load kind place) row = loads kind place row
  asked method item news u (insn.Store kind place) row = stores kind place s.stack refl row
  asked method item news u (insn.Inc place by) row = increments place row
  asked method item news u insn.Dup row = doubles s.stack refl row
  asked method item news u (insn.IfInt test target) row = one-int f.stack (words-taken (slot.Int ∷ []) [] refl row)
  asked method item news u (insn.IfPair test target) row = two-ints f.stack (words-taken (slot.Int ∷ slot.Int ∷ []) [] refl row)
  asked method item news u (insn.IfSame same target) row =
      two-references (type_of_class (object_of o.classes)) f.stack (words-taken (object_slot o ∷ object_slot o ∷ []) [] refl row)
  asked method item news u (insn.IfNull null target) row = one-reference (type_of_class (object_of o.classes)) f.stack (words-taken (object_slot o ∷ []) [] refl row)
  asked method item news u (insn.GetField index) row = reads u row
  asked method item news u (insn.ArrayLoad e) row = elements-loaded e row
  asked method item news u (insn.ArrayStore e) row = elements-stored e row
  asked method item news u insn.Length row = lengths row
  asked method item news u i row = numbers-asked method item news u i (is_number i) refl row
