-- What actions do to the areas that frames share. Objects are made in cells that the memory chooses.
use Rattle.std.specs.Prelude.{ℕ, zero, suc, ◌+◌, ◌-◌, ◌==◌, ℤ, pos, ◌+ℤ◌, Bool, true, false, List, [], ◌∷◌, ◌++◌, length, Option, Some, None, option_map, unwrap_or, nat_lt, slice_get, slice_set, if◌then◌else◌}
use Rattle.std.specs.FinMap as map
use Rattle.std.specs.List.{slice_index_or}
use Rattle.fm_alu.specs.TwosComplement.{signed}
use Rattle.fm_base.specs.declared.kinds.Kind.{Kind}
use Rattle.fm_base.specs.declared.kinds.TypeRef.{TypeRef}
use Rattle.fm_cells.specs.Changes.{Choice, Take, RefuseStore, made_by, freed_by, put_by, chained_by, with_object}
use Rattle.fm_cells.specs.Objects.{Object, Request, request_of, request_words, object_words}
use Rattle.fm_cells.specs.Stores.{Store, object_at, elements_at}
use Rattle.fm_world.specs.Numbers.{type_number}
use Rattle.fm_world.specs.Programs.{Outline}
use Rattle.fm_frames.specs.Effects.{Source, Plain, OfOperand, OfLocal, LocalPlus, OfPlace, OfStatic, OfMade, OfLiteral, SameOperands, Action, Make, MakeFixed, MakeLiteral, Put, SetStatic, Start, Free, SetChain, FreeChain, Copy}
use Rattle.fm_frames.specs.Elements.{cut, kept, pack_of, read}
use Rattle.fm_frames.specs.NativeRows.{resized, class_type, text_type, type_name}
use Rattle.fm_frames.specs.States.{Areas, ref, word_at}
use Rattle.fm_frames.specs.declared.values.Value.{Value}
use Rattle.fm_frames.specs.declared.values.Value.TheVariants as value

-- how a memory meets requests
abbrev pub Choose : Type 0
Choose = Store → Request → Choice

-- ---- values

-- the cell of a reference
abbrev pub cell_of : Value → ℕ
cell_of value.Top = 0
cell_of (value.Int n) = 0
cell_of (value.Long n) = 0
cell_of (value.Ref cell) = cell.0

-- two references are the same
abbrev pub same_cell : Value → Value → Bool
same_cell a b = cell_of a == cell_of b

-- 1 where they are, and else 0
abbrev pub told_same : Value → Value → Value
told_same a b = value.Int (if same_cell a b then pos 1 else pos 0)

-- an int with a number added, which wraps
abbrev pub sum_of : Value → ℤ → Value
sum_of (value.Int n) by = value.Int (signed 32 (n +ℤ by))
sum_of value.Top by = value.Top
sum_of (value.Long n) by = value.Top
sum_of (value.Ref cell) by = value.Top

-- where the values of an effect come from: the locals and the stack before it, the areas, and the cells that it made
pub record Sources : Type 0 where
  pub locals : List Value
  pub stack : List Value
  pub areas : Areas
  pub made : List ℕ

-- the value of a source
abbrev pub value_of : Sources → Source → Value
value_of x (Plain v) = v
value_of x (OfOperand operand) = word_at x.stack operand
value_of x (OfLocal k) = word_at x.locals k
value_of x (LocalPlus k by) = sum_of (word_at x.locals k) by
value_of x (OfPlace operand place kind) = read kind (slice_index_or (elements_at x.areas.store (cell_of (word_at x.stack operand))) place 0)
value_of x (OfStatic slot) = word_at x.areas.statics slot
value_of x (OfMade n) = ref (slice_index_or x.made n 0)
value_of x (OfLiteral text) = ref (slice_index_or x.areas.literals text 0)
value_of x SameOperands = told_same (word_at x.stack 0) (word_at x.stack 1)

-- ---- making

-- the request to the memory for an object of a type
abbrev pub requested : Outline → TypeRef → ℕ → Bool → Request
requested o t len fixed = request_of (unwrap_or (type_number o.types t) 0) len (pack_of o t) fixed

-- the name of a type that has a number
abbrev pub name_numbered : Outline → ℕ → List ℕ
name_numbered o type = unwrap_or (option_map (type_name o) (slice_get o.types type)) []

-- the units of a literal by its number: a text, or the name of a type
abbrev pub literal_text : Outline → ℕ → List ℕ
literal_text o literal =
    if nat_lt literal (length o.texts) then slice_index_or o.texts literal [] else name_numbered o (literal - length o.texts)

-- the type of its object
abbrev pub literal_type : Outline → ℕ → TypeRef
literal_type o literal = if nat_lt literal (length o.texts) then text_type o else class_type o

-- whether a literal is made already
abbrev pub is_there : Areas → ℕ → Bool
is_there x text = nat_lt 0 (slice_index_or x.literals text 0)

-- ---- the results of the actions

-- all were done, and made these cells; the store was full where this many words were needed; or a
-- chain led to a cell that isn't held, or twice to one
pub data Performed : Type 0 where
  Did : Areas → (made : List ℕ) → Performed
  FullAt : Areas → (needed : ℕ) → Performed
  LostAt : Value → Performed

-- ---- chains

-- a cell of a chain, with those after it: none of an object that lives for ever
abbrev pub cells_with : ℕ → Option Object → (Object → Option (List ℕ)) → Option (List ℕ)
cells_with cell None others = None
cells_with cell (Some object) others = if object.fixed then Some [] else option_map (λ cells. cell ∷ cells) (others object)

-- the cells from one on by their chains up to null or an object that lives for ever; none where a cell isn't held, or more follow than this
unfoldable pub chain_cells : ℕ → Store → ℕ → Option (List ℕ)
chain_cells bound store zero = Some []
chain_cells zero store (suc cell) = None
chain_cells (suc bound) store (suc cell) =
    cells_with (suc cell) (object_at store (suc cell)) (λ object. chain_cells bound store object.chain)

-- a chain that leads to no cell twice is no longer than there are objects
abbrev pub chain_from : Store → ℕ → Option (List ℕ)
chain_from store cell = chain_cells (length (map.entries store.held) + 1) store cell

-- ---- one action

-- the object of a cell is freed, unless it lives for ever
abbrev pub freed_object : Areas → ℕ → Option Object → Areas
freed_object x cell None = x
freed_object x cell (Some object) =
    if object.fixed then x
    else record x { store = freed_by x.store cell; frees = x.frees + 1; freed_words = x.freed_words + object_words object }

-- the object in a cell is freed; an empty cell stays as it is
abbrev pub freed : Areas → ℕ → Areas
freed x cell = freed_object x cell (object_at x.store cell)

-- the objects in several cells are freed, one after another
abbrev pub all_freed : Areas → List ℕ → Areas
all_freed x [] = x
all_freed x (cell ∷ cells) = all_freed (freed x cell) cells

-- the elements of an object are these; with none named they stay 0
abbrev pub with_content : Store → ℕ → List ℕ → Store
with_content store cell [] = store
with_content store cell (element ∷ elements) = of_object (object_at store cell) where
  of_object : Option Object → Store
  of_object None = store
  of_object (Some object) = with_object store cell (record object { elements = element ∷ elements })

-- the memory's choice: the object with its content, or that the store is full
abbrev pub made_then : Areas → Request → List ℕ → Choice → (Areas → ℕ → Performed) → Performed
made_then x request content RefuseStore follows = FullAt x (request_words request)
made_then x request content (Take cell grows) follows =
    follows (record x { store = with_content (made_by x.store request (Take cell grows)) cell content }) cell

-- an object is made in the cell that the memory chooses for its request
abbrev pub made_object : Outline → Choose → TypeRef → ℕ → Bool → List ℕ → Areas → (Areas → ℕ → Performed) → Performed
made_object o choose t len fixed content x follows =
    let request = requested o t len fixed in made_then x request content (choose x.store request) follows

-- a reference or a number is put into an object
abbrev pub put_value : Areas → Value → ℕ → Kind → Value → Areas
put_value x object place kind v = record x { store = put_by x.store (cell_of object) place (kept kind v) }

-- a number or a reference is put into a static field's place, cut to the width of its kind
abbrev pub set_static : Areas → ℕ → Kind → Value → Areas
set_static x slot kind v = record x { statics = slice_set x.statics slot (cut kind v) }

-- the object in a cell leads to another cell from now on, for chains that are freed at once
abbrev pub chained : Areas → ℕ → ℕ → Areas
chained x cell to = record x { store = chained_by x.store cell to }

-- a class counts as started (JVMS 5.5)
abbrev pub class_started : Areas → ℕ → Areas
class_started x class = record x { started = slice_set x.started class true }

-- the elements of the object in a cell, cut at a length or filled with 0 up to it
abbrev pub copied : Store → (cell len : ℕ) → List ℕ
copied store cell len = resized (elements_at store cell) len

-- the object of a literal is in this cell from now on (JVMS 5.1, 6.5.ldc)
abbrev pub literal_made : Areas → ℕ → ℕ → Areas
literal_made x text cell = record x { literals = slice_set x.literals text cell }

-- ---- all actions, one after the other

-- what follows where a chain is freed
abbrev pub chain_freed : Areas → Value → Option (List ℕ) → (Areas → Performed) → Performed
chain_freed x v None follows = LostAt v
chain_freed x v (Some cells) follows = follows (all_freed x cells)

-- from these areas on, where these cells were made before
unfoldable pub performed : Outline → Choose → (locals stack : List Value) → List Action → Areas → List ℕ → Performed
performed o choose locals stack [] x made = Did x made
performed o choose locals stack (Make t len content ∷ more) x made =
    made_object o choose t len false content x (λ y cell. performed o choose locals stack more y (made ++ cell ∷ []))
performed o choose locals stack (MakeFixed t ∷ more) x made =
    made_object o choose t 0 true [] x (λ y cell. performed o choose locals stack more y (made ++ cell ∷ []))
performed o choose locals stack (MakeLiteral text ∷ more) x made =
    if is_there x text then performed o choose locals stack more x made
    else made_object o choose (literal_type o text) (length (literal_text o text)) true (literal_text o text) x
    (λ y cell. performed o choose locals stack more (literal_made y text cell) made)
performed o choose locals stack (Put object place kind v ∷ more) x made =
    let from : Sources = record { locals = locals; stack = stack; areas = x; made = made } in
    performed o choose locals stack more (put_value x (value_of from object) place kind (value_of from v)) made
performed o choose locals stack (SetStatic slot kind v ∷ more) x made =
    let from : Sources = record { locals = locals; stack = stack; areas = x; made = made } in
    performed o choose locals stack more (set_static x slot kind (value_of from v)) made
performed o choose locals stack (Start class ∷ more) x made = performed o choose locals stack more (class_started x class) made
performed o choose locals stack (Free operand ∷ more) x made =
    performed o choose locals stack more (freed x (cell_of (word_at stack operand))) made
performed o choose locals stack (SetChain operand to ∷ more) x made =
    performed o choose locals stack more (chained x (cell_of (word_at stack operand)) (cell_of (word_at stack to))) made
performed o choose locals stack (FreeChain operand ∷ more) x made =
    let first = word_at stack operand in
    chain_freed x first (chain_from x.store (cell_of first)) (λ y. performed o choose locals stack more y made)
performed o choose locals stack (Copy t len operand ∷ more) x made =
    made_object o choose t len false (copied x.store (cell_of (word_at stack operand)) len) x
    (λ y cell. performed o choose locals stack more y (made ++ cell ∷ []))
