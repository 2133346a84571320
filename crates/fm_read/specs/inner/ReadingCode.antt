-- Reading the bytes of a Code attribute after its length, from left to right.
use Rattle.std.specs.Prelude.{ℕ, ◌+◌, ◌==◌, nat_lt, nat_le, Bool, true, false, List, length, codes, Option, Some, None, if◌then◌else◌}
use Rattle.std.specs.Option.{is_some}
use Rattle.std.specs.Str.{bytes_eq}
use Rattle.fm_code.specs.ConstantPool.{class_name_at, utf8_at}
use Rattle.fm_code.specs.inner.Reading.{◌>>=◌, number_at, bytes_at, counted_at, raw_at}
use Rattle.fm_code.specs.declared.class_file.Raw.{Raw}
use Rattle.fm_code.specs.declared.code_array.TheConstants.{MAX_CODE_BYTES}
use Rattle.fm_code.specs.declared.code_array.CodeAttr.{CodeAttr}
use Rattle.fm_code.specs.declared.code_array.CodeAttr.TheVariants as code_attribute
use Rattle.fm_code.specs.declared.code_array.Handler.{Handler}
use Rattle.fm_code.specs.declared.code_array.Line.{Line}
use Rattle.fm_code.specs.declared.code_array.Var.{Var}
use Rattle.fm_code.specs.declared.constant_pool.Entry.{Entry}
use Rattle.fm_read.specs.declared.code_attributes.AttributeKind.{AttributeKind}
use Rattle.fm_read.specs.declared.code_attributes.AttributeKind.TheVariants as kind
use Rattle.fm_read.specs.declared.code.CodeHead.{CodeHead as HeadParts}
use Rattle.fm_read.specs.declared.code.CodeTables.{CodeTables as TableParts}
use Rattle.fm_read.specs.inner.Places.{find_item, find_place}

-- ---- what is before the tables

-- max_stack, max_locals and the code array
pub record CodeHead : Type 0 where
  pub max_stack : ℕ
  pub max_locals : ℕ
  pub code : List ℕ

abbrev pub head_view : HeadParts → CodeHead
head_view head = record { max_stack = head.max_stack; max_locals = head.max_locals; code = head.code.now }

-- a code array has at least one byte, and no more than it may have
abbrev pub is_code_length : ℕ → Bool
is_code_length size = if size == 0 then false else nat_le size MAX_CODE_BYTES

unfoldable pub head_at : List ℕ → Option (CodeHead × List ℕ)
head_at bytes = do
  max_stack ← number_at 2 bytes
  max_locals ← number_at 2 max_stack.1
  size ← number_at 4 max_locals.1
  code ← bytes_at size.0 size.1
  if is_code_length size.0 then Some (record { max_stack = max_stack.0; max_locals = max_locals.0; code = code.0 }, code.1) else None

-- ---- numbers that name something

-- an item, or the code's end, by its offset
unfoldable pub named_place_at : List ℕ → List ℕ → Option (ℕ × List ℕ)
named_place_at offsets bytes = do
  offset ← number_at 2 bytes
  place ← find_place offsets offset.0
  Some (place, offset.1)

-- an item by its offset
unfoldable pub named_item_at : List ℕ → List ℕ → Option (ℕ × List ℕ)
named_item_at offsets bytes = do
  offset ← number_at 2 bytes
  item ← find_item offsets offset.0
  Some (item, offset.1)

-- whether an index is 0 or that of a class
abbrev pub is_catch_class : List Entry → ℕ → Bool
is_catch_class entries index = if index == 0 then true else is_some (class_name_at entries index)

-- 0, or the index of a class
unfoldable pub catch_class_at : List Entry → List ℕ → Option (ℕ × List ℕ)
catch_class_at entries bytes = do
  index ← number_at 2 bytes
  if is_catch_class entries index.0 then Some index else None

-- the index of a text
unfoldable pub text_index_at : List Entry → List ℕ → Option (ℕ × List ℕ)
text_index_at entries bytes = do
  index ← number_at 2 bytes
  if is_some (utf8_at entries index.0) then Some index else None

-- ---- the entries of tables

unfoldable pub handler_at : List Entry → List ℕ → List ℕ → Option (Handler × List ℕ)
handler_at entries offsets bytes = do
  start ← named_place_at offsets bytes
  end ← named_place_at offsets start.1
  handler ← named_item_at offsets end.1
  class ← catch_class_at entries handler.1
  if nat_lt start.0 end.0 then Some (record { start = start.0; end = end.0; handler = handler.0; catch_class = class.0 }, class.1) else None

unfoldable pub line_at : List ℕ → List ℕ → Option (Line × List ℕ)
line_at offsets bytes = do
  item ← named_item_at offsets bytes
  line ← number_at 2 item.1
  Some (record { item = item.0; line = line.0 }, line.1)

unfoldable pub var_at : List Entry → List ℕ → List ℕ → Option (Var × List ℕ)
var_at entries offsets bytes = do
  start ← number_at 2 bytes
  size ← number_at 2 start.1
  name ← text_index_at entries size.1
  kind ← text_index_at entries name.1
  index ← number_at 2 kind.1
  first ← find_place offsets start.0
  end ← find_place offsets (start.0 + size.0)
  Some (record { start = first; end = end; name = name.0; kind = kind.0; index = index.0 }, index.1)

-- ---- attributes

-- what was read, where it is all of the bytes
abbrev pub whole : {X : Type 0} → X × List ℕ → Option X
whole x = if length x.1 == 0 then Some x.0 else None

abbrev pub lines_of : List ℕ → List ℕ → Option (List Line)
lines_of offsets bytes = counted_at (line_at offsets) bytes >>= whole

abbrev pub vars_of : List Entry → List ℕ → List ℕ → Option (List Var)
vars_of entries offsets bytes = counted_at (var_at entries offsets) bytes >>= whole

-- what the text of an attribute's name says of its bytes
abbrev pub kind_of : List ℕ → AttributeKind
kind_of text =
    if bytes_eq text (codes "LineNumberTable") then kind.Lines else
    if bytes_eq text (codes "LocalVariableTable") then kind.Vars else
    if bytes_eq text (codes "LocalVariableTypeTable") then kind.Types else kind.Other

abbrev pub kind_at : List Entry → ℕ → Option AttributeKind
kind_at entries index = utf8_at entries index >>= λ text. Some (kind_of text)

-- an attribute of a kind by its name and its bytes
abbrev pub attribute_of_kind : List Entry → List ℕ → Raw → AttributeKind → Option CodeAttr
attribute_of_kind entries offsets raw kind.Lines = lines_of offsets raw.bytes >>= λ lines. Some (code_attribute.Lines raw.name lines)
attribute_of_kind entries offsets raw kind.Vars = vars_of entries offsets raw.bytes >>= λ vars. Some (code_attribute.Vars raw.name false vars)
attribute_of_kind entries offsets raw kind.Types = vars_of entries offsets raw.bytes >>= λ vars. Some (code_attribute.Vars raw.name true vars)
attribute_of_kind entries offsets raw kind.Other = Some (code_attribute.Other raw)

unfoldable pub attribute_of : List Entry → List ℕ → Raw → Option CodeAttr
attribute_of entries offsets raw = kind_at entries raw.name >>= attribute_of_kind entries offsets raw

unfoldable pub attribute_at : List Entry → List ℕ → List ℕ → Option (CodeAttr × List ℕ)
attribute_at entries offsets bytes = do
  raw ← raw_at bytes
  attribute ← attribute_of entries offsets raw.0
  Some (attribute, raw.1)

-- ---- the tables

-- the exception table and the attributes
pub record CodeTables : Type 0 where
  pub handlers : List Handler
  pub attributes : List CodeAttr

abbrev pub tables_view : TableParts → CodeTables
tables_view tables = record { handlers = tables.handlers.items; attributes = tables.attributes.items }

-- what is after the code array, which is all of the bytes
unfoldable pub tables_of : List Entry → List ℕ → List ℕ → Option CodeTables
tables_of entries offsets bytes = do
  handlers ← counted_at (handler_at entries offsets) bytes
  attributes ← counted_at (attribute_at entries offsets) handlers.1
  if length attributes.1 == 0 then Some (record { handlers = handlers.0; attributes = attributes.0 }) else None
