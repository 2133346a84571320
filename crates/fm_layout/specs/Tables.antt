-- The tables of code whose items have moved.
use Rattle.std.specs.Prelude.{ℕ, ◌+◌, ◌<◌, ◌≡◌, List, length, map, Option, Some, None, slice_index}
use Rattle.std.specs.List.{filter_map, AllByRecursion}
use Rattle.std.specs.List.Sorted.{IsStrictlyIncreasing}
use Rattle.fm_code.specs.CodeRules.{CodeAttrIsValid, HandlerIsValid}
use Rattle.fm_code.specs.declared.constant_pool.Entry.{Entry}
use Rattle.fm_code.specs.declared.code_array.Code.{Code}
use Rattle.fm_code.specs.declared.code_array.Handler.{Handler}
use Rattle.fm_code.specs.declared.code_array.CodeAttr.{CodeAttr}
use Rattle.fm_code.specs.declared.code_array.CodeAttr.TheVariants as attribute
use Rattle.fm_code.specs.declared.code_array.Line.{Line}
use Rattle.fm_code.specs.declared.code_array.Var.{Var}
use Rattle.fm_layout.specs.declared.laying.Laid.{Laid}
use Rattle.fm_layout.specs.declared.tables.Tables.{Tables}

-- the laid item to which an old item's number goes: the first one of the new item to which jumps go
abbrev pub moved_number : List ℕ → List ℕ → ℕ → ℕ
moved_number firsts anchors number = slice_index firsts (slice_index anchors number)

-- an entry of the exception table, whose range and handler move with their items (JVMS 4.7.3)
abbrev pub moved_handler : List ℕ → List ℕ → Handler → Handler
moved_handler firsts anchors h = record {
  start = moved_number firsts anchors h.start;
  end = moved_number firsts anchors h.end;
  handler = moved_number firsts anchors h.handler;
  catch_class = h.catch_class;
}

-- an entry of a line table (JVMS 4.7.12)
abbrev pub moved_line : List ℕ → List ℕ → Line → Line
moved_line firsts anchors l = record l { item = moved_number firsts anchors l.item }

-- an entry of a table of local variables (JVMS 4.7.13, 4.7.14)
abbrev pub moved_var : List ℕ → List ℕ → Var → Var
moved_var firsts anchors v = record {
  start = moved_number firsts anchors v.start;
  end = moved_number firsts anchors v.end;
  name = v.name;
  kind = v.kind;
  index = v.index;
}

-- lines and variables move with their items; all other attributes of the old code are dropped
abbrev pub moved_attribute : List ℕ → List ℕ → CodeAttr → Option CodeAttr
moved_attribute firsts anchors (attribute.Lines name lines) = Some (attribute.Lines name (map (moved_line firsts anchors) lines))
moved_attribute firsts anchors (attribute.Vars name types vars) = Some (attribute.Vars name types (map (moved_var firsts anchors) vars))
moved_attribute firsts anchors (attribute.Other raw) = None

-- the tables of the code, in their order
abbrev pub moved_tables : Code → Laid → List ℕ → Tables
moved_tables code laid anchors = record {
  handlers = map (moved_handler laid.firsts anchors) code.handlers;
  attributes = filter_map (moved_attribute laid.firsts anchors) code.attributes;
}

-- the tables of code with a given number of items are valid (JVMS 4.7.3, 4.7.12 to 4.7.14)
pub record AreValid (entries : List Entry) (count : ℕ) (tables : Tables) : Type 0 where
  pub handlers : AllByRecursion (HandlerIsValid entries count) tables.handlers
  pub attributes : AllByRecursion (CodeAttrIsValid entries count) tables.attributes

-- an anchor for each old item and for the end, rising, each one a new item or their end
pub record AreAnchors (code : Code) (laid : Laid) (anchors : List ℕ) : Type 0 where
  pub count : length anchors ≡ length code.items + 1
  pub rising : IsStrictlyIncreasing anchors
  pub within : (k : ℕ) → k < length anchors → slice_index anchors k < length laid.firsts
