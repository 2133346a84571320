-- Calls of the methods of FreeMe.
use Rattle.std.specs.Prelude.{ℕ, Bool, false, List, [], ◌∷◌, length, Option, Some, None, if◌then◌else◌}
use Rattle.std.specs.List.{range_with_len}
use Rattle.std.specs.Option.{option_map, option_or}
use Rattle.std.specs.Str.{bytes_eq}
use Rattle.fm_check.specs.Checking.{coded}
use Rattle.fm_code.specs.FreeEntries.{free_class}
use Rattle.fm_code.specs.declared.code_array.Code.{Code}
use Rattle.fm_code.specs.declared.code_array.Item.{Item}
use Rattle.fm_code.specs.declared.instructions.Insn.{Insn}
use Rattle.fm_code.specs.declared.instructions.Insn.TheVariants as insn
use Rattle.fm_types.specs.Named.{class_of_method}
use Rattle.fm_types.specs.Typed.{use_in}
use Rattle.fm_world.specs.Members.{methods_of}
use Rattle.fm_world.specs.Programs.{class_info, method_info, Outline, Program}
use Rattle.fm_world.specs.declared.uses.Use.{Use}
use Rattle.fm_world.specs.declared.uses.Use.TheVariants as resolved

-- what a use names is a method of FreeMe
abbrev pub names_free : Outline → Use → Bool
names_free o (resolved.OfMethod method t) = bytes_eq (class_info o (class_of_method o method.0)).name free_class
names_free o u = false

-- the method's instruction calls a method of FreeMe, all of which are static
abbrev pub calls_free : Program → ℕ → Insn → Bool
calls_free p method (insn.Static index) = names_free p.outline (use_in p method index)
calls_free p method i = false

-- the offset of the first of these items that does
abbrev pub call_in_items : Program → ℕ → List Item → Option ℕ
call_in_items p method [] = None
call_in_items p method (item ∷ items) = if calls_free p method item.insn then Some item.offset else call_in_items p method items

-- the same of a method that may have code
abbrev pub call_in_code : Program → ℕ → Option Code → Option ℕ
call_in_code p method None = None
call_in_code p method (Some code) = call_in_items p method code.items

-- the offset of the first one in a method
abbrev pub call_in_method : Program → ℕ → Option ℕ
call_in_method p method = call_in_code p method (coded (method_info p method).body)

-- the first of these methods that has such an item, and its offset
abbrev pub call_among : Program → List ℕ → Option (ℕ × ℕ)
call_among p [] = None
call_among p (method ∷ methods) = option_or (option_map (λ offset. (method, offset)) (call_in_method p method)) (call_among p methods)

-- of all methods
unfoldable pub first_call : Program → Option (ℕ × ℕ)
first_call p = call_among p (range_with_len 0 (length (methods_of p.outline.classes)))
