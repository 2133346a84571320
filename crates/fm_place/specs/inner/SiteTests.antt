-- What is known of a method while its sites are looked for, and tests of sites as the code makes them.
use Rattle.std.specs.Prelude.{◌<◌, ◌==◌, ◌&&◌, not, ℕ, zero, suc, Bool, true, false, List, length, Option, Some, None, option_and_then, slice_get}
use Rattle.std.specs.List.{list_any, range_with_len, slice_index_or}
use Rattle.fm_conn.specs.Classes.{AreClassesOf}
use Rattle.fm_conn.specs.Facts.{Facts}
use Rattle.fm_conn.specs.Nodes.{Local, TypedMethod}
use Rattle.fm_conn.specs.Shapes.{HasUsesIn}
use Rattle.fm_conn.specs.Summaries.{AreSummariesOf, ends_at, is_linked, linked_by, same_number}
use Rattle.fm_conn.specs.declared.ends.End2.{End2}
use Rattle.fm_conn.specs.declared.ends.End2.TheVariants as end
use Rattle.fm_conn.specs.declared.summaries.Summaries.{Summaries}
use Rattle.fm_conn.specs.inner.PairLists.{IsTypedAs, method_in}
use Rattle.fm_types.specs.States.{is_reference, TypeState}
use Rattle.fm_types.specs.declared.slots.Slot as slots
use Rattle.fm_types.specs.declared.slots.Slot.TheVariants as slot
use Rattle.fm_world.specs.Members.{methods_of}
use Rattle.fm_place.specs.FactsBy.{facts_by}
use Rattle.fm_place.specs.Sites.{new_item}
use Rattle.fm_place.specs.declared.found_sites.JoinedMethod.{JoinedMethod}

-- ---- what is known

-- the method, as definitions see it
abbrev pub typed_in : JoinedMethod → TypedMethod
typed_in k = method_in k.method

-- the facts of the method
abbrev pub facts_in : JoinedMethod → Facts
facts_in k = facts_by k.classes.now k.summaries.now

-- the states, the classes and the summaries are those of the method
pub record IsKnown (k : JoinedMethod) : Type 0 where
  pub number : k.method.number.0 < length (methods_of k.method.program.now.outline.classes)
  pub uses : HasUsesIn k.method.program.now
  pub typed : IsTypedAs k.method
  pub summaries : AreSummariesOf k.method.program.now.outline k.summaries.now
  pub classes : AreClassesOf (linked_by k.summaries.now) (typed_in k) k.classes.now

-- ---- the words of a stack, from the bottom up

-- the item of the `new` whose object is in this word
abbrev pub new_item_in : List slots.Slot → ℕ → Option ℕ
new_item_in words depth = option_and_then new_item (slice_get words depth)

-- whether the word at this depth and the one below it hold the object of the same `new`
abbrev pub is_doubled_in : List slots.Slot → ℕ → Bool
is_doubled_in words zero = false
is_doubled_in words (suc below) = same_number (new_item_in words (suc below)) (new_item_in words below)

-- ---- ends

-- whether it is Return
abbrev pub is_return : End2 → Bool
is_return end.Return = true
is_return (end.Parameter k) = false
is_return end.Global = false

-- whether it is another end that is linked with Return
abbrev pub is_old_end : Summaries → ℕ → End2 → Bool
is_old_end s method e = not (is_return e) && is_linked s method end.Return e

-- whether an entry has such an end
abbrev pub is_old_entry : Summaries → ℕ → End2 × ℕ → Bool
is_old_entry s method entry = is_old_end s method entry.0

-- whether the method lists one
abbrev pub lists_old : Summaries → ℕ → Bool
lists_old s method = list_any (is_old_entry s method) (ends_at s method)

-- ---- captured

-- whether the local holds a reference at first, and is in the class
abbrev pub is_parameter_in : Facts → TypedMethod → ℕ → List slots.Slot → ℕ → Bool
is_parameter_in facts x class locals k =
    is_reference (slice_index_or locals k slot.Top) && (facts.class x.number (Local k) == class)

-- whether some parameter is in the class, by the state of the first item
abbrev pub has_parameter_in : Facts → TypedMethod → ℕ → Option TypeState → Bool
has_parameter_in facts x class None = false
has_parameter_in facts x class (Some s) = list_any (is_parameter_in facts x class s.locals) (range_with_len 0 x.code.max_locals)
