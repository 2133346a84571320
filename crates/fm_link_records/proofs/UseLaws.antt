-- What an entry is resolved to by numbers is what it is resolved to in a program.
use Rattle.std.proofs.Common.{◌≡◌, refl, sym, ◌∙◌, ℕ, List, Option, None}
use Rattle.std.specs.Option.{option_and_then}
use Rattle.fm_code.specs.ConstantPool.{entry_at}
use Rattle.fm_code.specs.declared.constant_pool.Entry.{Entry}
use Rattle.fm_code.specs.declared.constant_pool.Entry.TheVariants as entry
use Rattle.fm_world.specs.Lookups.{resolved_field, resolved_method}
use Rattle.fm_world.specs.Numbers.{text_number, text_units}
use Rattle.fm_world.specs.Programs.{Outline, field_use, method_use, resolved_at, type_number_at, with_number}
use Rattle.fm_world.specs.Uses.{named_member}
use Rattle.fm_world.specs.declared.uses.Use.{Use}
use Rattle.fm_world.specs.declared.uses.Use.TheVariants as resolved
use Rattle.fm_link_records.specs.inner.Uses.{use_by}

-- the field or the method that an entry is resolved to
abbrev pub found_by : Outline → List Entry → ℕ → Entry → Option ℕ
found_by o entries index (entry.Field class member) = option_and_then (resolved_field o.classes) (named_member entries index)
found_by o entries index (entry.Method class member) = option_and_then (resolved_method o.classes) (named_member entries index)
found_by o entries index (entry.InterfaceMethod class member) = option_and_then (resolved_method o.classes) (named_member entries index)
found_by o entries index e = None

-- what an entry is resolved to at an index
abbrev pub resolved_by : Outline → List Entry → ℕ → Entry → Use
resolved_by o entries index (entry.Integer value) = resolved.OfInt value
resolved_by o entries index (entry.Long value) = resolved.OfLong value
resolved_by o entries index (entry.Text text) = with_number resolved.OfText (option_and_then (text_number o.texts) (text_units entries index))
resolved_by o entries index (entry.Class name) = with_number (λ type. resolved.OfType (record { 0 = type })) (type_number_at o entries index)
resolved_by o entries index (entry.Field class member) =
    with_number (λ type. with_number (field_use type) (option_and_then (resolved_field o.classes) (named_member entries index)))
    (type_number_at o entries index)
resolved_by o entries index (entry.Method class member) =
    with_number (λ type. with_number (method_use type) (option_and_then (resolved_method o.classes) (named_member entries index)))
    (type_number_at o entries index)
resolved_by o entries index (entry.InterfaceMethod class member) =
    with_number (λ type. with_number (method_use type) (option_and_then (resolved_method o.classes) (named_member entries index)))
    (type_number_at o entries index)
resolved_by o entries index e = resolved.Unused

pub resolved_at-by : (o : Outline) (entries : List Entry) (index : ℕ) → resolved_at o entries index
    ≡ resolved_by o entries index (entry_at entries index)
resolved_at-by o entries index = refl

resolved_entry : (o : Outline) (entries : List Entry) (index : ℕ) (e : Entry)
    → use_by e (type_number_at o entries index) (found_by o entries index e) (option_and_then (text_number o.texts) (text_units entries index))
    ≡ resolved_by o entries index e
resolved_entry o entries index (entry.Integer value) = refl
resolved_entry o entries index (entry.Long value) = refl
resolved_entry o entries index (entry.Text text) = refl
resolved_entry o entries index (entry.Class name) = refl
resolved_entry o entries index (entry.Field class member) = refl
resolved_entry o entries index (entry.Method class member) = refl
resolved_entry o entries index (entry.InterfaceMethod class member) = refl
resolved_entry o entries index e = refl

-- what an index is resolved to, by the numbers of what it names
pub resolved_at-is : (o : Outline) (entries : List Entry) (index : ℕ)
    → use_by (entry_at entries index) (type_number_at o entries index) (found_by o entries index (entry_at entries index))
    (option_and_then (text_number o.texts) (text_units entries index))
    ≡ resolved_at o entries index
resolved_at-is o entries index = resolved_entry o entries index (entry_at entries index) ∙ sym (resolved_at-by o entries index)
