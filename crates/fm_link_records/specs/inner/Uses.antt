-- What an entry is resolved to, by numbers.
use Rattle.std.specs.Prelude.{ℕ, Option}
use Rattle.fm_code.specs.declared.constant_pool.Entry.{Entry}
use Rattle.fm_code.specs.declared.constant_pool.Entry.TheVariants as entry
use Rattle.fm_world.specs.Programs.{field_use, method_use, with_number}
use Rattle.fm_world.specs.declared.uses.Use.{Use}
use Rattle.fm_world.specs.declared.uses.Use.TheVariants as resolved

-- the entry with the number of the type that it names, that of the field or the method that is found, and that of its text
abbrev pub use_by : Entry → Option ℕ → Option ℕ → Option ℕ → Use
use_by (entry.Integer value) named found text = resolved.OfInt value
use_by (entry.Long value) named found text = resolved.OfLong value
use_by (entry.Text t) named found text = with_number resolved.OfText text
use_by (entry.Class name) named found text = with_number (λ type. resolved.OfType (record { 0 = type })) named
use_by (entry.Field class member) named found text = with_number (λ type. with_number (field_use type) found) named
use_by (entry.Method class member) named found text = with_number (λ type. with_number (method_use type) found) named
use_by (entry.InterfaceMethod class member) named found text = with_number (λ type. with_number (method_use type) found) named
use_by e named found text = resolved.Unused
