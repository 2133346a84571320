-- What indices are resolved by, and to.
use Rattle.std.specs.Prelude.{◌≡◌, ◌<◌, ◌^◌, ℕ, Bool, List, length, map, Option, None, option_and_then, if◌then◌else◌}
use Rattle.fm_code.specs.ConstantPool.{MemberName}
use Rattle.fm_code.specs.declared.class_file.ClassDef.{ClassDef}
use Rattle.fm_code.specs.declared.constant_pool.Entry.{Entry}
use Rattle.fm_code.specs.declared.constant_pool.Entry.TheVariants as entry
use Rattle.fm_link_names.specs.inner.DescriptorTypes.{type_of_name}
use Rattle.fm_link_names.specs.inner.Numbering.{texts_in}
use Rattle.fm_link_records.specs.inner.TextNumbers as text_numbers
use Rattle.fm_link_refusals.specs.declared.linking.Linking.{Linking}
use Rattle.fm_link_refusals.specs.inner.Linking.{IsLinking}
use Rattle.fm_link_program.specs.declared.uses.Resolving.{Resolving}
use Rattle.fm_world.specs.Lookups.{resolved_field, resolved_method}
use Rattle.fm_world.specs.Programs.{Outline, resolved_at}
use Rattle.fm_world.specs.declared.declarations.DeclaredClass.{DeclaredClass}
use Rattle.fm_world.specs.declared.uses.Use.{Use}
use Rattle.fm_world.specs.declared.uses.Use.TheVariants as resolved

-- the classes that fields and methods are looked up in
abbrev pub classes_by : Linking → List DeclaredClass
classes_by l = l.hierarchy.now.classes.now

-- the classes, types and texts that indices are resolved by
abbrev pub outline_by : Resolving → Outline
outline_by r = record {
  classes = classes_by r.linking;
  types = r.types.now.types.keys;
  texts = r.literals.now.units.items;
  main_class = 0;
  main = 0;
}

-- the tables are those of the classes, of the types and of the texts
pub record IsResolving (r : Resolving) : Type 0 where
  pub linked : IsLinking (classes_by r.linking) r.linking
  pub by_text : r.by_text.now ≡ map (type_of_name (classes_by r.linking)) (texts_in r.linking.texts.now)
  pub few : length r.types.now.types.keys < 2 ^ 32
  pub texts : text_numbers.AreNumbered (texts_in r.linking.texts.now) r.literals.now.units.items r.literals.now.by_text.items

-- the field or the method of that name that an entry is resolved to
abbrev pub member_found : List DeclaredClass → Option MemberName → Entry → Option ℕ
member_found classes name (entry.Field class member) = option_and_then (resolved_field classes) name
member_found classes name (entry.Method class member) = option_and_then (resolved_method classes) name
member_found classes name (entry.InterfaceMethod class member) = option_and_then (resolved_method classes) name
member_found classes name e = None

-- what an index is resolved to, if it is used
abbrev pub use_if : Outline → ClassDef → Bool → ℕ → Use
use_if o c used index = if used then resolved_at o c.pool.entries index else resolved.Unused
