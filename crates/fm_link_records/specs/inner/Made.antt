-- Parts of a program that are made of the tables of this crate.
use Rattle.std.specs.Prelude.{◌≡◌, ℕ, List, length, map, Option, Some, None}
use Rattle.fm_code.specs.declared.class_file.ClassDef.{ClassDef}
use Rattle.fm_code.specs.declared.code_array.Code.{Code}
use Rattle.fm_link_names.specs.declared.descriptors.Kinds.{Kinds}
use Rattle.fm_world.specs.Chains.{given_number}
use Rattle.fm_world.specs.Members.{fields_of, methods_of, slot_of, statics_of}
use Rattle.fm_world.specs.Numbers.{texts_of, types_of}
use Rattle.fm_world.specs.Programs.{class_info, classes_of, main_of, uses_of}
use Rattle.fm_world.specs.declared.parts.Parts.{Parts}
use Rattle.fm_world.specs.declared.uses.Use.{Use}
use Rattle.fm_world.specs.inner.Tables.{numbers_below, outline_in, AnswerForCalls, AnswerForClasses, AreFew}
use Rattle.fm_link_records.specs.inner.Assembled.{AreCodes, AreFieldKinds, AreFirsts, AreMethodKinds}
use Rattle.fm_link_records.specs.inner.Classes.{bare_outline}
use Rattle.fm_link_records.specs.inner.Fields.{fields_told}
use Rattle.fm_link_records.specs.inner.Methods.{methods_told}

-- the methods' and the fields' kinds, the codes, the places of fields and what they hold first are those that the parts are made of
pub record AreMade (x : Parts) (method_kinds field_kinds : List (Option Kinds)) (codes : List (Option Code)) (slots : List ℕ) (firsts : List Use) :
    Type 0 where
  pub few : AreFew x
  pub classes : x.classes ≡ map (class_info (bare_outline x.declared)) (numbers_below (length x.declared))
  pub methods : x.methods ≡ methods_told method_kinds codes 0 (methods_of x.declared)
  pub declared : AreMethodKinds x.declared method_kinds
  pub codes_are : AreCodes x.declared codes
  pub fields : x.fields ≡ fields_told field_kinds slots firsts 0 (fields_of x.declared)
  pub kinds : AreFieldKinds x.declared field_kinds
  pub places : slots ≡ map (slot_of x.declared) (numbers_below (length (fields_of x.declared)))
  pub held : AreFirsts (outline_in x) firsts
  pub statics : x.statics ≡ statics_of x.declared
  pub answers : AnswerForClasses x
  pub calls : AnswerForCalls x
  pub known : x.known ≡ None

-- and the declared classes, types, texts, main and uses are those of the class files
pub record IsMadeOf (given : List ClassDef) (main : List ℕ) (x : Parts) : Type 0 where
  pub declared : x.declared ≡ classes_of given
  pub types : x.types.keys ≡ types_of (classes_of given) given
  pub texts : x.texts ≡ texts_of given
  pub main_class : given_number (classes_of given) main ≡ Some x.main_class.0
  pub main_method : main_of (classes_of given) x.main_class.0 ≡ Some x.main.0
  pub uses : x.uses ≡ uses_of (outline_in x) given
  pub made : x.made ≡ None
