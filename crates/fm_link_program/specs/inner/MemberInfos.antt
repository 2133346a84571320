-- What is recorded about methods and fields, by lists of what it is made of.
use Rattle.std.specs.Prelude.{◌≡◌, List, length, map, Option}
use Rattle.fm_code.specs.declared.class_file.ClassDef.{ClassDef}
use Rattle.fm_link_names.specs.declared.descriptors.Kinds.{Kinds}
use Rattle.fm_link_records.specs.inner.Assembled.{AreFieldKinds, AreFirsts, AreMethodKinds}
use Rattle.fm_link_records.specs.inner.Fields.{fields_told}
use Rattle.fm_link_records.specs.inner.Methods.{methods_told}
use Rattle.fm_link_program.specs.declared.member_infos.MemberInfos.{MemberInfos}
use Rattle.fm_world.specs.Members.{fields_of, methods_of, slot_of, statics_of}
use Rattle.fm_world.specs.Programs.{Outline, classes_of, codes_of}
use Rattle.fm_world.specs.declared.uses.Use.{Use}
use Rattle.fm_world.specs.inner.Tables.{numbers_below}

-- all records are made from the kinds that descriptors declare, by codes, by places and by what fields hold first
pub record AreMemberInfos (o : Outline) (given : List ClassDef) (t : MemberInfos) : Type 0 where
  pub method_kinds : List (Option Kinds)
  pub field_kinds : List (Option Kinds)
  pub firsts : List Use
  pub methods : t.methods.items ≡ methods_told method_kinds (codes_of given) 0 (methods_of (classes_of given))
  pub declared : AreMethodKinds (classes_of given) method_kinds
  pub fields : t.fields.infos.items
      ≡ fields_told field_kinds (map (slot_of (classes_of given)) (numbers_below (length (fields_of (classes_of given))))) firsts 0
      (fields_of (classes_of given))
  pub kinds : AreFieldKinds (classes_of given) field_kinds
  pub held : AreFirsts o firsts
  pub statics : t.fields.statics ≡ statics_of (classes_of given)
