-- What is read of the parts of a class file: fields and methods that meet their rules.
use Rattle.std.specs.Prelude.{◌≡◌, Bool, List, map}
use Rattle.std.specs.List.{AllByRecursion}
use Rattle.fm_code.specs.Fits.{MemberFits}
use Rattle.fm_code.specs.Members.{AreDistinct, FieldIsValid, MethodIsValid}
use Rattle.fm_code.specs.declared.constant_pool.Entry.{Entry}
use Rattle.fm_code.specs.declared.class_file.Member.{Member}
use Rattle.fm_read.specs.inner.Parts.{RawMember, raw_of_member}

-- fields of these parts, each of which meets its rules, and no two of which agree
pub record AreFieldsOf (in_interface : Bool) (entries : List Entry) (raws : List RawMember) (members : List Member) : Type 0 where
  pub parts : map raw_of_member members ≡ raws
  pub fits : AllByRecursion MemberFits members
  pub valid : AllByRecursion (FieldIsValid in_interface entries) members
  pub distinct : AreDistinct entries members

-- methods of these parts
pub record AreMethodsOf (in_interface : Bool) (entries : List Entry) (raws : List RawMember) (members : List Member) : Type 0 where
  pub parts : map raw_of_member members ≡ raws
  pub fits : AllByRecursion MemberFits members
  pub valid : AllByRecursion (MethodIsValid in_interface entries) members
  pub distinct : AreDistinct entries members
