-- What instructions make has a number, and the fields that they put are those of the objects (JVMS 6.5.newarray, 6.5.anewarray, 6.5.putfield).
use Rattle.std.proofs.Common.{◌≡◌, refl, subst, ℕ, false, true, List, [], Some, slice_get}
use Rattle.std.specs.List.{AllByRecursion}
use Rattle.fm_base.specs.declared.ids.FieldId.{FieldId}
use Rattle.fm_base.specs.declared.ids.TypeId.{TypeId}
use Rattle.fm_base.specs.declared.kinds.TypeRef.{TypeRef}
use Rattle.fm_code.specs.Spells.{HasSpelling}
use Rattle.fm_code.specs.declared.class_file.ClassDef.{ClassDef}
use Rattle.fm_code.specs.declared.instructions.Insn.{Insn}
use Rattle.fm_code.specs.declared.instructions.Insn.TheVariants as insn
use Rattle.fm_law_linked.proofs.Fields.{access_there}
use Rattle.fm_law_linked.proofs.MadeTypes.{numbers_made, references_made}
use Rattle.fm_law_linked.proofs.NamedFields.{holder}
use Rattle.fm_check_rows.proofs.UseLemmas.{uses_name_members}
use Rattle.fm_check_rows.specs.Members.{NamesMember}
use Rattle.fm_law_sound.specs.Making.{IsFieldOf, NamesMade}
use Rattle.fm_law_sound.specs.Resolved.{IsNamed}
use Rattle.fm_types.specs.Fits.{AreTree, fits_type}
use Rattle.fm_types.specs.Named.{class_of_method}
use Rattle.fm_world.specs.Linking.{refused_built_ins, refused_fields, refused_parents}
use Rattle.fm_world.specs.Programs.{classes_of, outline_of, program_of}
use Rattle.fm_world.specs.declared.uses.Use.{Use}
use Rattle.fm_world.specs.declared.uses.Use.TheVariants as resolved

-- the field that putfield puts
put_there : (given : List ClassDef) (main : List ℕ) → AllByRecursion HasSpelling given → refused_built_ins given ≡ [] → refused_parents given ≡ [] → refused_fields given ≡ []
    → AreTree (classes_of given)
    → (method index : ℕ) (f : FieldId) (t : TypeId) → IsNamed (program_of given main) method (insn.PutField index) (resolved.OfField f t)
    → (named of : TypeRef) → slice_get (outline_of given main).types t.0 ≡ Some named → fits_type (outline_of given main).classes of named ≡ true
    → IsFieldOf (outline_of given main) f.0 of
unfolding program_of outline_of
put_there given main spelled apart no_bad no_field tree method index f t x named of at fits =
    let o = outline_of given main in
    let access = access_there given main no_field method x.item x.code (insn.PutField index) index f t false x.code_is x.insn_is refl x.use_is refl in
    let its = holder given main spelled apart no_bad tree index f t named of access at fits in
    record {
      there = subst (NamesMember o) x.use_is (uses_name_members given main (class_of_method o method) index);
      instance = access.static_is;
      class = its.class;
      inside = its.within;
      type_is = its.type_is;
      above = its.below;
    }

of_type : (given : List ClassDef) (main : List ℕ) (method : ℕ) (i : Insn) (t : TypeId) → IsNamed (program_of given main) method i (resolved.OfType t)
    → NamesMade (outline_of given main) (resolved.OfType t) i
of_type given main method (insn.NewArray e) t x = numbers_made given main method e (resolved.OfType t) x
of_type given main method (insn.NewRefs index) t x = references_made given main method index t x
of_type given main method i t x = tt

of_field : (given : List ClassDef) (main : List ℕ) → AllByRecursion HasSpelling given → refused_built_ins given ≡ [] → refused_parents given ≡ [] → refused_fields given ≡ []
    → AreTree (classes_of given)
    → (method : ℕ) (i : Insn) (f : FieldId) (t : TypeId) → IsNamed (program_of given main) method i (resolved.OfField f t)
    → NamesMade (outline_of given main) (resolved.OfField f t) i
of_field given main spelled apart no_bad no_field tree method (insn.NewArray e) f t x = numbers_made given main method e (resolved.OfField f t) x
of_field given main spelled apart no_bad no_field tree method (insn.PutField index) f t x =
    put_there given main spelled apart no_bad no_field tree method index f t x
of_field given main spelled apart no_bad no_field tree method i f t x = tt

-- what an instruction makes has a number, and what it puts is a field of the object
pub made_there : (given : List ClassDef) (main : List ℕ) → AllByRecursion HasSpelling given → refused_built_ins given ≡ [] → refused_parents given ≡ [] → refused_fields given ≡ []
    → AreTree (classes_of given)
    → (method : ℕ) (i : Insn) (u : Use) → IsNamed (program_of given main) method i u
    → NamesMade (outline_of given main) u i
made_there given main spelled apart no_bad no_field tree method i (resolved.OfType t) x = of_type given main method i t x
made_there given main spelled apart no_bad no_field tree method i (resolved.OfField f t) x =
    of_field given main spelled apart no_bad no_field tree method i f t x
made_there given main spelled apart no_bad no_field tree method (insn.NewArray e) u x = numbers_made given main method e u x
made_there given main spelled apart no_bad no_field tree method i u x = tt
