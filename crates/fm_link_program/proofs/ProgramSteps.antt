-- The tables of class files are those of their program.
use Rattle.std.proofs.Common.{◌≡◌, refl, sym, ◌∙◌, ap, ℕ, List, length, map, Some}
use Rattle.fm_code.specs.declared.class_file.ClassDef.{ClassDef}
use Rattle.fm_link_records.proofs.CodeLaws.{AreCodes-all}
use Rattle.fm_link_records.proofs.ProgramMade.{program-made}
use Rattle.fm_link_records.proofs.TablesMade.{AreTables-made}
use Rattle.fm_link_records.specs.inner.Made.{AreMade}
use Rattle.fm_link_program.specs.declared.program_tables.ProgramTables.{ProgramTables}
use Rattle.fm_link_program.specs.inner.Assembled.{parts_from, IsTables}
use Rattle.fm_world.specs.Chains.{given_number}
use Rattle.fm_world.specs.Members.{fields_of, slot_of}
use Rattle.fm_world.specs.Programs.{classes_of, codes_of, main_of, program_of, uses_of}
use Rattle.fm_world.specs.inner.Tables.{numbers_below, outline_in, program_in, AreTables}

slots_in : List ClassDef → List ℕ
slots_in given = map (slot_of (classes_of given)) (numbers_below (length (fields_of (classes_of given))))

all-made : (given : List ClassDef) (main : ℕ × ℕ) (t : ProgramTables) (is : IsTables given main t)
    → AreMade (parts_from (classes_of given) t) is.told.method_kinds is.told.field_kinds (codes_of given) (slots_in given) is.told.firsts
unfolding slots_in
all-made given main t is = record {
  few = is.few;
  classes = is.classes;
  methods = is.told.methods;
  declared = is.told.declared;
  codes_are = AreCodes-all given;
  fields = is.told.fields;
  kinds = is.told.kinds;
  places = refl;
  held = is.told.held;
  statics = is.told.statics;
  answers = is.answers;
  calls = is.calls;
  known = refl;
}

-- the tables are those that a program asks for
pub are_tables : (given : List ClassDef) (main : ℕ × ℕ) (t : ProgramTables) → IsTables given main t → AreTables (parts_from (classes_of given) t)
are_tables given main t is =
    AreTables-made (parts_from (classes_of given) t) is.told.method_kinds is.told.field_kinds (codes_of given) (slots_in given) is.told.firsts
    (all-made given main t is)

-- what indices are resolved to asks for no main class
uses-named : (given : List ClassDef) (main : ℕ × ℕ) (t : ProgramTables) → IsTables given main t
    → t.named.uses.items ≡ uses_of (outline_in (parts_from (classes_of given) t)) given
unfolding uses_of
uses-named given main t is = is.named.uses

-- and their program is that of the class files
pub is_program : (given : List ClassDef) (name : List ℕ) (main : ℕ × ℕ) (t : ProgramTables) → IsTables given main t
    → given_number (classes_of given) name ≡ Some main.0 → main_of (classes_of given) main.0 ≡ Some main.1
    → program_in (parts_from (classes_of given) t) ≡ program_of given name
is_program given name main t is class_is method_is =
    program-made given name (parts_from (classes_of given) t) is.told.method_kinds is.told.field_kinds (slots_in given) is.told.firsts
    (all-made given main t is)
    (record {
      declared = refl;
      types = is.named.types;
      texts = is.named.texts;
      main_class = class_is ∙ ap (λ (m : ℕ × ℕ). Some m.0) (sym is.main_is);
      main_method = ap (λ (m : ℕ × ℕ). main_of (classes_of given) m.0) is.main_is ∙ method_is ∙ ap (λ (m : ℕ × ℕ). Some m.1) (sym is.main_is);
      uses = uses-named given main t is;
      made = refl;
    })
