-- The parts of a program, by its declared classes and the tables of these.
use Rattle.std.specs.Prelude.{◌≡◌, ℕ, ◌^◌, ◌<◌, List, length, map, None}
use Rattle.fm_code.specs.declared.class_file.ClassDef.{ClassDef}
use Rattle.fm_link_records.specs.inner.Classes.{bare_outline}
use Rattle.fm_link_program.specs.declared.program_tables.ProgramTables.{ProgramTables}
use Rattle.fm_link_program.specs.inner.Named.{outline_named, IsNamed}
use Rattle.fm_link_program.specs.declared.named.Named.{Named}
use Rattle.fm_link_program.specs.declared.member_infos.MemberInfos.{MemberInfos}
use Rattle.fm_link_program.specs.inner.MemberInfos.{AreMemberInfos}
use Rattle.fm_world.specs.Programs.{class_info, classes_of}
use Rattle.fm_world.specs.declared.declarations.DeclaredClass.{DeclaredClass}
use Rattle.fm_world.specs.declared.parts.Parts.{Parts}
use Rattle.fm_world.specs.inner.Tables.{numbers_below, AnswerForCalls, AnswerForClasses, AreFew}

-- the parts with nothing known yet of which classes are made
abbrev pub parts_from : List DeclaredClass → ProgramTables → Parts
parts_from declared t = record {
  declared = declared;
  classes = t.classes.items;
  methods = t.told.methods.items;
  fields = t.told.fields.infos.items;
  types = t.named.types.types;
  texts = t.named.literals.units.items;
  uses = t.named.uses.items;
  main = record { 0 = t.main.1 };
  main_class = record { 0 = t.main.0 };
  object = record { 0 = t.answers.object };
  statics = t.told.fields.statics;
  made = None;
  displays = t.answers.displays.items;
  interfaces = t.answers.interfaces.items;
  signatures = t.answers.signatures.items;
  selected = t.answers.selected;
  tops = t.answers.tops.items;
  own = t.answers.own.items;
  known = None;
}

-- numbers of 32 bits number all classes, texts, methods and fields
pub record AreCounted (classes : List DeclaredClass) (n : Named) (t : MemberInfos) : Type 0 where
  pub declared : length classes < 2 ^ 32
  pub methods : length t.methods.items < 2 ^ 32
  pub fields : length t.fields.infos.items < 2 ^ 32
  pub texts : length n.literals.units.items < 2 ^ 32

-- the tables are those of the files' classes, with this main class and this main method
pub record IsTables (given : List ClassDef) (main : ℕ × ℕ) (t : ProgramTables) : Type 0 where
  pub few : AreFew (parts_from (classes_of given) t)
  pub classes : t.classes.items ≡ map (class_info (bare_outline (classes_of given))) (numbers_below (length (classes_of given)))
  pub named : IsNamed given t.named
  pub told : AreMemberInfos (outline_named given t.named) given t.told
  pub answers : AnswerForClasses (parts_from (classes_of given) t)
  pub calls : AnswerForCalls (parts_from (classes_of given) t)
  pub main_is : t.main ≡ main
