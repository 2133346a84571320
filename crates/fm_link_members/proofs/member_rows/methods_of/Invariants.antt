use Rattle.std.proofs.Common.{◌++◌, List, map, take}
use Rattle.fm_code.specs.declared.class_file.ClassDef.{ClassDef}
use Rattle.fm_link_names.specs.inner.Declaring.{declared_file}
use Rattle.fm_link_names.specs.inner.Files.{AreFiles}
use Rattle.fm_link_names.specs.inner.Numbering.{texts_in}
use Rattle.fm_world.specs.BuiltIns.{built_in}
use Rattle.fm_world.specs.inner.BuiltInTable.{class_of_row}
use Rattle.fm_link_members.proofs.RowSteps.{IsSoFar}
use Rattle.fm_link_members.proofs.SectionLemmas.{method_of_class, methods_in}
use Rattle.fm_link_members.specs.inner.MemberSteps.{Grows}
use Rattle.fm_link_members.proofs.member_rows.methods_of.Given as goal

abbrev pub invariant-loop-class : goal.invariant-loop-class
invariant-loop-class l = record {
  grows : Grows l.fn.texts l.texts;
  so_far : IsSoFar methods_in method_of_class (texts_in l.texts) (map class_of_row (take l.class-index l.class-items)) l.methods.rows.items
      l.methods.first.items;
}

abbrev pub invariant-loop-file : goal.invariant-loop-file
invariant-loop-file l = record {
  grows : Grows l.fn.texts l.texts;
  so_far : (given : List ClassDef) → AreFiles (texts_in l.fn.texts) given l.files
      → IsSoFar methods_in method_of_class (texts_in l.texts) (built_in ++ map declared_file (take l.file-index l.files)) l.methods.rows.items
      l.methods.first.items;
}
