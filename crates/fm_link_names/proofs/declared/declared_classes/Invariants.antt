use Rattle.std.proofs.Common.{◌≡◌, ◌++◌, List, map, take}
use Rattle.fm_code.specs.declared.class_file.ClassDef.{ClassDef}
use Rattle.fm_link_names.specs.inner.Declaring.{declared_file}
use Rattle.fm_link_names.specs.inner.Files.{AreFiles}
use Rattle.fm_world.specs.BuiltIns.{built_in}
use Rattle.fm_link_names.proofs.declared.declared_classes.Given as goal

abbrev pub invariant-loop-file : goal.invariant-loop-file
invariant-loop-file l =
    (given : List ClassDef) → AreFiles l.shared given l.files → l.classes.items ≡ built_in ++ map declared_file (take l.file-index l.files)
