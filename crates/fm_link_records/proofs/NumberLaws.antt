-- The types and the texts that are numbered are those of a program.
use Rattle.std.proofs.Common.{◌≡◌, ◌∙◌, ap, ℕ, List, length, map, ◌++◌, Option, option_to_list}
use Rattle.std.specs.List.{AllByRecursion, flat_map}
use Rattle.std.specs.Str.{bytes_eq}
use Rattle.fm_base.specs.declared.kinds.TypeRef.{TypeRef}
use Rattle.fm_code.specs.Spells.{HasSpelling}
use Rattle.fm_code.specs.declared.class_file.ClassDef.{ClassDef}
use Rattle.fm_link_names.specs.declared.given.GivenFile.{GivenFile}
use Rattle.fm_link_names.specs.inner.DescriptorTypes.{type_of_name}
use Rattle.fm_link_names.specs.inner.Files.{AreFiles}
use Rattle.fm_world.specs.Chains.{distinct}
use Rattle.fm_world.specs.Numbers.{argument_array, texts_of, types_of, used_types}
use Rattle.fm_world.specs.declared.declarations.DeclaredClass.{DeclaredClass}
use Rattle.fm_link_records.specs.inner.Named.{texts_named, types_made, types_named}
use Rattle.fm_link_records.specs.inner.TextNumbers.{literals_by}
use Rattle.fm_link_records.specs.inner.TypeNumbers.{types_by}
use Rattle.fm_link_records.proofs.NamedLaws.{types-made, types-used}
use Rattle.fm_link_records.proofs.TextLaws.{texts-used}

pub types-all : (texts : List (List ℕ)) (classes : List DeclaredClass) (types : List (Option TypeRef)) (given : List ClassDef) (files : List
    GivenFile)
    → types ≡ map (type_of_name classes) texts → AllByRecursion HasSpelling given → AreFiles texts given files
    → types_by (length classes) (flat_map (types_named types) files) (option_to_list (argument_array classes) ++ flat_map (types_made types) files)
    ≡ types_of classes given
unfolding types_by types_of
types-all texts classes types given files are spelled is =
    ap (λ named. types_by (length classes) named (option_to_list (argument_array classes) ++ flat_map (types_made types) files))
    (types-used texts classes types given files are spelled is)
    ∙ ap (types_by (length classes) (used_types classes given)) (types-made texts classes types given files are spelled is)

pub literals-all : (texts : List (List ℕ)) (given : List ClassDef) (files : List GivenFile) → AllByRecursion HasSpelling given
    → AreFiles texts given files
    → literals_by texts (flat_map texts_named files) ≡ texts_of given
unfolding literals_by texts_of
literals-all texts given files spelled are = ap (distinct bytes_eq) (texts-used texts given files spelled are)
