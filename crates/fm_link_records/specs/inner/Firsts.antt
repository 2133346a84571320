-- What fields hold first, by what the indices of their files are resolved to.
use Rattle.std.specs.Prelude.{ℕ, ◌+◌, List, [], ◌∷◌, ◌++◌, map, if◌then◌else◌}
use Rattle.std.specs.List.{slice_index_or}
use Rattle.fm_code.specs.AccessFlags.{is_static}
use Rattle.fm_code.specs.declared.class_file.Member.{Member}
use Rattle.fm_code.specs.declared.class_file.MemberAttr.{MemberAttr}
use Rattle.fm_code.specs.declared.class_file.MemberAttr.TheVariants as attribute
use Rattle.fm_link_names.specs.declared.given.GivenFile.{GivenFile}
use Rattle.fm_world.specs.declared.uses.Use.{Use}
use Rattle.fm_world.specs.declared.uses.Use.TheVariants as resolved

-- what the first value among attributes is resolved to
abbrev pub first_by : List Use → List MemberAttr → Use
first_by uses [] = resolved.Unused
first_by uses (attribute.Constant name value ∷ attributes) = slice_index_or uses value resolved.Unused
first_by uses (a ∷ attributes) = first_by uses attributes

-- of a static field what its first value is resolved to
abbrev pub first_use : List Use → Member → Use
first_use uses m = if is_static m.flags then first_by uses m.attributes else resolved.Unused

-- the same of all fields of files, which are numbered from this one on
abbrev pub firsts_told : List (List Use) → ℕ → List GivenFile → List Use
firsts_told uses file [] = []
firsts_told uses file (f ∷ files) = map (first_use (slice_index_or uses file [])) f.class.now.fields ++ firsts_told uses (file + 1) files
