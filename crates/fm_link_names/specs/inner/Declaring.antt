-- The texts of files, by which classes declare themselves.
use Rattle.std.specs.Prelude.{ℕ, List, [], Option, option_map, unwrap_or}
use Rattle.fm_code.specs.ConstantPool.{utf8_at}
use Rattle.fm_link_names.specs.declared.given.GivenFile.{GivenFile}
use Rattle.fm_link_names.specs.inner.Files.{text_in}
use Rattle.fm_link_names.specs.inner.Numbering.{text_of, IsNumberOf}
use Rattle.fm_world.specs.Declarations.{declared_of}
use Rattle.fm_world.specs.declared.declarations.DeclaredClass.{DeclaredClass}

-- the text of a number, the empty one where there is none
abbrev pub text_numbered : List (List ℕ) → Option ℕ → List ℕ
text_numbered texts number = unwrap_or (option_map (text_of texts) number) []

-- each text of a file's pool is in the list under its number
abbrev pub HasTexts : List (List ℕ) → GivenFile → Type 0
HasTexts texts file = (index : ℕ) → IsNumberOf texts (utf8_at file.class.now.pool.entries index) (text_in file index)

-- what the class of a file declares
abbrev pub declared_file : GivenFile → DeclaredClass
declared_file file = declared_of file.number file.class.now
