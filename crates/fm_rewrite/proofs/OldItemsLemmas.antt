-- The codes of a program of class files are made of bytes, and so are what is laid out again.
use Rattle.std.proofs.Common.{◌≡◌, List, [], ◌∷◌, refl, map, Option, Some, None, IfSome, arith}
use Rattle.std.specs.List.{AllByRecursion, flat_map}
use Rattle.fm_summ_shapes.proofs.ShapesLemmas.{code_facts}
use Rattle.fm_base.proofs.ListFacts.{AllByRecursion-append}
use Rattle.fm_code.specs.ClassBytes.{item_bytes}
use Rattle.fm_code.specs.Edges.{HasNoLeftOut, MeetsCodeRules}
use Rattle.fm_code.specs.Fits.{AreBytes, IsByte, MemberFits}
use Rattle.fm_code.specs.Members.{code_of}
use Rattle.fm_code.specs.Spells.{HasSpelling}
use Rattle.fm_code.specs.declared.class_file.ClassDef.{ClassDef}
use Rattle.fm_code.specs.declared.class_file.Member.{Member}
use Rattle.fm_code.specs.declared.code_array.Code.{Code}
use Rattle.fm_code.specs.declared.code_array.Item.{Item}
use Rattle.fm_layout.specs.Conditions.{AreOldItems}
use Rattle.fm_read_limits.proofs.LimitLemmas.{code_fits}
use Rattle.fm_rewrite.specs.Plans.{ProgramsHaveOldItems}
use Rattle.fm_check_program.proofs.LinkedPrograms.{all_codes, code_there, AreAll}
use Rattle.fm_world.specs.Programs.{codes_of, program_of}

-- the items of the code have bytes
abbrev HasBytes : Code → Type 0
HasBytes code = AllByRecursion (λ (item : Item). AreBytes item.bytes) code.items

bytes_of : (items : List Item) → AllByRecursion (λ (item : Item). AreBytes item.bytes) items → AreBytes (flat_map item_bytes items)
bytes_of [] all = tt
bytes_of (item ∷ items) all = AllByRecursion-append IsByte item.bytes (flat_map item_bytes items) all.0 (bytes_of items all.1)

old_items : (code : Code) → MeetsCodeRules code → HasNoLeftOut code → HasBytes code → AreOldItems code.items
old_items code rules supported bytes = record {
  code = flat_map item_bytes code.items;
  spelled = rules.1.spelled;
  bytes = bytes_of code.items bytes;
  not_long = let size = rules.1.measured in let short = rules.1.not_long in omega (arith, size, short);
  supported = supported;
}

byte_members : (members : List Member) → AllByRecursion MemberFits members → AreAll HasBytes (map code_of members)
byte_members [] all = tt
byte_members (m ∷ members) all = (of_code (code_of m) refl, byte_members members all.1) where
  of_code : (o : Option Code) → o ≡ code_of m → IfSome o HasBytes
  of_code None is = tt
  of_code (Some code) is = (code_fits m code all.0 is).items

byte_files : (given : List ClassDef) → AllByRecursion HasSpelling given → AllByRecursion (λ (c : ClassDef). AreAll HasBytes (map code_of c.methods)) given
byte_files [] all = tt
byte_files (c ∷ given) all = (byte_members c.methods all.0.1.fits.methods.each, byte_files given all.1)

pub have_old_items : ProgramsHaveOldItems
unfolding program_of
have_old_items given main spelled may method code is =
    old_items code (code_facts (program_of given main) method code may is).0.spelled (may.supported method code is)
    (code_there HasBytes (codes_of given) method code (all_codes HasBytes given (byte_files given spelled)) is).1
