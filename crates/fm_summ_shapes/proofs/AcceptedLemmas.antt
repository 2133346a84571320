-- The program of accepted class files that link may be analysed, if its methods are typed.
use Rattle.std.proofs.Common.{◌≡◌, ℕ, Bool, false, List, [], ◌∷◌, map, Option, Some, None, IfSome}
use Rattle.std.specs.List.{AllByRecursion}
use Rattle.fm_summ_shapes.specs.Analysed.{AcceptedAreAnalysable, IsAccepted}
use Rattle.fm_base.proofs.ListFacts.{AllByRecursion-weaker}
use Rattle.fm_code.specs.AccessFlags.{is_interface}
use Rattle.fm_code.specs.Edges.{HasNoLeftOut}
use Rattle.fm_code.specs.Members.{code_of}
use Rattle.fm_code.specs.Profile.{is_left_out, IsSupported, IsWithinLimits, ItemIsSupported, MethodIsSupported}
use Rattle.fm_code.specs.Spells.{HasSpelling}
use Rattle.fm_code.specs.declared.class_file.ClassDef.{ClassDef}
use Rattle.fm_code.specs.declared.class_file.Member.{Member}
use Rattle.fm_code.specs.declared.code_array.Code.{Code}
use Rattle.fm_code.specs.declared.code_array.Item.{Item}
use Rattle.fm_code.specs.declared.constant_pool.Entry.{Entry}
use Rattle.fm_summ.proofs.ProgramLemmas.{have_bare_built_ins, have_uses_in}
use Rattle.fm_check_program.proofs.LinkedPrograms.{all_codes, are_checkable, code_there, AreAll}
use Rattle.fm_check_program.specs.Untyped.{AreCheckable}
use Rattle.fm_world.specs.Linking.{refusals}
use Rattle.fm_world.specs.Programs.{codes_of, program_of}

none_left_out : (entries : List Entry) (items : List Item) → AllByRecursion (ItemIsSupported entries) items
    → AllByRecursion (λ (item : Item). is_left_out item.insn ≡ false) items
none_left_out entries [] all = tt
none_left_out entries (item ∷ items) all = (all.0.not_left_out, none_left_out entries items all.1)

supported_members : (in_interface : Bool) (entries : List Entry) (members : List Member) → AllByRecursion (MethodIsSupported in_interface entries) members
    → AreAll HasNoLeftOut (map code_of members)
supported_members in_interface entries [] all = tt
supported_members in_interface entries (m ∷ members) all = (supported (code_of m) all.0.items, supported_members in_interface entries members all.1) where
  supported : (o : Option Code) → IfSome o (λ code. AllByRecursion (ItemIsSupported entries) code.items) → IfSome o HasNoLeftOut
  supported None items = tt
  supported (Some code) items = none_left_out entries code.items items

supported_files : (given : List ClassDef) → AllByRecursion IsSupported given
    → AllByRecursion (λ (c : ClassDef). AreAll HasNoLeftOut (map code_of c.methods)) given
supported_files [] all = tt
supported_files (c ∷ given) all = (supported_members (is_interface c.flags) c.pool.entries c.methods all.0.methods, supported_files given all.1)

-- accepted class files that link may be checked
pub accepted_checkable : (given : List ClassDef) (main : List ℕ) → AllByRecursion IsAccepted given → refusals given main ≡ []
    → AreCheckable (program_of given main)
accepted_checkable given main accepted none =
    are_checkable given main (AllByRecursion-weaker IsAccepted HasSpelling (λ c is. is.spelled) given accepted)
    (AllByRecursion-weaker IsAccepted IsWithinLimits (λ c is. is.within) given accepted) none

pub accepted_are : AcceptedAreAnalysable
unfolding program_of
accepted_are given main accepted none typed = record {
  checkable = accepted_checkable given main accepted none;
  typed = typed;
  supported = λ method code is.
      (code_there HasNoLeftOut (codes_of given) method code (all_codes HasNoLeftOut given
      (supported_files given (AllByRecursion-weaker IsAccepted IsSupported (λ c ok. ok.supported) given accepted))) is).1;
  uses = have_uses_in given main;
  built_ins = have_bare_built_ins given main;
}
