-- What instructions name, as the clauses of linking ask of it.
use Rattle.std.proofs.Common.{◌≡◌, refl, ℕ, Bool, false, List, [], Some, slice_get}
use Rattle.std.specs.List.{AllByRecursion}
use Rattle.std.proofs.lemmas.Option.{none-some}
use Rattle.fm_base.specs.declared.ids.MethodId.{MethodId}
use Rattle.fm_base.specs.declared.ids.TypeId.{TypeId}
use Rattle.fm_base.specs.declared.kinds.TypeRef.{TypeRef}
use Rattle.fm_code.specs.AccessFlags.{is_static}
use Rattle.fm_code.specs.Spells.{HasSpelling}
use Rattle.fm_code.specs.declared.class_file.ClassDef.{ClassDef}
use Rattle.fm_code.specs.declared.instructions.Insn.{Insn}
use Rattle.fm_code.specs.declared.instructions.Insn.TheVariants as insn
use Rattle.fm_law_linked.proofs.Calls.{call_there}
use Rattle.fm_law_linked.proofs.InterfaceCalls.{no_interface_named}
use Rattle.fm_law_sound.specs.Resolved.{IsNamed}
use Rattle.fm_types.specs.Named.{class_of_method}
use Rattle.fm_world.specs.Causes.{static_method_wanted}
use Rattle.fm_world.specs.Linking.{refused_methods}
use Rattle.fm_world.specs.Lookups.{is_interface_at}
use Rattle.fm_world.specs.Members.{method_at}
use Rattle.fm_world.specs.Programs.{class_of_type, outline_of, program_of}
use Rattle.fm_world.specs.declared.uses.Use.TheVariants as resolved

-- a call names a method that is static as the call wants
pub calls_agree : (given : List ClassDef) (main : List ℕ) → refused_methods given ≡ [] → (method : ℕ) (i : Insn) (m : MethodId) (t : TypeId) (wanted : Bool)
    → IsNamed (program_of given main) method i (resolved.OfMethod m t)
    → static_method_wanted i ≡ Some wanted
    → is_static (method_at (outline_of given main).classes m.0).method.flags ≡ wanted
calls_agree given main none method (insn.Virtual index) m t wanted x is =
    (call_there given main none method x.item x.code (insn.Virtual index) index m t wanted x.code_is x.insn_is refl x.use_is is).static_is
calls_agree given main none method (insn.Special index) m t wanted x is =
    (call_there given main none method x.item x.code (insn.Special index) index m t wanted x.code_is x.insn_is refl x.use_is is).static_is
calls_agree given main none method (insn.Static index) m t wanted x is =
    (call_there given main none method x.item x.code (insn.Static index) index m t wanted x.code_is x.insn_is refl x.use_is is).static_is
calls_agree given main none method (insn.Interface index) m t wanted x is =
    (call_there given main none method x.item x.code (insn.Interface index) index m t wanted x.code_is x.insn_is refl x.use_is is).static_is
calls_agree given main none method i m t wanted x is = absurd (none-some wanted is)

-- invokevirtual names no interface
pub virtual_of_class : (given : List ClassDef) (main : List ℕ) → AllByRecursion HasSpelling given → refused_methods given ≡ [] → (method index : ℕ) (m : MethodId)
    (t : TypeId) (named : TypeRef) (class : ℕ)
    → IsNamed (program_of given main) method (insn.Virtual index) (resolved.OfMethod m t)
    → slice_get (outline_of given main).types t.0 ≡ Some named
    → class_of_type named ≡ Some class
    → is_interface_at (outline_of given main).classes class ≡ false
virtual_of_class given main spelled none method index m t named class x at is =
    let call = call_there given main none method x.item x.code (insn.Virtual index) index m t false x.code_is x.insn_is refl x.use_is refl in
    no_interface_named given spelled (outline_of given main) x.code (class_of_method (outline_of given main) method) index m.0 t.0 x.item false call x.insn_is named class at is
