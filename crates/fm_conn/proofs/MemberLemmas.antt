-- What an instruction of a linked program names is there.
use Rattle.std.proofs.Common.{◌≡◌, ◌<◌, length, Some, subst}
use Rattle.std.specs.List.{slice_get}
use Rattle.fm_base.proofs.OptionFacts.{option_map-some}
use Rattle.fm_base.specs.declared.kinds.TypeRef.{TypeRef}
use Rattle.fm_code.specs.declared.instructions.Insn.{Insn}
use Rattle.fm_code.specs.declared.instructions.Insn.TheVariants as insn
use Rattle.fm_types.specs.Named.{NamesMember, class_of_method}
use Rattle.fm_world.proofs.OwnedMethods.{owner_within}
use Rattle.fm_world.specs.Members.{methods_of}
use Rattle.fm_world.specs.Programs.{class_id}
use Rattle.fm_world.specs.declared.calls.Call.{Call}
use Rattle.fm_world.specs.declared.calls.CallKind.{CallKind}
use Rattle.fm_world.specs.declared.calls.CallKind.TheVariants as call
use Rattle.fm_world.specs.declared.uses.Use.{Use}
use Rattle.fm_world.specs.declared.uses.Use.TheVariants as resolved
use Rattle.fm_conn.specs.Nodes.{TypedMethod}
use Rattle.fm_conn.specs.Pairs.{call_of, call_with, use_at}
use Rattle.fm_conn.specs.Shapes.{HasUsesIn}
use Rattle.fm_conn.specs.inner.PairLists.{IsCallIn}

-- ---- uses

pub use_there : (x : TypedMethod) (i : Insn) → HasUsesIn x.program → NamesMember x.program.outline (use_at x i)
use_there x (insn.LoadPool index) uses = uses.members (class_of_method x.program.outline x.number) index
use_there x (insn.GetStatic index) uses = uses.members (class_of_method x.program.outline x.number) index
use_there x (insn.PutStatic index) uses = uses.members (class_of_method x.program.outline x.number) index
use_there x (insn.GetField index) uses = uses.members (class_of_method x.program.outline x.number) index
use_there x (insn.PutField index) uses = uses.members (class_of_method x.program.outline x.number) index
use_there x (insn.Virtual index) uses = uses.members (class_of_method x.program.outline x.number) index
use_there x (insn.Special index) uses = uses.members (class_of_method x.program.outline x.number) index
use_there x (insn.Static index) uses = uses.members (class_of_method x.program.outline x.number) index
use_there x (insn.Interface index) uses = uses.members (class_of_method x.program.outline x.number) index
use_there x (insn.New index) uses = uses.members (class_of_method x.program.outline x.number) index
use_there x (insn.NewRefs index) uses = uses.members (class_of_method x.program.outline x.number) index
use_there x (insn.Cast index) uses = uses.members (class_of_method x.program.outline x.number) index
use_there x (insn.IsA index) uses = uses.members (class_of_method x.program.outline x.number) index
use_there x (insn.MultiArray index dimensions) uses = uses.members (class_of_method x.program.outline x.number) index
use_there x i uses = tt

-- ---- calls

call_with_in : (x : TypedMethod) (k : CallKind) (u : Use) (called : Call) → HasUsesIn x.program → x.number < length (methods_of x.program.outline.classes) →
    NamesMember x.program.outline u → call_with x k u ≡ Some called → IsCallIn x.program.outline called
call_with_in x k (resolved.OfMethod m t) called uses number there some =
    let make : TypeRef → Call = λ named. record { kind = k; named = named; method = m; caller = class_id (class_of_method x.program.outline x.number) } in
    let found = option_map-some make (slice_get x.program.outline.types t.0) called some in
    subst (IsCallIn x.program.outline) found.2
    (record {
      caller = owner_within x.program.outline.classes x.number number;
      method = there;
      named = uses.types t.0 found.0 found.1;
    })
call_with_in x k u called uses number there some = absurd cc

pub call_in : (x : TypedMethod) (i : Insn) (called : Call) → HasUsesIn x.program → x.number < length (methods_of x.program.outline.classes) →
    call_of x i ≡ Some called → IsCallIn x.program.outline called
call_in x (insn.Virtual index) called uses number some = call_with_in x call.Virtual (use_at x (insn.Virtual index)) called uses number (use_there x (insn.Virtual index) uses) some
call_in x (insn.Interface index) called uses number some = call_with_in x call.Interface (use_at x (insn.Interface index)) called uses number (use_there x (insn.Interface index) uses) some
call_in x (insn.Special index) called uses number some = call_with_in x call.Special (use_at x (insn.Special index)) called uses number (use_there x (insn.Special index) uses) some
call_in x (insn.Static index) called uses number some = call_with_in x call.Static (use_at x (insn.Static index)) called uses number (use_there x (insn.Static index) uses) some
call_in x i called uses number some = absurd cc
