use Rattle.std.proofs.Common.{◌≡◌, Option, None, Some, refl, sym, subst}
use Rattle.fm_frames.specs.States.{State}
use Rattle.fm_frames.specs.declared.ends.Ended.{Ended}
use Rattle.fm_frames.specs.declared.ends.Ended.TheVariants as end
use Rattle.fm_law_two_memories.specs.Reuses.{EndsLike}
use Rattle.fm_law_no_fault.specs.Whole.{HasNoFault}
use Rattle.fm_law_linked.proofs.law_same_ends.Goals as goal

-- ends that are alike, and aren't those of a fault, are the same
same_end : (x : State) (a b : Option Ended) → x.ended ≡ a → HasNoFault x → EndsLike a b → b ≡ a
same_end x None b is none h = h
same_end x (Some (end.Fault method offset cell)) b is none h = absurd (none method offset cell is)
same_end x (Some e) b is none h = h

pub returns : goal.returns
returns c given main spelled supported none few typings typed no_free first second job fits budget limit other free freed room roomy other_roomy steps x y
    one two =
    let did =
    (c.law_two_memories.ensures.limited given main spelled supported none few typings typed no_free).1 first second job fits budget limit other free
    freed room roomy other_roomy steps x y one two in
    let sound =
    (c.law_linked_no_fault.ensures given main spelled supported none few typings typed no_free first job fits budget limit free room one.count).1 in (
      did.printed,
      same_end x.state x.state.ended y.state.ended refl (subst (λ m. HasNoFault m.state) (sym one.is) sound) did.ended,
    )
