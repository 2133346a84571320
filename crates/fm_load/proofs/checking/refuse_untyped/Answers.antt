use Rattle.std.proofs.Common.{Option, MatchOption, subst}
use Rattle.fm_base.specs.declared.ids.MethodId.{MethodId}
use Rattle.fm_check_program.specs.Untyped.{AreTyped, IsFirstUntyped}
use Rattle.fm_check_program.proofs.UntypedLemmas.{first_inside}
use Rattle.fm_load.proofs.checking.refuse_untyped.Goals as goal

pub method_text-requires : goal.method_text-requires
method_text-requires c =
    let p = c.args.program.now in
    let P : Option MethodId → Type 0 = λ found. MatchOption found (AreTyped p) (λ m. IsFirstUntyped p m.0) in
    first_inside p c.in-Some.method.0 c.requires (subst P c.in-Some.is c.in_ok-method.ensures)
