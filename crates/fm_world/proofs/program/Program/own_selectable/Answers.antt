use Rattle.std.proofs.Common.{sym, ◌∙◌, ap, nat_eq, Some, None, option_map}
use Rattle.std.proofs.lemmas.Bool.{eqb-true}
use Rattle.std.proofs.lemmas.Option.{none-some, same_Some}
use Rattle.fm_base.specs.declared.ids.MethodId.{MethodId}
use Rattle.fm_world.specs.Members.{method_at}
use Rattle.fm_world.proofs.OverridingLemmas.{no_own, own_nearest}
use Rattle.fm_world.proofs.program.Program.own_selectable.Goals as goal

pub returns-then-declares-clause-value : goal.returns-then-declares-clause-value
returns-then-declares-clause-value c =
    let classes = c.args.self.now.outline.classes in
    let found = sym c.nearest.ensures.value ∙ ap (option_map (λ (n : MethodId). n.0)) c.in-Some.is in
    sym (own_nearest classes (method_at classes c.args.m.0) c.args.c.0 c.in-Some.nearest.0 found
    (eqb-true (method_at classes c.in-Some.nearest.0).class c.args.c.0 (sym c.declares.ensures ∙ c.if-declares.true)))

pub returns-else-declares-clause-value : goal.returns-else-declares-clause-value
returns-else-declares-clause-value c =
    let classes = c.args.self.now.outline.classes in
    let found = sym c.nearest.ensures.value ∙ ap (option_map (λ (n : MethodId). n.0)) c.in-Some.is in
    sym (no_own classes (method_at classes c.args.m.0) c.args.c.0 (Some c.in-Some.nearest.0) found
    (λ k same. ap (λ n. nat_eq (method_at classes n).class c.args.c.0) (sym (same_Some c.in-Some.nearest.0 k same))
    ∙ (sym c.declares.ensures ∙ c.if-declares.false)))

pub returns-in-None-clause-value : goal.returns-in-None-clause-value
returns-in-None-clause-value c =
    let classes = c.args.self.now.outline.classes in
    let found = sym c.nearest.ensures.value ∙ ap (option_map (λ (n : MethodId). n.0)) c.in-None.is in
    sym (no_own classes (method_at classes c.args.m.0) c.args.c.0 None found (λ k same. absurd (none-some k same)))
