use Rattle.std.proofs.Common.{rules, ◌≡◌, ◌∙◌, ◌&&◌, not, true, length, map, ap, sym}
use Rattle.std.proofs.lemmas.List.{length-map}
use Rattle.std.specs.Prelude.{nat_lt}
use Rattle.std.specs.List.{list_any}
use Rattle.fm_base.specs.declared.ids.MethodId.{MethodId}
use Rattle.fm_world.specs.Programs.{targets}
use Rattle.fm_place.proofs.SiteLemmas.{any_old_same}
use Rattle.fm_place.specs.Sites.{has_reference_result, may_give_old}
use Rattle.fm_place.specs.inner.SiteTests.{facts_in, lists_old}
use Rattle.fm_place.proofs.found_sites.JoinedMethod.receives_new.Goals as goal

pub returns : goal.returns
returns c =
    let known = c.args.self.now in
    let o = known.method.program.now.outline in
    let facts = facts_in known in
    let found = c.in_ok-targets.targets.items in
    let numbers : map (λ (m : MethodId). m.0) found ≡ targets known.method.program.now c.args.call = c.in_ok-targets.ensures in
    let reference : has_reference_result o c.args.call.method.0 ≡ true = sym c.if-not-has_reference_result.ensures in
    let there : nat_lt 0 (length found) ≡ true = search rules in
    let some : nat_lt 0 (length (targets known.method.program.now c.args.call)) ≡ true =
    ap (λ n. nat_lt 0 n) (ap length (sym numbers) ∙ length-map found (λ (m : MethodId). m.0)) ∙ there in
    let old : c.any_gives_old.result ≡ list_any (may_give_old o facts) (targets known.method.program.now c.args.call) =
    c.any_gives_old.ensures
    ∙ ap (list_any (λ (m : MethodId). lists_old known.summaries.now m.0)) c.as_slice.ensures.value
    ∙ any_old_same o known.summaries.now known.classes.now found c.requires.known.summaries
    ∙ ap (list_any (may_give_old o facts)) numbers in
    ap not old ∙ sym (λ k. reference k && some k && not (list_any (may_give_old o facts) (targets known.method.program.now c.args.call)))
