use Rattle.std.proofs.Common.{rules, ◌≡◌, ◌∙◌, ◌&&◌, not, false, ap, sym}
use Rattle.std.specs.Prelude.{nat_eq}
use Rattle.std.specs.List.{list_any}
use Rattle.fm_conn.specs.Nodes.{Global, Local, Return}
use Rattle.fm_place.proofs.SiteLemmas.{parameters_same}
use Rattle.fm_place.specs.Sites.{reference_parameters}
use Rattle.fm_place.specs.inner.SiteTests.{facts_in, typed_in}
use Rattle.fm_place.proofs.found_sites.JoinedMethod.is_captured.Goals as goal

pub returns : goal.returns
returns c =
    let facts = facts_in c.args.self.now in
    let x = typed_in c.args.self.now in
    let outside : nat_eq (facts.class x.number Global) c.args.class ≡ false = search rules in
    let result : nat_eq (facts.class x.number Return) c.args.class ≡ false = search rules in
    let parameters = list_any (λ k. nat_eq (facts.class x.number (Local k)) c.args.class) (reference_parameters x.program.outline x.number) in
    ap not (c.has_parameter_in.ensures ∙ parameters_same facts x c.args.class c.requires.typed)
    ∙ sym (λ k. not (outside k) && not (result k) && not parameters)
