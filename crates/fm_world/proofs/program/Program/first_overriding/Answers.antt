use Rattle.std.proofs.Common.{◌≡◌, sym, ◌∙◌, ap, ℕ, Option, reverse, take, arith}
use Rattle.std.proofs.lemmas.List.{reverse-reverse}
use Rattle.fm_world.specs.Chains.{chain_of, first_found}
use Rattle.fm_world.specs.Lookups.{overriding}
use Rattle.fm_world.specs.Members.{method_at}
use Rattle.fm_world.proofs.program.Program.first_overriding.Goals as goal

pub returns : goal.returns
returns c =
    let classes = c.args.self.now.outline.classes in
    let find : ℕ → Option ℕ = overriding classes (method_at classes c.args.m.0) in
    let none : c.loop-depth.depth ≡ 0 = omega (arith, c.loop-depth-test.false) in
    ap (λ d. first_found find (reverse (take d c.display-chain.result.now))) (sym none) ∙ c.loop-depth.invariant.same
    ∙ ap (λ xs. first_found find (reverse xs)) c.display-chain.ensures.value ∙ ap (first_found find) (reverse-reverse (chain_of classes c.args.c.0))
