use Rattle.std.proofs.Common.{◌≡◌, ◌∙◌, ◌<◌, length, reverse}
use Rattle.fm_world.specs.Chains.{chain_of}
use Rattle.fm_world.specs.inner.Tables.{IsLinear}
use Rattle.fm_world.proofs.TableLemmas.{row_within, row_is, to_parts, from_parts}
use Rattle.fm_world.proofs.program.Program.display.Goals as goal

pub bounds-as_slice-c : goal.bounds-as_slice-c
bounds-as_slice-c c =
    let x = c.self.inside.parts in
    let within = to_parts (λ p. c.args.c.0 < length p.outline.classes) x c.args.self.now c.self.view_is c.requires in
    row_within (λ class. reverse (chain_of x.declared class)) (length x.declared) c.args.c.0 c.as_slice.result.now x.displays c.as_slice.ensures
    c.self.invariant.answers.displays within

pub returns-clause-value : goal.returns-clause-value
returns-clause-value c =
    let x = c.self.inside.parts in
    let within = to_parts (λ p. c.args.c.0 < length p.outline.classes) x c.args.self.now c.self.view_is c.requires in
    from_parts (λ p. c.as_slice-2.result.now ≡ reverse (chain_of p.outline.classes c.args.c.0)) x c.args.self.now c.self.view_is
    (c.as_slice-2.ensures
    ∙ row_is (λ class. reverse (chain_of x.declared class)) (length x.declared) c.args.c.0 c.as_slice.result.now x.displays c.index-as_slice-c.result
    c.as_slice.ensures c.self.invariant.answers.displays within c.index-as_slice-c.is)

pub returns-clause-linear : goal.returns-clause-linear
returns-clause-linear c = from_parts (λ p. IsLinear p.outline.classes) c.self.inside.parts c.args.self.now c.self.view_is
    c.self.invariant.answers.linear
