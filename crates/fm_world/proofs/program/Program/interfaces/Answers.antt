use Rattle.std.proofs.Common.{◌≡◌, sym, ◌∙◌, ◌<◌, subst, length, List, ℕ}
use Rattle.fm_world.specs.Chains.{interfaces_of}
use Rattle.fm_world.specs.inner.Tables.{AreInterfaces}
use Rattle.fm_world.proofs.TableLemmas.{row_within, row_is, to_parts, from_parts}
use Rattle.fm_world.proofs.program.Program.interfaces.Goals as goal

pub bounds-as_slice-c : goal.bounds-as_slice-c
bounds-as_slice-c c =
    let x = c.self.inside.parts in
    let within = to_parts (λ p. c.args.c.0 < length p.outline.classes) x c.args.self.now c.self.view_is c.requires in
    row_within (interfaces_of x.declared) (length x.declared) c.args.c.0 c.as_slice.result.now x.interfaces c.as_slice.ensures
    c.self.invariant.answers.interfaces within

pub returns-clause-value : goal.returns-clause-value
returns-clause-value c =
    let x = c.self.inside.parts in
    let within = to_parts (λ p. c.args.c.0 < length p.outline.classes) x c.args.self.now c.self.view_is c.requires in
    from_parts (λ p. c.as_slice-2.result.now ≡ interfaces_of p.outline.classes c.args.c.0) x c.args.self.now c.self.view_is
    (c.as_slice-2.ensures
    ∙ row_is (interfaces_of x.declared) (length x.declared) c.args.c.0 c.as_slice.result.now x.interfaces c.index-as_slice-c.result
    c.as_slice.ensures c.self.invariant.answers.interfaces within c.index-as_slice-c.is)

pub returns-clause-only : goal.returns-clause-only
returns-clause-only c =
    let x = c.self.inside.parts in
    let within = to_parts (λ p. c.args.c.0 < length p.outline.classes) x c.args.self.now c.self.view_is c.requires in
    let value =
    c.as_slice-2.ensures
    ∙ row_is (interfaces_of x.declared) (length x.declared) c.args.c.0 c.as_slice.result.now x.interfaces c.index-as_slice-c.result
    c.as_slice.ensures c.self.invariant.answers.interfaces within c.index-as_slice-c.is in
    let P : List ℕ → Type 0 = λ numbers. AreInterfaces x.declared numbers in
    from_parts (λ p. AreInterfaces p.outline.classes c.as_slice-2.result.now) x c.args.self.now c.self.view_is
    (subst P (sym value) (c.self.invariant.answers.only_interfaces c.args.c.0 within))
