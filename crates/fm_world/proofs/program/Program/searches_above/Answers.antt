use Rattle.std.proofs.Common.{sym, ◌∙◌, ap, ◌&&◌, not}
use Rattle.fm_world.specs.Chains.{is_among, superclasses_of}
use Rattle.fm_world.proofs.Displays.{is_among-reverse}
use Rattle.fm_world.proofs.program.Program.searches_above.Goals as goal

pub returns-then-is_constructor : goal.returns-then-is_constructor
returns-then-is_constructor c =
    let above = superclasses_of c.args.self.now.outline.classes c.args.caller.0 in
    sym (ap (λ b. not b && is_among c.args.named.0 above) (sym c.is_constructor.ensures ∙ c.if-is_constructor.true))

pub returns : goal.returns
returns c =
    let above = superclasses_of c.args.self.now.outline.classes c.args.caller.0 in
    c.is_listed.ensures ∙ ap (is_among c.args.named.0) c.superclasses.ensures ∙ is_among-reverse c.args.named.0 above
    ∙ sym (ap (λ b. not b && is_among c.args.named.0 above) (sym c.is_constructor.ensures ∙ c.if-is_constructor.false))
