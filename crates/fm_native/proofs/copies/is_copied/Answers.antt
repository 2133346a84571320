use Rattle.std.proofs.Common.{◌&&◌, not, ap, sym, ◌∙◌, subst, arith}
use Rattle.fm_frames.proofs.Programs.{built_in-inside, is_text-by}
use Rattle.fm_native.proofs.BuiltIns.{cloneable-is}
use Rattle.fm_native.proofs.copies.is_copied.Goals as goal
use Rattle.fm_types.specs.Named.{built_in_type}
use Rattle.fm_world.specs.BuiltIns.{cloneable_name}
use Rattle.fm_world.specs.Chains.{is_sub}
use Rattle.fm_world.specs.Programs.{IsTypeIn}

pub returns-then-is_text : goal.returns-then-is_text
returns-then-is_text c =
    let o = c.args.program.now.outline in
    ap (λ b. not b && is_sub o.classes c.args.t (built_in_type o cloneable_name))
    (c.if-is_text.ensures ∙ is_text-by c.args.program.now c.args.t c.requires.runnable)

pub is_sub-requires-clause-second : goal.is_sub-requires-clause-second
is_sub-requires-clause-second c =
    subst (IsTypeIn c.args.program.now.outline.classes) (sym c.type_of_class.ensures)
    (built_in-inside c.args.program.now 26 c.requires.runnable (omega arith))

pub returns : goal.returns
returns c =
    let o = c.args.program.now.outline in
    c.is_sub.ensures ∙ ap (is_sub o.classes c.args.t) (c.type_of_class.ensures ∙ sym (cloneable-is c.args.program.now c.requires.runnable))
    ∙ ap (λ b. not b && is_sub o.classes c.args.t (built_in_type o cloneable_name))
    (c.if-is_text.ensures ∙ is_text-by c.args.program.now c.args.t c.requires.runnable)
