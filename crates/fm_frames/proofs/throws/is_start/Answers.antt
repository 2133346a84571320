use Rattle.std.proofs.Common.{◌<◌, length, ap, sym, ◌∙◌, subst}
use Rattle.fm_frames.proofs.Programs.{class-start, method-class, start-is, told_start}
use Rattle.fm_frames.proofs.throws.is_start.Goals as goal
use Rattle.fm_world.specs.declared.records.ClassInfo.{ClassInfo}
use Rattle.fm_world.specs.declared.records.MethodInfo.{MethodInfo}

pub class-requires : goal.class-requires
class-requires c =
    subst (λ class. class < length c.args.program.now.outline.classes)
    (sym (ap (λ (m : MethodInfo). m.class.0) c.method.ensures ∙ method-class c.args.program.now c.args.method.0))
    (c.requires.runnable.owners c.args.method.0)

pub returns-in-Some : goal.returns-in-Some
returns-in-Some c =
    ap (λ start. told_start start c.args.method.0) (sym c.in-Some.is)
    ∙ start-is c.args.program.now.outline c.args.method.0 c.method.result.now.class.0 c.class.result.now.start
    (ap (λ (m : MethodInfo). m.class.0) c.method.ensures ∙ method-class c.args.program.now c.args.method.0)
    (ap (λ (k : ClassInfo). k.start) c.class.ensures ∙ class-start c.args.program.now.outline c.method.result.now.class.0)

pub returns-in-None : goal.returns-in-None
returns-in-None c =
    ap (λ start. told_start start c.args.method.0) (sym c.in-None.is)
    ∙ start-is c.args.program.now.outline c.args.method.0 c.method.result.now.class.0 c.class.result.now.start
    (ap (λ (m : MethodInfo). m.class.0) c.method.ensures ∙ method-class c.args.program.now c.args.method.0)
    (ap (λ (k : ClassInfo). k.start) c.class.ensures ∙ class-start c.args.program.now.outline c.method.result.now.class.0)
