use Rattle.std.proofs.Common.{◌≡◌, sym, ◌∙◌, ap, Some, None}
use Rattle.std.specs.Option.{option_map}
use Rattle.fm_base.specs.declared.ids.ClassId.{ClassId}
use Rattle.fm_world.specs.Lookups.{special_target}
use Rattle.fm_world.specs.Programs.{class_of_type}
use Rattle.fm_world.proofs.Told.{special_target-above, special_target-itself, special_target-unnamed}
use Rattle.fm_world.proofs.program.Program.special_target.Goals as goal

pub returns-then-searches_above : goal.returns-then-searches_above
returns-then-searches_above c =
    let classes = c.args.self.now.outline.classes in
    let named : class_of_type c.args.named ≡ Some c.in-Some.class.0 = sym c.class_of_type.ensures ∙ ap (option_map (λ (d : ClassId). d.0)) c.in-Some.is in
    c.nearest_above.ensures
    ∙ sym (ap (λ d. special_target classes c.args.caller.0 d c.args.m.0) named
    ∙ special_target-above classes c.args.caller.0 (Some c.in-Some.class.0) c.args.m.0 (sym c.searches_above.ensures ∙ c.if-searches_above.true))

pub returns-else-searches_above : goal.returns-else-searches_above
returns-else-searches_above c =
    let classes = c.args.self.now.outline.classes in
    let named : class_of_type c.args.named ≡ Some c.in-Some.class.0 = sym c.class_of_type.ensures ∙ ap (option_map (λ (d : ClassId). d.0)) c.in-Some.is in
    sym (ap (λ d. special_target classes c.args.caller.0 d c.args.m.0) named
    ∙ special_target-itself classes c.args.caller.0 (Some c.in-Some.class.0) c.args.m.0 (sym c.searches_above.ensures ∙ c.if-searches_above.false))

pub returns-in-None : goal.returns-in-None
returns-in-None c =
    let classes = c.args.self.now.outline.classes in
    let named : class_of_type c.args.named ≡ None = sym c.class_of_type.ensures ∙ ap (option_map (λ (d : ClassId). d.0)) c.in-None.is in
    sym (ap (λ d. special_target classes c.args.caller.0 d c.args.m.0) named ∙ special_target-unnamed classes c.args.caller.0 c.args.m.0)
