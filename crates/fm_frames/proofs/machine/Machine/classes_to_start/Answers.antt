use Rattle.std.proofs.Common.{◌≡◌, false, filter, is_none, map, not, true, ap, ◌∙◌, subst, rules}
use Rattle.std.specs.Prelude.{IfOk}
use Rattle.fm_base.specs.declared.ids.ClassId.{ClassId}
use Rattle.fm_frames.proofs.ClassStarts.{to_start-built_in, to_start-of_file}
use Rattle.fm_frames.proofs.machine.Machine.classes_to_start.Goals as goal
use Rattle.fm_frames.specs.Starts.{is_started}

pub returns-then-is_none : goal.returns-then-is_none
returns-then-is_none g c =
    let none : is_none c.class.result.now.file ≡ true = search rules in
    ap (map (λ (d : ClassId). d.0)) c.new.ensures.items
    ∙ to_start-built_in c.args.program.now.outline c.args.self.now.areas.started c.args.class.0 c.class.result.now c.class.ensures none

pub returns : goal.returns
returns g c =
    let o = c.args.program.now.outline in
    let started = c.args.self.now.areas.started in
    let none : is_none c.class.result.now.file ≡ false = search rules in
    subst (λ classes. IfOk c.not_started.result (λ found. map (λ (d : ClassId). d.0) found.items ≡ classes))
    (ap (filter (λ class. not (is_started o started class))) c.display.ensures.value
    ∙ to_start-of_file o started c.args.class.0 c.class.result.now c.class.ensures none) c.not_started.ensures
