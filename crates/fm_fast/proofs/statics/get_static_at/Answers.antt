use Rattle.std.proofs.Common.{◌≡◌, ◌+◌, get_or, refl, ap, sym, ◌∙◌, subst, rules}
use Rattle.std.proofs.lemmas.Option.{slice_get-get_or}
use Rattle.fm_exec.proofs.FieldSteps.{get_static-named}
use Rattle.fm_exec.specs.Steps.{Steps}
use Rattle.fm_fast.specs.Flows.{resumed}
use Rattle.fm_fast.proofs.EntrySteps.{none-starts, starting-none}
use Rattle.fm_fast.proofs.Likes.{like-loaded}
use Rattle.fm_fast.proofs.statics.get_static_at.Goals as goal
use Rattle.fm_frames.specs.Effects.{OfStatic, loaded, words}
use Rattle.fm_frames.specs.ObjectRows.{class_of_field, kind_of_field}
use Rattle.fm_frames.specs.Starts.{to_start}
use Rattle.fm_frames.specs.States.{word_at}
use Rattle.fm_frames.specs.inner.Doings.{DoesIn}
use Rattle.fm_world.specs.Members.{slot_of}
use Rattle.fm_world.specs.Numbers.{type_of_class}

pub returns-clause-did : goal.returns-clause-did
returns-clause-did g c told f named inside static_at steps =
    let p = c.args.program.now in
    let o = p.outline in
    let m = c.args.machine.now in
    let x = resumed m c.args.frames.now steps in
    let y = resumed m c.push_kind.new.frames (steps + 1) in
    let slot = slot_of o.classes f.0 in
    let own = kind_of_field o f.0 in
    let e = words 0 (loaded own (OfStatic slot)) in
    let none = none-starts o m.areas.started c.args.class.0 c.display.result.now c.display.ensures.value (c.are_started.ensures (search rules)) in
    subst (Steps p g.M.Memory.choose x y)
    (sym (get_static-named o f named (get_or o.types named.0 (type_of_class 0)) (slice_get-get_or o.types named.0 (type_of_class 0) inside)))
    (subst (DoesIn p g.M.Memory.choose x y)
    (sym (starting-none o m.areas.started (class_of_field o f.0) e (ap (to_start o m.areas.started) static_at.class_is ∙ none) refl))
    (subst (λ gives. DoesIn p g.M.Memory.choose x y (words 0 gives)) (like-loaded (OfStatic slot) c.args.kind own static_at.at.kind_is)
    (c.push_kind.ensures.did told p g.M.Memory.choose (record m { steps = steps }) (OfStatic slot)
    (ap (word_at m.areas.statics) static_at.at.place_is ∙ sym c.static_at-value.ensures))))
