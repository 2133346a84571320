use Rattle.std.proofs.Common.{◌≡◌, [], None, Some, refl, subst, sym}
use Rattle.std.proofs.lemmas.Result.{IfOk-weaker}
use Rattle.std.specs.Prelude.{IfSome}
use Rattle.fm_cells.specs.Objects.{new_object, Request, request_of}
use Rattle.fm_cells.specs.Stores.{object_at}
use Rattle.fm_cells.specs.declared.answers.Cell.{Cell}
use Rattle.fm_frames.proofs.OpeningSteps.{asked-over, grows-ended, grows-made, object-made, opens-asked, request-is, told-on}
use Rattle.fm_frames.proofs.machine.Machine.open_object.Goals as goal
use Rattle.fm_frames.specs.inner.Opening.{OpensAsked}

pub returns-then-not-reserve-clause-told : goal.returns-then-not-reserve-clause-told
returns-then-not-reserve-clause-told g c =
    let p = c.args.program.now in
    let r = request_of c.type_id-id.result.0 c.args.len c.pack_of-pack.result c.args.fixed in
    let (some, passes, ended) = c.if-not-reserve.ensures.over refl in
    subst (λ r. OpensAsked p g.M.Memory.choose c.args.self.now c.reserve.new.self r [] None)
    (sym (request-is p.outline c.args.t c.type_id-id.result.0 c.args.len c.pack_of-pack.result c.args.fixed c.type_id-id.ensures.number
    (c.pack_of-pack.ensures.value c.requires.runnable)))
    (λ action after grown asks.
    asked-over p g.M.Memory.choose c.args.self.now c.reserve.new.self action r [] after grown c.object_words.result asks c.object_words.ensures c.if-not-reserve.ensures.few some
    passes ended)

pub returns-then-not-reserve-clause-grows : goal.returns-then-not-reserve-clause-grows
returns-then-not-reserve-clause-grows g c =
    let (some, passes, ended) = c.if-not-reserve.ensures.over refl in
    grows-ended c.args.self.now c.reserve.new.self _ ended

pub returns-clause-told : goal.returns-clause-told
returns-clause-told g c =
    let p = c.args.program.now in
    let r = request_of c.type_id-id.result.0 c.args.len c.pack_of-pack.result c.args.fixed in
    IfOk-weaker c.make_object.result _ _
    (λ made makes.
    subst (λ r. OpensAsked p g.M.Memory.choose c.args.self.now c.make_object.new.self r [] made)
    (sym (request-is p.outline c.args.t c.type_id-id.result.0 c.args.len c.pack_of-pack.result c.args.fixed c.type_id-id.ensures.number
    (c.pack_of-pack.ensures.value c.requires.runnable)))
    (opens-asked p g.M.Memory.choose c.args.self.now c.reserve.new.self c.make_object.new.self r [] c.object_words.result c.object_words.ensures c.if-not-reserve.ensures.few
    (c.if-not-reserve.ensures.room refl) (c.if-not-reserve.ensures.kept refl) made makes))
    c.make_object.ensures

pub returns-clause-grows : goal.returns-clause-grows
returns-clause-grows g c =
    told-on c.make_object.result _ _
    (λ made makes.
    grows-made g.M.Memory.choose c.args.self.now c.reserve.new.self c.make_object.new.self
    (request_of c.type_id-id.result.0 c.args.len c.pack_of-pack.result c.args.fixed) [] (c.if-not-reserve.ensures.kept refl) made makes)
    c.make_object.ensures

pub returns-clause-object : goal.returns-clause-object
returns-clause-object g c =
    let p = c.args.program.now in
    let r = request_of c.type_id-id.result.0 c.args.len c.pack_of-pack.result c.args.fixed in
    IfOk-weaker c.make_object.result _ _
    (λ made makes.
    subst (λ (r : Request). IfSome made (λ (cell : Cell). object_at c.make_object.new.self.areas.store cell.0
    ≡ Some (new_object c.args.self.now.areas.store.births r)))
    (sym (request-is p.outline c.args.t c.type_id-id.result.0 c.args.len c.pack_of-pack.result c.args.fixed c.type_id-id.ensures.number
    (c.pack_of-pack.ensures.value c.requires.runnable)))
    (object-made g.M.Memory.choose c.args.self.now c.reserve.new.self c.make_object.new.self r (c.if-not-reserve.ensures.kept refl) made makes))
    c.make_object.ensures
