use Rattle.std.proofs.Common.{[], Some, None, false, ap, arith, refl, sym, ◌∙◌, subst}
use Rattle.fm_cells.specs.Objects.{request_of}
use Rattle.fm_frames.proofs.CopySteps.{copy-made, copy-takes, copy-words, given-copy}
use Rattle.fm_frames.proofs.Throwing.{told-ok, type-request}
use Rattle.fm_frames.proofs.Underways.{copied-full}
use Rattle.fm_frames.proofs.machine.Machine.give_copy.Goals as goal
use Rattle.fm_frames.specs.Acts.{cell_of, copied}
use Rattle.fm_frames.specs.Effects.{Copy, Plain, making}
use Rattle.fm_frames.specs.Elements.{pack_of}
use Rattle.fm_frames.specs.States.{ref, word_at}
use Rattle.fm_frames.specs.Steps.{stack_of}
use Rattle.fm_frames.specs.inner.Doings.{DoesIn, Makes}

pub returns-then-not-reserve : goal.returns-then-not-reserve
returns-then-not-reserve g c operand word =
    let p = c.args.program.now in
    let len = c.args.head.len in
    let t = c.type_numbered-t.result in
    subst (λ u. DoesIn p g.M.Memory.choose c.args.self.now c.reserve.new.self (making c.args.takes (Copy u len operand))) c.type_numbered-t.ensures.value
    (c.if-not-reserve.ensures.told p g.M.Memory.choose (making c.args.takes (Copy t len operand)) refl
    (copy-words p c.args.self.now.areas t len operand c.pack_of-pack.result (c.pack_of-pack.ensures.value c.requires.can.runnable)
    (omega (arith, c.object_words.ensures)) ∙ sym c.object_words.ensures))

pub returns-in_default : goal.returns-in_default
returns-in_default g c operand word =
    let p = c.args.program.now in
    let len = c.args.head.len in
    let t = c.type_numbered-t.result in
    let pack = c.pack_of-pack.result in
    let packed = c.pack_of-pack.ensures.value c.requires.can.runnable in
    let y = c.reserve.new.self in
    let e = making c.args.takes (Copy t len operand) in
    let so = c.if-not-reserve.ensures.told p g.M.Memory.choose e refl
    (copy-words p c.args.self.now.areas t len operand pack packed (omega (arith, c.object_words.ensures)) ∙ sym c.object_words.ensures) in
    let content = copied y.areas.store (cell_of (word_at (stack_of c.args.self.now) operand)) len in
    let request = type-request p.outline t c.type_id-id.result.0 len pack c.type_id-id.ensures.number packed in
    subst (λ u. DoesIn p g.M.Memory.choose c.args.self.now c.make_object.new.self (making c.args.takes (Copy u len operand))) c.type_numbered-t.ensures.value
    (copied-full p g.M.Memory.choose c.args.self.now y c.make_object.new.self e [] t len operand [] so
    (subst (λ r. Makes g.M.Memory.choose y c.make_object.new.self r content None) (sym request)
    (subst (Makes g.M.Memory.choose y c.make_object.new.self (request_of c.type_id-id.result.0 len pack false) []) c.in_default.is c.in_ok-copy.ensures)))

pub copy_elements-requires-clause-apart : goal.copy_elements-requires-clause-apart
copy_elements-requires-clause-apart g c =
    let pack = c.pack_of-pack.result in
    (copy-takes g.M.Memory.choose c.args.self.now c.reserve.new.self c.make_object.new.self c.type_id-id.result.0 c.args.head.len pack c.args.from.0
    c.args.head c.in-Some.copy (c.if-not-reserve.ensures.kept refl) c.requires.held refl
    (c.requires.pack ∙ ap (pack_of c.args.program.now.outline) (sym c.type_numbered-t.ensures.value)
    ∙ sym (c.pack_of-pack.ensures.value c.requires.can.runnable))
    (subst (Makes g.M.Memory.choose c.reserve.new.self c.make_object.new.self (request_of c.type_id-id.result.0 c.args.head.len pack false) [])
    c.in-Some.is c.in_ok-copy.ensures)).0

pub copy_elements-requires-clause-takes : goal.copy_elements-requires-clause-takes
copy_elements-requires-clause-takes g c =
    let pack = c.pack_of-pack.result in
    (copy-takes g.M.Memory.choose c.args.self.now c.reserve.new.self c.make_object.new.self c.type_id-id.result.0 c.args.head.len pack c.args.from.0
    c.args.head c.in-Some.copy (c.if-not-reserve.ensures.kept refl) c.requires.held refl
    (c.requires.pack ∙ ap (pack_of c.args.program.now.outline) (sym c.type_numbered-t.ensures.value)
    ∙ sym (c.pack_of-pack.ensures.value c.requires.can.runnable))
    (subst (Makes g.M.Memory.choose c.reserve.new.self c.make_object.new.self (request_of c.type_id-id.result.0 c.args.head.len pack false) [])
    c.in-Some.is c.in_ok-copy.ensures)).1

pub copy_elements-requires-clause-all : goal.copy_elements-requires-clause-all
copy_elements-requires-clause-all g c =
    let pack = c.pack_of-pack.result in
    (copy-takes g.M.Memory.choose c.args.self.now c.reserve.new.self c.make_object.new.self c.type_id-id.result.0 c.args.head.len pack c.args.from.0
    c.args.head c.in-Some.copy (c.if-not-reserve.ensures.kept refl) c.requires.held refl
    (c.requires.pack ∙ ap (pack_of c.args.program.now.outline) (sym c.type_numbered-t.ensures.value)
    ∙ sym (c.pack_of-pack.ensures.value c.requires.can.runnable))
    (subst (Makes g.M.Memory.choose c.reserve.new.self c.make_object.new.self (request_of c.type_id-id.result.0 c.args.head.len pack false) [])
    c.in-Some.is c.in_ok-copy.ensures)).2

pub returns : goal.returns
returns g c =
    told-ok c.give.result _ _
    (λ given operand word.
    let p = c.args.program.now in
    let x = c.args.self.now in
    let y = c.reserve.new.self in
    let len = c.args.head.len in
    let t = c.type_numbered-t.result in
    let pack = c.pack_of-pack.result in
    let packed = c.pack_of-pack.ensures.value c.requires.can.runnable in
    let e = making c.args.takes (Copy t len operand) in
    let so = c.if-not-reserve.ensures.told p g.M.Memory.choose e refl
    (copy-words p x.areas t len operand pack packed (omega (arith, c.object_words.ensures)) ∙ sym c.object_words.ensures) in
    let content = copied y.areas.store (cell_of (word_at (stack_of x) operand)) len in
    let r = request_of c.type_id-id.result.0 len pack false in
    let request = type-request p.outline t c.type_id-id.result.0 len pack c.type_id-id.ensures.number packed in
    subst (λ u. DoesIn p g.M.Memory.choose x c.give.new.self (making c.args.takes (Copy u len operand))) c.type_numbered-t.ensures.value
    (given-copy p g.M.Memory.choose x y c.copy_elements.new.machine c.give.new.self c.args.takes t len operand c.in-Some.copy
    c.requires.can.ready.next_fits so
    (subst (λ r. Makes g.M.Memory.choose y c.copy_elements.new.machine r content (Some c.in-Some.copy)) (sym request)
    (copy-made g.M.Memory.choose x y c.make_object.new.self c.copy_elements.new.machine r c.args.from.0 len operand c.args.head c.in-Some.copy
    (c.if-not-reserve.ensures.kept refl) c.requires.held refl word
    (subst (Makes g.M.Memory.choose y c.make_object.new.self r []) c.in-Some.is c.in_ok-copy.ensures) c.copy_elements.ensures))
    (given (Plain (ref c.in-Some.copy.0)) refl p g.M.Memory.choose)))
    c.give.ensures
