use Rattle.std.proofs.Common.{◌≡◌, ◌+◌, ◌^◌, ◌<◌, true, refl, sym, ◌∙◌, subst, rules}
use Rattle.std.proofs.lemmas.Option.{slice_get-get_or}
use Rattle.fm_exec.proofs.FieldSteps.{get_field-named, named-fits, object-told, place-source}
use Rattle.fm_exec.proofs.Seen.{carried}
use Rattle.fm_fast.specs.Flows.{resumed}
use Rattle.fm_fast.proofs.CellSteps.{found-over}
use Rattle.fm_fast.proofs.Likes.{like-bits, like-loaded, like-read}
use Rattle.fm_fast.proofs.fields.get_field_at.Goals as goal
use Rattle.fm_frames.specs.Effects.{OfPlace, loaded, words}
use Rattle.fm_frames.specs.Elements.{int_bits}
use Rattle.fm_frames.specs.ObjectRows.{get_field_effect, kind_of_field}
use Rattle.fm_frames.specs.Sights.{type_numbered}
use Rattle.fm_frames.specs.Steps.{stack_of}
use Rattle.fm_frames.specs.inner.Doings.{DoesIn, seen}
use Rattle.fm_frames.specs.inner.Places.{element_at}
use Rattle.fm_types.specs.Fits.{fits_type}
use Rattle.fm_world.specs.Members.{slot_of}
use Rattle.fm_world.specs.Numbers.{type_of_class}
use Rattle.fm_world.specs.declared.uses.Use.TheVariants as used

pub place-value-requires : goal.place-value-requires
place-value-requires g c =
    let o = c.args.program.now.outline in
    let m = c.args.machine.now in
    let f = c.requires.holds.0 in
    let at_place = c.requires.holds.1 in
    let it = found-over o m c.args.frames.now m.steps 0 c.in-Some.cell c.in-Some.head c.in-Some.ensures in
    let t = type_numbered o c.args.named.0 in
    let at = slice_get-get_or o.types c.args.named.0 (type_of_class 0) c.requires.named in
    let fits : true ≡ fits_type o.classes (type_numbered o c.in-Some.head.class) t = search rules in
    subst (λ n. element_at m.areas.store c.in-Some.cell.0 n < 2 ^ int_bits c.args.kind) at_place.place_is
    (subst (λ n. element_at m.areas.store c.in-Some.cell.0 (slot_of o.classes f.0) < 2 ^ n)
    (sym (like-bits c.args.kind (kind_of_field o f.0) at_place.kind_is))
    (c.requires.holds.2 c.in-Some.cell.0 it.object (it.word, it.held)
    (named-fits o it.object c.in-Some.head t c.args.named.0 it.head_is at fits)))

pub returns-clause-did : goal.returns-clause-did
returns-clause-did g c told f at_place steps =
    let p = c.args.program.now in
    let o = p.outline in
    let m = c.args.machine.now in
    let x = resumed m c.args.frames.now steps in
    let y = resumed m c.give_kind.new.frames (steps + 1) in
    let slot = slot_of o.classes f.0 in
    let own = kind_of_field o f.0 in
    let source = OfPlace 0 slot own in
    let it = found-over o m c.args.frames.now steps 0 c.in-Some.cell c.in-Some.head c.in-Some.ensures in
    let t = type_numbered o c.args.named.0 in
    let at = slice_get-get_or o.types c.args.named.0 (type_of_class 0) c.requires.named in
    let fits : true ≡ fits_type o.classes (type_numbered o c.in-Some.head.class) t = search rules in
    carried p g.M.Memory.choose x y (get_field_effect o (used.OfField f c.args.named) (seen p x)) (words 1 (loaded own source))
    (get_field-named o f c.args.named t (seen p x) at
    ∙ object-told o m.areas.store (stack_of x) 0 c.in-Some.cell c.in-Some.head t true (λ l. words 1 (loaded own source)) it fits)
    (subst (λ gives. DoesIn p g.M.Memory.choose x y (words 1 gives)) (like-loaded source c.args.kind own at_place.kind_is)
    (c.give_kind.ensures.did told p g.M.Memory.choose (record m { steps = steps }) source
    (place-source x 0 c.in-Some.cell.0 c.args.place slot own own it.word (sym at_place.place_is) refl
    ∙ sym (like-read (element_at m.areas.store c.in-Some.cell.0 c.args.place) c.args.kind own at_place.kind_is) ∙ sym c.place-value.ensures)))
