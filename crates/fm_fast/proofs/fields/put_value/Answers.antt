use Rattle.std.proofs.Common.{◌≡◌, ◌+◌, ◌-◌, ◌^◌, ◌<◌, [], ◌∷◌, true, ap, sym, ◌∙◌, subst, rules}
use Rattle.std.proofs.lemmas.Option.{slice_get-get_or}
use Rattle.fm_exec.proofs.FieldSteps.{named-fits, object-told, put_field-named}
use Rattle.fm_exec.proofs.HeldSteps.{Seen}
use Rattle.fm_exec.proofs.Seen.{carried}
use Rattle.fm_fast.specs.Flows.{resumed}
use Rattle.fm_fast.proofs.CellSteps.{found-over, put-over, word-over}
use Rattle.fm_fast.proofs.Likes.{like-kept, like-put, like-words}
use Rattle.fm_fast.proofs.fields.put_value.Goals as goal
use Rattle.fm_cells.specs.Sizes.{element_bits}
use Rattle.fm_cells.specs.Stores.{pack_at}
use Rattle.fm_frames.specs.Effects.{OfOperand, Put, acting}
use Rattle.fm_frames.specs.ObjectRows.{kind_of_field, put_field_effect}
use Rattle.fm_frames.specs.Sights.{type_numbered}
use Rattle.fm_frames.specs.States.{ref, State, word_at}
use Rattle.fm_frames.specs.Steps.{stack_of}
use Rattle.fm_frames.specs.inner.Doings.{DoesIn, seen}
use Rattle.fm_frames.specs.inner.Places.{FitsIn}
use Rattle.fm_types.specs.Fits.{fits_type}
use Rattle.fm_base.specs.Kinds.{kind_words}
use Rattle.fm_world.specs.Members.{slot_of}
use Rattle.fm_world.specs.Numbers.{type_of_class}
use Rattle.fm_world.specs.declared.uses.Use.TheVariants as used

pub put_place-requires : goal.put_place-requires
put_place-requires g c =
    let o = c.args.program.now.outline in
    let m = c.args.machine.now in
    let x = resumed m c.args.frames.now m.steps in
    let store = m.areas.store in
    let cell = c.in-Some.cell in
    let f = c.requires.takes.0 in
    let own = kind_of_field o f.0 in
    let like = c.requires.takes.1.kind_is in
    let many = c.requires.words ∙ like-words c.args.kind own like in
    let it = found-over o m c.args.frames.now m.steps c.args.words cell c.in-Some.head c.in-Some.ensures in
    let t = type_numbered o c.args.named.0 in
    let at = slice_get-get_or o.types c.args.named.0 (type_of_class 0) c.requires.named in
    let fits : true ≡ fits_type o.classes (type_numbered o c.in-Some.head.class) t = search rules in
    subst (λ n. n < 2 ^ element_bits (pack_at store cell.0)) (sym (like-kept c.args.value c.args.kind own like))
    (subst (λ v. FitsIn store cell.0 own v) (word-over m c.args.frames.now m.steps (c.args.words - 1) c.args.value (sym c.requires.value))
    (subst (λ n. FitsIn store cell.0 own (word_at (stack_of x) (n - 1))) (sym many)
    (c.requires.takes.2 cell.0 it.object (subst (λ n. word_at (stack_of x) n ≡ ref cell.0) many it.word, it.held)
    (named-fits o it.object c.in-Some.head t c.args.named.0 it.head_is at fits))))

pub returns-clause-did : goal.returns-clause-did
returns-clause-did g c told f at_place steps =
    let p = c.args.program.now in
    let o = p.outline in
    let m = c.args.machine.now in
    let old = c.args.frames.now in
    let x = resumed m old steps in
    let y = resumed c.put_place.new.self c.take.new.frames (steps + 1) in
    let w = c.args.words in
    let cell = c.in-Some.cell in
    let slot = slot_of o.classes f.0 in
    let own = kind_of_field o f.0 in
    let n = kind_words own in
    let many = c.requires.words ∙ like-words c.args.kind own at_place.kind_is in
    let it = found-over o m old steps w cell c.in-Some.head c.in-Some.ensures in
    let t = type_numbered o c.args.named.0 in
    let at = slice_get-get_or o.types c.args.named.0 (type_of_class 0) c.requires.named in
    let fits : true ≡ fits_type o.classes (type_numbered o c.in-Some.head.class) t = search rules in
    carried p g.M.Memory.choose x y (put_field_effect o (used.OfField f c.args.named) (seen p x))
    (acting (n + 1) (Put (OfOperand n) slot own (OfOperand (n - 1)) ∷ []))
    (put_field-named o f c.args.named t (seen p x) at
    ∙ object-told o m.areas.store (stack_of x) n cell c.in-Some.head t true (λ l. acting (n + 1) (Put (OfOperand n) slot own (OfOperand (n - 1)) ∷ []))
    (subst (λ n. Seen o m.areas.store (stack_of x) n cell c.in-Some.head) many it) fits)
    (subst (λ n. DoesIn p g.M.Memory.choose x y (acting (n + 1) (Put (OfOperand n) slot own (OfOperand (n - 1)) ∷ []))) many
    (put-over p g.M.Memory.choose m c.put_place.new.self old c.take.new.frames steps (w + 1) w (w - 1) cell.0 slot own c.args.value c.requires.fits it.word
    (word-over m old steps (w - 1) c.args.value (sym c.requires.value))
    (c.put_place.ensures ∙ like-put m cell.0 c.args.place slot c.args.kind own c.args.value at_place.place_is at_place.kind_is) c.take.ensures))

pub returns-clause-ended : goal.returns-clause-ended
returns-clause-ended g c = ap (λ (x : State). x.ended) c.put_place.ensures
