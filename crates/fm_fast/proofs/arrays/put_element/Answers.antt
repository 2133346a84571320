use Rattle.std.proofs.Common.{◌≡◌, ◌+◌, ◌-◌, [], ◌∷◌, true, Some, ap, sym, ◌∙◌, subst, rules}
use Rattle.fm_exec.proofs.ElementSteps.{element-inside, place_in, put-kind, store-is}
use Rattle.fm_exec.proofs.Seen.{carried}
use Rattle.fm_fast.specs.Flows.{resumed}
use Rattle.fm_fast.proofs.CellSteps.{found-over, int-over, put-over, word-over}
use Rattle.fm_fast.proofs.Packing.{head-packed}
use Rattle.fm_fast.proofs.arrays.put_element.Goals as goal
use Rattle.fm_frames.specs.Acts.{put_value}
use Rattle.fm_frames.specs.ArrayRows.{array_store_effect, element_kind, put_element}
use Rattle.fm_frames.specs.Effects.{OfOperand, Put, acting}
use Rattle.fm_frames.specs.Sights.{type_numbered}
use Rattle.fm_frames.specs.States.{ref, State, word_at}
use Rattle.fm_frames.specs.Steps.{stack_of}
use Rattle.fm_frames.specs.inner.Doings.{seen}
use Rattle.fm_frames.specs.inner.Places.{FitsIn}
use Rattle.fm_types.specs.ArrayRows.{is_array_of}

pub is_array-array-requires : goal.is_array-array-requires
is_array-array-requires g c =
    let p = c.args.program.now in
    let m = c.args.machine.now in
    let it = found-over p.outline m c.args.frames.now m.steps (c.args.words + 1) c.in-Some.cell c.in-Some.head c.in-Some.ensures in
    head-packed p m c.in-Some.cell.0 it.object c.in-Some.head c.requires.packed it.held it.head_is

pub kind_of_elements-kind-requires-clause-packed : goal.kind_of_elements-kind-requires-clause-packed
kind_of_elements-kind-requires-clause-packed g c =
    let p = c.args.program.now in
    let m = c.args.machine.now in
    let it = found-over p.outline m c.args.frames.now m.steps (c.args.words + 1) c.in-Some.cell c.in-Some.head c.in-Some.ensures in
    head-packed p m c.in-Some.cell.0 it.object c.in-Some.head c.requires.packed it.held it.head_is

pub kind_of_elements-kind-requires-clause-array : goal.kind_of_elements-kind-requires-clause-array
kind_of_elements-kind-requires-clause-array g c = c.is_array-array.ensures.0 (search rules)

pub put_place-requires : goal.put_place-requires
put_place-requires g c =
    let o = c.args.program.now.outline in
    let m = c.args.machine.now in
    let x = resumed m c.args.frames.now m.steps in
    let store = m.areas.store in
    let w = c.args.words in
    let cell = c.in-Some.cell in
    let it = found-over o m c.args.frames.now m.steps (w + 1) cell c.in-Some.head c.in-Some.ensures in
    let array : is_array_of c.args.e (type_numbered o c.in-Some.head.class) ≡ true = c.is_array-array.ensures.0 (search rules) in
    let kind_is = c.kind_of_elements-kind.ensures in
    subst (λ v. FitsIn store cell.0 c.kind_of_elements-kind.result v) (word-over m c.args.frames.now m.steps (w - 1) c.args.value (sym c.requires.value))
    (subst (λ k. FitsIn store cell.0 k (word_at (stack_of x) (w - 1)))
    (sym (kind_is ∙ sym (λ i. element_kind (type_numbered o (it.head_is i).class))))
    (subst (λ n. FitsIn store cell.0 (element_kind (type_numbered o it.object.class)) (word_at (stack_of x) (n - 1))) (sym c.requires.words)
    (c.requires.takes cell.0 it.object (subst (λ n. word_at (stack_of x) (n + 1) ≡ ref cell.0) c.requires.words it.word, it.held)
    ((λ i. is_array_of c.args.e (type_numbered o (it.head_is i).class)) ∙ array))))

pub returns-clause-did : goal.returns-clause-did
returns-clause-did g c said steps =
    let p = c.args.program.now in
    let o = p.outline in
    let m = c.args.machine.now in
    let old = c.args.frames.now in
    let x = resumed m old steps in
    let y = resumed c.put_place.new.self c.take.new.frames (steps + 1) in
    let w = c.args.words in
    let cell = c.in-Some.cell in
    let place = c.in-Some-place_in.place in
    let i = c.int_there-index.result in
    let own = element_kind (type_numbered o c.in-Some.head.class) in
    let it = found-over o m old steps (w + 1) cell c.in-Some.head c.in-Some.ensures in
    let array : is_array_of c.args.e (type_numbered o c.in-Some.head.class) ≡ true = c.is_array-array.ensures.0 (search rules) in
    let there : place_in c.in-Some.head.len i ≡ Some place = search rules in
    let kind_is = c.kind_of_elements-kind.ensures in
    carried p g.M.Memory.choose x y (array_store_effect o c.args.e (seen p x))
    (acting (w + 2) (Put (OfOperand (w + 1)) place own (OfOperand (w - 1)) ∷ []))
    (store-is o c.args.e (seen p x) w c.requires.words c.requires.number
    ∙ element-inside o m.areas.store (stack_of x) c.args.e w cell c.in-Some.head i place (put_element w) it
    (sym array) (int-over m old steps w (Some i) c.int_there-index.ensures) there
    ∙ put-kind o m.areas.store (stack_of x) (w + 1) cell c.in-Some.head w place it)
    (put-over p g.M.Memory.choose m c.put_place.new.self old c.take.new.frames steps (w + 2) (w + 1) (w - 1) cell.0 place own c.args.value c.requires.fits it.word
    (word-over m old steps (w - 1) c.args.value (sym c.requires.value))
    (c.put_place.ensures ∙ (λ i. record m { areas = put_value m.areas (ref cell.0) place (kind_is i) c.args.value })) c.take.ensures)

pub returns-clause-ended : goal.returns-clause-ended
returns-clause-ended g c = ap (λ (x : State). x.ended) c.put_place.ensures
