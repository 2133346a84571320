use Rattle.std.proofs.Common.{◌≡◌, ◌+◌, true, Some, refl, sym, ◌∙◌, subst, rules}
use Rattle.fm_exec.proofs.ElementSteps.{element-inside, load-is, load-kind, load_of, place_in}
use Rattle.fm_exec.proofs.FieldSteps.{place-source}
use Rattle.fm_exec.proofs.Seen.{carried}
use Rattle.fm_fast.specs.Flows.{resumed}
use Rattle.fm_fast.proofs.CellSteps.{found-over, int-over}
use Rattle.fm_fast.proofs.Packing.{head-packed}
use Rattle.fm_fast.proofs.arrays.load_of.Goals as goal
use Rattle.fm_frames.specs.ArrayRows.{array_load_effect, element_kind}
use Rattle.fm_frames.specs.Effects.{OfPlace, loaded, words}
use Rattle.fm_frames.specs.Sights.{type_numbered}
use Rattle.fm_frames.specs.Steps.{stack_of}
use Rattle.fm_frames.specs.inner.Doings.{DoesIn, seen}
use Rattle.fm_frames.specs.inner.Places.{element_at, IsOfKind}
use Rattle.fm_types.specs.ArrayRows.{is_array_of}

pub is_array-array-requires : goal.is_array-array-requires
is_array-array-requires g c =
    let p = c.args.program.now in
    let m = c.args.machine.now in
    let it = found-over p.outline m c.args.frames.now m.steps 1 c.in-Some.cell c.in-Some.head c.in-Some.ensures in
    head-packed p m c.in-Some.cell.0 it.object c.in-Some.head c.requires.packed it.held it.head_is

pub kind_of_elements-kind-requires-clause-packed : goal.kind_of_elements-kind-requires-clause-packed
kind_of_elements-kind-requires-clause-packed g c =
    let p = c.args.program.now in
    let m = c.args.machine.now in
    let it = found-over p.outline m c.args.frames.now m.steps 1 c.in-Some.cell c.in-Some.head c.in-Some.ensures in
    head-packed p m c.in-Some.cell.0 it.object c.in-Some.head c.requires.packed it.held it.head_is

pub kind_of_elements-kind-requires-clause-array : goal.kind_of_elements-kind-requires-clause-array
kind_of_elements-kind-requires-clause-array g c = c.is_array-array.ensures.0 (search rules)

pub place-value-requires : goal.place-value-requires
place-value-requires g c =
    let o = c.args.program.now.outline in
    let m = c.args.machine.now in
    let it = found-over o m c.args.frames.now m.steps 1 c.in-Some.cell c.in-Some.head c.in-Some.ensures in
    let array : is_array_of c.args.e (type_numbered o c.in-Some.head.class) ≡ true = c.is_array-array.ensures.0 (search rules) in
    let n = element_at m.areas.store c.in-Some.cell.0 c.in-Some-place_in.place in
    subst (λ k. IsOfKind k n) (sym (c.kind_of_elements-kind.ensures ∙ sym (λ i. element_kind (type_numbered o (it.head_is i).class))))
    (c.requires.holds c.in-Some.cell.0 c.in-Some-place_in.place it.object (it.word, it.held)
    ((λ i. is_array_of c.args.e (type_numbered o (it.head_is i).class)) ∙ array))

pub returns-clause-did : goal.returns-clause-did
returns-clause-did g c said steps =
    let p = c.args.program.now in
    let o = p.outline in
    let m = c.args.machine.now in
    let old = c.args.frames.now in
    let x = resumed m old steps in
    let y = resumed m c.give_kind.new.frames (steps + 1) in
    let place = c.in-Some-place_in.place in
    let i = c.int_there-index.result in
    let own = element_kind (type_numbered o c.in-Some.head.class) in
    let it = found-over o m old steps 1 c.in-Some.cell c.in-Some.head c.in-Some.ensures in
    let array : is_array_of c.args.e (type_numbered o c.in-Some.head.class) ≡ true = c.is_array-array.ensures.0 (search rules) in
    let there : place_in c.in-Some.head.len i ≡ Some place = search rules in
    let kind_is = c.kind_of_elements-kind.ensures in
    carried p g.M.Memory.choose x y (array_load_effect o c.args.e (seen p x)) (words 2 (loaded own (OfPlace 1 place own)))
    (load-is o c.args.e (seen p x)
    ∙ element-inside o m.areas.store (stack_of x) c.args.e 0 c.in-Some.cell c.in-Some.head i place load_of it (sym array)
    (int-over m old steps 0 (Some i) c.int_there-index.ensures) there
    ∙ load-kind o m.areas.store (stack_of x) 1 c.in-Some.cell c.in-Some.head place it)
    (subst (λ k. DoesIn p g.M.Memory.choose x y (words 2 (loaded k (OfPlace 1 place own)))) kind_is
    (c.give_kind.ensures.did said p g.M.Memory.choose (record m { steps = steps }) (OfPlace 1 place own)
    (place-source x 1 c.in-Some.cell.0 place place c.kind_of_elements-kind.result own it.word refl kind_is ∙ sym c.place-value.ensures)))
