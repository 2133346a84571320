use Rattle.std.proofs.Common.{◌≡◌, ◌-◌, ◌<◌, false, [], ◌∷◌, get_or, length, take, drop, None, Some, ap, sym, ◌∙◌, subst, rules, arith}
use Rattle.std.proofs.lemmas.List.{nil_from_length}
use Rattle.fm_base.specs.declared.kinds.Kind.TheVariants as kind
use Rattle.fm_cells.specs.Objects.{request_of}
use Rattle.fm_frames.proofs.TextSteps.{wide-fits}
use Rattle.fm_frames.specs.Acts.{requested}
use Rattle.fm_frames.specs.ArrayRows.{element_type}
use Rattle.fm_frames.specs.inner.Doings.{Makes}
use Rattle.fm_exec_nests.proofs.NestStores.{array-wide}
use Rattle.fm_exec_nests.proofs.NestSteps.{asked-as, element-can, filling-begins, filling-ended, filling-next, filling-stopped, lens-are, nest-full, nest-one}
use Rattle.fm_exec_nests.proofs.nests.+make_nest.Goals as goal
use Rattle.fm_exec_nests.specs.inner.Nests.{CanNest, IsNest, Nests}

pub returns-in_default : goal.returns-in_default
returns-in_default g k c =
    let p = c.args.program.now in
    let choose = g.M.Memory.choose in
    let a = c.args.machine.now in
    let y = c.make_object.new.self in
    let t = c.args.t in
    let lens = c.args.lens.now in
    let len = get_or lens 0 0 in
    let inner = take (length lens - 1) (drop 1 lens) in
    let is : lens ≡ len ∷ inner = lens-are lens 0 c.requires.can.are.some in
    let makes : Makes choose a y (requested p.outline t len false) [] None =
    asked-as p choose a y t c.type_id-id.result.0 len c.pack_of.result None c.type_id-id.ensures.number (c.pack_of.ensures.value c.requires.runnable)
    (subst (Makes choose a y (request_of c.type_id-id.result.0 len c.pack_of.result false) []) c.in_default.is c.in_ok-array.ensures) in
    subst (λ lens. Nests p choose a y t lens None) (sym is) (nest-full p choose a y t len inner makes)

pub returns-then-inner-eq0 : goal.returns-then-inner-eq0
returns-then-inner-eq0 g k c =
    let p = c.args.program.now in
    let choose = g.M.Memory.choose in
    let a = c.args.machine.now in
    let y = c.make_object.new.self in
    let t = c.args.t in
    let lens = c.args.lens.now in
    let len = get_or lens 0 0 in
    let inner = take (length lens - 1) (drop 1 lens) in
    let is : lens ≡ len ∷ inner = lens-are lens 0 c.requires.can.are.some in
    let none : inner ≡ [] = nil_from_length inner c.if-inner-eq0.true in
    let makes : Makes choose a y (requested p.outline t len false) [] (Some c.in-Some.array) =
    asked-as p choose a y t c.type_id-id.result.0 len c.pack_of.result (Some c.in-Some.array) c.type_id-id.ensures.number (c.pack_of.ensures.value c.requires.runnable)
    (subst (Makes choose a y (request_of c.type_id-id.result.0 len c.pack_of.result false) []) c.in-Some.is c.in_ok-array.ensures) in
    subst (λ lens. IsNest p choose a y t lens c.in-Some.array.0) (sym (is ∙ ap (λ xs. len ∷ xs) none)) (nest-one p choose a y t len c.in-Some.array makes)

pub loop-place-init : goal.loop-place-init
loop-place-init g k c =
    filling-begins c.args.program.now g.M.Memory.choose c.make_object.new.self c.args.t (get_or c.args.lens.now 0 0)
    (take (length c.args.lens.now - 1) (drop 1 c.args.lens.now)) c.in-Some.array.0

pub make_nest-requires : goal.make_nest-requires
make_nest-requires g k c κs lives =
    let p = c.args.program.now in
    let choose = g.M.Memory.choose in
    let a = c.args.machine.now in
    let y = c.make_object.new.self in
    let t = c.args.t in
    let lens = c.args.lens.now in
    let len = get_or lens 0 0 in
    let inner = take (length lens - 1) (drop 1 lens) in
    let is : lens ≡ len ∷ inner = lens-are lens 0 c.requires.can.are.some in
    let makes : Makes choose a y (requested p.outline t len false) [] (Some c.in-Some.array) =
    asked-as p choose a y t c.type_id-id.result.0 len c.pack_of.result (Some c.in-Some.array) c.type_id-id.ensures.number (c.pack_of.ensures.value c.requires.runnable)
    (subst (Makes choose a y (request_of c.type_id-id.result.0 len c.pack_of.result false) []) c.in-Some.is c.in_ok-array.ensures) in
    let some : 0 < length inner = omega (arith, c.if-inner-eq0.false) in
    let can : CanNest p.outline c.loop-place.machine c.element_type-element.result inner =
    subst (λ e. CanNest p.outline c.loop-place.machine e inner) (sym c.element_type-element.ensures)
    (element-can p choose a y c.loop-place.machine t len inner c.in-Some.array c.loop-place.place some c.loop-place-test.true makes c.loop-place.invariant
    (subst (CanNest p.outline a t) is c.requires.can)) in
    search (rules, can)

pub returns-in_default-2 : goal.returns-in_default-2
returns-in_default-2 g k c =
    let p = c.args.program.now in
    let choose = g.M.Memory.choose in
    let a = c.args.machine.now in
    let y = c.make_object.new.self in
    let z = c.loop-place.machine in
    let w = c.make_nest.new.machine in
    let t = c.args.t in
    let lens = c.args.lens.now in
    let len = get_or lens 0 0 in
    let inner = take (length lens - 1) (drop 1 lens) in
    let is : lens ≡ len ∷ inner = lens-are lens 0 c.requires.can.are.some in
    let makes : Makes choose a y (requested p.outline t len false) [] (Some c.in-Some.array) =
    asked-as p choose a y t c.type_id-id.result.0 len c.pack_of.result (Some c.in-Some.array) c.type_id-id.ensures.number (c.pack_of.ensures.value c.requires.runnable)
    (subst (Makes choose a y (request_of c.type_id-id.result.0 len c.pack_of.result false) []) c.in-Some.is c.in_ok-array.ensures) in
    let some : 0 < length inner = omega (arith, c.if-inner-eq0.false) in
    let stops : Nests p choose z w (element_type t) inner None =
    subst (λ e. Nests p choose z w e inner None) c.element_type-element.ensures
    (subst (Nests p choose z w c.element_type-element.result inner) c.in_default-2.is c.in_ok-held.ensures) in
    subst (λ lens. Nests p choose a w t lens None) (sym is)
    (filling-stopped p choose a y z w t len inner c.in-Some.array c.loop-place.place some c.loop-place-test.true makes c.loop-place.invariant stops)

pub put_place-requires : goal.put_place-requires
put_place-requires g k c =
    let p = c.args.program.now in
    let choose = g.M.Memory.choose in
    let a = c.args.machine.now in
    let y = c.make_object.new.self in
    let z = c.loop-place.machine in
    let w = c.make_nest.new.machine in
    let t = c.args.t in
    let lens = c.args.lens.now in
    let len = get_or lens 0 0 in
    let inner = take (length lens - 1) (drop 1 lens) in
    let is : lens ≡ len ∷ inner = lens-are lens 0 c.requires.can.are.some in
    let makes : Makes choose a y (requested p.outline t len false) [] (Some c.in-Some.array) =
    asked-as p choose a y t c.type_id-id.result.0 len c.pack_of.result (Some c.in-Some.array) c.type_id-id.ensures.number (c.pack_of.ensures.value c.requires.runnable)
    (subst (Makes choose a y (request_of c.type_id-id.result.0 len c.pack_of.result false) []) c.in-Some.is c.in_ok-array.ensures) in
    let some : 0 < length inner = omega (arith, c.if-inner-eq0.false) in
    let within = (subst (CanNest p.outline a t) is c.requires.can).are.deep in
    let deep : 1 < t.dims = omega (arith, within, some) in
    let nest : IsNest p choose z w c.element_type-element.result inner c.in-Some-2.held.0 =
    subst (Nests p choose z w c.element_type-element.result inner) c.in-Some-2.is c.in_ok-held.ensures in
    wide-fits w.areas.store c.in-Some.array.0 (kind.Ref c.element_type-element.result) c.in-Some-2.held
    (nest.grows.wide c.in-Some.array.0 (c.loop-place.invariant.grows.wide c.in-Some.array.0 (array-wide p.outline choose a y t len c.in-Some.array deep makes)))
    (omega arith)

pub loop-place-preserved : goal.loop-place-preserved
loop-place-preserved g k c =
    let p = c.args.program.now in
    let choose = g.M.Memory.choose in
    let z = c.loop-place.machine in
    let w = c.make_nest.new.machine in
    let t = c.args.t in
    let lens = c.args.lens.now in
    let inner = take (length lens - 1) (drop 1 lens) in
    let nest : IsNest p choose z w (element_type t) inner c.in-Some-2.held.0 =
    subst (λ e. IsNest p choose z w e inner c.in-Some-2.held.0) c.element_type-element.ensures
    (subst (Nests p choose z w c.element_type-element.result inner) c.in-Some-2.is c.in_ok-held.ensures) in
    filling-next p choose c.make_object.new.self z w c.put_place.new.self t (get_or lens 0 0) inner c.in-Some.array c.loop-place.place c.in-Some-2.held
    (kind.Ref c.element_type-element.result) c.loop-place-test.true c.loop-place.invariant nest c.put_place.ensures

pub returns : goal.returns
returns g k c =
    let p = c.args.program.now in
    let choose = g.M.Memory.choose in
    let a = c.args.machine.now in
    let y = c.make_object.new.self in
    let t = c.args.t in
    let lens = c.args.lens.now in
    let len = get_or lens 0 0 in
    let inner = take (length lens - 1) (drop 1 lens) in
    let is : lens ≡ len ∷ inner = lens-are lens 0 c.requires.can.are.some in
    let makes : Makes choose a y (requested p.outline t len false) [] (Some c.in-Some.array) =
    asked-as p choose a y t c.type_id-id.result.0 len c.pack_of.result (Some c.in-Some.array) c.type_id-id.ensures.number (c.pack_of.ensures.value c.requires.runnable)
    (subst (Makes choose a y (request_of c.type_id-id.result.0 len c.pack_of.result false) []) c.in-Some.is c.in_ok-array.ensures) in
    let some : 0 < length inner = omega (arith, c.if-inner-eq0.false) in
    let all : c.loop-place.place ≡ len = omega (arith, c.loop-place.auto.place-end, c.loop-place-test.false) in
    subst (λ lens. IsNest p choose a c.loop-place.machine t lens c.in-Some.array.0) (sym is)
    (filling-ended p choose a y c.loop-place.machine t len inner c.in-Some.array c.loop-place.place some all makes c.loop-place.invariant)
