use Rattle.std.proofs.Common.{◌≡◌, ◌==◌, ◌||◌, false, true, ap, sym, ◌∙◌, arith}
use Rattle.std.proofs.lemmas.Bool.{ne_eqb}
use Rattle.fm_frames.specs.Elements.{chars_type}
use Rattle.fm_frames.specs.Sights.{type_numbered}
use Rattle.fm_native.proofs.Asks.{is_text-told, text-known}
use Rattle.fm_native.proofs.HiddenSteps.{lost-at}
use Rattle.fm_native.proofs.Hidings.{head-held, inner-found, inner-gone, inner-lost, inner-none}
use Rattle.fm_native.proofs.hidden.inner_of.Goals as goal
use Rattle.fm_world.specs.Chains.{same_type}

pub returns-then-cell-eq0-clause-value : goal.returns-then-cell-eq0-clause-value
returns-then-cell-eq0-clause-value g c =
    inner-none c.args.program.now.outline c.args.machine.now.areas.store c.args.held c.element.result c.requires.hides c.element.ensures
    (omega (arith, c.if-cell-eq0.true))

pub returns-in_default-clause-value : goal.returns-in_default-clause-value
returns-in_default-clause-value g c =
    let there : (c.element.result == 0) ≡ false = ne_eqb c.element.result 0 (λ e. absurd (omega (arith, e, c.if-cell-eq0.false))) in
    inner-gone c.args.program.now.outline c.args.machine.now.areas.store c.args.held (record { 0 = c.element.result }) c.requires.hides c.element.ensures there
    (sym c.in_default.is ∙ c.head.ensures)

pub returns-in_default-clause-at : goal.returns-in_default-clause-at
returns-in_default-clause-at g c operand word =
    lost-at c.args.program.now.outline c.args.machine.now operand c.args.held (record { 0 = c.element.result }) word c.element.ensures

pub returns-then-fits-clause-value : goal.returns-then-fits-clause-value
returns-then-fits-clause-value g c =
    let p = c.args.program.now in
    let o = p.outline in
    let store = c.args.machine.now.areas.store in
    let there : (c.element.result == 0) ≡ false = ne_eqb c.element.result 0 (λ e. absurd (omega (arith, e, c.if-cell-eq0.false))) in
    let (object, at, head_is) = head-held store c.element.result c.in-Some.head (sym c.in-Some.is ∙ c.head.ensures) in
    let text =
    is_text-told p c.requires.runnable c.type_numbered.result (record { cell = record { 0 = c.element.result }; head = c.in-Some.head }) object true head_is
    c.type_numbered.ensures.value c.if-fits.ensures in
    inner-found o store c.args.held (record { 0 = c.element.result }) c.in-Some.head object c.requires.hides c.element.ensures there at head_is text

pub returns-then-fits-clause-text : goal.returns-then-fits-clause-text
returns-then-fits-clause-text g c =
    let p = c.args.program.now in
    let o = p.outline in
    let store = c.args.machine.now.areas.store in
    let (object, at, head_is) = head-held store c.element.result c.in-Some.head (sym c.in-Some.is ∙ c.head.ensures) in
    let text =
    is_text-told p c.requires.runnable c.type_numbered.result (record { cell = record { 0 = c.element.result }; head = c.in-Some.head }) object true head_is
    c.type_numbered.ensures.value c.if-fits.ensures in
    text-known o store (record { cell = record { 0 = c.element.result }; head = c.in-Some.head }) object true c.requires.texts at head_is
    (ap (λ b. b || same_type chars_type (type_numbered o object.class)) text)

pub returns-clause-value : goal.returns-clause-value
returns-clause-value g c =
    let p = c.args.program.now in
    let o = p.outline in
    let store = c.args.machine.now.areas.store in
    let there : (c.element.result == 0) ≡ false = ne_eqb c.element.result 0 (λ e. absurd (omega (arith, e, c.if-cell-eq0.false))) in
    let (object, at, head_is) = head-held store c.element.result c.in-Some.head (sym c.in-Some.is ∙ c.head.ensures) in
    let text =
    is_text-told p c.requires.runnable c.type_numbered.result (record { cell = record { 0 = c.element.result }; head = c.in-Some.head }) object false head_is
    c.type_numbered.ensures.value c.if-fits.ensures in
    inner-lost o store c.args.held (record { 0 = c.element.result }) object c.requires.hides c.element.ensures there at text

pub returns-clause-at : goal.returns-clause-at
returns-clause-at g c operand word =
    lost-at c.args.program.now.outline c.args.machine.now operand c.args.held (record { 0 = c.element.result }) word c.element.ensures
