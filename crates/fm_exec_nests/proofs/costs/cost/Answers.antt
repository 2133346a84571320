use Rattle.std.proofs.Common.{◌≡◌, None, Some, length, min, max, option_map, refl, slice_get, sym, ap, ◌∙◌, rules}
use Rattle.std.proofs.lemmas.Bool.{ltb-false, ltb-true}
use Rattle.std.proofs.lemmas.Option.{slice_get_read}
use Rattle.std.specs.Option.{option_copied}
use Rattle.fm_exec.specs.Steps.{seen}
use Rattle.fm_frames.specs.ArrayRows.{multi_array_effect}
use Rattle.fm_frames.specs.Steps.{most_words, objects_made}
use Rattle.fm_frames.specs.inner.Frames.{place, place_of, topmost}
use Rattle.fm_exec_nests.proofs.CostSteps.{cost-at, cost-cheap, cost-nest, cost-none, found-insn, insn-found, insn-missing, IsOnTop, nest-insn, no-frames, on-top, past-items}
use Rattle.fm_exec_nests.proofs.costs.cost.Goals as goal
use Rattle.fm_exec_nests.specs.inner.Costs.{nest_of}
use Rattle.fm_types.specs.Typed.{use_in}
use Rattle.fm_world.specs.Programs.{code_at}

pub returns-in_default : goal.returns-in_default
returns-in_default g c =
    let p = c.args.program.now in
    let x = c.args.machine.now in
    let none : None ≡ option_map place_of (topmost x.frames) = sym (ap (option_map place) c.in_default.is) ∙ c.topmost.ensures in
    ap (λ n. min n most_words) (sym (cost-none p x (no-frames x.frames none)))

pub returns-in_default-code_of : goal.returns-in_default-code_of
returns-in_default-code_of g c =
    let p = c.args.program.now in
    let x = c.args.machine.now in
    let m = c.in-Some.topmost.method.0 in
    let item = c.in-Some.topmost.item in
    let top : IsOnTop x.frames m item = on-top x.frames m item (sym (ap (option_map place) c.in-Some.is) ∙ c.topmost.ensures) in
    let none : None ≡ code_at p m = sym (ap option_copied c.in_default-code_of.is) ∙ c.code_of.ensures c.requires in
    ap (λ n. min n most_words) (sym (cost-at p x top.frame top.callers None top.frames_are (found-insn p x.frames m item top None none)))

pub returns-in_default-get : goal.returns-in_default-get
returns-in_default-get g c =
    let p = c.args.program.now in
    let x = c.args.machine.now in
    let m = c.in-Some.topmost.method.0 in
    let item = c.in-Some.topmost.item in
    let code = c.in-Some-code_of.code.now in
    let top : IsOnTop x.frames m item = on-top x.frames m item (sym (ap (option_map place) c.in-Some.is) ∙ c.topmost.ensures) in
    let some : Some code ≡ code_at p m = sym (ap option_copied c.in-Some-code_of.is) ∙ c.code_of.ensures c.requires in
    let none : slice_get code.items item ≡ None = past-items code.items item (ltb-false item (length code.items) (sym c.in_default-get.ensures.0)) in
    ap (λ n. min n most_words) (sym (cost-at p x top.frame top.callers None top.frames_are (insn-missing p x.frames m item top code some none)))

pub returns-in-Some-nest_of : goal.returns-in-Some-nest_of
returns-in-Some-nest_of g c =
    let p = c.args.program.now in
    let x = c.args.machine.now in
    let m = c.in-Some.topmost.method.0 in
    let item = c.in-Some.topmost.item in
    let code = c.in-Some-code_of.code.now in
    let found = c.in-Some-get.item.now in
    let index = c.in-Some-nest_of.index in
    let dimensions = c.in-Some-nest_of.dimensions in
    let top : IsOnTop x.frames m item = on-top x.frames m item (sym (ap (option_map place) c.in-Some.is) ∙ c.topmost.ensures) in
    let some : Some code ≡ code_at p m = sym (ap option_copied c.in-Some-code_of.is) ∙ c.code_of.ensures c.requires in
    let at : slice_get code.items item ≡ Some found =
    slice_get_read code.items (length code.items) item found refl (ltb-true item (length code.items) (sym c.in-Some-get.ensures.0)) c.in-Some-get.ensures.1 in
    let nest : nest_of found.insn ≡ Some (index, dimensions) = search rules in
    let here = insn-found p x.frames m item top code found some at ∙ ap (λ i. Some i) (nest-insn found.insn index dimensions nest) in
    c.nest_cost.ensures
    ∙ ap (λ method. min (max 1 (objects_made (multi_array_effect p.outline (use_in p method index) dimensions (seen p x)).actions)) most_words) (sym top.method_is)
    ∙ ap (λ n. min n most_words) (sym (cost-nest p x top.frame top.callers index dimensions top.frames_are here))

pub returns-in-None : goal.returns-in-None
returns-in-None g c =
    let p = c.args.program.now in
    let x = c.args.machine.now in
    let m = c.in-Some.topmost.method.0 in
    let item = c.in-Some.topmost.item in
    let code = c.in-Some-code_of.code.now in
    let found = c.in-Some-get.item.now in
    let top : IsOnTop x.frames m item = on-top x.frames m item (sym (ap (option_map place) c.in-Some.is) ∙ c.topmost.ensures) in
    let some : Some code ≡ code_at p m = sym (ap option_copied c.in-Some-code_of.is) ∙ c.code_of.ensures c.requires in
    let at : slice_get code.items item ≡ Some found =
    slice_get_read code.items (length code.items) item found refl (ltb-true item (length code.items) (sym c.in-Some-get.ensures.0)) c.in-Some-get.ensures.1 in
    let other : nest_of found.insn ≡ None = search rules in
    ap (λ n. min n most_words)
    (sym (cost-cheap p x top.frame top.callers found.insn c.requires top.frames_are (insn-found p x.frames m item top code found some at) other))
