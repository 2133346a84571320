use Rattle.std.proofs.Common.{◌≡◌, ◌<◌, ◌-◌, ◌∙◌, Some, ap, sym, length, List, reverse, arith}
use Rattle.std.specs.Prelude.{slice_get}
use Rattle.std.proofs.lemmas.List.{get_or-reverse, length-reverse}
use Rattle.std.proofs.lemmas.Option.{slice_get-get_or, slice_get_past}
use Rattle.fm_types.specs.States.{local_at}
use Rattle.fm_types.specs.declared.slots.Slot.{Slot}
use Rattle.fm_types.specs.declared.slots.Slot.TheVariants as slot
use Rattle.fm_types.proofs.stacks.Stack.get.Goals as goal

pub returns-then-depth-size : goal.returns-then-depth-size
returns-then-depth-size c =
    let turned = length-reverse c.self.inside.items in
    sym (slice_get_past (reverse c.self.inside.items) c.args.depth (omega (arith, turned, c.if-depth-size.true, c.len-size.ensures)))
    ∙ ap (λ (xs : List Slot). slice_get xs c.args.depth) c.self.view_is

pub returns : goal.returns
returns c =
    let xs = c.self.inside.items in
    let turned = length-reverse xs in
    let inside : c.args.depth < length xs = omega (arith, c.if-depth-size.false, c.len-size.ensures) in
    let number : c.len-size.result - 1 - c.args.depth ≡ length xs - 1 - c.args.depth = ap (λ n. n - 1 - c.args.depth) c.len-size.ensures in
    ap (λ (s : Slot). Some s) (c.slot.ensures ∙ ap (local_at xs) number ∙ sym (get_or-reverse xs c.args.depth slot.Top inside))
    ∙ sym (slice_get-get_or (reverse xs) c.args.depth slot.Top (omega (arith, turned, inside)))
    ∙ ap (λ (ys : List Slot). slice_get ys c.args.depth) c.self.view_is
