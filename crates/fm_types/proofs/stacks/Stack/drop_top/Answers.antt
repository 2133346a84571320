use Rattle.std.proofs.Common.{◌≡◌, ℕ, ◌+◌, ◌≤◌, ◌-◌, sym, ◌∙◌, ap, List, ◌++◌, length, reverse, take, drop, length-drop, arith}
use Rattle.std.proofs.Math.Seq.{drop-append_seam}
use Rattle.std.proofs.lemmas.List.{length-reverse, reverse-append, take-append-drop}
use Rattle.fm_types.specs.declared.slots.Slot.{Slot}
use Rattle.fm_types.proofs.stacks.Stack.drop_top.Goals as goal

-- the front of a list is what stays of it turned round
front-turned : (xs : List Slot) (k n : ℕ) → k + n ≡ length xs → reverse (take k xs) ≡ drop n (reverse xs)
front-turned xs k n total =
    let joined : reverse xs ≡ reverse (drop k xs) ++ reverse (take k xs) =
    sym (ap reverse (take-append-drop k xs)) ∙ reverse-append (take k xs) (drop k xs) in
    let turned : length (reverse (drop k xs)) ≡ length (drop k xs) = length-reverse (drop k xs) in
    let dropped : length (drop k xs) ≡ length xs - k = length-drop k xs in
    let size : length (reverse (drop k xs)) ≡ n = omega (arith, turned, dropped, total) in
    sym (ap (drop n) joined ∙ ap (λ m. drop m (reverse (drop k xs) ++ reverse (take k xs))) (sym size)
    ∙ drop-append_seam (reverse (drop k xs)) (reverse (take k xs)))

pub truncate-requires : goal.truncate-requires
truncate-requires c = omega (arith, c.len-size.ensures)

pub returns : goal.returns
returns c =
    let xs = c.self.inside.items in
    let turned : length (reverse xs) ≡ length xs = length-reverse xs in
    let deep : c.args.count ≤ length (reverse xs) = rw c.self.view_is c.requires in
    ap reverse c.truncate.ensures
    ∙ front-turned xs (c.len-size.result - c.args.count) c.args.count (omega (arith, turned, deep, c.len-size.ensures))
    ∙ ap (drop c.args.count) c.self.view_is
