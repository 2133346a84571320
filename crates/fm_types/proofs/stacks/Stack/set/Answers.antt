use Rattle.std.proofs.Common.{◌≡◌, ◌∙◌, ◌+◌, ◌-◌, ℕ, zero, suc, List, [], ◌∷◌, ◌++◌, ap, sym, length, reverse, set, arith}
use Rattle.std.proofs.Math.Seq.{set-append_seam}
use Rattle.std.proofs.lemmas.List.{length-reverse, reverse-append, set-append_left}
use Rattle.fm_types.specs.declared.slots.Slot.{Slot}
use Rattle.fm_types.proofs.stacks.Stack.set.Goals as goal

-- a slot that is put from one end of a list is put from the other end where it is turned round
set_turned : (xs : List Slot) (d i : ℕ) (s : Slot) → d + i + 1 ≡ length xs → reverse (set xs i s) ≡ set (reverse xs) d s
set_turned [] d i s total = absurd (omega (arith, total))
set_turned (x ∷ xs) d zero s total =
    let turned : length (reverse xs) ≡ d = length-reverse xs ∙ omega (arith, total) in
    reverse-append (s ∷ []) xs ∙ sym (set-append_seam (reverse xs) x [] s) ∙ ap (λ (k : ℕ). set (reverse xs ++ x ∷ []) k s) turned
    ∙ ap (λ (ys : List Slot). set ys d s) (sym (reverse-append (x ∷ []) xs))
set_turned (x ∷ xs) d (suc i) s total =
    let turned = length-reverse xs in
    reverse-append (x ∷ []) (set xs i s) ∙ ap (λ (ys : List Slot). ys ++ x ∷ []) (set_turned xs d i s (omega (arith, total)))
    ∙ sym (set-append_left (reverse xs) (x ∷ []) d s (omega (arith, turned, total)))
    ∙ ap (λ (ys : List Slot). set ys d s) (sym (reverse-append (x ∷ []) xs))

pub set-requires : goal.set-requires
set-requires c =
    let turned = length-reverse c.self.inside.items in
    let seen = ap length c.self.view_is in
    omega (arith, turned, seen, c.requires, c.len-size.ensures)

pub returns : goal.returns
returns c =
    let xs = c.self.inside.items in
    let turned = length-reverse xs in
    let seen = ap length c.self.view_is in
    ap reverse c.in_ok-set.ensures
    ∙ set_turned xs c.args.depth (c.len-size.result - 1 - c.args.depth) c.args.slot (omega (arith, turned, seen, c.requires, c.len-size.ensures))
    ∙ ap (λ (ys : List Slot). set ys c.args.depth c.args.slot) c.self.view_is
