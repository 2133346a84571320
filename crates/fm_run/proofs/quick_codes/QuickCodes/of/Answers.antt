use Rattle.std.proofs.Common.{◌++◌, [], ◌∷◌, map, ap, sym, ◌∙◌, zero-add}
use Rattle.std.specs.List.{range_with_len}
use Rattle.std.proofs.lemmas.List.FromFn.{map-range_with_len_more}
use Rattle.fm_run.proofs.quick_codes.QuickCodes.of.Goals as goal
use Rattle.fm_run.specs.inner.Quicks.{quicks_in}
use Rattle.fm_world.specs.Programs.{code_at}

pub loop-number-preserved : goal.loop-number-preserved
loop-number-preserved c =
    let p = c.args.program.now in
    let n = c.loop-number.number in
    c.in_ok-push.ensures.items
    ∙ ap (λ codes. codes ++ c.in_ok-quicks.quicks ∷ []) c.loop-number.invariant
    ∙ ap (λ q. map (λ m. quicks_in p m (code_at p m)) (range_with_len 0 n) ++ q ∷ []) c.in_ok-quicks.ensures
    ∙ sym (map-range_with_len_more (λ m. quicks_in p m (code_at p m)) 0 n n (zero-add n))
