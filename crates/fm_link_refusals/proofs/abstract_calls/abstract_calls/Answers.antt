use Rattle.std.proofs.Common.{◌∙◌, sym, ap, ◌++◌, ◌∷◌, [], zero-add}
use Rattle.std.proofs.Common.{map}
use Rattle.std.specs.List.{range_with_len}
use Rattle.std.proofs.lemmas.List.FromFn.{map-range_with_len_more}
use Rattle.fm_link_refusals.specs.inner.Abstracts.{calls_abstract_at}
use Rattle.fm_link_refusals.specs.inner.GivenClasses.{class_in}
use Rattle.fm_link_refusals.proofs.abstract_calls.abstract_calls.Goals as goal

pub loop-place-preserved : goal.loop-place-preserved
loop-place-preserved c = λ classes linked within.
    let test = calls_abstract_at classes (class_in c.args.file.now) c.args.class in
    c.in_ok-push.ensures.items
    ∙ ap (λ marks. marks ++ c.calls_abstract_at.result ∷ []) (c.loop-place.invariant classes linked within)
    ∙ ap (λ b. map test (range_with_len 0 c.loop-place.place) ++ b ∷ [])
    (c.calls_abstract_at.ensures classes linked within ∙ ap test c.in_ok-index.ensures)
    ∙ sym (map-range_with_len_more test 0 c.loop-place.place c.loop-place.place (zero-add c.loop-place.place))
