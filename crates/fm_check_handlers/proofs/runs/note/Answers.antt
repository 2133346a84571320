use Rattle.std.proofs.Common.{◌∙◌, ap, ◌∷◌, [], ◌++◌, List}
use Rattle.fm_check_handlers.proofs.RunLemmas.{IsOneMore-made, one_more, read_fresh, read_run}
use Rattle.fm_code.specs.declared.code_array.Handler.{Handler}
use Rattle.fm_check_handlers.proofs.runs.note.Goals as goal

pub returns : goal.returns
returns c =
    let made = c.make_run.new.runs.items in
    let read = c.index_mut.result.now in
    let inside = c.in_ok-make_run.ensures.inside in
    IsOneMore-made c.args.place c.args.entry c.args.runs.now.items made _ c.in_ok-make_run.ensures
    (one_more made c.args.place c.args.entry _ inside
    (c.in_ok-push.ensures.items
    ∙ ap (λ (es : List Handler). es ++ c.args.entry ∷ []) (read_run made c.args.place read read inside c.index_mut.ensures.value))
    (λ were. read_fresh made c.args.place read read inside c.index_mut.ensures.value were))
