use Rattle.std.proofs.Common.{[], ◌∷◌, ◌++◌, ◌∙◌, ap, append_assoc, codes}
use Rattle.fm_code.specs.declared.constant_pool.Entry.TheVariants as entry
use Rattle.fm_gen.proofs.pool.push_object_entries.Goals as goal

pub returns : goal.returns
returns c =
    c.in_ok-push.ensures.items ∙ ap (λ list. list ++ entry.Class 3 ∷ []) c.in_ok-push_text.ensures
    ∙ append_assoc c.args.entries.now.items (entry.Utf8 (codes "java/lang/Object") ∷ []) (entry.Class 3 ∷ [])
