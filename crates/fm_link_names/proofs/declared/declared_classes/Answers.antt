use Rattle.std.proofs.Common.{◌∙◌, sym, ◌∷◌, [], ◌++◌, ap, append_assoc, arith, map, take}
use Rattle.std.proofs.lemmas.List.{map_more}
use Rattle.fm_link_names.proofs.DeclareLemmas.{all_declared, file_has_texts}
use Rattle.fm_link_names.specs.inner.Declaring.{declared_file}
use Rattle.fm_world.specs.BuiltIns.{built_in}
use Rattle.fm_link_names.proofs.declared.declared_classes.Goals as goal

pub loop-file-preserved : goal.loop-file-preserved
loop-file-preserved c = λ given are.
    let files = c.args.files.now in
    let i = c.loop-file.file-index in
    let has = file_has_texts c.args.shared.now given files i c.file-item.result are c.loop-file-test.true c.file-item.is in
    let declared = map declared_file (take i files) in
    c.in_ok-push.ensures.items
    ∙ ap (λ classes. classes ++ c.in_ok-declared_class.field-0 ∷ []) (c.loop-file.invariant given are)
    ∙ append_assoc built_in declared (c.in_ok-declared_class.field-0 ∷ [])
    ∙ ap (λ class. built_in ++ (declared ++ class ∷ [])) (c.in_ok-declared_class.ensures has ∙ ap declared_file c.file-item.is)
    ∙ ap (λ classes. built_in ++ classes) (sym (map_more declared_file files i c.file-item.result c.loop-file-test.true))

pub returns : goal.returns
returns c = λ given are.
    c.loop-file.invariant given are
    ∙ all_declared c.args.shared.now given c.args.files.now c.loop-file.file-index are (omega (arith, c.loop-file-test.false))
