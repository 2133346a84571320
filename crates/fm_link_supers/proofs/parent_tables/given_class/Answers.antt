use Rattle.std.proofs.Common.{sym, ◌∙◌, ap, ◌+◌, length}
use Rattle.std.specs.List.{position_from}
use Rattle.std.proofs.lemmas.List.{drop_all}
use Rattle.fm_link_supers.specs.inner.NamedParents.{is_named}
use Rattle.fm_world.specs.BuiltIns.{built_in}
use Rattle.fm_link_supers.proofs.parent_tables.given_class.Goals as goal

pub returns : goal.returns
returns c =
    sym (ap (position_from (is_named c.args.name.now) (length built_in + c.loop-index.index)) (drop_all c.loop-index.index c.args.files.now c.loop-index-test.false))
    ∙ c.loop-index.invariant
