use Rattle.std.proofs.Common.{[], ◌∷◌}
use Rattle.fm_base.proofs.ListFacts.{AllByRecursion-append}
use Rattle.fm_code.specs.Spells.{HasSpelling}
use Rattle.fm_tests_linked.proofs.linking.add_read.Goals as goal

pub returns : goal.returns
returns c =
    rw c.in_ok-push.ensures.items
    (AllByRecursion-append HasSpelling c.args.classes.now.items (c.in_ok-class.class ∷ []) c.requires ((c.args.file.now, c.in_ok-class.ensures.found), tt))
