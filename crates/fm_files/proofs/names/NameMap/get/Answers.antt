use Rattle.std.proofs.Common.{sym, ap, ◌∙◌}
use Rattle.std.specs.FinMap.{get}
use Rattle.fm_files.proofs.NamesLemmas.{get-by_bytes}
use Rattle.fm_files.proofs.names.NameMap.get.Goals as goal

pub returns : goal.returns
returns g c =
    c.get.ensures.value ∙ sym (get-by_bytes c.self.inside.entries c.args.name.now) ∙ ap (λ m. get m c.args.name.now) c.self.view_is
