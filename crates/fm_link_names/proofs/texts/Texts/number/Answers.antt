use Rattle.std.proofs.Common.{sym, ◌∙◌, List, ℕ, Bor}
use Rattle.std.specs.Str.{bytes_eq}
use Rattle.fm_link_names.proofs.PlaceLemmas.{position-map}
use Rattle.fm_link_names.proofs.texts.Texts.number.Goals as goal

pub returns-in-Some : goal.returns-in-Some
returns-in-Some c =
    sym c.in-Some.is ∙ c.get_index_of.ensures.index
    ∙ sym (position-map (λ (b : Bor (List ℕ)). b.now) (bytes_eq c.args.text.now) c.args.self.now.texts.keys)

pub returns-in-None : goal.returns-in-None
returns-in-None c =
    sym c.in-None.is ∙ c.get_index_of.ensures.index
    ∙ sym (position-map (λ (b : Bor (List ℕ)). b.now) (bytes_eq c.args.text.now) c.args.self.now.texts.keys)
