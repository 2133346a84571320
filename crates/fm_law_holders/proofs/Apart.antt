-- Two places that the checker has for objects of two items never lead to one object.
use Rattle.std.proofs.Common.{◌≡◌, ℕ, sym, ◌∙◌, ap}
use Rattle.std.proofs.lemmas.Option.{same_Some}
use Rattle.fm_cells.specs.Objects.{Object}
use Rattle.fm_cells.specs.Stores.{object_at, Store}
use Rattle.fm_law_holders.specs.Uninitialised.{IsMadeAt, Made}

pub items_same : (store : Store) (made : Made) (item other cell twin : ℕ) → IsMadeAt store made item cell → IsMadeAt store made other twin → cell ≡ twin
    → item ≡ other
items_same store made item other cell twin one two same =
    let objects : one.object ≡ two.object = same_Some one.object two.object (sym one.held ∙ ap (λ c. object_at store c) same ∙ two.held) in
    sym one.made_is ∙ ap (λ (object : Object). made object.birth) objects ∙ two.made_is
