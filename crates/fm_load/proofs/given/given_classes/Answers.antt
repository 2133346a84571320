use Rattle.std.proofs.Common.{◌≤◌, ℕ, Option, IfSome, subst}
use Rattle.fm_load.proofs.given.given_classes.Goals as goal

pub with_made-requires-clause-at_least : goal.with_made-requires-clause-at_least
with_made-requires-clause-at_least g c =
    let P : Option ℕ → Type 0 = λ number. IfSome number (λ n. (1 ≤ n) × (n ≤ 100)) in (subst P c.in-Some.is c.requires.alone).0

pub with_made-requires-clause-at_most : goal.with_made-requires-clause-at_most
with_made-requires-clause-at_most g c =
    let P : Option ℕ → Type 0 = λ number. IfSome number (λ n. (1 ≤ n) × (n ≤ 100)) in (subst P c.in-Some.is c.requires.alone).1
