-- An element that a list lends.
use Rattle.std.proofs.Common.{ℕ, List, Some, Bor, Contains, sym}
use Rattle.std.specs.Slice.{IsItemAt}

pub lent_there : {X : Type 0} (xs : List X) (i : ℕ) (x : Bor X) → IsItemAt xs i (Some x) → Contains xs x.now
lent_there xs i x item = (i, item.3.0, sym item.1)
