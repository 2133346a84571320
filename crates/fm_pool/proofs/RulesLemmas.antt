-- What the facts of two texts say of them as a name with a descriptor.
use Rattle.std.proofs.Common.{◌↔◌, ℕ, ◌⊎◌, Bool, IsTrue, IsSomeAnd, Option, Some, None, List}
use Rattle.fm_code.specs.ConstantPool.{IsFieldPair, IsMethodPair}
use Rattle.fm_pool_texts.specs.Facts.{AreFactsOf, AreFactsAt}
use Rattle.fm_pool_texts.specs.declared.facts.TextFacts.{TextFacts}

-- what decides texts decides those that are there
pub pair_decides : (o p : Option (List ℕ)) (name descriptor : TextFacts) (r : Bool) → AreFactsAt o (Some name) → AreFactsAt p (Some descriptor)
    → ((n d : List ℕ) → AreFactsOf n name → AreFactsOf d descriptor → IsTrue r ↔ (IsFieldPair (n, d) ⊎ IsMethodPair (n, d)))
    → IsTrue r ↔ IsSomeAnd o (λ n. IsSomeAnd p (λ d. IsFieldPair (n, d) ⊎ IsMethodPair (n, d)))
pair_decides None p name descriptor r of_o of_p decides = absurd of_o
pair_decides (Some n) None name descriptor r of_o of_p decides = absurd of_p
pair_decides (Some n) (Some d) name descriptor r of_o of_p decides = decides n d of_o of_p
