use Rattle.std.proofs.Common.{List, ℕ, ◌↔◌, ◌≡◌, sym, subst, arith}
use Rattle.std.specs.Option.{option_copied}
use Rattle.fm_base.specs.inner.Texts.{StartsWithUnit}
use Rattle.fm_base.proofs.UnitFronts.{found}
use Rattle.fm_base.proofs.UnitFronts.{one_decided}
use Rattle.fm_base.proofs.modified_utf8.after_unit.Goals as goal

pub returns-in-1-to-127 : goal.returns-in-1-to-127
returns-in-1-to-127 c = λ rest.
    subst (λ (bytes : List ℕ). StartsWithUnit bytes rest ↔ (found c.in_ok-first.rest.now ≡ found rest)) (sym c.in_ok-first.ensures.cases.0)
    (one_decided c.in_ok-first.first.now c.in_ok-first.rest.now rest (omega arith) (omega arith))

pub returns-in-192-to-223 : goal.returns-in-192-to-223
returns-in-192-to-223 c = λ rest.
    subst (λ (bytes : List ℕ). StartsWithUnit bytes rest ↔ (option_copied c.after_pair.result ≡ found rest)) (sym c.in_ok-first.ensures.cases.0) (c.after_pair.ensures rest)

pub returns-in-224-to-239 : goal.returns-in-224-to-239
returns-in-224-to-239 c = λ rest.
    subst (λ (bytes : List ℕ). StartsWithUnit bytes rest ↔ (option_copied c.after_triple.result ≡ found rest)) (sym c.in_ok-first.ensures.cases.0) (c.after_triple.ensures rest)
