use Rattle.std.proofs.Common.{◌≡◌, ℕ, List, Option, Some, IsSomeAnd, Contains, refl, sym, ◌∙◌, arith, codes}
use Rattle.fm_base.proofs.OptionFacts.{IsSomeAnd-from_some}
use Rattle.fm_code.specs.ConstantPool.{utf8_at}
use Rattle.fm_read.specs.inner.MemberRules.{int_descriptors}
use Rattle.fm_read.proofs.fields.is_int_like.Goals as goal
use Rattle.fm_read.proofs.fields.is_int_like.Goals.{then-is_letter, else-is_letter, then-is_letter-2, else-is_letter-2, then-is_letter-3, else-is_letter-3}

-- a text that is one of the five
is_one : (o : Option (List ℕ)) (text : List ℕ) → Contains int_descriptors text → o ≡ Some text → IsSomeAnd o (Contains int_descriptors)
is_one o text among e = IsSomeAnd-from_some o (Contains int_descriptors) text e among

pub returns-then-is_letter-4 : goal.returns-then-is_letter-4
returns-then-is_letter-4 c =
    let o = utf8_at c.args.known.now.entries c.args.descriptor in
    let among : IsSomeAnd o (Contains int_descriptors) =
    elim c.if-is_letter-3.branch [
      | then-is_letter-3 v ↦ elim c.if-is_letter-2.branch [
        | then-is_letter-2 w ↦ elim c.if-is_letter.branch [
          | then-is_letter x ↦ is_one o (codes "I") (0, omega arith, refl) (c.is_letter.ensures.0 x.if-is_letter.true)
          | else-is_letter x ↦ is_one o (codes "S") (1, omega arith, refl) (x.is_letter-else-is_letter.ensures.0 (sym x.value-is ∙ w.if-is_letter-2.true))
        ]
        | else-is_letter-2 w ↦ is_one o (codes "C") (2, omega arith, refl) (w.is_letter-else-is_letter-2.ensures.0 (sym w.value-is ∙ v.if-is_letter-3.true))
      ]
      | else-is_letter-3 v ↦ is_one o (codes "B") (3, omega arith, refl) (v.is_letter-else-is_letter-3.ensures.0 (sym v.value-is ∙ c.if-is_letter-4.true))
    ]
    in (λ _. among, λ _. c.if-is_letter-4.true)
