use Rattle.std.proofs.Common.{◌≡◌, List, length, ℕ, None, refl, sym, ap, subst, ◌∙◌, arith, get_or}
use Rattle.fm_pool_texts.specs.inner.NameParts.{AreResultFacts}
use Rattle.fm_pool_texts.specs.declared.descriptors.MethodFacts.{MethodFacts}
use Rattle.fm_base.proofs.ListFacts.{same_tail}
use Rattle.fm_base.proofs.UnitFronts.{found}
use Rattle.fm_pool_texts.proofs.DescriptorsLemmas.{cons_is, field_takes}
use Rattle.fm_pool_texts.proofs.MethodDescriptors.{known, IsMethodRest, method_start, method_next, method_ends, method_done}
use Rattle.fm_pool_texts.proofs.descriptors.method_facts_after.Goals as goal

no_facts : (m : MethodFacts) → None ≡ known m → ⊥
no_facts m e = cc

pub loop-after-init : goal.loop-after-init
loop-after-init c = record { fits = omega arith; decides = λ m. method_start m c.args.bytes.now }

pub loop-after-smaller : goal.loop-after-smaller
loop-after-smaller c = field_takes c.loop-after.rest.now c.in-Some.after.now ((c.in-Some.ensures c.in-Some.after.now).1 refl)

pub loop-after-preserved : goal.loop-after-preserved
loop-after-preserved c = record {
  fits = omega (arith, c.saturating_add-words.ensures);
  decides = λ m.
      let next = method_next m c.loop-after.words c.loop-after.rest.now c.in-Some.after.now (found c.in-Some.after.now) (λ rest. c.in-Some.ensures rest) refl in
      let before = c.loop-after.invariant.decides m in
      rw (c.saturating_add-words.ensures, c.first_words.ensures) (λ w. next.0 (before.0 w), λ w. before.1 (next.1 w));
}

pub returns-in-41 : goal.returns-in-41
returns-in-41 c = λ m.
    let whole = cons_is 41 c.loop-after.rest.now (omega arith) (omega arith) in
    let decides = c.result_facts.ensures m in
    let known = c.loop-after.invariant.decides m in (
      λ t. known.1 (subst (IsMethodRest m c.loop-after.words) (sym whole) (method_done m c.loop-after.words _ c.loop-after.invariant.fits (decides.0 t))),
      λ w. let end = method_ends m c.loop-after.words c.loop-after.rest.now c.loop-after.invariant.fits (λ rest w. let none = (c.in_default.ensures rest).0 w in cc) (known.0 w) in decides.1 (subst (λ (text : List ℕ). AreResultFacts c.loop-after.words text m) (same_tail _ _ _ _ (sym end.1.1 ∙ whole)) end.1.0),
    )

pub returns-in_default-rest-2 : goal.returns-in_default-rest-2
returns-in_default-rest-2 c = λ m. (
  λ t. absurd (no_facts m t),
  λ w. absurd (
      let end = method_ends m c.loop-after.words c.loop-after.rest.now c.loop-after.invariant.fits (λ rest w. let none = (c.in_default.ensures rest).0 w in cc) ((c.loop-after.invariant.decides m).0 w) in
      let first = ap (λ (ys : List ℕ). get_or ys 0 0) end.1.1 in omega (arith, first)
      ),
)

pub returns-in_default-rest : goal.returns-in_default-rest
returns-in_default-rest c = λ m. (
  λ t. absurd (no_facts m t),
  λ w. absurd (
      let end = method_ends m c.loop-after.words c.loop-after.rest.now c.loop-after.invariant.fits (λ rest w. let none = (c.in_default.ensures rest).0 w in cc) ((c.loop-after.invariant.decides m).0 w) in
      omega (arith, ap length end.1.1, c.in_default-rest.len_below)
      ),
)
