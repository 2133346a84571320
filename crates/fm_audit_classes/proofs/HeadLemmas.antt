-- When a written class has the first part of what makes it a safe insertion, by the tests of its head.
use Rattle.std.proofs.Common.{◌≡◌, sym, ◌∙◌, ap, subst, ℕ, ◌+◌, ◌<◌, ◌≤◌, Bool, List, length, get_or, Result, Ok, Err, IfOk, Some, ⊎_elim, arith}
use Rattle.std.specs.Prelude.{Decides}
use Rattle.std.proofs.lemmas.Bool.{cases_lt}
use Rattle.std.proofs.lemmas.Option.{same_Some, slice_get-get_or}
use Rattle.fm_code.specs.FreeEntries.{with_free}
use Rattle.fm_code.specs.Spells.{HasSpelling}
use Rattle.fm_code.specs.declared.class_file.ClassDef.{ClassDef}
use Rattle.fm_place.specs.Rewriting.{rewritten_major}
use Rattle.fm_audit_classes.specs.Parts.{bare_class, class_codes, HasClass, HasClassAt, with_entries}

-- ---- one class

module _ (c w : ClassDef) where
  -- the codes are the same
  pub class_still : class_codes w ≡ class_codes c → (r : Bool) → Decides r (c ≡ w) → Decides r (HasClass c w)
  class_still codes r decides = (
    λ is. record { same = λ own. sym (decides.0 is); changed = λ differ. absurd (differ codes) },
    λ has. decides.1 (sym (has.same codes)),
  )

  -- they aren't
  pub class_changed : (class_codes w ≡ class_codes c → ⊥) → (r : Bool) → Decides r (bare_class w ≡ bare_class (with_entries c)) → Decides r (HasClass c w)
  class_changed differ r decides = (
    λ is. record { same = λ codes. absurd (differ codes); changed = λ other. decides.0 is },
    λ has. decides.1 (has.changed differ),
  )

  -- all but the version and the pool
  abbrev pub AreMembers : Type 0
  AreMembers = bare_class w ≡ record (bare_class c) { minor = w.minor; major = w.major; pool = w.pool }

  pub members_of : bare_class w ≡ bare_class (with_entries c) → AreMembers
  members_of same = ap (λ (d : ClassDef). record d { minor = w.minor; major = w.major; pool = w.pool }) same

  pub head_of : AreMembers → w.minor ≡ 0 → w.major ≡ rewritten_major → w.pool.entries ≡ with_free c.pool.entries
      → bare_class w ≡ bare_class (with_entries c)
  head_of members minor major entries =
      members ∙ (λ k. record (bare_class c) { minor = minor k; major = major k; pool = record { entries = entries k } })

  -- a pool that is full is none that bytes spell
  pub never_full_pool : HasSpelling w → 65535 < length (with_free c.pool.entries) → w.pool.entries ≡ with_free c.pool.entries → ⊥
  never_full_pool spelled full is =
      let few : length w.pool.entries < 65536 = spelled.1.pool.fits.count in
      let same = ap length is in omega (arith, few, full, same)

-- what the test of the pool says of the class
pub by_pool : {E : Type 0} (c w : ClassDef) → (class_codes w ≡ class_codes c → ⊥) → AreMembers c w → w.minor ≡ 0 → w.major ≡ rewritten_major → (r : Result Bool E)
    → IfOk r (λ same. Decides same (w.pool.entries ≡ with_free c.pool.entries)) → IfOk r (λ same. Decides same (HasClass c w))
by_pool c w differ members minor major (Ok same) tested =
    class_changed c w differ same
    (λ is. head_of c w members minor major (tested.0 is), λ bare. tested.1 (ap (λ (d : ClassDef). d.pool.entries) bare))
by_pool c w differ members minor major (Err e) tested = tt

-- ---- all classes

module _ (given written : List ClassDef) where
  pub class_at : (place : ℕ) (c w : ClassDef) → place < length given → place < length written → c ≡ get_or given place c → w ≡ get_or written place w
      → HasClass c w → HasClassAt given written place
  class_at place c w within inside c_is w_is has d v d_is v_is =
      let own : c ≡ d = same_Some c d (ap (λ (z : ClassDef). Some z) c_is ∙ sym (slice_get-get_or given place c within) ∙ d_is) in
      let new : w ≡ v = same_Some w v (ap (λ (z : ClassDef). Some z) w_is ∙ sym (slice_get-get_or written place w inside) ∙ v_is) in
      subst (λ (z : ClassDef). HasClass z v) own (subst (λ (z : ClassDef). HasClass c z) new has)

  pub class_in : (place : ℕ) (c w : ClassDef) → place < length given → place < length written → c ≡ get_or given place c → w ≡ get_or written place w
      → HasClassAt given written place → HasClass c w
  class_in place c w within inside c_is w_is has =
      has c w (slice_get-get_or given place c within ∙ ap (λ (z : ClassDef). Some z) (sym c_is))
      (slice_get-get_or written place w inside ∙ ap (λ (z : ClassDef). Some z) (sym w_is))

  -- one more
  pub classes_more : (n : ℕ) → ((k : ℕ) → k < n → HasClassAt given written k) → HasClassAt given written n → (k : ℕ) → k < n + 1 → HasClassAt given written k
  classes_more n so_far now k inside = ⊎_elim
      (λ (earlier : k < n). so_far k earlier)
      (λ (last : n ≤ k). let same : n ≡ k = omega (arith, last, inside) in subst (HasClassAt given written) same now)
      (cases_lt k n)
