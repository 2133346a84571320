-- What holds of each method of a program at its number holds of the methods of its classes, one after the other.
use Rattle.std.proofs.Common.{◌≡◌, sym, ◌∙◌, ap, subst, ℕ, suc, ◌+◌, ◌<◌, ◌≤◌, List, [], ◌∷◌, ◌++◌, length, map, take, drop, get_or, None, Bool, arith}
use Rattle.std.specs.List.{AllByRecursion, flat_map}
use Rattle.std.proofs.Math.Seq.{drop-cons}
use Rattle.std.proofs.lemmas.List.{drop-drop, get_or-append-add, get_or_append_left, length-map}
use Rattle.fm_code.specs.AccessFlags.{is_interface}
use Rattle.fm_code.specs.Members.{code_of, MethodIsValid}
use Rattle.fm_code.specs.Spells.{HasSpelling}
use Rattle.fm_code.specs.declared.class_file.ClassDef.{ClassDef}
use Rattle.fm_code.specs.declared.class_file.Member.{Member}
use Rattle.fm_code.specs.declared.constant_pool.Entry.{Entry}
use Rattle.fm_place_weave.specs.declared.planned.Planned.{Planned}
use Rattle.fm_place_weave.specs.declared.planned.Planned.TheVariants as planned
use Rattle.fm_rewrite.specs.Plans.{planned_at}
use Rattle.fm_rewrite.specs.inner.ByPlans.{method_count}
use Rattle.fm_world.specs.Programs.{code_at, Program}
use Rattle.fm_audit_classes.specs.inner.Inserted.{AreEachClass, AreEachMethod}

module _ (p : Program) (P : ℕ → Planned → Member → Type 0) (done : List Planned)
    (each : (in_interface : Bool) (entries : List Entry) (method : ℕ) (m : Member) → MethodIsValid in_interface entries m → code_at p method ≡ code_of m
    → P method (planned_at done method) m) where
  methods_each : (in_interface : Bool) (entries : List Entry) (first : ℕ) (methods : List Member) → AllByRecursion (MethodIsValid in_interface entries) methods
      → ((i : ℕ) → i < length methods → code_at p (first + i) ≡ get_or (map code_of methods) i None) → first + length methods ≤ length done
      → AreEachMethod P first (take (length methods) (drop first done)) methods
  methods_each in_interface entries first [] valid codes within = tt
  methods_each in_interface entries first (m ∷ methods) valid codes within =
      let next : first + 1 ≡ suc first = omega arith in
      let front : drop first done ≡ planned_at done first ∷ drop (suc first) done = drop-cons done first planned.Same (omega (arith, within)) in
      let here : first ≡ first + 0 = omega arith in
      let rest = methods_each in_interface entries (first + 1) methods valid.1
      (λ i inside. let place : first + 1 + i ≡ first + suc i = omega arith in ap (code_at p) place ∙ codes (suc i) (omega (arith, inside)))
      (omega (arith, within)) in
      subst (λ l. AreEachMethod P first (take (suc (length methods)) l) (m ∷ methods)) (sym front) (
        each in_interface entries first m valid.0 (ap (code_at p) here ∙ codes 0 (omega arith)),
        subst (λ k. AreEachMethod P (first + 1) (take (length methods) (drop k done)) methods) next rest,
      )

  pub classes_each : (first : ℕ) (classes : List ClassDef) → AllByRecursion HasSpelling classes
      → ((i : ℕ) → i < method_count classes → code_at p (first + i) ≡ get_or (flat_map (λ (c : ClassDef). map code_of c.methods) classes) i None)
      → first + method_count classes ≤ length done → AreEachClass P first (drop first done) classes
  classes_each first [] spelled codes within = tt
  classes_each first (c ∷ classes) spelled codes within =
      let n = length c.methods in
      let later = flat_map (λ (d : ClassDef). map code_of d.methods) classes in
      let count : length (map code_of c.methods) ≡ n = length-map c.methods code_of in
      let rest = classes_each (first + n) classes spelled.1
      (λ i inside.
      let place : first + n + i ≡ first + (n + i) = omega arith in
      ap (code_at p) place ∙ codes (n + i) (omega (arith, inside))
      ∙ ap (λ k. get_or (map code_of c.methods ++ later) (k + i) None) (sym count) ∙ get_or-append-add (map code_of c.methods) later i None)
      (omega (arith, within)) in (
        methods_each (is_interface c.flags) c.pool.entries first c.methods spelled.0.1.methods
            (λ i inside. codes i (omega (arith, inside)) ∙ get_or_append_left (map code_of c.methods) later None i (omega (arith, inside, count)))
            (omega (arith, within)),
        subst (λ l. AreEachClass P (first + n) l classes) (sym (drop-drop n first done)) rest,
      )
