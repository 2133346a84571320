use Rattle.std.proofs.Common.{◌≡◌, ◌∙◌, sym, ap, subst, List, ℕ, [], ◌∷◌, Contains, option_to_list, true, refl}
use Rattle.std.specs.Option.{option_map}
use Rattle.fm_base.proofs.ContainsFacts.{Contains-none}
use Rattle.fm_base.specs.Rows.{has}
use Rattle.fm_base.specs.declared.ids.MethodId.{MethodId}
use Rattle.fm_code.proofs.EdgesLemmas.{Contains-first}
use Rattle.fm_conn.proofs.ListLemmas.{Contains-one}
use Rattle.fm_rapid.proofs.WalkSteps.{Goes-none}
use Rattle.fm_rapid.specs.inner.Walks.{sets_of}
use Rattle.fm_world.specs.inner.Marks.{selected_of_arrays}
use Rattle.fm_rapid.proofs.walk.Walk.follow_arrays.Goals as goal

pub returns-in_default-clause-goes : goal.returns-in_default-clause-goes
returns-in_default-clause-goes c = Goes-none c.args.program.now (sets_of c.args.self.now) c.requires.walk

pub returns-in_default-clause-arrays : goal.returns-in_default-clause-arrays
returns-in_default-clause-arrays c = λ m found.
    let none : selected_of_arrays c.args.program.now c.args.named c.args.method.0 ≡ [] =
    sym c.selected_of_arrays.ensures ∙ ap (λ o. option_to_list (option_map (λ (n : MethodId). n.0) o)) c.in_default.is in
    absurd (Contains-none m (subst (λ (xs : List ℕ). Contains xs m) none found))

pub enter-requires-clause-inside : goal.enter-requires-clause-inside
enter-requires-clause-inside c =
    let one : selected_of_arrays c.args.program.now c.args.named c.args.method.0 ≡ c.in-Some.found.0 ∷ [] =
    sym c.selected_of_arrays.ensures ∙ ap (λ o. option_to_list (option_map (λ (n : MethodId). n.0) o)) c.in-Some.is in
    (c.requires.needed c.in-Some.found.0
    (subst (λ (xs : List ℕ). Contains xs c.in-Some.found.0) (sym one) (Contains-first c.in-Some.found.0 [] c.in-Some.found.0 refl))).inside

pub enter-requires-clause-needed : goal.enter-requires-clause-needed
enter-requires-clause-needed c =
    let one : selected_of_arrays c.args.program.now c.args.named c.args.method.0 ≡ c.in-Some.found.0 ∷ [] =
    sym c.selected_of_arrays.ensures ∙ ap (λ o. option_to_list (option_map (λ (n : MethodId). n.0) o)) c.in-Some.is in
    (c.requires.needed c.in-Some.found.0
    (subst (λ (xs : List ℕ). Contains xs c.in-Some.found.0) (sym one) (Contains-first c.in-Some.found.0 [] c.in-Some.found.0 refl))).needed

pub returns-clause-arrays : goal.returns-clause-arrays
returns-clause-arrays c = λ m found.
    let one : selected_of_arrays c.args.program.now c.args.named c.args.method.0 ≡ c.in-Some.found.0 ∷ [] =
    sym c.selected_of_arrays.ensures ∙ ap (λ o. option_to_list (option_map (λ (n : MethodId). n.0) o)) c.in-Some.is in
    let same = Contains-one c.in-Some.found.0 m (subst (λ (xs : List ℕ). Contains xs m) one found) in
    subst (λ (n : ℕ). has c.enter.new.self.methods n ≡ true) (sym same) c.in_ok-enter.ensures.entered
