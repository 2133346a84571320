-- Calls that may be asked, and the shapes at first.
use Rattle.std.proofs.Common.{◌≡◌, ℕ, ◌<◌, ◌≤◌, List, [], length, map, Option, Some, None, Contains, refl, ap, sym, ◌∙◌, subst, ⊎_elim, arith}
use Rattle.std.proofs.lemmas.Bool.{cases_lt}
use Rattle.std.proofs.lemmas.List.{ext_get_or, get_or-map, get_or_default, get_or_past, length-map}
use Rattle.std.proofs.lemmas.List.FromFn.{get_or-map-range_with_len, length-map-range_with_len}
use Rattle.fm_base.proofs.ContainsFacts.{Contains-none}
use Rattle.fm_code.specs.declared.code_array.Code.{Code}
use Rattle.fm_world.specs.Members.{method_at}
use Rattle.fm_world.specs.Programs.{body_of, code_at, method_info, Program}
use Rattle.fm_world.specs.declared.declarations.DeclaredMethod.{DeclaredMethod}
use Rattle.fm_world.specs.declared.records.Body.{Body}
use Rattle.fm_world.specs.declared.records.Body.TheVariants as body
use Rattle.fm_conn.proofs.LinkLemmas.{joined_by_more}
use Rattle.fm_conn.proofs.MemberLemmas.{call_in}
use Rattle.fm_conn.specs.inner.PairLists.{IsCallIn}
use Rattle.fm_conn.specs.Links.{node_of, typed_method, Linked, Typings}
use Rattle.fm_conn.specs.Shapes.{nothing_linked, HasUsesIn, IsShapeOf}
use Rattle.fm_conn.specs.declared.ends.End2.TheVariants as end
use Rattle.fm_conn.specs.declared.shapes.CallShape.{CallShape}
use Rattle.fm_conn.specs.declared.shapes.Shape.{Shape}
use Rattle.fm_summ.proofs.BareLemmas.{bare_is}
use Rattle.fm_summ.proofs.KeptLemmas.{same_calls, tells-renumbered}
use Rattle.fm_summ.specs.Exact.{no_shape, shape_at, AreShapesOf, HasBareBuiltIns}
use Rattle.fm_summ.specs.inner.BuiltIns.{bare_entries}
use Rattle.fm_summ.specs.inner.Callers.{call_targets, AreCallsIn}
use Rattle.fm_summ.specs.inner.Passed.{renumbered}
use Rattle.fm_summ.specs.inner.State.{first_shape, first_shapes, shape_with, AreSound, IsBare, IsSound, Tells}

-- ---- calls

shape_calls_in : (p : Program) (typings : Typings) (shapes : List Shape) → HasUsesIn p → AreShapesOf p typings shapes → (method : ℕ) →
    method < length shapes → (c : CallShape) → Contains (shape_at shapes method).calls c → IsCallIn p.outline c.call
shape_calls_in p typings shapes uses are method inside c found =
    (elim (code_at p method) as (λ o. code_at p method ≡ o → IsCallIn p.outline c.call) [
      | Some code ↦ (λ is.
          let x = typed_method p typings method code in
          let at = (are.coded method code is).calls c found in
          call_in x at.1.insn c.call uses (let size = are.one_each in omega arith) at.1.makes.calls)
      | None ↦ (λ none. absurd (Contains-none c (subst (λ (s : Shape). Contains s.calls c) (are.others method none) found)))
    ]) refl

pub calls_in : (p : Program) (typings : Typings) (shapes : List Shape) → HasUsesIn p → AreShapesOf p typings shapes → AreCallsIn p.outline shapes
calls_in p typings shapes uses are s c (k, inside, there) found =
    let at : shape_at shapes k ≡ s = get_or_default shapes k no_shape s inside ∙ there in
    shape_calls_in p typings shapes uses are k inside c (subst (λ (v : Shape). Contains v.calls c) (sym at) found)

-- ---- bodies

coded_body : (m : DeclaredMethod) (o : Option Code) (code : Code) → m.row ≡ None → o ≡ Some code → body_of m o ≡ body.Coded code
coded_body m o code none is = λ k. body_of (record m { row = none k }) (is k)

bare_body : (m : DeclaredMethod) (o : Option Code) → o ≡ None → (code : Code) → body_of m o ≡ body.Coded code → ⊥
bare_body m o none code is =
    (elim m.row as (λ row. m.row ≡ row → ⊥) [
      | Some row ↦ (λ has. let native : body_of m o ≡ body.Native row = λ k. body_of (record m { row = has k }) o in let both : body.Native row ≡ body.Coded code = sym native ∙ is in absurd cc)
      | None ↦ (λ has. let abstract : body_of m o ≡ body.Abstract = (λ k. body_of (record m { row = has k }) (none k)) in let both : body.Abstract ≡ body.Coded code = sym abstract ∙ is in absurd cc)
    ]) refl

body_with_code : (p : Program) (method : ℕ) (code : Code) → HasBareBuiltIns p → code_at p method ≡ Some code → (method_info p method).body ≡ body.Coded code
unfolding method_info
body_with_code p method code built_ins is =
    let m = (method_at p.outline.classes method).method in
    (elim m.row as (λ row. m.row ≡ row → body_of m (code_at p method) ≡ body.Coded code) [
      | Some row ↦ (λ has. let none = built_ins method row has in absurd (let both : Some code ≡ None = sym is ∙ none in cc))
      | None ↦ (λ has. coded_body m (code_at p method) code has is)
    ]) refl

body_without_code : (p : Program) (method : ℕ) → code_at p method ≡ None → (code : Code) → (method_info p method).body ≡ body.Coded code → ⊥
unfolding method_info
body_without_code p method none code is = bare_body (method_at p.outline.classes method).method (code_at p method) none code is

-- ---- the first shape of a method

first_of_coded : (p : Program) (method : ℕ) (s : Shape) (code : Code) → (method_info p method).body ≡ body.Coded code →
    first_shape p method s ≡ renumbered (λ n. n) s
first_of_coded p method s code is = ap (shape_with p method s) is

first_of_bare : (p : Program) (method : ℕ) (s : Shape) (b : Body) → (method_info p method).body ≡ b → ((code : Code) → b ≡ body.Coded code → ⊥) →
    first_shape p method s ≡ record { ends = bare_entries (method_info p method); calls = [] }
first_of_bare p method s (body.Coded code) is none = absurd (none code refl)
first_of_bare p method s (body.Native row) is none = ap (shape_with p method s) is
first_of_bare p method s body.Abstract is none = ap (shape_with p method s) is

-- ---- the first shapes are sound

first_at : (p : Program) (given : List Shape) (method : ℕ) → method < length given → shape_at (first_shapes p given) method ≡ first_shape p method (shape_at given method)
first_at p given method inside =
    get_or-map-range_with_len (λ k. first_shape p k (shape_at given k)) 0 (length given) method method no_shape inside (omega arith)

sound_of_shape : (p : Program) (typings : Typings) (method : ℕ) (code : Code) (s : Shape) → IsShapeOf (typed_method p typings method code) s →
    IsSound (Linked p typings) (typed_method p typings method code) (renumbered (λ n. n) s)
sound_of_shape p typings method code s is =
    let x = typed_method p typings method code in
    let tells : Tells x is.class s = record { ends = is.ends; calls = is.calls; each_call = is.each_call } in
    record {
      class = is.class;
      own = λ a b joined. (is.same a b).1 joined;
      sound = λ a b same.
          joined_by_more x nothing_linked (Linked p typings) (record { each = λ m e f first second linked. absurd linked }) a b ((is.same a b).0 same);
      tells = tells-renumbered x is.class (λ n. n) s tells;
    }

pub first_sound : (p : Program) (typings : Typings) (given : List Shape) → HasBareBuiltIns p → AreShapesOf p typings given →
    AreSound p typings (first_shapes p given)
first_sound p typings given built_ins are =
    let size : length (first_shapes p given) ≡ length given = length-map-range_with_len (λ k. first_shape p k (shape_at given k)) 0 (length given) in
    record {
      one_each = size ∙ are.one_each;
      coded = λ method code is.
          let one = are.coded method code is in
          let listed = (one.ends end.Global (one.class (node_of end.Global))).1 (tt, refl) in
          let x = typed_method p typings method code in
          ⊎_elim
          (λ (inside : method < length given).
          subst (IsSound (Linked p typings) x)
          (sym (first_at p given method inside ∙ first_of_coded p method (shape_at given method) code (body_with_code p method code built_ins is)))
          (sound_of_shape p typings method code (shape_at given method) one))
          (λ (past : length given ≤ method).
          absurd (Contains-none (end.Global, one.class (node_of end.Global))
          (subst (λ (s : Shape). Contains s.ends (end.Global, one.class (node_of end.Global))) (get_or_past given method no_shape past) listed)))
          (cases_lt method (length given));
      bare = λ method inside none.
          subst (IsBare p method)
          (sym (first_at p given method (omega arith) ∙ first_of_bare p method (shape_at given method) (method_info p method).body refl (body_without_code p method none)))
          (bare_is p method none);
    }

-- ---- and have the calls that are given

first_calls : (p : Program) (typings : Typings) (given : List Shape) → HasBareBuiltIns p → AreShapesOf p typings given → (method : ℕ) →
    call_targets p (first_shape p method (shape_at given method)).calls ≡ call_targets p (shape_at given method).calls
first_calls p typings given built_ins are method =
    (elim (code_at p method) as
    (λ o. code_at p method ≡ o → call_targets p (first_shape p method (shape_at given method)).calls ≡ call_targets p (shape_at given method).calls) [
      | Some code ↦ (λ is.
          ap (λ (s : Shape). call_targets p s.calls) (first_of_coded p method (shape_at given method) code (body_with_code p method code built_ins is))
          ∙ same_calls p (λ n. n) (shape_at given method).calls)
      | None ↦ (λ none.
          ap (λ (s : Shape). call_targets p s.calls)
          (first_of_bare p method (shape_at given method) (method_info p method).body refl (body_without_code p method none))
          ∙ ap (λ (s : Shape). call_targets p s.calls) (sym (are.others method none)))
    ]) refl

pub first_targets : (p : Program) (typings : Typings) (given : List Shape) → HasBareBuiltIns p → AreShapesOf p typings given →
    map (λ (s : Shape). call_targets p s.calls) given ≡ map (λ (s : Shape). call_targets p s.calls) (first_shapes p given)
first_targets p typings given built_ins are =
    let g : Shape → List (List ℕ) = λ s. call_targets p s.calls in
    let size : length (first_shapes p given) ≡ length given = length-map-range_with_len (λ k. first_shape p k (shape_at given k)) 0 (length given) in
    let one : length (map g given) ≡ length given = length-map given g in
    let other : length (map g (first_shapes p given)) ≡ length given = length-map (first_shapes p given) g ∙ size in
    ext_get_or [] (map g given) (map g (first_shapes p given)) (one ∙ sym other)
    (λ k inside.
    let within : k < length given = omega arith in
    get_or-map g given k no_shape [] within
    ∙ sym (first_calls p typings given built_ins are k)
    ∙ ap g (sym (first_at p given k within))
    ∙ sym (get_or-map g (first_shapes p given) k no_shape [] (omega arith)))
