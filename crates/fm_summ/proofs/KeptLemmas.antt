-- A method is done again: the shapes of all methods stay sound, and its calls are done with.
use Rattle.std.proofs.Common.{◌≡◌, ◌≢◌, ℕ, ◌<◌, ◌≤◌, ◌⊎◌, Bool, true, List, [], ◌∷◌, length, map, set, Some, None, Contains, refl, ap, sym, ◌∙◌, subst, inl, inr, ⊎_elim, arith, length-set}
use Rattle.std.proofs.lemmas.Bool.{cases_eq, cases_lt}
use Rattle.std.proofs.lemmas.List.{get_or_past, get_or-set_same, get_or-set_other}
use Rattle.std.proofs.Math.Seq.{map-set_same}
use Rattle.fm_base.proofs.ContainsFacts.{Contains-none}
use Rattle.fm_code.proofs.EdgesLemmas.{Contains-from_map, Contains-map}
use Rattle.fm_code.specs.declared.code_array.Code.{Code}
use Rattle.fm_world.specs.Members.{methods_of}
use Rattle.fm_world.specs.Programs.{code_at, targets, Program}
use Rattle.fm_conn.specs.Links.{node_of, typed_method, IsLinkedAtOnce, Linked, LinkedIn, Typings}
use Rattle.fm_conn.specs.Nodes.{Node, TypedMethod}
use Rattle.fm_conn.specs.Pairs.{IsEnd, PairAt}
use Rattle.fm_conn.specs.Shapes.{IsCallShapeAt}
use Rattle.fm_conn.specs.Summaries.{links}
use Rattle.fm_conn.specs.declared.ends.End2.{End2}
use Rattle.fm_conn.specs.declared.ends.End2.TheVariants as end
use Rattle.fm_conn.specs.declared.shapes.CallShape.{CallShape}
use Rattle.fm_conn.specs.declared.shapes.Shape.{Shape}
use Rattle.fm_conn.proofs.LinkLemmas.{ends_linked}
use Rattle.fm_conn.proofs.ListedEndLemmas.{links-is}
use Rattle.fm_summ.proofs.EntryLemmas.{end_number-listed, listed-renumbered, renumbered-listed}
use Rattle.fm_summ.proofs.JoinLemmas.{joined_by_numbers, joined_one, NodesOf}
use Rattle.fm_summ.proofs.PassLemmas.{become_one, pair_of, PairOf}
use Rattle.fm_summ.specs.Exact.{no_shape, shape_at}
use Rattle.fm_summ.specs.inner.Callers.{call_targets}
use Rattle.fm_summ.specs.inner.Numbers.{Merges}
use Rattle.fm_summ.specs.inner.Passed.{ends_at, method_pairs, renumbered, renumbered_call, renumbered_ends, Passes}
use Rattle.fm_summ.specs.inner.State.{linked_so_far, AreSound, IsBare, IsClosed, IsSound, Tells}

-- the calls of a renumbered shape have the targets that they had
pub same_calls : (p : Program) (f : ℕ → ℕ) (calls : List CallShape) → call_targets p (map (renumbered_call f) calls) ≡ call_targets p calls
same_calls p f [] = refl
same_calls p f (c ∷ calls) = ap (λ list. targets p c.call ∷ list) (same_calls p f calls)

-- ---- what a shape lists, after a renumbering

call_shape-renumbered : (x : TypedMethod) (class : Node → ℕ) (f : ℕ → ℕ) (j : ℕ) (c : CallShape) → IsCallShapeAt x class j c →
    IsCallShapeAt x (λ a. f (class a)) j (renumbered_call f c)
call_shape-renumbered x class f j c is = record {
  insn = is.insn;
  makes = is.makes;
  ends = λ e n. (
    λ found.
        let was = listed-renumbered f c.ends e n found in
        let stand = (is.ends e was.number).0 was.holds in
        record { node = stand.node; stands = stand.stands; is_node = stand.is_node; is = was.is ∙ ap f stand.is },
    λ stand.
        subst (λ k. Contains (renumbered_ends f c.ends) (e, k)) (sym stand.is)
        (renumbered-listed f c.ends e (class stand.node)
        ((is.ends e (class stand.node)).1 (record { node = stand.node; stands = stand.stands; is_node = stand.is_node; is = refl }))),
  );
}

pub tells-renumbered : (x : TypedMethod) (class : Node → ℕ) (f : ℕ → ℕ) (s : Shape) → Tells x class s → Tells x (λ a. f (class a)) (renumbered f s)
tells-renumbered x class f s tells = record {
  ends = λ e n. (
    λ found.
        let was = listed-renumbered f s.ends e n found in
        let is = (tells.ends e was.number).0 was.holds in
        (is.0, was.is ∙ ap f is.1),
    λ is.
        subst (λ k. Contains (renumbered_ends f s.ends) (e, k)) (sym is.1)
        (renumbered-listed f s.ends e (class (node_of e)) ((tells.ends e (class (node_of e))).1 (is.0, refl))),
  );
  calls = λ c found.
      let was = Contains-from_map (renumbered_call f) s.calls c found in
      let at = tells.calls was.0 was.1 in
      (at.0, subst (IsCallShapeAt x (λ a. f (class a)) at.0) was.2 (call_shape-renumbered x class f at.0 was.0 at.1));
  each_call = λ j insn called makes.
      let was = tells.each_call j insn called makes in
      (renumbered_call f was.0, (Contains-map (renumbered_call f) s.calls was.0 was.1.0, was.1.1, call_shape-renumbered x class f j was.0 was.1.2));
}

-- ---- pairs join what is linked

-- all that is linked so far is linked
pub record IsWithin (p : Program) (typings : Typings) (shapes : List Shape) : Type 0 where
  pub each : (method : ℕ) (a b : End2) → linked_so_far shapes method a b → Linked p typings method a b
  pub ends : (method : ℕ) (e : End2) (n : ℕ) → Contains (ends_at shapes method) (e, n) → IsEnd p.outline method e

nodes_of_pair : (typings : Typings) (shapes : List Shape) (x : TypedMethod) (s : Shape) (class : Node → ℕ) → Tells x class s →
    IsWithin x.program typings shapes → (m n : ℕ) → PairOf x.program shapes s.calls m n → NodesOf (Linked x.program typings) x class m n
nodes_of_pair typings shapes x s class tells within m n pair =
    let at = tells.calls pair.call pair.among in
    let j = at.0 in
    let shape = at.1 in
    let one = (shape.ends pair.ends.one m).0 pair.ends.first in
    let other = (shape.ends pair.ends.other n).0 pair.ends.second in
    let number = links-is (ends_at shapes pair.target) pair.ends.one pair.ends.other pair.ends.linked in
    let first_end = within.ends pair.target pair.ends.one number.0 (end_number-listed (ends_at shapes pair.target) pair.ends.one number.0 number.1) in
    let second_end = within.ends pair.target pair.ends.other number.0 (end_number-listed (ends_at shapes pair.target) pair.ends.other number.0 number.2) in
    let linked = within.each pair.target pair.ends.one pair.ends.other pair.ends.linked in
    let pair_at : PairAt (Linked x.program typings) x j one.node other.node = record {
      insn = shape.insn;
      is = shape.makes.is;
      reachable = shape.makes.reached;
      first = one.is_node;
      second = other.is_node;
      paired = inr (inr (inl (record {
        called = pair.call.call;
        is = shape.makes.calls;
        target = pair.target;
        among = pair.called;
        one = pair.ends.one;
        other = pair.ends.other;
        first_end = first_end;
        second_end = second_end;
        links = linked;
        first = one.stands;
        second = other.stands;
      })));
    } in
    let joined = joined_one (Linked x.program typings) x one.node other.node (j, inl pair_at) in
    record { one = one.node; other = other.node; first = one.is; second = other.is; joined = joined }

-- ---- a method that has code

sound-renumbered : (typings : Typings) (shapes : List Shape) (x : TypedMethod) (s : Shape) (f : ℕ → ℕ) → IsSound (Linked x.program typings) x s →
    IsWithin x.program typings shapes → Merges (method_pairs shapes (call_targets x.program s.calls) s.calls) f →
    IsSound (Linked x.program typings) x (renumbered f s)
sound-renumbered typings shapes x s f sound within merges = record {
  class = λ a. f (sound.class a);
  own = λ a b joined. ap f (sound.own a b joined);
  sound = λ a b same.
      let path = merges.only (sound.class a) (sound.class b) same in
      joined_by_numbers (Linked x.program typings) x sound.class (method_pairs shapes (call_targets x.program s.calls) s.calls) sound.sound
      (λ m n found. nodes_of_pair typings shapes x s sound.class sound.tells within m n (pair_of x.program shapes s.calls m n found))
      path.0 (sound.class a) (sound.class b) path.1 a b refl refl;
  tells = tells-renumbered x sound.class f s sound.tells;
}

-- what a sound shape links is linked
sound-links : (p : Program) (typings : Typings) (method : ℕ) (code : Code) (s : Shape) → code_at p method ≡ Some code →
    IsSound (Linked p typings) (typed_method p typings method code) s → (a b : End2) → links s.ends a b ≡ true → Linked p typings method a b
sound-links p typings method code s is sound a b linked =
    let number = links-is s.ends a b linked in
    let first = (sound.tells.ends a number.0).0 (end_number-listed s.ends a number.0 number.1) in
    let second = (sound.tells.ends b number.0).0 (end_number-listed s.ends b number.0 number.2) in
    ends_linked p typings method code a b is (sound.sound (node_of a) (node_of b) (sym first.1 ∙ second.1))

sound-ends : (p : Program) (typings : Typings) (method : ℕ) (code : Code) (s : Shape) →
    IsSound (Linked p typings) (typed_method p typings method code) s → (e : End2) (n : ℕ) → Contains s.ends (e, n) → IsEnd p.outline method e
sound-ends p typings method code s sound e n found = ((sound.tells.ends e n).0 found).0

-- what is linked at once is linked
at_once : (p : Program) (typings : Typings) (method : ℕ) (a b : End2) → IsLinkedAtOnce p method a b → Linked p typings method a b
unfolding LinkedIn
at_once p typings method a b linked = (0, linked)

past_none : (shapes : List Shape) (method : ℕ) → length shapes ≤ method → ends_at shapes method ≡ []
past_none shapes method past = ap (λ (s : Shape). s.ends) (get_or_past shapes method no_shape past)

pub within : (p : Program) (typings : Typings) (shapes : List Shape) → AreSound p typings shapes → IsWithin p typings shapes
within p typings shapes sound = record {
  each = λ method a b linked.
      let number = links-is (ends_at shapes method) a b linked in
      let listed = end_number-listed (ends_at shapes method) a number.0 number.1 in
      ⊎_elim
      (λ (inside : method < length shapes).
      (elim (code_at p method) as (λ o. code_at p method ≡ o → Linked p typings method a b) [
        | Some code ↦ (λ is. sound-links p typings method code (shape_at shapes method) is (sound.coded method code is) a b linked)
        | None ↦ (λ is.
            let there : method < length (methods_of p.outline.classes) = omega (arith, sound.one_each, inside) in
            at_once p typings method a b (⊎_elim (λ same. inl (there, same)) (λ native. inr native) ((sound.bare method inside is).no_more a b linked)))
      ]) refl)
      (λ (past : length shapes ≤ method). absurd (Contains-none (a, number.0) (subst (λ list. Contains list (a, number.0)) (past_none shapes method past) listed)))
      (cases_lt method (length shapes));
  ends = λ method e n found.
      ⊎_elim
      (λ (inside : method < length shapes).
      (elim (code_at p method) as (λ o. code_at p method ≡ o → IsEnd p.outline method e) [
        | Some code ↦ (λ is. sound-ends p typings method code (shape_at shapes method) (sound.coded method code is) e n found)
        | None ↦ (λ is. (sound.bare method inside is).ends e n found)
      ]) refl)
      (λ (past : length shapes ≤ method). absurd (Contains-none (e, n) (subst (λ list. Contains list (e, n)) (past_none shapes method past) found)))
      (cases_lt method (length shapes));
}

-- ---- all methods, after one is done again

-- a method that has code is there: its ends have Global
pub coded_inside : (p : Program) (typings : Typings) (shapes : List Shape) → AreSound p typings shapes → (method : ℕ) (code : Code) →
    code_at p method ≡ Some code → method < length shapes
coded_inside p typings shapes sound method code is =
    let one = sound.coded method code is in
    let listed = (one.tells.ends end.Global (one.class (node_of end.Global))).1 (tt, refl) in
    ⊎_elim (λ (inside : method < length shapes). inside)
    (λ (past : length shapes ≤ method).
    absurd (Contains-none (end.Global, one.class (node_of end.Global))
    (subst (λ list. Contains list (end.Global, one.class (node_of end.Global))) (past_none shapes method past) listed)))
    (cases_lt method (length shapes))

at_other : (shapes : List Shape) (method other : ℕ) (s : Shape) → other ≢ method → shape_at (set shapes method s) other ≡ shape_at shapes other
at_other shapes method other s apart = get_or-set_other shapes method other s no_shape apart

at_same : (shapes : List Shape) (method : ℕ) (s : Shape) → method < length shapes → shape_at (set shapes method s) method ≡ s
at_same shapes method s inside = get_or-set_same shapes method s no_shape inside

pub sound_after : (p : Program) (typings : Typings) (shapes after : List Shape) (targets : List (List ℕ)) (method : ℕ) (changed : Bool) →
    method < length shapes → targets ≡ call_targets p (shape_at shapes method).calls → Passes targets shapes after method changed →
    AreSound p typings shapes → AreSound p typings after
sound_after p typings shapes after targets method changed inside are passes sound =
    let s = shape_at shapes method in
    let longer : length after ≡ length shapes = ap length passes.after_is ∙ length-set shapes method (renumbered passes.f s) in
    let merges : Merges (method_pairs shapes (call_targets p s.calls) s.calls) passes.f =
    subst (λ list. Merges (method_pairs shapes list s.calls) passes.f) are passes.merges in
    let here : shape_at after method ≡ renumbered passes.f s = ap (λ list. shape_at list method) passes.after_is ∙ at_same shapes method (renumbered passes.f s) inside in
    let elsewhere : (other : ℕ) → other ≢ method → shape_at after other ≡ shape_at shapes other = λ other apart.
    ap (λ list. shape_at list other) passes.after_is ∙ at_other shapes method other (renumbered passes.f s) apart in
    record {
      one_each = longer ∙ sound.one_each;
      coded = λ other code is.
          let P : Shape → Type 0 = λ v. IsSound (Linked p typings) (typed_method p typings other code) v in
          ⊎_elim
          (λ (same : other ≡ method).
          let old : IsSound (Linked p typings) (typed_method p typings other code) s = subst (λ k. IsSound (Linked p typings) (typed_method p typings other code) (shape_at shapes k)) same (sound.coded other code is) in
          subst P (sym (ap (shape_at after) same ∙ here))
          (sound-renumbered typings shapes (typed_method p typings other code) s passes.f old (within p typings shapes sound) merges))
          (λ (apart : other ≢ method). subst P (sym (elsewhere other apart)) (sound.coded other code is))
          (cases_eq other method);
      bare = λ other there none.
          let was = sound.bare other (omega (arith, longer, there)) none in
          let P : Shape → Type 0 = λ v. IsBare p other v in
          ⊎_elim
          (λ (same : other ≡ method).
          let no_calls : s.calls ≡ [] = ap (λ k. (shape_at shapes k).calls) (sym same) ∙ was.calls in
          let no_targets : targets ≡ [] = are ∙ ap (call_targets p) no_calls in
          let no_pairs : method_pairs shapes targets s.calls ≡ [] = ap (λ list. method_pairs shapes list s.calls) no_targets in
          subst P (sym (ap (λ list. shape_at list other) (passes.none no_pairs))) was)
          (λ (apart : other ≢ method). subst P (sym (elsewhere other apart)) was)
          (cases_eq other method);
    }

-- ---- the calls that are done with

-- the ends of a method are as they were
pub ends_elsewhere : (shapes after : List Shape) (targets : List (List ℕ)) (method : ℕ) (changed : Bool) → Passes targets shapes after method changed →
    (other : ℕ) → other ≢ method → ends_at after other ≡ ends_at shapes other
ends_elsewhere shapes after targets method changed passes other apart =
    ap (λ (v : Shape). v.ends)
    (ap (λ list. shape_at list other) passes.after_is ∙ at_other shapes method other (renumbered passes.f (shape_at shapes method)) apart)

-- of a method whose targets have the ends that they had: where it was done with, or was done now, it is done with
pub closed_after : (p : Program) (shapes after : List Shape) (targets_of : List (List ℕ)) (method : ℕ) (changed : Bool) → method < length shapes →
    targets_of ≡ call_targets p (shape_at shapes method).calls → Passes targets_of shapes after method changed →
    (other : ℕ) → ((other ≡ method) ⊎ IsClosed p shapes other) →
    ((c : CallShape) (target : ℕ) → Contains (shape_at shapes other).calls c → Contains (targets p c.call) target → ends_at after target ≡ ends_at shapes target) →
    IsClosed p after other
closed_after p shapes after targets_of method changed inside are passes other done kept c target among called =
    let s = shape_at shapes method in
    let f = passes.f in
    let pairs = method_pairs shapes (call_targets p s.calls) s.calls in
    let merges : Merges pairs f = subst (λ list. Merges (method_pairs shapes list s.calls) f) are passes.merges in
    let here : shape_at after method ≡ renumbered f s = ap (λ list. shape_at list method) passes.after_is ∙ at_same shapes method (renumbered f s) inside in
    ⊎_elim
    (λ (same : other ≡ method).
    let was = Contains-from_map (renumbered_call f) s.calls c (subst (λ (v : Shape). Contains v.calls c) (ap (shape_at after) same ∙ here) among) in
    let old = was.0 in
    let call_is : old.call ≡ c.call = ap (λ (v : CallShape). v.call) was.2 in
    let called_old : Contains (targets p old.call) target = subst (λ v. Contains (targets p v) target) (sym call_is) called in
    let among_other : Contains (shape_at shapes other).calls old = subst (λ k. Contains (shape_at shapes k).calls old) (sym same) was.1 in
    let ends_same = kept old target among_other called_old in
    record {
      each = λ a b m n linked first second.
          let one = listed-renumbered f old.ends a m (subst (λ (v : CallShape). Contains v.ends (a, m)) (sym was.2) first) in
          let two = listed-renumbered f old.ends b n (subst (λ (v : CallShape). Contains v.ends (b, n)) (sym was.2) second) in
          one.is
          ∙ become_one f p shapes s.calls (λ m n found. merges.same m n found) old target was.1 called_old a b one.number two.number one.holds two.holds
          (subst (λ list. links list a b ≡ true) ends_same linked)
          ∙ sym two.is;
    })
    (λ (apart : other ≢ method).
    let is : shape_at after other ≡ shape_at shapes other = ap (λ list. shape_at list other) passes.after_is ∙ at_other shapes method other (renumbered f s) apart in
    let among_old = subst (λ (v : Shape). Contains v.calls c) is among in
    let closed : IsClosed p shapes other = ⊎_elim (λ same. absurd (apart same)) (λ closed. closed) done in
    record {
      each = λ a b m n linked first second.
          (closed c target among_old called).each a b m n (subst (λ list. links list a b ≡ true) (kept c target among_old called) linked) first second;
    })
    (cases_eq other method)

-- the calls are those that they were
pub targets_after : (p : Program) (shapes after : List Shape) (targets : List (List ℕ)) (method : ℕ) (changed : Bool) → method < length shapes →
    Passes targets shapes after method changed →
    map (λ (s : Shape). call_targets p s.calls) after ≡ map (λ (s : Shape). call_targets p s.calls) shapes
targets_after p shapes after targets method changed inside passes =
    let s = shape_at shapes method in
    ap (map (λ (s : Shape). call_targets p s.calls)) passes.after_is
    ∙ map-set_same (λ (s : Shape). call_targets p s.calls) shapes method (renumbered passes.f s) no_shape (same_calls p passes.f s.calls)
