-- Where all calls are done with, what is linked in any round is linked so far; and so the summaries are exact.
use Rattle.std.proofs.Common.{◌≡◌, ℕ, zero, suc, ◌<◌, ◌≤◌, ◌⊎◌, true, List, [], ◌∷◌, length, Some, None, IsSomeAnd, Contains, refl, ap, sym, ◌∙◌, subst, inl, inr, ⊎_elim, arith}
use Rattle.std.proofs.lemmas.Bool.{cases_lt}
use Rattle.std.proofs.lemmas.List.{get_or_past, length-map}
use Rattle.fm_base.proofs.OptionFacts.{same_value, Some-from_is_some, Some-from_some_and}
use Rattle.fm_code.specs.Edges.{insn_of}
use Rattle.fm_world.specs.Declarations.{no_method}
use Rattle.fm_world.specs.Members.{method_at, methods_of}
use Rattle.fm_world.specs.Programs.{code_at, targets, Program}
use Rattle.fm_conn.specs.Links.{node_of, typed_method, IsLinkedAtOnce, IsNativeLink, Linked, LinkedIn, Typings}
use Rattle.fm_conn.specs.Nodes.{Node, TypedMethod}
use Rattle.fm_conn.specs.Pairs.{ArePaired, CalledAt, CaughtAt, IsEnd, IsPath, Joined, JoinedAt, Linking, PairAt, StaysAt}
use Rattle.fm_conn.specs.Shapes.{nothing_linked, HasStandIn}
use Rattle.fm_conn.specs.Summaries.{end_number, links, linked_by}
use Rattle.fm_conn.specs.Summaries as told
use Rattle.fm_conn.specs.declared.ends.End2.{End2}
use Rattle.fm_conn.specs.declared.shapes.Shape.{Shape}
use Rattle.fm_conn.proofs.ListedEndLemmas.{links-from}
use Rattle.fm_summ.proofs.EntryLemmas.{end_number-listed, number_is}
use Rattle.fm_summ.proofs.JoinLemmas.{joined_one}
use Rattle.fm_summ.proofs.KeptLemmas.{coded_inside, within}
use Rattle.fm_summ.specs.Exact.{shape_at, AreExact, HasBareBuiltIns}
use Rattle.fm_summ.specs.inner.Passed.{ends_at}
use Rattle.fm_summ.specs.inner.State.{linked_so_far, summaries_of, AreSound, IsBuiltInLink, IsClosed, IsSound}

-- ---- a method that has code

-- two ends whose nodes have one number are linked so far
same_class-links : (linked : Linking) (x : TypedMethod) (s : Shape) (sound : IsSound linked x s) (a b : End2) → IsEnd x.program.outline x.number a →
    IsEnd x.program.outline x.number b → sound.class (node_of a) ≡ sound.class (node_of b) → links s.ends a b ≡ true
same_class-links linked x s sound a b first second same =
    let P : End2 → ℕ → Type 0 = λ e n. IsEnd x.program.outline x.number e × (n ≡ sound.class (node_of e)) in
    links-from s.ends a b (sound.class (node_of a))
    (number_is s.ends P sound.tells.ends a (sound.class (node_of a)) (λ k p. p.1) (first, refl))
    (number_is s.ends P sound.tells.ends b (sound.class (node_of b)) (λ k p. p.1) (second, refl) ∙ ap Some (sym same))

-- what is linked in one sense between ends is linked so far
pub record IsReached (p : Program) (shapes : List Shape) (linked : Linking) : Type 0 where
  pub each : (method : ℕ) (a b : End2) → IsEnd p.outline method a → IsEnd p.outline method b → linked method a b → linked_so_far shapes method a b

-- two nodes that an item pairs have one number
pair_same : (linked more : Linking) (x : TypedMethod) (shapes : List Shape) (s : Shape) (sound : IsSound more x s) → s ≡ shape_at shapes x.number →
    IsClosed x.program shapes x.number → IsReached x.program shapes linked → (j : ℕ) (a b : Node) (pair : PairAt linked x j a b) →
    StaysAt x j pair.insn a b ⊎ JoinedAt x j pair.insn a b ⊎ CalledAt linked x j pair.insn a b ⊎ CaughtAt x j a b → sound.class a ≡ sound.class b
pair_same linked more x shapes s sound at closed reached j a b pair (inl stays) =
    sound.own a b (joined_one nothing_linked x a b
    (j, inl (record { insn = pair.insn; is = pair.is; reachable = pair.reachable; first = pair.first; second = pair.second; paired = inl stays })))
pair_same linked more x shapes s sound at closed reached j a b pair (inr (inl joined)) =
    sound.own a b (joined_one nothing_linked x a b
    (j, inl (record { insn = pair.insn; is = pair.is; reachable = pair.reachable; first = pair.first; second = pair.second; paired = inr (inl joined) })))
pair_same linked more x shapes s sound at closed reached j a b pair (inr (inr (inr caught))) =
    sound.own a b (joined_one nothing_linked x a b
    (j, inl (record { insn = pair.insn; is = pair.is; reachable = pair.reachable; first = pair.first; second = pair.second; paired = inr (inr (inr caught)) })))
pair_same linked more x shapes s sound at closed reached j a b pair (inr (inr (inl c))) =
    let found = sound.tells.each_call j pair.insn c.called (record { is = pair.is; reached = pair.reachable; calls = c.is }) in
    let shape = found.0 in
    let is = found.1.2 in
    let insn_is : pair.insn ≡ is.insn = same_value (insn_of x.code j) pair.insn is.insn pair.is is.makes.is in
    let one : HasStandIn x sound.class j pair.insn c.one (sound.class a) = record { node = a; stands = c.first; is_node = pair.first; is = refl } in
    let other : HasStandIn x sound.class j pair.insn c.other (sound.class b) = record { node = b; stands = c.second; is_node = pair.second; is = refl } in
    let first = (is.ends c.one (sound.class a)).1 (subst (λ i. HasStandIn x sound.class j i c.one (sound.class a)) insn_is one) in
    let second = (is.ends c.other (sound.class b)).1 (subst (λ i. HasStandIn x sound.class j i c.other (sound.class b)) insn_is other) in
    let linked_now = reached.each c.target c.one c.other c.first_end c.second_end c.links in
    let among = subst (λ (v : Shape). Contains v.calls shape) at found.1.0 in
    let called : Contains (targets x.program shape.call) c.target = subst (λ v. Contains (targets x.program v) c.target) (sym found.1.1) c.among in
    (closed shape c.target among called).each c.one c.other (sound.class a) (sound.class b) linked_now first second

paired_same : (linked more : Linking) (x : TypedMethod) (shapes : List Shape) (s : Shape) (sound : IsSound more x s) → s ≡ shape_at shapes x.number →
    IsClosed x.program shapes x.number → IsReached x.program shapes linked → (a b : Node) → ArePaired linked x a b → sound.class a ≡ sound.class b
paired_same linked more x shapes s sound at closed reached a b (j, inl pair) = pair_same linked more x shapes s sound at closed reached j a b pair pair.paired
paired_same linked more x shapes s sound at closed reached a b (j, inr pair) = sym (pair_same linked more x shapes s sound at closed reached j b a pair pair.paired)

path_same : (linked more : Linking) (x : TypedMethod) (shapes : List Shape) (s : Shape) (sound : IsSound more x s) → s ≡ shape_at shapes x.number →
    IsClosed x.program shapes x.number → IsReached x.program shapes linked → (a : Node) (path : List Node) (b : Node) → IsPath linked x a path b →
    sound.class a ≡ sound.class b
path_same linked more x shapes s sound at closed reached a [] b same = ap sound.class same
path_same linked more x shapes s sound at closed reached a (next ∷ rest) b (paired, path) =
    paired_same linked more x shapes s sound at closed reached a next paired ∙ path_same linked more x shapes s sound at closed reached next rest b path

-- ---- rounds

-- a method that has a row is there, and has no code
built_in_inside : (p : Program) (method : ℕ) (a b : End2) → IsBuiltInLink p method a b → method < length (methods_of p.outline.classes)
built_in_inside p method a b native =
    ⊎_elim (λ (inside : method < length (methods_of p.outline.classes)). inside)
    (λ (past : length (methods_of p.outline.classes) ≤ method).
    let none = get_or_past (methods_of p.outline.classes) method (record { class = 0; method = no_method }) past in
    absurd (subst (λ m. IsSomeAnd m.method.row (λ row. IsNativeLink row a b)) none native))
    (cases_lt method (length (methods_of p.outline.classes)))

built_in-reached : (p : Program) (typings : Typings) (shapes : List Shape) → HasBareBuiltIns p → AreSound p typings shapes → (method : ℕ) (a b : End2) →
    IsEnd p.outline method a → IsEnd p.outline method b → IsBuiltInLink p method a b → linked_so_far shapes method a b
built_in-reached p typings shapes built_ins sound method a b first second native =
    let inside = built_in_inside p method a b native in
    let row = Some-from_some_and (method_at p.outline.classes method).method.row (λ row. IsNativeLink row a b) native in
    (sound.bare method (omega (arith, sound.one_each, inside)) (built_ins method row.0 row.1)).linked a b first second (inr native)

-- an end is linked with itself so far
with_itself : (p : Program) (typings : Typings) (shapes : List Shape) → AreSound p typings shapes → (method : ℕ) (a : End2) →
    method < length (methods_of p.outline.classes) → IsEnd p.outline method a → linked_so_far shapes method a a
with_itself p typings shapes sound method a inside is_end =
    (elim (code_at p method) as (λ o. code_at p method ≡ o → linked_so_far shapes method a a) [
      | Some code ↦ (λ is.
          same_class-links (Linked p typings) (typed_method p typings method code) (shape_at shapes method) (sound.coded method code is) a a is_end is_end refl)
      | None ↦ (λ is. (sound.bare method (omega (arith, sound.one_each, inside)) is).linked a a is_end is_end (inl refl))
    ]) refl

at_once-reached : (p : Program) (typings : Typings) (shapes : List Shape) → HasBareBuiltIns p → AreSound p typings shapes → (method : ℕ) (a b : End2) →
    IsEnd p.outline method a → IsEnd p.outline method b → IsLinkedAtOnce p method a b → linked_so_far shapes method a b
at_once-reached p typings shapes built_ins sound method a b first second (inl (inside, same)) =
    subst (linked_so_far shapes method a) same (with_itself p typings shapes sound method a inside first)
at_once-reached p typings shapes built_ins sound method a b first second (inr native) =
    built_in-reached p typings shapes built_ins sound method a b first second native

-- what is linked in a round is linked so far
in_round : (p : Program) (typings : Typings) (shapes : List Shape) → HasBareBuiltIns p → AreSound p typings shapes →
    ((method : ℕ) → method < length shapes → IsClosed p shapes method) → (round method : ℕ) (a b : End2) →
    IsEnd p.outline method a → IsEnd p.outline method b → LinkedIn p typings round method a b → linked_so_far shapes method a b
unfolding LinkedIn
in_round p typings shapes built_ins sound closed zero method a b first second linked = at_once-reached p typings shapes built_ins sound method a b first second linked
in_round p typings shapes built_ins sound closed (suc round) method a b first second (inl linked) =
    at_once-reached p typings shapes built_ins sound method a b first second linked
in_round p typings shapes built_ins sound closed (suc round) method a b first second (inr some) =
    let found = Some-from_some_and (code_at p method)
    (λ code. Joined (LinkedIn p typings round) (typed_method p typings method code) (node_of a) (node_of b)) some in
    let code = found.0 in
    let x = typed_method p typings method code in
    let one = sound.coded method code found.1 in
    let inside = coded_inside p typings shapes sound method code found.1 in
    same_class-links (Linked p typings) x (shape_at shapes method) one a b first second
    (path_same (LinkedIn p typings round) (Linked p typings) x shapes (shape_at shapes method) one refl (closed method inside)
    (record { each = λ m e g is is_too linked. in_round p typings shapes built_ins sound closed round m e g is is_too linked })
    (node_of a) found.2.0 (node_of b) found.2.1)

-- ---- what shapes list

told_at : (shapes : List Shape) (method : ℕ) → told.ends_at (summaries_of shapes) method ≡ ends_at shapes method
told_at [] method = refl
told_at (s ∷ shapes) zero = refl
told_at (s ∷ shapes) (suc method) = told_at shapes method

pub exact : (p : Program) (typings : Typings) (shapes : List Shape) → HasBareBuiltIns p → AreSound p typings shapes →
    ((method : ℕ) → method < length shapes → IsClosed p shapes method) → AreExact p typings (summaries_of shapes)
exact p typings shapes built_ins sound closed =
    let inner = within p typings shapes sound in
    let there : (method : ℕ) (a b : End2) → linked_so_far shapes method a b → linked_by (summaries_of shapes) method a b =
    λ method a b linked. subst (λ list. links list a b ≡ true) (sym (told_at shapes method)) linked in
    record {
      summaries = record {
        one_each = length-map shapes (λ (s : Shape). record { ends = s.ends }) ∙ sound.one_each;
        ends = λ method e some.
            let number = Some-from_is_some (end_number (told.ends_at (summaries_of shapes) method) e) some in
            let listed = end_number-listed (told.ends_at (summaries_of shapes) method) e number.0 number.1 in
            inner.ends method e number.0 (subst (λ list. Contains list (e, number.0)) (told_at shapes method) listed);
      };
      links = record {
        all = λ method a b first second linked. there method a b (in_round p typings shapes built_ins sound closed linked.0 method a b first second linked.1);
        no_more = λ method a b linked. inner.each method a b (subst (λ list. links list a b ≡ true) (told_at shapes method) linked);
      };
    }
