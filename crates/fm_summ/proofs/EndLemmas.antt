-- How the loop over the methods that wait begins, goes on and ends.
use Rattle.std.proofs.Common.{◌≡◌, ℕ, ◌+◌, ◌<◌, Bool, true, List, [], ◌∷◌, length, map, get_or, Contains, ap, sym, ◌∙◌, subst, inl, ⊎_elim, Result, Ok, Err, IfOk, arith}
use Rattle.std.proofs.lemmas.List.{get_or-map, length-map}
use Rattle.std.specs.Global.{Vec}
use Rattle.std.specs.List.{flat_map}
use Rattle.fm_base.proofs.ContainsFacts.{Contains-none}
use Rattle.fm_world.specs.Members.{methods_of}
use Rattle.fm_world.specs.Programs.{Program}
use Rattle.fm_conn.specs.Links.{Typings}
use Rattle.fm_conn.specs.declared.shapes.Shape.{Shape}
use Rattle.fm_conn.specs.declared.summaries.Summaries.{Summaries}
use Rattle.fm_flow.specs.inner.LiveWalks.{list_of}
use Rattle.fm_summ.proofs.LoopLemmas.{going_on, targets_of_method}
use Rattle.fm_summ.proofs.RoundLemmas.{exact}
use Rattle.fm_summ.proofs.StartLemmas.{first_sound, first_targets}
use Rattle.fm_summ.specs.Exact.{shape_at, AreExact, AreShapes, AreShapesOf, HasBareBuiltIns}
use Rattle.fm_summ.specs.inner.Callers.{call_targets, called_by, lists_of, HasCallers}
use Rattle.fm_summ.specs.inner.Lists.{callers_in, targets_in, targets_of}
use Rattle.fm_summ.specs.declared.calls.Calls.{Calls}
use Rattle.fm_summ.specs.inner.Passed.{Passes}
use Rattle.fm_summ.specs.inner.State.{first_shapes, summaries_of, AreSound, Going}

pub going_start : (p : Program) (given : List Shape) (targets : List (List (List ℕ))) (shapes : List Shape) (queue : List ℕ) → HasBareBuiltIns p →
    AreShapes p given → targets ≡ map (λ (s : Shape). call_targets p s.calls) given → shapes ≡ first_shapes p given →
    ((m : ℕ) → m < length (methods_of p.outline.classes) → Contains queue m) → Going p given targets shapes queue
going_start p given targets shapes queue built_ins (typings, are) targets_are shapes_are all =
    let P : List Shape → Type 0 = λ list. AreSound p typings list in
    let sound = first_sound p typings given built_ins are in
    let size : length shapes ≡ length (methods_of p.outline.classes) = ap length shapes_are ∙ sound.one_each in
    record {
      sound = λ others given_are. subst (AreSound p others) (sym shapes_are) (first_sound p others given built_ins given_are);
      one_each = size;
      targets_are = targets_are ∙ first_targets p typings given built_ins are ∙ ap (map (λ (s : Shape). call_targets p s.calls)) (sym shapes_are);
      closed = λ m inside. inl (all m (omega arith));
    }

-- the method in front is there
pub front_inside : (p : Program) (given : List Shape) (targets : List (List (List ℕ))) (shapes : List Shape) (queue : List ℕ) → Going p given targets shapes queue →
    (method count : ℕ) → count ≡ length (methods_of p.outline.classes) → method < count → method < length shapes
front_inside p given targets shapes queue going method count size inside = let each = going.one_each in omega arith

pub targets_inside : (p : Program) (given : List Shape) (targets : List (List (List ℕ))) (shapes : List Shape) (queue : List ℕ) → Going p given targets shapes queue →
    length targets ≡ length shapes
targets_inside p given targets shapes queue going = ap length going.targets_are ∙ length-map shapes (λ (s : Shape). call_targets p s.calls)

-- each call has its targets
pub calls_each : (p : Program) (given : List Shape) (targets : List (List (List ℕ))) (shapes : List Shape) (queue : List ℕ) → Going p given targets shapes queue →
    (method : ℕ) → method < length shapes → length (get_or targets method []) ≡ length (shape_at shapes method).calls
calls_each p given targets shapes queue going method inside =
    ap length (targets_of_method p given targets shapes queue going method inside) ∙ length-map (shape_at shapes method).calls _

pub going_step : (p : Program) (given : List Shape) (targets : List (List (List ℕ))) (callers : List (List ℕ)) (shapes after : List Shape) (method : ℕ)
    (first queue later : List ℕ) (changed : Bool) (here : List (List ℕ)) (waits : List ℕ) → Going p given targets shapes first → first ≡ method ∷ queue →
    HasCallers targets callers → method < length shapes → here ≡ get_or targets method [] → waits ≡ get_or callers method [] →
    Passes here shapes after method changed → ((m : ℕ) → Contains queue m → Contains later m) →
    (changed ≡ true → (m : ℕ) → Contains waits m → Contains later m) → Going p given targets after later
going_step p given targets callers shapes after method first queue later changed here waits going front listed inside here_is waits_are passes kept pushed =
    going_on p given targets callers shapes after method queue later changed (subst (Going p given targets shapes) front going) listed inside
    (subst (λ list. Passes list shapes after method changed) here_is passes) kept
    (λ is m found. pushed is m (subst (λ list. Contains list m) (sym waits_are) found))

pub going_end : (p : Program) (given : List Shape) (targets : List (List (List ℕ))) (shapes : List Shape) (queue : List ℕ) (s : Summaries) →
    Going p given targets shapes queue → queue ≡ [] → HasBareBuiltIns p → s ≡ summaries_of shapes → (typings : Typings) → AreShapesOf p typings given →
    AreExact p typings s
going_end p given targets shapes queue s going none built_ins is typings are =
    subst (AreExact p typings) (sym is)
    (exact p typings shapes built_ins (going.sound typings are)
    (λ method inside.
    ⊎_elim (λ waits. absurd (Contains-none method (subst (λ list. Contains list method) none waits))) (λ closed. closed) (going.closed method inside)))

-- ---- what the code reads

-- the targets of the calls of a method that is there
pub targets_here : (calls : Calls) (method : ℕ) → method < length (targets_in calls) → targets_of calls method ≡ get_or (targets_in calls) method []
targets_here calls method inside =
    let lists = lists_of calls.known.lists.items in
    let numbers = lists_of calls.of_methods.items in
    let size : length (targets_in calls) ≡ length numbers = length-map numbers (called_by lists) in
    sym (get_or-map (called_by lists) numbers method [] [] (omega (arith, inside, size)))

-- and who calls it
pub called_here : (calls : Calls) (method : ℕ) → method < length (callers_in calls) →
    flat_map (list_of (lists_of calls.callers.items)) (list_of (lists_of calls.leading.items) method) ≡ get_or (callers_in calls) method []
called_here calls method inside =
    let lists = lists_of calls.callers.items in
    let leading = lists_of calls.leading.items in
    let size : length (callers_in calls) ≡ length leading = length-map leading (flat_map (list_of lists)) in
    sym (get_or-map (flat_map (list_of lists)) leading method [] [] (omega (arith, inside, size)))

pub callers_here : (items : List (Vec ℕ)) (method : ℕ) (read : Vec ℕ) (list : List ℕ) → method < length items → read ≡ get_or items method read →
    list ≡ read.items → list ≡ get_or (lists_of items) method []
callers_here items method read list inside is of =
    of ∙ ap (λ (x : Vec ℕ). x.items) is ∙ sym (get_or-map (λ (x : Vec ℕ). x.items) items method read [] inside)

pub callers_count : (items : List (Vec ℕ)) → length (lists_of items) ≡ length items
callers_count items = length-map items (λ (x : Vec ℕ). x.items)

pub waits_here : (calls : Calls) (method : ℕ) (leading callers : List (Vec ℕ)) (lists : List ℕ) → method < length (callers_in calls) →
    leading ≡ calls.leading.items → callers ≡ calls.callers.items → lists ≡ list_of (lists_of leading) method →
    flat_map (list_of (lists_of callers)) lists ≡ get_or (callers_in calls) method []
waits_here calls method leading callers lists inside leading_is callers_is is =
    (λ k. flat_map (list_of (lists_of (callers_is k))) ((is ∙ ap (λ list. list_of (lists_of list) method) leading_is) k)) ∙ called_here calls method inside

pub told_exact : {E : Type 0} (p : Program) (typings : Typings) (shapes : List Shape) (r : Result Summaries E) →
    ((s : Summaries) → s ≡ summaries_of shapes → AreExact p typings s) → IfOk r (λ s. s ≡ summaries_of shapes) → IfOk r (AreExact p typings)
told_exact p typings shapes (Ok s) exact is = exact s is
told_exact p typings shapes (Err e) exact is = tt

pub length_cons : (n : ℕ) (xs : List ℕ) → length (n ∷ xs) ≡ length xs + 1
length_cons n xs = omega arith
