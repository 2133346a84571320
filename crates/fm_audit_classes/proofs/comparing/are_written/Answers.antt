use Rattle.std.proofs.Common.{◌≡◌, ◌∙◌, sym, ap, subst, ℕ, ◌+◌, ◌-◌, ◌<◌, ◌≤◌, true, false, List, drop, take, length, length-take, refl, arith}
use Rattle.std.proofs.lemmas.Bool.{false≢true}
use Rattle.std.proofs.lemmas.List.{length-drop}
use Rattle.fm_audit_classes.proofs.FoundLemmas.{found_within}
use Rattle.fm_audit_classes.proofs.HeadLemmas.{class_in}
use Rattle.fm_audit_classes.proofs.StepLemmas.{false_of, spelled_more, still_more, whole_more, written_more}
use Rattle.fm_audit_classes.proofs.FirstLemmas.{first_more, first_now}
use Rattle.fm_audit_classes.proofs.WholeIfLemmas.{names_by}
use Rattle.fm_chain.specs.Chaining.{calls_for}
use Rattle.fm_audit_classes.specs.Parts.{HasClass, HaveClasses}
use Rattle.fm_audit_classes.specs.inner.Methods.{IsFirstIn, IsFirstPlanned}
use Rattle.fm_audit_classes.specs.inner.Named.{AreStill, IsStill}
use Rattle.fm_audit_classes.specs.inner.Found.{AreWhollyWritten}
use Rattle.fm_audit_classes.specs.inner.Low.{are_low}
use Rattle.fm_audit_classes.specs.inner.Compared.{MayBeCompared, MayBeComparedEach}
use Rattle.fm_code.specs.declared.class_file.ClassDef.{ClassDef}
use Rattle.fm_place_weave.specs.declared.planned.Planned.{Planned}
use Rattle.fm_rewrite.proofs.StepLemmas.{left, others_counted}
use Rattle.fm_rewrite.specs.inner.ByPlans.{classes_by, method_count, others, own, rewritten_by}
use Rattle.fm_audit_classes.proofs.comparing.are_written.Goals as goal

pub split_at-requires : goal.split_at-requires
split_at-requires c =
    let here = c.loop-place in
    let classes = c.args.classes.now in
    let class = c.index-classes-place.result in
    let counted : method_count (drop here.place classes) ≡ length class.methods + method_count (drop (here.place + 1) classes) =
    ap (λ cs. method_count cs)
    (left classes here.place class c.loop-place-test.true c.index-classes-place.is (λ (cs : List ClassDef). drop here.place classes ≡ cs) refl) in
    omega (arith, counted, here.invariant.one_each, c.len.ensures)

pub is_written-requires-clause-class : goal.is_written-requires-clause-class
is_written-requires-clause-class c =
    let here = c.loop-place in
    let classes = c.args.classes.now in
    let class = c.index-classes-place.result in
    let may = (left classes here.place class c.loop-place-test.true c.index-classes-place.is (λ (cs : List ClassDef). MayBeComparedEach here.rest.now cs)
    here.invariant.may).0 in
    let front = c.split_at.ensures.front ∙ ap (λ n. take n here.rest.now) c.len.ensures in
    subst (λ (ds : List Planned). MayBeCompared ds class) (sym front) may

pub is_written-requires-clause-written : goal.is_written-requires-clause-written
is_written-requires-clause-written c =
    (spelled_more c.args.written.now c.loop-place.place c.index-written-place.result
    (let within : c.loop-place.place < length c.args.written.now = omega (arith, c.loop-place-test.true, c.requires.lengths) in within)
    c.index-written-place.is c.loop-place.invariant.spelled).0

pub first_other-requires-clause-written : goal.first_other-requires-clause-written
first_other-requires-clause-written c =
    (spelled_more c.args.written.now c.loop-place.place c.index-written-place.result
    (let within : c.loop-place.place < length c.args.written.now = omega (arith, c.loop-place-test.true, c.requires.lengths) in within)
    c.index-written-place.is c.loop-place.invariant.spelled).0

pub first_other-requires-clause-class : goal.first_other-requires-clause-class
first_other-requires-clause-class c =
    let here = c.loop-place in
    let classes = c.args.classes.now in
    let class = c.index-classes-place.result in
    let may = (left classes here.place class c.loop-place-test.true c.index-classes-place.is (λ (cs : List ClassDef). MayBeComparedEach here.rest.now cs)
    here.invariant.may).0 in
    let front = c.split_at.ensures.front ∙ ap (λ n. take n here.rest.now) c.len.ensures in
    subst (λ (ds : List Planned). MayBeCompared ds class) (sym front) may

pub not_safe-requires : goal.not_safe-requires
not_safe-requires c =
    let here = c.loop-place in
    let own = ap length c.split_at.ensures.front in
    let taken = length-take c.len.result here.rest.now in
    let room = c.requires.method_numbers in
    let all = c.requires.one_each in
    let shorter = here.invariant.shorter in
    omega (arith, own, taken, room, all, shorter)

pub returns-then-not-same-clause-found : goal.returns-then-not-same-clause-found
returns-then-not-same-clause-found c =
    let here = c.loop-place in
    let own = ap length c.split_at.ensures.front in
    let taken = length-take c.len.result here.rest.now in
    let all = c.requires.one_each in
    let shorter = here.invariant.shorter in
    let first = c.args.numbers.1 + (length c.args.planned.now - length here.rest.now) in
    found_within (c.args.numbers.0 + here.place + 1) (c.args.numbers.0 + length c.args.classes.now) (first + length c.split_at.result.0.now)
    (c.args.numbers.1 + method_count c.args.classes.now) c.not_safe.result (omega (arith, c.loop-place-test.true))
    (omega (arith, own, taken, all, shorter)) c.not_safe.ensures.found

pub returns-then-not-same-clause-whole : goal.returns-then-not-same-clause-whole
returns-then-not-same-clause-whole c =
    let here = c.loop-place in
    let classes = c.args.classes.now in
    let written = c.args.written.now in
    let class = c.index-classes-place.result in
    let new = c.index-written-place.result in
    let within = c.loop-place-test.true in
    let inside : here.place < length written = omega (arith, within, c.requires.lengths) in
    let front = c.split_at.ensures.front ∙ ap (λ n. take n here.rest.now) c.len.ensures in
    false_of (AreWhollyWritten c.args.planned.now classes written) c.not_safe.result
    (λ whole.
    let more = whole_more classes written here.place class new here.rest.now within inside c.index-classes-place.is c.index-written-place.is
    (here.invariant.whole whole) in
    let low : are_low c.split_at.result.0.now class.methods ≡ true = subst (λ (ds : List Planned). are_low ds class.methods ≡ true) (sym front) more.low in
    let same : new ≡ rewritten_by c.split_at.result.0.now class = more.same ∙ ap (λ ds. rewritten_by ds class) (sym front) in
    false≢true (sym c.if-not-same.true ∙ c.in_ok-same.ensures.whole low same))

pub returns-then-not-same-clause-first : goal.returns-then-not-same-clause-first
returns-then-not-same-clause-first c =
    let here = c.loop-place in
    let classes = c.args.classes.now in
    let written = c.args.written.now in
    let class = c.index-classes-place.result in
    let new = c.index-written-place.result in
    let within = c.loop-place-test.true in
    let inside : here.place < length written = omega (arith, within, c.requires.lengths) in
    let done = here.rest.now in
    let front : c.split_at.result.0.now ≡ own class done = c.split_at.ensures.front ∙ ap (λ n. take n done) c.len.ensures in
    let more = still_more classes written here.place class new done within inside c.index-classes-place.is c.index-written-place.is here.invariant.still in
    let may = (left classes here.place class within c.index-classes-place.is (λ (cs : List ClassDef). MayBeComparedEach done cs) here.invariant.may).0 in
    let shorter = here.invariant.shorter in
    let number = c.args.numbers.0 + here.place in
    let first = c.args.numbers.1 + (length c.args.planned.now - length done) in
    let has : HaveClasses classes written → HasClass class new = λ have.
    class_in classes written here.place class new within inside c.index-classes-place.is c.index-written-place.is (have here.place within) in
    names_by c.split_at.result.0.now class new (HaveClasses classes written)
    (IsFirstPlanned c.args.numbers.0 c.args.numbers.1 c.args.planned.now classes written) number first c.in_ok-other.other c.not_safe.result has
    (subst (λ (ds : List Planned). IsStill ds class new) (sym front) more.0) c.in_ok-other.ensures.none c.in_ok-other.ensures.first
    (ap length front ∙ may.one_each) c.not_safe.ensures.named
    (λ low same. false≢true (sym c.if-not-same.true ∙ c.in_ok-same.ensures.whole low same))
    (λ at have is. here.invariant.first number first number (first + at) refl (omega (arith, shorter))
    (first_now number first done classes written here.place class new within inside c.index-classes-place.is c.index-written-place.is (has have) at
    (subst (λ (ds : List Planned). IsFirstIn (calls_for false class.pool.entries) ds class.methods new.methods at) front is)))

pub loop-place-init : goal.loop-place-init
loop-place-init c = record {
  shorter = omega arith;
  one_each = c.requires.one_each;
  may = c.requires.classes;
  spelled = c.requires.written;
  still = c.requires.still;
  whole = λ whole. whole;
  same = λ same. same;
  first = λ class first number method class_is first_is found.
      let same_class : class ≡ c.args.numbers.0 = omega (arith, class_is) in
      let same_first : first ≡ c.args.numbers.1 = omega (arith, first_is) in
      subst (λ (q : ℕ × ℕ). IsFirstPlanned q.0 q.1 c.args.planned.now c.args.classes.now c.args.written.now number method)
      (λ k. (same_class k, same_first k)) found;
}

pub loop-place-preserved : goal.loop-place-preserved
loop-place-preserved c =
    let here = c.loop-place in
    let classes = c.args.classes.now in
    let written = c.args.written.now in
    let place = here.place in
    let class = c.index-classes-place.result in
    let new = c.index-written-place.result in
    let within = c.loop-place-test.true in
    let is = c.index-classes-place.is in
    let inside : place < length written = omega (arith, within, c.requires.lengths) in
    let done = here.rest.now in
    let front = c.split_at.ensures.front ∙ ap (λ n. take n done) c.len.ensures in
    let after : c.split_at.result.1.now ≡ others class done = c.split_at.ensures.back ∙ ap (λ n. drop n done) c.len.ensures in
    let rest = drop (place + 1) classes in
    record {
      shorter =
          let before = here.invariant.shorter in
          let dropped = length-drop (length class.methods) done in
          let now = ap length after in
          omega (arith, before, dropped, now);
      one_each = ap length after ∙ others_counted classes place class within is done here.invariant.one_each;
      may =
          subst (λ (d : List Planned). MayBeComparedEach d rest) (sym after)
          (left classes place class within is (λ (cs : List ClassDef). MayBeComparedEach done cs) here.invariant.may).1;
      spelled = (spelled_more written place new inside c.index-written-place.is here.invariant.spelled).1;
      still =
          subst (λ (ds : List Planned). AreStill ds rest (drop (place + 1) written)) (sym after)
          (still_more classes written place class new done within inside is c.index-written-place.is here.invariant.still).1;
      whole = λ whole.
          subst (λ (ds : List Planned). AreWhollyWritten ds rest (drop (place + 1) written)) (sym after)
          (whole_more classes written place class new done within inside is c.index-written-place.is (here.invariant.whole whole)).more;
      same = λ same_rest.
          let here_same : new ≡ rewritten_by (own class done) class =
          c.in_ok-same.ensures.same c.if-not-same.false ∙ ap (λ d. rewritten_by d class) front in
          here.invariant.same (written_more classes written place class new done within inside is c.index-written-place.is here_same
          (same_rest ∙ ap (λ d. classes_by d rest) after));
      first = λ number_after first_after number method number_is first_is found.
          let here_same : new ≡ rewritten_by (own class done) class =
          c.in_ok-same.ensures.same c.if-not-same.false ∙ ap (λ d. rewritten_by d class) front in
          let here_low : are_low (own class done) class.methods ≡ true =
          subst (λ (ds : List Planned). are_low ds class.methods ≡ true) front (c.in_ok-same.ensures.low c.if-not-same.false) in
          let may = (left classes place class within is (λ (cs : List ClassDef). MayBeComparedEach done cs) here.invariant.may).0 in
          let first = c.args.numbers.1 + (length c.args.planned.now - length done) in
          let shorter = here.invariant.shorter in
          let counted = ap length after in
          let dropped = length-drop (length class.methods) done in
          let enough : length class.methods ≤ length done =
          (let few = others_counted classes place class within is done here.invariant.one_each in
          let all = here.invariant.one_each in
          let parts : method_count (drop place classes) ≡ length class.methods + method_count (drop (place + 1) classes) =
          ap (λ cs. method_count cs) (left classes place class within is (λ (cs : List ClassDef). drop place classes ≡ cs) refl) in
          omega (arith, all, parts)) in
          let next_number : number_after ≡ c.args.numbers.0 + place + 1 = omega (arith, number_is) in
          let next_first : first_after ≡ first + length class.methods = omega (arith, first_is, counted, dropped, enough, shorter) in
          here.invariant.first (c.args.numbers.0 + place) first number method refl (omega (arith, shorter))
          (first_more (c.args.numbers.0 + place) first done classes written place class new within inside is c.index-written-place.is may here_low here_same
          number method
          (subst (λ (q : (ℕ × ℕ) × List Planned). IsFirstPlanned q.0.0 q.0.1 q.1 rest (drop (place + 1) written) number method)
          (λ k. ((next_number k, next_first k), after k)) found));
    }
