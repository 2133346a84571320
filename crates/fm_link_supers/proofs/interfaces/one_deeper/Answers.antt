use Rattle.std.proofs.Common.{sym, ◌∙◌, ap, ◌<◌, ◌++◌, ◌∷◌, [], Bool, List, ℕ, false, length, map, nat_lt, take, arith}
use Rattle.std.specs.Global.{Vec}
use Rattle.std.specs.List.{list_any}
use Rattle.std.proofs.lemmas.List.{length-map, take_all, take_more}
use Rattle.fm_link_supers.proofs.PassedLemmas.{class_passed, class_told}
use Rattle.fm_link_supers.specs.inner.InterfaceRounds.{is_set}
use Rattle.fm_link_supers.specs.inner.ListTables.{lists}
use Rattle.fm_link_supers.proofs.interfaces.one_deeper.Goals as goal

pub loop-class-preserved : goal.loop-class-preserved
loop-class-preserved c =
    let marks = c.args.goes_on.now in
    let listed = lists c.args.listed.now in
    let old = c.loop-class.passed.items in
    let class = c.loop-class.class in
    let list = c.list_at-interfaces.result.now in
    let read = c.as_slice.result.now in
    let start = c.number_at-start.result in
    let place = c.in_ok-place.place in
    let all : List Bool = map (list_any (is_set marks)) listed in
    let within : class < length all =
    omega (
      arith,
      c.loop-class-test.true,
      c.in_ok-count.ensures,
      length-map listed (list_any (is_set marks)),
      length-map c.args.listed.now (λ (v : Vec ℕ). v.items),
    ) in
    record {
      passes = λ have.
          class_passed marks listed old read c.put_number.new.numbers.items list class start place c.list_at-interfaces.ensures
          c.as_slice.ensures.value c.number_at-start.ensures c.put_number.ensures c.in_ok-place.ensures.passed (c.loop-class.invariant.passes have);
      told = λ have.
          c.in_ok-push.ensures.items
          ∙ ap (λ bs. bs ++ nat_lt place (length list) ∷ []) (c.loop-class.invariant.told have)
          ∙ ap (λ b. take class all ++ b ∷ [])
          (class_told marks listed old read list class start place c.list_at-interfaces.ensures c.as_slice.ensures.value c.number_at-start.ensures
          c.in_ok-place.ensures.passed c.in_ok-place.ensures.here (c.loop-class.invariant.passes have))
          ∙ sym (take_more all class false within);
    }

pub returns-clause-passes : goal.returns-clause-passes
returns-clause-passes c = λ have. c.loop-class.invariant.passes have

pub returns-clause-deeper : goal.returns-clause-deeper
returns-clause-deeper c = λ have.
    let marks = c.args.goes_on.now in
    let listed = lists c.args.listed.now in
    let all : List Bool = map (list_any (is_set marks)) listed in
    c.loop-class.invariant.told have
    ∙ take_all c.loop-class.class all
    (omega (
      arith,
      c.loop-class-test.false,
      c.in_ok-count.ensures,
      length-map listed (list_any (is_set marks)),
      length-map c.args.listed.now (λ (v : Vec ℕ). v.items),
    ))
