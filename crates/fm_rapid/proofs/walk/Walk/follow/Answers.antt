use Rattle.std.proofs.Common.{◌∙◌, sym, ap, map}
use Rattle.std.specs.Option.{option_map}
use Rattle.fm_conn.proofs.CodedLemmas.{coded_at}
use Rattle.fm_rapid.proofs.ItemLemmas.{method_done, method_needed, with_no_states}
use Rattle.fm_rapid.proofs.WalkSteps.{Goes-none}
use Rattle.fm_rapid.specs.inner.Walks.{sets_of}
use Rattle.fm_types.specs.Typings.{known_state}
use Rattle.fm_world.specs.declared.records.MethodInfo.{MethodInfo}
use Rattle.fm_rapid.proofs.walk.Walk.follow.Goals as goal

pub returns-in_default-clause-goes : goal.returns-in_default-clause-goes
returns-in_default-clause-goes c = Goes-none c.args.program.now (sets_of c.args.self.now) c.requires.walk

pub returns-in_default-clause-done : goal.returns-in_default-clause-done
returns-in_default-clause-done c = λ code is.
    absurd (c.in_default.not-Coded code (ap (λ (m : MethodInfo). m.body) c.method.ensures ∙ (c.requires.program.codes c.args.method.0 code is).body_is))

pub flow_of-requires : goal.flow_of-requires
flow_of-requires c =
    let code_is = coded_at c.args.program.now c.args.method.0 c.in-Coded.code (ap (λ (m : MethodInfo). m.body) (sym c.method.ensures) ∙ c.in-Coded.is) in
    c.requires.program.codes c.args.method.0 c.in-Coded.code code_is

pub follow_items-requires-clause-needed : goal.follow_items-requires-clause-needed
follow_items-requires-clause-needed c =
    let p = c.args.program.now in
    let code_is = coded_at p c.args.method.0 c.in-Coded.code (ap (λ (m : MethodInfo). m.body) (sym c.method.ensures) ∙ c.in-Coded.is) in
    method_needed p c.args.method.0 c.in-Coded.code _
    (with_no_states p c.args.method.0 c.in-Coded.code _ (ap (map (option_map known_state)) c.empty.ensures)) c.requires.needed code_is

pub returns-clause-done : goal.returns-clause-done
returns-clause-done c =
    let p = c.args.program.now in
    let code_is = coded_at p c.args.method.0 c.in-Coded.code (ap (λ (m : MethodInfo). m.body) (sym c.method.ensures) ∙ c.in-Coded.is) in
    method_done p (sets_of c.follow_items.new.self) c.args.method.0 c.in-Coded.code _
    (with_no_states p c.args.method.0 c.in-Coded.code _ (ap (map (option_map known_state)) c.empty.ensures)) code_is c.in_ok-follow_items.ensures.gone
