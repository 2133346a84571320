use Rattle.std.proofs.Common.{rules, sym, subst, ◌≡◌, length, IfOk, MatchBool}
use Rattle.fm_check_handlers.proofs.GivingLemmas.{GivesRun-nothing}
use Rattle.fm_check_handlers.specs.declared.catching.Giving.{Giving}
use Rattle.fm_check_handlers.specs.declared.catching.Giving.TheVariants as giving
use Rattle.fm_check_handlers.specs.inner.Runs.{is_taken, GivesRun, MayGive}
use Rattle.fm_check_walk.specs.inner.Walks.{Untypable, walked}
use Rattle.fm_check_walk.specs.inner.Tasks.{task}
use Rattle.fm_check_handlers.proofs.catching.give_to_run.Goals as goal

pub returns-then-is_empty : goal.returns-then-is_empty
returns-then-is_empty c =
    let t = task c.args.method.now in
    let none : length c.args.run.now.entries.items ≡ 0 = search rules in
    GivesRun-nothing (is_taken t c.args.item c.args.giving) t c.args.run.now (walked c.args.walk.now) c.requires.sound c.requires.stands c.requires.given none

pub carry_to_run-requires-clause-carried : goal.carry_to_run-requires-clause-carried
carry_to_run-requires-clause-carried c = λ h found.
    let is : c.args.giving ≡ giving.Locals c.in-Locals.rises = cc in
    let may = subst (λ (g : Giving). MayGive (task c.args.method.now) (walked c.args.walk.now) c.args.item g) is c.requires.may in
    may.carried h (c.requires.holds h found)

pub returns-in-State : goal.returns-in-State
returns-in-State c =
    let t = task c.args.method.now in
    let is : c.args.giving ≡ giving.State c.in-State.state = cc in
    let Gives : Giving → Type 0 = λ g. IfOk c.bring_to_run.result
    (λ fits. MatchBool fits
    (GivesRun (is_taken t c.args.item g) t c.args.run.now c.bring_to_run.new.run (walked c.args.walk.now) (walked c.bring_to_run.new.walk))
    (Untypable t)) in
    subst Gives (sym is) c.bring_to_run.ensures

pub returns-in-Locals : goal.returns-in-Locals
returns-in-Locals c =
    let t = task c.args.method.now in
    let is : c.args.giving ≡ giving.Locals c.in-Locals.rises = cc in
    let Gives : Giving → Type 0 = λ g. IfOk c.carry_to_run.result
    (λ fits. MatchBool fits
    (GivesRun (is_taken t c.args.item g) t c.args.run.now c.carry_to_run.new.run (walked c.args.walk.now) (walked c.carry_to_run.new.walk))
    (Untypable t)) in
    subst Gives (sym is) c.carry_to_run.ensures
