use Rattle.std.proofs.Common.{◌≡◌, ◌<◌, sym, subst, true, length, ⊎_elim}
use Rattle.fm_base.specs.Rows.{has}
use Rattle.fm_law_sound.proofs.FoundMethods.{special_inside}
use Rattle.std.proofs.lemmas.Result.{on_ok_weaker}
use Rattle.fm_rapid.proofs.Receivers.{special_needed, static_needed, virtual_needed}
use Rattle.fm_rapid.specs.inner.Walks.{sets_of, IsListed, IsNeeded, LeadsInto}
use Rattle.fm_world.specs.Members.{methods_of}
use Rattle.fm_world.specs.Programs.{class_of_type}
use Rattle.fm_world.specs.declared.calls.CallKind.{CallKind}
use Rattle.fm_rapid.proofs.walk.Walk.follow_call.Goals as goal

pub enter-requires-clause-inside : goal.enter-requires-clause-inside
enter-requires-clause-inside c = c.requires.call.method

pub enter-requires-clause-needed : goal.enter-requires-clause-needed
enter-requires-clause-needed c = static_needed c.args.program.now c.args.call c.in-Static.is c.requires.needed

pub returns-in-Static-clause-leads : goal.returns-in-Static-clause-leads
returns-in-Static-clause-leads c =
    on_ok_weaker c.enter.result
    (λ (is : has c.enter.new.self.methods c.args.call.method.0 ≡ true).
    subst (λ (k : CallKind). LeadsInto c.args.program.now (sets_of c.enter.new.self) c.args.call k) (sym c.in-Static.is) is) c.enter.ensures.entered

pub enter-requires-in-Special-clause-inside : goal.enter-requires-in-Special-clause-inside
enter-requires-in-Special-clause-inside c =
    let classes = c.args.program.now.outline.classes in
    subst (λ n. n < length (methods_of classes)) (sym c.special_target-target.ensures)
    (special_inside classes c.args.call.caller.0 (class_of_type c.args.call.named) c.args.call.method.0 c.requires.call.method)

pub enter-requires-in-Special-clause-needed : goal.enter-requires-in-Special-clause-needed
enter-requires-in-Special-clause-needed c =
    subst (IsNeeded c.args.program.now) (sym c.special_target-target.ensures) (special_needed c.args.program.now c.args.call c.in-Special.is c.requires.needed)

pub returns-in-Special-clause-leads : goal.returns-in-Special-clause-leads
returns-in-Special-clause-leads c =
    on_ok_weaker c.enter-in-Special.result
    (λ (is : has c.enter-in-Special.new.self.methods c.special_target-target.result.0 ≡ true).
    subst (λ (k : CallKind). LeadsInto c.args.program.now (sets_of c.enter-in-Special.new.self) c.args.call k) (sym c.in-Special.is)
    (subst (λ n. has c.enter-in-Special.new.self.methods n ≡ true) c.special_target-target.ensures is)) c.enter-in-Special.ensures.entered

pub follow_virtual-requires-clause-needed : goal.follow_virtual-requires-clause-needed
follow_virtual-requires-clause-needed c = virtual_needed c.args.program.now c.args.call c.in-Virtual.is c.requires.call.method c.requires.needed

pub returns-in-Virtual-clause-leads : goal.returns-in-Virtual-clause-leads
returns-in-Virtual-clause-leads c =
    let p = c.args.program.now in
    let now = sets_of c.follow_virtual.new.self in
    on_ok_weaker c.follow_virtual.result
    (λ (listed : IsListed p now c.args.call.named c.args.call.method.0).
    ⊎_elim (λ virtual. subst (λ (k : CallKind). LeadsInto p now c.args.call k) (sym virtual) listed)
    (λ interface. subst (λ (k : CallKind). LeadsInto p now c.args.call k) (sym interface) listed) c.in-Virtual.is) c.follow_virtual.ensures.listed
