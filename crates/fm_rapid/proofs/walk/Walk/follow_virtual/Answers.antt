use Rattle.std.proofs.Common.{◌≡◌, ◌∙◌, sym, ap, Some, ℕ, subst, Contains}
use Rattle.std.proofs.lemmas.Option.{none-some, same_Some}
use Rattle.std.specs.Option.{option_map}
use Rattle.fm_base.specs.declared.ids.ClassId.{ClassId}
use Rattle.fm_rapid.proofs.Receivers.{named_inside}
use Rattle.fm_rapid.proofs.WalkSteps.{AreIn-kept, Goes-then}
use Rattle.fm_flow.specs.inner.LiveWalks.{list_of}
use Rattle.fm_rapid.specs.inner.Walks.{sets_of}
use Rattle.fm_summ.specs.inner.Callers.{lists_of}
use Rattle.fm_world.specs.Programs.{class_of_type}
use Rattle.fm_world.specs.inner.Marks.{selected_of_arrays}
use Rattle.fm_rapid.proofs.walk.Walk.follow_virtual.Goals as goal

pub follow_arrays-requires-clause-needed : goal.follow_arrays-requires-clause-needed
follow_arrays-requires-clause-needed c = c.requires.needed.arrays

pub returns-in_default-clause-goes : goal.returns-in_default-clause-goes
returns-in_default-clause-goes c = c.in_ok-follow_arrays.ensures.goes

pub returns-in_default-clause-listed : goal.returns-in_default-clause-listed
returns-in_default-clause-listed c = record {
  classes = λ class is. absurd (none-some class (ap (option_map (λ (d : ClassId). d.0)) (sym c.in_default.is) ∙ c.class_of_type.ensures ∙ is));
  arrays = c.in_ok-follow_arrays.ensures.arrays;
}

pub list_call-requires-clause-walk : goal.list_call-requires-clause-walk
list_call-requires-clause-walk c = c.in_ok-follow_arrays.ensures.goes.walk

pub list_call-requires-clause-named : goal.list_call-requires-clause-named
list_call-requires-clause-named c =
    named_inside c.args.program.now c.args.named c.in-Some.class.0 c.requires.named
    (sym c.class_of_type.ensures ∙ ap (option_map (λ (d : ClassId). d.0)) c.in-Some.is)

pub list_call-requires-clause-needed : goal.list_call-requires-clause-needed
list_call-requires-clause-needed c =
    c.requires.needed.classes c.in-Some.class.0 (sym c.class_of_type.ensures ∙ ap (option_map (λ (d : ClassId). d.0)) c.in-Some.is)

pub returns-clause-goes : goal.returns-clause-goes
returns-clause-goes c =
    Goes-then c.args.program.now (sets_of c.args.self.now) (sets_of c.follow_arrays.new.self) (sets_of c.list_call.new.self)
    c.in_ok-follow_arrays.ensures.goes c.in_ok-list_call.ensures.goes

pub returns-clause-listed : goal.returns-clause-listed
returns-clause-listed c =
    let named : class_of_type c.args.named ≡ Some c.in-Some.class.0 = sym c.class_of_type.ensures ∙ ap (option_map (λ (d : ClassId). d.0)) c.in-Some.is in
    record {
      classes = λ class is.
          subst (λ (n : ℕ). Contains (list_of (lists_of c.list_call.new.self.called.items) n) c.args.method.0)
          (same_Some c.in-Some.class.0 class (sym named ∙ is)) c.in_ok-list_call.ensures.listed;
      arrays = AreIn-kept c.args.program.now (sets_of c.follow_arrays.new.self) (sets_of c.list_call.new.self) c.in_ok-list_call.ensures.goes.went
          (selected_of_arrays c.args.program.now c.args.named c.args.method.0) c.in_ok-follow_arrays.ensures.arrays;
    }
