-- What the instructions of a method that is in all closed sets lead to is in these sets too.
use Rattle.std.proofs.Common.{◌≡◌, ℕ, ◌<◌, true, List, [], length, Option, Some, None, IfSome, sym, ◌∙◌, ap, subst}
use Rattle.std.specs.Option.{option_map}
use Rattle.fm_base.proofs.OptionFacts.{same_value}
use Rattle.fm_base.specs.Rows.{has}
use Rattle.fm_base.specs.declared.ids.ClassId.{ClassId}
use Rattle.fm_code.specs.declared.code_array.Code.{Code}
use Rattle.fm_code.specs.declared.instructions.Insn.{Insn}
use Rattle.fm_conn.proofs.MemberLemmas.{call_in}
use Rattle.fm_conn.specs.Nodes.{TypedMethod}
use Rattle.fm_conn.specs.Pairs.{call_of, use_at}
use Rattle.fm_conn.specs.Shapes.{method_with, HasUsesIn}
use Rattle.fm_conn.specs.inner.PairLists.{IsCallIn}
use Rattle.fm_rapid.proofs.Closing.{follow_needed, kept_of, made-kept, starts-kept}
use Rattle.fm_rapid.proofs.Elements.{option_unnumbered}
use Rattle.fm_rapid.proofs.Opening.{starts_needed}
use Rattle.fm_rapid.specs.Reach.{made_by, narrowed, started_by, starts_of, AreIn}
use Rattle.fm_rapid.specs.inner.Walks.{AreFollowNeeded, AreGoneBelow, AreNeeded, Goes, IsCallFollowed, IsDone, IsFollowNeeded, IsGone, IsMadeNeeded, IsNeeded, LeadsInto, Sets}
use Rattle.fm_types.specs.States.{TypeState}
use Rattle.fm_world.specs.Members.{methods_of}
use Rattle.fm_world.specs.Programs.{code_at, targets, Program}
use Rattle.fm_world.specs.declared.calls.Call.{Call}
use Rattle.fm_world.specs.declared.uses.Use.{Use}

-- ---- an instruction

pub made_needed : (x : TypedMethod) (i : Insn) (u : Use) (o : Option ClassId) → u ≡ use_at x i
    → option_map (λ (c : ClassId). c.0) o ≡ made_by x.program.outline i u → IsFollowNeeded x i → IfSome o (λ c. IsMadeNeeded x.program c.0)
made_needed x i u None u_is is needed = tt
made_needed x i u (Some class) u_is is needed = λ methods made closed.
    subst (λ (v : Option ℕ). IfSome v (λ k. has made k ≡ true)) (sym (is ∙ ap (made_by x.program.outline i) u_is)) (needed methods made closed).makes

pub started_needed : (x : TypedMethod) (i : Insn) (u : Use) (o : Option ClassId) → u ≡ use_at x i
    → option_map (λ (c : ClassId). c.0) o ≡ started_by x.program.outline i u → IsFollowNeeded x i
    → IfSome o (λ c. AreNeeded x.program (starts_of x.program.outline c.0))
started_needed x i u None u_is is needed = tt
started_needed x i u (Some class) u_is is needed =
    starts_needed x.program class.0
    (λ methods made closed.
    subst (λ (v : Option ℕ). IfSome v (λ k. AreIn methods (starts_of x.program.outline k))) (sym (is ∙ ap (started_by x.program.outline i) u_is))
    (needed methods made closed).starts)

pub call_needed : (x : TypedMethod) (i : Insn) (o : Option Call) → o ≡ call_of x i → IsFollowNeeded x i → IfSome o (IsCallFollowed x.program)
call_needed x i None is needed = tt
call_needed x i (Some c) is needed = λ methods made closed.
    subst (λ (v : Option Call). IfSome v (λ d. AreIn methods (targets (narrowed x.program made) d))) (sym is) (needed methods made closed).calls

pub call_there : (x : TypedMethod) (i : Insn) (o : Option Call) → o ≡ call_of x i → HasUsesIn x.program
    → x.number < length (methods_of x.program.outline.classes) → IfSome o (IsCallIn x.program.outline)
call_there x i None is uses number = tt
call_there x i (Some c) is uses number = call_in x i c uses number (sym is)

-- the three of them
pub all_gone : (x : TypedMethod) (i : Insn) (u : Use) (made started : Option ClassId) (call : Option Call) (first second third : Sets) → u ≡ use_at x i
    → option_map (λ (c : ClassId). c.0) made ≡ made_by x.program.outline i u → option_map (λ (c : ClassId). c.0) started ≡ started_by x.program.outline i u
    → call ≡ call_of x i → Goes x.program first second → Goes x.program second third → IfSome made (λ c. has first.made c.0 ≡ true)
    → IfSome started (λ c. AreIn second.methods (starts_of x.program.outline c.0)) → IfSome call (λ c. LeadsInto x.program third c c.kind) → IsGone third x i
all_gone x i u made started call first second third u_is made_is started_is call_is one two makes starts calls = record {
  makes = made-kept x.program second third (kept_of x.program second third two.went) (made_by x.program.outline i (use_at x i))
      (made-kept x.program first second (kept_of x.program first second one.went) (made_by x.program.outline i (use_at x i))
      (option_unnumbered (λ (c : ClassId). c.0) (λ k. has first.made k ≡ true) made (made_by x.program.outline i (use_at x i))
      (made_is ∙ ap (made_by x.program.outline i) u_is) makes));
  starts = starts-kept x.program second third (kept_of x.program second third two.went) (started_by x.program.outline i (use_at x i))
      (option_unnumbered (λ (c : ClassId). c.0) (λ k. AreIn second.methods (starts_of x.program.outline k)) started (started_by x.program.outline i (use_at x i))
      (started_is ∙ ap (started_by x.program.outline i) u_is) starts);
  calls = subst (λ (v : Option Call). IfSome v (λ c. LeadsInto x.program third c c.kind)) call_is calls;
}

-- ---- a method

-- its states don't matter
pub with_no_states : (p : Program) (m : ℕ) (code : Code) (states : List (Option TypeState)) → states ≡ []
    → record { program = p; number = m; code = code; states = states } ≡ method_with p m code []
with_no_states p m code states none = ap (λ (s : List (Option TypeState)). method_with p m code s) none

pub method_needed : (p : Program) (m : ℕ) (code : Code) (x : TypedMethod) → x ≡ method_with p m code [] → IsNeeded p m → code_at p m ≡ Some code
    → AreFollowNeeded x
method_needed p m code x is needed code_is = subst AreFollowNeeded (sym is) (follow_needed p m code needed code_is)

pub method_done : (p : Program) (w : Sets) (m : ℕ) (code : Code) (x : TypedMethod) → x ≡ method_with p m code [] → code_at p m ≡ Some code
    → AreGoneBelow w x (length code.items) → IsDone p w m
method_done p w m code x is code_is gone = λ other other_is.
    let same : code ≡ other = same_value (code_at p m) code other code_is other_is in
    subst (λ (c : Code). AreGoneBelow w (method_with p m c []) (length c.items)) same
    (subst (λ (y : TypedMethod). AreGoneBelow w y (length code.items)) is gone)
