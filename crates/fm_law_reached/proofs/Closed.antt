-- Sets that are closed for a program are closed for the program that is narrowed: what an instruction leads to is asked of the narrowed one as it is.
use Rattle.std.proofs.Common.{◌≡◌, ℕ, Bool, true, List, [], Option, refl, sym, ap, subst, ◌∙◌, IfSome}
use Rattle.fm_base.specs.Rows.{has}
use Rattle.fm_code.specs.declared.code_array.Code.{Code}
use Rattle.fm_code.specs.declared.instructions.Insn.{Insn}
use Rattle.fm_code.specs.declared.instructions.Insn.TheVariants as insn
use Rattle.fm_conn.specs.Nodes.{TypedMethod}
use Rattle.fm_conn.specs.Pairs.{call_of, call_with, use_at}
use Rattle.fm_conn.specs.Shapes.{method_with}
use Rattle.fm_place.proofs.SameTypings.{used_same}
use Rattle.fm_place.specs.Safe.{narrowed_to}
use Rattle.fm_rapid.specs.Reach.{AreIn, IsClosed, IsFollowed, made_by, narrowed, started_by, starts_of}
use Rattle.fm_world.specs.Programs.{Program, targets}
use Rattle.fm_world.specs.declared.calls.Call.{Call}
use Rattle.fm_world.specs.declared.calls.CallKind.{CallKind}
use Rattle.fm_world.specs.declared.calls.CallKind.TheVariants as call
use Rattle.fm_world.specs.declared.uses.Use.{Use}
use Rattle.fm_world.specs.declared.uses.Use.TheVariants as resolved

module _ (p : Program) (narrow : Option (List Bool)) (methods made : List Bool) where
  abbrev q : Program
  q = narrowed_to p narrow

  -- ---- one instruction

  module _ (method : ℕ) (code : Code) where
    abbrev x : TypedMethod
    x = method_with p method code []

    abbrev y : TypedMethod
    y = method_with q method code []

    use_same : (i : Insn) → use_at y i ≡ use_at x i
    use_same i = used_same p q refl refl method i

    with_same : (k : CallKind) (u : Use) → call_with y k u ≡ call_with x k u
    with_same k (resolved.OfMethod m t) = refl
    with_same k u = refl

    call_same : (i : Insn) → call_of y i ≡ call_of x i
    call_same (insn.Virtual index) = with_same call.Virtual (use_at y (insn.Virtual index)) ∙ ap (call_with x call.Virtual) (use_same (insn.Virtual index))
    call_same (insn.Interface index) =
        with_same call.Interface (use_at y (insn.Interface index)) ∙ ap (call_with x call.Interface) (use_same (insn.Interface index))
    call_same (insn.Special index) = with_same call.Special (use_at y (insn.Special index)) ∙ ap (call_with x call.Special) (use_same (insn.Special index))
    call_same (insn.Static index) = with_same call.Static (use_at y (insn.Static index)) ∙ ap (call_with x call.Static) (use_same (insn.Static index))
    call_same i = refl

    followed : (i : Insn) → IsFollowed methods made x i → IsFollowed methods made y i
    followed i was = record {
      makes = subst (λ (u : Use). IfSome (made_by p.outline i u) (λ class. has made class ≡ true)) (sym (use_same i)) was.makes;
      starts = subst (λ (u : Use). IfSome (started_by p.outline i u) (λ class. AreIn methods (starts_of p.outline class))) (sym (use_same i)) was.starts;
      calls = subst (λ (o : Option Call). IfSome o (λ named. AreIn methods (targets (narrowed p made) named))) (sym (call_same i)) was.calls;
    }

  -- ---- the sets

  pub closed_narrowed : IsClosed p methods made → IsClosed q methods made
  closed_narrowed closed = record {
    main = closed.main;
    opening = closed.opening;
    built_in = closed.built_in;
    items = λ method code j i within coded reached there. followed method code i (closed.items method code j i within coded reached there);
  }
