-- Rows that look at no object: their effects by what the operands are.
use Rattle.std.proofs.Common.{◌≡◌, ℕ, ◌<◌, ◌≤◌, ℤ, pos, not, Bool, true, false, if◌then◌else◌, List, [], ◌∷◌, length, min, take, position, get_or, Option, Some, None, Result, OnOk, slice_get, refl, ap, sym, ◌∙◌, subst, arith, add-one, length-take}
use Rattle.std.proofs.lemmas.List.Quantifiers.{position-Some}
use Rattle.std.proofs.lemmas.List.{take_min}
use Rattle.std.proofs.lemmas.Option.{get_or_from_slice_get, slice_get-get_or}
use Rattle.fm_code.specs.SpellsCode.{targets_of}
use Rattle.fm_code.specs.declared.instructions.Insn.{Insn}
use Rattle.fm_exec.proofs.NullSteps.{by_look, reference-seen}
use Rattle.fm_exec.proofs.Seen.{carried, int-seen, long-seen}
use Rattle.fm_exec.specs.Steps.{seen, Steps}
use Rattle.fm_frames.proofs.Throwing.{told-ok}
use Rattle.fm_frames.specs.Acts.{Choose, value_of}
use Rattle.fm_frames.specs.Effects.{Effect, Source, Plain, Jumps, going, stuck, words}
use Rattle.fm_frames.specs.JumpRows.{jumps_if, key_target, null_jump_effect}
use Rattle.fm_frames.specs.Operands.{on_int, on_long, on_reference}
use Rattle.fm_frames.specs.States.{Frame, State}
use Rattle.fm_frames.specs.Steps.{stack_of}
use Rattle.fm_frames.specs.declared.looks.Look.{Look}
use Rattle.fm_frames.specs.declared.looks.Look.TheVariants as look
use Rattle.fm_frames.specs.declared.values.Value.{Value}
use Rattle.fm_frames.specs.declared.values.Value.TheVariants as value
use Rattle.fm_frames.specs.inner.Doings.{before, Does, DoesIn, int_in, long_in}
use Rattle.fm_frames.specs.inner.Looks.{look_at}
use Rattle.fm_frames.specs.inner.Targets.{IsAt, IsAtIn, IsTarget, IsTargetIn}
use Rattle.fm_world.specs.Programs.{Program}

-- ---- operands

pub stuck-int : (p : Program) (choose : Choose) (x y : State) (operand : ℕ) (follows : ℤ → Effect) → None ≡ int_in (slice_get (stack_of x) operand)
    → DoesIn p choose x y stuck → Steps p choose x y (on_int (seen p x) operand follows)
stuck-int p choose x y operand follows none does =
    carried p choose x y (on_int (seen p x) operand follows) stuck (int-seen p.outline x.areas.store (stack_of x) operand None follows none) does

pub with-int : (p : Program) (choose : Choose) (x y : State) (operand : ℕ) (n : ℤ) (follows : ℤ → Effect) (e : Effect)
    → Some n ≡ int_in (slice_get (stack_of x) operand) → follows n ≡ e → Steps p choose x y e → Steps p choose x y (on_int (seen p x) operand follows)
with-int p choose x y operand n follows e some same steps =
    carried p choose x y (on_int (seen p x) operand follows) e
    (int-seen p.outline x.areas.store (stack_of x) operand (Some n) follows some ∙ same) steps

pub stuck-long : (p : Program) (choose : Choose) (x y : State) (operand : ℕ) (follows : ℤ → Effect) → None ≡ long_in (slice_get (stack_of x) operand)
    → DoesIn p choose x y stuck → Steps p choose x y (on_long (seen p x) operand follows)
stuck-long p choose x y operand follows none does =
    carried p choose x y (on_long (seen p x) operand follows) stuck (long-seen p.outline x.areas.store (stack_of x) operand None follows none) does

pub with-long : (p : Program) (choose : Choose) (x y : State) (operand : ℕ) (n : ℤ) (follows : ℤ → Effect) (e : Effect)
    → Some n ≡ long_in (slice_get (stack_of x) operand) → follows n ≡ e → Steps p choose x y e → Steps p choose x y (on_long (seen p x) operand follows)
with-long p choose x y operand n follows e some same steps =
    carried p choose x y (on_long (seen p x) operand follows) e
    (long-seen p.outline x.areas.store (stack_of x) operand (Some n) follows some ∙ same) steps

pub with-reference : (p : Program) (choose : Choose) (x y : State) (operand : ℕ) (found : Look) (follows : Bool → Effect) (e : Effect)
    → found ≡ look_at x.areas.store (slice_get (stack_of x) operand) → by_look found follows ≡ e → Steps p choose x y e
    → Steps p choose x y (on_reference (seen p x) operand follows)
with-reference p choose x y operand found follows e is same steps =
    carried p choose x y (on_reference (seen p x) operand follows) e
    (reference-seen p.outline x.areas.store (stack_of x) operand found follows is ∙ same) steps

-- ---- what is given

pub gave : {T E : Type 0} (r : Result T E) (p : Program) (choose : Choose) (x y : State) (takes : ℕ) (v w : Value)
    → v ≡ w → OnOk r ((source : Source) → value_of (before x) source ≡ w → Does x y (words takes (source ∷ [])))
    → OnOk r (Steps p choose x y (words takes (Plain v ∷ [])))
gave r p choose x y takes v w same ok = told-ok r _ _ (λ given. given (Plain v) same p choose) ok

pub gave-wide : {T E : Type 0} (r : Result T E) (p : Program) (choose : Choose) (x y : State) (takes : ℕ) (v w : Value)
    → v ≡ w → OnOk r ((source : Source) → value_of (before x) source ≡ w → Does x y (words takes (Plain value.Top ∷ source ∷ [])))
    → OnOk r (Steps p choose x y (words takes (Plain value.Top ∷ Plain v ∷ [])))
gave-wide r p choose x y takes v w same ok = told-ok r _ _ (λ given. given (Plain v) same p choose) ok

-- ---- jumps

pub taken-jumps : (p : Program) (choose : Choose) (x y : State) (takes : ℕ) (taken : Bool) → taken ≡ true → DoesIn p choose x y (going takes (Jumps 0))
    → DoesIn p choose x y (going takes (jumps_if taken))
taken-jumps p choose x y takes taken is does = subst (λ b. DoesIn p choose x y (going takes (jumps_if b))) (sym is) does

pub passed-jumps : (p : Program) (choose : Choose) (x y : State) (takes : ℕ) (taken : Bool) → taken ≡ false → DoesIn p choose x y (words takes [])
    → DoesIn p choose x y (going takes (jumps_if taken))
passed-jumps p choose x y takes taken is does = subst (λ b. DoesIn p choose x y (going takes (jumps_if b))) (sym is) does

-- by whether a reference is null, or isn't
abbrev null_follows : Bool → Bool → Effect
null_follows null is_null = going 1 (jumps_if (if null then is_null else not is_null))

kept-test : (null : Bool) → (if null then true else not true) ≡ null
kept-test true = refl
kept-test false = refl

turned-test : (null : Bool) → (if null then false else not false) ≡ not null
turned-test true = refl
turned-test false = refl

pub null-stuck : (p : Program) (choose : Choose) (x y : State) (null : Bool) (found : Look) → found ≡ look_at x.areas.store (slice_get (stack_of x) 0)
    → found ≡ look.Other → DoesIn p choose x y stuck → Steps p choose x y (null_jump_effect null (seen p x))
unfolding null_jump_effect
null-stuck p choose x y null found is other does =
    with-reference p choose x y 0 found (null_follows null) stuck is (ap (λ l. by_look l (null_follows null)) other) does

pub null-jumps : (p : Program) (choose : Choose) (x y : State) (null : Bool) (found : Look) → found ≡ look_at x.areas.store (slice_get (stack_of x) 0)
    → found ≡ look.Null → DoesIn p choose x y (going 1 (jumps_if null)) → Steps p choose x y (null_jump_effect null (seen p x))
unfolding null_jump_effect
null-jumps p choose x y null found is there does =
    with-reference p choose x y 0 found (null_follows null) (going 1 (jumps_if null)) is
    (ap (λ l. by_look l (null_follows null)) there ∙ ap (λ b. going 1 (jumps_if b)) (kept-test null)) does

pub cell-jumps : (p : Program) (choose : Choose) (x y : State) (null : Bool) (found : Look) → found ≡ look_at x.areas.store (slice_get (stack_of x) 0)
    → ((follows : Bool → Effect) → by_look found follows ≡ follows false) → DoesIn p choose x y (going 1 (jumps_if (not null)))
    → Steps p choose x y (null_jump_effect null (seen p x))
unfolding null_jump_effect
cell-jumps p choose x y null found is there does =
    with-reference p choose x y 0 found (null_follows null) (going 1 (jumps_if (not null))) is
    (there (null_follows null) ∙ ap (λ b. going 1 (jumps_if b)) (turned-test null)) does

-- the item of a target, where the frame is at an instruction
abbrev target_in : Program → Frame → ℕ → Option Insn → ℕ
target_in p f n None = f.item
target_in p f n (Some i) = get_or (targets_of i) n f.item

target-frames : (p : Program) (frames : List Frame) (i : Insn) (n item : ℕ) → slice_get (targets_of i) n ≡ Some item → IsAtIn p frames i
    → IsTargetIn p frames n item
target-frames p [] i n item there at = absurd at
target-frames p (f ∷ callers) i n item there at =
    sym (get_or_from_slice_get (targets_of i) n item f.item there) ∙ ap (target_in p f n) (sym at)

pub target-is : (p : Program) (x : State) (i : Insn) (n item : ℕ) → slice_get (targets_of i) n ≡ Some item → IsAt p x i → IsTarget p x n item
target-is p x i n item there at = target-frames p x.frames i n item there at

-- ---- switches

pub key-found : (test : ℤ → Bool) (keys : List ℤ) (others few place d : ℕ) (targets : List ℕ) → few ≡ min (length targets) (length keys)
    → Some place ≡ position test (take few keys)
    → slice_get (others ∷ targets) (key_target (position test (take (length targets) keys))) ≡ Some (get_or targets place d)
key-found test keys others few place d targets many is =
    let same : take few keys ≡ take (length targets) keys = ap (λ n. take n keys) many ∙ take_min (length targets) keys in
    let within : place < length (take few keys) = (position-Some test (take few keys) place (pos 0) (sym is)).0 in
    let below : length (take few keys) ≤ length targets = omega (arith, length-take few keys, many) in
    ap (λ found. slice_get (others ∷ targets) (key_target found)) (sym (is ∙ ap (position test) same))
    ∙ ap (slice_get (others ∷ targets)) (add-one place)
    ∙ slice_get-get_or targets place d (omega arith)

pub key-missing : (test : ℤ → Bool) (keys : List ℤ) (others few : ℕ) (targets : List ℕ) → few ≡ min (length targets) (length keys)
    → None ≡ position test (take few keys)
    → slice_get (others ∷ targets) (key_target (position test (take (length targets) keys))) ≡ Some others
key-missing test keys others few targets many is =
    let same : take few keys ≡ take (length targets) keys = ap (λ n. take n keys) many ∙ take_min (length targets) keys in
    ap (λ found. slice_get (others ∷ targets) (key_target found)) (sym (is ∙ ap (position test) same))
