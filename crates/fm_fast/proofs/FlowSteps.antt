-- Steps of a state of which only the frames are known: what its topmost frame became.
use Rattle.std.proofs.Common.{◌≡◌, ℕ, ◌+◌, not, Bool, true, false, ◌==◌, List, [], ◌∷◌, drop, ℤ, Option, Some, None, slice_get, if◌then◌else◌, refl, ap, sym, subst, ◌∙◌}
use Rattle.std.proofs.lemmas.Option.{get_or_from_slice_get, none-some, same_Some}
use Rattle.fm_cells.specs.Answers.{head_at}
use Rattle.fm_cells.specs.Stores.{Store}
use Rattle.fm_cells.specs.declared.answers.Cell.{Cell}
use Rattle.fm_cells.specs.declared.answers.Head.{Head}
use Rattle.fm_exec.proofs.NullSteps.{by_look}
use Rattle.fm_exec.proofs.PlainSteps.{with-reference}
use Rattle.fm_exec.specs.Steps.{seen, Steps}
use Rattle.fm_fast.specs.Flows.{on, stepped_on, with_branched, with_given, with_given_wide, with_stored, with_stored_wide}
use Rattle.fm_frames.proofs.Finishes.{finished-top, on_top-then, source-at, with_word, without_words}
use Rattle.fm_frames.proofs.Jumping.{jumped, same-jumps, same-passes}
use Rattle.fm_frames.specs.Acts.{Choose, same_cell, value_of}
use Rattle.fm_frames.specs.Effects.{Effect, Jumps, JumpsIfSame, OfOperand, Plain, Source, going, words}
use Rattle.fm_frames.specs.JumpRows.{jumps_if, null_jump_effect}
use Rattle.fm_frames.specs.States.{Frame, State, word_at}
use Rattle.fm_frames.specs.Steps.{locals_of, stack_of}
use Rattle.fm_frames.specs.declared.looks.Look.TheVariants as look
use Rattle.fm_frames.specs.declared.values.Value.{Value}
use Rattle.fm_frames.specs.declared.values.Value.TheVariants as value
use Rattle.fm_frames.specs.inner.Doings.{before, DoesIn, int_in, long_in, NextFits}
use Rattle.fm_frames.specs.inner.Frames.{locals_in, on_top, stack_in}
use Rattle.fm_frames.specs.inner.Looks.{look_at, look_head}
use Rattle.fm_frames.specs.inner.Targets.{goes_same, IsTarget}
use Rattle.fm_world.specs.Programs.{Program}

module _ (p : Program) (choose : Choose) (x : State) (old new : List Frame) where
  -- a word was put in place of others
  pub gave : (takes : ℕ) (v : Value) (source : Source) → NextFits old → new ≡ on_top (with_given takes v) old → value_of (before (on x old)) source ≡ v
      → DoesIn p choose (on x old) (stepped_on x new) (words takes (source ∷ []))
  gave takes v source fits is told =
      finished-top p choose (on x old) (on x old) new (with_given takes v) takes (source ∷ []) [] refl fits is
      (λ f callers at. ap (λ w. record f { item = f.item + 1; stack = w ∷ drop takes f.stack }) (sym (source-at (on x old) (on x old) source v refl told f callers at)))

  -- a long was put in place of words, its second half on top
  pub gave-wide : (takes : ℕ) (v : Value) (source : Source) → NextFits old → new ≡ on_top (with_given_wide takes v) old → value_of (before (on x old)) source ≡ v
      → DoesIn p choose (on x old) (stepped_on x new) (words takes (Plain value.Top ∷ source ∷ []))
  gave-wide takes v source fits is told =
      finished-top p choose (on x old) (on x old) new (with_given_wide takes v) takes (Plain value.Top ∷ source ∷ []) [] refl fits is
      (λ f callers at. ap (λ w. with_given_wide takes w f) (sym (source-at (on x old) (on x old) source v refl told f callers at)))

  -- a local was given a value
  pub stored : (takes place : ℕ) (v : Value) (source : Source) → NextFits old → new ≡ on_top (with_stored takes place v) old
      → value_of (before (on x old)) source ≡ v
      → DoesIn p choose (on x old) (stepped_on x new) (record (words takes []) { writes = (place, source) ∷ [] })
  stored takes place v source fits is told =
      finished-top p choose (on x old) (on x old) new (with_stored takes place v) takes [] ((place, source) ∷ []) refl fits is
      (λ f callers at. ap (λ w. with_stored takes place w f) (sym (source-at (on x old) (on x old) source v refl told f callers at)))

  -- a local was given a long
  pub stored-wide : (takes place : ℕ) (v : Value) (source : Source) → NextFits old → new ≡ on_top (with_stored_wide takes place v) old
      → value_of (before (on x old)) source ≡ v
      → DoesIn p choose (on x old) (stepped_on x new) (record (words takes []) { writes = (place, source) ∷ (place + 1, Plain value.Top) ∷ [] })
  stored-wide takes place v source fits is told =
      finished-top p choose (on x old) (on x old) new (with_stored_wide takes place v) takes [] ((place, source) ∷ (place + 1, Plain value.Top) ∷ []) refl fits is
      (λ f callers at. ap (λ w. with_stored_wide takes place w f) (sym (source-at (on x old) (on x old) source v refl told f callers at)))

  -- words were taken
  pub took : (takes : ℕ) → NextFits old → new ≡ on_top (with_branched takes false 0) old → DoesIn p choose (on x old) (stepped_on x new) (words takes [])
  took takes fits is = finished-top p choose (on x old) (on x old) new (with_branched takes false 0) takes [] [] refl fits is (λ f callers at. refl)

gone-top : (takes target : ℕ) (frames : List Frame)
    → on_top (with_branched takes true target) frames
    ≡ on_top (λ f. record f { stack = drop takes f.stack }) (on_top (λ f. record f { item = target }) frames)
gone-top takes target [] = refl
gone-top takes target (f ∷ callers) = refl

passed-top : (takes target : ℕ) (frames : List Frame) → on_top (with_branched takes false target) frames ≡ on_top (with_branched takes false 0) frames
passed-top takes target [] = refl
passed-top takes target (f ∷ callers) = refl

-- it went to the first target or on
pub branched : (p : Program) (choose : Choose) (x : State) (old new : List Frame) (takes : ℕ) (taken : Bool) (target : ℕ) → NextFits old
    → new ≡ on_top (with_branched takes taken target) old → IsTarget p (on x old) 0 target
    → DoesIn p choose (on x old) (stepped_on x new) (going takes (jumps_if taken))
branched p choose x old new takes true target fits is there =
    jumped p choose (on x old) (on x old) (on_top (λ f. record f { item = target }) old) new takes target 0 refl refl (is ∙ gone-top takes target old) there
branched p choose x old new takes false target fits is there = took p choose x old new takes fits (is ∙ passed-top takes target old)

-- it went to one of the targets
pub switched : (p : Program) (choose : Choose) (x : State) (old new : List Frame) (item target : ℕ)
    → new ≡ on_top (with_branched 1 true item) old → IsTarget p (on x old) target item
    → DoesIn p choose (on x old) (stepped_on x new) (going 1 (Jumps target))
switched p choose x old new item target is there =
    jumped p choose (on x old) (on x old) (on_top (λ f. record f { item = item }) old) new 1 item target refl refl (is ∙ gone-top 1 item old) there

-- ---- operands

pub stack-on : (x : State) (frames : List Frame) → stack_of (on x frames) ≡ stack_in frames
stack-on x [] = refl
stack-on x (f ∷ callers) = refl

-- what is known of a word of the frames' stack is known of the state's
pub seen-on : {T : Type 0} (x : State) (frames : List Frame) (place : ℕ) (look : Option Value → T) (found : T) → found ≡ look (slice_get (stack_in frames) place)
    → found ≡ look (slice_get (stack_of (on x frames)) place)
seen-on x frames place look found is = is ∙ ap (λ stack. look (slice_get stack place)) (sym (stack-on x frames))

-- the word at a place, and a local
pub word-on : (x : State) (frames : List Frame) (place : ℕ) (v : Value) → Some v ≡ slice_get (stack_in frames) place → word_at (stack_of (on x frames)) place ≡ v
word-on x frames place v is =
    ap (λ stack. word_at stack place) (stack-on x frames) ∙ get_or_from_slice_get (stack_in frames) place v value.Top (sym is)

pub local-on : (x : State) (frames : List Frame) (place : ℕ) (v : Value) → v ≡ word_at (locals_in frames) place → word_at (locals_of (on x frames)) place ≡ v
local-on x [] place v is = sym is
local-on x (f ∷ callers) place v is = sym is

-- ---- a word that is there twice

dup-stack : (stack : List Value) (v : Value) → Some v ≡ slice_get stack 0 → v ∷ stack ≡ word_at stack 0 ∷ word_at stack 0 ∷ drop 1 stack
dup-stack [] v is = absurd (none-some v (sym is))
dup-stack (w ∷ more) v is = ap (λ u. u ∷ w ∷ more) (same_Some _ _ is)

pub doubled : (p : Program) (choose : Choose) (x : State) (old new : List Frame) (v : Value) → NextFits old → new ≡ on_top (with_given 0 v) old
    → Some v ≡ slice_get (stack_in old) 0 → DoesIn p choose (on x old) (stepped_on x new) (words 1 (OfOperand 0 ∷ OfOperand 0 ∷ []))
doubled p choose x old new v fits is top =
    finished-top p choose (on x old) (on x old) new (with_given 0 v) 1 (OfOperand 0 ∷ OfOperand 0 ∷ []) [] refl fits is
    (λ f callers at. ap (λ stack. record f { item = f.item + 1; stack = stack }) (dup-stack f.stack v (top ∙ ap (λ frames. slice_get (stack_in frames) 0) at)))

dup2-stack : (stack : List Value) (v w : Value) → Some v ≡ slice_get stack 0 → Some w ≡ slice_get stack 1
    → v ∷ w ∷ stack ≡ word_at stack 0 ∷ word_at stack 1 ∷ word_at stack 0 ∷ word_at stack 1 ∷ drop 2 stack
dup2-stack [] v w top below = absurd (none-some v (sym top))
dup2-stack (a ∷ []) v w top below = absurd (none-some w (sym below))
dup2-stack (a ∷ b ∷ more) v w top below = λ i. same_Some _ _ top i ∷ same_Some _ _ below i ∷ a ∷ b ∷ more

-- two words on top are there twice
pub doubled-wide : (p : Program) (choose : Choose) (x : State) (old half new : List Frame) (v w : Value) → NextFits old → Some v ≡ slice_get (stack_in old) 0
    → Some w ≡ slice_get (stack_in old) 1 → half ≡ on_top (with_word w) old → new ≡ on_top (with_given 0 v) half
    → DoesIn p choose (on x old) (stepped_on x new) (words 2 (OfOperand 0 ∷ OfOperand 1 ∷ OfOperand 0 ∷ OfOperand 1 ∷ []))
doubled-wide p choose x old half new v w fits top below pushed is =
    finished-top p choose (on x old) (on x old) new (λ f. with_given 0 v (with_word w f)) 2 (OfOperand 0 ∷ OfOperand 1 ∷ OfOperand 0 ∷ OfOperand 1 ∷ []) [] refl fits
    (is ∙ ap (on_top (with_given 0 v)) pushed ∙ on_top-then (with_word w) (with_given 0 v) old)
    (λ f callers at. ap (λ stack. record f { item = f.item + 1; stack = stack })
    (dup2-stack f.stack v w (top ∙ ap (λ frames. slice_get (stack_in frames) 0) at) (below ∙ ap (λ frames. slice_get (stack_in frames) 1) at)))

-- a word on top leaves the next item
pub fits-pushed : (old new : List Frame) (v : Value) → NextFits old → new ≡ on_top (with_word v) old → NextFits new
fits-pushed [] new v fits is = absurd fits
fits-pushed (f ∷ callers) new v fits is = subst NextFits (sym is) fits

-- a word that is put on top and taken off
pub pushed-off : (old half same new : List Frame) (v : Value) → half ≡ on_top (with_word v) old → same ≡ half → new ≡ on_top (without_words 1) same → new ≡ old
pushed-off old half same new v pushed kept is = is ∙ ap (on_top (without_words 1)) (kept ∙ pushed) ∙ off old where
  off : (frames : List Frame) → on_top (without_words 1) (on_top (with_word v) frames) ≡ frames
  off [] = refl
  off (f ∷ callers) = refl

-- ---- words that are numbers

pub int-found : (v : Option Value) (n : ℤ) → Some n ≡ int_in v → v ≡ Some (value.Int n)
int-found None n is = absurd (none-some n (sym is))
int-found (Some value.Top) n is = absurd (none-some n (sym is))
int-found (Some (value.Int m)) n is = ap (λ k. Some (value.Int k)) (sym (same_Some _ _ is))
int-found (Some (value.Long m)) n is = absurd (none-some n (sym is))
int-found (Some (value.Ref cell)) n is = absurd (none-some n (sym is))

pub long-found : (v : Option Value) (n : ℤ) → Some n ≡ long_in v → v ≡ Some (value.Long n)
long-found None n is = absurd (none-some n (sym is))
long-found (Some value.Top) n is = absurd (none-some n (sym is))
long-found (Some (value.Int m)) n is = absurd (none-some n (sym is))
long-found (Some (value.Long m)) n is = ap (λ k. Some (value.Long k)) (sym (same_Some _ _ is))
long-found (Some (value.Ref cell)) n is = absurd (none-some n (sym is))

-- ---- jumps

pub kept-top : (frames : List Frame) → frames ≡ on_top (λ f. record f { stack = drop 0 f.stack }) frames
kept-top [] = refl
kept-top (f ∷ callers) = refl

-- by whether two references are the same
pub same-branched : (p : Program) (choose : Choose) (x : State) (old new : List Frame) (same taken : Bool) (target : ℕ) → NextFits old
    → new ≡ on_top (with_branched 2 taken target) old → IsTarget p (on x old) 0 target → taken ≡ goes_same same (on x old)
    → DoesIn p choose (on x old) (stepped_on x new) (going 2 (JumpsIfSame same))
same-branched p choose x old new same true target fits is there goes =
    same-jumps p choose (on x old) (stepped_on x new) same true goes refl (branched p choose x old new 2 true target fits is there)
same-branched p choose x old new same false target fits is there goes =
    same-passes p choose (on x old) (stepped_on x new) same false goes refl (branched p choose x old new 2 false target fits is there)

by-head : (cell : Cell) (head : Option Head) (follows : Bool → Effect) → by_look (look_head cell head) follows ≡ follows false
by-head cell None follows = refl
by-head cell (Some head) follows = refl

by-null : (store : Store) (cell : Cell) (null : Bool) (follows : Bool → Effect)
    → by_look (if null then look.Null else look_head cell (head_at store cell.0)) follows ≡ follows null
by-null store cell true follows = refl
by-null store cell false follows = by-head cell (head_at store cell.0) follows

-- by whether a reference is null
pub null-branched : (p : Program) (choose : Choose) (x : State) (old new : List Frame) (null taken : Bool) (cell : Cell) (target : ℕ) → NextFits old
    → new ≡ on_top (with_branched 1 taken target) old → IsTarget p (on x old) 0 target → Some (value.Ref cell) ≡ slice_get (stack_in old) 0
    → taken ≡ (if null then cell.0 == 0 else not (cell.0 == 0)) → Steps p choose (on x old) (stepped_on x new) (null_jump_effect null (seen p (on x old)))
unfolding null_jump_effect
null-branched p choose x old new null taken cell target fits is there top goes =
    let follows : Bool → Effect = λ is_null. going 1 (jumps_if (if null then is_null else not is_null)) in
    with-reference p choose (on x old) (stepped_on x new) 0 (look_at x.areas.store (Some (value.Ref cell))) follows (going 1 (jumps_if taken))
    (ap (λ v. look_at x.areas.store v) (seen-on x old 0 (λ v. v) (Some (value.Ref cell)) top))
    (by-null x.areas.store cell (cell.0 == 0) follows ∙ ap (λ b. going 1 (jumps_if b)) (sym goes))
    (branched p choose x old new 1 taken target fits is there)

-- whether the two words on top are the same reference
pub same-goes : (x : State) (frames : List Frame) (same taken : Bool) (top below : Cell) → Some (value.Ref top) ≡ slice_get (stack_in frames) 0
    → Some (value.Ref below) ≡ slice_get (stack_in frames) 1 → taken ≡ (if same then top.0 == below.0 else not (top.0 == below.0))
    → taken ≡ goes_same same (on x frames)
same-goes x frames same taken top below first second goes =
    let a : value.Ref top ≡ word_at (stack_of (on x frames)) 0 = sym (word-on x frames 0 (value.Ref top) first) in
    let b : value.Ref below ≡ word_at (stack_of (on x frames)) 1 = sym (word-on x frames 1 (value.Ref below) second) in
    goes ∙ (λ i. if same then same_cell (a i) (b i) else not (same_cell (a i) (b i)))
