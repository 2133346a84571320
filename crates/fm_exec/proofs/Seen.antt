-- What rows see of operands, by what the machine holds.
use Rattle.std.proofs.Common.{◌≡◌, ℕ, ℤ, List, Option, Some, None, slice_get, option_map, refl, ap, sym, ◌∙◌, subst}
use Rattle.std.proofs.lemmas.Option.{slice_get-map}
use Rattle.fm_cells.specs.Stores.{Store}
use Rattle.fm_exec.specs.Steps.{Steps}
use Rattle.fm_frames.proofs.Refusals.{cell-no-int, cell-no-long}
use Rattle.fm_frames.specs.Acts.{Choose}
use Rattle.fm_frames.specs.Effects.{Effect, stuck}
use Rattle.fm_frames.specs.Operands.{on_int, on_int_of, on_long, on_long_of}
use Rattle.fm_frames.specs.Sights.{sight, sights}
use Rattle.fm_frames.specs.Starts.{with_start}
use Rattle.fm_frames.specs.States.{State}
use Rattle.fm_frames.specs.declared.values.Value.{Value}
use Rattle.fm_frames.specs.declared.values.Value.TheVariants as value
use Rattle.fm_frames.specs.inner.Doings.{DoesIn, int_in, long_in}
use Rattle.fm_world.specs.Programs.{Outline, Program}

-- ---- rows

-- a row does what its effect says, where it did what an equal one says
pub carried : (p : Program) (choose : Choose) (x y : State) (e f : Effect) → e ≡ f
    → DoesIn p choose x y (with_start p.outline x.areas.started f) → Steps p choose x y e
carried p choose x y e f same does = subst (λ e. DoesIn p choose x y (with_start p.outline x.areas.started e)) (sym same) does

-- ---- ints

abbrev pub by_int : Option ℤ → (ℤ → Effect) → Effect
by_int None follows = stuck
by_int (Some n) follows = follows n

int-of : (o : Outline) (store : Store) (v : Option Value) (follows : ℤ → Effect)
    → on_int_of (option_map (sight o store) v) follows ≡ by_int (int_in v) follows
int-of o store None follows = refl
int-of o store (Some value.Top) follows = refl
int-of o store (Some (value.Int n)) follows = refl
int-of o store (Some (value.Long n)) follows = refl
int-of o store (Some (value.Ref cell)) follows = cell-no-int o store cell.0 follows

pub int-seen : (o : Outline) (store : Store) (stack : List Value) (operand : ℕ) (found : Option ℤ) (follows : ℤ → Effect)
    → found ≡ int_in (slice_get stack operand) → on_int (sights o store stack) operand follows ≡ by_int found follows
int-seen o store stack operand found follows is =
    ap (λ s. on_int_of s follows) (slice_get-map (sight o store) stack operand)
    ∙ int-of o store (slice_get stack operand) follows ∙ ap (λ n. by_int n follows) (sym is)

-- ---- longs

abbrev pub by_long : Option ℤ → (ℤ → Effect) → Effect
by_long None follows = stuck
by_long (Some n) follows = follows n

long-of : (o : Outline) (store : Store) (v : Option Value) (follows : ℤ → Effect)
    → on_long_of (option_map (sight o store) v) follows ≡ by_long (long_in v) follows
long-of o store None follows = refl
long-of o store (Some value.Top) follows = refl
long-of o store (Some (value.Int n)) follows = refl
long-of o store (Some (value.Long n)) follows = refl
long-of o store (Some (value.Ref cell)) follows = cell-no-long o store cell.0 follows

pub long-seen : (o : Outline) (store : Store) (stack : List Value) (operand : ℕ) (found : Option ℤ) (follows : ℤ → Effect)
    → found ≡ long_in (slice_get stack operand) → on_long (sights o store stack) operand follows ≡ by_long found follows
long-seen o store stack operand found follows is =
    ap (λ s. on_long_of s follows) (slice_get-map (sight o store) stack operand)
    ∙ long-of o store (slice_get stack operand) follows ∙ ap (λ n. by_long n follows) (sym is)
