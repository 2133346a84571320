-- How many frames may be.
use Rattle.std.proofs.Common.{◌≡◌, ℕ, ◌+◌, ◌-◌, ◌<◌, ◌≤◌, true, false, nat_lt, length, Some, refl, ap, sym, ◌∙◌, subst, arith}
use Rattle.std.proofs.lemmas.Bool.{lt-ltb, le-ltb}
use Rattle.fm_frames.specs.Acts.{Choose}
use Rattle.fm_frames.specs.Effects.{Effect, Next, Falls, Jumps, JumpsIfSame, Calls, Returns, Throws, Enters, Exits, Faults}
use Rattle.fm_frames.specs.States.{silent, State}
use Rattle.fm_frames.specs.Steps.{frames_needed, is_deep, is_over}
use Rattle.fm_frames.specs.declared.ends.Ended.TheVariants as end
use Rattle.fm_frames.specs.inner.Doings.{DoesIn}
use Rattle.fm_frames.proofs.Underways.{by_tests}
use Rattle.fm_world.specs.Programs.{Program}

-- what comes next needs frames beyond those that may be
deep-by : (x : State) (next : Next) → length x.frames ≤ x.depth → is_deep x next ≡ nat_lt x.depth (length x.frames + frames_needed next)
deep-by x (Calls m) within = refl
deep-by x (Enters methods) within = refl
deep-by x Falls within = sym (le-ltb x.depth (length x.frames + 0) (omega (arith, within)))
deep-by x (Jumps n) within = sym (le-ltb x.depth (length x.frames + 0) (omega (arith, within)))
deep-by x (JumpsIfSame same) within = sym (le-ltb x.depth (length x.frames + 0) (omega (arith, within)))
deep-by x (Returns n) within = sym (le-ltb x.depth (length x.frames + 0) (omega (arith, within)))
deep-by x (Throws source) within = sym (le-ltb x.depth (length x.frames + 0) (omega (arith, within)))
deep-by x (Exits n) within = sym (le-ltb x.depth (length x.frames + 0) (omega (arith, within)))
deep-by x (Faults source) within = sym (le-ltb x.depth (length x.frames + 0) (omega (arith, within)))

pub not-deep : (x : State) (next : Next) (frames : ℕ) → length x.frames + frames ≤ x.depth → frames_needed next ≡ frames → is_deep x next ≡ false
not-deep x next frames room needed =
    deep-by x next (omega (arith, room)) ∙ ap (λ n. nat_lt x.depth (length x.frames + n)) needed
    ∙ le-ltb x.depth (length x.frames + frames) room

pub too-deep : (p : Program) (choose : Choose) (old x : State) (e : Effect) (frames count : ℕ) → old ≡ x → length x.frames ≤ x.depth
    → frames_needed e.next ≡ frames → old.depth - length old.frames < frames → count ≡ length old.frames
    → DoesIn p choose x (record old { ended = Some (end.TooDeep count) }) e
too-deep p choose old x e frames count is within needed over counted =
    let P : State → Type 0 = λ x. length x.frames ≤ x.depth → DoesIn p choose x (record old { ended = Some (end.TooDeep count) }) e in
    subst P is
    (λ within.
    let deep : is_deep old e.next ≡ true =
    deep-by old e.next within ∙ ap (λ n. nat_lt old.depth (length old.frames + n)) needed
    ∙ lt-ltb old.depth (length old.frames + frames) (omega (arith, over)) in
    (λ i. silent (record old { ended = Some (end.TooDeep (counted i)) }))
    ∙ sym (ap (λ d. by_tests p choose old e d (is_over p.outline old.areas e.actions)) deep))
    within

pub room-for : (old x : State) (frames : ℕ) → old ≡ x → length x.frames ≤ x.depth → frames ≤ old.depth - length old.frames
    → length x.frames + frames ≤ x.depth
room-for old x frames is within room =
    let P : State → Type 0 = λ x. length x.frames ≤ x.depth → length x.frames + frames ≤ x.depth in
    subst P is (λ within. omega (arith, within, room)) within
