-- How an exception goes down the frames.
use Rattle.std.proofs.Common.{◌≡◌, ℕ, ◌+◌, ◌<◌, ◌≤◌, Bool, true, false, ◌&&◌, nat_lt, ◌==◌, if◌then◌else◌, List, [], ◌∷◌, drop, Option, Some, None, slice_get, option_map, unwrap_or, refl, ap, sym, ◌∙◌, add-one, drop-cons, suc, length, ◌⊎◌, inl, inr, arith}
use Rattle.std.proofs.lemmas.Bool.{lt-ltb, le-leb, ne_eqb, cases_lt}
use Rattle.std.proofs.Math.ListN.{drop_of_length-le}
use Rattle.std.proofs.lemmas.Option.{none-some, same_Some, get_or_from_slice_get, slice_get-get_or, slice_get_within}
use Rattle.fm_base.specs.declared.kinds.TypeRef.{TypeRef}
use Rattle.fm_code.specs.declared.code_array.Handler.{Handler}
use Rattle.fm_types.specs.Named.{class_of_method}
use Rattle.fm_types.specs.Typed.{type_of_use}
use Rattle.fm_world.specs.Chains.{is_sub}
use Rattle.fm_world.specs.Programs.{Program, use_of}
use Rattle.fm_world.specs.declared.uses.Use.{Use}
use Rattle.fm_frames.specs.States.{Frame}
use Rattle.fm_frames.specs.Steps.{catches, caught, caught_in, Caught, class_at_type, handler_of, InFrames, is_start, Leaves}
use Rattle.fm_frames.specs.declared.ends.Ended.TheVariants as end
use Rattle.fm_frames.specs.declared.throws.Catch.TheVariants as catch
use Rattle.fm_frames.specs.declared.values.Value.{Value}
use Rattle.fm_frames.specs.inner.Catching.{IsCaughtAt, placed}
use Rattle.fm_frames.specs.inner.Frames.{on_top, place_of}

-- ---- one entry of a table

abbrev catches_by : (after_start before_end all : Bool) → Bool → Bool
catches_by after_start before_end all below = after_start && before_end && (if all then true else below)

pub catches-is : (p : Program) (method item : ℕ) (t : TypeRef) (h : Handler) (class : ℕ) (u : Use) (below : Bool)
    → h.start ≤ item → item < h.end → (h.catch_class ≡ 0 → ⊥) → class ≡ class_of_method p.outline method → u ≡ use_of p class h.catch_class
    → below ≡ unwrap_or (option_map (is_sub p.outline.classes t) (type_of_use p.outline u)) false
    → below ≡ catches p (placed method item) t h
catches-is p method item t h class u below start end some owner is told =
    let names = λ (u : Use). unwrap_or (option_map (is_sub p.outline.classes t) (type_of_use p.outline u)) false in
    let same : below ≡ names (use_of p (class_of_method p.outline method) h.catch_class) =
    told ∙ ap names (is ∙ ap (λ c. use_of p c h.catch_class) owner) in
    same
    ∙ sym (ap (λ b. catches_by b (nat_lt item h.end) (h.catch_class == 0) (names (use_of p (class_of_method p.outline method) h.catch_class)))
    (le-leb h.start item start)
    ∙ ap (λ b. catches_by true b (h.catch_class == 0) (names (use_of p (class_of_method p.outline method) h.catch_class))) (lt-ltb item h.end end)
    ∙ ap (λ b. catches_by true true b (names (use_of p (class_of_method p.outline method) h.catch_class))) (ne_eqb h.catch_class 0 some))

-- ---- one frame

-- the frames from one on that is there
from-frame : (frames : List Frame) (above : ℕ) (f : Frame) → slice_get frames above ≡ Some f → drop above frames ≡ f ∷ drop (above + 1) frames
from-frame frames above f at =
    drop-cons frames above f (slice_get_within frames above f at)
    ∙ ap (λ g. g ∷ drop (suc above) frames) (get_or_from_slice_get frames above f f at)
    ∙ ap (λ n. f ∷ drop n frames) (sym (add-one above))

-- where `above` frames aren't there, none is left
past-frames : (frames : List Frame) (above : ℕ) → None ≡ option_map place_of (slice_get frames above) → length frames ≤ above
past-frames frames above none = by_place (cases_lt above (length frames)) where
  by_place : (above < length frames) ⊎ (length frames ≤ above) → length frames ≤ above
  by_place (inl within) =
      absurd (none-some _ (none ∙ ap (option_map place_of) (slice_get-get_or frames above (placed 0 0) within)))
  by_place (inr past) = past

-- what a frame with these results does
abbrev done_in : Program → Value → Frame → List Frame → Option ℕ → (starts : Bool) → Caught → Caught
done_in p v f callers (Some handler) starts below = InFrames (record f { item = handler; stack = v ∷ [] } ∷ callers)
done_in p v f callers None starts below = if starts then Leaves (end.InitFailed (record { 0 = class_of_method p.outline f.method })) else below

caught-frame : (p : Program) (t : TypeRef) (v : Value) (f : Frame) (callers : List Frame)
    → caught p t v (f ∷ callers) ≡ done_in p v f callers (handler_of p f t) (is_start p.outline f.method) (caught p t v callers)
unfolding caught
caught-frame p t v f callers = by_handler (handler_of p f t) where
  by_handler : (handler : Option ℕ)
      → caught_in p v f callers handler (caught p t v callers)
      ≡ done_in p v f callers handler (is_start p.outline f.method) (caught p t v callers)
  by_handler None = refl
  by_handler (Some handler) = refl

-- the frame above which this many lie, by its method and its item
found : (method item : ℕ) (frame : Option Frame) → Some (method, item) ≡ option_map place_of frame
    → (f : Frame) × (frame ≡ Some f) × (f.method ≡ method) × (f.item ≡ item)
found method item None at = absurd (none-some _ (sym at))
found method item (Some f) at =
    (f, refl, sym (ap (λ x. x.0) (same_Some _ _ at)), sym (ap (λ x. x.1) (same_Some _ _ at)))

handler-placed : (p : Program) (t : TypeRef) (f : Frame) (method item : ℕ) → f.method ≡ method → f.item ≡ item
    → handler_of p f t ≡ handler_of p (placed method item) t
handler-placed p t f method item m j = λ i. handler_of p (record f { method = m i; item = j i }) t

pub caught-here : (p : Program) (t : TypeRef) (v : Value) (frames : List Frame) (above method item handler : ℕ)
    → Some (method, item) ≡ option_map place_of (slice_get frames above) → Some handler ≡ handler_of p (placed method item) t
    → IsCaughtAt p t v frames above (Some (catch.InFrame above handler))
caught-here p t v frames above method item handler at handled =
    let it = found method item (slice_get frames above) at in
    let f : Frame = it.0 in
    let split = from-frame frames above f it.1 in
    ap (caught p t v) split ∙ caught-frame p t v f (drop (above + 1) frames)
    ∙ ap (λ h. done_in p v f (drop (above + 1) frames) h (is_start p.outline f.method) (caught p t v (drop (above + 1) frames)))
    (handler-placed p t f method item it.2 it.3 ∙ sym handled)
    ∙ ap (λ fs. InFrames (on_top (λ f. record f { item = handler; stack = v ∷ [] }) fs)) (sym split)

pub leaves-here : (p : Program) (t : TypeRef) (v : Value) (frames : List Frame) (above method item class : ℕ)
    → Some (method, item) ≡ option_map place_of (slice_get frames above) → None ≡ handler_of p (placed method item) t
    → true ≡ is_start p.outline method → class ≡ class_of_method p.outline method
    → IsCaughtAt p t v frames above (Some (catch.Leaves (end.InitFailed (record { 0 = class }))))
leaves-here p t v frames above method item class at none starts owner =
    let it = found method item (slice_get frames above) at in
    let f : Frame = it.0 in
    let rest : List Frame = drop (above + 1) frames in
    ap (caught p t v) (from-frame frames above f it.1) ∙ caught-frame p t v f rest
    ∙ ap (λ h. done_in p v f rest h (is_start p.outline f.method) (caught p t v rest)) (handler-placed p t f method item it.2 it.3 ∙ sym none)
    ∙ ap (λ b. done_in p v f rest None b (caught p t v rest)) (ap (is_start p.outline) it.2 ∙ sym starts)
    ∙ ap (λ c. Leaves (end.InitFailed (record { 0 = c }))) (ap (class_of_method p.outline) it.2 ∙ sym owner)

pub goes-on-below : (p : Program) (t : TypeRef) (v : Value) (frames : List Frame) (above method item : ℕ)
    → Some (method, item) ≡ option_map place_of (slice_get frames above) → None ≡ handler_of p (placed method item) t
    → false ≡ is_start p.outline method → IsCaughtAt p t v frames above None
goes-on-below p t v frames above method item at none starts =
    let it = found method item (slice_get frames above) at in
    let f : Frame = it.0 in
    let rest : List Frame = drop (above + 1) frames in
    ap (caught p t v) (from-frame frames above f it.1) ∙ caught-frame p t v f rest
    ∙ ap (λ h. done_in p v f rest h (is_start p.outline f.method) (caught p t v rest)) (handler-placed p t f method item it.2 it.3 ∙ sym none)
    ∙ ap (λ b. done_in p v f rest None b (caught p t v rest)) (ap (is_start p.outline) it.2 ∙ sym starts)

pub none-there : (p : Program) (t : TypeRef) (v : Value) (frames : List Frame) (above : ℕ)
    → None ≡ option_map place_of (slice_get frames above) → IsCaughtAt p t v frames above None
none-there p t v frames above none =
    let past = past-frames frames above none in
    ap (caught p t v) (drop_of_length-le frames past ∙ sym (drop_of_length-le frames (omega (arith, past))))

pub leaves-main : (p : Program) (t : TypeRef) (v : Value) (frames : List Frame) (above class : ℕ) → length frames ≤ above → class ≡ class_at_type t
    → caught p t v (drop above frames) ≡ Leaves (end.Uncaught (record { 0 = class }))
unfolding caught
leaves-main p t v frames above class past is =
    ap (caught p t v) (drop_of_length-le frames past) ∙ ap (λ c. Leaves (end.Uncaught (record { 0 = c }))) (sym is)
