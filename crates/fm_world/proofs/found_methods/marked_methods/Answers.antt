use Rattle.std.proofs.Common.{◌≡◌, sym, ◌∙◌, ap, false, map, filter, ◌++◌, [], ◌∷◌, if◌then◌else◌, refl, Bool, true, List, cond, ℕ}
use Rattle.std.specs.List.{range_with_len, slice_index_or}
use Rattle.std.proofs.lemmas.List.{map-append}
use Rattle.fm_base.specs.declared.ids.MethodId.{MethodId}
use Rattle.fm_world.proofs.Marks.{filter-range_more}
use Rattle.fm_world.proofs.found_methods.marked_methods.Goals as goal

-- the number that is pushed, if it is
pushed : (b : Bool) (k : ℕ) → map (λ (m : MethodId). m.0) (if b then record { 0 = k } ∷ [] else []) ≡ cond b (k ∷ []) []
pushed true k = refl
pushed false k = refl

pub loop-method-preserved : goal.loop-method-preserved
loop-method-preserved c =
    let marks = c.args.marks.now in
    let n = c.loop-method.method in
    let one : List MethodId = if (slice_index_or marks n false) then record { 0 = n } ∷ [] else [] in
    let is_marked : ℕ → Bool = λ k. slice_index_or marks k false in
    ap (map (λ (m : MethodId). m.0)) c.in_ok-push_if.ensures ∙ map-append (λ (m : MethodId). m.0) c.loop-method.found.items one
    ∙ ap (λ xs. xs ++ map (λ (m : MethodId). m.0) one) c.loop-method.invariant
    ∙ ap (λ xs. filter is_marked (range_with_len 0 n) ++ xs) (pushed (slice_index_or marks n false) n)
    ∙ sym (filter-range_more is_marked n)
