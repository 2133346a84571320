-- Actions leave the budget and the limit of a store as they are; and a store that is full has less than twice the words that may live.
use Rattle.std.proofs.Common.{◌≡◌, ℕ, ◌+◌, ◌*◌, ◌^◌, ◌<◌, ◌≤◌, Bool, true, false, List, [], ◌∷◌, length, nat_lt, Option, Some, None, refl, sym, ◌∙◌, ap, subst, arith}
use Rattle.std.specs.Option.{option_map, unwrap_or}
use Rattle.std.proofs.lemmas.Bool.{false≢true, ltb-true}
use Rattle.std.proofs.lemmas.List.{length-replicate}
use Rattle.fm_base.specs.declared.kinds.TypeRef.{TypeRef}
use Rattle.fm_base.specs.declared.limits.TheConstants.{MAX_LIVE_WORDS}
use Rattle.fm_cells.proofs.Changes.{live_words-made_by, live_words-with_object}
use Rattle.fm_cells.proofs.Elements.{put_by-none, put_by-some}
use Rattle.fm_cells.proofs.SizeLaws.{cell_words-lt-double}
use Rattle.fm_cells.specs.Changes.{made_by, put_by, Take}
use Rattle.fm_cells.specs.Objects.{new_object, Object, object_words, Request, request_words}
use Rattle.fm_cells.specs.Sizes.{cell_words, packed_words}
use Rattle.fm_cells.specs.Stores.{live_words, object_at, passes_limit, Store}
use Rattle.fm_world.specs.Programs.{Outline}
use Rattle.fm_frames.specs.Acts.{with_content}
use Rattle.fm_law_sound.proofs.ActsKeep.{content_in, new_held}
use Rattle.fm_law_sound.specs.Acting.{ContentFits}
use Rattle.fm_law_two_memories.specs.Pairing.{ArePaired, Gone}
use Rattle.fm_law_two_memories.specs.Results.{IsFewGone, IsTooSmall, KeepsLimits}
use Rattle.fm_law_two_memories.proofs.WordsSame.{Fits}

-- ---- kept limits

pub limits_same : (store : Store) → KeepsLimits store store
limits_same store = record { limit = refl; budget = refl }

pub limits_then : (store middle later : Store) → KeepsLimits store middle → KeepsLimits middle later → KeepsLimits store later
limits_then store middle later first second = record { limit = second.limit ∙ first.limit; budget = second.budget ∙ first.budget }

pub limits_filled : (store : Store) (request : Request) (cell : ℕ) (grows : Bool) (content : List ℕ)
    → KeepsLimits store (with_content (made_by store request (Take cell grows)) cell content)
limits_filled store request cell grows [] = record { limit = refl; budget = refl }
limits_filled store request cell grows (unit ∷ units) = record {
  limit = ap (λ found. (content_in (made_by store request (Take cell grows)) cell unit units found).limit) (new_held store request cell grows);
  budget = ap (λ found. (content_in (made_by store request (Take cell grows)) cell unit units found).budget) (new_held store request cell grows);
}

pub limits_put : (store : Store) (cell place element : ℕ) → KeepsLimits store (put_by store cell place element)
limits_put store cell place element = by_object (object_at store cell) refl where
  by_object : (found : Option Object) → object_at store cell ≡ found → KeepsLimits store (put_by store cell place element)
  by_object None is = subst (KeepsLimits store) (sym (put_by-none store cell place element is)) (record { limit = refl; budget = refl })
  by_object (Some object) is = subst (KeepsLimits store) (sym (put_by-some store cell place element object is)) (record { limit = refl; budget = refl })

-- a limit that is too small later was so before
pub small_before : (gone : Gone) (budget other : ℕ) (store later : Store) → KeepsLimits store later → IsTooSmall gone later.limit budget other
    → IsTooSmall gone store.limit budget other
small_before gone budget other store later keeps small = (small.0, sym keeps.limit ∙ small.1, small.2, small.3)

-- ---- words that live

pub words_full : (store : Store) (request : Request) (cell : ℕ) (grows : Bool) (content : List ℕ) → length content ≡ request.len
    → object_at store cell ≡ None
    → live_words (with_content (made_by store request (Take cell grows)) cell content) ≡ live_words store + request_words request
words_full store request cell grows [] all free = live_words-made_by store request cell grows free
words_full store request cell grows (unit ∷ units) all free =
    let first : Object = new_object store.births request in
    let now : Object = record first { elements = unit ∷ units } in
    let there : object_at (made_by store request (Take cell grows)) cell ≡ Some first = new_held store request cell grows in
    let words : object_words now ≡ object_words first =
    ap (λ n. packed_words n request.pack) (all ∙ sym (length-replicate request.len 0)) in
    ap (λ found. live_words (content_in (made_by store request (Take cell grows)) cell unit units found)) there
    ∙ live_words-with_object (made_by store request (Take cell grows)) cell first now there words
    ∙ live_words-made_by store request cell grows free

pub words_filled : (o : Outline) (t : TypeRef) (store : Store) (request : Request) (cell : ℕ) (grows : Bool) (content : List ℕ)
    → ContentFits o t request.len content → object_at store cell ≡ None
    → live_words (with_content (made_by store request (Take cell grows)) cell content) ≡ live_words store + request_words request
words_filled o t store request cell grows [] fits free = live_words-made_by store request cell grows free
words_filled o t store request cell grows (unit ∷ units) fits free = words_full store request cell grows (unit ∷ units) fits.0 free

-- ---- full stores

-- without a limit no request passes it
pub unlimited : (store : Store) (request : Request) → store.limit ≡ None → passes_limit store request ≡ true → ⊥
unlimited store request none passes =
    false≢true (sym (ap (λ (l : Option ℕ). unwrap_or (option_map (λ limit. nat_lt limit (store.made_words + cell_words (request_words request))) l) false) none) ∙ passes)

small_limit : (limit made live words budget : ℕ) → limit < made + cell_words words → made ≤ 2 * live → 0 < words → words ≤ 2 ^ 36 → live + words ≤ budget
    → limit < 2 * budget
small_limit limit made live words budget passed within some few fit =
    let double : cell_words words < 2 * words = cell_words-lt-double words some few in omega (arith, passed, within, double, fit)

-- of paired stores the second is full for an object within both budgets only where its limit is less than twice either
pub full_small : (gone : Gone) → IsFewGone gone → (o : Outline) (one other : Store) → ArePaired gone o one other → (request : Request)
    → passes_limit other request ≡ true → 0 < request_words request → (budget words : ℕ)
    → Fits (record { first = budget; second = words; gone = gone.words }) (live_words other + request_words request) → words ≤ MAX_LIVE_WORDS
    → IsTooSmall gone other.limit budget words
full_small gone few_gone o one other paired request passes some budget words fit few = by_limit other.limit refl passes where
  within : live_words other + request_words request ≤ words
  within = fit.0

  within_first : live_words other + request_words request + gone.words ≤ budget
  within_first = fit.1

  live : live_words other + gone.words ≡ live_words one
  live = paired.words

  made : other.made_words ≤ 2 * live_words one
  made = let fewer : gone.words ≤ 2 ^ 35 = few_gone in paired.made_words (omega (arith, live, within, few, fewer))

  by_limit : (found : Option ℕ) → other.limit ≡ found
      → unwrap_or (option_map (λ limit. nat_lt limit (other.made_words + cell_words (request_words request))) found) false ≡ true
      → IsTooSmall gone other.limit budget words
  by_limit None is past = absurd (false≢true past)
  by_limit (Some limit) is past =
      let passed : limit < other.made_words + cell_words (request_words request) =
      ltb-true limit (other.made_words + cell_words (request_words request)) past in
      let fits : request_words request ≤ 2 ^ 36 = omega (arith, within, few) in (
        limit,
        is,
        small_limit limit other.made_words (live_words one) (request_words request) (words + gone.words) passed made some fits (omega (arith, within, live)),
        small_limit limit other.made_words (live_words one) (request_words request) budget passed made some fits (omega (arith, within_first, live)),
      )
