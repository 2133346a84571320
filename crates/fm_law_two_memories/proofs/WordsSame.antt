-- The words that actions need are as many on both memories; and where they are within the budget, so are those of what is left of the actions.
use Rattle.std.proofs.Common.{◌≡◌, ℕ, zero, suc, ◌+◌, ◌<◌, ◌≤◌, inl, inr, ◌&&◌, ◌||◌, cond, min, Bool, true, false, List, [], ◌∷◌, ◌++◌, length, nat_eq, nat_lt, Some, refl, sym, ◌∙◌, ap, slice_set, slice_index_or, ⊎_elim, arith}
use Rattle.std.proofs.lemmas.Bool.{and_from, and_parts, cases_eq, cases_lt, false≢true, lt-ltb, ltb-true, or_cases, or_left, or_right}
use Rattle.fm_base.specs.declared.limits.TheConstants.{MAX_LIVE_WORDS}
use Rattle.fm_cells.specs.Objects.{Object, request_words}
use Rattle.fm_cells.specs.Soundness.{IsOrderly}
use Rattle.fm_cells.specs.Stores.{live_words, object_at, Store}
use Rattle.fm_types.proofs.ClassTree.{among_one}
use Rattle.fm_world.specs.Chains.{is_among}
use Rattle.fm_world.specs.Programs.{Outline}
use Rattle.fm_frames.proofs.Underways.{none-made}
use Rattle.fm_frames.specs.Acts.{is_there, literal_made, literal_text, literal_type, requested}
use Rattle.fm_frames.specs.Effects.{Action, MakeLiteral}
use Rattle.fm_frames.specs.States.{Areas}
use Rattle.fm_frames.specs.Steps.{is_over, literal_of, makes, most_words, words_among, words_made, words_of}
use Rattle.fm_frames.specs.declared.ends.Ended.TheVariants as end
use Rattle.fm_law_two_memories.specs.Pairing.{AreasPaired, Gone, SameCell, SameEnd}
use Rattle.fm_law_two_memories.proofs.SourcesSame.{number_same}
use Rattle.fm_law_two_memories.proofs.Twins.{not_null}

-- ---- literals

positive : (store : Store) (cell : ℕ) (object : Object) → IsOrderly store → object_at store cell ≡ Some object → nat_lt 0 cell ≡ true
positive store zero object orderly held = absurd (not_null store zero object orderly held refl)
positive store (suc cell) object orderly held = lt-ltb 0 (suc cell) (omega arith)

cell_there : (gone : Gone) (o : Outline) (x y : Areas) → AreasPaired gone o x y → (c d : ℕ) → SameCell gone x.store y.store c d → nat_lt 0 d ≡ nat_lt 0 c
cell_there gone o x y paired c d (inl (inl null)) = ap (nat_lt 0) null.1 ∙ sym (ap (nat_lt 0) null.0)
cell_there gone o x y paired c d (inr lost) =
    lt-ltb 0 d lost.some ∙ sym (positive x.store c lost.object paired.store.orderly lost.held)
cell_there gone o x y paired c d (inl (inr t)) =
    positive y.store d t.second paired.store.other_orderly t.twin_held ∙ sym (positive x.store c t.object paired.store.orderly t.held)

-- a literal is there on both memories or on none
pub there_same : (gone : Gone) (o : Outline) (x y : Areas) → AreasPaired gone o x y → (text : ℕ) → is_there y text ≡ is_there x text
there_same gone o x y paired text =
    cell_there gone o x y paired _ _ (number_same (SameCell gone x.store y.store) (inl (inl (refl, refl))) x.literals y.literals text paired.literals)

-- ---- words on both memories

word_same : (gone : Gone) (o : Outline) (x y : Areas) → AreasPaired gone o x y → (literals : List ℕ) (action : Action)
    → words_of o y literals action ≡ words_of o x literals action
word_same gone o x y paired literals (MakeLiteral text) =
    ap (λ b. cond (b || is_among text literals) 0 (request_words (requested o (literal_type o text) (length (literal_text o text)) true)))
    (there_same gone o x y paired text)
word_same gone o x y paired literals action = refl

words_same : (gone : Gone) (o : Outline) (x y : Areas) → AreasPaired gone o x y → (literals : List ℕ) (actions : List Action)
    → words_among o y literals actions ≡ words_among o x literals actions
words_same gone o x y paired literals [] = refl
words_same gone o x y paired literals (action ∷ more) =
    ap (λ n. n + words_among o y (literal_of action ++ literals) more) (word_same gone o x y paired literals action)
    ∙ ap (λ n. words_of o x literals action + n) (words_same gone o x y paired (literal_of action ++ literals) more)

needed_same : (gone : Gone) (o : Outline) (x y : Areas) → AreasPaired gone o x y → (actions : List Action) → words_made o y actions ≡ words_made o x actions
needed_same gone o x y paired actions = ap (λ n. min n most_words) (words_same gone o x y paired [] actions)

-- ---- budgets

-- this many words pass a budget
abbrev over_by : (making : Bool) (needed budget live : ℕ) → Bool
over_by making needed budget live = cond making (nat_lt 0 needed && nat_lt budget (live + needed)) false

-- Of two budgets the one that is passed is less than the one that isn't, where fewer words live in the second store by those that are gone.
over_less : (making : Bool) (needed budget other live fewer gone : ℕ) → fewer + gone ≡ live → over_by making needed budget live ≡ true
    → over_by making needed other fewer ≡ false → budget < other + gone
over_less false needed budget other live fewer gone lives over within = absurd (false≢true over)
over_less true needed budget other live fewer gone lives over within =
    let parts = and_parts (nat_lt 0 needed) (nat_lt budget (live + needed)) over in
    let passed : budget < live + needed = ltb-true budget (live + needed) parts.1 in
    ⊎_elim (λ past. absurd (false≢true (sym within ∙ and_from (nat_lt 0 needed) (nat_lt other (fewer + needed)) parts.0 (lt-ltb other (fewer + needed) past))))
    (λ inside. omega (arith, passed, inside, lives)) (cases_lt other (fewer + needed))

less_over : (making : Bool) (needed budget other live fewer gone : ℕ) → fewer + gone ≡ live → over_by making needed budget live ≡ false
    → over_by making needed other fewer ≡ true → other + gone < budget
less_over false needed budget other live fewer gone lives within over = absurd (false≢true over)
less_over true needed budget other live fewer gone lives within over =
    let parts = and_parts (nat_lt 0 needed) (nat_lt other (fewer + needed)) over in
    let passed : other < fewer + needed = ltb-true other (fewer + needed) parts.1 in
    ⊎_elim (λ past. absurd (false≢true (sym within ∙ and_from (nat_lt 0 needed) (nat_lt budget (live + needed)) parts.0 (lt-ltb budget (live + needed) past))))
    (λ inside. omega (arith, passed, inside, lives)) (cases_lt budget (live + needed))

module _ (gone : Gone) (o : Outline) (x y : Areas) (paired : AreasPaired gone o x y) (actions : List Action) where
  -- the second memory needs as many words as the first one
  over_is : over_by (makes actions) (words_made o x actions) y.store.budget (live_words y.store) ≡ is_over o y actions
  over_is = ap (λ n. over_by (makes actions) n y.store.budget (live_words y.store)) (sym (needed_same gone o x y paired actions))

  -- the budget that is passed is less than the other one
  pub first_less : is_over o x actions ≡ true → is_over o y actions ≡ false → x.store.budget < y.store.budget + gone.words
  first_less over within =
      over_less (makes actions) (words_made o x actions) x.store.budget y.store.budget (live_words x.store) (live_words y.store) gone.words paired.store.words over
      (over_is ∙ within)

  pub second_less : is_over o x actions ≡ false → is_over o y actions ≡ true → y.store.budget + gone.words < x.store.budget
  second_less within over =
      less_over (makes actions) (words_made o x actions) x.store.budget y.store.budget (live_words x.store) (live_words y.store) gone.words paired.store.words within
      (over_is ∙ over)

  -- both end alike where both pass
  pub lacks_same : SameEnd gone x.store y.store (end.Exhausted (live_words x.store) (words_made o x actions))
      (end.Exhausted (live_words y.store) (words_made o y actions))
  lacks_same = (live_words y.store, ap (λ n. end.Exhausted (live_words y.store) n) (needed_same gone o x y paired actions), paired.store.words)

needed_within : (needed live budget : ℕ) → 0 < needed → (nat_lt 0 (min needed most_words) && nat_lt budget (live + min needed most_words)) ≡ false
    → live + min needed most_words ≤ budget
needed_within needed live budget some over =
    let positive : nat_lt 0 (min needed most_words) ≡ true = lt-ltb 0 (min needed most_words) (omega (arith, some)) in
    ⊎_elim (λ past. absurd (false≢true (sym over ∙ and_from (nat_lt 0 (min needed most_words)) (nat_lt budget (live + min needed most_words)) positive
    (lt-ltb budget (live + min needed most_words) past)))) (λ inside. inside) (cases_lt budget (live + min needed most_words))

-- ---- what is left of the actions

-- the budgets of words of both memories, and the words that are gone
pub record Room : Type 0 where
  pub first : ℕ
  pub second : ℕ
  pub gone : ℕ

-- this many words, of those that live in the second store and those that are needed, are within both budgets
abbrev pub Fits : Room → ℕ → Type 0
Fits room words = (words ≤ room.second) × (words + room.gone ≤ room.first)

-- the words that actions need, if they do, may live beside those that do
abbrev pub Within : Outline → Room → Areas → List Action → Type 0
Within o room y actions = 0 < words_among o y [] actions → Fits room (live_words y.store + words_among o y [] actions)

-- as many words as aren't counted above the greatest number that is reported
exact : (needed live budget : ℕ) → live + min needed most_words ≤ budget → budget ≤ MAX_LIVE_WORDS → min needed most_words ≡ needed
exact needed live budget within few = omega (arith, within, few)

pub within_budgets : (gone : Gone) (o : Outline) (x y : Areas) (actions : List Action) → AreasPaired gone o x y → y.store.budget ≤ MAX_LIVE_WORDS
    → is_over o x actions ≡ false → is_over o y actions ≡ false
    → Within o (record { first = x.store.budget; second = y.store.budget; gone = gone.words }) y actions
within_budgets gone o x y actions paired few over other_over some = by_making (makes actions) refl where
  by_making : (b : Bool) → makes actions ≡ b
      → Fits (record { first = x.store.budget; second = y.store.budget; gone = gone.words }) (live_words y.store + words_among o y [] actions)
  by_making false none = let nothing : words_among o y [] actions ≡ 0 = none-made o y [] actions none in absurd (omega (arith, some, nothing))
  by_making true making =
      let same : words_among o y [] actions ≡ words_among o x [] actions = words_same gone o x y paired [] actions in
      let theirs : live_words y.store + min (words_among o y [] actions) most_words ≤ y.store.budget =
      needed_within (words_among o y [] actions) (live_words y.store) y.store.budget some
      (sym (ap (λ b. over_by b (words_made o y actions) y.store.budget (live_words y.store)) making) ∙ other_over) in
      let ours : live_words x.store + min (words_among o x [] actions) most_words ≤ x.store.budget =
      needed_within (words_among o x [] actions) (live_words x.store) x.store.budget (omega (arith, some, same))
      (sym (ap (λ b. over_by b (words_made o x actions) x.store.budget (live_words x.store)) making) ∙ over) in
      let all : min (words_among o y [] actions) most_words ≡ words_among o y [] actions = exact (words_among o y [] actions) (live_words y.store) y.store.budget theirs few in
      let lives : live_words y.store + gone.words ≡ live_words x.store = paired.store.words in
      (omega (arith, theirs, all), omega (arith, ours, all, lives, same))

-- a literal is there, or was made by what came before
abbrev is_made : Areas → List ℕ → ℕ → Bool
is_made x literals text = is_there x text || is_among text literals

less_if : (b d : Bool) (n : ℕ) → (b ≡ true → d ≡ true) → cond d 0 n ≤ cond b 0 n
less_if true true n h = omega arith
less_if false true n h = omega arith
less_if false false n h = omega arith
less_if true false n h = absurd (false≢true (h refl))

fewer_of : (o : Outline) (x y : Areas) (literals others : List ℕ) → ((text : ℕ) → is_made x literals text ≡ true → is_made y others text ≡ true)
    → (action : Action) → words_of o y others action ≤ words_of o x literals action
fewer_of o x y literals others h (MakeLiteral text) =
    less_if (is_made x literals text) (is_made y others text) (request_words (requested o (literal_type o text) (length (literal_text o text)) true)) (h text)
fewer_of o x y literals others h action = omega arith

one_more_made : (a b c d e : Bool) → ((a || b) ≡ true → (c || d) ≡ true) → (a || (e || b)) ≡ true → (c || (e || d)) ≡ true
one_more_made a b c d true h is = or_right c true refl
one_more_made a b c d false h is = h is

more_made : (x y : Areas) (literals others : List ℕ) → ((text : ℕ) → is_made x literals text ≡ true → is_made y others text ≡ true)
    → (action : Action) (text : ℕ) → is_made x (literal_of action ++ literals) text ≡ true → is_made y (literal_of action ++ others) text ≡ true
more_made x y literals others h (MakeLiteral made) text is =
    one_more_made (is_there x text) (is_among text literals) (is_there y text) (is_among text others) (nat_eq text made) (h text) is
more_made x y literals others h action text is = h text is

-- where each literal that was there, or was made, is so later too, no more words are needed
fewer : (o : Outline) (x y : Areas) (actions : List Action) (literals others : List ℕ)
    → ((text : ℕ) → is_made x literals text ≡ true → is_made y others text ≡ true)
    → words_among o y others actions ≤ words_among o x literals actions
fewer o x y [] literals others h = omega arith
fewer o x y (action ∷ more) literals others h =
    let head : words_of o y others action ≤ words_of o x literals action = fewer_of o x y literals others h action in
    let rest : words_among o y (literal_of action ++ others) more ≤ words_among o x (literal_of action ++ literals) more =
    fewer o x y more (literal_of action ++ literals) (literal_of action ++ others) (more_made x y literals others h action) in omega (arith, head, rest)

left_within : (room : Room) (head tail rest live later : ℕ) → (0 < head + tail → Fits room (live + (head + tail))) → rest ≤ tail → later ≤ live + head
    → 0 < rest → Fits room (later + rest)
left_within room head tail rest live later h less is some =
    let all : Fits room (live + (head + tail)) = h (omega (arith, some, less)) in
    let second : live + (head + tail) ≤ room.second = all.0 in
    let first : live + (head + tail) + room.gone ≤ room.first = all.1 in (omega (arith, second, less, is), omega (arith, first, less, is))

-- one action is done, and the literals are those of before
pub within_rest : (o : Outline) (room : Room) (y : Areas) (action : Action) (more : List Action) (following : Areas) → literal_of action ≡ [] → following.literals ≡ y.literals
    → live_words following.store ≤ live_words y.store + words_of o y [] action → Within o room y (action ∷ more) → Within o room following more
within_rest o room y action more following none literals live h =
    left_within room (words_of o y [] action) (words_among o y (literal_of action ++ []) more) (words_among o following [] more) (live_words y.store)
    (live_words following.store) h
    (fewer o y following more (literal_of action ++ []) []
    (λ text is. ap (λ (cells : List ℕ). nat_lt 0 (slice_index_or cells text 0) || false) literals
    ∙ sym (ap (λ (texts : List ℕ). is_there y text || is_among text (texts ++ [])) none) ∙ is)) live

-- a literal that is there already
there_made : (y : Areas) (text : ℕ) → is_there y text ≡ true → (k : ℕ) → is_made y (text ∷ []) k ≡ true → is_made y [] k ≡ true
there_made y text there k is =
    ⊎_elim (λ k_there. or_left (is_there y k) false k_there)
    (λ among. or_left (is_there y k) false (ap (is_there y) (among_one k text among) ∙ there)) (or_cases (is_there y k) (is_among k (text ∷ [])) is)

pub within_there : (o : Outline) (room : Room) (y : Areas) (text : ℕ) (more : List Action) → is_there y text ≡ true → Within o room y (MakeLiteral text ∷ more)
    → Within o room y more
within_there o room y text more there h =
    left_within room (words_of o y [] (MakeLiteral text)) (words_among o y (text ∷ []) more) (words_among o y [] more) (live_words y.store)
    (live_words y.store) h (fewer o y y more (text ∷ []) [] (there_made y text there)) (omega arith)

-- a literal that is made
literal_at : (cells : List ℕ) (text cell : ℕ) → text < length cells → slice_index_or (slice_set cells text cell) text 0 ≡ cell
literal_at [] text cell inside = absurd (omega (arith, inside))
literal_at (c ∷ cells) zero cell inside = refl
literal_at (c ∷ cells) (suc text) cell inside = literal_at cells text cell (omega (arith, inside))

literal_else : (cells : List ℕ) (text k cell : ℕ) → (k ≡ text → ⊥) → slice_index_or (slice_set cells text cell) k 0 ≡ slice_index_or cells k 0
literal_else [] text k cell apart = refl
literal_else (c ∷ cells) zero zero cell apart = absurd (apart refl)
literal_else (c ∷ cells) zero (suc k) cell apart = refl
literal_else (c ∷ cells) (suc text) zero cell apart = refl
literal_else (c ∷ cells) (suc text) (suc k) cell apart = literal_else cells text k cell (λ is. apart (ap suc is))

module _ (o : Outline) (y : Areas) (text : ℕ) (following : Store) (twin : ℕ) (inside : text < length y.literals) (some : 0 < twin) where
  abbrev made_later : Areas
  made_later = literal_made (record y { store = following }) text twin

  itself_there : (k : ℕ) → k ≡ text → is_there made_later k ≡ true
  itself_there k is = ap (is_there made_later) is ∙ ap (nat_lt 0) (literal_at y.literals text twin inside) ∙ lt-ltb 0 twin some

  still_there : (k : ℕ) → is_there y k ≡ true → is_there made_later k ≡ true
  still_there k there =
      ⊎_elim (itself_there k) (λ apart. ap (nat_lt 0) (literal_else y.literals text k twin apart) ∙ there) (cases_eq k text)

  literal_stays : (k : ℕ) → is_made y (text ∷ []) k ≡ true → is_made made_later [] k ≡ true
  literal_stays k is =
      ⊎_elim (λ there. or_left (is_there made_later k) false (still_there k there))
      (λ among. or_left (is_there made_later k) false (itself_there k (among_one k text among))) (or_cases (is_there y k) (is_among k (text ∷ [])) is)

  abbrev literal_words : ℕ
  literal_words = request_words (requested o (literal_type o text) (length (literal_text o text)) true)

  pub within_literal : (room : Room) (more : List Action) → is_there y text ≡ false → live_words following ≡ live_words y.store + literal_words
      → Within o room y (MakeLiteral text ∷ more) → Within o room made_later more
  within_literal room more none live h =
      let head : words_of o y [] (MakeLiteral text) ≡ literal_words = ap (λ b. cond (b || false) 0 literal_words) none in
      left_within room (words_of o y [] (MakeLiteral text)) (words_among o y (text ∷ []) more) (words_among o made_later [] more) (live_words y.store)
      (live_words following) h (fewer o y made_later more (text ∷ []) [] literal_stays) (omega (arith, head, live))

-- an object that is made next may live beside what does
first_within : (room : Room) (head tail live words : ℕ) → (0 < head + tail → Fits room (live + (head + tail))) → head ≡ words → 0 < words
    → Fits room (live + words)
first_within room head tail live words h is some =
    let all : Fits room (live + (head + tail)) = h (omega (arith, is, some)) in
    let second : live + (head + tail) ≤ room.second = all.0 in
    let first : live + (head + tail) + room.gone ≤ room.first = all.1 in (omega (arith, second, is), omega (arith, first, is))

pub next_within : (o : Outline) (room : Room) (y : Areas) (action : Action) (more : List Action) (words : ℕ) → words_of o y [] action ≡ words → 0 < words
    → Within o room y (action ∷ more) → Fits room (live_words y.store + words)
next_within o room y action more words is some h =
    first_within room (words_of o y [] action) (words_among o y (literal_of action ++ []) more) (live_words y.store) words h is some
