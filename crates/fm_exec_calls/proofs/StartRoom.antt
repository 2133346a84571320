-- The room that the start of classes has left, once one more literal is made.
use Rattle.std.proofs.Common.{◌≡◌, ◌⊎◌, inl, inr, ℕ, zero, suc, ◌+◌, ◌<◌, ◌≤◌, ◌^◌, ◌==◌, ◌||◌, Bool, true, false, cond, nat_eq, nat_lt, if◌then◌else◌, List, [], ◌∷◌, ◌++◌, get_or, set, length, Some, refl, ap, sym, ◌∙◌, subst, arith}
use Rattle.std.proofs.lemmas.Bool.{cases_eq, eq-eqb, false≢true, lt-ltb, ne_eqb}
use Rattle.std.proofs.lemmas.List.{get_or-set_other, get_or-set_same, length-replicate}
use Rattle.std.proofs.lemmas.Option.{none-some}
use Rattle.std.proofs.lemmas.List.Sums.{sum_by-cons}
use Rattle.fm_cells.proofs.Changes.{live_words-made_by, live_words-with_object, object_at-made_by, object_at-with_object}
use Rattle.fm_exec_calls.specs.inner.Actions.{CanAct, unmade}
use Rattle.fm_cells.specs.Changes.{Take, made_by, with_object}
use Rattle.fm_cells.specs.Objects.{new_object, Object, Request, request_words}
use Rattle.fm_cells.specs.Sizes.{packed_words}
use Rattle.fm_cells.specs.Soundness.{IsSound}
use Rattle.fm_cells.specs.Stores.{live_words, object_at, Store}
use Rattle.fm_frames.proofs.Contents.{content_in}
use Rattle.fm_frames.specs.Acts.{Choose, is_there, literal_made, literal_text, literal_type, requested, with_content}
use Rattle.fm_frames.specs.Effects.{Action, Make, MakeFixed, MakeLiteral, Put, SetStatic, Start, Free, SetChain, FreeChain, Copy}
use Rattle.fm_frames.specs.States.{Areas, State}
use Rattle.fm_frames.specs.Steps.{literal_of, words_among, words_of}
use Rattle.fm_frames.specs.inner.Doings.{Makes}
use Rattle.fm_cells.specs.declared.answers.Cell.{Cell}
use Rattle.fm_world.specs.Chains.{is_among}
use Rattle.fm_world.specs.Programs.{Outline}

-- ---- the words that are left

or-swap : (a b c : Bool) → (a || (b || c)) ≡ (b || (a || c))
or-swap true true c = refl
or-swap true false c = refl
or-swap false true c = refl
or-swap false false c = refl

literal_needs : Outline → ℕ → Bool → ℕ
literal_needs o text there =
    if there then 0 else packed_words (length (literal_text o text)) (requested o (literal_type o text) (length (literal_text o text)) true).pack

-- actions need as many words in areas where the same literals are made or counted
words-alike : (o : Outline) (x y : Areas) (counted known : List ℕ) (actions : List Action)
    → ((text : ℕ) → (is_there y text || is_among text known) ≡ (is_there x text || is_among text counted))
    → words_among o y known actions ≡ words_among o x counted actions
unfolding literal_needs
words-alike o x y counted known [] same = refl
words-alike o x y counted known (Make t len content ∷ more) same =
    ap (λ n. request_words (requested o t len false) + n) (words-alike o x y counted known more same)
words-alike o x y counted known (MakeFixed t ∷ more) same = ap (λ n. request_words (requested o t 0 true) + n) (words-alike o x y counted known more same)
words-alike o x y counted known (MakeLiteral text ∷ more) same =
    (λ i. literal_needs o text (same text i) + words_among o y (text ∷ known) more)
    ∙ ap (λ n. literal_needs o text (is_there x text || is_among text counted) + n)
    (words-alike o x y (text ∷ counted) (text ∷ known) more
    (λ other. or-swap (is_there y other) (nat_eq other text) (is_among other known)
    ∙ ap (λ b. nat_eq other text || b) (same other)
    ∙ sym (or-swap (is_there x other) (nat_eq other text) (is_among other counted))))
words-alike o x y counted known (Put object place k v ∷ more) same = ap (λ n. 0 + n) (words-alike o x y counted known more same)
words-alike o x y counted known (SetStatic slot k v ∷ more) same = ap (λ n. 0 + n) (words-alike o x y counted known more same)
words-alike o x y counted known (Start class ∷ more) same = ap (λ n. 0 + n) (words-alike o x y counted known more same)
words-alike o x y counted known (Free operand ∷ more) same = ap (λ n. 0 + n) (words-alike o x y counted known more same)
words-alike o x y counted known (SetChain operand to ∷ more) same = ap (λ n. 0 + n) (words-alike o x y counted known more same)
words-alike o x y counted known (FreeChain operand ∷ more) same = ap (λ n. 0 + n) (words-alike o x y counted known more same)
words-alike o x y counted known (Copy t len operand ∷ more) same =
    ap (λ n. request_words (requested o t len false) + n) (words-alike o x y counted known more same)

-- the literal of the text is the only one that is new
there-now : (x y : Areas) (text cell other : ℕ) → y.literals ≡ set x.literals text cell → text < length x.literals → 0 < cell
    → (is_there y other || false) ≡ (is_there x other || (nat_eq other text || false))
there-now x y text cell other is inside some = by_same (cases_eq other text) where
  by_same : (other ≡ text) ⊎ (other ≡ text → ⊥) → (is_there y other || false) ≡ (is_there x other || (nat_eq other text || false))
  by_same (inl same) =
      ap (λ b. b || false)
      (ap (nat_lt 0) ((λ i. get_or (is i) (same i) 0) ∙ get_or-set_same x.literals text cell 0 inside) ∙ lt-ltb 0 cell some)
      ∙ sym (or-true (is_there x other))
      ∙ ap (λ b. is_there x other || (b || false)) (sym (eq-eqb other text same)) where
        or-true : (b : Bool) → (b || (true || false)) ≡ true
        or-true true = refl
        or-true false = refl
  by_same (inr apart) =
      ap (λ b. b || false) (ap (nat_lt 0) (ap (λ l. get_or l other 0) is ∙ get_or-set_other x.literals text other cell 0 apart))
      ∙ ap (λ b. is_there x other || (b || false)) (sym (ne_eqb other text apart))

-- ---- the texts that are left

abbrev pub one_if : Bool → ℕ
one_if b = cond b 1 0

unmade-more : (cell : ℕ) (literals : List ℕ) → unmade (cell ∷ literals) ≡ one_if (cell == 0) + unmade literals
unmade-more cell literals = sum_by-cons (λ n. one_if (n == 0)) cell literals

pub unmade-set : (literals : List ℕ) (text cell : ℕ) → text < length literals → get_or literals text 0 ≡ 0 → 0 < cell
    → unmade (set literals text cell) + 1 ≡ unmade literals
unmade-set [] text cell inside none some = absurd (omega (arith, inside))
unmade-set (c ∷ literals) zero cell inside none some =
    let before : one_if (c == 0) ≡ one_if true = ap one_if (eq-eqb c 0 none) in
    let after : one_if (cell == 0) ≡ one_if false = ap one_if (ne_eqb cell 0 (λ e. absurd (omega (arith, e, some)))) in
    let old = unmade-more c literals in
    let new = unmade-more cell literals in
    omega (arith, before, after, old, new)
unmade-set (c ∷ literals) (suc text) cell inside none some =
    let rest = unmade-set literals text cell (omega (arith, inside)) none some in
    let old = unmade-more c literals in
    let new = unmade-more c (set literals text cell) in
    omega (arith, rest, old, new)

-- ---- the store

-- an object with its content has as many words
content-keeps : (store : Store) (cell : ℕ) (content : List ℕ) (object : Object) → object_at store cell ≡ Some object → length content ≡ length object.elements
    → (live_words (with_content store cell content) ≡ live_words store)
    × ((with_content store cell content).births ≡ store.births)
    × ((with_content store cell content).budget ≡ store.budget)
    × (now : Object)
    × (object_at (with_content store cell content) cell ≡ Some now)
content-keeps store cell [] object at same = (refl, refl, refl, object, at)
content-keeps store cell (e ∷ content) object at same =
    let now : Object = record object { elements = e ∷ content } in
    let is : with_content store cell (e ∷ content) ≡ with_object store cell now = ap (content_in store cell (e ∷ content)) at in (
      ap live_words is ∙ live_words-with_object store cell object now at (ap (λ n. packed_words n object.pack) same),
      ap (λ (s : Store). s.births) is,
      ap (λ (s : Store). s.budget) is,
      now,
      ap (λ s. object_at s cell) is ∙ object_at-with_object store cell now cell ∙ ap (λ b. cond b (Some now) (object_at store cell)) (eq-eqb cell cell refl),
    )

-- ---- a literal is made

pub none-is : (n : ℕ) → nat_lt 0 n ≡ false → n ≡ 0
none-is n none = by_case (cases_eq n 0) where
  by_case : (n ≡ 0) ⊎ (n ≡ 0 → ⊥) → n ≡ 0
  by_case (inl is) = is
  by_case (inr some) = absurd (false≢true (sym none ∙ lt-ltb 0 n (omega (arith, some))))

literal-needs : (o : Outline) (x : Areas) (text : ℕ) (left : List Action) → is_there x text ≡ false
    → words_among o x [] (MakeLiteral text ∷ left)
    ≡ request_words (requested o (literal_type o text) (length (literal_text o text)) true) + words_among o x (text ∷ []) left
unfolding literal_needs
literal-needs o x text left none = ap (λ there. literal_needs o text (there || false) + words_among o x (text ∷ []) left) none

pub can-after : (o : Outline) (choose : Choose) (y w z : State) (text : ℕ) (cell : Cell) → is_there y.areas text ≡ false → text < length y.areas.literals
    → Makes choose y w (requested o (literal_type o text) (length (literal_text o text)) true) (literal_text o text) (Some cell)
    → z ≡ record w { areas = literal_made w.areas text cell.0 } → IsSound z.areas.store
    → (left : List Action) (own : ℕ) → CanAct o y (MakeLiteral text ∷ left) own → CanAct o z left own
can-after o choose y w z text cell none inside (grows, taken, free, is) kept sound left own can =
    let units = literal_text o text in
    let r : Request = requested o (literal_type o text) (length units) true in
    let made : Store = made_by y.areas.store r (Take cell.0 grows) in
    let object : Object = new_object y.areas.store.births r in
    let at : object_at made cell.0 ≡ Some object =
    object_at-made_by y.areas.store r cell.0 grows cell.0 ∙ ap (λ b. cond b (Some object) (object_at y.areas.store cell.0)) (eq-eqb cell.0 cell.0 refl) in
    let (live, births, budget, now, there) = content-keeps made cell.0 units object at (sym (length-replicate (length units) 0)) in
    let store : z.areas.store ≡ with_content made cell.0 units =
    ap (λ (z : State). z.areas.store) kept ∙ ap (λ (w : State). w.areas.store) is in
    let literals : z.areas.literals ≡ set y.areas.literals text cell.0 =
    ap (λ (z : State). z.areas.literals) kept ∙ ap (λ (w : State). set w.areas.literals text cell.0) is in
    let some : 0 < cell.0 = above cell.0 (λ null. none-some now
    (sym (sound.orderly.null_not_held) ∙ (λ i. object_at (store i) (sym null i)) ∙ there)) in
    let lives : live_words z.areas.store ≡ live_words y.areas.store + request_words r =
    ap live_words store ∙ live ∙ live_words-made_by y.areas.store r cell.0 grows free in
    let needs = literal-needs o y.areas text left none in
    let alike : words_among o z.areas [] left ≡ words_among o y.areas (text ∷ []) left =
    words-alike o y.areas z.areas (text ∷ []) [] left (λ other. there-now y.areas z.areas text cell.0 other literals inside some) in
    let fewer = unmade-set y.areas.literals text cell.0 inside (none-is (get_or y.areas.literals text 0) none) some in
    let more : z.areas.store.births ≡ y.areas.store.births + 1 = ap (λ (s : Store). s.births) store ∙ births in
    let same : z.areas.store.budget ≡ y.areas.store.budget = ap (λ (s : Store). s.budget) store ∙ budget in
    let marked : unmade z.areas.literals + 1 ≡ unmade y.areas.literals = ap (λ l. unmade l + 1) literals ∙ fewer in
    let before = can.births in
    let room = can.room in
    record {
      births = omega (arith, more, marked, before);
      budget = subst (λ n. n ≤ 2 ^ 27) (sym same) can.budget;
      room = omega (arith, lives, needs, alike, same, room);
    } where
      above : (n : ℕ) → (n ≡ 0 → ⊥) → 0 < n
      above n some = omega (arith, some)

-- an action that makes nothing asks for nothing
pub can-still : (o : Outline) (y z : State) (action : Action) → z.areas.store ≡ y.areas.store → z.areas.literals ≡ y.areas.literals
    → ((literals : List ℕ) → words_of o y.areas literals action ≡ 0) → literal_of action ≡ []
    → (left : List Action) (own : ℕ) → CanAct o y (action ∷ left) own → CanAct o z left own
can-still o y z action store literals free none left own can =
    let alike : words_among o z.areas [] left ≡ words_among o y.areas [] left =
    words-alike o y.areas z.areas [] [] left (λ other. ap (λ l. nat_lt 0 (get_or l other 0) || false) literals) in
    let nothing : words_of o y.areas [] action ≡ 0 = free [] in
    let rest : words_among o y.areas (literal_of action ++ []) left ≡ words_among o y.areas [] left = ap (λ l. words_among o y.areas (l ++ []) left) none in
    let lives : live_words z.areas.store ≡ live_words y.areas.store = ap live_words store in
    let births : z.areas.store.births ≡ y.areas.store.births = ap (λ (s : Store). s.births) store in
    let budget : z.areas.store.budget ≡ y.areas.store.budget = ap (λ (s : Store). s.budget) store in
    let marked : unmade z.areas.literals ≡ unmade y.areas.literals = ap unmade literals in
    let before = can.births in
    let room = can.room in
    record {
      births = omega (arith, births, marked, before);
      budget = subst (λ n. n ≤ 2 ^ 27) (sym budget) can.budget;
      room = omega (arith, lives, nothing, alike, rest, budget, room);
    }

-- a literal that is there needs nothing
pub can-there : (o : Outline) (y : State) (text : ℕ) → is_there y.areas text ≡ true
    → (left : List Action) (own : ℕ) → CanAct o y (MakeLiteral text ∷ left) own → CanAct o y left own
unfolding literal_needs
can-there o y text there left own can =
    let nothing : literal_needs o text (is_there y.areas text || false) ≡ 0 = ap (λ b. literal_needs o text (b || false)) there in
    let alike : words_among o y.areas [] left ≡ words_among o y.areas (text ∷ []) left =
    words-alike o y.areas y.areas (text ∷ []) [] left (λ other. known other (cases_eq other text)) in
    let room = can.room in
    record { births = can.births; budget = can.budget; room = omega (arith, nothing, alike, room) } where
      known : (other : ℕ) → (other ≡ text) ⊎ (other ≡ text → ⊥) → (is_there y.areas other || false) ≡ (is_there y.areas other || (nat_eq other text || false))
      known other (inl same) =
          ap (λ b. b || false) (ap (is_there y.areas) same ∙ there) ∙ sym (ap (λ b. b || (nat_eq other text || false)) (ap (is_there y.areas) same ∙ there))
      known other (inr apart) = ap (λ b. is_there y.areas other || (b || false)) (sym (ne_eqb other text apart))
