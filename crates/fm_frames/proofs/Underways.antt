-- Effects of several actions, which are done one after the other.
use Rattle.std.proofs.Common.{◌≡◌, ◌⊎◌, inl, inr, ℕ, ◌+◌, ◌<◌, ◌≤◌, Bool, true, false, nat_lt, ◌&&◌, if◌then◌else◌, List, [], ◌∷◌, ◌++◌, max, min, length, Some, None, refl, ap, sym, ◌∙◌, subst, arith}
use Rattle.std.proofs.lemmas.Bool.{false≢true, lt-ltb, le-ltb, cases_lt}
use Rattle.fm_base.specs.declared.kinds.Kind.{Kind}
use Rattle.fm_base.specs.declared.kinds.TypeRef.{TypeRef}
use Rattle.fm_cells.specs.Changes.{Choice, Take, made_by}
use Rattle.fm_cells.specs.Objects.{Request, request_words}
use Rattle.fm_cells.specs.Sizes.{cell_words}
use Rattle.fm_cells.specs.Stores.{live_words}
use Rattle.fm_cells.specs.declared.answers.Cell.{Cell}
use Rattle.fm_world.specs.Programs.{Outline, Program}
use Rattle.fm_frames.specs.Acts.{cell_of, Choose, copied, Did, is_there, literal_made, literal_text, literal_type, made_then, performed, Performed, put_value, requested, set_static, value_of, with_content}
use Rattle.fm_frames.specs.Effects.{Action, Make, MakeFixed, MakeLiteral, Put, SetStatic, Start, Free, SetChain, FreeChain, Copy, Source, Plain, Effect, acting, words}
use Rattle.fm_frames.specs.States.{Areas, Moved, ref, silent, State, word_at}
use Rattle.fm_frames.specs.Steps.{attempted, done_by, halted, is_deep, is_over, locals_of, makes, most_words, objects_made, stack_of, stopped, words_among, words_made}
use Rattle.fm_frames.specs.declared.ends.Ended.TheVariants as end
use Rattle.fm_frames.specs.declared.values.Value.{Value}
use Rattle.fm_frames.specs.inner.Doings.{DoesIn, Makes, NextFits, Underway}
use Rattle.fm_frames.proofs.Acting.{done-none, done-one, sources_in}

-- ---- the beginning

-- a number of words that isn't too great is reported as it is
pub told-whole : (words : ℕ) → words ≤ most_words → min words most_words ≡ words
told-whole words few = omega (arith, few)

-- by whether it needs too many frames, or too many words
abbrev pub by_tests : Program → Choose → State → Effect → (deep over : Bool) → Moved
by_tests p choose x e deep over =
    if deep then halted x (end.TooDeep (length x.frames)) else
    if over then halted x (end.Exhausted (live_words x.areas.store) (words_made p.outline x.areas e.actions)) else
    done_by p (max 1 (objects_made e.actions)) e x (performed p.outline choose (locals_of x) (stack_of x) e.actions x.areas [])

abbrev pub over_by : State → (makes : Bool) → (words : ℕ) → Bool
over_by x makes words = if makes then (nat_lt 0 words && nat_lt x.areas.store.budget (live_words x.areas.store + words)) else false

-- an effect for which there is room begins with all its actions left
pub begun : (p : Program) (choose : Choose) (x : State) (e : Effect) → is_deep x e.next ≡ false → is_over p.outline x.areas e.actions ≡ false
    → Underway p choose x x e [] e.actions
begun p choose x e deep over = record {
  so_far = ap (λ d. by_tests p choose x e d (is_over p.outline x.areas e.actions)) deep ∙ ap (by_tests p choose x e false) over;
  same = refl;
}

pub within : (live budget words : ℕ) → (0 < words → live + words ≤ budget) → (nat_lt 0 words && nat_lt budget (live + words)) ≡ false
within live budget words room = by_test (cases_lt 0 words) where
  by_test : (0 < words) ⊎ (words ≤ 0) → (nat_lt 0 words && nat_lt budget (live + words)) ≡ false
  by_test (inl some) =
      ap (λ b. b && nat_lt budget (live + words)) (lt-ltb 0 words some) ∙ le-ltb budget (live + words) (room some)
  by_test (inr none) = ap (λ b. b && nat_lt budget (live + words)) (le-ltb 0 words none)

-- actions that make nothing need no words
pub none-made : (o : Outline) (x : Areas) (literals : List ℕ) (actions : List Action) → makes actions ≡ false → words_among o x literals actions ≡ 0
none-made o x literals [] none = refl
none-made o x literals (Make t len content ∷ more) none = absurd (false≢true (sym none))
none-made o x literals (MakeFixed t ∷ more) none = absurd (false≢true (sym none))
none-made o x literals (MakeLiteral text ∷ more) none = absurd (false≢true (sym none))
none-made o x literals (Put object place k v ∷ more) none = let rest = none-made o x literals more none in omega (arith, rest)
none-made o x literals (SetStatic slot k v ∷ more) none = let rest = none-made o x literals more none in omega (arith, rest)
none-made o x literals (Start class ∷ more) none = let rest = none-made o x literals more none in omega (arith, rest)
none-made o x literals (Free operand ∷ more) none = let rest = none-made o x literals more none in omega (arith, rest)
none-made o x literals (SetChain operand to ∷ more) none = let rest = none-made o x literals more none in omega (arith, rest)
none-made o x literals (FreeChain operand ∷ more) none = let rest = none-made o x literals more none in omega (arith, rest)
none-made o x literals (Copy t len operand ∷ more) none = absurd (false≢true (sym none))

pub reserved : (p : Program) (choose : Choose) (x : State) (e : Effect) (words : ℕ) → is_deep x e.next ≡ false
    → words_made p.outline x.areas e.actions ≡ words → (0 < words → live_words x.areas.store + words ≤ x.areas.store.budget)
    → Underway p choose x x e [] e.actions
reserved p choose x e words deep many room = begun p choose x e deep (by_making (makes e.actions) refl) where
  by_making : (b : Bool) → makes e.actions ≡ b → is_over p.outline x.areas e.actions ≡ false
  by_making true some = (λ i. over_by x (some i) (many i)) ∙ within (live_words x.areas.store) x.areas.store.budget words room
  by_making false none = ap (λ b. over_by x b (words_made p.outline x.areas e.actions)) none

pub over : (live budget words : ℕ) → 0 < words → budget < live + words → (nat_lt 0 words && nat_lt budget (live + words)) ≡ true
over live budget words some passes =
    ap (λ b. b && nat_lt budget (live + words)) (lt-ltb 0 words some) ∙ lt-ltb budget (live + words) passes

pub exhausted : (p : Program) (choose : Choose) (old x : State) (e : Effect) (live words : ℕ) → old ≡ x → is_deep x e.next ≡ false
    → words_made p.outline x.areas e.actions ≡ words → live ≡ live_words old.areas.store → 0 < words → old.areas.store.budget < live + words
    → DoesIn p choose x (record old { ended = Some (end.Exhausted live words) }) e
exhausted p choose old x e live words is deep many lives needed passes =
    let P : State → Type 0 = λ x. is_deep x e.next ≡ false → words_made p.outline x.areas e.actions ≡ words
    → DoesIn p choose x (record old { ended = Some (end.Exhausted live words) }) e in
    subst P is
    (λ deep many.
    (λ i. silent (record old { ended = Some (end.Exhausted (lives i) (sym many i)) }))
    ∙ sym (ap (λ d. by_tests p choose old e d (is_over p.outline old.areas e.actions)) deep
    ∙ ap (by_tests p choose old e false)
    ((λ i. over_by old (some (makes e.actions) refl i) (many i))
    ∙ over (live_words old.areas.store) old.areas.store.budget words needed
    (subst (λ l. old.areas.store.budget < l + words) lives passes))))
    deep many where
      some : (b : Bool) → makes e.actions ≡ b → makes e.actions ≡ true
      some true made = made
      some false none =
          let nothing = none-made p.outline x.areas [] e.actions none in absurd (omega (arith, many, needed, nothing))

-- ---- an object

abbrev after_choice : State → Request → List ℕ → Choice → (Areas → ℕ → Performed) → Performed
after_choice y r content choice follows = made_then y.areas r content choice follows

-- the areas once the object is there
abbrev pub areas_with : Areas → Request → List ℕ → (cell : ℕ) → Bool → Areas
areas_with x r content cell grows = record x { store = with_content (made_by x.store r (Take cell grows)) cell content }

pub made-next : (p : Program) (choose : Choose) (x y z : State) (e : Effect) (made : List ℕ) (t : TypeRef) (len : ℕ) (content : List ℕ) (left : List Action) (cell : Cell)
    → Underway p choose x y e made (Make t len content ∷ left) → Makes choose y z (requested p.outline t len false) content (Some cell)
    → Underway p choose x z e (made ++ cell.0 ∷ []) left
unfolding performed
made-next p choose x y z e made t len content left cell so (grows, taken, free, is) = record {
  so_far =
      so.so_far
      ∙ ap (λ choice. done_by p (max 1 (objects_made e.actions)) e x (made_then y.areas (requested p.outline t len false) content choice
      (λ a c. performed p.outline choose (locals_of x) (stack_of x) left a (made ++ c ∷ [])))) taken
      ∙ ap (λ (z : State). done_by p (max 1 (objects_made e.actions)) e x (performed p.outline choose (locals_of x) (stack_of x) left z.areas (made ++ cell.0 ∷ [])))
      (sym is);
  same = is ∙ (λ i. record (so.same i) { areas = (sym is i).areas });
}

pub made-full : (p : Program) (choose : Choose) (x y z : State) (e : Effect) (made : List ℕ) (t : TypeRef) (len : ℕ) (content : List ℕ) (left : List Action)
    → Underway p choose x y e made (Make t len content ∷ left) → Makes choose y z (requested p.outline t len false) content None
    → DoesIn p choose x z e
unfolding performed
made-full p choose x y z e made t len content left so (refused, is) =
    ap silent (is ∙ ap (λ (w : State). stopped w (end.StoreFull y.areas.store.made_words (cell_words (request_words (requested p.outline t len false))))) so.same)
    ∙ sym (so.so_far
    ∙ ap (λ choice. done_by p (max 1 (objects_made e.actions)) e x (made_then y.areas (requested p.outline t len false) content choice
    (λ a c. performed p.outline choose (locals_of x) (stack_of x) left a (made ++ c ∷ [])))) refused)

-- ---- a copy

pub copied-next : (p : Program) (choose : Choose) (x y z : State) (e : Effect) (made : List ℕ) (t : TypeRef) (len operand : ℕ) (left : List Action) (cell : Cell)
    → Underway p choose x y e made (Copy t len operand ∷ left)
    → Makes choose y z (requested p.outline t len false) (copied y.areas.store (cell_of (word_at (stack_of x) operand)) len) (Some cell)
    → Underway p choose x z e (made ++ cell.0 ∷ []) left
unfolding performed
copied-next p choose x y z e made t len operand left cell so (grows, taken, free, is) = record {
  so_far =
      so.so_far
      ∙ ap (λ choice. done_by p (max 1 (objects_made e.actions)) e x (made_then y.areas (requested p.outline t len false)
      (copied y.areas.store (cell_of (word_at (stack_of x) operand)) len) choice
      (λ a c. performed p.outline choose (locals_of x) (stack_of x) left a (made ++ c ∷ [])))) taken
      ∙ ap (λ (z : State). done_by p (max 1 (objects_made e.actions)) e x (performed p.outline choose (locals_of x) (stack_of x) left z.areas (made ++ cell.0 ∷ [])))
      (sym is);
  same = is ∙ (λ i. record (so.same i) { areas = (sym is i).areas });
}

pub copied-full : (p : Program) (choose : Choose) (x y z : State) (e : Effect) (made : List ℕ) (t : TypeRef) (len operand : ℕ) (left : List Action)
    → Underway p choose x y e made (Copy t len operand ∷ left)
    → Makes choose y z (requested p.outline t len false) (copied y.areas.store (cell_of (word_at (stack_of x) operand)) len) None
    → DoesIn p choose x z e
unfolding performed
copied-full p choose x y z e made t len operand left so (refused, is) =
    ap silent (is ∙ ap (λ (w : State). stopped w (end.StoreFull y.areas.store.made_words (cell_words (request_words (requested p.outline t len false))))) so.same)
    ∙ sym (so.so_far
    ∙ ap (λ choice. done_by p (max 1 (objects_made e.actions)) e x (made_then y.areas (requested p.outline t len false)
    (copied y.areas.store (cell_of (word_at (stack_of x) operand)) len) choice
    (λ a c. performed p.outline choose (locals_of x) (stack_of x) left a (made ++ c ∷ [])))) refused)

-- ---- a literal

literal_then : Program → Choose → State → State → Effect → List ℕ → ℕ → List Action → Bool → Moved
literal_then p choose x y e made text left there =
    done_by p (max 1 (objects_made e.actions)) e x
    (if there then performed p.outline choose (locals_of x) (stack_of x) left y.areas made
    else made_then y.areas (requested p.outline (literal_type p.outline text) (length (literal_text p.outline text)) true) (literal_text p.outline text)
    (choose y.areas.store (requested p.outline (literal_type p.outline text) (length (literal_text p.outline text)) true))
    (λ a cell. performed p.outline choose (locals_of x) (stack_of x) left (literal_made a text cell) made))

pub literal-there : (p : Program) (choose : Choose) (x y : State) (e : Effect) (made : List ℕ) (text : ℕ) (left : List Action)
    → is_there y.areas text ≡ true → Underway p choose x y e made (MakeLiteral text ∷ left) → Underway p choose x y e made left
unfolding performed literal_then
literal-there p choose x y e made text left there so = record {
  so_far = so.so_far ∙ ap (literal_then p choose x y e made text left) there;
  same = so.same;
}

pub literal-next : (p : Program) (choose : Choose) (x y z w : State) (e : Effect) (made : List ℕ) (text : ℕ) (left : List Action) (cell : Cell)
    → is_there y.areas text ≡ false → Underway p choose x y e made (MakeLiteral text ∷ left)
    → Makes choose y z (requested p.outline (literal_type p.outline text) (length (literal_text p.outline text)) true) (literal_text p.outline text) (Some cell)
    → w ≡ record z { areas = literal_made z.areas text cell.0 } → Underway p choose x w e made left
unfolding performed literal_then
literal-next p choose x y z w e made text left cell there so (grows, taken, free, is) kept = record {
  so_far =
      so.so_far ∙ ap (literal_then p choose x y e made text left) there
      ∙ ap (λ choice. done_by p (max 1 (objects_made e.actions)) e x
      (made_then y.areas (requested p.outline (literal_type p.outline text) (length (literal_text p.outline text)) true) (literal_text p.outline text) choice
      (λ a c. performed p.outline choose (locals_of x) (stack_of x) left (literal_made a text c) made))) taken
      ∙ ap (λ (z : State). done_by p (max 1 (objects_made e.actions)) e x
      (performed p.outline choose (locals_of x) (stack_of x) left (literal_made z.areas text cell.0) made)) (sym is)
      ∙ ap (λ (w : State). done_by p (max 1 (objects_made e.actions)) e x (performed p.outline choose (locals_of x) (stack_of x) left w.areas made)) (sym kept);
  same =
      kept ∙ ap (λ (z : State). record z { areas = literal_made z.areas text cell.0 }) is
      ∙ (λ i. record (so.same i) { areas = literal_made (sym is i).areas text cell.0 })
      ∙ (λ i. record x { areas = (sym kept i).areas });
}

pub literal-full : (p : Program) (choose : Choose) (x y z : State) (e : Effect) (made : List ℕ) (text : ℕ) (left : List Action)
    → is_there y.areas text ≡ false → Underway p choose x y e made (MakeLiteral text ∷ left)
    → Makes choose y z (requested p.outline (literal_type p.outline text) (length (literal_text p.outline text)) true) (literal_text p.outline text) None
    → DoesIn p choose x z e
unfolding performed literal_then
literal-full p choose x y z e made text left there so (refused, is) =
    ap silent (is ∙ ap (λ (w : State). stopped w (end.StoreFull y.areas.store.made_words
    (cell_words (request_words (requested p.outline (literal_type p.outline text) (length (literal_text p.outline text)) true))))) so.same)
    ∙ sym (so.so_far ∙ ap (literal_then p choose x y e made text left) there
    ∙ ap (λ choice. done_by p (max 1 (objects_made e.actions)) e x
    (made_then y.areas (requested p.outline (literal_type p.outline text) (length (literal_text p.outline text)) true) (literal_text p.outline text) choice
    (λ a c. performed p.outline choose (locals_of x) (stack_of x) left (literal_made a text c) made))) refused)

-- ---- a value is put

pub put-next : (p : Program) (choose : Choose) (x y z : State) (e : Effect) (made : List ℕ) (object source : Source) (cell place : ℕ) (kind : Kind) (v : Value) (left : List Action)
    → Underway p choose x y e made (Put object place kind source ∷ left)
    → value_of (sources_in x y.areas made) object ≡ ref cell → value_of (sources_in x y.areas made) source ≡ v
    → z ≡ record y { areas = put_value y.areas (ref cell) place kind v } → Underway p choose x z e made left
unfolding performed
put-next p choose x y z e made object source cell place kind v left so to from is = record {
  so_far =
      so.so_far
      ∙ (λ i. done_by p (max 1 (objects_made e.actions)) e x (performed p.outline choose (locals_of x) (stack_of x) left (put_value y.areas (to i) place kind (from i)) made))
      ∙ ap (λ (z : State). done_by p (max 1 (objects_made e.actions)) e x (performed p.outline choose (locals_of x) (stack_of x) left z.areas made)) (sym is);
  same = is ∙ (λ i. record (so.same i) { areas = (sym is i).areas });
}

pub static-next : (p : Program) (choose : Choose) (x y z : State) (e : Effect) (made : List ℕ) (slot : ℕ) (kind : Kind) (source : Source) (v : Value) (left : List Action)
    → Underway p choose x y e made (SetStatic slot kind source ∷ left) → value_of (sources_in x y.areas made) source ≡ v
    → z ≡ record y { areas = set_static y.areas slot kind v } → Underway p choose x z e made left
unfolding performed
static-next p choose x y z e made slot kind source v left so from is = record {
  so_far =
      so.so_far
      ∙ (λ i. done_by p (max 1 (objects_made e.actions)) e x (performed p.outline choose (locals_of x) (stack_of x) left (set_static y.areas slot kind (from i)) made))
      ∙ ap (λ (z : State). done_by p (max 1 (objects_made e.actions)) e x (performed p.outline choose (locals_of x) (stack_of x) left z.areas made)) (sym is);
  same = is ∙ (λ i. record (so.same i) { areas = (sym is i).areas });
}

-- ---- the end

pub ended-none : (p : Program) (choose : Choose) (x y z : State) (made : List ℕ) (takes : ℕ) (actions : List Action) → NextFits x.frames
    → max 1 (objects_made actions) ≡ 1 → Underway p choose x y (acting takes actions) made [] → silent z ≡ attempted p choose y (words takes [])
    → DoesIn p choose x z (acting takes actions)
unfolding performed
ended-none p choose x y z made takes actions fits one so took =
    took ∙ ap (λ (y : State). attempted p choose y (words takes [])) so.same
    ∙ done-none p choose x y.areas takes actions made x.frames fits
    ∙ ap (λ n. done_by p n (acting takes actions) x (Did y.areas made)) (sym one)
    ∙ sym so.so_far

pub ended-one : (p : Program) (choose : Choose) (x y z : State) (made : List ℕ) (takes : ℕ) (actions : List Action) (source : Source) (v : Value) → NextFits x.frames
    → max 1 (objects_made actions) ≡ 1 → Underway p choose x y (record (acting takes actions) { gives = source ∷ [] }) made []
    → value_of (sources_in x y.areas made) source ≡ v
    → silent z ≡ attempted p choose y (words takes (Plain v ∷ []))
    → DoesIn p choose x z (record (acting takes actions) { gives = source ∷ [] })
unfolding performed
ended-one p choose x y z made takes actions source v fits one so is given =
    given ∙ ap (λ (y : State). attempted p choose y (words takes (Plain v ∷ []))) so.same
    ∙ ap (λ v. attempted p choose (record x { areas = y.areas }) (words takes (Plain v ∷ []))) (sym is)
    ∙ done-one p choose x y.areas takes actions made source x.frames fits
    ∙ ap (λ n. done_by p n (record (acting takes actions) { gives = source ∷ [] }) x (Did y.areas made)) (sym one)
    ∙ sym so.so_far
