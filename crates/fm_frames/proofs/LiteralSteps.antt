-- A literal is given, and made before where it isn't there.
use Rattle.std.proofs.Common.{◌≡◌, ◌≢◌, ℕ, ◌+◌, ◌-◌, ◌<◌, ◌≤◌, min, Bool, true, false, cond, ◌||◌, nat_lt, if◌then◌else◌, List, [], ◌∷◌, length, Some, None, option_map, unwrap_or, refl, ap, sym, ◌∙◌, subst, arith}
use Rattle.std.proofs.lemmas.Bool.{le-ltb, lt-ltb}
use Rattle.std.proofs.lemmas.List.{get_or-set_same}
use Rattle.std.proofs.lemmas.Option.{get_or_from_slice_get}
use Rattle.std.specs.List.{slice_index_or}
use Rattle.std.specs.Prelude.{slice_get}
use Rattle.fm_base.specs.declared.kinds.TypeRef.{TypeRef}
use Rattle.fm_cells.specs.Objects.{Request, request_words}
use Rattle.fm_cells.specs.Sizes.{packed_words}
use Rattle.fm_cells.specs.declared.answers.Cell.{Cell}
use Rattle.fm_frames.proofs.TextSteps.{literal-pack}
use Rattle.fm_frames.proofs.Underways.{ended-one, literal-full, literal-next, literal-there, reserved, told-whole}
use Rattle.fm_frames.specs.Acts.{Choose, is_there, literal_made, literal_text, literal_type, name_numbered, requested}
use Rattle.fm_frames.specs.Effects.{giving_literal, MakeLiteral, OfLiteral, Plain, words}
use Rattle.fm_frames.specs.Elements.{pack_of}
use Rattle.fm_frames.specs.Literals.{class_literal}
use Rattle.fm_frames.specs.NativeRows.{class_type, text_type, type_name}
use Rattle.fm_frames.specs.Runnable.{IsRunnable}
use Rattle.fm_frames.specs.States.{Areas, ref, silent, State}
use Rattle.fm_frames.specs.Steps.{attempted, most_words, words_made}
use Rattle.fm_frames.specs.inner.Doings.{DoesIn, IsReady, Makes, NextFits, Underway}
use Rattle.fm_world.specs.Chains.{is_among}
use Rattle.fm_world.specs.Programs.{Outline, Program}

pub there-is : (x : Areas) (text made : ℕ) → made ≡ slice_index_or x.literals text 0 → made ≢ 0 → is_there x text ≡ true
there-is x text made is some =
    let above : 0 < slice_index_or x.literals text 0 = omega (arith, is, some) in lt-ltb 0 (slice_index_or x.literals text 0) above

pub none-there : (x : Areas) (text made : ℕ) → made ≡ slice_index_or x.literals text 0 → made ≡ 0 → is_there x text ≡ false
none-there x text made is none = ap (nat_lt 0) (sym is ∙ none)

words_by : Program → ℕ → Bool → ℕ
words_by p text there =
    (if there || is_among text [] then 0 else request_words (requested p.outline (literal_type p.outline text) (length (literal_text p.outline text)) true)) + 0

-- the words of a literal that isn't there
pub literal-words : (p : Program) (x : Areas) (text : ℕ) (units : List ℕ) → IsRunnable p → packed_words (length units) 4 ≤ most_words → is_there x text ≡ false
    → literal_text p.outline text ≡ units
    → words_made p.outline x (MakeLiteral text ∷ []) ≡ packed_words (length units) 4
unfolding words_by
literal-words p x text units runnable few there is =
    let all : packed_words (length (literal_text p.outline text)) (pack_of p.outline (literal_type p.outline text)) ≡ packed_words (length units) 4 =
    λ i. packed_words (length (is i)) (literal-pack p text runnable i) in
    let more : packed_words (length (literal_text p.outline text)) (pack_of p.outline (literal_type p.outline text)) + 0
    ≡ packed_words (length (literal_text p.outline text)) (pack_of p.outline (literal_type p.outline text)) = omega arith in
    ap (λ n. min n most_words) (ap (words_by p text) there ∙ more ∙ all) ∙ told-whole (packed_words (length units) 4) few

-- the literal of a text: its type, its units, and the words of its object
pub text-literal : (o : Outline) (text : ℕ) → text < length o.texts → literal_type o text ≡ text_type o
text-literal o text inside = ap (λ b. cond b (text_type o) (class_type o)) (lt-ltb text (length o.texts) inside)

pub text-is : (p : Program) (text : ℕ) (units : List ℕ) → text < length p.outline.texts → slice_get p.outline.texts text ≡ Some units
    → literal_text p.outline text ≡ units
text-is p text units inside at =
    let o : Outline = p.outline in
    ap (λ b. cond b (slice_index_or o.texts text []) (name_numbered o (text - length o.texts))) (lt-ltb text (length o.texts) inside)
    ∙ get_or_from_slice_get o.texts text units [] at

pub text-needs : (p : Program) (text words : ℕ) (units : List ℕ) → IsRunnable p → text < length p.outline.texts → slice_get p.outline.texts text ≡ Some units
    → words ≡ packed_words (length units) 4
    → words ≡ request_words (requested p.outline (literal_type p.outline text) (length (literal_text p.outline text)) true)
text-needs p text words units runnable inside at is =
    is ∙ (λ i. packed_words (length (sym (text-is p text units inside at) i)) (sym (literal-pack p text runnable) i))

-- a class literal: its type, and its units
pub class-literal : (o : Outline) (type : ℕ) → literal_type o (class_literal o type) ≡ class_type o
class-literal o type = ap (λ b. cond b (text_type o) (class_type o)) (le-ltb (class_literal o type) (length o.texts) (omega arith))

pub class-text : (o : Outline) (type : ℕ) → literal_text o (class_literal o type) ≡ name_numbered o type
class-text o type =
    let rest : class_literal o type - length o.texts ≡ type = omega arith in
    ap (λ b. cond b (slice_index_or o.texts (class_literal o type) []) (name_numbered o (class_literal o type - length o.texts)))
    (le-ltb (class_literal o type) (length o.texts) (omega arith))
    ∙ ap (name_numbered o) rest

pub name-is : (o : Outline) (type : ℕ) (t : TypeRef) → slice_get o.types type ≡ Some t → name_numbered o type ≡ type_name o t
name-is o type t at = ap (λ found. unwrap_or (option_map (type_name o) found) []) at

-- a literal that is there
pub given-there : (p : Program) (choose : Choose) (x w : State) (takes text made : ℕ) → NextFits x.frames → made ≡ slice_index_or x.areas.literals text 0 → made ≢ 0
    → silent w ≡ attempted p choose x (words takes (Plain (ref made) ∷ []))
    → DoesIn p choose x w (giving_literal takes text)
unfolding words_by
given-there p choose x w takes text made fits is some given =
    let there = there-is x.areas text made is some in
    let none : words_made p.outline x.areas (MakeLiteral text ∷ []) ≡ 0 = ap (λ there. min (words_by p text there) most_words) there in
    let so = reserved p choose x (giving_literal takes text) (words_made p.outline x.areas (MakeLiteral text ∷ [])) refl refl
    (λ needed. absurd (omega (arith, needed, none))) in
    ended-one p choose x x w [] takes (MakeLiteral text ∷ []) (OfLiteral text) (ref made) fits refl
    (literal-there p choose x x (giving_literal takes text) [] text [] there so) (ap ref (sym is)) given

-- one more step can be counted when a literal was made and kept
pub ready-made : (choose : Choose) (x y z w : State) (r : Request) (units : List ℕ) (cell : Cell) (literal : ℕ) → y ≡ x → IsReady x
    → Makes choose y z r units (Some cell) → w ≡ record z { areas = literal_made z.areas literal cell.0 } → IsReady w
ready-made choose x y z w r units cell literal same ready (grows, taken, free, is) kept =
    let before : IsReady y = subst (λ (y : State). IsReady y) (sym same) ready in
    let made : IsReady z = subst (λ (z : State). IsReady z) (sym is) (record { next_fits = before.next_fits; step_fits = before.step_fits }) in
    subst (λ (w : State). IsReady w) (sym kept) (record { next_fits = made.next_fits; step_fits = made.step_fits })

-- a literal that is made
pub given-made : (p : Program) (choose : Choose) (x y z w v : State) (takes text : ℕ) (units : List ℕ) (cell : Cell) → NextFits x.frames → y ≡ x
    → is_there x.areas text ≡ false → literal_text p.outline text ≡ units → text < length x.areas.literals
    → Underway p choose x y (giving_literal takes text) [] (MakeLiteral text ∷ [])
    → Makes choose y z (requested p.outline (literal_type p.outline text) (length units) true) units (Some cell)
    → w ≡ record z { areas = literal_made z.areas text cell.0 }
    → silent v ≡ attempted p choose w (words takes (Plain (ref cell.0) ∷ []))
    → DoesIn p choose x v (giving_literal takes text)
given-made p choose x y z w v takes text units cell fits same there is inside so makes kept given =
    let made = subst (λ units. Makes choose y z (requested p.outline (literal_type p.outline text) (length units) true) units (Some cell)) (sym is) makes in
    let (grows, taken, free, made_is) = makes in
    let literals : z.areas.literals ≡ x.areas.literals = ap (λ (z : State). z.areas.literals) made_is ∙ ap (λ (y : State). y.areas.literals) same in
    ended-one p choose x w v [] takes (MakeLiteral text ∷ []) (OfLiteral text) (ref cell.0) fits refl
    (literal-next p choose x y z w (giving_literal takes text) [] text [] cell
    (ap (λ (y : State). is_there y.areas text) same ∙ there) so made kept)
    (ap ref (ap (λ (w : State). slice_index_or w.areas.literals text 0) kept
    ∙ get_or-set_same z.areas.literals text cell.0 0 (subst (λ l. text < length l) (sym literals) inside)))
    given

pub given-full : (p : Program) (choose : Choose) (x y z : State) (takes text : ℕ) (units : List ℕ) → y ≡ x
    → is_there x.areas text ≡ false → literal_text p.outline text ≡ units
    → Underway p choose x y (giving_literal takes text) [] (MakeLiteral text ∷ [])
    → Makes choose y z (requested p.outline (literal_type p.outline text) (length units) true) units None
    → DoesIn p choose x z (giving_literal takes text)
given-full p choose x y z takes text units same there is so makes =
    literal-full p choose x y z (giving_literal takes text) [] text [] (ap (λ (y : State). is_there y.areas text) same ∙ there) so
    (subst (λ units. Makes choose y z (requested p.outline (literal_type p.outline text) (length units) true) units None) (sym is) makes)
