-- A call colours the frame that it makes: a parameter has the region of the word that was handed over. Frames that start classes hold nothing.
use Rattle.std.proofs.Common.{◌≡◌, refl, ℕ, zero, suc, ◌+◌, ◌-◌, ◌<◌, min, List, [], ◌∷◌, ◌++◌, length, drop, take, reverse, replicate, Some, sym, ◌∙◌, ap, subst, slice_get, get_or, arith, ⊎_elim, length-drop, length-take}
use Rattle.std.proofs.lemmas.List.{get_or-reverse, get_or-take, length-reverse}
use Rattle.std.proofs.lemmas.Option.{get_or_from_slice_get, same_Some, slice_get-get_or, slice_get_within}
use Rattle.fm_cells.specs.Stores.{Store}
use Rattle.fm_code.specs.declared.code_array.Code.{Code}
use Rattle.fm_conn.specs.Facts.{AreFacts, Facts}
use Rattle.fm_conn.specs.Nodes.{IsNode, Local, Slot}
use Rattle.fm_conn.specs.Pairs.{IsEnd}
use Rattle.fm_conn.specs.declared.ends.End2.TheVariants as end
use Rattle.fm_world.specs.Programs.{code_at, Program}
use Rattle.fm_frames.specs.States.{Frame}
use Rattle.fm_frames.specs.Steps.{max_locals_of, new_frame, start_frames}
use Rattle.fm_frames.specs.declared.values.Value.{Value}
use Rattle.fm_frames.specs.declared.values.Value.TheVariants as value
use Rattle.fm_same.specs.Colours.{AreFramesColoured, Colour, HasColour, IsFrameColoured, node_of_word}
use Rattle.fm_same.specs.Regions.{argument, region}
use Rattle.fm_same.specs.Standing.{Called, method_of, StandsAt}
use Rattle.fm_same.proofs.CallRegions.{region_call}
use Rattle.fm_same.proofs.GoesOnKeep.{append_found, drop_found, same_node}
use Rattle.fm_same.proofs.SourcesKeep.{has_if_reference}

-- ---- lists

-- the place of a word of the arguments, which are taken from the top
pub argument_found : (words : List Value) (takes k : ℕ) (v : Value) → slice_get (reverse (take takes words)) k ≡ Some v
    → (k < length (take takes words)) × (slice_get words (length (take takes words) - 1 - k) ≡ Some v)
argument_found words takes k v h =
    let within : k < length (reverse (take takes words)) = slice_get_within (reverse (take takes words)) k v h in
    let same : length (reverse (take takes words)) ≡ length (take takes words) = length-reverse (take takes words) in
    let below : k < length (take takes words) = omega arith in
    let count : length (take takes words) ≡ min takes (length words) = length-take takes words in
    let place : ℕ = length (take takes words) - 1 - k in
    let in_take : place < takes = omega arith in
    let in_words : place < length words = omega arith in
    let is : get_or words place v ≡ v =
    sym (get_or-take takes words place v in_take) ∙ sym (get_or-reverse (take takes words) k v below)
    ∙ get_or_from_slice_get (reverse (take takes words)) k v v h in
    (below, slice_get-get_or words place v in_words ∙ ap Some is)

pub top_found : (n m : ℕ) (v : Value) → slice_get (replicate n value.Top) m ≡ Some v → v ≡ value.Top
top_found zero m v h = absurd (cc)
top_found (suc n) zero v h = sym (same_Some value.Top v h)
top_found (suc n) (suc m) v h = top_found n m v h

-- ---- frames that start classes

pub start_coloured : (p : Program) (facts : Facts) (store : Store) (colour : Colour) (method : ℕ) (callers : List Frame)
    → IsFrameColoured p.outline facts store colour (new_frame p method []) callers
start_coloured p facts store colour method callers = record {
  locals = λ k v at live.
      subst (λ w. HasColour store colour (region p.outline facts method callers (facts.class method (Local k))) w)
      (sym (top_found (max_locals_of p method - 0) k v at)) tt;
  words = λ n v at. absurd (none n v at);
} where
  none : (n : ℕ) (v : Value) → slice_get {X = Value} [] n ≡ Some v → ⊥
  none n v at = absurd (cc)

pub starts_coloured : (p : Program) (facts : Facts) (store : Store) (colour : Colour) (methods : List ℕ) (frames : List Frame)
    → AreFramesColoured p.outline facts store colour frames → AreFramesColoured p.outline facts store colour (start_frames p methods ++ frames)
starts_coloured p facts store colour [] frames h = h
starts_coloured p facts store colour (method ∷ methods) frames h =
    (start_coloured p facts store colour method (start_frames p methods ++ frames), starts_coloured p facts store colour methods frames h)

-- a list without elements
pub no_words : (words : List Value) → length words ≡ 0 → words ≡ []
no_words [] h = refl
no_words (v ∷ words) h = absurd (omega arith)

-- ---- a call

module _ (p : Program) (facts : Facts) (exact : AreFacts p facts) (f : Frame) (callers : List Frame) (at : StandsAt p facts f) (store : Store) (colour : Colour) (coloured : IsFrameColoured p.outline facts store colour f callers) (method takes : ℕ) where
  -- the frame that called
  abbrev pub calling : Frame
  calling = record f { stack = drop takes f.stack }

  abbrev pub called : Frame
  called = new_frame p method (reverse (take takes f.stack))

  drop_is : length (drop takes f.stack) ≡ length f.stack - takes
  drop_is = length-drop takes f.stack

  pub calling_coloured : IsFrameColoured p.outline facts store colour calling callers
  calling_coloured = record {
    locals = coloured.locals;
    words = λ n v found.
        let there : slice_get f.stack (takes + n) ≡ Some v = drop_found takes f.stack n v found in
        let within : takes + n < length f.stack = slice_get_within f.stack (takes + n) v there in
        let count : length (drop takes f.stack) ≡ length f.stack - takes = drop_is in
        let level : length f.stack - 1 - (takes + n) ≡ length (drop takes f.stack) - 1 - n = omega arith in
        subst (λ depth. HasColour store colour (region p.outline facts f.method callers (facts.class f.method (Slot f.item depth))) v) level
        (coloured.words (takes + n) v there);
  }

  -- the word of an argument, by how many words lay below it
  level_is : (k : ℕ) → k < length (take takes f.stack)
      → length f.stack - 1 - (length (take takes f.stack) - 1 - k) ≡ length (drop takes f.stack) + k
  level_is k below =
      let count : length (take takes f.stack) ≡ min takes (length f.stack) = length-take takes f.stack in
      let left : length (drop takes f.stack) ≡ length f.stack - takes = drop_is in
      omega arith

  argument_coloured : (code : Code) → code_at p method ≡ Some code → Called p facts called calling → (k : ℕ) (v : Value)
      → slice_get (reverse (take takes f.stack)) k ≡ Some v
      → HasColour store colour (region p.outline facts method (calling ∷ callers) (facts.class method (Local k))) v
  argument_coloured code code_is h k v found =
      let there : (k < length (take takes f.stack)) × (slice_get f.stack (length (take takes f.stack) - 1 - k) ≡ Some v) =
      argument_found f.stack takes k v found in
      let level : length f.stack - 1 - (length (take takes f.stack) - 1 - k) ≡ length (drop takes f.stack) + k = level_is k there.0 in
      let node : node_of_word f (length (take takes f.stack) - 1 - k) ≡ argument calling k = ap (λ depth. Slot f.item depth) level in
      let same : at.code ≡ h.at.code = same_Some at.code h.at.code (sym at.code_is ∙ h.at.code_is) in
      has_if_reference store colour (region p.outline facts method (calling ∷ callers) (facts.class method (Local k))) v
      (λ leads.
      let before : IsNode (method_of p facts f at.code) (node_of_word f (length (take takes f.stack) - 1 - k)) =
      at.is_node (length (take takes f.stack) - 1 - k) v there.1 leads in
      let now : IsNode (method_of p facts calling h.at.code) (argument calling k) =
      same_node p facts f h.at.code at.code (argument calling k) same (subst (λ a. IsNode (method_of p facts f at.code) a) node before) in
      let ended : IsEnd p.outline method (end.Parameter k) = (h.arguments k).1 now in
      subst (λ r. HasColour store colour r v) (sym (region_call p facts exact called calling code code_is h callers k ended))
      (subst (λ a. HasColour store colour (region p.outline facts f.method callers (facts.class f.method a)) v) node
      (coloured.words (length (take takes f.stack) - 1 - k) v there.1)))

  pub called_coloured : (code : Code) → code_at p method ≡ Some code → Called p facts called calling
      → IsFrameColoured p.outline facts store colour called (calling ∷ callers)
  called_coloured code code_is h = record {
    locals = λ k v found live. ⊎_elim
        (λ front. argument_coloured code code_is h k v front.1)
        (λ back.
        subst (λ w. HasColour store colour (region p.outline facts method (calling ∷ callers) (facts.class method (Local k))) w)
        (sym (top_found (max_locals_of p method - length (reverse (take takes f.stack))) back.0 v back.2)) tt)
        (append_found (reverse (take takes f.stack))
        (replicate (max_locals_of p method - length (reverse (take takes f.stack))) value.Top) k v found);
    words = λ n v found. absurd (cc);
  }
