-- What rose at an item, place by place: which places the item's row leaves alone, and states that differ in such places only.
use Rattle.std.specs.Prelude.{◌≡◌, ℕ, ◌+◌, ◌/◌, ◌<◌, ◌⊎◌, ◌++◌, ◌&&◌, ◌||◌, not, nat_le, nat_lt, Bool, true, false, List, [], length, reverse, Option, Some, None, Contains, if◌then◌else◌}
use Rattle.std.specs.List.{filter, flat_map}
use Rattle.fm_types.specs.declared.known_state.SlotPlace.{SlotPlace}
use Rattle.fm_types.specs.declared.known_state.SlotPlace.TheVariants as place
use Rattle.fm_check_walk.specs.declared.risen.Rise.{Rise}
use Rattle.fm_code.specs.StackWords as insns
use Rattle.fm_code.specs.declared.instructions.Insn.{Insn}
use Rattle.fm_code.specs.declared.instructions.Insn.TheVariants as insn
use Rattle.fm_types.specs.Named.{parameters_of}
use Rattle.fm_types.specs.States.{local_at, local_slots, TypeState}
use Rattle.fm_types.specs.inner.Places.{slot_at}
use Rattle.fm_types.specs.declared.shared_slots.TheConstants.{PIECE_SLOTS}
use Rattle.fm_types.specs.declared.slots.Slot.{Slot}
use Rattle.fm_types.specs.declared.slots.Slot.TheVariants as slot
use Rattle.fm_world.specs.Programs.{Outline}
use Rattle.fm_world.specs.declared.uses.Use.{Use}
use Rattle.fm_world.specs.declared.uses.Use.TheVariants as resolved

-- ---- places of a state

-- the place is a local's
abbrev pub is_local : SlotPlace → Bool
is_local (place.Local k) = true
is_local (place.Word h) = false

-- a word of the stack that isn't known any longer: no long has it, so no typing does
abbrev pub is_lost : SlotPlace → Slot → Bool
is_lost (place.Local k) x = false
is_lost (place.Word h) slot.Top = true
is_lost (place.Word h) x = false

-- ---- which places a row leaves alone

-- an object that isn't initialised
abbrev pub is_bare : Slot → Bool
is_bare (slot.Uninit item) = true
is_bare slot.UninitThis = true
is_bare s = false

-- neither is the other one, or beside it
abbrev pub are_apart : ℕ → ℕ → Bool
are_apart k local = nat_lt (k + 1) local || nat_lt (local + 1) k

-- the row of the instruction neither looks at a local of this value nor changes it
abbrev pub leaves_local : Insn → ℕ → Slot → Bool
leaves_local (insn.Load kind local) k s = are_apart k local
leaves_local (insn.Store kind local) k s = are_apart k local
leaves_local (insn.Inc local by) k s = are_apart k local
leaves_local (insn.New index) k s = not (is_bare s)
leaves_local (insn.Special index) k s = not (is_bare s)
leaves_local i k s = true

-- no row of the instruction changes a word of this value that it doesn't take
abbrev pub leaves_word : Insn → Slot → Bool
leaves_word (insn.New index) s = not (is_bare s)
leaves_word (insn.Special index) s = not (is_bare s)
leaves_word i s = true

-- the words of a method's arguments, and of a receiver
abbrev pub called_words : Outline → Use → ℕ
called_words o (resolved.OfMethod m i) = length (flat_map local_slots (parameters_of o m.0)) + 1
called_words o u = 0

-- the words of the stack that the row of the instruction takes at most: a field's value has two words at most
abbrev pub words_taken : Outline → Use → Insn → ℕ
words_taken o u (insn.Virtual index) = called_words o u
words_taken o u (insn.Special index) = called_words o u
words_taken o u (insn.Static index) = called_words o u
words_taken o u (insn.Interface index) = called_words o u
words_taken o u i = insns.words_taken 2 0 i

-- the row neither looks at what is at a place nor changes it, where it takes no word below this number
abbrev pub leaves_alone : Insn → ℕ → SlotPlace → Slot → Bool
leaves_alone i below (place.Local k) s = leaves_local i k s
leaves_alone i below (place.Word h) s = nat_lt h below && leaves_word i s

-- what is at a place of the state
abbrev pub rise_of : TypeState → SlotPlace → Rise
rise_of s p = record { place = p; slot = slot_at s p }

-- what is in locals was put after others: in those that pass the first test, but maybe for some that pass the second one
pub record PutsLocals (P Q : ℕ → Type 0) (s : TypeState) (old new : List Rise) : Type 0 where
  pub still : (rise : Rise) → Contains old rise → Contains new rise
  pub only : (rise : Rise) → Contains new rise → Contains old rise ⊎ ((k : ℕ) × (rise_of s (place.Local k) ≡ rise))
  pub there : (k : ℕ) → P k → Contains new (rise_of s (place.Local k)) ⊎ Q k

-- it is this local, and one of a number of locals
pub record IsThisLocal (local count k : ℕ) : Type 0 where
  pub same : k ≡ local
  pub below : k < count

-- the local is in this piece, and one of a number of locals
pub record IsInPiece (piece count k : ℕ) : Type 0 where
  pub at : k / PIECE_SLOTS ≡ piece
  pub below : k < count

-- the same is in it as in another list
abbrev pub IsAsIn : List Slot → TypeState → ℕ → Type 0
IsAsIn others s k = local_at s.locals k ≡ local_at others k

-- what is in locals, of which there are a number, but for some in which the same is as in another list
abbrev pub AreBeside : ℕ → List Slot → TypeState → List Rise → Type 0
AreBeside count others s rises = PutsLocals (λ k. k < count) (IsAsIn others s) s [] rises

-- the same of a place at which something rose
abbrev pub IsLeftAlone : Insn → ℕ → Rise → Type 0
IsLeftAlone i below rise = leaves_alone i below rise.place rise.slot ≡ true

-- those of locals, which handlers get
abbrev pub locals_of : List Rise → List Rise
locals_of rises = filter (λ rise. is_local rise.place) rises

-- ---- states that differ in some places

-- as many slots: some are given, and the others are those at their places
pub record AreCarried (P : ℕ → Type 0) (holds : ℕ → Slot) (slots others : List Slot) : Type 0 where
  pub size : length slots ≡ length others
  pub among : (k : ℕ) → P k → local_at slots k ≡ holds k
  pub apart : (k : ℕ) → (P k → ⊥) → local_at slots k ≡ local_at others k

-- the same of the locals of two states, and of their words
pub record IsCarried (P : SlotPlace → Type 0) (holds : SlotPlace → Slot) (s other : TypeState) : Type 0 where
  pub locals : AreCarried (λ k. P (place.Local k)) (λ k. holds (place.Local k)) s.locals other.locals
  pub words : AreCarried (λ h. P (place.Word h)) (λ h. holds (place.Word h)) (reverse s.stack) (reverse other.stack)
  pub built : s.built ≡ other.built

-- states that are alike but for these places
abbrev pub IsAlikeBut : List SlotPlace → TypeState → TypeState → Type 0
IsAlikeBut places s other = IsCarried (λ p. Contains places p) (slot_at s) s other

-- lists differ in no other places
abbrev pub DifferIn : List ℕ → List Slot → List Slot → Type 0
DifferIn places slots others = (k : ℕ) → (Contains places k → ⊥) → local_at slots k ≡ local_at others k

-- the place is one of them, where the slots there aren't the same
pub record IsPlaced (place : ℕ) (slot other : Slot) (old new : List ℕ) : Type 0 where
  pub still : (k : ℕ) → Contains old k → Contains new k
  pub placed : (Contains new place → ⊥) → slot ≡ other

-- where places are given, the states are alike but for these
abbrev pub IsRisenIn : Option (List SlotPlace) → TypeState → TypeState → Type 0
IsRisenIn rose s other = (places : List SlotPlace) → rose ≡ Some places → IsAlikeBut places s other

-- ---- what rose at an item in all

-- the places at which something rose at first and then, unless more rose than these, or there are too many
abbrev pub noted : ℕ → Option (List SlotPlace) → Option (List SlotPlace) → Option (List SlotPlace)
noted most None rose = None
noted most (Some known) None = None
noted most (Some known) (Some more) = if nat_le most (length known) then None else Some (known ++ more)
