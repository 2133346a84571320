-- What rows require of the words that they look at, which typed code has there.
use Rattle.std.specs.Prelude.{◌≡◌, ◌≢◌, ℕ, ◌+◌, ℤ, Bool, true, false, List, [], ◌∷◌, Some, slice_get}
use Rattle.fm_base.specs.declared.kinds.Kind.{Kind}
use Rattle.fm_base.specs.declared.kinds.Kind.TheVariants as kind
use Rattle.fm_cells.specs.declared.answers.Cell.{Cell}
use Rattle.fm_code.specs.StackWords.{number_words, numbers_taken, takes_long}
use Rattle.fm_code.specs.declared.instructions.Insn.{Insn}
use Rattle.fm_code.specs.declared.instructions.Insn.TheVariants as insn
use Rattle.fm_code.specs.declared.operations.Conv.{Conv}
use Rattle.fm_code.specs.declared.operations.Elem.{Elem}
use Rattle.fm_code.specs.declared.operations.Elem.TheVariants as elem
use Rattle.fm_code.specs.declared.operations.Reg.{Reg}
use Rattle.fm_code.specs.declared.operations.Reg.TheVariants as reg
use Rattle.fm_frames.specs.States.{Frame, word_at}
use Rattle.fm_frames.specs.declared.values.Value.{Value}
use Rattle.fm_frames.specs.declared.values.Value.TheVariants as value
use Rattle.fm_frames.specs.inner.Frames.{locals_in, stack_in}

-- the word at a place of the stack, counted from the top, is an int
abbrev pub HasInt : List Frame → (place : ℕ) → Type 0
HasInt frames place = (n : ℤ) × (slice_get (stack_in frames) place ≡ Some (value.Int n))

-- it is a long
abbrev pub HasLong : List Frame → (place : ℕ) → Type 0
HasLong frames place = (n : ℤ) × (slice_get (stack_in frames) place ≡ Some (value.Long n))

-- it is a reference
abbrev pub HasReference : List Frame → (place : ℕ) → Type 0
HasReference frames place = (cell : Cell) × (slice_get (stack_in frames) place ≡ Some (value.Ref cell))

-- there is a word
abbrev pub HasWord : List Frame → (place : ℕ) → Type 0
HasWord frames place = (v : Value) × (slice_get (stack_in frames) place ≡ Some v)

-- the local has a value of its own
abbrev pub HasLocal : List Frame → (place : ℕ) → Type 0
HasLocal frames place = word_at (locals_in frames) place ≢ value.Top

-- the local is an int
abbrev pub HasIntLocal : List Frame → (place : ℕ) → Type 0
HasIntLocal frames place = (n : ℤ) × (word_at (locals_in frames) place ≡ value.Int n)

-- the local is a reference
abbrev pub HasReferenceLocal : List Frame → (place : ℕ) → Type 0
HasReferenceLocal frames place = (cell : Cell) × (word_at (locals_in frames) place ≡ value.Ref cell)

-- what a load of a kind requires of its local (JVMS 6.5.iload, 6.5.lload, 6.5.aload)
abbrev pub HasLocalOf : Reg → List Frame → (place : ℕ) → Type 0
HasLocalOf reg.Int frames place = HasIntLocal frames place
HasLocalOf reg.Long frames place = HasLocal frames place
HasLocalOf reg.Ref frames place = HasReferenceLocal frames place

-- what a store of a kind requires of the stack (JVMS 6.5.istore, 6.5.lstore, 6.5.astore)
abbrev pub HasWordOf : Reg → List Frame → Type 0
HasWordOf reg.Int frames = HasInt frames 0
HasWordOf reg.Long frames = HasLong frames 1
HasWordOf reg.Ref frames = HasReference frames 0

-- there is a long whose second half is at the place, or an int there
abbrev pub HasNumber : (is_long : Bool) → List Frame → (place : ℕ) → Type 0
HasNumber true frames place = HasLong frames (place + 1)
HasNumber false frames place = HasInt frames place

-- there are these numbers from the place on
abbrev pub HasNumbers : (longs : List Bool) → List Frame → (place : ℕ) → Type 0
HasNumbers [] frames place = Unit {0}
HasNumbers (is_long ∷ []) frames place = HasNumber is_long frames place
HasNumbers (is_long ∷ next ∷ more) frames place = HasNumbers (next ∷ more) frames (place + number_words is_long) × HasNumber is_long frames place

-- what a conversion requires (JVMS 6.5.i2l and its like)
abbrev pub AsksOfConversion : Conv → List Frame → Type 0
AsksOfConversion to frames = HasNumber (takes_long to) frames 0

-- what a store into an array requires: the array, an index and a number; one into an array of
-- references requires nothing (JVMS 6.5.iastore and its like)
abbrev pub AsksOfStore : Elem → List Frame → Type 0
AsksOfStore elem.Long frames = HasReference frames 3 × HasInt frames 2 × HasLong frames 1
AsksOfStore elem.Ref frames = Unit {0}
AsksOfStore e frames = HasReference frames 2 × HasInt frames 1 × HasInt frames 0

-- what putfield requires where the field is of the kind: an object below a value of the kind (JVMS
-- 6.5.putfield)
abbrev pub AsksOfPut : Kind → List Frame → Type 0
AsksOfPut kind.Long frames = HasReference frames 2 × HasLong frames 1
AsksOfPut (kind.Ref t) frames = HasReference frames 1 × HasReference frames 0
AsksOfPut k frames = HasReference frames 1 × HasInt frames 0

-- what the row of an instruction requires of the topmost frame (JVMS 4.9.2)
abbrev pub AsksOf : Insn → List Frame → Type 0
AsksOf (insn.Load kind place) frames = HasLocalOf kind frames place
AsksOf (insn.Store kind place) frames = HasWordOf kind frames
AsksOf (insn.Inc place by) frames = HasIntLocal frames place
AsksOf insn.Dup frames = HasWord frames 0
AsksOf (insn.IfInt test target) frames = HasInt frames 0
AsksOf (insn.IfPair test target) frames = HasInt frames 1 × HasInt frames 0
AsksOf (insn.IfSame same target) frames = HasReference frames 1 × HasReference frames 0
AsksOf (insn.IfNull null target) frames = HasReference frames 0
AsksOf (insn.GetField index) frames = HasReference frames 0
AsksOf (insn.ArrayLoad e) frames = HasReference frames 1 × HasInt frames 0
AsksOf (insn.ArrayStore e) frames = AsksOfStore e frames
AsksOf insn.Length frames = HasReference frames 0
AsksOf i frames = HasNumbers (numbers_taken i) frames 0
