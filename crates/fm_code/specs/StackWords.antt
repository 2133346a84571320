-- How many words instructions take off the operand stack (JVMS 2.6.2, 6.5).
use Rattle.std.specs.Prelude.{ℕ, ◌+◌, Bool, true, false, List, [], ◌∷◌, Some, None}
use Rattle.fm_code.specs.declared.instructions.Insn.{Insn}
use Rattle.fm_code.specs.declared.instructions.Insn.TheVariants as insn
use Rattle.fm_code.specs.declared.operations.Conv.{Conv}
use Rattle.fm_code.specs.declared.operations.Conv.TheVariants as conv
use Rattle.fm_code.specs.declared.operations.Elem.{Elem}
use Rattle.fm_code.specs.declared.operations.Elem.TheVariants as elem
use Rattle.fm_code.specs.declared.operations.Reg.{Reg}
use Rattle.fm_code.specs.declared.operations.Reg.TheVariants as reg

-- the words of a value (JVMS 2.11.1)
abbrev pub reg_words : Reg → ℕ
reg_words reg.Int = 1
reg_words reg.Long = 2
reg_words reg.Ref = 1

-- the words of an array's element (JVMS 6.5.iaload and its like)
abbrev pub element_words : Elem → ℕ
element_words elem.Boolean = 1
element_words elem.Byte = 1
element_words elem.Char = 1
element_words elem.Short = 1
element_words elem.Int = 1
element_words elem.Long = 2
element_words elem.Ref = 1

-- the words of a long, or of an int
abbrev pub number_words : (is_long : Bool) → ℕ
number_words true = 2
number_words false = 1

-- whether a conversion takes a long, and not an int (JVMS 6.5.i2l and its like)
abbrev pub takes_long : Conv → Bool
takes_long conv.IntToLong = false
takes_long conv.LongToInt = true
takes_long conv.IntToByte = false
takes_long conv.IntToChar = false
takes_long conv.IntToShort = false

-- whether a conversion gives a long, and not an int (JVMS 6.5.i2l and its like)
abbrev pub gives_long : Conv → Bool
gives_long conv.IntToLong = true
gives_long conv.LongToInt = false
gives_long conv.IntToByte = false
gives_long conv.IntToChar = false
gives_long conv.IntToShort = false

-- the numbers that an instruction computes with, from the top of the stack: whether each is a long. Others than instructions that take
-- numbers, give one and do nothing else have none here (JVMS 6.5.iadd and its like)
abbrev pub numbers_taken : Insn → List Bool
numbers_taken (insn.IntOp op) = false ∷ false ∷ []
numbers_taken (insn.LongOp op) = true ∷ true ∷ []
numbers_taken insn.IntNeg = false ∷ []
numbers_taken insn.LongNeg = true ∷ []
numbers_taken (insn.IntShift shift) = false ∷ false ∷ []
numbers_taken (insn.LongShift shift) = false ∷ true ∷ []
numbers_taken (insn.Convert to) = takes_long to ∷ []
numbers_taken insn.LongCompare = true ∷ true ∷ []
numbers_taken i = []

-- whether the number that such an instruction gives is a long
abbrev pub number_given : Insn → Bool
number_given (insn.IntOp op) = false
number_given (insn.LongOp op) = true
number_given insn.IntNeg = false
number_given insn.LongNeg = true
number_given (insn.IntShift shift) = false
number_given (insn.LongShift shift) = true
number_given (insn.Convert to) = gives_long to
number_given i = false

-- the words that an instruction takes, where the value of the field that it names has `field` words, and the arguments of the method that it
-- names have `arguments` words with the receiver
abbrev pub words_taken : ℕ → ℕ → Insn → ℕ
words_taken field arguments insn.Nop = 0
words_taken field arguments insn.Null = 0
words_taken field arguments (insn.Const value) = 0
words_taken field arguments (insn.LongConst value) = 0
words_taken field arguments (insn.LoadPool index) = 0
words_taken field arguments (insn.Load kind local) = 0
words_taken field arguments (insn.Store kind local) = reg_words kind
words_taken field arguments (insn.Inc local by) = 0
words_taken field arguments insn.Pop = 1
words_taken field arguments insn.Pop2 = 2
words_taken field arguments insn.Dup = 1
words_taken field arguments insn.DupX1 = 2
words_taken field arguments insn.DupX2 = 3
words_taken field arguments insn.Dup2 = 2
words_taken field arguments insn.Dup2X1 = 3
words_taken field arguments insn.Dup2X2 = 4
words_taken field arguments insn.Swap = 2
words_taken field arguments (insn.IntOp op) = 2
words_taken field arguments (insn.LongOp op) = 4
words_taken field arguments insn.IntNeg = 1
words_taken field arguments insn.LongNeg = 2
words_taken field arguments (insn.IntShift shift) = 2
words_taken field arguments (insn.LongShift shift) = 3
words_taken field arguments (insn.Convert to) = number_words (takes_long to)
words_taken field arguments insn.LongCompare = 4
words_taken field arguments (insn.IfInt test target) = 1
words_taken field arguments (insn.IfPair test target) = 2
words_taken field arguments (insn.IfSame same target) = 2
words_taken field arguments (insn.IfNull null target) = 1
words_taken field arguments (insn.Goto target) = 0
words_taken field arguments (insn.Table low others targets) = 1
words_taken field arguments (insn.Lookup others keys targets) = 1
words_taken field arguments (insn.Return None) = 0
words_taken field arguments (insn.Return (Some kind)) = reg_words kind
words_taken field arguments insn.Throw = 1
words_taken field arguments (insn.New index) = 0
words_taken field arguments (insn.GetStatic index) = 0
words_taken field arguments (insn.PutStatic index) = field
words_taken field arguments (insn.GetField index) = 1
words_taken field arguments (insn.PutField index) = 1 + field
words_taken field arguments (insn.Cast index) = 1
words_taken field arguments (insn.IsA index) = 1
words_taken field arguments (insn.ArrayLoad e) = 2
words_taken field arguments (insn.ArrayStore e) = element_words e + 2
words_taken field arguments insn.Length = 1
words_taken field arguments (insn.NewArray e) = 1
words_taken field arguments (insn.NewRefs index) = 1
words_taken field arguments (insn.MultiArray index dimensions) = dimensions
words_taken field arguments (insn.Virtual index) = arguments
words_taken field arguments (insn.Interface index) = arguments
words_taken field arguments (insn.Special index) = arguments
words_taken field arguments (insn.Static index) = arguments
words_taken field arguments (insn.LeftOut opcode) = 0
