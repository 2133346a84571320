-- Only the rows of switches in the instruction table read a switch.
use Rattle.std.proofs.Common.{◌≡◌, ℕ, zero, suc, ◌==◌, ◌||◌, ◌⊎◌, inl, inr, Bool, true, false, List, [], ◌∷◌, ◌++◌, map, length, Option, Some, None, refl, ap, pos, negsuc, if◌then◌else◌}
use Rattle.std.specs.Prelude.{ℤ, ◌+ℤ◌}
use Rattle.std.specs.List.{AllByRecursion}
use Rattle.fm_base.proofs.ListFacts.{AllByRecursion-append, AllByRecursion-get_or}
use Rattle.fm_code.specs.InstructionTable.{Reading, Row, constants_and_loads, stores_and_stack, arithmetic, control_and_objects, rows, reading_of, malformed, jump, jump_to, long_jump, left_out, switch, table_switch, lookup_switch, interface_call, array_of_arrays, new_array, new_array_of, wide}
use Rattle.fm_code.specs.Numbers.{number_of_two, signed_two, signed_four_of}
use Rattle.fm_code.specs.declared.opcodes.TheConstants as opcodes
use Rattle.fm_code.specs.declared.instructions.Insn.{Insn}
use Rattle.fm_code.specs.declared.instructions.Insn.TheVariants as insn
use Rattle.fm_code.specs.declared.operations.Test.TheVariants as test
use Rattle.fm_layout.proofs.StillLemmas.{All-mapped}

abbrev pub is_switch : Insn → Bool
is_switch (insn.Table low others targets) = true
is_switch (insn.Lookup others keys targets) = true
is_switch i = false

-- what was read is a switch
abbrev gives_switch : Option Insn → Bool
gives_switch None = false
gives_switch (Some i) = is_switch i

infixr 45 ◌also◌
-- a row's fact in front of those of the later ones
◌also◌ : {A B : Type 0} → A → B → A × B
a also b = (a, b)

-- ---- readings that never give a switch

abbrev NoSwitch : Reading → Type 0
NoSwitch reading = (o : ℕ) (x : List ℕ) → gives_switch (reading o x) ≡ false

-- whether a switch is given, by how many operand bytes there are
abbrev Answers : Type 0
Answers = (ℕ → Bool) × (ℕ → ℕ → Bool) × (ℕ → ℕ → ℕ → Bool) × (ℕ → ℕ → ℕ → ℕ → Bool) × (ℕ → ℕ → ℕ → ℕ → ℕ → Bool) × (ℕ → ℕ → ℕ → ℕ → ℕ → ℕ → List ℕ → Bool)

abbrev answers : Reading → Answers
answers reading = (
  λ o. gives_switch (reading o []),
  λ o a. gives_switch (reading o (a ∷ [])),
  λ o a b. gives_switch (reading o (a ∷ b ∷ [])),
  λ o a b c. gives_switch (reading o (a ∷ b ∷ c ∷ [])),
  λ o a b c d. gives_switch (reading o (a ∷ b ∷ c ∷ d ∷ [])),
  λ o a b c d e x. gives_switch (reading o (a ∷ b ∷ c ∷ d ∷ e ∷ x)),
)

abbrev never : Answers
never = (λ o. false, λ o a. false, λ o a b. false, λ o a b c. false, λ o a b c d. false, λ o a b c d e x. false)

no_switch : (reading : Reading) → answers reading ≡ never → NoSwitch reading
no_switch reading e o [] = ap (λ (s : Answers). s.0 o) e
no_switch reading e o (a ∷ []) = ap (λ (s : Answers). s.1 o a) e
no_switch reading e o (a ∷ b ∷ []) = ap (λ (s : Answers). s.2 o a b) e
no_switch reading e o (a ∷ b ∷ c ∷ []) = ap (λ (s : Answers). s.3 o a b c) e
no_switch reading e o (a ∷ b ∷ c ∷ d ∷ []) = ap (λ (s : Answers). s.4 o a b c d) e
no_switch reading e o (a ∷ b ∷ c ∷ d ∷ f ∷ x) = ap (λ (s : Answers). s.5 o a b c d f x) e

either : (t : Bool) (p q : Option Insn) → gives_switch p ≡ false → gives_switch q ≡ false → gives_switch (if t then p else q) ≡ false
either true p q first second = first
either false p q first second = second

-- ---- rows

-- what reads a switch is one of the two readings
abbrev pub IsKnown : Reading → Type 0
IsKnown reading = (o : ℕ) (x : List ℕ) (i : Insn) → reading o x ≡ Some i → is_switch i ≡ true → (reading ≡ switch table_switch) ⊎ (reading ≡ switch lookup_switch)

abbrev RowIsKnown : Row → Type 0
RowIsKnown row = IsKnown row.1

known_from : {reading : Reading} → NoSwitch reading → IsKnown reading
known_from none o x i e known = let other = none o x in let here = ap gives_switch e in absurd (cc)

plain : {reading : Reading} → answers reading ≡ never → IsKnown reading
plain {reading} e = known_from (no_switch reading e)

-- an instruction that is left out is no switch
left_out_known : (opcode count : ℕ) → IsKnown (left_out opcode count)
left_out_known opcode count = known_from {reading = left_out opcode count} (λ o x. either (length x == count) (Some (insn.LeftOut opcode)) None refl refl)

jumped_to : (f : ℕ → Insn) (z : ℤ) → ((t : ℕ) → is_switch (f t) ≡ false) → gives_switch (jump_to f z) ≡ false
jumped_to f (pos t) none = none t
jumped_to f (negsuc n) none = refl

branch_row : (f : ℕ → Insn) → ((t : ℕ) → is_switch (f t) ≡ false) → IsKnown (jump f)
branch_row f none = known_from no_switches where
  no_switches : NoSwitch (jump f)
  no_switches o [] = refl
  no_switches o (a ∷ []) = refl
  no_switches o (a ∷ b ∷ []) = jumped_to f (pos o +ℤ signed_two a b) none
  no_switches o (a ∷ b ∷ c ∷ x) = refl

long_branch_row : (f : ℕ → Insn) → ((t : ℕ) → is_switch (f t) ≡ false) → IsKnown (long_jump f)
long_branch_row f none = known_from no_switches where
  no_switches : NoSwitch (long_jump f)
  no_switches o [] = refl
  no_switches o (a ∷ []) = refl
  no_switches o (a ∷ b ∷ []) = refl
  no_switches o (a ∷ b ∷ c ∷ []) = refl
  no_switches o (a ∷ b ∷ c ∷ d ∷ []) = jumped_to f (pos o +ℤ signed_four_of a b c d) none
  no_switches o (a ∷ b ∷ c ∷ d ∷ e ∷ x) = refl

no_switch-interface_call : NoSwitch interface_call
no_switch-interface_call o [] = refl
no_switch-interface_call o (a ∷ []) = refl
no_switch-interface_call o (a ∷ b ∷ []) = refl
no_switch-interface_call o (a ∷ b ∷ c ∷ []) = refl
no_switch-interface_call o (a ∷ b ∷ c ∷ zero ∷ []) = refl
no_switch-interface_call o (a ∷ b ∷ c ∷ zero ∷ e ∷ x) = refl
no_switch-interface_call o (a ∷ b ∷ c ∷ suc d ∷ x) = refl

no_switch-array_of_arrays : NoSwitch array_of_arrays
no_switch-array_of_arrays o [] = refl
no_switch-array_of_arrays o (a ∷ []) = refl
no_switch-array_of_arrays o (a ∷ b ∷ []) = refl
no_switch-array_of_arrays o (a ∷ b ∷ zero ∷ x) = refl
no_switch-array_of_arrays o (a ∷ b ∷ suc c ∷ []) = refl
no_switch-array_of_arrays o (a ∷ b ∷ suc c ∷ d ∷ x) = refl

no_switch-new_array : NoSwitch new_array
no_switch-new_array o [] = refl
no_switch-new_array o (kind ∷ []) =
    AllByRecursion-get_or (λ (found : Option Insn). gives_switch found ≡ false) new_array_of None
    (refl also refl also refl also refl also refl also refl also refl also refl also refl also refl also refl also refl also tt) refl kind
no_switch-new_array o (a ∷ b ∷ x) = refl

no_switch-wide : NoSwitch wide
no_switch-wide o [] = refl
no_switch-wide o (a ∷ []) = refl
no_switch-wide o (a ∷ b ∷ []) = refl
no_switch-wide o (op ∷ a ∷ b ∷ []) =
    let n = number_of_two a b in
    either (op == opcodes.ILOAD) _ _ refl (either (op == opcodes.LLOAD) _ _ refl (either (op == opcodes.ALOAD) _ _ refl (either (op == opcodes.ISTORE) _ _ refl
    (either (op == opcodes.LSTORE) _ _ refl (either (op == opcodes.ASTORE) _ _ refl
    (either ((op == opcodes.FLOAD) || (op == opcodes.DLOAD) || (op == opcodes.FSTORE) || (op == opcodes.DSTORE) || (op == opcodes.RET)) _ _ refl refl))))))
no_switch-wide o (op ∷ a ∷ b ∷ c ∷ []) = refl
no_switch-wide o (op ∷ a ∷ b ∷ c ∷ d ∷ []) = either (op == opcodes.IINC) _ _ refl refl
no_switch-wide o (op ∷ a ∷ b ∷ c ∷ d ∷ e ∷ x) = refl

-- ---- the table

IsKnown-constants_and_loads : AllByRecursion RowIsKnown constants_and_loads
IsKnown-constants_and_loads =
    plain refl also plain refl also plain refl also plain refl also plain refl also plain refl also plain refl also plain refl also plain refl also
    plain refl also plain refl also left_out_known opcodes.FCONST_0 0 also left_out_known opcodes.FCONST_1 0 also
    left_out_known opcodes.FCONST_2 0 also left_out_known opcodes.DCONST_0 0 also left_out_known opcodes.DCONST_1 0 also plain refl also
    plain refl also plain refl also plain refl also plain refl also plain refl also plain refl also left_out_known opcodes.FLOAD 1 also
    left_out_known opcodes.DLOAD 1 also plain refl also plain refl also plain refl also plain refl also plain refl also plain refl also
    plain refl also plain refl also plain refl also left_out_known opcodes.FLOAD_0 0 also left_out_known opcodes.FLOAD_1 0 also
    left_out_known opcodes.FLOAD_2 0 also left_out_known opcodes.FLOAD_3 0 also left_out_known opcodes.DLOAD_0 0 also
    left_out_known opcodes.DLOAD_1 0 also left_out_known opcodes.DLOAD_2 0 also left_out_known opcodes.DLOAD_3 0 also plain refl also plain refl also
    plain refl also plain refl also plain refl also plain refl also left_out_known opcodes.FALOAD 0 also left_out_known opcodes.DALOAD 0 also
    plain refl also plain refl also plain refl also plain refl also tt

IsKnown-stores_and_stack : AllByRecursion RowIsKnown stores_and_stack
IsKnown-stores_and_stack =
    plain refl also plain refl also left_out_known opcodes.FSTORE 1 also left_out_known opcodes.DSTORE 1 also plain refl also plain refl also
    plain refl also plain refl also plain refl also plain refl also plain refl also plain refl also plain refl also
    left_out_known opcodes.FSTORE_0 0 also left_out_known opcodes.FSTORE_1 0 also left_out_known opcodes.FSTORE_2 0 also
    left_out_known opcodes.FSTORE_3 0 also left_out_known opcodes.DSTORE_0 0 also left_out_known opcodes.DSTORE_1 0 also
    left_out_known opcodes.DSTORE_2 0 also left_out_known opcodes.DSTORE_3 0 also plain refl also plain refl also plain refl also plain refl also
    plain refl also plain refl also left_out_known opcodes.FASTORE 0 also left_out_known opcodes.DASTORE 0 also plain refl also plain refl also
    plain refl also plain refl also plain refl also plain refl also plain refl also plain refl also plain refl also plain refl also plain refl also
    plain refl also plain refl also tt

IsKnown-arithmetic : AllByRecursion RowIsKnown arithmetic
IsKnown-arithmetic =
    plain refl also plain refl also left_out_known opcodes.FADD 0 also left_out_known opcodes.DADD 0 also plain refl also plain refl also
    left_out_known opcodes.FSUB 0 also left_out_known opcodes.DSUB 0 also plain refl also plain refl also left_out_known opcodes.FMUL 0 also
    left_out_known opcodes.DMUL 0 also plain refl also plain refl also left_out_known opcodes.FDIV 0 also left_out_known opcodes.DDIV 0 also
    plain refl also plain refl also left_out_known opcodes.FREM 0 also left_out_known opcodes.DREM 0 also plain refl also plain refl also
    left_out_known opcodes.FNEG 0 also left_out_known opcodes.DNEG 0 also plain refl also plain refl also plain refl also plain refl also
    plain refl also plain refl also plain refl also plain refl also plain refl also plain refl also plain refl also plain refl also plain refl also
    plain refl also left_out_known opcodes.I2F 0 also left_out_known opcodes.I2D 0 also plain refl also left_out_known opcodes.L2F 0 also
    left_out_known opcodes.L2D 0 also left_out_known opcodes.F2I 0 also left_out_known opcodes.F2L 0 also left_out_known opcodes.F2D 0 also
    left_out_known opcodes.D2I 0 also left_out_known opcodes.D2L 0 also left_out_known opcodes.D2F 0 also plain refl also plain refl also
    plain refl also plain refl also left_out_known opcodes.FCMPL 0 also left_out_known opcodes.FCMPG 0 also left_out_known opcodes.DCMPL 0 also
    left_out_known opcodes.DCMPG 0 also tt

IsKnown-control_and_objects : AllByRecursion RowIsKnown control_and_objects
IsKnown-control_and_objects =
    branch_row (insn.IfInt test.Eq) (λ t. refl) also branch_row (insn.IfInt test.Ne) (λ t. refl) also
    branch_row (insn.IfInt test.Lt) (λ t. refl) also branch_row (insn.IfInt test.Ge) (λ t. refl) also
    branch_row (insn.IfInt test.Gt) (λ t. refl) also branch_row (insn.IfInt test.Le) (λ t. refl) also
    branch_row (insn.IfPair test.Eq) (λ t. refl) also branch_row (insn.IfPair test.Ne) (λ t. refl) also
    branch_row (insn.IfPair test.Lt) (λ t. refl) also branch_row (insn.IfPair test.Ge) (λ t. refl) also
    branch_row (insn.IfPair test.Gt) (λ t. refl) also branch_row (insn.IfPair test.Le) (λ t. refl) also
    branch_row (insn.IfSame true) (λ t. refl) also branch_row (insn.IfSame false) (λ t. refl) also branch_row insn.Goto (λ t. refl) also
    left_out_known opcodes.JSR 2 also left_out_known opcodes.RET 1 also (λ o x i e known. inl refl) also (λ o x i e known. inr refl) also
    plain refl also plain refl also left_out_known opcodes.FRETURN 0 also left_out_known opcodes.DRETURN 0 also plain refl also plain refl also
    plain refl also plain refl also plain refl also plain refl also plain refl also plain refl also plain refl also
    known_from no_switch-interface_call also left_out_known opcodes.INVOKEDYNAMIC 4 also plain refl also known_from no_switch-new_array also plain refl also plain refl also
    plain refl also plain refl also plain refl also left_out_known opcodes.MONITORENTER 0 also left_out_known opcodes.MONITOREXIT 0 also
    known_from no_switch-wide also known_from no_switch-array_of_arrays also branch_row (insn.IfNull true) (λ t. refl) also
    branch_row (insn.IfNull false) (λ t. refl) also long_branch_row insn.Goto (λ t. refl) also left_out_known opcodes.JSR_W 4 also tt

IsKnown-rows : AllByRecursion RowIsKnown rows
IsKnown-rows =
    AllByRecursion-append RowIsKnown ((constants_and_loads ++ stores_and_stack) ++ arithmetic) control_and_objects
    (AllByRecursion-append RowIsKnown (constants_and_loads ++ stores_and_stack) arithmetic
    (AllByRecursion-append RowIsKnown constants_and_loads stores_and_stack IsKnown-constants_and_loads IsKnown-stores_and_stack) IsKnown-arithmetic)
    IsKnown-control_and_objects

-- the reading of an opcode that gives a switch is that of a tableswitch or of a lookupswitch
pub switch_known : (opcode : ℕ) → IsKnown (reading_of opcode)
switch_known opcode =
    AllByRecursion-get_or IsKnown (map (λ (row : Row). row.1) rows) malformed (All-mapped IsKnown (λ (row : Row). row.1) rows IsKnown-rows) (plain refl) opcode
