-- The rows of jumps, switches, returns and athrow (JVMS 6.5).
use Rattle.std.specs.Prelude.{ℕ, ◌+◌, ℤ, pos, ◌+ℤ◌, ◌-ℤ◌, int_lt, int_le, not, Bool, List, take, position, Option, Some, None, unsigned_abs, if◌then◌else◌, ◌||◌}
use Rattle.std.specs.Ordering.{int_eq}
use Rattle.fm_code.specs.declared.operations.Reg.{Reg}
use Rattle.fm_code.specs.declared.operations.Reg.TheVariants as reg
use Rattle.fm_code.specs.declared.operations.Test.{Test}
use Rattle.fm_code.specs.declared.operations.Test.TheVariants.{Eq, Ne, Lt, Ge, Gt, Le}
use Rattle.fm_types.specs.Named.{throwable_type}
use Rattle.fm_world.specs.Programs.{Outline}
use Rattle.fm_frames.specs.Effects.{Effect, Next, Falls, Jumps, JumpsIfSame, Returns, Throws, OfOperand, going}
use Rattle.fm_frames.specs.Operands.{on_int, on_object, on_reference}
use Rattle.fm_frames.specs.Sights.{Sight}

-- ---- tests

-- whether two numbers pass a test (JVMS 6.5.if_icmp)
abbrev pub holds : Test → ℤ → ℤ → Bool
holds Eq a b = int_eq a b
holds Ne a b = not (int_eq a b)
holds Lt a b = int_lt a b
holds Ge a b = int_le b a
holds Gt a b = int_lt b a
holds Le a b = int_le a b

-- to the one target, or on
abbrev pub jumps_if : Bool → Next
jumps_if taken = if taken then Jumps 0 else Falls

-- what ifeq and its like do: the int on top is compared with 0 (JVMS 6.5)
unfoldable pub int_jump_effect : Test → List Sight → Effect
int_jump_effect test s = on_int s 0 (λ a. going 1 (jumps_if (holds test a (pos 0))))

-- what if_icmpeq and its like do: two ints are compared, the second one on top (JVMS 6.5)
unfoldable pub pair_jump_effect : Test → List Sight → Effect
pair_jump_effect test s = on_int s 0 (λ b. on_int s 1 (λ a. going 2 (jumps_if (holds test a b))))

-- two references are compared and not looked at
abbrev pub same_jump_effect : Bool → Effect
same_jump_effect same = going 2 (JumpsIfSame same)

-- what ifnull and ifnonnull do (JVMS 6.5)
unfoldable pub null_jump_effect : Bool → List Sight → Effect
null_jump_effect null s = on_reference s 0 (λ is_null. going 1 (jumps_if (if null then is_null else not is_null)))

-- ---- switches: target 0 is that of all other keys

-- a tableswitch has a target for each key from its least one on
abbrev pub table_target : ℤ → ℕ → ℤ → ℕ
table_target low count key = if int_lt key low || int_le (low +ℤ pos count) key then 0 else unsigned_abs (key -ℤ low) + 1

-- what tableswitch does (JVMS 6.5)
unfoldable pub table_effect : ℤ → ℕ → List Sight → Effect
table_effect low count s = on_int s 0 (λ key. going 1 (Jumps (table_target low count key)))

-- a lookupswitch has one for each of its keys: target 1 for the first of them
abbrev pub key_target : Option ℕ → ℕ
key_target None = 0
key_target (Some place) = place + 1

-- of this many targets: the key is looked for among as many of the first keys, so that none is
-- taken that has no target
unfoldable pub lookup_effect : List ℤ → ℕ → List Sight → Effect
lookup_effect keys count s = on_int s 0 (λ key. going 1 (Jumps (key_target (position (int_eq key) (take count keys)))))

-- ---- returns and athrow

-- the words that a return gives to the caller
unfoldable pub return_effect : Option Reg → Effect
return_effect None = going 0 (Returns 0)
return_effect (Some reg.Int) = going 0 (Returns 1)
return_effect (Some reg.Long) = going 0 (Returns 2)
return_effect (Some reg.Ref) = going 0 (Returns 1)

-- what athrow does (JVMS 6.5)
unfoldable pub throw_effect : Outline → List Sight → Effect
throw_effect o s = on_object o (throwable_type o) s 0 (λ it. going 0 (Throws (OfOperand 0)))
