-- The flags of classes, fields and methods (JVMS 4.1, 4.5, 4.6).
use Rattle.std.specs.Prelude.{ℕ, ◌==◌, ◌&&◌, not, Bool, bit_and}
use Rattle.fm_code.specs.declared.access_flags.TheConstants.{ACC_PUBLIC, ACC_PRIVATE, ACC_PROTECTED, ACC_STATIC, ACC_NATIVE, ACC_INTERFACE, ACC_ABSTRACT}

-- whether the flag of that mask is set
abbrev pub has_flag : ℕ → ℕ → Bool
has_flag flags mask = not (bit_and flags mask == 0)

-- ACC_PUBLIC (JVMS 4.6)
abbrev pub is_public : ℕ → Bool
is_public flags = has_flag flags ACC_PUBLIC

-- ACC_PRIVATE (JVMS 4.6)
abbrev pub is_private : ℕ → Bool
is_private flags = has_flag flags ACC_PRIVATE

-- ACC_PROTECTED (JVMS 4.6)
abbrev pub is_protected : ℕ → Bool
is_protected flags = has_flag flags ACC_PROTECTED

-- neither ACC_PUBLIC, ACC_PROTECTED nor ACC_PRIVATE: for classes of its own package (JVMS 4.6)
abbrev pub is_package_private : ℕ → Bool
is_package_private flags = not (is_public flags) && (not (is_protected flags) && not (is_private flags))

-- ACC_STATIC (JVMS 4.5, 4.6)
abbrev pub is_static : ℕ → Bool
is_static flags = has_flag flags ACC_STATIC

-- ACC_NATIVE (JVMS 4.6)
abbrev pub is_native : ℕ → Bool
is_native flags = has_flag flags ACC_NATIVE

-- ACC_INTERFACE (JVMS 4.1)
abbrev pub is_interface : ℕ → Bool
is_interface flags = has_flag flags ACC_INTERFACE

-- ACC_ABSTRACT (JVMS 4.1, 4.6)
abbrev pub is_abstract : ℕ → Bool
is_abstract flags = has_flag flags ACC_ABSTRACT
