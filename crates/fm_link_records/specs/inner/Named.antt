-- What files name, by the numbers of texts.
use Rattle.std.specs.Prelude.{ℕ, List, Option, None, option_and_then}
use Rattle.std.specs.List.{filter_map, slice_index_or}
use Rattle.std.specs.Option.{option_map}
use Rattle.fm_base.specs.declared.kinds.TypeRef.{TypeRef}
use Rattle.fm_code.specs.ConstantPool.{entry_at}
use Rattle.fm_code.specs.declared.constant_pool.Entry.{Entry}
use Rattle.fm_code.specs.declared.constant_pool.Entry.TheVariants as entry
use Rattle.fm_code.specs.declared.instructions.Insn.{Insn}
use Rattle.fm_code.specs.declared.instructions.Insn.TheVariants as insn
use Rattle.fm_link_names.specs.declared.given.GivenFile.{GivenFile}
use Rattle.fm_link_names.specs.inner.Files.{named_class_in, text_in}
use Rattle.fm_world.specs.Uses.{array_of, base_of_elem, class_items, uses_in_order}

-- the type that an index names, where the table has the type that each text names
abbrev pub type_at : List (Option TypeRef) → GivenFile → ℕ → Option TypeRef
type_at types file index = option_and_then (λ name. slice_index_or types name None) (named_class_in file index)

-- the number of the text that a String entry names
abbrev pub text_of_entry : GivenFile → Entry → Option ℕ
text_of_entry file (entry.Text text) = text_in file text
text_of_entry file e = None

-- the same of an index
abbrev pub text_at : GivenFile → ℕ → Option ℕ
text_at file index = text_of_entry file (entry_at file.class.now.pool.entries index)

-- the array that an instruction makes, beside the one that a multianewarray names
abbrev pub made_at : List (Option TypeRef) → GivenFile → Insn → Option TypeRef
made_at types file (insn.NewArray e) = option_map (λ b. record { dims = 1; base = b }) (base_of_elem e)
made_at types file (insn.NewRefs index) = option_and_then array_of (type_at types file index)
made_at types file i = None

-- the types that the uses of a file name
abbrev pub types_named : List (Option TypeRef) → GivenFile → List TypeRef
types_named types file = filter_map (type_at types file) (uses_in_order file.class.now)

-- the texts that the uses of a file name
abbrev pub texts_named : GivenFile → List ℕ
texts_named file = filter_map (text_at file) (uses_in_order file.class.now)

-- the arrays that the instructions of a file make
abbrev pub types_made : List (Option TypeRef) → GivenFile → List TypeRef
types_made types file = filter_map (λ item. made_at types file item.insn) (class_items file.class.now)
