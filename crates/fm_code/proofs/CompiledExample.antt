-- The class file that a compiler wrote.
use Rattle.std.proofs.Common.{◌≡◌, ℕ, ◌<◌, false, List, [], ◌∷◌, map, length, drop, codes, Some, None, refl, ap, arith, inl, inr}
use Rattle.std.specs.Prelude.{◌≢◌}
use Rattle.std.specs.List.{AllByRecursion, flat_map}
use Rattle.std.specs.Char.Utf16.{utf16_chars}
use Rattle.fm_code.specs.Numbers.{two, four, eight, signed_eight}
use Rattle.fm_code.specs.ClassBytes.{entry_bytes, pool_bytes, raw_bytes, code_bytes, member_attribute_bytes, member_bytes, class_bytes, item_bytes}
use Rattle.fm_code.specs.CodeRules.{CodeIsValid, CodeAttrIsValid}
use Rattle.fm_code.specs.CompiledExample.{compiled_bytes, compiled_entries, compiled_field, constructor_code, compiled_constructor, method_items, method_code, compiled_method, compiled_record}
use Rattle.fm_code.specs.ConstantPool.{SpellsPool, IsMethodPair}
use Rattle.fm_code.specs.Fits.{ClassFits, CodeFits, MemberFits}
use Rattle.fm_code.specs.InstructionTable.{insn_at}
use Rattle.fm_code.specs.Members.{FieldIsValid, MethodIsValid}
use Rattle.fm_code.specs.Names.{primitive, MethodType, IsMethodDescriptor, FieldType, IsFieldType}
use Rattle.fm_code.specs.Profile.{Profile, NameIsSupported, MethodIsSupported}
use Rattle.fm_code.specs.Spells.{Spells}
use Rattle.fm_code.specs.SpellsCode.{SpellsCode}
use Rattle.fm_code.proofs.Floating.{no_floating_field, no_floating_method, no_floating_array}
use Rattle.fm_code.proofs.Tested.{entries_fit, entries_supported, entries_valid, items_fit, are_bytes, read, meant, items_spelled}

-- the bytes are those of the record, by computation
bytes_are : compiled_bytes ≡ class_bytes compiled_record
unfolding class_bytes pool_bytes entry_bytes member_bytes member_attribute_bytes code_bytes raw_bytes two four eight signed_eight
bytes_are = refl

-- texts of different lengths
apart : (a b : List ℕ) → (length a ≡ length b → ⊥) → a ≢ b
apart a b differ e = differ (ap length e)

-- ---- the pool

-- ()V, I, and (I)I
abbrev nothing_method : MethodType
nothing_method = record { parameters = []; result = None }

nothing_descriptor : (receiver : ℕ) → receiver < 2 → IsMethodDescriptor receiver (codes "()V")
nothing_descriptor receiver one = (nothing_method, (record { parameters = tt; result = tt }, (refl, omega arith)))

abbrev int_type : FieldType
int_type = record { dimensions = 0; base = primitive 73 }

is_int : IsFieldType int_type
is_int = record { dimensions = omega arith; base = refl }

int_descriptor : IsMethodDescriptor 0 (codes "(I)I")
int_descriptor =
    (record { parameters = int_type ∷ []; result = Some int_type }, (record { parameters = (is_int, tt); result = is_int }, (refl, omega arith)))

constructor_pair : IsMethodPair (codes "<init>", codes "()V")
constructor_pair = (refl, nothing_descriptor 0 (omega arith))

pool_spelled : SpellsPool (pool_bytes compiled_record.pool) compiled_record.pool
pool_spelled = record {
  bytes_are = refl;
  fits = record { count = omega arith; each = entries_fit compiled_entries refl };
  slots = tt;
  entries = (tt, ((refl, constructor_pair), (inl refl, (inr constructor_pair, entries_valid compiled_entries (drop 4 compiled_entries) refl))));
}

-- ---- the constructor

constructor_fits : CodeFits constructor_code
unfolding code_bytes raw_bytes two four
constructor_fits = record {
  max_stack = omega arith;
  max_locals = omega arith;
  code_length = omega arith;
  items = items_fit constructor_code.items refl;
  handlers = record { count = omega arith; each = tt };
  attributes = record {
    count = omega arith;
    each = (
      (omega arith, record { count = omega arith; each = (omega arith, tt) }),
      (
        (omega arith, record { count = omega arith; each = (record { name = omega arith; kind = omega arith; index = omega arith }, tt) }),
        tt,
      ),
    );
  };
  size = omega arith;
}

constructor_read : map read constructor_code.items ≡ map (meant constructor_code.items) constructor_code.items
unfolding insn_at
constructor_read = refl

constructor_spelled : SpellsCode (flat_map item_bytes constructor_code.items) constructor_code.items
constructor_spelled =
    record { bytes_are = refl; offsets = (refl, (refl, (refl, tt))); spelled = items_spelled constructor_code.items constructor_code.items constructor_read refl }

constructor_code_is_valid : CodeIsValid compiled_entries constructor_code
constructor_code_is_valid = record {
  not_empty = omega arith;
  not_long = omega arith;
  measured = refl;
  spelled = constructor_spelled;
  locals = (omega arith, (tt, (tt, tt)));
  operands = (tt, (inl refl, (tt, tt)));
  handlers = tt;
  attributes = (
    (refl, (omega arith, tt)),
    ((refl, (record { start = omega arith; end = omega arith; name = refl; kind = refl }, tt)), tt),
  );
}

constructor_is_valid : MethodIsValid false compiled_entries compiled_constructor
constructor_is_valid = record {
  name = refl;
  descriptor = nothing_descriptor 1 (omega arith);
  attributes = ((refl, constructor_code_is_valid), tt);
  coded = refl;
  abstract_alone = λ e. cc;
  constructor = λ e. record {
    returns_nothing = (nothing_method, (record { parameters = tt; result = tt }, (refl, refl)));
    not_static = refl;
    not_abstract = refl;
  };
  of_interface = λ e. cc;
}

-- ---- the method

method_fits : CodeFits method_code
unfolding code_bytes raw_bytes two four
method_fits = record {
  max_stack = omega arith;
  max_locals = omega arith;
  code_length = omega arith;
  items = items_fit method_items refl;
  handlers = record { count = omega arith; each = (omega arith, (omega arith, tt)) };
  attributes = record {
    count = omega arith;
    each = (
      (
        omega arith,
        record {
          count = omega arith;
          each = (omega arith, (omega arith, (omega arith, (omega arith, (omega arith, (omega arith, tt))))));
        },
      ),
      (
        (
          omega arith,
          record {
            count = omega arith;
            each = (
              record { name = omega arith; kind = omega arith; index = omega arith },
              (record { name = omega arith; kind = omega arith; index = omega arith }, tt),
            );
          },
        ),
        (record { name = omega arith; size = omega arith; bytes = are_bytes (0 ∷ 3 ∷ 28 ∷ 1 ∷ 71 ∷ 7 ∷ 0 ∷ 11 ∷ []) refl }, tt),
      ),
    );
  };
  size = omega arith;
}

method_read : map read method_items ≡ map (meant method_items) method_items
unfolding insn_at
method_read = refl

method_spelled : SpellsCode (flat_map item_bytes method_items) method_items
method_spelled = record {
  bytes_are = refl;
  offsets = (refl, (refl, (refl, (refl, (refl, (refl, (refl, (refl, (refl, (refl, (refl, (refl, (refl, (refl, (refl, (refl, tt))))))))))))))));
  spelled = items_spelled method_items method_items method_read refl;
}

method_attributes : AllByRecursion (CodeAttrIsValid compiled_entries (length method_items)) method_code.attributes
method_attributes = (
  (refl, (omega arith, (omega arith, (omega arith, (omega arith, (omega arith, (omega arith, tt))))))),
  (
    (
      refl,
      (
        record { start = omega arith; end = omega arith; name = refl; kind = refl },
        (record { start = omega arith; end = omega arith; name = refl; kind = refl }, tt),
      ),
    ),
    (
      (
        apart (codes "StackMapTable") (codes "LineNumberTable") (λ e. omega arith),
        apart (codes "StackMapTable") (codes "LocalVariableTable") (λ e. omega arith),
        apart (codes "StackMapTable") (codes "LocalVariableTypeTable") (λ e. omega arith),
      ),
      tt,
    ),
  ),
)

method_code_is_valid : CodeIsValid compiled_entries method_code
method_code_is_valid = record {
  not_empty = omega arith;
  not_long = omega arith;
  measured = refl;
  spelled = method_spelled;
  locals =
      (omega arith, (omega arith, (tt, (tt, (tt, (tt, (tt, (omega arith, (tt, (tt, (tt, (tt, (tt, (omega arith, (tt, (tt, tt))))))))))))))));
  operands = (tt, (tt, (tt, (tt, (tt, (tt, (tt, (tt, (tt, (tt, (tt, (tt, (tt, (tt, (tt, (tt, tt))))))))))))))));
  handlers = (
    record { not_empty = omega arith; end = omega arith; handler = omega arith; catch_class = inr refl },
    (record { not_empty = omega arith; end = omega arith; handler = omega arith; catch_class = inr refl }, tt),
  );
  attributes = method_attributes;
}

-- m isn't the name of a constructor
no_constructor : Some (codes "m") ≡ Some (codes "<init>") → ⊥
no_constructor e = apart (codes "m") (codes "<init>") (λ e. omega arith) (text_in e) where
  text_in : Some (codes "m") ≡ Some (codes "<init>") → codes "m" ≡ codes "<init>"
  text_in e = cc

method_is_valid : MethodIsValid false compiled_entries compiled_method
method_is_valid = record {
  name = refl;
  descriptor = int_descriptor;
  attributes = ((refl, method_code_is_valid), tt);
  coded = refl;
  abstract_alone = λ e. cc;
  constructor = λ e. absurd (no_constructor e);
  of_interface = λ e. cc;
}

-- ---- the class

field_is_valid : FieldIsValid false compiled_entries compiled_field
field_is_valid = record {
  name = refl;
  descriptor = (record { dimensions = 0; base = primitive 74 }, (record { dimensions = omega arith; base = refl }, refl));
  attributes = ((refl, λ e. cc), tt);
  value = λ e. record { one_value = omega arith; suits = ((0, omega arith, refl), tt) };
  of_interface = λ e. cc;
}

constructor_member_fits : MemberFits compiled_constructor
constructor_member_fits = record {
  flags = omega arith;
  name = omega arith;
  descriptor = omega arith;
  attributes = record { count = omega arith; each = ((omega arith, constructor_fits), tt) };
}

method_member_fits : MemberFits compiled_method
method_member_fits = record {
  flags = omega arith;
  name = omega arith;
  descriptor = omega arith;
  attributes = record { count = omega arith; each = ((omega arith, method_fits), tt) };
}

field_member_fits : MemberFits compiled_field
field_member_fits = record {
  flags = omega arith;
  name = omega arith;
  descriptor = omega arith;
  attributes = record { count = omega arith; each = ((omega arith, omega arith), tt) };
}

fits : ClassFits compiled_record
fits = record {
  minor = omega arith;
  major = omega arith;
  flags = omega arith;
  this_class = omega arith;
  super_class = omega arith;
  interfaces = record { count = omega arith; each = tt };
  fields = record { count = omega arith; each = (field_member_fits, tt) };
  methods = record { count = omega arith; each = (constructor_member_fits, (method_member_fits, tt)) };
  attributes = record { count = omega arith; each = tt };
}

constructor_or_m : Some (codes "<init>") ≡ Some (codes "m") → ⊥
constructor_or_m e = apart (codes "<init>") (codes "m") (λ e. omega arith) (text_in e) where
  text_in : Some (codes "<init>") ≡ Some (codes "m") → codes "<init>" ≡ codes "m"
  text_in e = cc

pub compiled_spelled : Spells compiled_bytes compiled_record
compiled_spelled = record {
  bytes_are = bytes_are;
  fits = fits;
  pool = pool_spelled;
  this_class = refl;
  super_class = inr refl;
  interfaces = tt;
  fields = (field_is_valid, tt);
  distinct_fields = (tt, tt);
  methods = (constructor_is_valid, (method_is_valid, tt));
  distinct_methods = ((λ both. constructor_or_m both.0, tt), (tt, tt));
  attributes = tt;
}

-- ---- the profile

name_is_supported : NameIsSupported compiled_record
unfolding utf16_chars
name_is_supported = record { no_zero = refl; whole_pairs = refl }

constructor_supported : MethodIsSupported false compiled_entries compiled_constructor
constructor_supported = record {
  head = record { descriptor = no_floating_method (codes "()V") refl; not_native = refl; of_interface = λ e. cc };
  items = (record { not_left_out = refl; constant = refl; of_class = refl; class = tt }, (record { not_left_out = refl; constant = refl; of_class = refl; class = no_floating_array (codes "java/lang/Object") refl }, (record { not_left_out = refl; constant = refl; of_class = refl; class = tt }, tt)));
}

method_supported : MethodIsSupported false compiled_entries compiled_method
method_supported = record {
  head = record { descriptor = no_floating_method (codes "(I)I") refl; not_native = refl; of_interface = λ e. cc };
  items = (record { not_left_out = refl; constant = refl; of_class = refl; class = tt }, (record { not_left_out = refl; constant = refl; of_class = refl; class = tt }, (record { not_left_out = refl; constant = refl; of_class = refl; class = tt }, (record { not_left_out = refl; constant = refl; of_class = refl; class = tt }, (record { not_left_out = refl; constant = refl; of_class = refl; class = tt }, (record { not_left_out = refl; constant = refl; of_class = refl; class = tt }, (record { not_left_out = refl; constant = refl; of_class = refl; class = tt }, (record { not_left_out = refl; constant = refl; of_class = refl; class = tt }, (record { not_left_out = refl; constant = refl; of_class = refl; class = tt }, (record { not_left_out = refl; constant = refl; of_class = refl; class = tt }, (record { not_left_out = refl; constant = refl; of_class = refl; class = tt }, (record { not_left_out = refl; constant = refl; of_class = refl; class = tt }, (record { not_left_out = refl; constant = refl; of_class = refl; class = tt }, (record { not_left_out = refl; constant = refl; of_class = refl; class = tt }, (record { not_left_out = refl; constant = refl; of_class = refl; class = tt }, (record { not_left_out = refl; constant = refl; of_class = refl; class = tt }, tt))))))))))))))));
}

pub compiled_accepted : Profile compiled_record
compiled_accepted = record {
  version = inr (omega arith, omega arith, refl);
  limits = (
    record { stack = omega arith; locals = omega arith; handlers = omega arith },
    (record { stack = omega arith; locals = omega arith; handlers = omega arith }, tt),
  );
  supported = record {
    name = name_is_supported;
    fields = (no_floating_field (codes "J") refl, tt);
    methods = (constructor_supported, (method_supported, tt));
    pool = entries_supported compiled_entries refl;
  };
}
