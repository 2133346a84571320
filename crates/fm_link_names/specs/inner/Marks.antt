-- The indices that a class uses, one after the other.
use Rattle.std.specs.Prelude.{ℕ, List, [], ◌∷◌}
use Rattle.std.specs.List.{filter_map}
use Rattle.fm_code.specs.declared.class_file.Member.{Member}
use Rattle.fm_code.specs.declared.class_file.MemberAttr.{MemberAttr}
use Rattle.fm_code.specs.declared.class_file.MemberAttr.TheVariants as attribute
use Rattle.fm_code.specs.declared.code_array.Item.{Item}
use Rattle.fm_code.specs.Operands.{pool_index}
use Rattle.fm_world.specs.Uses.{items_of}

-- the indices of the values that attributes give
abbrev pub values_among : List MemberAttr → List ℕ
values_among [] = []
values_among (attribute.Constant name value ∷ attributes) = value ∷ values_among attributes
values_among (a ∷ attributes) = values_among attributes

-- the indices that items name
abbrev pub operands_among : List Item → List ℕ
operands_among items = filter_map (λ item. pool_index item.insn) items

-- those of a method's items
abbrev pub operands_in : Member → List ℕ
operands_in m = operands_among (items_of m)
