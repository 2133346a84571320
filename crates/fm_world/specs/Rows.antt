-- The rows of built-in methods by their names.
use Rattle.std.specs.Prelude.{ℕ, List, [], ◌∷◌, Option}
use Rattle.std.specs.Option.{option_and_then}
use Rattle.fm_base.specs.declared.kinds.Kind.{Kind}
use Rattle.fm_base.specs.declared.kinds.Kind.TheVariants as kind
use Rattle.fm_world.specs.BuiltIns.{built_in}
use Rattle.fm_world.specs.Descriptors.{class_number, of_class}
use Rattle.fm_world.specs.Lookups.{any_flags}
use Rattle.fm_world.specs.Members.{own_method, method_at}

-- the row of the method of a built-in class, where it is one
abbrev pub row_of : List ℕ → List ℕ → List ℕ → Option ℕ
row_of class name descriptor =
    option_and_then (λ method. (method_at built_in method).method.row)
    (option_and_then (own_method built_in any_flags name descriptor) (class_number built_in class))

-- the one field of a throwable's objects, which leads to a text: String is class 1
abbrev pub hidden_kinds : List Kind
hidden_kinds = kind.Ref (record { dims = 0; base = of_class 1 }) ∷ []
