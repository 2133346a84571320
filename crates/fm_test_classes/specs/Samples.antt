-- The parts of a class file and of a method, in the order in which they occur in the file.
use Rattle.std.specs.Prelude.{ℕ, List, [], ◌∷◌, ◌++◌}
use Rattle.std.specs.List.{flat_map}
use Rattle.std.specs.Borrow.{Bor}
use Rattle.fm_test_classes.specs.declared.samples.ClassSample.{ClassSample}
use Rattle.fm_test_classes.specs.declared.samples.MethodSample.{MethodSample}

-- the bytes of the parts, one part after the other
abbrev pub joined : List (Bor (List ℕ)) → List ℕ
joined parts = flat_map (λ part. part.now) parts

-- a method (JVMS 4.6) with the attribute Code (JVMS 4.7.3)
abbrev pub parts_of_method : MethodSample → List (Bor (List ℕ))
parts_of_method m =
    (m.flags ∷ m.name ∷ m.descriptor ∷ m.attributes_count ∷ m.attribute_name ∷ m.attribute_length
    ∷ m.max_stack ∷ m.max_locals ∷ m.code_length ∷ []) ++ (m.code.now ++ m.handlers ∷ m.code_attributes ∷ [])

-- methods, one after the other
abbrev pub parts_of_methods : List MethodSample → List (Bor (List ℕ))
parts_of_methods methods = flat_map parts_of_method methods

-- a class file (JVMS 4.1)
abbrev pub parts_of_class : ClassSample → List (Bor (List ℕ))
parts_of_class c =
    (c.magic ∷ c.version ∷ c.pool_count ∷ c.class_name ∷ []) ++ (c.pool.now ++ (c.more_pool.now
    ++ ((c.flags ∷ c.this_class ∷ c.super_class ∷ c.interfaces ∷ c.fields ∷ c.methods_count ∷ [])
    ++ (parts_of_methods c.methods.now ++ c.attributes ∷ []))))
