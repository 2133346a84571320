-- The built-in exceptions by their numbers, which are the same in each program.
use Rattle.std.proofs.Common.{◌≡◌, List, ◌++◌, codes, Some}
use Rattle.std.specs.Str.{bytes_eq}
use Rattle.std.proofs.lemmas.Iterator.Adapters.{position_from-zero}
use Rattle.fm_frames.proofs.BuiltInTypes.{named_class, throwable_there}
use Rattle.fm_frames.specs.Runnable.{IsRunnable}
use Rattle.fm_types.specs.Named.{built_in_type}
use Rattle.fm_world.specs.BuiltIns.{built_in}
use Rattle.fm_world.specs.Descriptors.{class_number}
use Rattle.fm_world.specs.Numbers.{type_of_class}
use Rattle.fm_world.specs.Programs.{Program}
use Rattle.fm_world.specs.declared.declarations.DeclaredClass.{DeclaredClass}

arithmetic-found : (given : List DeclaredClass) → class_number (built_in ++ given) (codes "java/lang/ArithmeticException") ≡ Some 13
unfolding built_in
arithmetic-found given = position_from-zero (λ (c : DeclaredClass). bytes_eq c.name (codes "java/lang/ArithmeticException")) (built_in ++ given)

pub arithmetic-is : (p : Program) → IsRunnable p → built_in_type p.outline (codes "java/lang/ArithmeticException") ≡ type_of_class 13
arithmetic-is p runnable = named_class p (codes "java/lang/ArithmeticException") 13 runnable arithmetic-found

pub throwable-is : (p : Program) → IsRunnable p → built_in_type p.outline (codes "java/lang/Throwable") ≡ type_of_class 7
throwable-is p runnable = named_class p (codes "java/lang/Throwable") 7 runnable throwable_there

negative-found : (given : List DeclaredClass) → class_number (built_in ++ given) (codes "java/lang/NegativeArraySizeException") ≡ Some 17
unfolding built_in
negative-found given = position_from-zero (λ (c : DeclaredClass). bytes_eq c.name (codes "java/lang/NegativeArraySizeException")) (built_in ++ given)

pub negative-is : (p : Program) → IsRunnable p → built_in_type p.outline (codes "java/lang/NegativeArraySizeException") ≡ type_of_class 17
negative-is p runnable = named_class p (codes "java/lang/NegativeArraySizeException") 17 runnable negative-found

index-found : (given : List DeclaredClass) → class_number (built_in ++ given) (codes "java/lang/ArrayIndexOutOfBoundsException") ≡ Some 22
unfolding built_in
index-found given = position_from-zero (λ (c : DeclaredClass). bytes_eq c.name (codes "java/lang/ArrayIndexOutOfBoundsException")) (built_in ++ given)

pub index-is : (p : Program) → IsRunnable p → built_in_type p.outline (codes "java/lang/ArrayIndexOutOfBoundsException") ≡ type_of_class 22
index-is p runnable = named_class p (codes "java/lang/ArrayIndexOutOfBoundsException") 22 runnable index-found

store-found : (given : List DeclaredClass) → class_number (built_in ++ given) (codes "java/lang/ArrayStoreException") ≡ Some 14
unfolding built_in
store-found given = position_from-zero (λ (c : DeclaredClass). bytes_eq c.name (codes "java/lang/ArrayStoreException")) (built_in ++ given)

pub store-is : (p : Program) → IsRunnable p → built_in_type p.outline (codes "java/lang/ArrayStoreException") ≡ type_of_class 14
store-is p runnable = named_class p (codes "java/lang/ArrayStoreException") 14 runnable store-found

cast-found : (given : List DeclaredClass) → class_number (built_in ++ given) (codes "java/lang/ClassCastException") ≡ Some 15
unfolding built_in
cast-found given = position_from-zero (λ (c : DeclaredClass). bytes_eq c.name (codes "java/lang/ClassCastException")) (built_in ++ given)

pub cast-is : (p : Program) → IsRunnable p → built_in_type p.outline (codes "java/lang/ClassCastException") ≡ type_of_class 15
cast-is p runnable = named_class p (codes "java/lang/ClassCastException") 15 runnable cast-found

change-found : (given : List DeclaredClass) → class_number (built_in ++ given) (codes "java/lang/IncompatibleClassChangeError") ≡ Some 25
unfolding built_in
change-found given = position_from-zero (λ (c : DeclaredClass). bytes_eq c.name (codes "java/lang/IncompatibleClassChangeError")) (built_in ++ given)

pub change-is : (p : Program) → IsRunnable p → built_in_type p.outline (codes "java/lang/IncompatibleClassChangeError") ≡ type_of_class 25
change-is p runnable = named_class p (codes "java/lang/IncompatibleClassChangeError") 25 runnable change-found
