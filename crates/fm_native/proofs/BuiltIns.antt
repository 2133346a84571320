-- The built-in classes by their numbers, which are the same in each program.
use Rattle.std.proofs.Common.{◌≡◌, List, ◌++◌, codes, Some}
use Rattle.std.specs.Str.{bytes_eq}
use Rattle.std.proofs.lemmas.Iterator.Adapters.{position_from-zero}
use Rattle.fm_frames.proofs.BuiltInTypes.{named_class}
use Rattle.fm_frames.proofs.Programs.{class_literal-is, string-is}
use Rattle.fm_frames.specs.NativeRows.{class_type, text_type}
use Rattle.fm_frames.specs.Runnable.{IsRunnable}
use Rattle.fm_types.specs.Named.{built_in_type}
use Rattle.fm_world.specs.BuiltIns.{built_in, cloneable_name, class_literal_class}
use Rattle.fm_world.specs.Descriptors.{class_number}
use Rattle.fm_world.specs.Numbers.{type_of_class}
use Rattle.fm_world.specs.Programs.{Program}
use Rattle.fm_world.specs.declared.declarations.DeclaredClass.{DeclaredClass}

pub text-is : (p : Program) → IsRunnable p → text_type p.outline ≡ type_of_class 1
text-is p runnable = string-is p.outline runnable.given runnable.classes

pub class-is : (p : Program) → IsRunnable p → class_type p.outline ≡ type_of_class class_literal_class
class-is p runnable = class_literal-is p.outline runnable.given runnable.classes

index-found : (given : List DeclaredClass) → class_number (built_in ++ given) (codes "java/lang/StringIndexOutOfBoundsException") ≡ Some 23
unfolding built_in
index-found given = position_from-zero (λ (c : DeclaredClass). bytes_eq c.name (codes "java/lang/StringIndexOutOfBoundsException")) (built_in ++ given)

pub index-is : (p : Program) → IsRunnable p → built_in_type p.outline (codes "java/lang/StringIndexOutOfBoundsException") ≡ type_of_class 23
index-is p runnable = named_class p (codes "java/lang/StringIndexOutOfBoundsException") 23 runnable index-found

cloneable-found : (given : List DeclaredClass) → class_number (built_in ++ given) cloneable_name ≡ Some 26
unfolding built_in
cloneable-found given = position_from-zero (λ (c : DeclaredClass). bytes_eq c.name cloneable_name) (built_in ++ given)

pub cloneable-is : (p : Program) → IsRunnable p → built_in_type p.outline cloneable_name ≡ type_of_class 26
cloneable-is p runnable = named_class p cloneable_name 26 runnable cloneable-found

uncloneable-found : (given : List DeclaredClass) → class_number (built_in ++ given) (codes "java/lang/CloneNotSupportedException") ≡ Some 28
unfolding built_in
uncloneable-found given = position_from-zero (λ (c : DeclaredClass). bytes_eq c.name (codes "java/lang/CloneNotSupportedException")) (built_in ++ given)

pub uncloneable-is : (p : Program) → IsRunnable p → built_in_type p.outline (codes "java/lang/CloneNotSupportedException") ≡ type_of_class 28
uncloneable-is p runnable = named_class p (codes "java/lang/CloneNotSupportedException") 28 runnable uncloneable-found
