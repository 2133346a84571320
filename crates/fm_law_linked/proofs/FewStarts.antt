-- The start of main's class does little: a chain of superclasses has no more classes than the program, and each of them few fields.
use Rattle.std.proofs.Common.{◌≡◌, ℕ, suc, ◌+◌, ◌^◌, ◌<◌, ◌≤◌, not, Bool, true, false, cond, List, [], length, map, reverse, unwrap_or, Option, Some, None, is_none, refl, arith, length-append}
use Rattle.std.specs.List.{AllByRecursion, filter}
use Rattle.std.proofs.lemmas.List.{length-reverse}
use Rattle.std.proofs.lemmas.List.FromFn.{length-range_with_len}
use Rattle.std.proofs.lemmas.List.Quantifiers.{position-Some}
use Rattle.fm_base.specs.Texts.{units}
use Rattle.fm_base.specs.declared.limits.TheConstants.{MAX_CLASS_FILES}
use Rattle.fm_code.specs.Spells.{HasSpelling}
use Rattle.fm_code.specs.declared.class_file.ClassDef.{ClassDef}
use Rattle.fm_frames.specs.Starts.{fields_at, is_started, set_constant, start_actions, start_of_class}
use Rattle.fm_frames.specs.inner.Opening.{opening_classes}
use Rattle.fm_law_linked.proofs.FewTexts.{filter_few, flat_few}
use Rattle.fm_law_linked.proofs.ObjectSizes.{classes_few, fields_few, upwards_length}
use Rattle.fm_law_sound.proofs.Opening.{with_text}
use Rattle.fm_world.specs.BuiltIns.{built_in, built_in_classes}
use Rattle.fm_world.specs.Chains.{chain_of, class_at, given_number}
use Rattle.fm_world.specs.Declarations.{declared_from}
use Rattle.fm_world.specs.Members.{field_at, first_field}
use Rattle.fm_world.specs.Numbers.{text_number}
use Rattle.fm_world.specs.Programs.{classes_of, Outline, outline_of}
use Rattle.fm_world.specs.declared.declarations.Constant.{Constant}
use Rattle.fm_world.specs.declared.declarations.Constant.TheVariants as constant
use Rattle.fm_world.specs.declared.declarations.DeclaredClass.{DeclaredClass}

-- ---- one class

text_few : (o : Outline) (field : ℕ) (found : Option ℕ) → length (with_text o field found) ≤ 2
text_few o field None = omega arith
text_few o field (Some number) = omega arith

constant_few : (o : Outline) (field : ℕ) (value : Option Constant) → length (set_constant o field value) ≤ 2
constant_few o field None = omega arith
constant_few o field (Some (constant.Int n)) = omega arith
constant_few o field (Some (constant.Long n)) = omega arith
constant_few o field (Some (constant.Text text)) = text_few o field (text_number o.texts (units text))

class_few : (o : Outline) (class : ℕ) → length (class_at o.classes class).fields ≤ 65536 → length (start_of_class o class) ≤ 131073
class_few o class few =
    let all = flat_few (λ field. set_constant o field (field_at o.classes field).field.value) 2
    (λ field. constant_few o field (field_at o.classes field).field.value) (fields_at o class) in
    let many = length-range_with_len (first_field o.classes class) (length (class_at o.classes class).fields) in omega (arith, few, all, many)

-- ---- the chain of main's class

chain_few : (classes : List DeclaredClass) (class : ℕ) → length (chain_of classes class) ≤ suc (length classes)
unfolding chain_of
chain_few classes class = upwards_length (suc (length classes)) classes (Some class)

either_few : (b : Bool) (xs : List ℕ) → length (cond b [] xs) ≤ length xs
either_few true xs = omega arith
either_few false xs = omega arith

opening_few : (o : Outline) → length (opening_classes o) ≤ suc (length o.classes)
opening_few o =
    let chain = chain_few o.classes o.main_class in
    let turned = length-reverse (chain_of o.classes o.main_class) in
    let left = filter_few (λ above. not (is_started o (map (λ class. false) o.classes) above)) (reverse (chain_of o.classes o.main_class)) in
    let either = either_few (is_none (class_at o.classes o.main_class).file)
    (filter (λ above. not (is_started o (map (λ class. false) o.classes) above)) (reverse (chain_of o.classes o.main_class))) in
    omega (arith, chain, turned, left, either)

starts_few : (o : Outline) → ((class : ℕ) → length (class_at o.classes class).fields ≤ 65536) → length o.classes ≤ 4096 + built_in_classes
    → length (start_actions o (opening_classes o)) ≤ 2 ^ 30
starts_few o each few =
    let all = flat_few (start_of_class o) 131073 (λ class. class_few o class (each class)) (opening_classes o) in
    let chain = opening_few o in omega (arith, few, all, chain)

each_few : (given : List ClassDef) (main : List ℕ) → AllByRecursion HasSpelling given → (class : ℕ)
    → length (class_at (outline_of given main).classes class).fields ≤ 65536
unfolding outline_of
each_few given main spelled = fields_few given spelled

classes_there : (given : List ClassDef) (main : List ℕ) → length given ≤ MAX_CLASS_FILES → length (outline_of given main).classes ≤ 4096 + built_in_classes
unfolding outline_of
classes_there given main few = classes_few given few

-- of as many class files as one call takes
pub few_starts : (given : List ClassDef) (main : List ℕ) → AllByRecursion HasSpelling given → length given ≤ MAX_CLASS_FILES
    → length (start_actions (outline_of given main) (opening_classes (outline_of given main))) ≤ 2 ^ 30
few_starts given main spelled few = starts_few (outline_of given main) (each_few given main spelled) (classes_there given main few)

-- ---- main's class

number_inside : (classes : List DeclaredClass) (name : List ℕ) → 0 < length classes → (found : Option ℕ) → given_number classes name ≡ found
    → unwrap_or found 0 < length classes
number_inside classes name some None is = some
number_inside classes name some (Some number) is = (position-Some _ classes number (class_at classes 0) is).0

pub some_classes : (given : List ClassDef) → 0 < length (classes_of given)
unfolding classes_of built_in
some_classes given = let all = length-append built_in (declared_from 0 given) in omega (arith, all)

-- it is there
pub main_there : (given : List ClassDef) (main : List ℕ) → (outline_of given main).main_class < length (outline_of given main).classes
unfolding outline_of
main_there given main = number_inside (classes_of given) main (some_classes given) (given_number (classes_of given) main) refl
