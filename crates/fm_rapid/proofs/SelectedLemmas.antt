-- Lists that loops make: what is selected so far.
use Rattle.std.proofs.Common.{◌≡◌, ℕ, ◌+◌, ◌<◌, ◌≤◌, true, List, [], ◌∷◌, ◌++◌, cond, length, take, reverse, get_or, Option, Some, None, Contains, refl, sym, ◌∙◌, ap, option_to_list}
use Rattle.std.specs.Option.{option_map}
use Rattle.std.specs.List.{filter_map}
use Rattle.std.specs.Prelude.{is_none}
use Rattle.fm_rapid.specs.Reach.{starts_of}
use Rattle.fm_world.specs.declared.records.ClassInfo.{ClassInfo}
use Rattle.std.proofs.lemmas.List.{take_all, take_more}
use Rattle.std.proofs.lemmas.List.Elements.{filter_map-append}
use Rattle.fm_base.specs.declared.ids.MethodId.{MethodId}
use Rattle.fm_rapid.proofs.Elements.{among-from_Contains}
use Rattle.fm_types.proofs.ClassTree.{among-within}
use Rattle.fm_world.proofs.Displays.{is_among-reverse}
use Rattle.fm_world.proofs.Marks.{only_found}
use Rattle.fm_world.specs.Chains.{chain_of, is_among}
use Rattle.fm_world.specs.Members.{start_of}
use Rattle.fm_world.specs.Programs.{class_info, method_id, Outline}
use Rattle.fm_world.specs.declared.declarations.DeclaredClass.{DeclaredClass}

-- one element more
pub found_next : (find : ℕ → Option ℕ) (xs : List ℕ) (i : ℕ) (before after : List ℕ) (o : Option ℕ) → i < length xs
    → before ≡ filter_map find (take i xs) → after ≡ before ++ option_to_list o → o ≡ find (get_or xs i 0) → after ≡ filter_map find (take (i + 1) xs)
found_next find xs i before after o inside before_is after_is o_is =
    after_is ∙ ap (λ l. l ++ option_to_list o) before_is ∙ ap (λ x. filter_map find (take i xs) ++ option_to_list x) o_is
    ∙ ap (λ l. filter_map find (take i xs) ++ l) (sym (only_found (find (get_or xs i 0))))
    ∙ sym (filter_map-append find (take i xs) (get_or xs i 0 ∷ [])) ∙ ap (filter_map find) (sym (take_more xs i 0 inside))

-- all of them
pub found_all : (find : ℕ → Option ℕ) (xs : List ℕ) (i : ℕ) (found : List ℕ) → length xs ≤ i → found ≡ filter_map find (take i xs)
    → found ≡ filter_map find xs
found_all find xs i found past is = is ∙ ap (filter_map find) (take_all i xs past)

-- the method that starts a class, as the record of the class has it
pub start_is : (o : Outline) (class : ℕ) → option_map (λ (m : MethodId). m.0) (class_info o class).start ≡ start_of o.classes class
unfolding class_info
start_is o class = number (start_of o.classes class) where
  number : (found : Option ℕ) → option_map (λ (m : MethodId). m.0) (option_map method_id found) ≡ found
  number None = refl
  number (Some m) = refl

-- each class of a chain is found in it
pub among_chain : (classes : List DeclaredClass) (class k : ℕ) → Contains (reverse (chain_of classes class)) k → is_among k (chain_of classes class) ≡ true
among_chain classes class k found =
    sym (is_among-reverse k (chain_of classes class)) ∙ among-from_Contains k (reverse (chain_of classes class)) found

-- and is there
pub chain_inside : (classes : List DeclaredClass) (class k : ℕ) → class < length classes → Contains (reverse (chain_of classes class)) k → k < length classes
chain_inside classes class k inside found = among-within classes class k inside (among_chain classes class k found)

-- ---- what starts a class

-- nothing starts a built-in class
pub starts_none : (o : Outline) (class : ℕ) (info : ClassInfo) → info ≡ class_info o class → info.file ≡ None → starts_of o class ≡ []
unfolding class_info starts_of
starts_none o class info is none =
    ap (λ (file : Option ℕ). cond (is_none file) [] (filter_map (start_of o.classes) (reverse (chain_of o.classes class))))
    (sym (ap (λ (i : ClassInfo). i.file) is) ∙ none)

-- a given class is started by the methods along its chain
pub starts_given : (o : Outline) (class : ℕ) (info : ClassInfo) (file : ℕ) → info ≡ class_info o class → info.file ≡ Some file
    → starts_of o class ≡ filter_map (start_of o.classes) (reverse (chain_of o.classes class))
unfolding class_info starts_of
starts_given o class info file is some =
    ap (λ (f : Option ℕ). cond (is_none f) [] (filter_map (start_of o.classes) (reverse (chain_of o.classes class))))
    (sym (ap (λ (i : ClassInfo). i.file) is) ∙ some)
