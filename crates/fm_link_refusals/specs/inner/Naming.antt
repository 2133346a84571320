-- By what names of classes are judged.
use Rattle.std.specs.Prelude.{◌≡◌, ℕ, Bool, List, map, is_none}
use Rattle.std.specs.List.{flat_map}
use Rattle.fm_code.specs.declared.class_file.ClassDef.{ClassDef}
use Rattle.fm_link_names.specs.inner.ClassNumbering.{NumbersClasses}
use Rattle.fm_link_names.specs.inner.DescriptorTypes.{first_missing, missing_name}
use Rattle.fm_link_names.specs.inner.Numbering.{texts_in}
use Rattle.fm_world.specs.Causes.{missing, Refusal}
use Rattle.fm_world.specs.Declarations.{text_at}
use Rattle.fm_world.specs.Descriptors.{class_type, types_in}
use Rattle.fm_world.specs.declared.declarations.DeclaredClass.{DeclaredClass}
use Rattle.fm_link_refusals.specs.declared.missing.Naming.{Naming}

-- a name, or a descriptor, names no class that isn't there
abbrev pub is_name_met : List DeclaredClass → List ℕ → Bool
is_name_met classes name = is_none (missing_name classes (class_type name))

-- the same of a descriptor
abbrev pub is_descriptor_met : List DeclaredClass → List ℕ → Bool
is_descriptor_met classes descriptor = is_none (first_missing classes (types_in descriptor))

-- the classes are those that are numbered, and the marks say of each text whether it names no class that isn't there
pub record JudgesNames (classes : List DeclaredClass) (n : Naming) : Type 0 where
  pub numbers : NumbersClasses classes n.numbers.now.numbers
  pub names : n.names_met.now ≡ map (is_name_met classes) (texts_in n.texts.now)
  pub descriptors : n.descriptors_met.now ≡ map (is_descriptor_met classes) (texts_in n.texts.now)

-- the classes that the descriptor at an index names and that aren't there
abbrev pub missing_in_descriptor : List DeclaredClass → ClassDef → ℕ → List Refusal
missing_in_descriptor classes c descriptor = flat_map (missing classes c) (types_in (text_at c.pool.entries descriptor))
