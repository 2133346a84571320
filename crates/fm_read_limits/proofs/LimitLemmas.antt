-- Counts of methods against their limits.
use Rattle.std.proofs.Common.{◌≡◌, List, [], ◌∷◌, Option, Some, None, refl, sym, subst}
use Rattle.std.specs.List.{AllByRecursion}
use Rattle.fm_code.specs.Fits.{CodeFits, MemberFits, MemberAttrFits}
use Rattle.fm_code.specs.Members.{code_of}
use Rattle.fm_code.specs.declared.class_file.Member.{Member}
use Rattle.fm_code.specs.declared.class_file.MemberAttr.{MemberAttr}
use Rattle.fm_code.specs.declared.class_file.MemberAttr.TheVariants as attribute
use Rattle.fm_code.specs.declared.code_array.Code.{Code}

-- the code of the first attribute that has one
abbrev pub first_code : List MemberAttr → Option Code
first_code [] = None
first_code (attribute.Coded name code ∷ attributes) = Some code
first_code (a ∷ attributes) = first_code attributes

-- the code of a method is that of its first attribute that has one
among : (m : Member) (attributes : List MemberAttr) → code_of (record m { attributes = attributes }) ≡ first_code attributes
among m [] = refl
among m (attribute.Constant name value ∷ attributes) = among m attributes
among m (attribute.Coded name code ∷ attributes) = refl
among m (attribute.Other raw ∷ attributes) = among m attributes

pub code_is : (m : Member) → code_of m ≡ first_code m.attributes
code_is m = among m m.attributes

fits_among : (m : Member) (attributes : List MemberAttr) (code : Code) → AllByRecursion MemberAttrFits attributes
    → code_of (record m { attributes = attributes }) ≡ Some code → CodeFits code
fits_among m [] code fit is = absurd cc
fits_among m (attribute.Constant name value ∷ attributes) code fit is = fits_among m attributes code fit.1 is
fits_among m (attribute.Coded name first ∷ attributes) code fit is = let same : first ≡ code = cc in subst CodeFits same fit.0.1
fits_among m (attribute.Other raw ∷ attributes) code fit is = fits_among m attributes code fit.1 is

-- the code of a method that fits does
pub code_fits : (m : Member) (code : Code) → MemberFits m → Some code ≡ code_of m → CodeFits code
code_fits m code fits is = fits_among m m.attributes code fits.attributes.each (sym is)
