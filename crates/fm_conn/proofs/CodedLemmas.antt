-- The code of a method that has some, and what is known of it.
use Rattle.std.proofs.Common.{◌≡◌, ℕ, Option, Some, None, refl}
use Rattle.fm_code.specs.declared.code_array.Code.{Code}
use Rattle.fm_world.specs.Members.{method_at}
use Rattle.fm_world.specs.Programs.{body_of, code_at, method_info, Program}
use Rattle.fm_world.specs.declared.declarations.DeclaredMethod.{DeclaredMethod}
use Rattle.fm_world.specs.declared.records.Body.TheVariants as body

body_coded : (m : DeclaredMethod) (row : Option ℕ) (o : Option Code) (code : Code) → m.row ≡ row → body_of m o ≡ body.Coded code → o ≡ Some code
body_coded m None None code is same = absurd (let e = rw is at same in cc)
body_coded m None (Some c) code is same = let e = rw is at same in cc
body_coded m (Some row) o code is same = absurd (let e = rw is at same in cc)

-- a body that is code is the method's code
pub coded_at : (p : Program) (method : ℕ) (code : Code) → (method_info p method).body ≡ body.Coded code → code_at p method ≡ Some code
unfolding method_info
coded_at p method code same =
    let m = (method_at p.outline.classes method).method in body_coded m m.row (code_at p method) code refl same
