use Rattle.std.proofs.Common.{◌≤◌, ◌∙◌, ap, sym, length, take, arith}
use Rattle.std.proofs.lemmas.List.{length-take-le}
use Rattle.fm_world.proofs.OverridingLemmas.{package_within, take-package}
use Rattle.fm_world.proofs.Told.{class_info-name, class_info-package}
use Rattle.fm_world.proofs.program.Program.package_name.Goals as goal
use Rattle.fm_world.specs.Chains.{class_at}

-- the bytes that are the package's are within the name
pub slice_bounds-result-end : goal.slice_bounds-result-end
slice_bounds-result-end c =
    let o = c.args.self.now.outline in
    let name = (class_at o.classes c.args.c.0).name in
    let bytes = ap (λ i. i.package_bytes) c.class-info.ensures ∙ class_info-package o c.args.c.0 in
    let is = ap length (c.as_slice.ensures ∙ ap (λ i. i.name) c.class-info.ensures ∙ class_info-name o c.args.c.0) in
    let fits : c.class-info.result.now.package_bytes ≤ length c.as_slice.result.now = omega (arith, bytes, is, package_within name) in
    sym (length-take-le c.class-info.result.now.package_bytes c.as_slice.result.now fits)

pub returns : goal.returns
returns c =
    let o = c.args.self.now.outline in
    let name = (class_at o.classes c.args.c.0).name in
    let bytes = ap (λ i. i.package_bytes) c.class-info.ensures ∙ class_info-package o c.args.c.0 in
    let is = c.as_slice.ensures ∙ ap (λ i. i.name) c.class-info.ensures ∙ class_info-name o c.args.c.0 in
    (λ j. take (bytes j) (is j)) ∙ take-package name
