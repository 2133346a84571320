-- Parts that are made of the tables of this crate are those of a program.
use Rattle.std.proofs.Common.{◌≡◌, ◌∙◌, sym, ap, subst, ℕ, List, length, map, Option, IfSome}
use Rattle.fm_code.specs.declared.code_array.Code.{Code}
use Rattle.fm_link_names.specs.declared.descriptors.Kinds.{Kinds}
use Rattle.fm_world.specs.Programs.{class_info}
use Rattle.fm_world.specs.declared.parts.Parts.{Parts}
use Rattle.fm_world.specs.declared.records.MethodInfo.{MethodInfo}
use Rattle.fm_world.specs.declared.uses.Use.{Use}
use Rattle.fm_world.specs.inner.KnownTargets.{KnowsTargets}
use Rattle.fm_world.specs.inner.Tables.{code_in, outline_in, program_in, AreTables}
use Rattle.fm_link_records.specs.inner.Classes.{bare_outline}
use Rattle.fm_link_records.specs.inner.Made.{AreMade}
use Rattle.fm_link_records.proofs.Assembled.{class_info-outline, codes-told, fields-outline, map-numbers_below, methods-program}

pub codes-made : (x : Parts) (kinds fields : List (Option Kinds)) (codes : List (Option Code)) (slots : List ℕ) (firsts : List Use)
    → AreMade x kinds fields codes slots firsts → (program_in x).codes ≡ codes
codes-made x kinds fields codes slots firsts made =
    ap (map (λ (m : MethodInfo). code_in m.body)) made.methods ∙ codes-told x.declared kinds codes made.codes_are

pub AreTables-made : (x : Parts) (kinds fields : List (Option Kinds)) (codes : List (Option Code)) (slots : List ℕ) (firsts : List Use)
    → AreMade x kinds fields codes slots firsts → AreTables x
AreTables-made x kinds fields codes slots firsts made = record {
  few = made.few;
  classes = made.classes ∙ map-numbers_below (class_info (bare_outline x.declared)) (class_info (outline_in x)) (length x.declared)
      (λ k h. class_info-outline (outline_in x) k);
  methods = made.methods ∙ methods-program (program_in x) kinds codes made.declared (codes-made x kinds fields codes slots firsts made);
  fields = made.fields ∙ fields-outline (outline_in x) fields slots firsts made.kinds made.places made.held;
  statics = made.statics;
  answers = made.answers;
  calls = made.calls;
  known = subst (λ known. IfSome known (KnowsTargets (program_in x))) (sym made.known) tt;
}
