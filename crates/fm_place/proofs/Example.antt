-- The main that makes an array and pops it, by computation.
use Rattle.std.proofs.Common.{◌≡◌, refl, [], ◌∷◌, Some, None, true, false}
use Rattle.std.specs.Prelude.{map, slice_get}
use Rattle.std.specs.List.{flat_map, range_with_len}
use Rattle.fm_code.specs.ClassBytes.{class_bytes, member_bytes, member_attribute_bytes, code_bytes, raw_bytes, pool_bytes, entry_bytes}
use Rattle.fm_code.specs.FreeEntries.{sought_class_text, sought_class, sought_name, sought_descriptor, sought_pair, sought_free}
use Rattle.fm_code.specs.Numbers.{two, four, signed_four}
use Rattle.fm_conn.specs.Rows.{words_taken}
use Rattle.fm_layout.specs.Laid.{laid_of, marks_of}
use Rattle.fm_world.specs.BuiltIns.{built_in}
use Rattle.fm_world.specs.Chains.{chain_of}
use Rattle.fm_world.specs.Lookups.{resolved_field, resolved_method}
use Rattle.fm_world.specs.Members.{fields_of, methods_of}
use Rattle.fm_world.specs.Numbers.{texts_of, types_of}
use Rattle.fm_world.specs.Programs.{classes_of, codes_of, outline_of, program_of, uses_of}
use Rattle.fm_world.specs.Uses.{used_indices}
use Rattle.fm_place.specs.Example.{main_number, popping_class, popping_code, popping_facts, popping_main, popping_marks, popping_plan, popping_program, popping_woven, read_bytes, written_bytes}
use Rattle.fm_place.specs.Places.{is_busy, is_place}
use Rattle.fm_place.specs.Rewriting.{frees_in, marks_with, rewritten, sites_in}
use Rattle.fm_place.specs.Safe.{full_plans}
use Rattle.fm_place.specs.Sites.{held_sites, MakesArray, site_kind}
use Rattle.fm_place.specs.Woven.{woven}

pub sites : map (site_kind popping_facts popping_main) (range_with_len 0 4) ≡ None ∷ Some MakesArray ∷ None ∷ None ∷ []
unfolding built_in chain_of resolved_field resolved_method fields_of methods_of texts_of types_of classes_of outline_of uses_of codes_of program_of used_indices words_taken
sites = refl

pub held : held_sites popping_facts popping_main ≡ 1 ∷ []
unfolding built_in chain_of resolved_field resolved_method fields_of methods_of texts_of types_of classes_of outline_of uses_of codes_of program_of used_indices words_taken
held = refl

pub busy : map (is_busy popping_facts popping_main 9) (range_with_len 0 4) ≡ false ∷ false ∷ true ∷ false ∷ []
unfolding built_in chain_of resolved_field resolved_method fields_of methods_of texts_of types_of classes_of outline_of uses_of codes_of program_of used_indices words_taken
busy = refl

pub places : map (is_place popping_facts popping_main 1 9) (range_with_len 0 4) ≡ false ∷ false ∷ false ∷ true ∷ []
unfolding built_in chain_of resolved_field resolved_method fields_of methods_of texts_of types_of classes_of outline_of uses_of codes_of program_of used_indices words_taken
places = refl

pub plan : full_plans popping_program popping_facts main_number ≡ Some popping_plan
unfolding built_in chain_of resolved_field resolved_method fields_of methods_of texts_of types_of classes_of outline_of uses_of codes_of program_of used_indices words_taken
plan = refl

pub items : woven 13 popping_code popping_plan ≡ popping_woven
items = refl

pub read : class_bytes popping_class ≡ read_bytes
unfolding class_bytes member_bytes member_attribute_bytes code_bytes raw_bytes pool_bytes entry_bytes two four signed_four
read = refl

pub written : flat_map class_bytes (rewritten (full_plans popping_program popping_facts) (popping_class ∷ [])) ≡ written_bytes
unfolding built_in chain_of resolved_field resolved_method fields_of methods_of texts_of types_of classes_of outline_of uses_of codes_of program_of used_indices words_taken class_bytes member_bytes member_attribute_bytes code_bytes raw_bytes pool_bytes entry_bytes two four signed_four sought_class_text sought_class sought_name sought_descriptor sought_pair sought_free laid_of
written = refl

pub marks : slice_get (marks_with (full_plans popping_program popping_facts) (popping_class ∷ [])) main_number ≡ Some popping_marks
unfolding built_in chain_of resolved_field resolved_method fields_of methods_of texts_of types_of classes_of outline_of uses_of codes_of program_of used_indices words_taken sought_class_text sought_class sought_name sought_descriptor sought_pair sought_free marks_of
marks = refl

pub counts : sites_in (full_plans popping_program popping_facts) main_number popping_class ≡ 1
unfolding built_in chain_of resolved_field resolved_method fields_of methods_of texts_of types_of classes_of outline_of uses_of codes_of program_of used_indices words_taken
counts = refl

pub frees : frees_in (full_plans popping_program popping_facts) main_number popping_class ≡ 1
unfolding built_in chain_of resolved_field resolved_method fields_of methods_of texts_of types_of classes_of outline_of uses_of codes_of program_of used_indices words_taken
frees = refl
