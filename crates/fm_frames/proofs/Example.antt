-- The effects of the examples, by computation.
use Rattle.std.proofs.Common.{◌≡◌, refl, [], ◌∷◌}
use Rattle.std.specs.Char.{encode_utf8}
use Rattle.std.specs.Char.Utf16.{utf16_chars}
use Rattle.std.specs.Fmt.{digits}
use Rattle.fm_base.specs.Texts.{utf8}
use Rattle.fm_frames.specs.ObjectRows.{new_effect, get_static_effect}
use Rattle.fm_frames.specs.Sights.{looks}
use Rattle.fm_frames.specs.NumberRows.{int_op_effect, load_effect, store_effect, move_effect}
use Rattle.fm_frames.specs.JumpRows.{return_effect}
use Rattle.fm_frames.specs.CallRows.{virtual_effect, special_effect}
use Rattle.fm_frames.specs.Elements.{read}
use Rattle.fm_frames.specs.Steps.{caught, InFrames}
use Rattle.fm_frames.specs.NativeRows.{object_native, stream_native, native_effect}
use Rattle.fm_frames.specs.Rows.{effect_of}
use Rattle.fm_types.specs.Fits.{fits_type}
use Rattle.fm_world.specs.BuiltIns.{built_in}
use Rattle.fm_world.specs.Chains.{chain_of, superinterfaces_of, interfaces_of, is_sub}
use Rattle.fm_world.specs.Members.{fields_of, methods_of, size_of, slot_of}
use Rattle.fm_world.specs.Numbers.{types_of, texts_of}
use Rattle.fm_world.specs.Programs.{classes_of, outline_of, uses_of, codes_of, program_of}
use Rattle.fm_world.specs.Uses.{used_indices}
use Rattle.fm_world.specs.Lookups.{resolved_field, resolved_method, select, special_target}
use Rattle.fm_alu.specs.TwosComplement.{low_bits, signed}
use Rattle.fm_alu.specs.Operations.{quotient}
use Rattle.fm_frames.specs.Example.{catching, dividing, effects_in, main_number, object_effects, object_handler, object_items, object_seen, program_with, sum_effects, sum_items, sum_seen}
use Rattle.fm_frames.specs.States.{ref}
use Rattle.fm_world.specs.Numbers.{type_of_class}

pub sum_effects_are : effects_in (program_with sum_items []) main_number sum_seen ≡ sum_effects
unfolding new_effect get_static_effect looks int_op_effect return_effect load_effect store_effect move_effect virtual_effect special_effect read object_native stream_native native_effect effect_of fits_type built_in chain_of superinterfaces_of interfaces_of is_sub fields_of methods_of size_of slot_of types_of texts_of classes_of outline_of uses_of codes_of program_of used_indices resolved_field resolved_method select special_target low_bits signed quotient digits utf8 utf16_chars encode_utf8
sum_effects_are = refl

pub object_effects_are : effects_in (program_with object_items (object_handler ∷ [])) main_number object_seen ≡ object_effects
unfolding new_effect get_static_effect looks int_op_effect return_effect load_effect store_effect move_effect virtual_effect special_effect read object_native stream_native native_effect effect_of fits_type built_in chain_of superinterfaces_of interfaces_of is_sub fields_of methods_of size_of slot_of types_of texts_of classes_of outline_of uses_of codes_of program_of used_indices resolved_field resolved_method select special_target low_bits signed quotient digits utf8 utf16_chars encode_utf8
object_effects_are = refl

pub caught_in_main : caught (program_with object_items (object_handler ∷ [])) (type_of_class 13) (ref 9) (dividing ∷ []) ≡ InFrames (catching ∷ [])
unfolding caught new_effect get_static_effect looks int_op_effect return_effect load_effect store_effect move_effect virtual_effect special_effect read object_native stream_native native_effect effect_of fits_type built_in chain_of superinterfaces_of interfaces_of is_sub fields_of methods_of size_of slot_of types_of texts_of classes_of outline_of uses_of codes_of program_of used_indices resolved_field resolved_method select special_target low_bits signed quotient digits utf8 utf16_chars encode_utf8
caught_in_main = refl
