-- The main that puts a thousand nodes before a list, by computation.
use Rattle.std.proofs.Common.{◌≡◌, refl, [], ◌∷◌, true, false}
use Rattle.std.specs.Prelude.{map}
use Rattle.std.specs.List.{flat_map, range_with_len}
use Rattle.fm_code.specs.ClassBytes.{class_bytes, member_bytes, member_attribute_bytes, code_bytes, raw_bytes, pool_bytes, entry_bytes}
use Rattle.fm_code.specs.FreeEntries.{sought_class_text, sought_class, sought_name, sought_descriptor, sought_pair, sought_free}
use Rattle.fm_code.specs.Numbers.{two, four, signed_four}
use Rattle.fm_layout.specs.Laid.{laid_of}
use Rattle.fm_world.specs.BuiltIns.{built_in}
use Rattle.fm_world.specs.Members.{methods_of}
use Rattle.fm_chain.specs.ChainEntries.{sought_chain, sought_chain_name, sought_chain_pair, sought_link, sought_link_descriptor, sought_link_name, sought_link_pair}
use Rattle.fm_chain.specs.Chained.{chained}
use Rattle.fm_chain.specs.Chaining.{chained_classes}
use Rattle.fm_chain.specs.ChainsExample.{list_calls, list_class, list_code, list_items, list_plan, list_plans, list_read, list_written}
use Rattle.fm_chain.specs.Loops.{is_looped}
use Rattle.fm_chain.specs.SafeChains.{with_loops}

pub loops : map (is_looped list_code) (range_with_len 0 19)
    ≡ false ∷ false ∷ false ∷ false ∷ true ∷ true ∷ true ∷ true ∷ true ∷ true ∷ true ∷ true ∷ true ∷ true ∷ true ∷ true ∷ true ∷ true ∷ false ∷ []
loops = refl

pub items : chained list_calls list_code (with_loops list_code list_plan) ≡ list_items
items = refl

pub read : class_bytes list_class ≡ list_read
unfolding class_bytes member_bytes member_attribute_bytes code_bytes raw_bytes pool_bytes entry_bytes two four signed_four
read = refl

pub written : flat_map class_bytes (chained_classes list_plans (list_class ∷ [])) ≡ list_written
unfolding built_in methods_of class_bytes member_bytes member_attribute_bytes code_bytes raw_bytes pool_bytes entry_bytes two four signed_four sought_class_text sought_class sought_name sought_descriptor sought_pair sought_free sought_link_name sought_link_descriptor sought_link_pair sought_link sought_chain_name sought_chain_pair sought_chain laid_of
written = refl
