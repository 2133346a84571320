use Rattle.std.proofs.Common.{Some}
use Rattle.std.proofs.lemmas.List.{map-set}
use Rattle.std.specs.Option.{option_map}
use Rattle.fm_types.specs.Typings.{known_state}
use Rattle.fm_check_walk.proofs.walk.put.Goals as goal

pub returns : goal.returns
returns c = map-set (option_map known_state) c.args.states.now.items c.args.item (Some c.args.known)
