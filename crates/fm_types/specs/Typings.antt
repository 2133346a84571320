-- The states that the code hands out, as definitions speak of them.
use Rattle.std.specs.Prelude.{List, map, Option, reverse}
use Rattle.std.specs.Option.{option_map}
use Rattle.fm_types.specs.States.{TypeState}
use Rattle.fm_types.specs.declared.known_state.KnownState.{KnownState}
use Rattle.fm_types.specs.declared.states.State.{State}
use Rattle.fm_types.specs.declared.states.Typing.{Typing}

-- a state
abbrev pub type_state : State → TypeState
type_state s = record { locals = s.locals; stack = s.stack; built = s.built }

-- what is kept of an item, as a state: its words come with the top last
abbrev pub known_state : KnownState → TypeState
known_state k = record { locals = k.locals; stack = reverse k.words; built = k.built }

-- the state of each item
abbrev pub states_of : Typing → List (Option TypeState)
states_of typing = map (option_map known_state) typing.states
