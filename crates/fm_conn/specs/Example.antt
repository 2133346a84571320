-- A method whose nodes a reader can go over by hand: a B is made and kept in local 1.
use Rattle.fm_types.specs.Example.{program_with, typed_code, typed_states}
use Rattle.fm_conn.specs.Nodes.{Node, Local, Slot, TypedMethod}
use Rattle.fm_conn.specs.Links.{Linked}
use Rattle.fm_conn.specs.Pairs.{Linking}
use Rattle.fm_world.specs.BuiltIns.{built_in_methods}

-- the main of the checker's example, with its states: new, dup, <init>, astore_1, return, and a handler
abbrev pub example : TypedMethod
example = record { program = program_with typed_code; number = built_in_methods; code = typed_code; states = typed_states }

-- the word that `new` gives, its copies up to the local, and the local
abbrev pub made_word : Node
made_word = Slot 1 0

-- the local in which the object is kept
abbrev pub kept_in : Node
kept_in = Local 1

-- what the methods of the program link
abbrev pub linked_in_example : Linking
linked_in_example = Linked example.program (λ method. typed_states)
