-- What the start of classes does, as the code computes it.
use Rattle.std.specs.Prelude.{ℕ, List, [], ◌∷◌}
use Rattle.fm_base.specs.declared.kinds.Kind.{Kind}
use Rattle.fm_world.specs.Members.{field_at}
use Rattle.fm_world.specs.Programs.{Outline}
use Rattle.fm_world.specs.declared.uses.Use.{Use}
use Rattle.fm_world.specs.declared.uses.Use.TheVariants as used
use Rattle.fm_frames.specs.Effects.{Action, MakeLiteral, OfLiteral, Plain, SetStatic, Start}
use Rattle.fm_frames.specs.Starts.{set_constant}
use Rattle.fm_frames.specs.declared.actions.StartAction.{StartAction}
use Rattle.fm_frames.specs.declared.actions.StartAction.TheVariants as starting
use Rattle.fm_frames.specs.declared.values.Value.TheVariants as value

-- the action of one of a class's start
abbrev pub action_of : StartAction → Action
action_of (starting.Start class) = Start class.0
action_of (starting.MakeLiteral text) = MakeLiteral text
action_of (starting.SetNumber slot kind v) = SetStatic slot kind (Plain v)
action_of (starting.SetLiteral slot kind text) = SetStatic slot kind (OfLiteral text)

-- what the constant of a field does
abbrev pub constant_at : Outline → ℕ → List Action
constant_at o field = set_constant o field (field_at o.classes field).field.value

-- the same by what is given of the field: its place, its kind, and what its constant is resolved to
abbrev pub actions_by : ℕ → Kind → Use → List Action
actions_by slot kind (used.OfInt n) = SetStatic slot kind (Plain (value.Int n)) ∷ []
actions_by slot kind (used.OfLong n) = SetStatic slot kind (Plain (value.Long n)) ∷ []
actions_by slot kind (used.OfText text) = MakeLiteral text ∷ SetStatic slot kind (OfLiteral text) ∷ []
actions_by slot kind (used.OfType t) = []
actions_by slot kind (used.OfField f t) = []
actions_by slot kind (used.OfMethod m t) = []
actions_by slot kind used.Unused = []
