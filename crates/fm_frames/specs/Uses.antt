-- What follows from what an instruction names: from a type, a field or a method by number, with the
-- type that the entry names. Where the index refers to something else, no typed program has the
-- instruction.
use Rattle.std.specs.Prelude.{ℕ, Option, Some, None, slice_get}
use Rattle.fm_base.specs.declared.kinds.TypeRef.{TypeRef}
use Rattle.fm_world.specs.Programs.{Outline}
use Rattle.fm_world.specs.declared.uses.Use.{Use}
use Rattle.fm_world.specs.declared.uses.Use.TheVariants as resolved
use Rattle.fm_frames.specs.Effects.{Effect, stuck}

-- what follows of a type that an index names
abbrev pub by_type : Option TypeRef → (TypeRef → Effect) → Effect
by_type None follows = stuck
by_type (Some t) follows = follows t

-- what follows of an index that is resolved to a type
abbrev pub on_type : Outline → Use → (TypeRef → Effect) → Effect
on_type o (resolved.OfType t) follows = by_type (slice_get o.types t.0) follows
on_type o (resolved.OfField f t) follows = stuck
on_type o (resolved.OfMethod m t) follows = stuck
on_type o (resolved.OfInt n) follows = stuck
on_type o (resolved.OfLong n) follows = stuck
on_type o (resolved.OfText text) follows = stuck
on_type o resolved.Unused follows = stuck

-- what follows of an index that is resolved to a field, by its number and the type that the index
-- names
abbrev pub on_field : Outline → Use → (ℕ → TypeRef → Effect) → Effect
on_field o (resolved.OfType t) follows = stuck
on_field o (resolved.OfField f t) follows = by_type (slice_get o.types t.0) (follows f.0)
on_field o (resolved.OfMethod m t) follows = stuck
on_field o (resolved.OfInt n) follows = stuck
on_field o (resolved.OfLong n) follows = stuck
on_field o (resolved.OfText text) follows = stuck
on_field o resolved.Unused follows = stuck

-- what follows of an index that is resolved to a method, by its number and the type that the index
-- names
abbrev pub on_method : Outline → Use → (ℕ → TypeRef → Effect) → Effect
on_method o (resolved.OfType t) follows = stuck
on_method o (resolved.OfField f t) follows = stuck
on_method o (resolved.OfMethod m t) follows = by_type (slice_get o.types t.0) (follows m.0)
on_method o (resolved.OfInt n) follows = stuck
on_method o (resolved.OfLong n) follows = stuck
on_method o (resolved.OfText text) follows = stuck
on_method o resolved.Unused follows = stuck
