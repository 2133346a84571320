-- Codes of states: each kind of value is kept as a sum, and a record as the tuple of its fields.
use Rattle.std.specs.Prelude.{◌≡◌, ℕ, ℤ, Bool, List, Option, refl}
use Rattle.std.proofs.Common.{inl, inr, ◌⊎◌}
use Rattle.std.specs.Coded.{Coded, code_by, coded×, coded⊎, coded_ℕ, coded_ℤ, coded_bool, coded_list, coded_option}
use base.Stored.{coded_unit}
use Rattle.fm_cells.specs.Stores.{Store, store_code}
use Rattle.fm_frames.specs.States.{Areas, Frame, State}
use Rattle.fm_frames.specs.declared.ends.Ended.{Ended}
use Rattle.fm_frames.specs.declared.ends.Ended.TheVariants as end
use Rattle.fm_frames.specs.declared.values.Value.{Value}
use Rattle.fm_frames.specs.declared.values.Value.TheVariants as value

-- ---- values

-- a value by its parts: no value, an int, a long, or a cell
abbrev pub ValueParts : Type 0
ValueParts = Unit {0} ⊎ (ℤ ⊎ (ℤ ⊎ ℕ))

-- the parts of a value
abbrev pub value_parts : Value → ValueParts
value_parts value.Top = inl tt
value_parts (value.Int n) = inr (inl n)
value_parts (value.Long n) = inr (inr (inl n))
value_parts (value.Ref cell) = inr (inr (inr cell.0))

-- the value of such parts
abbrev pub value_from : ValueParts → Value
value_from (inl none) = value.Top
value_from (inr (inl n)) = value.Int n
value_from (inr (inr (inl n))) = value.Long n
value_from (inr (inr (inr cell))) = value.Ref (record { 0 = cell })

pub value_from-parts : (v : Value) → value_from (value_parts v) ≡ v
value_from-parts value.Top = refl
value_from-parts (value.Int n) = refl
value_from-parts (value.Long n) = refl
value_from-parts (value.Ref cell) = refl

-- values can be coded by their parts
abbrev pub value_code : Coded Value
value_code = code_by ValueParts (coded⊎ coded_unit (coded⊎ coded_ℤ (coded⊎ coded_ℤ coded_ℕ))) value_parts value_from value_from-parts

-- ---- ends

-- the numbers that an end of a run may have
abbrev pub NumberParts : Type 0
NumberParts = ℕ ⊎ (ℕ ⊎ (ℕ ⊎ (ℤ ⊎ ((ℕ × ℕ) ⊎ ((ℕ × ℕ) ⊎ (ℕ × (ℕ × ℕ)))))))

-- an end of a run by its parts
abbrev pub EndParts : Type 0
EndParts = Unit {0} ⊎ (Unit {0} ⊎ NumberParts)

-- the parts of an end
abbrev pub end_parts : Ended → EndParts
end_parts end.Returned = inl tt
end_parts end.Running = inr (inl tt)
end_parts (end.Uncaught class) = inr (inr (inl class.0))
end_parts (end.InitFailed class) = inr (inr (inr (inl class.0)))
end_parts (end.TooDeep frames) = inr (inr (inr (inr (inl frames))))
end_parts (end.Exit n) = inr (inr (inr (inr (inr (inl n)))))
end_parts (end.Exhausted live needed) = inr (inr (inr (inr (inr (inr (inl (live, needed)))))))
end_parts (end.StoreFull made needed) = inr (inr (inr (inr (inr (inr (inr (inl (made, needed))))))))
end_parts (end.Fault method offset cell) = inr (inr (inr (inr (inr (inr (inr (inr (method.0, (offset, cell)))))))))

-- the end of such parts
abbrev pub end_from : EndParts → Ended
end_from (inl none) = end.Returned
end_from (inr (inl none)) = end.Running
end_from (inr (inr (inl class))) = end.Uncaught (record { 0 = class })
end_from (inr (inr (inr (inl class)))) = end.InitFailed (record { 0 = class })
end_from (inr (inr (inr (inr (inl frames))))) = end.TooDeep frames
end_from (inr (inr (inr (inr (inr (inl n)))))) = end.Exit n
end_from (inr (inr (inr (inr (inr (inr (inl words))))))) = end.Exhausted words.0 words.1
end_from (inr (inr (inr (inr (inr (inr (inr (inl words)))))))) = end.StoreFull words.0 words.1
end_from (inr (inr (inr (inr (inr (inr (inr (inr place)))))))) = end.Fault (record { 0 = place.0 }) place.1.0 place.1.1

pub end_from-parts : (e : Ended) → end_from (end_parts e) ≡ e
end_from-parts end.Returned = refl
end_from-parts (end.Exit n) = refl
end_from-parts (end.Uncaught class) = refl
end_from-parts end.Running = refl
end_from-parts (end.Exhausted live needed) = refl
end_from-parts (end.TooDeep frames) = refl
end_from-parts (end.InitFailed class) = refl
end_from-parts (end.StoreFull made needed) = refl
end_from-parts (end.Fault method offset cell) = refl

-- ends can be coded by their parts
abbrev pub end_code : Coded Ended
end_code =
    code_by EndParts
    (coded⊎ coded_unit (coded⊎ coded_unit (coded⊎ coded_ℕ (coded⊎ coded_ℕ (coded⊎ coded_ℕ (coded⊎ coded_ℤ (coded⊎ (coded× coded_ℕ coded_ℕ) (coded⊎ (coded× coded_ℕ coded_ℕ) (coded× coded_ℕ (coded× coded_ℕ coded_ℕ))))))))))
    end_parts end_from end_from-parts

-- ---- frames, areas and states

-- frames can be coded
abbrev pub frame_code : Coded Frame
frame_code =
    code_by (ℕ × (ℕ × (List Value × List Value)))
    (coded× coded_ℕ (coded× coded_ℕ (coded× (coded_list value_code) (coded_list value_code))))
    (λ f. (f.method, (f.item, (f.locals, f.stack))))
    (λ t. record { method = t.0; item = t.1.0; locals = t.1.1.0; stack = t.1.1.1 })
    (λ _. refl)

-- lists of frames can be coded
abbrev pub frames_code : Coded (List Frame)
frames_code = coded_list frame_code

-- areas can be coded
abbrev pub areas_code : Coded Areas
areas_code =
    code_by (Store × (List Value × (List ℕ × (List Bool × (ℕ × ℕ)))))
    (coded× store_code (coded× (coded_list value_code) (coded× (coded_list coded_ℕ) (coded× (coded_list coded_bool) (coded× coded_ℕ coded_ℕ)))))
    (λ x. (x.store, (x.statics, (x.literals, (x.started, (x.frees, x.freed_words))))))
    (λ t. record { store = t.0; statics = t.1.0; literals = t.1.1.0; started = t.1.1.1.0; frees = t.1.1.1.1.0; freed_words = t.1.1.1.1.1 })
    (λ _. refl)

-- states can be coded
abbrev pub state_code : Coded State
state_code =
    code_by (List Frame × (Areas × (List ℕ × (ℕ × (ℕ × Option Ended)))))
    (coded× frames_code (coded× areas_code (coded× (coded_list coded_ℕ) (coded× coded_ℕ (coded× coded_ℕ (coded_option end_code))))))
    (λ x. (x.frames, (x.areas, (x.input, (x.depth, (x.steps, x.ended))))))
    (λ t. record { frames = t.0; areas = t.1.0; input = t.1.1.0; depth = t.1.1.1.0; steps = t.1.1.1.1.0; ended = t.1.1.1.1.1 })
    (λ _. refl)
