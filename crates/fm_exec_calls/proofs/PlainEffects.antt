-- Built-in methods start no class.
use Rattle.std.proofs.Common.{◌≡◌, ℕ, List, Option, None, Some, refl}
use Rattle.fm_frames.specs.CallRows.{entered}
use Rattle.fm_frames.specs.Effects.{Effect}
use Rattle.fm_frames.specs.NativeRows.{native_effect}
use Rattle.fm_frames.specs.declared.natives.Native.{Native}
use Rattle.fm_frames.specs.Sights.{Sight}
use Rattle.fm_world.specs.Programs.{Outline}
use Rattle.fm_frames.proofs.EachCall.{entered_cases}
use Rattle.fm_frames.proofs.UsualAsks.{each_native}

-- the effect starts no class
abbrev pub IsPlain : Effect → Type 0
IsPlain e = e.starts ≡ None

native-plain : (o : Outline) (row : Native) (byte : Option ℕ) (s : List Sight) → IsPlain (native_effect o row byte s)
native-plain o row byte s =
    each_native o s IsPlain (record { raised = λ x. refl; none = refl; lost = λ n. refl }) (λ n it seen hides. refl) row
    (record {
      nothing = λ n takes result. refl;
      number = λ n shown is takes result z. refl;
      same = λ n takes result. refl;
      text_given = λ n takes result units fit. refl;
      byte = λ n takes result z. refl;
      printed = λ n takes result bytes. refl;
      exits = λ n takes z. refl;
      outside = refl;
      begun = λ it seen hides takes result. refl;
      text_put = λ n operand it seen hides takes result units fit. refl;
      itself = λ is. refl;
      appended = λ shown is it seen builds units fit. refl;
      message_put = λ is it seen fits. refl;
      message_given = λ is it seen fits. refl;
      class_given = λ is it seen type inside. refl;
      unnumbered = λ is it seen none. refl;
      freed = λ is it seen. refl;
      unlinked = λ is. refl;
      linked = λ is it seen loose. refl;
      chain_freed = λ is. refl;
      copied = λ is it seen may. refl;
      uncopied = λ is. refl;
    })
    byte

-- a method that is entered starts no class by itself
pub entered-plain : (o : Outline) (words target : ℕ) (byte : Option ℕ) (s : List Sight) → IsPlain (entered o words (Some target) byte s)
entered-plain o words target byte s = entered_cases o s byte IsPlain words target refl (λ row is. native-plain o row byte s)
