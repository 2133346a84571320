-- Kinds that are the same but for the types of references.
use Rattle.std.proofs.Common.{◌≡◌, ℕ, List, refl, sym, ap, ◌∙◌, subst}
use Rattle.fm_base.specs.Kinds.{kind_words}
use Rattle.fm_base.specs.declared.kinds.Kind.{Kind}
use Rattle.fm_base.specs.declared.kinds.Kind.TheVariants as kind
use Rattle.fm_base.specs.declared.kinds.TypeRef.{TypeRef}
use Rattle.fm_cells.specs.Changes.{put_by}
use Rattle.fm_fast.specs.FieldPlaces.{IsLike}
use Rattle.fm_fast.specs.Operands.{AsksOfPut}
use Rattle.fm_frames.specs.Acts.{put_value}
use Rattle.fm_frames.specs.Effects.{loaded, Source}
use Rattle.fm_frames.specs.Elements.{int_bits, kept, read}
use Rattle.fm_frames.specs.States.{Frame, ref, State}
use Rattle.fm_frames.specs.declared.values.Value.{Value}
use Rattle.fm_frames.specs.declared.values.Value.TheVariants as value

pub like-self : (k own : Kind) → own ≡ k → IsLike k own
like-self (kind.Ref t) own is = (t, is)
like-self kind.Boolean own is = is
like-self kind.Byte own is = is
like-self kind.Char own is = is
like-self kind.Short own is = is
like-self kind.Int own is = is
like-self kind.Long own is = is

-- what doesn't look at the types of references is the same of both
like-same : {X : Type 0} (f : Kind → X) → ((t u : TypeRef) → f (kind.Ref t) ≡ f (kind.Ref u)) → (k own : Kind) → IsLike k own → f k ≡ f own
like-same f blind (kind.Ref t) own like = blind t like.0 ∙ sym (ap f like.1)
like-same f blind kind.Boolean own is = sym (ap f is)
like-same f blind kind.Byte own is = sym (ap f is)
like-same f blind kind.Char own is = sym (ap f is)
like-same f blind kind.Short own is = sym (ap f is)
like-same f blind kind.Int own is = sym (ap f is)
like-same f blind kind.Long own is = sym (ap f is)

pub like-bits : (k own : Kind) → IsLike k own → int_bits k ≡ int_bits own
like-bits k own like = like-same int_bits (λ t u. refl) k own like

pub like-words : (k own : Kind) → IsLike k own → kind_words k ≡ kind_words own
like-words k own like = like-same kind_words (λ t u. refl) k own like

pub like-loaded : (source : Source) (k own : Kind) → IsLike k own → loaded k source ≡ loaded own source
like-loaded source k own like = like-same (λ k. loaded k source) (λ t u. refl) k own like

read_blind : (n : ℕ) (t u : TypeRef) → read (kind.Ref t) n ≡ read (kind.Ref u) n
unfolding read
read_blind n t u = refl

pub like-read : (n : ℕ) (k own : Kind) → IsLike k own → read k n ≡ read own n
like-read n k own like = like-same (λ k. read k n) (read_blind n) k own like

kept_blind : (v : Value) (t u : TypeRef) → kept (kind.Ref t) v ≡ kept (kind.Ref u) v
kept_blind value.Top t u = refl
kept_blind (value.Int n) t u = refl
kept_blind (value.Long n) t u = refl
kept_blind (value.Ref cell) t u = refl

pub like-kept : (v : Value) (k own : Kind) → IsLike k own → kept k v ≡ kept own v
like-kept v k own like = like-same (λ k. kept k v) (kept_blind v) k own like

-- what is put into an object
pub like-put : (x : State) (cell place slot : ℕ) (k own : Kind) (v : Value) → slot ≡ place → IsLike k own
    → record x { areas = put_value x.areas (ref cell) place k v } ≡ record x { areas = put_value x.areas (ref cell) slot own v }
like-put x cell place slot k own v at like =
    let areas = x.areas in
    λ i. record x { areas = record areas { store = put_by areas.store cell (sym at i) (like-kept v k own like i) } }

-- what putfield asks
pub like-asks : (frames : List Frame) (k own : Kind) → IsLike k own → AsksOfPut own frames → AsksOfPut k frames
like-asks frames (kind.Ref t) own like asks = subst (λ k. AsksOfPut k frames) like.1 asks
like-asks frames kind.Boolean own is asks = subst (λ k. AsksOfPut k frames) is asks
like-asks frames kind.Byte own is asks = subst (λ k. AsksOfPut k frames) is asks
like-asks frames kind.Char own is asks = subst (λ k. AsksOfPut k frames) is asks
like-asks frames kind.Short own is asks = subst (λ k. AsksOfPut k frames) is asks
like-asks frames kind.Int own is asks = subst (λ k. AsksOfPut k frames) is asks
like-asks frames kind.Long own is asks = subst (λ k. AsksOfPut k frames) is asks
