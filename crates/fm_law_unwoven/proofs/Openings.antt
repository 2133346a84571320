-- The opening of a run of the second program, beside that of the first one on the same memory.
use Rattle.std.proofs.Common.{◌≡◌, ℕ, suc, ◌+◌, Bool, true, false, cond, List, [], ◌∷◌, ◌++◌, length, Some, None, nat_lt, refl, sym, subst, ◌∙◌, arith}
use Rattle.std.specs.List.{slice_index_or}
use Rattle.fm_cells.specs.Sizes.{cell_words}
use Rattle.fm_cells.specs.Stores.{live_words, Store}
use Rattle.fm_frames.specs.Acts.{Choose, Did, FullAt, LostAt, performed, Performed}
use Rattle.fm_frames.specs.Effects.{Action}
use Rattle.fm_frames.specs.Runs.{after_action, first_areas, framed, Job, opened_by, opening, opening_actions, unopened, with_streams}
use Rattle.fm_frames.specs.Starts.{start_actions, start_methods, to_start}
use Rattle.fm_frames.specs.States.{Frame, ref, State}
use Rattle.fm_frames.specs.Steps.{is_over, new_frame, start_frames, stopped, words_made}
use Rattle.fm_frames.specs.declared.ends.Ended.{Ended}
use Rattle.fm_frames.specs.declared.ends.Ended.TheVariants as end
use Rattle.fm_law_unwoven.specs.Kept.{but_frames}
use Rattle.fm_world.specs.Programs.{Outline, Program}

-- the frames at the opening, with main's number from the first program
abbrev pub opened_frames : (p of : Program) → List ℕ → ℕ → List Frame
opened_frames p of methods arguments = start_frames of methods ++ new_frame of p.outline.main (ref arguments ∷ []) ∷ []

-- Both runs have ended; or both go on in main and the methods that start its class; or no frame was opened.
pub data Opened (p q : Program) (x y : State) : Type 0 where
  BothEnd : (e : Ended) → x.ended ≡ Some e → but_frames y ≡ but_frames x → Opened p q x y
  BothOpen : (classes : List ℕ) (arguments : ℕ) → x.ended ≡ None → x.frames ≡ opened_frames p p (start_methods p.outline classes) arguments
      → y ≡ record x { frames = opened_frames p q (start_methods p.outline classes) arguments } → Opened p q x y
  NoneOpens : x.frames ≡ [] → x.ended ≡ None → Opened p q x y

starts_length : (of : Program) (methods : List ℕ) (below : List Frame) → length (start_frames of methods ++ below) ≡ length methods + length below
starts_length of [] below = let same : length below ≡ 0 + length below = omega arith in same
starts_length of (m ∷ methods) below =
    let rest = starts_length of methods below in
    let same : suc (length (start_frames of methods ++ below)) ≡ suc (length methods) + length below = omega (arith, rest) in same

module _ (p q : Program) (outline : q.outline ≡ p.outline) (choose : Choose) where
  either_opened : (b : Bool) (x y u v : State) → Opened p q x y → Opened p q u v → Opened p q (cond b x u) (cond b y v)
  either_opened true x y u v first second = first
  either_opened false x y u v first second = second

  -- what follows is alike from each state without frames that goes on
  abbrev FollowAlike : (State → List ℕ → State) → (State → List ℕ → State) → Type 0
  FollowAlike one other = (x : State) (made : List ℕ) → x.frames ≡ [] → x.ended ≡ None → Opened p q (one x made) (other x made)

  acted : (x : State) (result : Performed) (one other : State → List ℕ → State) → FollowAlike one other → x.frames ≡ [] → x.ended ≡ None
      → Opened p q (after_action x result one) (after_action x result other)
  acted x (Did areas made) one other follow none going = follow (record x { areas = areas }) made none going
  acted x (FullAt areas needed) one other follow none going = BothEnd (end.StoreFull areas.store.made_words (cell_words needed)) refl refl
  acted x (LostAt v) one other follow none going = NoneOpens none going

  opened : (actions : List Action) (x : State) (made : List ℕ) (one other : State → List ℕ → State) → FollowAlike one other → x.frames ≡ [] → x.ended ≡ None
      → Opened p q (opened_by p choose actions x made one) (opened_by q choose actions x made other)
  opened [] x made one other follow none going = follow x made none going
  opened (action ∷ more) x made one other follow none going =
      subst (λ (o : Outline).
      Opened p q (opened_by p choose (action ∷ more) x made one)
      (cond (is_over o x.areas (action ∷ []))
      (stopped x (end.Exhausted (live_words x.areas.store) (words_made o x.areas (action ∷ []))))
      (after_action x (performed o choose [] [] (action ∷ []) x.areas made) (λ y cells. opened_by q choose more y cells other))))
      (sym outline)
      (either_opened (is_over p.outline x.areas (action ∷ [])) _ _ _ _
      (BothEnd (end.Exhausted (live_words x.areas.store) (words_made p.outline x.areas (action ∷ []))) refl refl)
      (acted x (performed p.outline choose [] [] (action ∷ []) x.areas made) _ _
      (λ y cells bare goes. opened more y cells one other follow bare goes) none going))

  -- main's frame comes last, below those that its class's start needs
  frames_open : (classes : List ℕ) (arguments : ℕ) (x : State) → x.ended ≡ None
      → Opened p q (framed x (opened_frames p p (start_methods p.outline classes) arguments)) (framed x (opened_frames p q (start_methods p.outline classes) arguments))
  frames_open classes arguments x going =
      let methods = start_methods p.outline classes in
      let one = opened_frames p p methods arguments in
      let other = opened_frames p q methods arguments in
      let same : length one ≡ length other =
      starts_length p methods (new_frame p p.outline.main (ref arguments ∷ []) ∷ [])
      ∙ sym (starts_length q methods (new_frame q p.outline.main (ref arguments ∷ []) ∷ [])) in
      subst (λ n. Opened p q (framed x one)
      (cond (nat_lt x.depth n) (stopped (record x { frames = [] }) (end.TooDeep 1)) (record x { frames = other }))) same
      (either_opened (nat_lt x.depth (length one)) _ _ _ _ (BothEnd (end.TooDeep 1) refl refl)
      (BothOpen classes arguments going refl refl))

  pub openings : (job : Job) (store : Store) → Opened p q (opening p choose job store).state (opening q choose job store).state
  unfolding opening
  openings job store =
      subst (λ (o : Outline). Opened p q (opening p choose job store).state (second o)) (sym outline)
      (opened (opening_actions p.outline job) (unopened p job (first_areas p.outline store)) [] _ _
      (λ x made bare going. opened (start_actions p.outline (classes_of p.outline)) (record x { areas = with_streams x.areas made }) made _ _
      (λ y cells none goes. frames_open (classes_of p.outline) (slice_index_or made 2 0) y goes) bare going) refl refl) where
        classes_of : Outline → List ℕ
        classes_of o = to_start o (first_areas o store).started o.main_class

        -- the opening of the second program, by its outline
        second : Outline → State
        second o =
            opened_by q choose (opening_actions o job) (unopened q job (first_areas o store)) []
            (λ x made. opened_by q choose (start_actions o (classes_of o)) (record x { areas = with_streams x.areas made }) made
            (λ y cells. framed y (start_frames q (start_methods o (classes_of o)) ++ new_frame q o.main (ref (slice_index_or made 2 0) ∷ []) ∷ [])))
