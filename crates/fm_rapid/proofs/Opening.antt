-- How the walk begins, and what is in whatever the methods do.
use Rattle.std.proofs.Common.{◌≡◌, ℕ, ◌<◌, Bool, true, false, List, [], length, replicate, Contains, sym, ◌∙◌, ap, subst, inl, ⊎_elim, arith, cond, reverse}
use Rattle.std.specs.List.{filter_map}
use Rattle.std.specs.Prelude.{codes, is_none}
use Rattle.std.proofs.lemmas.Bool.{cases_lt, false≢true}
use Rattle.std.proofs.lemmas.List.{get_or_past, get_or-replicate, length-replicate}
use Rattle.fm_base.proofs.ContainsFacts.{Contains-none}
use Rattle.fm_base.specs.Rows.{has}
use Rattle.fm_code.specs.AccessFlags.{is_static}
use Rattle.fm_base.proofs.RowFacts.{has-replicate}
use Rattle.fm_world.proofs.ElementLemmas.{Contains-from_filter_map}
use Rattle.fm_rapid.specs.Reach.{AreIn, IsClosed, starts_of}
use Rattle.fm_flow.specs.inner.LiveWalks.{list_of}
use Rattle.fm_rapid.specs.inner.Walks.{AreNeeded, Goes, IsNew, IsUnderWay, IsWalk, Sets}
use Rattle.fm_world.proofs.OwnedMethods.{own_method_found}
use Rattle.fm_world.specs.BuiltIns.{built_in}
use Rattle.fm_world.specs.Chains.{chain_of, class_at}
use Rattle.fm_world.specs.Members.{methods_of, start_of}
use Rattle.fm_world.specs.Programs.{Outline, Program}

-- ---- nothing is in

none_set : (n k : ℕ) → has (replicate n false) k ≡ true → ⊥
none_set n k is = false≢true (sym (has-replicate n k) ∙ is)

abbrev no_list : List ℕ
no_list = []

none_listed : (n k x : ℕ) → Contains (list_of (replicate n no_list) k) x → ⊥
none_listed n k x found = Contains-none x (subst (λ (xs : List ℕ). Contains xs x) (empty n k) found) where
  empty : (n k : ℕ) → list_of (replicate n no_list) k ≡ []
  empty n k = ⊎_elim (λ below. get_or-replicate n k no_list no_list below)
      (λ past. get_or_past (replicate n no_list) k no_list (let e = length-replicate n no_list in omega (arith, past, e))) (cases_lt k n)

pub is_new : (p : Program) (n k : ℕ) (methods made started : List Bool) (waiting : List ℕ) (called below : List (List ℕ)) → n ≡ length (methods_of p.outline.classes)
    → k ≡ length p.outline.classes → methods ≡ replicate n false → made ≡ replicate k false → started ≡ replicate k false → waiting ≡ []
    → called ≡ replicate k [] → below ≡ replicate k []
    → IsNew p (record { methods = methods; made = made; started = started; waiting = waiting; called = called; below = below })
is_new p n k methods made started waiting called below n_is k_is methods_is made_is started_is waiting_is called_is below_is = record {
  lengths = record {
    methods = ap length methods_is ∙ length-replicate n false ∙ n_is;
    made = ap length made_is ∙ length-replicate k false ∙ k_is;
    started = ap length started_is ∙ length-replicate k false ∙ k_is;
    called = ap length called_is ∙ length-replicate k no_list ∙ k_is;
    below = ap length below_is ∙ length-replicate k no_list ∙ k_is;
  };
  methods = λ m is. none_set n m (subst (λ (row : List Bool). has row m ≡ true) methods_is is);
  made = λ class is. none_set k class (subst (λ (row : List Bool). has row class ≡ true) made_is is);
  started = λ class is. none_set k class (subst (λ (row : List Bool). has row class ≡ true) started_is is);
  called = λ named m found. none_listed k named m (subst (λ (lists : List (List ℕ)). Contains (list_of lists named) m) called_is found);
  below = λ named class found. none_listed k named class (subst (λ (lists : List (List ℕ)). Contains (list_of lists named) class) below_is found);
  waiting = λ m waits. Contains-none m (subst (λ (xs : List ℕ). Contains xs m) waiting_is waits);
}

pub new_walk : (p : Program) (w : Sets) → IsNew p w → IsWalk p w
new_walk p w new = record {
  lengths = new.lengths;
  methods = λ m is. absurd (new.methods m is);
  made = λ class is. absurd (new.made class is);
  started = λ class is. absurd (new.started class is);
  called = λ named m found. absurd (new.called named m found);
  below = λ named class found. absurd (new.below named class found);
  selected = λ named m class target listed below is. absurd (new.called named m listed);
  waiting = λ m waits. absurd (new.waiting m waits);
}

-- ---- methods that start classes

-- each of them is a method that is there
pub starts_inside : (o : Outline) (class m : ℕ) → Contains (starts_of o class) m → m < length (methods_of o.classes)
unfolding starts_of
starts_inside o class m found = by_file (is_none (class_at o.classes class).file) found where
  by_file : (b : Bool) → Contains (cond b [] (filter_map (start_of o.classes) (reverse (chain_of o.classes class)))) m → m < length (methods_of o.classes)
  by_file true h = absurd (Contains-none m h)
  by_file false h =
      let from = Contains-from_filter_map (start_of o.classes) (reverse (chain_of o.classes class)) m h in
      (own_method_found o.classes is_static (codes "<clinit>") (codes "()V") from.0 m from.2).inside

-- in all closed sets, where they are in each
pub starts_needed : (p : Program) (class : ℕ) → ((methods made : List Bool) → IsClosed p methods made → AreIn methods (starts_of p.outline class))
    → AreNeeded p (starts_of p.outline class)
starts_needed p class are = λ m found. record {
  inside = starts_inside p.outline class m found;
  needed = λ methods made closed. are methods made closed m found;
}

-- ---- the opening

-- from nothing on, all that is in waits or is received
pub under_way : (p : Program) (w x : Sets) → IsNew p w → Goes p w x → has x.methods p.outline.main ≡ true
    → AreIn x.methods (starts_of p.outline p.outline.main_class) → ((class : ℕ) → class < length built_in → has x.made class ≡ true) → IsUnderWay p x
under_way p w x new goes main opening built_ins = record {
  walk = goes.walk;
  main = main;
  opening = opening;
  built_in = built_ins;
  done = λ m is. ⊎_elim (λ old. absurd (new.methods m old)) (λ waits. inl waits) (goes.went.entered m is);
  received = λ class is. ⊎_elim (λ old. absurd (new.made class old)) (λ got. got) (goes.went.received class is);
}
