-- What a make, a free, a put and a change of a chain do to a store: each changes one cell alone, and the words and
-- the counts follow.
use Rattle.std.proofs.Common.{◌≡◌, ℕ, ◌+◌, Bool, cond, List, refl, ◌∙◌, ap, nat_eq, arith, length-set}
use Rattle.std.proofs.lemmas.List.{length-replicate}
use Rattle.std.specs.Prelude.{Option, Some, None}
use Rattle.std.specs.FinMap.{gets}
use Rattle.std.proofs.lemmas.Bool.Decides.{nat_tests}
use Rattle.fm_cells.specs.Sizes.{packed_words, size_class}
use Rattle.fm_cells.specs.Objects.{Object, object_words, size_class_of, Request, request_words, request_size_class, new_object}
use Rattle.fm_cells.specs.Stores.{Store, opened, object_at, live_words, held_count, words_needed}
use Rattle.fm_cells.specs.Changes.{Take, made_by, without_object, with_object, with_element, with_chain}
use Rattle.fm_cells.proofs.Maps.{total-empty, total-insert_new, total-remove, total-insert_held}

-- 1 for an object of a size class, and 0 for any other
abbrev pub of_class : ℕ → ℕ → ℕ
of_class k size_class = cond (nat_eq size_class k) 1 0

-- a make changes one cell alone
pub object_at-made_by : (store : Store) (request : Request) (cell : ℕ) (grows : Bool) (q : ℕ) → object_at (made_by store request (Take cell grows)) q ≡ cond (nat_eq q cell) (Some (new_object store.births request)) (object_at store q)
object_at-made_by store request cell grows q = grind (arith, gets, nat_tests)

-- a free changes one cell alone
pub object_at-without_object : (store : Store) (cell : ℕ) (object : Object) (q : ℕ) → object_at (without_object store cell object) q ≡ cond (nat_eq q cell) None (object_at store q)
object_at-without_object store cell object q = grind (arith, gets, nat_tests)

-- a put, or a change of a chain, changes one cell alone
pub object_at-with_object : (store : Store) (cell : ℕ) (object : Object) (q : ℕ) → object_at (with_object store cell object) q ≡ cond (nat_eq q cell) (Some object) (object_at store q)
object_at-with_object store cell object q = grind (arith, gets, nat_tests)

-- nothing lives in an opened store
pub live_words-opened : (budget : ℕ) (limit : Option ℕ) (free : List (List ℕ)) → live_words (opened budget limit free) ≡ 0
live_words-opened budget limit free = total-empty object_words

pub held_count-opened : (budget : ℕ) (limit : Option ℕ) (free : List (List ℕ)) (k : ℕ) → held_count (opened budget limit free) k ≡ 0
held_count-opened budget limit free k = total-empty (λ object. of_class k (size_class_of object))

-- each make is one birth
pub births-made_by : (store : Store) (request : Request) (cell : ℕ) (grows : Bool) → (made_by store request (Take cell grows)).births ≡ store.births + 1
births-made_by store request cell grows = refl

-- the object that a request makes has the words of the request
pub object_words-new_object : (birth : ℕ) (request : Request) → object_words (new_object birth request) ≡ request_words request
object_words-new_object birth request = ap (λ len. packed_words len request.pack) (length-replicate request.len 0)

-- and its size class
pub size_class_of-new_object : (birth : ℕ) (request : Request) → size_class_of (new_object birth request) ≡ request_size_class request
size_class_of-new_object birth request = ap size_class (object_words-new_object birth request)

-- a make in a cell that isn't held adds the words of the request
pub live_words-made_by : (store : Store) (request : Request) (cell : ℕ) (grows : Bool) → object_at store cell ≡ None → live_words (made_by store request (Take cell grows)) ≡ words_needed store request
live_words-made_by store request cell grows free =
    total-insert_new object_words store.held cell (new_object store.births request) free
    ∙ ap (λ words. live_words store + words) (object_words-new_object store.births request)

-- a make in a cell that isn't held adds one to the held objects of its size class
pub held_count-made_by : (store : Store) (request : Request) (cell : ℕ) (grows : Bool) (k : ℕ) → object_at store cell ≡ None → held_count (made_by store request (Take cell grows)) k ≡ held_count store k + of_class k (request_size_class request)
held_count-made_by store request cell grows k free =
    total-insert_new (λ object. of_class k (size_class_of object)) store.held cell (new_object store.births request) free
    ∙ ap (λ class. held_count store k + of_class k class) (size_class_of-new_object store.births request)

-- a free takes the words of the object away
pub live_words-without_object : (store : Store) (cell : ℕ) (object : Object) → object_at store cell ≡ Some object → live_words (without_object store cell object) + object_words object ≡ live_words store
live_words-without_object store cell object held = total-remove object_words store.held cell object held

-- a free takes one from the held objects of the size class
pub held_count-without_object : (store : Store) (cell : ℕ) (object : Object) (k : ℕ) → object_at store cell ≡ Some object → held_count (without_object store cell object) k + of_class k (size_class_of object) ≡ held_count store k
held_count-without_object store cell object k held = total-remove (λ object. of_class k (size_class_of object)) store.held cell object held

-- another object with the words of the old one leaves the live words as they are
pub live_words-with_object : (store : Store) (cell : ℕ) (old object : Object) → object_at store cell ≡ Some old → object_words object ≡ object_words old → live_words (with_object store cell object) ≡ live_words store
live_words-with_object store cell old object held same = omega (arith, total-insert_held object_words store.held cell old object held)

-- and the held objects of each size class
pub held_count-with_object : (store : Store) (cell : ℕ) (old object : Object) (k : ℕ) → object_at store cell ≡ Some old → object_words object ≡ object_words old → held_count (with_object store cell object) k ≡ held_count store k
held_count-with_object store cell old object k held same =
    let class : of_class k (size_class_of object) ≡ of_class k (size_class_of old) = ap (λ words. of_class k (size_class words)) same in
    omega (arith, class, total-insert_held (λ object. of_class k (size_class_of object)) store.held cell old object held)

-- another element, or another chain, leaves the words of an object as they are
pub object_words-with_element : (object : Object) (place element : ℕ) → object_words (with_element object place element) ≡ object_words object
object_words-with_element object place element = ap (λ len. packed_words len object.pack) (length-set object.elements place element)

pub object_words-with_chain : (object : Object) (to : ℕ) → object_words (with_chain object to) ≡ object_words object
object_words-with_chain object to = refl
