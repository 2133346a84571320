-- Objects, and what is asked for when one is made.
use Rattle.std.specs.Prelude.{ℕ, ◌^◌, ◌<◌, Bool, List, length, replicate, refl}
use Rattle.std.specs.List.{All}
use Rattle.std.specs.Coded.{Coded, code_by, coded×, coded_ℕ, coded_bool, coded_list}
use Rattle.fm_cells.specs.declared.headers.TheConstants.{BIRTH_BITS, CHAIN_BITS, CLASS_BITS, LEN_BITS}
use Rattle.fm_cells.specs.Sizes.{IsPack, element_bits, packed_words, size_class}

-- an object: the number of its type, how many were made before it, the elements in a word, whether it lives for
-- ever, the cell that it is chained to (0 for none), and its elements
pub record Object : Type 0 where
  pub class : ℕ
  pub birth : ℕ
  pub pack : ℕ
  pub fixed : Bool
  pub chain : ℕ
  pub elements : List ℕ

-- an object is stored as the tuple of its fields
abbrev pub object_code : Coded Object
object_code =
    code_by (ℕ × (ℕ × (ℕ × (Bool × (ℕ × List ℕ)))))
    (coded× coded_ℕ (coded× coded_ℕ (coded× coded_ℕ (coded× coded_bool (coded× coded_ℕ (coded_list coded_ℕ))))))
    (λ o. (o.class, (o.birth, (o.pack, (o.fixed, (o.chain, o.elements))))))
    (λ t. record { class = t.0; birth = t.1.0; pack = t.1.1.0; fixed = t.1.1.1.0; chain = t.1.1.1.1.0; elements = t.1.1.1.1.1 })
    (λ _. refl)

-- the words of an object
abbrev pub object_words : Object → ℕ
object_words object = packed_words (length object.elements) object.pack

-- the size class of an object
abbrev pub size_class_of : Object → ℕ
size_class_of object = size_class (object_words object)

-- each number of an object lies in its range
pub record IsObject (object : Object) : Type 0 where
  pub class_fits : object.class < 2 ^ CLASS_BITS
  pub birth_fits : object.birth < 2 ^ BIRTH_BITS
  pub pack_is : IsPack object.pack
  pub chain_fits : object.chain < 2 ^ CHAIN_BITS
  pub length_fits : length object.elements < 2 ^ LEN_BITS
  pub elements_fit : All (λ element. element < 2 ^ element_bits object.pack) object.elements

-- what is asked for when an object is made
pub record Request : Type 0 where
  pub class : ℕ
  pub len : ℕ
  pub pack : ℕ
  pub fixed : Bool

-- a request by its parts
abbrev pub request_of : ℕ → ℕ → ℕ → Bool → Request
request_of class len pack fixed = record { class = class; len = len; pack = pack; fixed = fixed }

-- the words that a request needs
abbrev pub request_words : Request → ℕ
request_words request = packed_words request.len request.pack

-- the size class of the cell that a request needs
abbrev pub request_size_class : Request → ℕ
request_size_class request = size_class (request_words request)

-- each number of a request lies in its range
pub record IsRequest (request : Request) : Type 0 where
  pub class_fits : request.class < 2 ^ CLASS_BITS
  pub len_fits : request.len < 2 ^ LEN_BITS
  pub pack_is : IsPack request.pack

-- the object as it is made: its chain and its elements are 0
abbrev pub new_object : ℕ → Request → Object
new_object birth request =
    record {
      class = request.class;
      birth = birth;
      pack = request.pack;
      fixed = request.fixed;
      chain = 0;
      elements = replicate request.len 0;
    }
