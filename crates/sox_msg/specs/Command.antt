-- Which payloads are requests, and which.
use Rattle.std.specs.Prelude.{◌≡◌, ℕ, ◌/◌, ◌%◌, ◌<◌, Bool, ◌==◌, not, IsTrue, List, [], ◌∷◌, ◌++◌, length, codes, ⊤}
use Rattle.std.specs.List.{list_any}
use Rattle.sed_wire.specs.Text.{is_text}

-- a command without where its bytes lie in memory
pub data Asked : Type 0 where
  add : ℕ → ℕ → ℕ → List ℕ → List ℕ → Asked
  read_part : ℕ → ℕ → Asked
  delete : ℕ → Asked
  invoke : ℕ → ℕ → List ℕ → Asked
  link : ℕ → ℕ → ℕ → ℕ → Asked
  unlink : ℕ → ℕ → ℕ → ℕ → Asked
  rename : ℕ → List ℕ → Asked
  reorder : ℕ → List ℕ → Asked
  read_slot : ℕ → ℕ → Asked
  subscribe : ℕ → ℕ → Asked
  unsubscribe : ℕ → ℕ → Asked
  version : Asked
  write : ℕ → ℕ → List ℕ → Asked
  clear : ℕ → Asked

-- a number in two bytes, the higher one first
abbrev pub u2 : ℕ → List ℕ
u2 n = n / 256 ∷ n % 256 ∷ []

-- a text, and the 0 that ends it
abbrev pub str : List ℕ → List ℕ
str text = text ++ 0 ∷ []

abbrev pub letter_of : Asked → ℕ
letter_of (add parent kit kind name config) = 97
letter_of (read_part id part) = 99
letter_of (delete id) = 100
letter_of (invoke id slot arg) = 105
letter_of (link source from_slot target to_slot) = 108
letter_of (unlink source from_slot target to_slot) = 108
letter_of (rename id name) = 110
letter_of (reorder id children) = 111
letter_of (read_slot id slot) = 114
letter_of (subscribe id mask) = 115
letter_of (unsubscribe id mask) = 117
letter_of version = 118
letter_of (write id slot value) = 119
letter_of (clear id) = 120

-- what stands behind the letter and the number; children are two bytes each
abbrev pub body_of : Asked → List ℕ
body_of (add parent kit kind name config) = u2 parent ++ (kit ∷ kind ∷ (str name ++ config))
body_of (read_part id part) = u2 id ++ part ∷ []
body_of (delete id) = u2 id
body_of (invoke id slot arg) = u2 id ++ slot ∷ arg
body_of (link source from_slot target to_slot) = 97 ∷ (u2 source ++ from_slot ∷ (u2 target ++ to_slot ∷ []))
body_of (unlink source from_slot target to_slot) = 100 ∷ (u2 source ++ from_slot ∷ (u2 target ++ to_slot ∷ []))
body_of (rename id name) = u2 id ++ str name
body_of (reorder id children) = u2 id ++ length children / 2 ∷ children
body_of (read_slot id slot) = u2 id ++ slot ∷ []
body_of (subscribe id mask) = u2 id ++ mask ∷ []
body_of (unsubscribe id mask) = u2 id ++ mask ∷ []
body_of version = []
body_of (write id slot value) = u2 id ++ slot ∷ value
body_of (clear id) = u2 id

-- a letter of a part
abbrev pub is_part : ℕ → Bool
is_part letter = list_any (λ known. known == letter) (codes "tcrlf")

abbrev pub IsId : ℕ → Type 0
IsId id = id < 65536

-- what the parts of a command have to be
abbrev pub CanBeAsked : Asked → Type 0
CanBeAsked (add parent kit kind name config) = IsId parent × IsTrue (is_text name)
CanBeAsked (read_part id part) = IsId id × IsTrue (is_part part)
CanBeAsked (delete id) = IsId id
CanBeAsked (invoke id slot arg) = IsId id
CanBeAsked (link source from_slot target to_slot) = IsId source × IsId target
CanBeAsked (unlink source from_slot target to_slot) = IsId source × IsId target
CanBeAsked (rename id name) = IsId id × IsTrue (is_text name)
CanBeAsked (reorder id children) = IsId id × (length children % 2 ≡ 0)
CanBeAsked (read_slot id slot) = IsId id
CanBeAsked (subscribe id mask) = IsId id × (mask < 16)
CanBeAsked (unsubscribe id mask) = IsId id × (mask < 16)
CanBeAsked version = ⊤
CanBeAsked (write id slot value) = IsId id
CanBeAsked (clear id) = IsId id

pub record Asking : Type 0 where
  pub number : ℕ
  pub command : Asked

-- a request is the letter of its command, its number, and the command's body
pub record IsRequest (payload : List ℕ) (request : Asking) : Type 0 where
  pub can : CanBeAsked request.command
  pub text : payload ≡ letter_of request.command ∷ request.number ∷ body_of request.command

abbrev pub is_letter : ℕ → Bool
is_letter letter = list_any (λ known. known == letter) (codes "acdilnorsuvwx")

-- a payload whose first byte is no command's letter
abbrev pub HasUnknownLetter : List ℕ → Type 0
HasUnknownLetter (letter ∷ number ∷ body) = IsTrue (not (is_letter letter))
HasUnknownLetter payload = ⊥

-- a payload that is no request, though its letter is known or it has fewer than two bytes
pub record IsMalformed (payload : List ℕ) : Type 0 where
  pub known : HasUnknownLetter payload → ⊥
  pub none : (request : Asking) → IsRequest payload request → ⊥

-- the number that the reply carries, whatever else the payload is
abbrev pub number_in : List ℕ → ℕ
number_in (letter ∷ number ∷ body) = number
number_in payload = 255
