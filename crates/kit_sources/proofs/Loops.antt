-- Loops that make a step for each item of a row.
use Rattle.std.proofs.Common.{◌≡◌, ◌+◌, ◌<◌, ℕ, zero, suc, List, [], ◌∷◌, ◌++◌, length, take, get_or, Result, Ok, Err, String, Global, refl, sym, ap, subst, ◌∙◌, arith}
use Rattle.std.specs.Prelude.{All, Contains, IsErrAnd, IsTrue, string_bytes}
use Rattle.std.specs.List.{flat_map}
use Rattle.std.proofs.Math.ListN.{get_or-map}
use Rattle.std.proofs.lemmas.List.{length-map, get_or_read, flat_map_more, take_more}
use Rattle.std.proofs.lemmas.List.Elements.{All-append, Contains-get_or}
use Rattle.sed_outside.specs.declared.files.Files.{Ghosts}
use Rattle.sed_outside.specs.Steps.{Read, Each, UnlessFree}
use Rattle.sed_outside.specs.Reads.{HasReads}
use Rattle.sed_outside.proofs.Rows.{row_wants}
use Rattle.kit_sources.specs.declared.refusal.SourcesRefusal.{SourcesRefusal}
use Rattle.kit_sources.specs.declared.refusal.SourcesRefusal.TheVariants.{Memory}
use Rattle.kit_sources.specs.Refusals.{is_want}
use Rattle.kit_sources.specs.Sources.{names_of}

-- want of memory behind what was read
pub row_wanted : {T X Y : Type 0} (F : Ghosts T) (a b c : T) (one : X → List Read → Result Y SourcesRefusal → Type 0) (xs : List X) (P Q : List Read → Type 0)
    (r : Result (List Y) SourcesRefusal) → IsErrAnd r (λ refusal. refusal ≡ Memory) → HasReads F a b P → HasReads F b c Q
    → HasReads F a c (λ reads. UnlessFree is_want (Each one xs reads) r)
row_wanted F a b c one xs P Q (Ok ys) is done last = absurd is
row_wanted F a b c one xs P Q (Err refusal) is done last =
    row_wants F a b c is_want one xs P Q refusal (subst (λ (r : SourcesRefusal). IsTrue (is_want r)) (sym is) refl) done last

-- the item behind a reference
pub same_item : {X : Type 0} (xs : List X) (i : ℕ) (x y : X) → x ≡ y → y ≡ get_or xs i y → x ≡ get_or xs i x
same_item xs i x y same item = subst (λ z. z ≡ get_or xs i z) (sym same) item

-- the bytes of a word
pub named : (words : List (String Global)) (i : ℕ) (word : String Global) (name : List ℕ) → name ≡ string_bytes word → word ≡ get_or words i word
    → name ≡ get_or (names_of words) i name
named words i word name same item =
    same_item (names_of words) i name (string_bytes word) same (ap string_bytes item ∙ sym (get_or-map string_bytes words i word))

pub named_within : (words : List (String Global)) (i : ℕ) → i < length words → i < length (names_of words)
named_within words i within = subst (λ n. i < n) (sym (length-map words (λ (word : String Global). string_bytes word))) within

-- the bytes of the word of a number
pub name_is : (words : List (String Global)) (i : ℕ) (word : String Global) (name : List ℕ) → i < length words → name ≡ string_bytes word → word ≡ get_or words i word
    → name ≡ get_or (names_of words) i []
name_is words i word name within same item =
    get_or_read (names_of words) i name (named_within words i within) (named words i word name same item) []

all_one : {X : Type 0} (P : X → Type 0) (x : X) → P x → All P (x ∷ [])
all_one P x one zero d within = one
all_one P x one (suc k) d within = absurd (omega arith)

-- one more of which it holds
pub all_more : {X : Type 0} (P : X → Type 0) (xs ys : List X) (x : X) → ys ≡ xs ++ x ∷ [] → All P xs → P x → All P ys
all_more P xs ys x pushed all one = subst (λ zs. All P zs) (sym pushed) (All-append P xs (x ∷ []) all (all_one P x one))

-- places within a list
pub all_within : (n : ℕ) (order places : List ℕ) → places ≡ order → ((i : ℕ) → Contains order i → i < n) → All (λ place. place < n) places
all_within n order places same within =
    subst (λ (ps : List ℕ). All (λ place. place < n) ps) (sym same) (λ k d inside. within (get_or order k d) (Contains-get_or order k d inside))

-- the texts of one item more
pub flat_more : {X Y : Type 0} (f : X → List Y) (xs : List X) (i : ℕ) (x : X) (ys zs : List Y) → i < length xs → x ≡ get_or xs i x
    → ys ≡ flat_map f (take i xs) → zs ≡ ys ++ f x → zs ≡ flat_map f (take (i + 1) xs)
flat_more f xs i x ys zs within item done more =
    more ∙ ap (λ (all : List _). all ++ f x) done ∙ flat_map_more f [] (take i xs) x
    ∙ ap (flat_map f) (ap (λ z. take i xs ++ z ∷ []) item ∙ sym (take_more xs i x within))
