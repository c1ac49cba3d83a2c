-- A loop that makes a step for each item of a row.
use Rattle.std.proofs.Common.{◌≡◌, ◌+◌, ◌<◌, ◌≤◌, ℕ, suc, Bool, List, [], ◌∷◌, ◌++◌, length, take, drop, get_or, Result, Ok, Err, sym, ap, subst, ◌∙◌, drop-cons}
use Rattle.std.proofs.lemmas.List.{take_more, take-append-drop, take_all}
use Rattle.std.specs.Prelude.{IsTrue}
use Rattle.sed_outside.specs.declared.files.Files.{Ghosts}
use Rattle.sed_outside.specs.Steps.{Read, Each, UnlessFree}
use Rattle.sed_outside.specs.Reads.{HasReads}
use Rattle.sed_outside.proofs.Joining.{each_none, each_step, each_ends, both_reads, wanted}

pub row_begins : {T E X Y : Type 0} (F : Ghosts T) (a : T) (one : X → List Read → Result Y E → Type 0) (ys : List Y) → ys ≡ []
    → HasReads F a a (λ reads. Each one [] reads (Ok ys))
row_begins F a one ys none = subst (λ (zs : List _). HasReads F a a (λ reads. Each one [] reads (Ok zs))) (sym none) (each_none F a one)

-- one item more, its value put behind the others
pub row_goes : {T E X Y : Type 0} (F : Ghosts T) (a b c : T) (one : X → List Read → Result Y E → Type 0) (xs : List X) (i : ℕ) (x : X) (ys zs : List Y) (y : Y)
    → i < length xs → x ≡ get_or xs i x → zs ≡ ys ++ y ∷ []
    → HasReads F a b (λ reads. Each one (take i xs) reads (Ok ys)) → HasReads F b c (λ reads. one x reads (Ok y))
    → HasReads F a c (λ reads. Each one (take (i + 1) xs) reads (Ok zs))
row_goes {T} {E} {X} {Y} F a b c one xs i x ys zs y within item pushed done last =
    let items : take i xs ++ x ∷ [] ≡ take (i + 1) xs = ap (λ (z : X). take i xs ++ z ∷ []) item ∙ sym (take_more xs i x within) in
    subst (λ (all : List X). HasReads F a c (λ reads. Each one all reads (Ok zs))) items
    (subst (λ (values : List Y). HasReads F a c (λ reads. Each one (take i xs ++ x ∷ []) reads (Ok values))) (sym pushed)
    (each_step F a b c one (take i xs) x ys y done last))

-- an item that is refused
pub row_stops : {T E X Y : Type 0} (F : Ghosts T) (a b c : T) (free : E → Bool) (one : X → List Read → Result Y E → Type 0) (xs : List X) (i : ℕ) (x : X) (ys : List Y) (refusal : E)
    → i < length xs → x ≡ get_or xs i x
    → HasReads F a b (λ reads. Each one (take i xs) reads (Ok ys)) → HasReads F b c (λ reads. UnlessFree free (one x reads) (Err refusal))
    → HasReads F a c (λ reads. UnlessFree free (Each one xs reads) (Err refusal))
row_stops {T} {E} {X} {Y} F a b c free one xs i x ys refusal within item done last =
    let items : take i xs ++ x ∷ drop (suc i) xs ≡ xs =
    ap (λ (z : X). take i xs ++ z ∷ drop (suc i) xs) item ∙ ap (λ (rest : List X). take i xs ++ rest) (sym (drop-cons xs i x within)) ∙ take-append-drop i xs in
    subst (λ (all : List X). HasReads F a c (λ reads. UnlessFree free (Each one all reads) (Err refusal))) items
    (each_ends F a b c free one (take i xs) x (drop (suc i) xs) ys refusal done last)

-- all items
pub row_ends : {T E X Y : Type 0} (F : Ghosts T) (a b : T) (one : X → List Read → Result Y E → Type 0) (xs : List X) (i : ℕ) (ys zs : List Y) → length xs ≤ i → zs ≡ ys
    → HasReads F a b (λ reads. Each one (take i xs) reads (Ok ys)) → HasReads F a b (λ reads. Each one xs reads (Ok zs))
row_ends {T} {E} {X} {Y} F a b one xs i ys zs all same done =
    subst (λ (items : List X). HasReads F a b (λ reads. Each one items reads (Ok zs))) (take_all i xs all)
    (subst (λ (values : List Y). HasReads F a b (λ reads. Each one (take i xs) reads (Ok values))) (sym same) done)

-- want of memory behind what was read
pub row_wants : {T E X Y : Type 0} (F : Ghosts T) (a b c : T) (free : E → Bool) (one : X → List Read → Result Y E → Type 0) (xs : List X) (P Q : List Read → Type 0) (refusal : E) → IsTrue (free refusal)
    → HasReads F a b P → HasReads F b c Q → HasReads F a c (λ reads. UnlessFree free (Each one xs reads) (Err refusal))
row_wants {T} {E} {X} {Y} F a b c free one xs P Q refusal is done last =
    wanted F a c free (λ reads. Unit {0}) (λ (reads : List Read) (end : Result (List Y) E). Each one xs reads end) refusal is
    (both_reads F a b c P Q (λ reads. Unit {0}) (λ front back p q. tt) done last)
