-- Instructions stand among their bytes, one behind the other.
use Rattle.std.proofs.Common.{◌≡◌, ◌≤◌, ℕ, zero, suc, ◌+◌, List, [], ◌∷◌, ◌++◌, length, take, drop, Option, Some, None, refl, sym, ap, ◌∙◌, arith, append_assoc}
use Rattle.std.specs.Prelude.{All}
use Rattle.std.proofs.Math.Seq.{drop-append_seam, take-append_seam, drop-length}
use Rattle.std.proofs.lemmas.Grind.{flat_map-append}
use Rattle.scode_ops.specs.declared.op.Op.{Op}
use Rattle.scode_ops.specs.Codes as codes
use Rattle.scode_ops.specs.Codes.{IsOp, StandsAt}
use Rattle.scode_ops.specs.Decoding.{op_at, front_op, size_of}
use Rattle.scode_code.specs.CodeRules.{starts, starts_from, starts_on}
use Rattle.scode_emit.specs.Code.{bytes_of}
use Rattle.scode_emit.specs.Starts.{starts_of}
use Rattle.scode_emit.proofs.Counts.{count, count-bytes, count-append}

bytes-append : (a b : List Op) → bytes_of (a ++ b) ≡ bytes_of a ++ bytes_of b
bytes-append a b = flat_map-append codes.code_of a b

behind_is : (before behind : List Op) (i : Op) → drop (length (bytes_of before)) (bytes_of (before ++ i ∷ behind)) ≡ codes.code_of i ++ bytes_of behind
behind_is before behind i =
    ap (drop (length (bytes_of before))) (bytes-append before (i ∷ behind)) ∙ drop-append_seam (bytes_of before) (codes.code_of i ++ bytes_of behind)

pub stands : (before behind : List Op) (i : Op) → IsOp i → StandsAt (bytes_of (before ++ i ∷ behind)) (length (bytes_of before)) i
stands before behind i is = record {
  is = is;
  begins = ap (take (length (codes.code_of i))) (behind_is before behind i) ∙ take-append_seam (codes.code_of i) (bytes_of behind);
}

abbrev pub Found : Type 0
Found = (bytes : List ℕ) (at : ℕ) (i : Op) → StandsAt bytes at i → op_at bytes at ≡ Some i

pub stands_found : Found → (before behind : List Op) (i : Op) → IsOp i → op_at (bytes_of (before ++ i ∷ behind)) (length (bytes_of before)) ≡ Some i
stands_found found before behind i is = found (bytes_of (before ++ i ∷ behind)) (length (bytes_of before)) i (stands before behind i is)

first_of_all : (i : Op) (is : List Op) → All IsOp (i ∷ is) → IsOp i
first_of_all i is all = all 0 i (omega arith)

rest_of_all : (i : Op) (is : List Op) → All IsOp (i ∷ is) → All IsOp is
rest_of_all i is all = λ k d lt. all (suc k) d (let l : k ≤ length is = omega (arith, lt) in omega (arith, lt))

-- nothing stands behind all bytes
none_behind : (ops : List Op) → op_at (bytes_of ops) (count ops) ≡ None
none_behind ops = ap (op_at (bytes_of ops)) (sym (count-bytes ops)) ∙ ap front_op (drop-length (bytes_of ops))

starts_on_are : (found : Found) (n : ℕ) (before ops : List Op) → All IsOp ops → count ops ≤ n → starts_from n (count before) (bytes_of (before ++ ops)) ≡ starts_of (count before) ops
starts_on_are found zero before [] all le = refl
starts_on_are found zero before (i ∷ is) all le = absurd (omega (arith, le))
starts_on_are found (suc n) before [] all le =
    let code : List ℕ = bytes_of (before ++ []) in
    let end : count before ≡ count (before ++ []) = let e = count-append before [] in omega arith in
    ap (λ (o : Option Op). starts_on (λ next. starts_from n next code) (count before) o) (ap (op_at code) end ∙ none_behind (before ++ []))
starts_on_are found (suc n) before (i ∷ is) all le =
    let code : List ℕ = bytes_of (before ++ i ∷ is) in
    let here : op_at code (count before) ≡ Some i =
    ap (op_at code) (sym (count-bytes before)) ∙ stands_found found before is i (first_of_all i is all) in
    let front : List Op = before ++ i ∷ [] in
    let next : count front ≡ count before + size_of i = let e = count-append before (i ∷ []) in omega arith in
    let whole : front ++ is ≡ before ++ i ∷ is = append_assoc before (i ∷ []) is in
    let later : starts_from n (count front) (bytes_of (front ++ is)) ≡ starts_of (count front) is =
    starts_on_are found n front is (rest_of_all i is all) (omega (arith, le)) in
    let same : starts_from n (count before + size_of i) code ≡ starts_of (count before + size_of i) is =
    ap (λ (at : ℕ). starts_from n at code) (sym next) ∙ ap (λ (ops : List Op). starts_from n (count front) (bytes_of ops)) (sym whole)
    ∙ later ∙ ap (λ (at : ℕ). starts_of at is) next in
    ap (λ (o : Option Op). starts_on (λ next. starts_from n next code) (count before) o) here ∙ ap (λ (ls : List ℕ). count before ∷ ls) same

pub starts_are : Found → (ops : List Op) → All IsOp ops → starts (bytes_of ops) ≡ starts_of 0 ops
starts_are found ops all = starts_on_are found (length (bytes_of ops)) [] ops all (let e = count-bytes ops in omega arith)
