-- The tokens of a text of bytes are spelled.
use Rattle.std.proofs.Common.{ℕ, ◌≤◌, nat_lt, IsTrue, All, List, ◌++◌, take, drop, slice_range, slice_index_or, sym, ap, ◌∙◌, arith}
use Rattle.std.proofs.lemmas.List.{take-append-drop}
use Rattle.std.proofs.lemmas.List.Folds.{list_all-append, drop_split}
use Rattle.sed_value.specs.Value.{are_bytes}
use Rattle.sed_lexer.specs.Token.{Token, end_of}
use Rattle.sed_lexer.specs.Order.{LiesIn, AreInOrder, IsOfItsKind}
use Rattle.sed_check.proofs.Kept.{IsSpelled, AreSpelled, each_of}
use Rattle.std.proofs.lemmas.Bool.{and_parts}

both : (xs ys : List ℕ) → IsTrue (are_bytes (xs ++ ys)) → IsTrue (are_bytes xs) × IsTrue (are_bytes ys)
both xs ys h = and_parts (are_bytes xs) (are_bytes ys) (sym (list_all-append (λ n. nat_lt n 256) xs ys) ∙ h)

-- a range of bytes is bytes
range_are : (text : List ℕ) (start end : ℕ) → start ≤ end → IsTrue (are_bytes text)
    → IsTrue (are_bytes (slice_range text start end))
range_are text start end le h =
    let behind : IsTrue (are_bytes (drop start text)) =
    (both (take start text) (drop start text) (ap are_bytes (take-append-drop start text) ∙ h)).1 in
    (both (slice_range text start end) (drop end text) (ap are_bytes (sym (drop_split text start end le)) ∙ behind)).0

pub are_spelled : (text : List ℕ) (tokens : List Token) → IsTrue (are_bytes text) → AreInOrder text tokens
    → All IsOfItsKind tokens → AreSpelled tokens
are_spelled text tokens bytes order pieces = each_of IsSpelled tokens (λ i d lt.
    let t : Token = slice_index_or tokens i d in
    let lies : LiesIn text t = order.lie i d lt in
    record {
      piece = pieces i d lt;
      bytes = ap are_bytes lies.bytes ∙ range_are text t.start (end_of t) (omega (arith, lies.not_empty)) bytes;
    })
