-- Instructions and their bytes.
use Rattle.std.proofs.Common.{◌≡◌, ℕ, zero, suc, ◌+◌, ◌-◌, ◌<◌, ◌≤◌, true, leb, List, [], ◌∷◌, ◌++◌, length, take, drop, get_or, refl, sym, ◌∙◌, ap, arith, leb-true, leb-false, take-append-drop, append-nil, drop-cons, length-take, length-drop, get_or-drop}
use Rattle.std.specs.Prelude.{Some, None}
use Rattle.std.proofs.lemmas.Bool.{cond_both}
use Rattle.scode_ops.specs.declared.op.Op.{Op}
use Rattle.scode_ops.specs.declared.operands.Form.{Form}
use Rattle.scode_ops.specs.declared.operands.Operands.{Operands}
use Rattle.scode_ops.specs.Codes.{number_of, operands_of, bytes_of, code_of, fits, IsOp, StandsAt}
use Rattle.scode_ops.specs.Forms.{form_of, kind_of, width_of}
use Rattle.scode_ops.specs.Reading.{value_at, read}
use Rattle.scode_ops.proofs.ByNumber.{made, made-op, form-op}
use Rattle.scode_ops.proofs.OperandLemmas.{length-bytes_of, value_at-bytes, AreBytes, Reads, reads}
use Rattle.std.proofs.lemmas.Option.{same_Some as some_eq}

-- two instructions with which the same bytes begin are one
pub same_code : (op other : Op) (rest more : List ℕ) → fits (operands_of op) ≡ true → fits (operands_of other) ≡ true → code_of op ++ rest ≡ code_of other ++ more → op ≡ other
same_code op other rest more fit fit' same =
    let number : number_of op ≡ number_of other = cc in
    let behind : bytes_of (operands_of op) ++ rest ≡ bytes_of (operands_of other) ++ more = cc in
    let kind : kind_of (operands_of op) ≡ kind_of (operands_of other) =
    some_eq (kind_of (operands_of op)) (kind_of (operands_of other)) (sym (form-op op) ∙ ap form_of number ∙ form-op other) in
    let operands : operands_of op ≡ operands_of other =
    sym (value_at-bytes (operands_of op) rest fit)
    ∙ ap (value_at (kind_of (operands_of op))) behind
    ∙ ap (λ (which : Form). value_at which (bytes_of (operands_of other) ++ more)) kind
    ∙ value_at-bytes (operands_of other) more fit' in
    some_eq op other (sym (made-op op) ∙ ap (λ (n : ℕ). made n (operands_of op)) number ∙ ap (made (number_of other)) operands ∙ made-op other)

pub front_is_whole : (op other : Op) (rest : List ℕ) → IsOp op → IsOp other → code_of other ≡ code_of op ++ rest → op ≡ other
front_is_whole op other rest is is' same = same_code op other rest [] is.fits is'.fits (sym same ∙ sym (append-nil (code_of other)))

-- the bytes from a place on begin with the instruction's, whether or not it is a bool above 2
begins_with : (bytes : List ℕ) (at : ℕ) (code : List ℕ) → take (length code) (drop at bytes) ≡ code → drop at bytes ≡ code ++ drop (length code) (drop at bytes)
begins_with bytes at code begins =
    sym (take-append-drop (length code) (drop at bytes)) ∙ ap (λ (front : List ℕ). front ++ drop (length code) (drop at bytes)) begins

pub one_stands : (bytes : List ℕ) (at : ℕ) (op other : Op) → fits (operands_of op) ≡ true → fits (operands_of other) ≡ true
    → take (length (code_of op)) (drop at bytes) ≡ code_of op → take (length (code_of other)) (drop at bytes) ≡ code_of other → op ≡ other
one_stands bytes at op other fit fit' begins begins' =
    same_code op other (drop (length (code_of op)) (drop at bytes)) (drop (length (code_of other)) (drop at bytes)) fit fit'
    (sym (begins_with bytes at (code_of op) begins) ∙ begins_with bytes at (code_of other) begins')

-- a byte and what stands behind it
pub glue : (bytes : List ℕ) (at count : ℕ) (rest : List ℕ) → at < length bytes → take count (drop (suc at) bytes) ≡ rest → take (suc count) (drop at bytes) ≡ get_or bytes at 0 ∷ rest
glue bytes at count rest within behind =
    ap (take (suc count)) (drop-cons bytes at 0 within) ∙ ap (λ (r : List ℕ). get_or bytes at 0 ∷ r) behind

pub record Cut (bytes : List ℕ) (at first : ℕ) (rest : List ℕ) : Type 0 where
  pub number : get_or bytes at 0 ≡ first
  pub behind : take (length rest) (drop (suc at) bytes) ≡ rest

pub cut : (bytes : List ℕ) (at first : ℕ) (rest : List ℕ) → at < length bytes → take (suc (length rest)) (drop at bytes) ≡ first ∷ rest → Cut bytes at first rest
cut bytes at first rest within begins =
    let whole : get_or bytes at 0 ∷ take (length rest) (drop (suc at) bytes) ≡ first ∷ rest =
    sym (ap (take (suc (length rest))) (drop-cons bytes at 0 within)) ∙ begins in
    record { number = cc; behind = cc }

-- no instruction stands where the number has no form
pub none_of_number : (bytes : List ℕ) (at : ℕ) (op : Op) → at < length bytes → form_of (get_or bytes at 0) ≡ None → StandsAt bytes at op → ⊥
none_of_number bytes at op within none stands =
    let parts : Cut bytes at (number_of op) (bytes_of (operands_of op)) = cut bytes at (number_of op) (bytes_of (operands_of op)) within stands.begins in
    let some : form_of (get_or bytes at 0) ≡ Some (kind_of (operands_of op)) = ap form_of parts.number ∙ form-op op in
    cc

-- nor where there are too few bytes behind it
pub none_of_operands : (bytes : List ℕ) (at : ℕ) (which : Form) (op : Op) → at < length bytes → form_of (get_or bytes at 0) ≡ Some which → read which (drop (suc at) bytes) ≡ None → StandsAt bytes at op → ⊥
none_of_operands bytes at which op within form none stands =
    let parts : Cut bytes at (number_of op) (bytes_of (operands_of op)) = cut bytes at (number_of op) (bytes_of (operands_of op)) within stands.begins in
    let kind : kind_of (operands_of op) ≡ which = some_eq (kind_of (operands_of op)) which (sym (form-op op) ∙ ap form_of (sym parts.number) ∙ form) in
    let width : length (bytes_of (operands_of op)) ≡ width_of which = length-bytes_of (operands_of op) ∙ ap width_of kind in
    let few : length (drop (suc at) bytes) < width_of which = too_few which (drop (suc at) bytes) none in
    let long : length (take (length (bytes_of (operands_of op))) (drop (suc at) bytes)) ≡ length (bytes_of (operands_of op)) = ap length parts.behind in
    omega (arith, length-take (length (bytes_of (operands_of op))) (drop (suc at) bytes))
  where
    too_few : (which : Form) (rest : List ℕ) → read which rest ≡ None → length rest < width_of which
    too_few which rest = cond_both (leb (width_of which) (length rest)) (Some (value_at which rest)) None (λ r. r ≡ None → length rest < width_of which) (λ long is. absurd (cc)) (λ short is. leb-false (width_of which) (length rest) short)

-- what is read
pub record Found (bytes : List ℕ) (at : ℕ) (which : Form) (operands : Operands) : Type 0 where
  pub within : width_of which ≤ length (drop (suc at) bytes)
  pub kind : kind_of operands ≡ which
  pub fit : fits operands ≡ true
  pub begins : take (width_of which) (drop (suc at) bytes) ≡ bytes_of operands

pub found : (bytes : List ℕ) (at : ℕ) (which : Form) (operands : Operands) → AreBytes bytes → read which (drop (suc at) bytes) ≡ Some operands → Found bytes at which operands
found bytes at which operands are =
    let rest : List ℕ = drop (suc at) bytes in
    cond_both (leb (width_of which) (length rest)) (Some (value_at which rest)) None (λ r. r ≡ Some operands → Found bytes at which operands)
    (λ long is.
    let same : value_at which rest ≡ operands = cc in
    let within : width_of which ≤ length rest = leb-true (width_of which) (length rest) long in
    let r : Reads which rest = reads which rest (are_behind bytes (suc at) are) within in
    record {
      within = within;
      kind = ap kind_of (sym same) ∙ r.kind;
      fit = ap fits (sym same) ∙ r.fit;
      begins = r.begins ∙ ap bytes_of same;
    })
    (λ short is. absurd (cc))
  where
    are_behind : (bytes : List ℕ) (at : ℕ) → AreBytes bytes → AreBytes (drop at bytes)
    are_behind bytes at are place = rw get_or-drop (are (at + place))

-- an instruction of this number with these operands stands there, but for its spelling
pub begins_there : (bytes : List ℕ) (at : ℕ) (which : Form) (operands : Operands) (op : Op) → at < length bytes → Found bytes at which operands → number_of op ≡ get_or bytes at 0 → operands_of op ≡ operands
    → (take (length (code_of op)) (drop at bytes) ≡ code_of op) × (length (code_of op) ≡ suc (width_of which)) × (fits (operands_of op) ≡ true)
begins_there bytes at which operands op within here number same =
    let width : length (bytes_of (operands_of op)) ≡ width_of which = length-bytes_of (operands_of op) ∙ ap (λ (o : Operands). width_of (kind_of o)) same ∙ ap width_of here.kind in
    let behind : take (length (bytes_of (operands_of op))) (drop (suc at) bytes) ≡ bytes_of (operands_of op) =
    ap (λ (n : ℕ). take n (drop (suc at) bytes)) width ∙ here.begins ∙ ap bytes_of (sym same) in
    (glue bytes at (length (bytes_of (operands_of op))) (bytes_of (operands_of op)) within behind ∙ ap (λ (n : ℕ). n ∷ bytes_of (operands_of op)) (sym number), ap suc width, ap fits same ∙ here.fit)

-- the rest of the bytes as the code takes it
take_long : (count : ℕ) (bytes : List ℕ) → length bytes ≤ count → take count bytes ≡ bytes
take_long zero [] long = refl
take_long zero (first ∷ later) long = absurd (omega arith)
take_long (suc count) [] long = refl
take_long (suc count) (first ∷ later) long = ap (λ (rest : List ℕ). first ∷ rest) (take_long count later (omega arith))

pub rest_behind : (bytes : List ℕ) (at : ℕ) → take (length bytes - (at + 1)) (drop (at + 1) bytes) ≡ drop (suc at) bytes
rest_behind bytes at =
    take_long (length bytes - (at + 1)) (drop (at + 1) bytes) (omega (arith, length-drop (at + 1) bytes))
    ∙ ap (λ (n : ℕ). drop n bytes) (let e : at + 1 ≡ suc at = omega arith in e)
