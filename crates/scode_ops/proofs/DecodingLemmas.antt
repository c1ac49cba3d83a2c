-- The instruction that is found at the front of bytes is the one that they begin with.
use Rattle.std.proofs.Common.{◌≡◌, ℕ, suc, ◌+◌, ◌≤◌, ◌^◌, Bool, true, false, List, [], ◌∷◌, ◌++◌, length, take, drop, refl, sym, ◌∙◌, ap, ap₂, subst, arith, ℤ, pos, w16, ltb-true, eqb-true, take-append-drop, get_or-drop}
use Rattle.std.specs.Prelude.{Some, find, ◌==◌, ◌&&◌, cond}
use Rattle.std.specs.Int.{to_be_bytes, from_be_bytes}
use Rattle.std.proofs.lemmas.Bool.{and_parts}
use Rattle.std.proofs.lemmas.List.{take_at}
use Rattle.std.proofs.lemmas.Nat.{from_be_bytes-to_be_bytes_2}
use Rattle.scode_ops.specs.declared.op.Op.{Op}
use Rattle.scode_ops.specs.declared.op.Op.TheVariants.{Int, Long, Bool as Truth, Null, Statics, Dup, Pop, IntAdd, IntSub, IntMul, IntDiv, IntRem, IntAnd, IntOr, IntXor, IntShl, IntShr, IntNeg, IntNot, LongAdd, LongSub, LongMul, LongDiv, LongRem, LongAnd, LongOr, LongXor, LongShl, LongShr, LongNeg, LongNot, IntEq, IntNe, IntLt, IntLe, IntGt, IntGe, LongEq, LongNe, LongLt, LongLe, LongGt, LongGe, BoolEq, BoolNe, RefEq, RefNe, IntToLong, LongToInt, Not, IntToByte, IntToShort, Turn, Return, ReturnValue, Ticks, StrLen, StrGet, StrSet, StrEq, StrCopy, Load, Store, Text, Jump, JumpFalse, JumpTrue, GetBool, GetByte, GetShort, GetInt, GetLong, PutBool, PutByte, PutShort, PutInt, PutLong, BufSize, Call, Inner, Str, BufGet, ArrayGetBool, ArrayGetByte, ArrayGetShort, ArrayGetInt, ArrayGetLong, ArrayPutBool, ArrayPutByte, ArrayPutShort, ArrayPutInt, ArrayPutLong, VirtualCall}
use Rattle.scode_ops.specs.declared.operands.Operands.{Operands}
use Rattle.scode_ops.specs.declared.operands.Operands.TheVariants as operands
use Rattle.scode_ops.specs.declared.operands.Form.TheVariants as form
use Rattle.scode_ops.specs.Codes.{number_of, operands_of, bytes_of, code_of, fits, is_spelled, IsOp, StandsAt}
use Rattle.scode_ops.specs.Forms.{width_of}
use Rattle.scode_ops.specs.Reading.{value_at}
use Rattle.scode_ops.specs.Decoding.{without_operands, short, of_one, of_two, of_three, of_four, of_eight, made_of, front_op, op_at}
use Rattle.scode_ops.proofs.OperandLemmas.{AreBytes, Reads, reads, value_at-bytes}

-- ---- each instruction is found in front of its bytes

-- the numbers that the bytes of operands spell
same_u2 : (a : ℕ) → fits (operands.U2 a) ≡ true → from_be_bytes w16 (to_be_bytes w16 a) ≡ a
same_u2 a fit = from_be_bytes-to_be_bytes_2 a (ltb-true a (2 ^ 16) fit)

same_u2u1 : (a b : ℕ) → fits (operands.U2U1 a b) ≡ true → from_be_bytes w16 (to_be_bytes w16 a) ≡ a
same_u2u1 a b fit = same_u2 a (and_parts _ _ fit).0

same_u2u2 : (a b : ℕ) → fits (operands.U2U2 a b) ≡ true
    → (from_be_bytes w16 (to_be_bytes w16 a) ≡ a) × (from_be_bytes w16 (to_be_bytes w16 b) ≡ b)
same_u2u2 a b fit = (same_u2 a (and_parts _ _ fit).0, same_u2 b (and_parts _ _ fit).1)

abbrev i4_of : Operands → ℤ
i4_of (operands.I4 a) = a
i4_of (operands.I8 a) = a
i4_of other = pos 0

found-int : (a : ℤ) (rest : List ℕ) → fits (operands.I4 a) ≡ true → front_op (code_of (Int a) ++ rest) ≡ Some (Int a)
found-int a rest fit = ap (λ (o : Operands). Some (Int (i4_of o))) (value_at-bytes (operands.I4 a) rest fit)

found-long : (a : ℤ) (rest : List ℕ) → fits (operands.I8 a) ≡ true → front_op (code_of (Long a) ++ rest) ≡ Some (Long a)
found-long a rest fit = ap (λ (o : Operands). Some (Long (i4_of o))) (value_at-bytes (operands.I8 a) rest fit)

found-truth : (a : ℕ) (rest : List ℕ) → is_spelled (Truth a) ≡ true
    → front_op (code_of (Truth a) ++ rest) ≡ Some (Truth a)
found-truth a rest spelled = rw spelled refl

pub front-found : (op : Op) (rest : List ℕ) → IsOp op → front_op (code_of op ++ rest) ≡ Some op
front-found (Int a) rest is = found-int a rest is.fits
front-found (Long a) rest is = found-long a rest is.fits
front-found (Truth a) rest is = found-truth a rest is.spelled
front-found Null rest is = refl
front-found Statics rest is = refl
front-found Dup rest is = refl
front-found Pop rest is = refl
front-found IntAdd rest is = refl
front-found IntSub rest is = refl
front-found IntMul rest is = refl
front-found IntDiv rest is = refl
front-found IntRem rest is = refl
front-found IntAnd rest is = refl
front-found IntOr rest is = refl
front-found IntXor rest is = refl
front-found IntShl rest is = refl
front-found IntShr rest is = refl
front-found IntNeg rest is = refl
front-found IntNot rest is = refl
front-found LongAdd rest is = refl
front-found LongSub rest is = refl
front-found LongMul rest is = refl
front-found LongDiv rest is = refl
front-found LongRem rest is = refl
front-found LongAnd rest is = refl
front-found LongOr rest is = refl
front-found LongXor rest is = refl
front-found LongShl rest is = refl
front-found LongShr rest is = refl
front-found LongNeg rest is = refl
front-found LongNot rest is = refl
front-found IntEq rest is = refl
front-found IntNe rest is = refl
front-found IntLt rest is = refl
front-found IntLe rest is = refl
front-found IntGt rest is = refl
front-found IntGe rest is = refl
front-found LongEq rest is = refl
front-found LongNe rest is = refl
front-found LongLt rest is = refl
front-found LongLe rest is = refl
front-found LongGt rest is = refl
front-found LongGe rest is = refl
front-found BoolEq rest is = refl
front-found BoolNe rest is = refl
front-found RefEq rest is = refl
front-found RefNe rest is = refl
front-found IntToLong rest is = refl
front-found LongToInt rest is = refl
front-found Not rest is = refl
front-found IntToByte rest is = refl
front-found IntToShort rest is = refl
front-found Turn rest is = refl
front-found Return rest is = refl
front-found ReturnValue rest is = refl
front-found Ticks rest is = refl
front-found StrLen rest is = refl
front-found StrGet rest is = refl
front-found StrSet rest is = refl
front-found StrEq rest is = refl
front-found StrCopy rest is = refl
front-found (Load a) rest is = refl
front-found (Store a) rest is = refl
front-found (Text a) rest is = ap (λ (n : ℕ). Some (Text n)) (same_u2 a is.fits)
front-found (Jump a) rest is = ap (λ (n : ℕ). Some (Jump n)) (same_u2 a is.fits)
front-found (JumpFalse a) rest is = ap (λ (n : ℕ). Some (JumpFalse n)) (same_u2 a is.fits)
front-found (JumpTrue a) rest is = ap (λ (n : ℕ). Some (JumpTrue n)) (same_u2 a is.fits)
front-found (GetBool a) rest is = ap (λ (n : ℕ). Some (GetBool n)) (same_u2 a is.fits)
front-found (GetByte a) rest is = ap (λ (n : ℕ). Some (GetByte n)) (same_u2 a is.fits)
front-found (GetShort a) rest is = ap (λ (n : ℕ). Some (GetShort n)) (same_u2 a is.fits)
front-found (GetInt a) rest is = ap (λ (n : ℕ). Some (GetInt n)) (same_u2 a is.fits)
front-found (GetLong a) rest is = ap (λ (n : ℕ). Some (GetLong n)) (same_u2 a is.fits)
front-found (PutBool a) rest is = ap (λ (n : ℕ). Some (PutBool n)) (same_u2 a is.fits)
front-found (PutByte a) rest is = ap (λ (n : ℕ). Some (PutByte n)) (same_u2 a is.fits)
front-found (PutShort a) rest is = ap (λ (n : ℕ). Some (PutShort n)) (same_u2 a is.fits)
front-found (PutInt a) rest is = ap (λ (n : ℕ). Some (PutInt n)) (same_u2 a is.fits)
front-found (PutLong a) rest is = ap (λ (n : ℕ). Some (PutLong n)) (same_u2 a is.fits)
front-found (BufSize a) rest is = ap (λ (n : ℕ). Some (BufSize n)) (same_u2 a is.fits)
front-found (Call a) rest is = ap (λ (n : ℕ). Some (Call n)) (same_u2 a is.fits)
front-found (Inner a b) rest is = let s = same_u2u2 a b is.fits in ap₂ (λ (m n : ℕ). Some (Inner m n)) s.0 s.1
front-found (Str a b) rest is = let s = same_u2u2 a b is.fits in ap₂ (λ (m n : ℕ). Some (Str m n)) s.0 s.1
front-found (BufGet a b) rest is = let s = same_u2u2 a b is.fits in ap₂ (λ (m n : ℕ). Some (BufGet m n)) s.0 s.1
front-found (ArrayGetBool a b) rest is = let s =
    same_u2u2 a b is.fits in ap₂ (λ (m n : ℕ). Some (ArrayGetBool m n)) s.0 s.1
front-found (ArrayGetByte a b) rest is = let s =
    same_u2u2 a b is.fits in ap₂ (λ (m n : ℕ). Some (ArrayGetByte m n)) s.0 s.1
front-found (ArrayGetShort a b) rest is = let s =
    same_u2u2 a b is.fits in ap₂ (λ (m n : ℕ). Some (ArrayGetShort m n)) s.0 s.1
front-found (ArrayGetInt a b) rest is = let s =
    same_u2u2 a b is.fits in ap₂ (λ (m n : ℕ). Some (ArrayGetInt m n)) s.0 s.1
front-found (ArrayGetLong a b) rest is = let s =
    same_u2u2 a b is.fits in ap₂ (λ (m n : ℕ). Some (ArrayGetLong m n)) s.0 s.1
front-found (ArrayPutBool a b) rest is = let s =
    same_u2u2 a b is.fits in ap₂ (λ (m n : ℕ). Some (ArrayPutBool m n)) s.0 s.1
front-found (ArrayPutByte a b) rest is = let s =
    same_u2u2 a b is.fits in ap₂ (λ (m n : ℕ). Some (ArrayPutByte m n)) s.0 s.1
front-found (ArrayPutShort a b) rest is = let s =
    same_u2u2 a b is.fits in ap₂ (λ (m n : ℕ). Some (ArrayPutShort m n)) s.0 s.1
front-found (ArrayPutInt a b) rest is = let s =
    same_u2u2 a b is.fits in ap₂ (λ (m n : ℕ). Some (ArrayPutInt m n)) s.0 s.1
front-found (ArrayPutLong a b) rest is = let s =
    same_u2u2 a b is.fits in ap₂ (λ (m n : ℕ). Some (ArrayPutLong m n)) s.0 s.1
front-found (VirtualCall a b) rest is = ap (λ (n : ℕ). Some (VirtualCall n b)) (same_u2u1 a b is.fits)

pub stands-found : (bytes : List ℕ) (at : ℕ) (op : Op) → StandsAt bytes at op → op_at bytes at ≡ Some op
stands-found bytes at op stands =
    let parted : code_of op ++ drop (length (code_of op)) (drop at bytes) ≡ drop at bytes =
    ap (λ (front : List ℕ). front ++ drop (length (code_of op)) (drop at bytes)) (sym stands.begins)
    ∙ take-append-drop (length (code_of op)) (drop at bytes) in
    ap front_op (sym parted) ∙ front-found op (drop (length (code_of op)) (drop at bytes)) stands.is

-- ---- what is found stands there

-- these operands fit, and the bytes begin with theirs
abbrev Spelled : List ℕ → Operands → Type 0
Spelled bytes o = (fits o ≡ true) × (rest : List ℕ) × (bytes ≡ bytes_of o ++ rest)

abbrev AllIn : (Op → Type 0) → List Op → Type 0
AllIn P [] = Unit {0}
AllIn P (op ∷ ops) = P op × AllIn P ops

found_in : (p : Op → Bool) (P : Op → Type 0) (ops : List Op) (op : Op) → AllIn P ops → find p ops ≡ Some op
    → P op × (p op ≡ true)
found_in p P [] op all e = absurd cc
found_in p P (x ∷ xs) op all e = by_test (found_in p P xs op all.1) (p x) refl e
  where
    by_test : (find p xs ≡ Some op → P op × (p op ≡ true)) → (b : Bool) → p x ≡ b
        → cond b (Some x) (find p xs) ≡ Some op → P op × (p op ≡ true)
    by_test later true is e =
        let same : x ≡ op = cc in
        (subst P same all.0, ap p (sym same) ∙ is)
    by_test later false is e = later e

all_both : (P : Op → Type 0) (xs ys : List Op) → AllIn P xs → AllIn P ys → AllIn P (xs ++ ys)
all_both P [] ys h k = k
all_both P (x ∷ xs) ys h k = (h.0, all_both P xs ys h.1 k)

spelled_by : (which : _) (bytes : List ℕ) → AreBytes bytes → width_of which ≤ length bytes
    → Spelled bytes (value_at which bytes)
spelled_by which bytes are within =
    let r : Reads which bytes = reads which bytes are within in (
      r.fit,
      drop (width_of which) bytes,
      sym (take-append-drop (width_of which) bytes) ∙ ap (λ (front : List ℕ). front ++ drop (width_of which) bytes)
          r.begins,
    )

abbrev IsSpelledBy : List ℕ → Op → Type 0
IsSpelledBy bytes op = Spelled bytes (operands_of op)

in_none : (bytes : List ℕ) → AllIn (IsSpelledBy bytes) without_operands
in_none bytes =
    let e : Spelled bytes operands.Empty = (refl, bytes, refl) in (
      e,
      (
        e,
        (
          e,
          (
            e,
            (
              e,
              (
                e,
                (
                  e,
                  (
                    e,
                    (
                      e,
                      (
                        e,
                        (
                          e,
                          (
                            e,
                            (
                              e,
                              (
                                e,
                                (
                                  e,
                                  (
                                    e,
                                    (
                                      e,
                                      (
                                        e,
                                        (
                                          e,
                                          (
                                            e,
                                            (
                                              e,
                                              (
                                                e,
                                                (
                                                  e,
                                                  (
                                                    e,
                                                    (
                                                      e,
                                                      (
                                                        e,
                                                        (
                                                          e,
                                                          (
                                                            e,
                                                            (
                                                              e,
                                                              (
                                                                e,
                                                                (
                                                                  e,
                                                                  (
                                                                    e,
                                                                    (
                                                                      e,
                                                                      (
                                                                        e,
                                                                        (
                                                                          e,
                                                                          (
                                                                            e,
                                                                            (
                                                                              e,
                                                                              (
                                                                                e,
                                                                                (
                                                                                  e,
                                                                                  (
                                                                                    e,
                                                                                    (
                                                                                      e,
                                                                                      (
                                                                                        e,
                                                                                        (
                                                                                          e,
                                                                                          (
                                                                                            e,
                                                                                            (
                                                                                              e,
                                                                                              (
                                                                                                e,
                                                                                                (
                                                                                                  e,
                                                                                                  (
                                                                                                    e,
                                                                                                    (e, (e, (e, (e, (e, (e, (e, (e, (e, (e, tt)))))))))),
                                                                                                  ),
                                                                                                ),
                                                                                              ),
                                                                                            ),
                                                                                          ),
                                                                                        ),
                                                                                      ),
                                                                                    ),
                                                                                  ),
                                                                                ),
                                                                              ),
                                                                            ),
                                                                          ),
                                                                        ),
                                                                      ),
                                                                    ),
                                                                  ),
                                                                ),
                                                              ),
                                                            ),
                                                          ),
                                                        ),
                                                      ),
                                                    ),
                                                  ),
                                                ),
                                              ),
                                            ),
                                          ),
                                        ),
                                      ),
                                    ),
                                  ),
                                ),
                              ),
                            ),
                          ),
                        ),
                      ),
                    ),
                  ),
                ),
              ),
            ),
          ),
        ),
      ),
    )

in_one : (bytes : List ℕ) → AreBytes bytes → AllIn (IsSpelledBy bytes) (of_one bytes)
in_one [] are = tt
in_one (a ∷ rest) are =
    let within : 1 ≤ length (a ∷ rest) = omega arith in
    let e : Spelled (a ∷ rest) (operands.U1 a) = spelled_by form.U1 (a ∷ rest) are within in
    (e, (e, (e, tt)))

in_two : (bytes : List ℕ) → AreBytes bytes → AllIn (IsSpelledBy bytes) (of_two bytes)
in_two [] are = tt
in_two (a ∷ []) are = tt
in_two (a ∷ b ∷ rest) are =
    let within : 2 ≤ length (a ∷ b ∷ rest) = omega arith in
    let e : Spelled (a ∷ b ∷ rest) (operands.U2 (short a b)) = spelled_by form.U2 (a ∷ b ∷ rest) are within in
    (e, (e, (e, (e, (e, (e, (e, (e, (e, (e, (e, (e, (e, (e, (e, (e, tt))))))))))))))))

in_three : (bytes : List ℕ) → AreBytes bytes → AllIn (IsSpelledBy bytes) (of_three bytes)
in_three [] are = tt
in_three (a ∷ []) are = tt
in_three (a ∷ b ∷ []) are = tt
in_three (a ∷ b ∷ c ∷ rest) are =
    let within : 3 ≤ length (a ∷ b ∷ c ∷ rest) = omega arith in
    let e : Spelled (a ∷ b ∷ c ∷ rest) (operands.U2U1 (short a b) c) =
    spelled_by form.U2U1 (a ∷ b ∷ c ∷ rest) are within in
    (e, tt)

in_four : (bytes : List ℕ) → AreBytes bytes → AllIn (IsSpelledBy bytes) (of_four bytes)
in_four [] are = tt
in_four (a ∷ []) are = tt
in_four (a ∷ b ∷ []) are = tt
in_four (a ∷ b ∷ c ∷ []) are = tt
in_four (a ∷ b ∷ c ∷ d ∷ rest) are =
    let within : 4 ≤ length (a ∷ b ∷ c ∷ d ∷ rest) = omega arith in
    let e : Spelled (a ∷ b ∷ c ∷ d ∷ rest) (operands.U2U2 (short a b) (short c d)) =
    spelled_by form.U2U2 (a ∷ b ∷ c ∷ d ∷ rest) are within in (
      spelled_by form.I4 (a ∷ b ∷ c ∷ d ∷ rest) are within,
      (e, (e, (e, (e, (e, (e, (e, (e, (e, (e, (e, (e, (e, tt))))))))))))),
    )

in_eight : (bytes : List ℕ) → AreBytes bytes → AllIn (IsSpelledBy bytes) (of_eight bytes)
in_eight [] are = tt
in_eight (a ∷ []) are = tt
in_eight (a ∷ b ∷ []) are = tt
in_eight (a ∷ b ∷ c ∷ []) are = tt
in_eight (a ∷ b ∷ c ∷ d ∷ []) are = tt
in_eight (a ∷ b ∷ c ∷ d ∷ e ∷ []) are = tt
in_eight (a ∷ b ∷ c ∷ d ∷ e ∷ f ∷ []) are = tt
in_eight (a ∷ b ∷ c ∷ d ∷ e ∷ f ∷ g ∷ []) are = tt
in_eight (a ∷ b ∷ c ∷ d ∷ e ∷ f ∷ g ∷ h ∷ rest) are =
    let within : 8 ≤ length (a ∷ b ∷ c ∷ d ∷ e ∷ f ∷ g ∷ h ∷ rest) = omega arith in
    (spelled_by form.I8 (a ∷ b ∷ c ∷ d ∷ e ∷ f ∷ g ∷ h ∷ rest) are within, tt)

in_all : (bytes : List ℕ) → AreBytes bytes → AllIn (IsSpelledBy bytes) (made_of bytes)
in_all bytes are =
    let P = IsSpelledBy bytes in
    all_both P without_operands
    (of_one bytes ++ (of_two bytes ++ (of_three bytes ++ (of_four bytes ++ of_eight bytes)))) (in_none bytes)
    (all_both P (of_one bytes) (of_two bytes ++ (of_three bytes ++ (of_four bytes ++ of_eight bytes)))
    (in_one bytes are)
    (all_both P (of_two bytes) (of_three bytes ++ (of_four bytes ++ of_eight bytes)) (in_two bytes are)
    (all_both P (of_three bytes) (of_four bytes ++ of_eight bytes) (in_three bytes are)
    (all_both P (of_four bytes) (of_eight bytes) (in_four bytes are) (in_eight bytes are)))))

front-stands : (bytes : List ℕ) (op : Op) → AreBytes bytes → front_op bytes ≡ Some op
    → IsOp op × (rest : List ℕ) × (bytes ≡ code_of op ++ rest)
front-stands [] op are e = absurd cc
front-stands (number ∷ behind) op are e =
    let f = found_in (λ o. (number_of o == number) && is_spelled o) (IsSpelledBy behind) (made_of behind) op
    (in_all behind (λ i. are (suc i))) e in
    let t = and_parts (number_of op == number) (is_spelled op) f.1 in
    let first : number_of op ≡ number = eqb-true (number_of op) number t.0 in (
      record { spelled = t.1; fits = f.0.0 },
      f.0.1,
      ap (λ (n : ℕ). n ∷ behind) (sym first) ∙ ap (λ (bytes : List ℕ). number_of op ∷ bytes) f.0.2,
    )

are_behind : (bytes : List ℕ) (at : ℕ) → AreBytes bytes → AreBytes (drop at bytes)
are_behind bytes at are place = rw get_or-drop (are (at + place))

pub found-stands : (bytes : List ℕ) (at : ℕ) (op : Op) → AreBytes bytes → op_at bytes at ≡ Some op
    → StandsAt bytes at op
found-stands bytes at op are e =
    let h = front-stands (drop at bytes) op (are_behind bytes at are) e in
    record {
      is = h.0;
      begins = ap (take (length (code_of op))) h.2 ∙ take_at (code_of op) h.1 (length (code_of op))
          refl;
    }
