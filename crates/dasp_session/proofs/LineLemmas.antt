-- What a text that begins with the line of a user is cut into.
use Rattle.std.proofs.Common.{◌≡◌, ℕ, suc, ◌+◌, ◌≤◌, Bool, true, false, cond, not, eqb, ltb, List, [], ◌∷◌, ◌++◌, length, take, drop, get_or, refl, sym, ◌∙◌, ap, subst, arith, append_assoc, length-append, drop-cons}
use Rattle.std.specs.Prelude.{Some, None, position, ◌&&◌, nat_le}
use Rattle.std.specs.List.{position_or_len, list_all}
use Rattle.std.proofs.Math.Seq.{take-append_seam, drop-append_seam}
use Rattle.std.proofs.lemmas.List.{take-append-drop, take-append-le, length-take}
use Rattle.std.proofs.lemmas.Bool.{and_parts, lt-ltb, not-true}
use Rattle.hex.specs.Hex.{encode_lower, lower_digits}
use Rattle.hex.proofs.HexLemmas.{length-encode_with}
use Rattle.dasp_session.specs.declared.user.User.{User}
use Rattle.dasp_msg.specs.UserName.{is_name_byte}
use Rattle.dasp_session.specs.Line.{IsUser, line_of}

-- a text is cut at the colon behind a name
colon-behind : (name rest : List ℕ) → list_all is_name_byte name ≡ true
    → position_or_len (λ byte. eqb byte 58) (name ++ 58 ∷ rest) ≡ length name
colon-behind [] rest all = refl
colon-behind (byte ∷ name) rest all =
    let parts = and_parts (is_name_byte byte) (list_all is_name_byte name) all in
    let other : eqb byte 58 ≡ false = not-true (eqb byte 58) (and_parts (nat_le 33 byte && nat_le byte 126) (not (eqb byte 58)) parts.0).1 in
    ap (λ (b : Bool). cond (not b) (1 + position_or_len (λ byte. eqb byte 58) (name ++ 58 ∷ rest)) 0) other
    ∙ ap (λ (n : ℕ). 1 + n) (colon-behind name rest parts.1)
    ∙ (let e : 1 + length name ≡ suc (length name) = omega arith in e)

pub line-whole : (user : User) (behind : List ℕ)
    → line_of user ++ behind ≡ user.name ++ 58 ∷ (encode_lower user.credential ++ 10 ∷ behind)
line-whole user behind =
    append_assoc user.name (58 ∷ (encode_lower user.credential ++ 10 ∷ [])) behind
    ∙ ap (λ (rest : List ℕ). user.name ++ 58 ∷ rest) (append_assoc (encode_lower user.credential) (10 ∷ []) behind)

-- the parts of a text that begins with the line of a user
pub record Cut (user : User) (behind text : List ℕ) : Type 0 where
  pub colon : position (λ byte. eqb byte 58) text ≡ Some (length user.name)
  pub name : take (length user.name) text ≡ user.name
  pub rest : drop (length user.name) text ≡ 58 ∷ (encode_lower user.credential ++ 10 ∷ behind)

pub cut : (user : User) (behind text : List ℕ) → IsUser user → text ≡ line_of user ++ behind → Cut user behind text
cut user behind text is whole =
    let rest : List ℕ = 58 ∷ (encode_lower user.credential ++ 10 ∷ behind) in
    let e : text ≡ user.name ++ rest = whole ∙ line-whole user behind in
    let bytes : list_all is_name_byte user.name ≡ true =
    (and_parts (nat_le 1 (length user.name) && nat_le (length user.name) 16) (list_all is_name_byte user.name) is.name).1 in
    let at : position_or_len (λ byte. eqb byte 58) text ≡ length user.name =
    ap (position_or_len (λ byte. eqb byte 58)) e ∙ colon-behind user.name (encode_lower user.credential ++ 10 ∷ behind) bytes in
    let within : ltb (length user.name) (length text) ≡ true =
    lt-ltb _ _ (let n : length text ≡ length user.name + length rest = ap length e ∙ length-append user.name rest in omega arith) in
    record {
      colon =
          ap (λ (n : ℕ). cond (ltb n (length text)) (Some n) None) at
          ∙ ap (λ (b : Bool). cond b (Some (length user.name)) None) within;
      name = ap (take (length user.name)) e ∙ take-append_seam user.name rest;
      rest = ap (drop (length user.name)) e ∙ drop-append_seam user.name rest;
    }

pub length-digits : (user : User) → IsUser user → length (encode_lower user.credential) ≡ 40
length-digits user is = omega (arith, length-encode_with lower_digits user.credential, is.credential)

-- the part behind a name, whose digits are 40
pub record Behind (digits behind rest : List ℕ) : Type 0 where
  pub many : 42 ≤ length rest
  pub ends : get_or rest 41 0 ≡ 10
  pub cut : take 40 (drop 1 (take 42 rest)) ≡ digits
  pub left : drop 42 rest ≡ behind

cut-at : (front behind : List ℕ) (n : ℕ) → length front ≡ n → take n (front ++ behind) ≡ front
cut-at front behind n is = subst (λ (k : ℕ). take k (front ++ behind) ≡ front) is (take-append_seam front behind)

left-at : (front behind : List ℕ) (n : ℕ) → length front ≡ n → drop n (front ++ behind) ≡ behind
left-at front behind n is = subst (λ (k : ℕ). drop k (front ++ behind) ≡ behind) is (drop-append_seam front behind)

get-at : (front behind : List ℕ) (byte n : ℕ) → length front ≡ n → get_or (front ++ byte ∷ behind) n 0 ≡ byte
get-at front behind byte n is =
    ap (λ (xs : List ℕ). get_or xs 0 0) (
    sym (drop-cons (front ++ byte ∷ behind) n 0 (omega (arith, length-append front (byte ∷ behind)))) ∙ left-at front (byte ∷ behind) n is
    )

pub behind_of : (digits behind : List ℕ) → length digits ≡ 40 → Behind digits behind (58 ∷ (digits ++ 10 ∷ behind))
behind_of digits behind forty =
    let all : digits ++ 10 ∷ behind ≡ (digits ++ 10 ∷ []) ++ behind = sym (append_assoc digits (10 ∷ []) behind) in
    let many : length (digits ++ 10 ∷ []) ≡ 41 = length-append digits (10 ∷ []) ∙ omega arith in
    record {
      many = omega (arith, length-append digits (10 ∷ behind));
      ends = get-at digits behind 10 40 forty;
      cut =
          ap (take 40) (ap (take 41) all ∙ cut-at (digits ++ 10 ∷ []) behind 41 many) ∙ cut-at digits (10 ∷ []) 40 forty;
      left = ap (drop 41) all ∙ left-at (digits ++ 10 ∷ []) behind 41 many;
    }

-- and the other way round
pub behind_whole : (rest : List ℕ) → 42 ≤ length rest → get_or rest 0 0 ≡ 58 → get_or rest 41 0 ≡ 10
    → rest ≡ 58 ∷ (take 40 (drop 1 (take 42 rest)) ++ 10 ∷ drop 42 rest)
behind_whole [] many begins ends = absurd (omega arith)
behind_whole (first ∷ rest) many begins ends =
    let near : 40 ≤ length (take 41 rest) = omega (arith, length-take 41 rest) in
    let short : take 40 (take 41 rest) ≡ take 40 rest =
    sym (take-append-le 40 (take 41 rest) (drop 41 rest) near) ∙ ap (take 40) (take-append-drop 41 rest) in
    let here : drop 40 rest ≡ 10 ∷ drop 41 rest = drop-cons rest 40 0 (omega arith) ∙ ap (λ (n : ℕ). n ∷ drop 41 rest) ends in
    ap (λ (n : ℕ). n ∷ rest) begins
    ∙ ap (λ (xs : List ℕ). 58 ∷ xs) (
    sym (take-append-drop 40 rest) ∙ ap (λ (xs : List ℕ). take 40 rest ++ xs) here ∙ ap (λ (xs : List ℕ). xs ++ 10 ∷ drop 41 rest) (sym short)
    )
