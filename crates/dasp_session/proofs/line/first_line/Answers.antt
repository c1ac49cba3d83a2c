use Rattle.std.proofs.Common.{◌≡◌, ◌≤◌, ℕ, List, ◌∷◌, ◌++◌, length, take, drop, get_or, true, eqb, sym, ◌∙◌, ap, subst, arith, add-zero, eqb-true}
use Rattle.std.specs.Prelude.{Some, position}
use Rattle.std.proofs.lemmas.Bool.{both_ways}
use Rattle.std.proofs.lemmas.List.{take-append-drop, get_or-drop}
use Rattle.std.proofs.lemmas.List.Quantifiers.{position-Some}
use Rattle.hex.specs.Hex.{encode_lower, IsBytes}
use Rattle.dasp_session.specs.declared.user.User.{User}
use Rattle.dasp_msg.specs.UserName.{is_user_name}
use Rattle.dasp_session.specs.Line.{IsUser, line_of}
use Rattle.dasp_session.proofs.LineLemmas.{Cut, cut, Behind, behind_of, behind_whole, length-digits, line-whole}
use Rattle.dasp_session.proofs.line.first_line.Goals as goal

some_eq : {A : Type 0} {a b : A} → Some a ≡ Some b → a ≡ b
some_eq e = cc

-- a text that begins with a user's line, cut at a place that is its colon
record At (user : User) (behind name rest : List ℕ) : Type 0 where
  name_is : name ≡ user.name
  rest_is : rest ≡ 58 ∷ (encode_lower user.credential ++ 10 ∷ behind)
  parts : Behind (encode_lower user.credential) behind rest

at : (user : User) (behind text name rest : List ℕ) (colon : ℕ) → IsUser user → text ≡ line_of user ++ behind
    → Some colon ≡ position (λ byte. eqb byte 58) text → name ≡ take colon text → rest ≡ drop colon text → At user behind name rest
at user behind text name rest colon is whole found front back =
    let it : Cut user behind text = cut user behind text is whole in
    let here : colon ≡ length user.name = some_eq (found ∙ it.colon) in
    let tail : rest ≡ 58 ∷ (encode_lower user.credential ++ 10 ∷ behind) = back ∙ ap (λ (n : ℕ). drop n text) here ∙ it.rest in
    record {
      name_is = front ∙ ap (λ (n : ℕ). take n text) here ∙ it.name;
      rest_is = tail;
      parts =
          subst (λ (xs : List ℕ). Behind (encode_lower user.credential) behind xs) (sym tail)
          (behind_of (encode_lower user.credential) behind (length-digits user is));
    }

pub returns-in-None : goal.returns-in-None
returns-in-None c = λ user behind is whole.
    let it : Cut user behind c.args.text.now = cut user behind c.args.text.now is whole in
    let some = it.colon in
    let none = c.in-None.is in
    let found = c.colon_of.ensures in
    absurd (cc)

pub returns-then-not-is_user_name : goal.returns-then-not-is_user_name
returns-then-not-is_user_name c = λ user behind is whole.
    let it = at user behind c.args.text.now _ _ c.in-Some.colon is whole (sym c.in-Some.is ∙ c.colon_of.ensures) c.split_at.ensures.front c.split_at.ensures.back in
    let good : c.is_user_name.result ≡ true = c.is_user_name.ensures ∙ ap is_user_name it.name_is ∙ is.name in
    absurd (both_ways c.is_user_name.result c.if-not-is_user_name.true good)

pub returns-then-rest-lt-LINE_BEHIND_NAME : goal.returns-then-rest-lt-LINE_BEHIND_NAME
returns-then-rest-lt-LINE_BEHIND_NAME c = λ user behind is whole.
    let it = at user behind c.args.text.now _ _ c.in-Some.colon is whole (sym c.in-Some.is ∙ c.colon_of.ensures) c.split_at.ensures.front c.split_at.ensures.back in
    let many = it.parts.many in
    absurd (omega arith)

pub returns-then-rest-ne10 : goal.returns-then-rest-ne10
returns-then-rest-ne10 c = λ user behind is whole.
    let it = at user behind c.args.text.now _ _ c.in-Some.colon is whole (sym c.in-Some.is ∙ c.colon_of.ensures) c.split_at.ensures.front c.split_at.ensures.back in
    let ends = it.parts.ends in
    absurd (omega arith)

pub returns-in-None-credential_of : goal.returns-in-None-credential_of
returns-in-None-credential_of c = λ user behind is whole.
    let it = at user behind c.args.text.now _ _ c.in-Some.colon is whole (sym c.in-Some.is ∙ c.colon_of.ensures) c.split_at.ensures.front c.split_at.ensures.back in
    let digits = ap (λ (xs : List ℕ). take 40 (drop 1 xs)) c.split_at-2.ensures.front ∙ it.parts.cut in
    c.in-None-credential_of.ensures user.credential is.credential is.bytes digits

-- a text that is made of such parts
made : (user : User) (behind text name rest digits : List ℕ) (colon : ℕ) → position (λ byte. eqb byte 58) text ≡ Some colon → name ≡ take colon text → rest ≡ drop colon text
    → 42 ≤ length rest → get_or rest 41 0 ≡ 10 → digits ≡ take 40 (drop 1 (take 42 rest)) → digits ≡ encode_lower user.credential → user.name ≡ name → behind ≡ drop 42 rest
    → text ≡ line_of user ++ behind
made user behind text name rest digits colon found front back many ends cut is named left =
    let colon_at = position-Some (λ byte. eqb byte 58) text colon 0 found in
    let begins : get_or rest 0 0 ≡ 58 =
    ap (λ (xs : List ℕ). get_or xs 0 0) back ∙ get_or-drop colon text 0 0 ∙ ap (λ (n : ℕ). get_or text n 0) (add-zero colon)
    ∙ eqb-true (get_or text colon 0) 58 colon_at.1 in
    let tail : rest ≡ 58 ∷ (encode_lower user.credential ++ 10 ∷ behind) =
    behind_whole rest many begins ends
    ∙ ap (λ (xs : List ℕ). 58 ∷ (xs ++ 10 ∷ drop 42 rest)) (sym cut ∙ is)
    ∙ ap (λ (xs : List ℕ). 58 ∷ (encode_lower user.credential ++ 10 ∷ xs)) (sym left) in
    sym (take-append-drop colon text)
    ∙ ap (λ (xs : List ℕ). xs ++ drop colon text) (sym front)
    ∙ ap (λ (xs : List ℕ). name ++ xs) (sym back ∙ tail)
    ∙ ap (λ (xs : List ℕ). xs ++ 58 ∷ (encode_lower user.credential ++ 10 ∷ behind)) (sym named)
    ∙ sym (line-whole user behind)

pub returns-in-Some-credential_of : goal.returns-in-Some-credential_of
returns-in-Some-credential_of c =
    let credential : List ℕ = c.in-Some-credential_of.credential in
    let twenty : length credential ≡ 20 = omega arith in
    let written = c.in-Some-credential_of.ensures.1 ∙ ap encode_lower (sym c.line_with.ensures.credential) in (
      record {
        name = ap is_user_name c.line_with.ensures.name ∙ sym c.is_user_name.ensures ∙ c.if-not-is_user_name.false;
        credential = ap length c.line_with.ensures.credential ∙ twenty;
        bytes = subst IsBytes (sym c.line_with.ensures.credential) c.in-Some-credential_of.ensures.0;
      },
      made c.line_with.result.user c.line_with.result.behind.now c.args.text.now _ _ _ c.in-Some.colon (sym c.colon_of.ensures ∙ c.in-Some.is)
          c.split_at.ensures.front c.split_at.ensures.back (omega arith) (omega arith)
          (ap (λ (xs : List ℕ). take 40 (drop 1 xs)) c.split_at-2.ensures.front) written c.line_with.ensures.name (c.line_with.ensures.behind ∙ c.split_at-2.ensures.back),
    )
