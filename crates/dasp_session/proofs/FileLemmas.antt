-- A text is the lines of one list of users at most.
use Rattle.std.proofs.Common.{◌≡◌, ◌≢◌, ℕ, zero, suc, ◌+◌, ◌<◌, ◌≤◌, true, false, inl, inr, List, [], ◌∷◌, ◌++◌, length, take, drop, get_or, refl, sym, ◌∙◌, ap, subst, arith, append_assoc, length-append}
use Rattle.std.specs.Prelude.{Some, Result, Ok, All, nat_eq}
use Rattle.std.specs.List.{list_any}
use Rattle.std.specs.Cmp.Lexicographic.{pointwise, bytes_decides}
use Rattle.std.proofs.lemmas.Bool.{or_cases, or_left, or_right, both_ways}
use Rattle.std.proofs.lemmas.List.Elements.{All-push}
use Rattle.std.proofs.lemmas.List.Quantifiers.{all_pairs_push}
use Rattle.std.proofs.Math.Seq.{take-append_seam, drop-append_seam, get_or-append_seam}
use Rattle.std.proofs.lemmas.List.{get_or_append_left, append-nil}
use Rattle.hex.specs.Hex.{encode_lower, decode_of, IsBytes}
use Rattle.hex.specs.declared.error.FromHexError.{FromHexError}
use Rattle.hex.proofs.HexLemmas.{decode_of-encode_lower}
use Rattle.dasp_session.specs.declared.user.User.{User}
use Rattle.dasp_session.specs.Line.{IsUser, line_of}
use Rattle.dasp_session.specs.UsersFile.{AreUsers, IsUsersFile, text_of}
use Rattle.dasp_session.proofs.LineLemmas.{Cut, cut, length-digits}

some_eq : {A : Type 0} {a b : A} → Some a ≡ Some b → a ≡ b
some_eq e = cc

ok_eq : {a b : List ℕ} → ◌≡◌ {A = Result (List ℕ) FromHexError} (Ok a) (Ok b) → a ≡ b
ok_eq e = cc

-- fronts of one length
pub same_front : {X : Type 0} (a b c d : List X) → length a ≡ length b → a ++ c ≡ b ++ d → (a ≡ b) × (c ≡ d)
same_front a b c d long e = (
  sym (take-append_seam a c) ∙ ap (take (length a)) e ∙ ap (λ (n : ℕ). take n (b ++ d)) long ∙ take-append_seam b d,
  sym (drop-append_seam a c) ∙ ap (drop (length a)) e ∙ ap (λ (n : ℕ). drop n (b ++ d)) long ∙ drop-append_seam b d,
)

pub same_digits : (a b : List ℕ) → IsBytes a → IsBytes b → encode_lower a ≡ encode_lower b → a ≡ b
same_digits a b of_a of_b e =
    ok_eq (sym (decode_of-encode_lower a of_a) ∙ ap decode_of e ∙ decode_of-encode_lower b of_b)

pub line-one : (u v : User) (a b : List ℕ) → IsUser u → IsUser v → line_of u ++ a ≡ line_of v ++ b → (u ≡ v) × (a ≡ b)
line-one u v a b is_u is_v e =
    let of_u : Cut u a (line_of u ++ a) = cut u a (line_of u ++ a) is_u refl in
    let of_v : Cut v b (line_of u ++ a) = cut v b (line_of u ++ a) is_v e in
    let long : length u.name ≡ length v.name = some_eq (sym of_u.colon ∙ of_v.colon) in
    let name : u.name ≡ v.name = sym of_u.name ∙ ap (λ (n : ℕ). take n (line_of u ++ a)) long ∙ of_v.name in
    let rest : 58 ∷ (encode_lower u.credential ++ 10 ∷ a) ≡ 58 ∷ (encode_lower v.credential ++ 10 ∷ b) =
    sym of_u.rest ∙ ap (λ (n : ℕ). drop n (line_of u ++ a)) long ∙ of_v.rest in
    let behind : encode_lower u.credential ++ 10 ∷ a ≡ encode_lower v.credential ++ 10 ∷ b = ap (drop 1) rest in
    let parts = same_front (encode_lower u.credential) (encode_lower v.credential) (10 ∷ a) (10 ∷ b) (length-digits u is_u ∙ sym (length-digits v is_v)) behind in
    let credential : u.credential ≡ v.credential = same_digits u.credential v.credential is_u.bytes is_v.bytes parts.0 in (
      ap (λ (name : List ℕ). record u { name = name }) name ∙ ap (λ (credential : List ℕ). record v { credential = credential }) credential,
      ap (drop 1) parts.1,
    )

-- no line is empty
line-some : (u : User) (a : List ℕ) → line_of u ++ a ≡ [] → ⊥
line-some u a e =
    let n : length (line_of u ++ a) ≡ 0 = ap length e in
    let m : length (line_of u ++ a) ≡ length (line_of u) + length a = length-append (line_of u) a in
    let k : length (line_of u) ≡ length u.name + length (58 ∷ (encode_lower u.credential ++ 10 ∷ [])) = length-append u.name (58 ∷ (encode_lower u.credential ++ 10 ∷ [])) in
    absurd (omega arith)

pub none_left : (users : List User) → text_of users ≡ [] → users ≡ []
none_left [] e = refl
none_left (user ∷ later) e = absurd (line-some user (text_of later) e)

each-later : (first : User) (later : List User) → All IsUser (first ∷ later) → All IsUser later
each-later first later all = λ k d within. all (suc k) d (omega arith)

-- users whose lines begin a text are the first of all that it lists
pub record Later (users all : List User) (left : List ℕ) : Type 0 where
  pub later : List User
  pub whole : all ≡ users ++ later
  pub lines : left ≡ text_of later

pub later_of : (users all : List User) (left : List ℕ) → All IsUser users → All IsUser all → text_of all ≡ text_of users ++ left → Later users all left
later_of [] all left is_users is_all e = record { later = all; whole = refl; lines = sym e }
later_of (user ∷ users) [] left is_users is_all e =
    absurd (line-some user (text_of users ++ left) (sym (e ∙ append_assoc (line_of user) (text_of users) left)))
later_of (user ∷ users) (other ∷ all) left is_users is_all e =
    let one = line-one other user (text_of all) (text_of users ++ left) (is_all 0 other (omega arith)) (is_users 0 user (omega arith))
    (e ∙ append_assoc (line_of user) (text_of users) left) in
    let rest : Later users all left = later_of users all left (each-later user users is_users) (each-later other all is_all) one.1 in
    record {
      later = rest.later;
      whole = ap (λ (first : User). first ∷ all) one.0 ∙ ap (λ (xs : List User). user ∷ xs) rest.whole;
      lines = rest.lines;
    }

-- one line more
pub text-more : (users : List User) (user : User) (behind : List ℕ) → text_of users ++ (line_of user ++ behind) ≡ text_of (users ++ user ∷ []) ++ behind
text-more [] user behind = ap (λ (xs : List ℕ). xs ++ behind) (sym (append-nil (line_of user)))
text-more (first ∷ users) user behind =
    append_assoc (line_of first) (text_of users) (line_of user ++ behind)
    ∙ ap (λ (xs : List ℕ). line_of first ++ xs) (text-more users user behind)
    ∙ sym (append_assoc (line_of first) (text_of (users ++ user ∷ [])) behind)

-- a user of a name
pub record AtName (users : List User) (name : List ℕ) : Type 0 where
  pub place : ℕ
  pub within : place < length users
  pub named : (d : User) → (get_or users place d).name ≡ name

pub at_name : (users : List User) (name : List ℕ) → list_any (λ known. pointwise nat_eq known.name name) users ≡ true → AtName users name
at_name [] name any = absurd (cc)
at_name (user ∷ users) name any =
    elim (or_cases (pointwise nat_eq user.name name) (list_any (λ known. pointwise nat_eq known.name name) users) any) [
      | inl here ↦ record { place = 0; within = omega arith; named = λ d. (bytes_decides user.name name).0 here }
      | inr behind ↦
          let rest : AtName users name = at_name users name behind in
          record {
            place = suc rest.place;
            within = (let w : rest.place < length users = rest.within in omega arith);
            named = rest.named;
          }
    ]

any_name : (users : List User) (name : List ℕ) (k : ℕ) (d : User) → k < length users → (get_or users k d).name ≡ name
    → list_any (λ known. pointwise nat_eq known.name name) users ≡ true
any_name [] name k d within named = absurd (omega arith)
any_name (user ∷ users) name zero d within named =
    or_left (pointwise nat_eq user.name name) _ ((bytes_decides user.name name).1 named)
any_name (user ∷ users) name (suc k) d within named =
    or_right (pointwise nat_eq user.name name) _ (any_name users name k d (omega arith) named)

-- what was read of a text so far, and what is left of it
pub record ReadSoFar (users : List User) (left text : List ℕ) : Type 0 where
  pub are : AreUsers users
  pub lines : text ≡ text_of users ++ left

pub later_so_far : (users : List User) (left text : List ℕ) → ReadSoFar users left text → (all : List User) → IsUsersFile all text → Later users all left
later_so_far users left text so_far all is =
    later_of users all left so_far.are.each is.are.each (sym is.lines ∙ so_far.lines)

-- at the end of the text
pub read_all : (users : List User) (text : List ℕ) → ReadSoFar users [] text → IsUsersFile users text
read_all users text so_far = record { are = so_far.are; lines = so_far.lines ∙ append-nil (text_of users) }

pub read_only : (users : List User) (text : List ℕ) → ReadSoFar users [] text → (all : List User) → IsUsersFile all text → users ≡ all
read_only users text so_far all is =
    let rest : Later users all [] = later_so_far users [] text so_far all is in
    let none : rest.later ≡ [] = none_left rest.later (sym rest.lines) in
    sym (rest.whole ∙ ap (λ (xs : List User). users ++ xs) none ∙ append-nil users)

-- where something is left, there is a user more
pub record NextUser (users all : List User) (left : List ℕ) : Type 0 where
  pub user : User
  pub others : List User
  pub whole : all ≡ users ++ user ∷ others
  pub lines : left ≡ line_of user ++ text_of others
  pub is : IsUser user

next_of : (users all : List User) (left : List ℕ) (later : List User) → All IsUser all → all ≡ users ++ later → left ≡ text_of later → (left ≡ [] → ⊥) → NextUser users all left
next_of users all left [] each whole lines some = absurd (some lines)
next_of users all left (user ∷ others) each whole lines some = record {
  user = user;
  others = others;
  whole = whole;
  lines = lines;
  is =
      let within : length users < length all = rw whole (omega (arith, length-append users (user ∷ others))) in
      subst IsUser (ap (λ (xs : List User). get_or xs (length users) user) whole ∙ get_or-append_seam users user others user) (each (length users) user within);
}

pub next_user : (users : List User) (left text : List ℕ) → ReadSoFar users left text → (left ≡ [] → ⊥) → (all : List User) → IsUsersFile all text → NextUser users all left
next_user users left text so_far some all is =
    let rest : Later users all left = later_so_far users left text so_far all is in
    next_of users all left rest.later is.are.each rest.whole rest.lines some

-- no line begins what is left
pub no_line : (users : List User) (left text : List ℕ) → ReadSoFar users left text → (left ≡ [] → ⊥)
    → ((user : User) (behind : List ℕ) → IsUser user → left ≡ line_of user ++ behind → ⊥) → (all : List User) → IsUsersFile all text → ⊥
no_line users left text so_far some none all is =
    let next : NextUser users all left = next_user users left text so_far some all is in
    none next.user (text_of next.others) next.is next.lines

-- there are 64 already
pub too_many : (users : List User) (left text : List ℕ) → ReadSoFar users left text → (left ≡ [] → ⊥) → length users ≡ 64 → (all : List User) → IsUsersFile all text → ⊥
too_many users left text so_far some full all is =
    let next : NextUser users all left = next_user users left text so_far some all is in
    let few : length all ≤ 64 = is.are.few in
    let many : length all ≡ length users + length (next.user ∷ next.others) = ap length next.whole ∙ length-append users (next.user ∷ next.others) in
    absurd (omega arith)

-- the user of the line that is next is among them already
pub known_twice : (users : List User) (left text : List ℕ) → ReadSoFar users left text → (user : User) (behind : List ℕ) → IsUser user → left ≡ line_of user ++ behind
    → list_any (λ known. pointwise nat_eq known.name user.name) users ≡ true → (all : List User) → IsUsersFile all text → ⊥
known_twice users left text so_far user behind is_user line among all is =
    let some : left ≡ [] → ⊥ = λ none. line-some user behind (sym line ∙ none) in
    let next : NextUser users all left = next_user users left text so_far some all is in
    let same : next.user ≡ user = (line-one next.user user (text_of next.others) behind next.is is_user (sym next.lines ∙ line)).0 in
    let whole : all ≡ users ++ user ∷ next.others = next.whole ∙ ap (λ (u : User). users ++ u ∷ next.others) same in
    let at : AtName users user.name = at_name users user.name among in
    let here : get_or all at.place user ≡ get_or users at.place user =
    ap (λ (xs : List User). get_or xs at.place user) whole ∙ get_or_append_left users (user ∷ next.others) user at.place at.within in
    let there : get_or all (length users) user ≡ user =
    ap (λ (xs : List User). get_or xs (length users) user) whole ∙ get_or-append_seam users user next.others user in
    let within : length users < length all = rw whole (omega (arith, length-append users (user ∷ next.others))) in
    is.are.differ at.place (length users) user at.within within
    (ap (λ (u : User). u.name) here ∙ at.named user ∙ sym (ap (λ (u : User). u.name) there))

-- one user more
pub one_more : (users : List User) (left text : List ℕ) → ReadSoFar users left text → (user : User) (behind : List ℕ) → IsUser user → left ≡ line_of user ++ behind
    → length users < 64 → list_any (λ known. pointwise nat_eq known.name user.name) users ≡ false → ReadSoFar (users ++ user ∷ []) behind text
one_more users left text so_far user behind is_user line fewer apart = record {
  are = record {
    few = omega (arith, length-append users (user ∷ []));
    each = All-push IsUser users user so_far.are.each is_user;
    differ =
        all_pairs_push (λ (one other : User). one.name ≢ other.name) users user so_far.are.differ
        (λ k d within same. absurd (both_ways _ apart (any_name users user.name k d within same)));
  };
  lines = so_far.lines ∙ ap (λ (xs : List ℕ). text_of users ++ xs) line ∙ text-more users user behind;
}
