-- A payload is one request at most, and reading from left to right finds it.
use Rattle.std.proofs.Common.{◌≡◌, ℕ, ◌*◌, ◌/◌, ◌%◌, ◌<◌, inl, inr, true, ◌==◌, Some, None, List, [], ◌∷◌, ◌++◌, length, get_or, refl, sym, subst, ◌∙◌, ap, arith}
use Rattle.std.proofs.lemmas.Bool.{eqb-true}
use Rattle.std.proofs.lemmas.Bool.Decides.{nat_tests}
use Rattle.std.proofs.lemmas.List.{append-nil, nil_from_length}
use Rattle.std.specs.Prelude.{nat_lt}
use Rattle.sox_msg.specs.Command.{Asked, add, read_part, delete, invoke, link, unlink, rename, reorder, read_slot, subscribe, unsubscribe, version, write, clear, CanBeAsked, body_of, is_part, letter_of, str, u2}
use Rattle.sox_msg.specs.Forms.{id_at, text_at, add_at, part_at, delete_at, invoke_at, link_at, rename_at, reorder_at, slot_at, subscribe_at, unsubscribe_at, version_at, write_at, clear_at, command_at}
use Rattle.sox_msg.proofs.TextLemmas.{some_eq, split, step_found, text_at-complete, text_at-sound}

abbrev pub AreBytes : List ℕ → Type 0
AreBytes bytes = (i : ℕ) → get_or bytes i 0 < 256

-- the command has the letter, and the body is its
pub record IsAsked (known : ℕ) (bytes : List ℕ) (asked : Asked) : Type 0 where
  pub letter : letter_of asked ≡ known
  pub can : CanBeAsked asked
  pub body : bytes ≡ body_of asked

id-below : (a b : ℕ) → a < 256 → b < 256 → id_at a b < 65536
id-below a b of_a of_b = omega arith

pub u2-of : (a b : ℕ) → b < 256 → a ∷ b ∷ [] ≡ u2 (id_at a b)
u2-of a b of_b =
    let high : a ≡ id_at a b / 256 = omega arith in
    let low : b ≡ id_at a b % 256 = omega arith in
    ap (λ (n : ℕ). n ∷ b ∷ []) high ∙ ap (λ (n : ℕ). id_at a b / 256 ∷ n ∷ []) low

id-again : (id : ℕ) → id_at (id / 256) (id % 256) ≡ id
id-again id = omega arith

u2-front : (a b : ℕ) (behind : List ℕ) → b < 256 → a ∷ b ∷ behind ≡ u2 (id_at a b) ++ behind
u2-front a b behind of_b = ap (λ (t : List ℕ). t ++ behind) (u2-of a b of_b)

-- ---- what is found is asked

add-sound : (body : List ℕ) (c : Asked) → AreBytes body → add_at body ≡ Some c → IsAsked 97 body c
unfolding add_at
add-sound [] c bytes e = absurd cc
add-sound (a ∷ []) c bytes e = absurd cc
add-sound (a ∷ b ∷ []) c bytes e = absurd cc
add-sound (a ∷ b ∷ k ∷ []) c bytes e = absurd cc
add-sound (a ∷ b ∷ k ∷ t ∷ rest) c bytes e =
    let read = step_found (text_at rest) _ c e in
    let at = text_at-sound rest read.0.0 read.0.1 read.1 in
    let high : a < 256 = bytes 0 in
    let low : b < 256 = bytes 1 in
    subst (IsAsked 97 (a ∷ b ∷ k ∷ t ∷ rest)) (some_eq _ _ read.2)
    (record {
      letter = refl;
      can = (id-below a b high low, at.characters);
      body = u2-front a b (k ∷ t ∷ rest) low
          ∙ ap (λ (r : List ℕ). u2 (id_at a b) ++ (k ∷ t ∷ r)) at.front;
    })

part-sound : (body : List ℕ) (c : Asked) → AreBytes body → part_at body ≡ Some c → IsAsked 99 body c
unfolding part_at
part-sound [] c bytes e = absurd cc
part-sound (a ∷ []) c bytes e = absurd cc
part-sound (a ∷ b ∷ []) c bytes e = absurd cc
part-sound (a ∷ b ∷ p ∷ q ∷ rest) c bytes e = absurd cc
part-sound (a ∷ b ∷ p ∷ []) c bytes e = elim (split (is_part p) _ None (Some c) e) [
  | inl is ↦
      let high : a < 256 = bytes 0 in
      let low : b < 256 = bytes 1 in
      subst (IsAsked 99 (a ∷ b ∷ p ∷ [])) (some_eq _ _ is.1)
      (record { letter = refl; can = (id-below a b high low, is.0); body = u2-front a b (p ∷ []) low })
  | inr none ↦ absurd (let n : None ≡ Some c = none.1 in cc)
]

delete-sound : (body : List ℕ) (c : Asked) → AreBytes body → delete_at body ≡ Some c → IsAsked 100 body c
unfolding delete_at
delete-sound [] c bytes e = absurd cc
delete-sound (a ∷ []) c bytes e = absurd cc
delete-sound (a ∷ b ∷ q ∷ rest) c bytes e = absurd cc
delete-sound (a ∷ b ∷ []) c bytes e =
    let high : a < 256 = bytes 0 in
    let low : b < 256 = bytes 1 in
    subst (IsAsked 100 (a ∷ b ∷ [])) (some_eq _ _ e)
    (record { letter = refl; can = id-below a b high low; body = u2-of a b low })

invoke-sound : (body : List ℕ) (c : Asked) → AreBytes body → invoke_at body ≡ Some c → IsAsked 105 body c
unfolding invoke_at
invoke-sound [] c bytes e = absurd cc
invoke-sound (a ∷ []) c bytes e = absurd cc
invoke-sound (a ∷ b ∷ []) c bytes e = absurd cc
invoke-sound (a ∷ b ∷ s ∷ arg) c bytes e =
    let high : a < 256 = bytes 0 in
    let low : b < 256 = bytes 1 in
    subst (IsAsked 105 (a ∷ b ∷ s ∷ arg)) (some_eq _ _ e)
    (record { letter = refl; can = id-below a b high low; body = u2-front a b (s ∷ arg) low })

link-sound : (body : List ℕ) (x : Asked) → AreBytes body → link_at body ≡ Some x → IsAsked 108 body x
unfolding link_at
link-sound [] x bytes e = absurd cc
link-sound (w ∷ []) x bytes e = absurd cc
link-sound (w ∷ a ∷ []) x bytes e = absurd cc
link-sound (w ∷ a ∷ b ∷ []) x bytes e = absurd cc
link-sound (w ∷ a ∷ b ∷ s ∷ []) x bytes e = absurd cc
link-sound (w ∷ a ∷ b ∷ s ∷ c ∷ []) x bytes e = absurd cc
link-sound (w ∷ a ∷ b ∷ s ∷ c ∷ d ∷ []) x bytes e = absurd cc
link-sound (w ∷ a ∷ b ∷ s ∷ c ∷ d ∷ t ∷ q ∷ rest) x bytes e = absurd cc
link-sound (w ∷ a ∷ b ∷ s ∷ c ∷ d ∷ t ∷ []) x bytes e =
    let whole : List ℕ = w ∷ a ∷ b ∷ s ∷ c ∷ d ∷ t ∷ [] in
    let one : a < 256 = bytes 1 in
    let two : b < 256 = bytes 2 in
    let three : c < 256 = bytes 4 in
    let four : d < 256 = bytes 5 in
    let can : (id_at a b < 65536) × (id_at c d < 65536) = (id-below a b one two, id-below c d three four) in
    let behind : a ∷ b ∷ s ∷ c ∷ d ∷ t ∷ [] ≡ u2 (id_at a b) ++ s ∷ (u2 (id_at c d) ++ t ∷ []) =
    u2-front a b (s ∷ c ∷ d ∷ t ∷ []) two
    ∙ ap (λ (r : List ℕ). u2 (id_at a b) ++ s ∷ r) (u2-front c d (t ∷ []) four) in
    elim (split (w == 97) _ _ (Some x) e) [
      | inl is ↦
          subst (IsAsked 108 whole) (some_eq _ _ is.1)
          (record {
            letter = refl;
            can = can;
            body = ap (λ (n : ℕ). n ∷ a ∷ b ∷ s ∷ c ∷ d ∷ t ∷ []) (eqb-true w 97 is.0)
                ∙ ap (λ (r : List ℕ). 97 ∷ r) behind;
          })
      | inr other ↦ elim (split (w == 100) _ None (Some x) other.1) [
        | inl is ↦
            subst (IsAsked 108 whole) (some_eq _ _ is.1)
            (record {
              letter = refl;
              can = can;
              body = ap (λ (n : ℕ). n ∷ a ∷ b ∷ s ∷ c ∷ d ∷ t ∷ []) (eqb-true w 100 is.0)
                  ∙ ap (λ (r : List ℕ). 100 ∷ r) behind;
            })
        | inr none ↦ absurd (let n : None ≡ Some x = none.1 in cc)
      ]
    ]

rename-sound : (body : List ℕ) (c : Asked) → AreBytes body → rename_at body ≡ Some c → IsAsked 110 body c
unfolding rename_at
rename-sound [] c bytes e = absurd cc
rename-sound (a ∷ []) c bytes e = absurd cc
rename-sound (a ∷ b ∷ rest) c bytes e =
    let read = step_found (text_at rest) _ c e in
    let at = text_at-sound rest read.0.0 read.0.1 read.1 in
    let high : a < 256 = bytes 0 in
    let low : b < 256 = bytes 1 in
    elim (split (length read.0.1 == 0) _ None (Some c) read.2) [
      | inl is ↦
          let none : read.0.1 ≡ [] = nil_from_length read.0.1 (eqb-true _ _ is.0) in
          let whole : rest ≡ str read.0.0 =
          at.front ∙ ap (λ (t : List ℕ). str read.0.0 ++ t) none ∙ append-nil (str read.0.0) in
          subst (IsAsked 110 (a ∷ b ∷ rest)) (some_eq _ _ is.1)
          (record {
            letter = refl;
            can = (id-below a b high low, at.characters);
            body = u2-front a b rest low ∙ ap (λ (r : List ℕ). u2 (id_at a b) ++ r) whole;
          })
      | inr none ↦ absurd (let n : None ≡ Some c = none.1 in cc)
    ]

reorder-sound : (body : List ℕ) (c : Asked) → AreBytes body → reorder_at body ≡ Some c → IsAsked 111 body c
unfolding reorder_at
reorder-sound [] c bytes e = absurd cc
reorder-sound (a ∷ []) c bytes e = absurd cc
reorder-sound (a ∷ b ∷ []) c bytes e = absurd cc
reorder-sound (a ∷ b ∷ n ∷ children) c bytes e =
    let high : a < 256 = bytes 0 in
    let low : b < 256 = bytes 1 in
    elim (split (length children == 2 * n) _ None (Some c) e) [
      | inl is ↦
          let long : length children ≡ 2 * n = eqb-true _ _ is.0 in
          let half : n ≡ length children / 2 = omega (arith, long) in
          subst (IsAsked 111 (a ∷ b ∷ n ∷ children)) (some_eq _ _ is.1)
          (record {
            letter = refl;
            can = (id-below a b high low, omega (arith, long));
            body = u2-front a b (n ∷ children) low
                ∙ ap (λ (m : ℕ). u2 (id_at a b) ++ m ∷ children) half;
          })
      | inr none ↦ absurd (let m : None ≡ Some c = none.1 in cc)
    ]

slot-sound : (body : List ℕ) (c : Asked) → AreBytes body → slot_at body ≡ Some c → IsAsked 114 body c
unfolding slot_at
slot-sound [] c bytes e = absurd cc
slot-sound (a ∷ []) c bytes e = absurd cc
slot-sound (a ∷ b ∷ []) c bytes e = absurd cc
slot-sound (a ∷ b ∷ s ∷ q ∷ rest) c bytes e = absurd cc
slot-sound (a ∷ b ∷ s ∷ []) c bytes e =
    let high : a < 256 = bytes 0 in
    let low : b < 256 = bytes 1 in
    subst (IsAsked 114 (a ∷ b ∷ s ∷ [])) (some_eq _ _ e)
    (record { letter = refl; can = id-below a b high low; body = u2-front a b (s ∷ []) low })

subscribe-sound : (body : List ℕ) (c : Asked) → AreBytes body → subscribe_at body ≡ Some c → IsAsked 115 body c
unfolding subscribe_at
subscribe-sound [] c bytes e = absurd cc
subscribe-sound (a ∷ []) c bytes e = absurd cc
subscribe-sound (a ∷ b ∷ []) c bytes e = absurd cc
subscribe-sound (a ∷ b ∷ m ∷ q ∷ rest) c bytes e = absurd cc
subscribe-sound (a ∷ b ∷ m ∷ []) c bytes e = elim (split (nat_lt m 16) _ None (Some c) e) [
  | inl is ↦
      let high : a < 256 = bytes 0 in
      let low : b < 256 = bytes 1 in
      let test = is.0 in
      let few : m < 16 = grind (arith, nat_tests) in
      subst (IsAsked 115 (a ∷ b ∷ m ∷ [])) (some_eq _ _ is.1)
      (record { letter = refl; can = (id-below a b high low, few); body = u2-front a b (m ∷ []) low })
  | inr none ↦ absurd (let n : None ≡ Some c = none.1 in cc)
]

unsubscribe-sound : (body : List ℕ) (c : Asked) → AreBytes body → unsubscribe_at body ≡ Some c → IsAsked 117 body c
unfolding unsubscribe_at
unsubscribe-sound [] c bytes e = absurd cc
unsubscribe-sound (a ∷ []) c bytes e = absurd cc
unsubscribe-sound (a ∷ b ∷ []) c bytes e = absurd cc
unsubscribe-sound (a ∷ b ∷ m ∷ q ∷ rest) c bytes e = absurd cc
unsubscribe-sound (a ∷ b ∷ m ∷ []) c bytes e = elim (split (nat_lt m 16) _ None (Some c) e) [
  | inl is ↦
      let high : a < 256 = bytes 0 in
      let low : b < 256 = bytes 1 in
      let test = is.0 in
      let few : m < 16 = grind (arith, nat_tests) in
      subst (IsAsked 117 (a ∷ b ∷ m ∷ [])) (some_eq _ _ is.1)
      (record { letter = refl; can = (id-below a b high low, few); body = u2-front a b (m ∷ []) low })
  | inr none ↦ absurd (let n : None ≡ Some c = none.1 in cc)
]

version-sound : (body : List ℕ) (c : Asked) → AreBytes body → version_at body ≡ Some c → IsAsked 118 body c
unfolding version_at
version-sound [] c bytes e =
    subst (IsAsked 118 []) (some_eq _ _ e) (record { letter = refl; can = tt; body = refl })
version-sound (a ∷ rest) c bytes e = absurd cc

write-sound : (body : List ℕ) (c : Asked) → AreBytes body → write_at body ≡ Some c → IsAsked 119 body c
unfolding write_at
write-sound [] c bytes e = absurd cc
write-sound (a ∷ []) c bytes e = absurd cc
write-sound (a ∷ b ∷ []) c bytes e = absurd cc
write-sound (a ∷ b ∷ s ∷ value) c bytes e =
    let high : a < 256 = bytes 0 in
    let low : b < 256 = bytes 1 in
    subst (IsAsked 119 (a ∷ b ∷ s ∷ value)) (some_eq _ _ e)
    (record { letter = refl; can = id-below a b high low; body = u2-front a b (s ∷ value) low })

clear-sound : (body : List ℕ) (c : Asked) → AreBytes body → clear_at body ≡ Some c → IsAsked 120 body c
unfolding clear_at
clear-sound [] c bytes e = absurd cc
clear-sound (a ∷ []) c bytes e = absurd cc
clear-sound (a ∷ b ∷ q ∷ rest) c bytes e = absurd cc
clear-sound (a ∷ b ∷ []) c bytes e =
    let high : a < 256 = bytes 0 in
    let low : b < 256 = bytes 1 in
    subst (IsAsked 120 (a ∷ b ∷ [])) (some_eq _ _ e)
    (record { letter = refl; can = id-below a b high low; body = u2-of a b low })

of_letter : (letter known : ℕ) (body : List ℕ) (c : Asked) → (letter == known) ≡ true → IsAsked known body c
    → IsAsked letter body c
of_letter letter known body c is asked =
    subst (λ (n : ℕ). IsAsked n body c) (sym (eqb-true letter known is)) asked

pub command-sound : (letter : ℕ) (body : List ℕ) (c : Asked) → AreBytes body → command_at letter body ≡ Some c
    → IsAsked letter body c
unfolding command_at
command-sound letter body c bytes e = elim (split (letter == 97) _ _ (Some c) e) [
  | inl h ↦ of_letter letter 97 body c h.0 (add-sound body c bytes h.1)
  | inr e ↦ elim (split (letter == 99) _ _ (Some c) e.1) [
    | inl h ↦ of_letter letter 99 body c h.0 (part-sound body c bytes h.1)
    | inr e ↦ elim (split (letter == 100) _ _ (Some c) e.1) [
      | inl h ↦ of_letter letter 100 body c h.0 (delete-sound body c bytes h.1)
      | inr e ↦ elim (split (letter == 105) _ _ (Some c) e.1) [
        | inl h ↦ of_letter letter 105 body c h.0 (invoke-sound body c bytes h.1)
        | inr e ↦ elim (split (letter == 108) _ _ (Some c) e.1) [
          | inl h ↦ of_letter letter 108 body c h.0 (link-sound body c bytes h.1)
          | inr e ↦ elim (split (letter == 110) _ _ (Some c) e.1) [
            | inl h ↦ of_letter letter 110 body c h.0 (rename-sound body c bytes h.1)
            | inr e ↦ elim (split (letter == 111) _ _ (Some c) e.1) [
              | inl h ↦ of_letter letter 111 body c h.0 (reorder-sound body c bytes h.1)
              | inr e ↦ elim (split (letter == 114) _ _ (Some c) e.1) [
                | inl h ↦ of_letter letter 114 body c h.0 (slot-sound body c bytes h.1)
                | inr e ↦ elim (split (letter == 115) _ _ (Some c) e.1) [
                  | inl h ↦ of_letter letter 115 body c h.0 (subscribe-sound body c bytes h.1)
                  | inr e ↦ elim (split (letter == 117) _ _ (Some c) e.1) [
                    | inl h ↦ of_letter letter 117 body c h.0 (unsubscribe-sound body c bytes h.1)
                    | inr e ↦ elim (split (letter == 118) _ _ (Some c) e.1) [
                      | inl h ↦ of_letter letter 118 body c h.0 (version-sound body c bytes h.1)
                      | inr e ↦ elim (split (letter == 119) _ _ (Some c) e.1) [
                        | inl h ↦ of_letter letter 119 body c h.0 (write-sound body c bytes h.1)
                        | inr e ↦ elim (split (letter == 120) _ _ (Some c) e.1) [
                          | inl h ↦ of_letter letter 120 body c h.0 (clear-sound body c bytes h.1)
                          | inr e ↦ absurd (let n : None ≡ Some c = e.1 in cc)
                        ]
                      ]
                    ]
                  ]
                ]
              ]
            ]
          ]
        ]
      ]
    ]
  ]
]

-- ---- what is asked is found

pub command-complete : (c : Asked) → CanBeAsked c → command_at (letter_of c) (body_of c) ≡ Some c
unfolding command_at add_at part_at delete_at invoke_at link_at rename_at reorder_at slot_at subscribe_at unsubscribe_at version_at write_at clear_at
command-complete (add p k t name config) can =
    rw (text_at-complete name config can.1) (ap (λ (n : ℕ). Some (add n k t name config)) (id-again p))
command-complete (read_part id part) can = rw can.1 (ap (λ (n : ℕ). Some (read_part n part)) (id-again id))
command-complete (delete id) can = ap (λ (n : ℕ). Some (delete n)) (id-again id)
command-complete (invoke id s arg) can = ap (λ (n : ℕ). Some (invoke n s arg)) (id-again id)
command-complete (link f s g t) can =
    ap (λ (n : ℕ). Some (link n s (id_at (g / 256) (g % 256)) t)) (id-again f)
    ∙ ap (λ (n : ℕ). Some (link f s n t)) (id-again g)
command-complete (unlink f s g t) can =
    ap (λ (n : ℕ). Some (unlink n s (id_at (g / 256) (g % 256)) t)) (id-again f)
    ∙ ap (λ (n : ℕ). Some (unlink f s n t)) (id-again g)
command-complete (rename id name) can =
    let read = ap text_at (sym (append-nil (str name))) ∙ text_at-complete name [] can.1 in
    rw read (ap (λ (n : ℕ). Some (rename n name)) (id-again id))
command-complete (reorder id children) can =
    let even = can.1 in
    let long : (length children == 2 * (length children / 2)) ≡ true = grind (arith, nat_tests) in
    rw long (ap (λ (n : ℕ). Some (reorder n children)) (id-again id))
command-complete (read_slot id s) can = ap (λ (n : ℕ). Some (read_slot n s)) (id-again id)
command-complete (subscribe id m) can =
    let few = can.1 in
    let test : nat_lt m 16 ≡ true = grind (arith, nat_tests) in
    rw test (ap (λ (n : ℕ). Some (subscribe n m)) (id-again id))
command-complete (unsubscribe id m) can =
    let few = can.1 in
    let test : nat_lt m 16 ≡ true = grind (arith, nat_tests) in
    rw test (ap (λ (n : ℕ). Some (unsubscribe n m)) (id-again id))
command-complete version can = refl
command-complete (write id s value) can = ap (λ (n : ℕ). Some (write n s value)) (id-again id)
command-complete (clear id) can = ap (λ (n : ℕ). Some (clear n)) (id-again id)
