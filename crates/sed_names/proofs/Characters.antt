-- The function of a character's bytes gives the character that they denote, and none where they denote none.
use Rattle.std.proofs.Common.{◌≡◌, ℕ, Bool, true, false, ◌&&◌, ◌==◌, cond, List, [], ◌∷◌, ◌++◌, Option, Some, None, refl, sym, ap, subst, ◌∙◌}
use Rattle.sed_lexer.specs.One.{FindsOne}
use Rattle.sed_lexer.specs.Spellings.{is_plain, escaped, Spells, IsCharacterOf}
use Rattle.sed_names.specs.Spelled.{character_of}
use Rattle.std.proofs.lemmas.Option.{none-some as none_some}
use Rattle.std.proofs.lemmas.Bool.{eqb-true as byte_is}

plain_sound : (q b r c : ℕ) → character_of (q ∷ b ∷ r ∷ []) ≡ Some c → IsCharacterOf (q ∷ b ∷ r ∷ []) c
plain_sound q b r c h = by_tests (q == 39) (r == 39) (is_plain 39 b) refl refl refl h
  where
    by_tests : (s t u : Bool) → (q == 39) ≡ s → (r == 39) ≡ t → is_plain 39 b ≡ u → cond (s && t && u) (Some b) None ≡ Some c → IsCharacterOf (q ∷ b ∷ r ∷ []) c
    by_tests true true true x y z h =
        let whole : q ∷ b ∷ r ∷ [] ≡ 39 ∷ b ∷ 39 ∷ [] = ap (λ (a : ℕ). a ∷ b ∷ r ∷ []) (byte_is q 39 x) ∙ ap (λ (a : ℕ). 39 ∷ b ∷ a ∷ []) (byte_is r 39 y) in
        (b ∷ [], whole, (z, let e : b ≡ c = cc in e))
    by_tests true true false x y z h = absurd (none_some c h)
    by_tests true false u x y z h = absurd (none_some c h)
    by_tests false t u x y z h = absurd (none_some c h)

escape_sound : (q s b r c : ℕ) → character_of (q ∷ s ∷ b ∷ r ∷ []) ≡ Some c → IsCharacterOf (q ∷ s ∷ b ∷ r ∷ []) c
escape_sound q s b r c h = by_tests (q == 39) (s == 92) (r == 39) refl refl refl h
  where
    by_tests : (k t u : Bool) → (q == 39) ≡ k → (s == 92) ≡ t → (r == 39) ≡ u → cond (k && t && u) (escaped b) None ≡ Some c → IsCharacterOf (q ∷ s ∷ b ∷ r ∷ []) c
    by_tests true true true x y z h =
        let whole : q ∷ s ∷ b ∷ r ∷ [] ≡ 39 ∷ s ∷ b ∷ 39 ∷ [] = ap (λ (a : ℕ). a ∷ s ∷ b ∷ r ∷ []) (byte_is q 39 x) ∙ ap (λ (a : ℕ). 39 ∷ s ∷ b ∷ a ∷ []) (byte_is r 39 z) in
        (s ∷ b ∷ [], whole, (byte_is s 92 y, h))
    by_tests true true false x y z h = absurd (none_some c h)
    by_tests true false u x y z h = absurd (none_some c h)
    by_tests false t u x y z h = absurd (none_some c h)

sound : (bytes : List ℕ) (c : ℕ) → character_of bytes ≡ Some c → IsCharacterOf bytes c
sound [] c h = absurd (none_some c h)
sound (q ∷ []) c h = absurd (none_some c h)
sound (q ∷ b ∷ []) c h = absurd (none_some c h)
sound (q ∷ b ∷ r ∷ []) c h = plain_sound q b r c h
sound (q ∷ s ∷ b ∷ r ∷ []) c h = escape_sound q s b r c h
sound (q ∷ s ∷ b ∷ r ∷ t ∷ bytes) c h = absurd (none_some c h)

-- between quotes
complete_at : (spelling : List ℕ) (c : ℕ) → Spells 39 spelling c → character_of (39 ∷ (spelling ++ 39 ∷ [])) ≡ Some c
complete_at [] c h = absurd h
complete_at (b ∷ []) c h = let plain : is_plain 39 b ≡ true = h.0 in rw plain (ap Some h.1)
complete_at (s ∷ b ∷ []) c h = let slash : s ≡ 92 = h.0 in subst (λ (a : ℕ). character_of (39 ∷ a ∷ b ∷ 39 ∷ []) ≡ Some c) (sym slash) h.1
complete_at (s ∷ b ∷ d ∷ bytes) c h = absurd h

pub character_is : (bytes : List ℕ) (r : Option ℕ) → FindsOne (IsCharacterOf bytes) r → r ≡ character_of bytes
character_is bytes r f = is r (character_of bytes) refl f
  where
    is : (r o : Option ℕ) → character_of bytes ≡ o → FindsOne (IsCharacterOf bytes) r → r ≡ o
    is None None q f = refl
    is None (Some d) q f = absurd (f d (sound bytes d q))
    is (Some c) None q f =
        let there : character_of bytes ≡ Some c = ap character_of f.0.1 ∙ complete_at f.0.0 c f.0.2 in absurd (none_some c (sym q ∙ there))
    is (Some c) (Some d) q f = let same : d ≡ c = f.1 d (sound bytes d q) in ap Some (sym same)
