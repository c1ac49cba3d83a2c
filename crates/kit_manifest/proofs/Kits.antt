-- Loops over the kits of a list.
use Rattle.std.proofs.Common.{◌≡◌, ℕ, zero, suc, ◌+◌, ◌<◌, ◌≤◌, List, [], ◌∷◌, ◌++◌, length, get_or, take, Some, refl, sym, ap, ◌∙◌, inl, inr, subst, arith}
use Rattle.std.specs.Prelude.{Contains, Vec}
use Rattle.std.specs.Option.{option_map_or}
use Rattle.std.specs.declared.alloc.Global.{Global}
use Rattle.std.proofs.lemmas.Bool.{cases_eq, cases_lt, cases_order}
use Rattle.std.proofs.lemmas.List.{take_more, length-append}
use Rattle.std.proofs.lemmas.List.Elements.{Contains-push, Contains-push_cases, Contains-append_left}
use Rattle.std.proofs.lemmas.Option.{slice_get-get_or, slice_get_past}
use Rattle.kit_manifest.specs.declared.manifest.Manifest.{Manifest}
use Rattle.kit_manifest.specs.Links.{links_at, IsLink, AreLinksOf}
use Rattle.kit_manifest.specs.Order.{name_of, depends_of, DependsOn}

-- what an index reads of a kit
pub depends_of-read : (kits : List Manifest) (i : ℕ) (kit : Manifest) → i < length kits → kit ≡ get_or kits i kit → depends_of kits i ≡ kit.depends
depends_of-read kits i kit within is =
    ap (λ o. option_map_or (λ k. k.depends) o []) (slice_get-get_or kits i kit within ∙ ap Some (sym is))

depends_of-past : (kits : List Manifest) (i : ℕ) → length kits ≤ i → depends_of kits i ≡ []
depends_of-past kits i past = ap (λ o. option_map_or (λ k. k.depends) o []) (slice_get_past kits i past)

-- none among those before, and not here
pub none_more : {X : Type 0} (P : X → Type 0) (xs : List X) (i : ℕ) (x : X) → i < length xs → x ≡ get_or xs i x → ((y : X) → Contains (take i xs) y → P y → ⊥) → (P x → ⊥)
    → (y : X) → Contains (take (i + 1) xs) y → P y → ⊥
none_more P xs i x within is before here y there holds =
    let cases = Contains-push_cases (take i xs) x y (subst (λ l. Contains l y) (take_more xs i x within ∙ ap (λ z. take i xs ++ z ∷ []) (sym is)) there) in
    elim cases [ inl earlier ↦ before y earlier holds | inr same ↦ here (subst P (sym same) holds) ]

-- the kits that one needs, of those before a place
pub record Needs (kits : List Manifest) (place : ℕ) (needs : List ℕ) (before : ℕ) : Type 0 where
  pub needed : (j : ℕ) → Contains needs j → DependsOn kits place j
  pub found : (j : ℕ) → j < before → DependsOn kits place j → Contains needs j

pub Needs-yes : (kits : List Manifest) (place : ℕ) (needs : List ℕ) (other : ℕ) → Needs kits place needs other → DependsOn kits place other → Needs kits place (needs ++ other ∷ []) (other + 1)
Needs-yes kits place needs other so_far depends = record {
  needed = λ j there. elim (Contains-push_cases needs other j there) [ inl before ↦ so_far.needed j before | inr same ↦ subst (DependsOn kits place) same depends ];
  found = λ j below wanted. elim (cases_eq other j) [
    | inl same ↦ subst (Contains (needs ++ other ∷ [])) same (Contains-push needs other)
    | inr apart ↦ Contains-append_left needs (other ∷ []) j (so_far.found j (omega (arith, below, apart)) wanted)
  ];
}

pub Needs-not : (kits : List Manifest) (place : ℕ) (needs : List ℕ) (other : ℕ) → Needs kits place needs other → (DependsOn kits place other → ⊥) → Needs kits place needs (other + 1)
Needs-not kits place needs other so_far never = record {
  needed = so_far.needed;
  found = λ j below wanted. elim (cases_eq other j) [
    | inl same ↦ absurd (never (subst (DependsOn kits place) (sym same) wanted))
    | inr apart ↦ so_far.found j (omega (arith, below, apart)) wanted
  ];
}

-- the links of the kits before a place
pub record Linked (kits : List Manifest) (links : List (Vec ℕ Global)) (before : ℕ) : Type 0 where
  pub so_many : length links ≡ before
  pub depends : (i j : ℕ) → IsLink links i j → DependsOn kits i j
  pub linked : (i j : ℕ) → i < before → DependsOn kits i j → IsLink links i j

links_at-before : (links : List (Vec ℕ Global)) (last : Vec ℕ Global) (i : ℕ) → i < length links → links_at (links ++ last ∷ []) i ≡ links_at links i
links_at-before [] last i within = absurd (omega (arith, within))
links_at-before (x ∷ links) last zero within = refl
links_at-before (x ∷ links) last (suc i) within = links_at-before links last i (omega (arith, within))

links_at-last : (links : List (Vec ℕ Global)) (last : Vec ℕ Global) → links_at (links ++ last ∷ []) (length links) ≡ last.items
links_at-last [] last = refl
links_at-last (x ∷ links) last = links_at-last links last

links_at-past : (links : List (Vec ℕ Global)) (i : ℕ) → length links ≤ i → links_at links i ≡ []
links_at-past links i past = ap (λ o. option_map_or (λ to. to.items) o []) (slice_get_past links i past)

nothing_in : {X : Type 0} (x : X) → Contains [] x → ⊥
nothing_in x (k, within, is) = omega (arith, within)

pub Linked-more : (kits : List Manifest) (links : List (Vec ℕ Global)) (last : Vec ℕ Global) (place : ℕ) → Linked kits links place → ((j : ℕ) → Contains last.items j → DependsOn kits place j)
    → ((j : ℕ) → DependsOn kits place j → Contains last.items j) → Linked kits (links ++ last ∷ []) (place + 1)
Linked-more kits links last place so_far needed found = record {
  so_many = omega (arith, length-append {A = Vec ℕ Global} links (last ∷ []), so_far.so_many);
  depends = λ i j link. elim (cases_order i (length links)) [
    | inl same ↦
        let here : links_at (links ++ last ∷ []) i ≡ last.items = ap (links_at (links ++ last ∷ [])) same ∙ links_at-last links last in
        subst (λ k. DependsOn kits k j) (sym (same ∙ so_far.so_many)) (needed j (subst (λ l. Contains l j) here link))
    | inr (inl below) ↦ so_far.depends i j (subst (λ l. Contains l j) (links_at-before links last i below) link)
    | inr (inr above) ↦
        let past : length (links ++ last ∷ []) ≤ i = omega (arith, length-append {A = Vec ℕ Global} links (last ∷ []), above) in
        absurd (nothing_in j (subst (λ l. Contains l j) (links_at-past (links ++ last ∷ []) i past) link))
  ];
  linked = λ i j below wanted. elim (cases_eq i place) [
    | inl same ↦
        let here : links_at (links ++ last ∷ []) i ≡ last.items = ap (links_at (links ++ last ∷ [])) (same ∙ sym so_far.so_many) ∙ links_at-last links last in
        subst (λ l. Contains l j) (sym here) (found j (subst (λ k. DependsOn kits k j) same wanted))
    | inr apart ↦
        let before : i < length links = omega (arith, so_far.so_many, below, apart) in
        let smaller : i < place = omega (arith, below, apart) in
        subst (λ l. Contains l j) (sym (links_at-before links last i before)) (so_far.linked i j smaller wanted)
  ];
}

pub Linked-whole : (kits : List Manifest) (links : List (Vec ℕ Global)) (n : ℕ) → Linked kits links n → length kits ≤ n → n ≤ length kits → AreLinksOf kits links
Linked-whole kits links n so_far all most = record {
  same_length = omega (arith, so_far.so_many, all, most);
  depends = so_far.depends;
  linked = λ i j wanted. elim (cases_lt i n) [
    | inl below ↦ so_far.linked i j below wanted
    | inr past ↦
        let outside : length kits ≤ i = omega (arith, past, most) in
        absurd (nothing_in (name_of kits j) (subst (λ l. Contains l (name_of kits j)) (depends_of-past kits i outside) wanted.1))
  ];
}
