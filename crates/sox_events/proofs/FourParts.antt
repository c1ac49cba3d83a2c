-- The parts of one component, in their order.
use Rattle.std.proofs.Common.{ℕ, ◌≡◌, ◌+◌, Bool, true, false, List, Option, Some, None, refl, sym, ◌∙◌, subst}
use Rattle.std.specs.Prelude.{◌==◌, ◌&&◌, ◌||◌, nat_lt, is_some, MatchOption}
use Rattle.sed_engine.specs.declared.engine.Engine.{Ghosts}
use Rattle.link_prop.specs.Linked.{Linked}
use Rattle.sub_table.specs.declared.part.Part.{Part}
use Rattle.sub_table.specs.declared.part.Part.TheVariants.{Tree, Config, Runtime, Links}
use Rattle.sub_table.specs.Parts.{is_part}
use Rattle.sub_table.specs.Table.{at}
use Rattle.sub_table.specs.declared.table.SubTable.{SubTable}
use Rattle.sox_events.specs.Due.{Gives, Passes, none_of_them, only, rank}
use Rattle.sox_events.proofs.Passing.{gives_later, passes_more, passes_none, passes_same}

up_here : (part other : Part) → (nat_lt (rank other) (rank part) || is_part part other) ≡ nat_lt (rank other) (rank part + 1)
up_here Tree Tree = refl
up_here Tree Config = refl
up_here Tree Runtime = refl
up_here Tree Links = refl
up_here Config Tree = refl
up_here Config Config = refl
up_here Config Runtime = refl
up_here Config Links = refl
up_here Runtime Tree = refl
up_here Runtime Config = refl
up_here Runtime Runtime = refl
up_here Runtime Links = refl
up_here Links Tree = refl
up_here Links Config = refl
up_here Links Runtime = refl
up_here Links Links = refl

up_to : (e : Bool) (part other : Part) → ((e && nat_lt (rank other) (rank part)) || (e && is_part part other)) ≡ (e && nat_lt (rank other) (rank part + 1))
up_to true part other = up_here part other
up_to false part other = refl

not_itself : (e : Bool) (part : Part) → (e && nat_lt (rank part) (rank part)) ≡ false
not_itself false part = refl
not_itself true Tree = refl
not_itself true Config = refl
not_itself true Runtime = refl
not_itself true Links = refl

all_four : (e : Bool) (part : Part) → (e && nat_lt (rank part) 4) ≡ e
all_four false part = refl
all_four true Tree = refl
all_four true Config = refl
all_four true Runtime = refl
all_four true Links = refl

or_none : (b : Bool) → (b || false) ≡ b
or_none true = refl
or_none false = refl

none_below : (e : Bool) (part : Part) → (e && nat_lt (rank part) 0) ≡ false
none_below false part = refl
none_below true Tree = refl
none_below true Config = refl
none_below true Runtime = refl
none_below true Links = refl

module _ {E : Type 0} (g : Ghosts E) (place : ℕ) where
  pub stage_more : (id : ℕ) (part : Part) (a b c : Linked E) (t u v : SubTable) (into now end : List ℕ)
      → Passes g a b (at t) place (λ i q. i == id && nat_lt (rank q) (rank part)) × (u ≡ t) × (now ≡ into)
      → Passes g b c (at u) place (only id part) × (v ≡ u) × (end ≡ now)
      → Passes g a c (at t) place (λ i q. i == id && nat_lt (rank q) (rank part + 1)) × (v ≡ t) × (end ≡ into)
  stage_more id part a b c t u v into now end s m = (
    passes_more g a b c (at t) place (λ i q. i == id && nat_lt (rank q) (rank part)) (only id part) (λ i q. i == id && nat_lt (rank q) (rank part + 1))
        s.0 (subst (λ (x : SubTable). Passes g b c (at x) place (only id part)) s.1 m.0) (λ i q. up_to (i == id) part q),
    m.1 ∙ s.1,
    m.2 ∙ s.2,
  )

  pub stage_gives : (id : ℕ) (part : Part) (a b c : Linked E) (t u v : SubTable) (into now end : List ℕ) (count : ℕ)
      → Passes g a b (at t) place (λ i q. i == id && nat_lt (rank q) (rank part)) × (u ≡ t) × (now ≡ into)
      → Gives g b c (at u) (at v) place none_of_them id part count now end
      → Gives g a c (at t) (at v) place (λ i q. i == id && nat_lt (rank q) (rank part)) id part count into end
  stage_gives id part a b c t u v into now end count s e =
      gives_later g a b c (at t) place (λ i q. i == id && nat_lt (rank q) (rank part)) none_of_them (λ i q. i == id && nat_lt (rank q) (rank part)) (at v) id part count into end
      s.0 (subst (λ (x : SubTable). Gives g b c (at x) (at v) place none_of_them id part count into end) s.1
      (subst (λ (x : List ℕ). Gives g b c (at u) (at v) place none_of_them id part count x end) s.2 e))
      (not_itself (id == id) part) (λ i q. or_none (i == id && nat_lt (rank q) (rank part)))

  pub first_stage : (id : ℕ) (a : Linked E) (t : SubTable) (into : List ℕ)
      → Passes g a a (at t) place (λ i q. i == id && nat_lt (rank q) 0) × (t ≡ t) × (into ≡ into)
  first_stage id a t into = (passes_same g place a a (at t) none_of_them (λ i q. i == id && nat_lt (rank q) 0) (λ i q. sym (none_below (i == id) q)) (passes_none g place a (at t)), refl, refl)

  -- where an event is given, it is the first one of the component
  pub given_here : (id : ℕ) (part : Part) (a b c : Linked E) (t u v : SubTable) (into now end : List ℕ) (result : Option ℕ) → is_some result ≡ true
      → Passes g a b (at t) place (λ i q. i == id && nat_lt (rank q) (rank part)) × (u ≡ t) × (now ≡ into)
      → MatchOption result (Passes g b c (at u) place (only id part) × (v ≡ u) × (end ≡ now)) (λ count. Gives g b c (at u) (at v) place none_of_them id part count now end)
      → MatchOption result (Passes g a c (at t) place (λ i q. i == id) × (v ≡ t) × (end ≡ into))
      (λ count. (x : Part) × Gives g a c (at t) (at v) place (λ i q. i == id && nat_lt (rank q) (rank x)) id x count into end)
  given_here id part a b c t u v into now end None some s m = absurd (let wrong : false ≡ true = some in cc)
  given_here id part a b c t u v into now end (Some count) some s m = (part, stage_gives id part a b c t u v into now end count s m)

  pub passed_here : (P : Type 0) (Q : ℕ → Type 0) (result : Option ℕ) → is_some result ≡ false → MatchOption result P Q → P
  passed_here P Q None e m = m
  passed_here P Q (Some count) e m = absurd (let wrong : true ≡ false = e in cc)

  pub last_here : (id : ℕ) (a b c : Linked E) (t u v : SubTable) (into now end : List ℕ) (result : Option ℕ)
      → Passes g a b (at t) place (λ i q. i == id && nat_lt (rank q) 3) × (u ≡ t) × (now ≡ into)
      → MatchOption result (Passes g b c (at u) place (only id Links) × (v ≡ u) × (end ≡ now)) (λ count. Gives g b c (at u) (at v) place none_of_them id Links count now end)
      → MatchOption result (Passes g a c (at t) place (λ i q. i == id) × (v ≡ t) × (end ≡ into))
      (λ count. (x : Part) × Gives g a c (at t) (at v) place (λ i q. i == id && nat_lt (rank q) (rank x)) id x count into end)
  last_here id a b c t u v into now end None s m =
      let w = stage_more id Links a b c t u v into now end s m in
      (passes_same g place a c (at t) (λ i q. i == id && nat_lt (rank q) 4) (λ i q. i == id) (λ i q. all_four (i == id) q) w.0, w.1, w.2)
  last_here id a b c t u v into now end (Some count) s m = (Links, stage_gives id Links a b c t u v into now end count s m)

pub match_map : (P R : Type 0) (Q S : ℕ → Type 0) (result : Option ℕ) → (P → R) → ((count : ℕ) → Q count → S count) → MatchOption result P Q → MatchOption result R S
match_map P R Q S None f h m = f m
match_map P R Q S (Some count) f h m = h count m
