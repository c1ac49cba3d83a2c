-- One place after another.
use Rattle.std.proofs.Common.{◌≡◌, ◌∙◌, ◌<◌, ◌+◌, ℕ, zero, suc, List, [], ◌∷◌, ◌++◌, length, take, get_or, refl}
use Rattle.std.proofs.Common.{ap, arith}
use Rattle.std.specs.List.{fold}
use Rattle.std.proofs.lemmas.List.Sums.{fold-append}
use Rattle.sed_engine.specs.declared.engine.Engine.{Ghosts}
use Rattle.sed_engine.specs.Code.{Meaning}
use Rattle.dasp_session.specs.Outbox.{Datagram}
use Rattle.node_events.specs.Events.{Telling}
use Rattle.node_events.specs.Node.{Node, OnlyOfTheOpen}
use Rattle.node_events.specs.Ticking.{at_place, places}
use Rattle.sed_node.specs.Doing.{IsTold}
use Rattle.sed_node.specs.Standing.{Holds}
use Rattle.sed_node.specs.declared.kept.Kept.{Kept}

-- the first so many places were visited
abbrev pub visited : Meaning → Node → ℕ → Telling
visited m n count = fold (at_place m) (record { node = n; sent = [] }) (take count places)

-- a node in the course of a tick is held, and only its open sessions have subscribed anything
pub record WasAt {E : Type 0} (g : Ghosts E) (kept : Kept E) (t : Telling) (sent : List Datagram) : Type 0 where
  pub is_told : IsTold g kept t sent
  pub only : OnlyOfTheOpen t.node

abbrev pub Visited : {E : Type 0} → Ghosts E → Meaning → Kept E → Kept E → ℕ → List Datagram → Type 0
Visited g m old kept count sent = (n : Node) → Holds g old n → OnlyOfTheOpen n → WasAt g kept (visited m n count) sent

one_more : {A : Type 0} (xs : List A) (k : ℕ) (other : A) → k < length xs → take (suc k) xs ≡ take k xs
    ++ get_or xs k other ∷ []
one_more [] k other within = absurd (let no : k < 0 = within in omega (arith, no))
one_more (x ∷ xs) zero other within = refl
one_more (x ∷ xs) (suc k) other within = ap (λ (rest : List _). x ∷ rest) (one_more xs k other (omega (arith, within)))

-- each place stands where its number says
place_is : (k : ℕ) → k < 16 → get_or places k 0 ≡ k
place_is zero few = refl
place_is (suc zero) few = refl
place_is (suc (suc zero)) few = refl
place_is (suc (suc (suc zero))) few = refl
place_is (suc (suc (suc (suc zero)))) few = refl
place_is (suc (suc (suc (suc (suc zero))))) few = refl
place_is (suc (suc (suc (suc (suc (suc zero)))))) few = refl
place_is (suc (suc (suc (suc (suc (suc (suc zero))))))) few = refl
place_is (suc (suc (suc (suc (suc (suc (suc (suc zero)))))))) few = refl
place_is (suc (suc (suc (suc (suc (suc (suc (suc (suc zero))))))))) few = refl
place_is (suc (suc (suc (suc (suc (suc (suc (suc (suc (suc zero)))))))))) few = refl
place_is (suc (suc (suc (suc (suc (suc (suc (suc (suc (suc (suc zero))))))))))) few = refl
place_is (suc (suc (suc (suc (suc (suc (suc (suc (suc (suc (suc (suc zero)))))))))))) few = refl
place_is (suc (suc (suc (suc (suc (suc (suc (suc (suc (suc (suc (suc (suc zero))))))))))))) few = refl
place_is (suc (suc (suc (suc (suc (suc (suc (suc (suc (suc (suc (suc (suc (suc zero)))))))))))))) few = refl
place_is (suc (suc (suc (suc (suc (suc (suc (suc (suc (suc (suc (suc (suc (suc (suc zero))))))))))))))) few = refl
place_is (suc (suc (suc (suc (suc (suc (suc (suc (suc (suc (suc (suc (suc (suc (suc (suc k)))))))))))))))) few =
    absurd (let no : suc (suc (suc (suc (suc (suc (suc (suc (suc (suc (suc (suc (suc (suc (suc (suc k))))))))))))))) <
    16 = few in omega (arith, no))

-- the next place
pub visited_more : (m : Meaning) (n : Node) (k : ℕ) → k < 16 → visited m n (suc k) ≡ at_place m (visited m n k) k
visited_more m n k few =
    ap (λ (some : List ℕ). fold (at_place m) (record { node = n; sent = [] }) some)
    (one_more places k 0 few ∙ ap (λ (place : ℕ). take k places ++ place ∷ []) (place_is k few))
    ∙ fold-append (at_place m) (record { node = n; sent = [] }) (take k places) (k ∷ [])

pub visited_next : (m : Meaning) (n : Node) (k : ℕ) → k < 16 → visited m n (k + 1) ≡ at_place m (visited m n k) k
visited_next m n k few = ap (visited m n) (let same : k + 1 ≡ suc k = omega arith in same) ∙ visited_more m n k few
