-- What stays in scope where a block ends.
use Rattle.std.proofs.Common.{◌≡◌, ◌≤◌, ℕ, List, [], ◌∷◌, length, take, refl, ap, ◌∙◌, arith, length-append}
use Rattle.std.proofs.lemmas.List.{take-append-le}
use Rattle.sed_units.specs.Tree.{Tree, Absent, Part}
use Rattle.sed_units.specs.declared.label.Label.TheVariants as label
use Rattle.sed_units.specs.declared.leaves.TypeRef.{TypeRef}
use Rattle.sed_names.specs.Names.{Names}
use Rattle.sed_body_rules.specs.declared.local.Entry.{Entry}
use Rattle.sed_body_rules.specs.Scope.{Scope, following, numbered_past, entry_of, with_local, past, behind, behind_all, behind_case, behind_cases, cut}

-- this scope begins with the entries of that one, and its next number is this one
pub record Keeps (s z : Scope) (number : ℕ) : Type 0 where
  pub entries : (mark : ℕ) → mark ≤ length s.entries → take mark z.entries ≡ take mark s.entries
  pub more : length s.entries ≤ length z.entries
  pub next : z.next ≡ number
  pub limit : z.limit ≡ s.limit

unchanged : (s : Scope) → Keeps s s s.next
unchanged s = record { entries = λ mark h. refl; more = omega arith; next = refl; limit = refl }

gone_by : (s : Scope) (t : Tree) → Keeps s (past s t) (numbered_past s.limit s.next t)
gone_by s t = record { entries = λ mark h. refl; more = omega arith; next = refl; limit = refl }

one_more : (n : Names) (s : Scope) (type : TypeRef) (name : List ℕ) → Keeps s (with_local n s type name) (following s.limit s.next)
one_more n s type name = record {
  entries = λ mark h. take-append-le mark s.entries (entry_of n s.limit s.next type name ∷ []) h;
  more = omega (arith, length-append s.entries (entry_of n s.limit s.next type name ∷ []));
  next = refl;
  limit = refl;
}

then_keeps : (s z w : Scope) (next : ℕ) (t : Tree) → Keeps s z next → Keeps z w (numbered_past z.limit z.next t) → Keeps s w (numbered_past s.limit next t)
then_keeps s z w next t k l = record {
  entries = λ mark h. l.entries mark (omega (arith, h, k.more)) ∙ k.entries mark h;
  more = omega (arith, k.more, l.more);
  next = l.next ∙ ap (λ m. numbered_past m z.next t) k.limit ∙ ap (λ i. numbered_past s.limit i t) k.next;
  limit = l.limit ∙ k.limit;
}

keeps : (n : Names) (s : Scope) (t : Tree) → Keeps s (behind n s t) (numbered_past s.limit s.next t)
keeps n s (Part (label.Local at type name) x y) = one_more n s type name.bytes
keeps n s t = gone_by s t

keeps_all : (n : Names) (s : Scope) (t : Tree) → Keeps s (behind_all n s t) (numbered_past s.limit s.next t)
keeps_all n s Absent = unchanged s
keeps_all n s (Part label.More t rest) =
    then_keeps s (behind n s t) (behind_all n (behind n s t) rest) (numbered_past s.limit s.next t) rest (keeps n s t) (keeps_all n (behind n s t) rest)
keeps_all n s t = gone_by s t

keeps_case : (n : Names) (s : Scope) (t : Tree) → Keeps s (behind_case n s t) (numbered_past s.limit s.next t)
keeps_case n s (Part (label.Case at) e all) = keeps_all n s all
keeps_case n s (Part (label.Default at) all y) = keeps_all n s all
keeps_case n s t = gone_by s t

keeps_cases : (n : Names) (s : Scope) (t : Tree) → Keeps s (behind_cases n s t) (numbered_past s.limit s.next t)
keeps_cases n s Absent = unchanged s
keeps_cases n s (Part label.More t rest) =
    then_keeps s (behind_case n s t) (behind_cases n (behind_case n s t) rest) (numbered_past s.limit s.next t) rest (keeps_case n s t)
    (keeps_cases n (behind_case n s t) rest)
keeps_cases n s t = gone_by s t

take_all : (xs : List Entry) → take (length xs) xs ≡ xs
take_all [] = refl
take_all (x ∷ xs) = ap (λ ys. x ∷ ys) (take_all xs)

abbrev made : List Entry → ℕ → ℕ → Scope
made entries next limit = record { entries = entries; next = next; limit = limit }

left : (s z : Scope) (t : Tree) → Keeps s z (numbered_past s.limit s.next t) → cut (length s.entries) z ≡ past s t
left s z t k =
    ap (λ es. made es z.next z.limit) (k.entries (length s.entries) (omega arith) ∙ take_all s.entries)
    ∙ ap (λ i. made s.entries i z.limit) k.next ∙ ap (λ l. made s.entries (numbered_past s.limit s.next t) l) k.limit

at_end : (s z end : Scope) (mark : ℕ) (t : Tree) → end ≡ cut mark z → mark ≡ length s.entries → Keeps s z (numbered_past s.limit s.next t) → end ≡ past s t
at_end s z end mark t e h k = e ∙ ap (λ m. cut m z) h ∙ left s z t k

pub left_statement : (n : Names) (s z end : Scope) (mark : ℕ) (t : Tree) → end ≡ cut mark z → mark ≡ length s.entries → z ≡ behind n s t → end ≡ past s t
left_statement n s z end mark t e h at = at_end s (behind n s t) end mark t (e ∙ ap (cut mark) at) h (keeps n s t)

pub left_row : (n : Names) (s z end : Scope) (mark : ℕ) (t : Tree) → end ≡ cut mark z → mark ≡ length s.entries → z ≡ behind_all n s t → end ≡ past s t
left_row n s z end mark t e h at = at_end s (behind_all n s t) end mark t (e ∙ ap (cut mark) at) h (keeps_all n s t)

pub left_cases : (n : Names) (s z end : Scope) (mark : ℕ) (t : Tree) → end ≡ cut mark z → mark ≡ length s.entries → z ≡ behind_cases n s t → end ≡ past s t
left_cases n s z end mark t e h at = at_end s (behind_cases n s t) end mark t (e ∙ ap (cut mark) at) h (keeps_cases n s t)
