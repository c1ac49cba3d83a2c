-- The entries of a typed method have a spelling, and are not too many.
use Rattle.std.proofs.Common.{◌≡◌, ℕ, suc, ◌+◌, ◌<◌, ◌≤◌, false, List, [], ◌∷◌, length, map, slice_index, Option, Some, None, refl, subst, arith}
use Rattle.std.specs.Prelude.{All, IfSome}
use Rattle.std.specs.List.Sorted.{IsStrictlyIncreasing}
use Rattle.std.proofs.lemmas.List.{length-map, length-reverse}
use Rattle.sed_typed.specs.declared.kind.Kind.{Kind}
use Rattle.sed_typed.specs.declared.kind.Kind.TheVariants as kind
use Rattle.sed_typed.specs.declared.program.Method.{Method}
use Rattle.sed_typed.specs.declared.program.Program.{Program}
use Rattle.sed_typed.specs.declared.statement.Stmt.{Stmt}
use Rattle.sed_typed.specs.Typed.{IsBody, IsMethod, Typed, locals_of}
use Rattle.sed_typed.specs.TypedExpr.{Context}
use Rattle.scode_image.specs.declared.image.ImageEntry.{ImageEntry}
use Rattle.scode_image.specs.declared.image.ImageKind.{ImageKind}
use Rattle.scode_emit.specs.Site.{Layout, Site}
use Rattle.scode_emit.specs.Sizes.{body_size, end_size, stmt_size}
use Rattle.scode_emit.specs.Method.{site_of}
use Rattle.scode_entries.specs.declared.marks.Mark.{Mark}
use Rattle.scode_entries.specs.Entries.{body_marks, each_once, stmt_marks}
use Rattle.scode_entries.specs.Method.{entry_of}
use Rattle.scode_entries.proofs.Admits.{Each}
use Rattle.scode_entries.proofs.Ascend.{Ascends, stmt_ascends}
use Rattle.scode_entries.proofs.Tall.{body_within, stmt_low}
use Rattle.scode_entries.proofs.Entering.{each_told}
use Rattle.scode_text.proofs.ToldKinds.{IsToldKind, reversed_told, storable_are_kinds}
use Rattle.scode_text.proofs.MarkKinds.{AreTold, stmt_told}
use Rattle.scode_text.proofs.Parts.{AreToldFrom, entry_told}

-- ---- places

-- none of them is behind where they end
ends : (low : ℕ) (ms : List Mark) (high : ℕ) → Ascends low ms high → low ≤ high
ends low [] high h = h
ends low (m ∷ ms) high h = omega (arith, h.0, ends m.place ms high h.1)

within : (low : ℕ) (ms : List Mark) (high : ℕ) → Ascends low ms high → Each (λ (m : Mark). m.place ≤ high) ms
within low [] high h = tt
within low (m ∷ ms) high h = (ends m.place ms high h.1, within m.place ms high h.1)

-- each is behind the one before
abbrev Rises : ℕ → List Mark → Type 0
Rises least [] = Unit {0}
Rises least (m ∷ ms) = (least ≤ m.place) × Rises (m.place + 1) ms

abbrev pub places : List ImageKind → List Mark → List ℕ
places locals ms = map (λ (e : ImageEntry). e.place) (map (entry_of locals) ms)

-- the first is not before a place
abbrev IsFrom : ℕ → List Mark → Type 0
IsFrom least [] = Unit {0}
IsFrom least (m ∷ ms) = least ≤ m.place

from_start : (ms : List Mark) → IsFrom 0 ms
from_start [] = tt
from_start (m ∷ ms) = omega arith

tail_up : (x : ℕ) (xs : List ℕ) → IsStrictlyIncreasing (x ∷ xs) → IsStrictlyIncreasing xs
tail_up x xs up k lt =
    let step : suc k + 1 ≡ suc (k + 1) = omega arith in
    let here : slice_index xs k < slice_index (x ∷ xs) (suc k + 1) = up (suc k) (omega (arith, lt)) in
    subst (λ (i : ℕ). slice_index xs k < slice_index (x ∷ xs) i) step here

rises : (locals : List ImageKind) (least : ℕ) (ms : List Mark) → IsStrictlyIncreasing (places locals ms) → IsFrom least ms → Rises least ms
rises locals least [] up first = tt
rises locals least (m ∷ []) up first = (first, tt)
rises locals least (m ∷ n ∷ ms) up first =
    let next : m.place < n.place = up 0 (omega arith) in
    (first, rises locals (m.place + 1) (n ∷ ms) (tail_up m.place (places locals (n ∷ ms)) up) (omega (arith, next)))

-- there are no more than places
many : (least high : ℕ) (ms : List Mark) → Rises least ms → Each (λ (m : Mark). m.place ≤ high) ms → least ≤ high + 1 → least + length ms ≤ high + 1
many least high [] up h le = omega (arith, le)
many least high (m ∷ ms) up h le =
    let low : least ≤ m.place = up.0 in
    let top : m.place ≤ high = h.0 in
    let rest : (m.place + 1) + length ms ≤ high + 1 = many (m.place + 1) high ms up.1 h.1 (omega (arith, top)) in
    omega (arith, low, rest)

-- ---- entries

-- what is said of each mark
record IsFine (high : ℕ) (m : Mark) : Type 0 where
  place : m.place ≤ high
  low : length m.stack ≤ 65535
  stack : AreTold m.stack

each_fine : (high : ℕ) (ms : List Mark) → Each (λ (m : Mark). m.place ≤ high) ms → Each (λ (m : Mark). length m.stack ≤ 65535) ms → Each (λ (m : Mark). AreTold m.stack) ms → Each (IsFine high) ms
each_fine high [] p l t = tt
each_fine high (m ∷ ms) p l t = (record { place = p.0; low = l.0; stack = t.0 }, each_fine high ms p.1 l.1 t.1)

each_place : (high : ℕ) (ms : List Mark) → Each (IsFine high) ms → Each (λ (m : Mark). m.place ≤ high) ms
each_place high [] h = tt
each_place high (m ∷ ms) h = (h.0.place, each_place high ms h.1)

entries_from : (locals : List ImageKind) (high least : ℕ) (ms : List Mark) → All IsToldKind locals → high ≤ 65535 → Rises least ms → Each (IsFine high) ms →
    AreToldFrom (length locals) least (map (entry_of locals) ms)
entries_from locals high least [] known le up h = tt
entries_from locals high least (m ∷ ms) known le up h =
    let top : m.place ≤ high = h.0.place in (
      entry_told (length locals) least (entry_of locals m) up.0 (omega (arith, top, le)) refl known (omega (arith, h.0.low, length-reverse m.stack)) (reversed_told m.stack h.0.stack),
      entries_from locals high (m.place + 1) ms known le up.1 h.1,
    )

-- the entries of a method
pub record AreToldEntries (locals : List ImageKind) (es : List ImageEntry) : Type 0 where
  pub few : length es ≤ 65535
  pub told : AreToldFrom (length locals) 0 es

end_some : (k : Kind) → 1 ≤ end_size k
end_some kind.Void = omega arith
end_some kind.Bool = omega arith
end_some kind.Int = omega arith
end_some kind.Long = omega arith
end_some kind.Text = omega arith
end_some (kind.Object class) = omega arith

module _ (program : Program) (layout : Layout) (m : Method) (typed : Typed program) (is : IsMethod program m) (few : length program.schema.classes ≤ 1024) (locals : List ImageKind) (known : All IsToldKind locals) where
  abbrev site : Site
  site = site_of program layout m

  pub by_body : (o : Option Stmt) → IfSome o (IsBody program m) → body_size site m.result o ≤ 65535 → IsStrictlyIncreasing (places locals (each_once (body_marks site o))) →
      AreToldEntries locals (map (entry_of locals) (each_once (body_marks site o)))
  by_body None h short up = record { few = omega arith; told = tt }
  by_body (Some body) h short up =
      let high : ℕ = 0 + stmt_size site body in
      let marks : List Mark = stmt_marks site 0 body in
      let once : List Mark = each_once marks in
      let c : Context = record { program = program; class = m.class.0; is_static = m.is_static; locals = locals_of m; result = m.result } in
      let end : 1 ≤ end_size m.result = end_some m.result in
      let less : high + 1 ≤ 65535 = omega (arith, short, end) in
      let low : Each (λ (x : Mark). length x.stack ≤ 65535) marks = stmt_low site 0 65535 body (omega (arith, body_within site m.result (Some body), short)) in
      let told : Each (λ (x : Mark). AreTold x.stack) marks =
      stmt_told c site typed is.class (storable_are_kinds program (locals_of m) h.storable) few refl (record { breaks = false; continues = false }) 0 body h.typed in
      let fine : Each (IsFine high) once = each_told (IsFine high) [] marks tt (each_fine high marks (within 0 marks high (stmt_ascends site 0 body)) low told) in
      let rising : Rises 0 once = rises locals 0 once up (from_start once) in
      let count : 0 + length once ≤ high + 1 = many 0 high once rising (each_place high once fine) (omega arith) in
      let as_many : length (map (entry_of locals) once) ≡ length once = length-map once (entry_of locals) in
      let few_entries : length (map (entry_of locals) once) ≤ 65535 = omega (arith, count, less, as_many) in
      record { few = few_entries; told = entries_from locals high 0 once known (omega (arith, less)) rising fine }
