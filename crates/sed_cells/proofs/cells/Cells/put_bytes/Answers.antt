use Rattle.std.proofs.Common.{◌≡◌, ◌<◌, ◌∙◌, ap, sym, arith, List, map, length, get_or, cond, Bool, true, false, Option, refl}
use Rattle.std.specs.Prelude.{slice_get}
use Rattle.std.specs.Option.{option_map_or}
use Rattle.std.proofs.Math.ListN.{set}
use Rattle.std.proofs.lemmas.List.{map-set, set-get_or, get_or-map, length-map}
use Rattle.sed_value.specs.declared.value.Value.{Value}
use Rattle.sed_value.specs.declared.value.Value.TheVariants as kept
use Rattle.sed_cells.specs.Cells.{cell_value, are_bytes}
use Rattle.sed_cells.proofs.ClassesThere.{slice-some}
use Rattle.sed_cells.proofs.cells.Cells.put_bytes.Goals as goal

pub returns-then-number-len-clause-answer : goal.returns-then-number-len-clause-answer
returns-then-number-len-clause-answer c =
    let xs = c.self.inside.all.items in
    let x = c.index_mut.result.now in
    let inside : c.args.number < length (map cell_value xs) = omega (arith, length-map xs cell_value, c.self.inside.all.ok.0, c.len.ensures) in
    let few : c.args.number < length xs = omega (arith, c.self.inside.all.ok.0, c.len.ensures) in
    c.put_in.ensures.answer
    ∙ ap (λ (v : Value). are_bytes v) (ap cell_value c.index_mut.ensures.value ∙ sym (get_or-map cell_value xs c.args.number x (cell_value x) few))
    ∙ ap (λ (r : Option Value). option_map_or are_bytes r false) (sym (slice-some (map cell_value xs) c.args.number (cell_value x) inside))
    ∙ ap (λ (vs : List Value). option_map_or are_bytes (slice_get vs c.args.number) false) c.self.view_is

pub returns-then-number-len-clause-put : goal.returns-then-number-len-clause-put
returns-then-number-len-clause-put c =
    let xs = c.self.inside.all.items in
    let x = c.index_mut.result.now in
    let n = c.args.number in
    let few : n < length xs = omega (arith, c.self.inside.all.ok.0, c.len.ensures) in
    let new : Value = kept.Buf c.args.bytes in
    map-set cell_value xs n c.put_in.new.cell
    ∙ ap (λ (v : Value). set (map cell_value xs) n v) c.put_in.ensures.put
    ∙ go (map cell_value xs) n new (cell_value x) (ap cell_value c.index_mut.ensures.value ∙ sym (get_or-map cell_value xs n x (cell_value x) few)) c.put_in.result
    ∙ ap (λ (vs : List Value). cond c.put_in.result (set vs n new) vs) c.self.view_is
  where
    go : (vs : List Value) (n : _) (new old : Value) → old ≡ get_or vs n old → (b : Bool) → set vs n (cond b new old) ≡ cond b (set vs n new) vs
    go vs n new old e true = refl
    go vs n new old e false = ap (λ (v : Value). set vs n v) e ∙ set-get_or vs n old
