use Rattle.std.proofs.Common.{◌≡◌, ◌∙◌, ℕ, List, [], ◌++◌, map, ap, sym}
use Rattle.std.specs.Prelude.{filter}
use Rattle.sed_typed.specs.declared.program.Method.{Method}
use Rattle.sed_typed.specs.declared.program.Program.{Program}
use Rattle.sed_typed.specs.Classes.{base_of}
use Rattle.sed_layout.specs.TableSteps.{in_place_of, is_new, own_methods}
use Rattle.sed_layout.proofs.TableLists.{inherited, table_made}
use Rattle.sed_layout.proofs.tables.table_of_class.Goals as goal

-- what is added to an empty table, by what it is made of
added : (program : Program) (start first mine other own inh above : List ℕ) → start ≡ [] → first ≡ start ++ map (in_place_of program mine) inh →
    mine ≡ own → other ≡ own → inh ≡ above →
    first ++ filter (is_new program inh) other ≡ map (in_place_of program own) above ++ filter (is_new program above) own
added program start first mine other own inh above empty is same same_other same_inh =
    ap (λ (xs : List ℕ). xs ++ filter (is_new program inh) other) is
    ∙ ap (λ (xs : List ℕ). (xs ++ map (in_place_of program mine) inh) ++ filter (is_new program inh) other) empty
    ∙ ap (λ (xs : List ℕ). map (in_place_of program xs) inh ++ filter (is_new program inh) other) same
    ∙ ap (λ (xs : List ℕ). map (in_place_of program own) inh ++ filter (is_new program inh) xs) same_other
    ∙ ap (λ (xs : List ℕ). map (in_place_of program own) xs ++ filter (is_new program xs) own) same_inh

pub returns : goal.returns
returns c =
    let program = c.args.program.now in
    let class = c.args.class in
    let own : List ℕ = own_methods program.methods class in
    let above : List ℕ = inherited program c.requires.typed class c.requires.class (base_of program.schema.classes class) in
    let own_is : c.in_ok-own.own.items ≡ own = c.in_ok-own.ensures ∙ ap (λ (ms : List Method). own_methods ms class) c.as_slice.ensures in
    c.new.ensures
    ∙ c.in_ok-push_new.ensures
    ∙ added program c.new-table.result.items c.push_inherited.new.table.items c.deref.result.now c.deref-2.result.now own c.inherited_table-inherited.result.now above
    c.new-table.ensures.items c.in_ok-push_inherited.ensures (c.deref.ensures.value ∙ own_is) (c.deref-2.ensures.value ∙ own_is) c.inherited_table-inherited.ensures
    ∙ sym (table_made program c.requires.typed class c.requires.class)
