-- Room for an event stays, where the schema does and the widths do.
use Rattle.std.proofs.Common.{◌≡◌, ◌≤◌, ℕ, Bool, true, false, refl, arith, ap}
use Rattle.std.specs.Prelude.{◌&&◌, ◌↔◌, nat_le}
use Rattle.std.proofs.lemmas.Bool.Decides.{nat_tests}
use Rattle.sed_typed.specs.declared.schema.Schema.{Schema}
use Rattle.sed_engine.specs.declared.engine.Engine.{Ghosts}
use Rattle.sed_engine.specs.Code.{Meaning}
use Rattle.link_prop.specs.Linked.{Linked}
use Rattle.sub_table.specs.declared.part.Part.{Part}
use Rattle.sub_table.specs.declared.part.Part.TheVariants.{Tree, Config, Runtime, Links}
use Rattle.sub_table.specs.declared.table.SubTable.{SubTable}
use Rattle.sub_table.specs.Table.{most_bytes}
use Rattle.sox_events.specs.Due.{longest}

pub room_kept : {E : Type 0} (g : Ghosts E) (a b : Linked E) (t u : SubTable) (part : Part) → g.meaning b.tree.engine ≡ g.meaning a.tree.engine
    → most_bytes u part ≡ most_bytes t part → longest (g.meaning a.tree.engine).schema part ≤ most_bytes t part
    → longest (g.meaning b.tree.engine).schema part ≤ most_bytes u part
room_kept g a b t u part meaning width fits =
    let same = ap (λ (m : Meaning). longest m.schema part) meaning in
    omega (arith, same, width, fits)

-- ---- the test of the four parts

four : (t c r l : Bool) → (((t && c) && r) && l) ≡ true → (t ≡ true) × (c ≡ true) × (r ≡ true) × (l ≡ true)
four true true true true e = (refl, refl, refl, refl)
four true true true false e = absurd (let wrong : false ≡ true = e in cc)
four true true false l e = absurd (let wrong : false ≡ true = e in cc)
four true false r l e = absurd (let wrong : false ≡ true = e in cc)
four false c r l e = absurd (let wrong : false ≡ true = e in cc)

four_true : (t c r l : Bool) → t ≡ true → c ≡ true → r ≡ true → l ≡ true → (((t && c) && r) && l) ≡ true
four_true t c r l is_t is_c is_r is_l = rw is_t (rw is_c (rw is_r is_l))

is_less : (a b : ℕ) (x : Bool) → x ≡ nat_le a b → x ≡ true → a ≤ b
is_less a b x is e = grind (arith, nat_tests)

less_is : (a b : ℕ) (x : Bool) → x ≡ nat_le a b → a ≤ b → x ≡ true
less_is a b x is le = grind (arith, nat_tests)

pub all_fit : (schema : Schema) (table : SubTable) (t c r l : Bool)
    → t ≡ nat_le (longest schema Tree) (most_bytes table Tree) → c ≡ nat_le (longest schema Config) (most_bytes table Config)
    → r ≡ nat_le (longest schema Runtime) (most_bytes table Runtime) → l ≡ nat_le (longest schema Links) (most_bytes table Links)
    → ((((t && c) && r) && l) ≡ true) ↔ ((part : Part) → longest schema part ≤ most_bytes table part)
all_fit schema table t c r l is_t is_c is_r is_l = (forth, back)
  where
    forth : (((t && c) && r) && l) ≡ true → (part : Part) → longest schema part ≤ most_bytes table part
    forth e Tree = is_less (longest schema Tree) (most_bytes table Tree) t is_t (four t c r l e).0
    forth e Config = is_less (longest schema Config) (most_bytes table Config) c is_c (four t c r l e).1
    forth e Runtime = is_less (longest schema Runtime) (most_bytes table Runtime) r is_r (four t c r l e).2
    forth e Links = is_less (longest schema Links) (most_bytes table Links) l is_l (four t c r l e).3

    back : ((part : Part) → longest schema part ≤ most_bytes table part) → (((t && c) && r) && l) ≡ true
    back room =
        four_true t c r l (less_is (longest schema Tree) (most_bytes table Tree) t is_t (room Tree))
        (less_is (longest schema Config) (most_bytes table Config) c is_c (room Config))
        (less_is (longest schema Runtime) (most_bytes table Runtime) r is_r (room Runtime))
        (less_is (longest schema Links) (most_bytes table Links) l is_l (room Links))
