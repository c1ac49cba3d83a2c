-- The locals in scope. Each local of a method has a number of its own, in the order of the text: the receiver's is 0,
-- then come the parameters, and then the locals that the body declares. One whose block has ended keeps its number.
use Rattle.std.specs.Prelude.{ℕ, ◌+◌, Bool, true, false, nat_le, nat_lt, if◌then◌else◌, List, [], ◌∷◌, ◌++◌, find, take}
use Rattle.std.specs.Prelude.{Option, None, option_map}
use Rattle.std.specs.Str.{bytes_eq}
use Rattle.sed_units.specs.Tree.{Tree, Absent, Part}
use Rattle.sed_units.specs.declared.label.Label.TheVariants as label
use Rattle.sed_units.specs.declared.leaves.Param.{Param}
use Rattle.sed_units.specs.declared.leaves.TypeRef.{TypeRef}
use Rattle.sed_names.specs.Names.{Names}
use Rattle.sed_body_rules.specs.declared.local.Entry.{Entry}
use Rattle.sed_body_rules.specs.declared.local.Local.{Local}
use Rattle.sed_body_rules.specs.LocalTypes.{local_kind}

pub record Scope : Type 0 where
  pub entries : List Entry
  -- the number of the next local; it stands still once it is above the limit
  pub next : ℕ
  -- The number that no local has. A method has at most 64, its parameters among them; the receiver is not counted.
  pub limit : ℕ

-- what a name stands for; no two in scope have one name, so the first is the one
abbrev pub local_named : List Entry → List ℕ → Option Local
local_named entries name = option_map (λ e. e.local) (find (λ e. bytes_eq e.name name) entries)

-- ---- numbers

abbrev pub following : ℕ → ℕ → ℕ
following limit next = if nat_le next limit then next + 1 else next

-- the next number behind a statement, a row of statements, or the labels of a `switch`
abbrev pub numbered_past : ℕ → ℕ → Tree → ℕ
numbered_past limit next (Part (label.Local at type name) x y) = following limit next
numbered_past limit next (Part (label.Block at) all y) = numbered_past limit next all
numbered_past limit next (Part label.More t rest) = numbered_past limit (numbered_past limit next t) rest
numbered_past limit next (Part (label.If at) t (Part label.Both x y)) =
    numbered_past limit (numbered_past limit next x) y
numbered_past limit next (Part (label.While at) t x) = numbered_past limit next x
numbered_past limit next (Part (label.Do at) x t) = numbered_past limit next x
numbered_past limit next (Part (label.For at) (Part label.Both first t) (Part label.Both last x)) =
    numbered_past limit (numbered_past limit next first) x
numbered_past limit next (Part (label.Switch at) e cases) = numbered_past limit next cases
numbered_past limit next (Part (label.Case at) e all) = numbered_past limit next all
numbered_past limit next (Part (label.Default at) all y) = numbered_past limit next all
numbered_past limit next t = next

-- ---- what is in scope behind a statement

-- A local from its declaration on. One past the limit has no number, and is unknown.
abbrev pub local_of : Names → ℕ → ℕ → TypeRef → Local
local_of n limit next type =
    if nat_lt next limit then record { number = next; kind = local_kind n type } else record { number = 0; kind = None }

abbrev pub entry_of : Names → ℕ → ℕ → TypeRef → List ℕ → Entry
entry_of n limit next type name = record { name = name; local = local_of n limit next type }

abbrev pub with_local : Names → Scope → TypeRef → List ℕ → Scope
with_local n s type name =
    record {
      entries = s.entries ++ entry_of n s.limit s.next type name ∷ [];
      next = following s.limit s.next;
      limit = s.limit;
    }

-- behind a statement whose locals are out of scope
abbrev pub past : Scope → Tree → Scope
past s t = record { entries = s.entries; next = numbered_past s.limit s.next t; limit = s.limit }

-- behind a statement of a block: what it declares itself is in scope to the block's end
abbrev pub behind : Names → Scope → Tree → Scope
behind n s (Part (label.Local at type name) x y) = with_local n s type name.bytes
behind n s t = past s t

-- behind a row of statements
abbrev pub behind_all : Names → Scope → Tree → Scope
behind_all n s Absent = s
behind_all n s (Part label.More t rest) = behind_all n (behind n s t) rest
behind_all n s t = past s t

-- behind a label of a `switch` and the statements that follow it
abbrev pub behind_case : Names → Scope → Tree → Scope
behind_case n s (Part (label.Case at) e all) = behind_all n s all
behind_case n s (Part (label.Default at) all y) = behind_all n s all
behind_case n s t = past s t

-- behind the labels of a `switch`, whose statements share one scope
abbrev pub behind_cases : Names → Scope → Tree → Scope
behind_cases n s Absent = s
behind_cases n s (Part label.More t rest) = behind_cases n (behind_case n s t) rest
behind_cases n s t = past s t

-- where a block ends, the first locals alone stay in scope
abbrev pub cut : ℕ → Scope → Scope
cut mark s = record { entries = take mark s.entries; next = s.next; limit = s.limit }

-- ---- where a method begins

abbrev pub scope_of : Bool → Scope
scope_of true = record { entries = []; next = 1; limit = 65 }
scope_of false = record { entries = []; next = 0; limit = 64 }

-- behind parameters
abbrev pub behind_params : Names → Scope → List Param → Scope
behind_params n s [] = s
behind_params n s (p ∷ ps) = behind_params n (with_local n s p.kind p.name.bytes) ps
