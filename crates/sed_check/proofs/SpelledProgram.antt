-- Units without a fault in their bodies spell a program.
use Rattle.std.proofs.Common.{◌≡◌, ℕ, List, [], map, slice_get, Some, All, refl}
use Rattle.sed_typed.specs.declared.program.Method.{Method}
use Rattle.sed_typed.specs.declared.program.Program.{Program}
use Rattle.sed_body_laws.specs.Bodies.{Means}
use Rattle.sed_classes.specs.declared.kit_units.KitUnits.{KitUnits}
use Rattle.sed_classes.specs.Schema.{schema_of}
use Rattle.sed_outline.proofs.Infos.{all_at}
use Rattle.sed_program.specs.Fields.{fields_of}
use Rattle.sed_program.specs.Meaning.{names_of}
use Rattle.sed_program.specs.Methods.{MethodAt, methods_of}
use Rattle.sed_program.specs.Ordered.{IsOrdered}
use Rattle.sed_program.specs.Outlined.{IsOutlined}
use Rattle.sed_member_laws.specs.Faultless.{AreFree}
use Rattle.sed_member_laws.specs.TypedHeads.{IsTypedHead}
use Rattle.sed_member_laws.proofs.Empty.{none_listed}
use Rattle.sed_member_laws.proofs.Heads.{head_at}
use Rattle.sed_check.specs.Bodies.{IsBodyOf, body_faults, method_faults}
use Rattle.sed_check.specs.Checked.{IsSpelled}
use Rattle.sed_check.specs.Short.{AreShort}
use Rattle.sed_check.proofs.BodyTrees.{HaveTrees, body_made, dummy_made}
use Rattle.sed_check.proofs.Bodying.{head_of}
use Rattle.sed_check.proofs.Outlines.{HasKinds, Heads, bodies_are, has_kinds, heads_of, is_outlined, outline}
use Rattle.sed_check.proofs.Standing.{IsMemberAt, member_at}

-- what is said elsewhere of programs that units outline

abbrev pub AreInOrder : List KitUnits → Type 0
AreInOrder units = (program : Program) → program.schema ≡ schema_of units → program.fields ≡ fields_of units →
    IsOrdered units program

abbrev pub HaveTypedHeads : List KitUnits → Type 0
HaveTypedHeads units = (program : Program) → IsOrdered units program → IsOutlined units program →
    All (IsTypedHead program) program.methods

abbrev pub AreMeant : List KitUnits → Type 0
AreMeant units = (program : Program) → IsOrdered units program → IsOutlined units program → (kit : ℕ) →
    Means program (names_of units kit)

-- The kinds of methods are those that a program without methods would give them. With them the program is looked at
-- with empty bodies first: what stands in a body asks of a program only what is declared.
pub spelled_program : (units : List KitUnits) → AreInOrder units → AreFree units → HaveTypedHeads units →
    AreMeant units → ((program : Program) → HaveTrees program) → AreShort units →
    body_faults units ≡ [] → (program : Program) × IsSpelled units program
spelled_program units order free typed meant trees short none =
    let bare : Program = outline units [] in
    let kinds : (i : ℕ) (e : MethodAt) → slice_get (methods_of units) i ≡ Some e → HasKinds units e =
    λ i e h. has_kinds units bare free (order bare refl refl) e (member_at units i e h) in
    let heads : Heads units (λ e b. Unit {0}) (methods_of units) =
    heads_of units (λ e b. Unit {0}) (methods_of units) kinds (λ i e h. dummy_made e) in
    let first : Program = outline units heads.0 in
    let o : IsOrdered units first = order first refl refl in
    let p : IsOutlined units first = is_outlined units heads.0 heads.1 in
    let all : All (IsTypedHead first) heads.0 = typed first o p in
    let bodies : Heads units (IsBodyOf units) (methods_of units) =
    heads_of units (IsBodyOf units) (methods_of units) kinds (λ i e h.
    let m = head_at units (methods_of units) heads.0 heads.1 i e h in
    let own : IsMemberAt units e = member_at units i e h in
    body_made units first (trees first) short e m.0 own (meant first o p e.owned.kit)
    (head_of units first free e m.0 own m.2 (all_at (IsTypedHead first) heads.0 i m.0 m.1 all))
    (none_listed (method_faults units) (methods_of units) i e none h)) in (
      outline units bodies.0,
      record {
        outlined = is_outlined units bodies.0 bodies.1;
        bodies = bodies_are units (methods_of units) (map (λ (m : Method). m.body) bodies.0) bodies.2;
      },
    )
