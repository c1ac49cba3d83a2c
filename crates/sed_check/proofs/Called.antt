-- What a call knows of a method is what the program has.
use Rattle.std.proofs.Common.{◌≡◌, ℕ, Bool, true, false, not, if◌then◌else◌, List, [], map, slice_get, Option, Some, None, IfSome, IsSomeAnd, refl, sym, ap, ◌∙◌}
use Rattle.std.specs.List.{find}
use Rattle.std.specs.Option.{option_and_then, option_map_or}
use Rattle.sed_typed.specs.declared.program.Method.{Method}
use Rattle.sed_typed.specs.Classes as typed
use Rattle.sed_typed.specs.TypedExpr.{Context}
use Rattle.sed_names.specs.declared.signature.Signature.{Signature}
use Rattle.sed_bodies.specs.Inside.{IsMethod}
use Rattle.sed_classes.specs.declared.kit_units.KitUnits.{KitUnits}
use Rattle.sed_classes.specs.Bases.{lineage}
use Rattle.sed_classes.specs.Members.{Owned, form_body, form_params, has_name, is_method, kit_of, members_of, nearest, owned}
use Rattle.sed_program.specs.Methods.{MethodAt, method_number, signature, signature_of}
use Rattle.sed_program.specs.Outlined.{IsHead, IsOutlined, is_there}
use Rattle.sed_program.specs.Types.{place_of, result_kind, used_param, used_result}
use Rattle.sed_program.specs.Ordered.{IsOrdered, number}
use Rattle.sed_member_laws.specs.Faultless.{AreFree}
use Rattle.sed_member_laws.proofs.Fit.{storable_kind}
use Rattle.sed_member_laws.proofs.Flat.{found_in}
use Rattle.sed_member_laws.proofs.Nearest.{nearest_found, owned_kit}
use Rattle.sed_member_laws.proofs.Own.{same_name}
use Rattle.sed_member_laws.proofs.Declaring.{body_there, declared_at, no_body, number_there, params_there, some_and}
use Rattle.sed_member_laws.proofs.Found.{find_is}
use Rattle.sed_member_laws.specs.Found.{method_no}
use Rattle.sed_check.proofs.Used.{used_is, used_params_are}

-- ---- a method that a name stands for

pub method_means : (units : List KitUnits) (c : Context) → AreFree units → IsOrdered units c.program →
    IsOutlined units c.program → (k place : ℕ) (name : List ℕ) (w : Owned) →
    place_of units k ≡ Some place → nearest units place name ≡ Some w → is_method w.member ≡ true →
    IsSomeAnd (slice_get c.program.methods (signature units w).number) (IsMethod c k (signature units w))
method_means units c f o p k place name w at near is =
    let stands = nearest_found units name (lineage units place) w near in
    let inside = found_in (has_name name) (members_of units w.class) w.member stands.3 in
    let named : w.member.name.bytes ≡ name = same_name w.member.name.bytes name inside.2 in
    let kit : w.kit ≡ kit_of units w.class = owned_kit units name (lineage units place) w stands in
    let first : find (has_name w.member.name.bytes) (members_of units w.class) ≡ Some w.member =
    ap (λ x. find (has_name x) (members_of units w.class)) named ∙ stands.3 in
    let head = declared_at units c.program f o p w.class inside.0 w.member inside.1 is first in
    let is_head : IsHead units (record {
      class = number units w.class;
      owned = owned w.class
          (kit_of units w.class) w.member;
    }) head.0 = head.2 in
    some_and
    (IsMethod c k (signature units w))
    (slice_get c.program.methods (signature units w).number)
    head.0
    head.1
    (record {
      static = is_head.static;
      result =
          ap (λ x. used_result units x w.member) kit
          ∙ used_is units f w.class inside.0 w.member inside.1 (result_kind units (kit_of units w.class) w.member)
          ∙ sym is_head.result;
      params =
          ap (λ x. map (used_param units x w.member) (form_params w.member.form)) kit
          ∙ used_params_are units f w.class inside.0 w.member inside.1 (form_params w.member.form)
          ∙ sym is_head.params;
      there = λ i x e.
          storable_kind
          c.program
          x
          (params_there
          units
          c.program
          f
          o
          w.class
          inside.0
          w.member
          inside.1
          head.0.params
          is_head.params
          i
          x
          e);
      nearest =
          ap (typed.find c.program k) (ap (λ (r : Option Method). option_map_or (λ (x : Method). x.name) r []) head.1
          ∙ is_head.name ∙ named)
          ∙ sym (ap (λ n. typed.find c.program n name) (number_there units c.program o k place at))
          ∙ find_is units c.program f o p name place (o.place_in k place at).1
          ∙ ap (option_and_then (method_no units)) near
          ∙ ap (λ b. if b then Some (method_number units w.class w.member.name.bytes) else None) is;
      body = λ bare none.
          no_body
          (form_body w.member.form)
          (body_there units c.program f w.class inside.0 w.member inside.1 is ∙ ap not bare)
          (no_form is_head none);
    })
  where
    there_none : {X Y : Type 0} (u : Option X) (v : Option Y) → is_there u ≡ is_there v → u ≡ None → v ≡ None
    there_none u None e n = refl
    there_none None (Some y) e n = cc
    there_none (Some x) (Some y) e n = cc

    no_form : {e : MethodAt} {x : Method} → IsHead units e x → x.body ≡ None → form_body e.owned.member.form ≡ None
    no_form {e} {x} h n = there_none x.body (form_body e.owned.member.form) h.bodied n

pub methods_mean : (units : List KitUnits) (c : Context) → AreFree units → IsOrdered units c.program →
    IsOutlined units c.program → (k : ℕ) (name : List ℕ) →
    IfSome
    (option_and_then (λ p. option_and_then (signature_of units) (nearest units p name)) (place_of units k))
    (λ (s : Signature). IsSomeAnd (slice_get c.program.methods s.number) (IsMethod c k s))
methods_mean units c f o p k name = by_place (place_of units k) refl
  where
    by_kind : (place : ℕ) (w : Owned) → place_of units k ≡ Some place → nearest units place name ≡ Some w →
        (b : Bool) → is_method w.member ≡ b →
        IfSome (if b then Some (signature units w) else None) (λ (s : Signature). IsSomeAnd
        (slice_get c.program.methods s.number) (IsMethod c k s))
    by_kind place w at near false is = tt
    by_kind place w at near true is = method_means units c f o p k place name w at near is

    by_near : (place : ℕ) → place_of units k ≡ Some place → (w : Option Owned) → nearest units place name ≡ w →
        IfSome (option_and_then (signature_of units) w) (λ (s : Signature). IsSomeAnd
        (slice_get c.program.methods s.number) (IsMethod c k s))
    by_near place at None near = tt
    by_near place at (Some w) near = by_kind place w at near (is_method w.member) refl

    by_place : (q : Option ℕ) → place_of units k ≡ q →
        IfSome
        (option_and_then (λ p. option_and_then (signature_of units) (nearest units p name)) q)
        (λ (s : Signature). IsSomeAnd (slice_get c.program.methods s.number) (IsMethod c k s))
    by_place None at = tt
    by_place (Some place) at = by_near place at (nearest units place name) refl
