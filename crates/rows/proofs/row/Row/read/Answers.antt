use Rattle.std.proofs.Common.{rules, ◌≡◌, ap, sym, ◌∙◌, [], ◌∷◌, ◌++◌, map, Some, None}
use Rattle.std.proofs.lemmas.List.{map-append}
use Rattle.rows.specs.Fields.{behind_bar}
use Rattle.rows.proofs.Joining.{bar_so_far, bar_only, byte_so_far, byte_only, all_read, only_these}
use Rattle.rows.proofs.row.Row.read.Goals as goal

pub loop-rest-preserved-in-Some : goal.loop-rest-preserved-in-Some
loop-rest-preserved-in-Some c =
    let line = c.args.line.now in
    let rest = c.loop-rest.rest.now in
    let left = c.in-Some.others.now in
    let before = map (λ v. v.items) c.loop-rest.inputs.items in
    let front = c.loop-rest.field.items in
    let bar : behind_bar rest ≡ Some left = sym c.in-Some.ensures.found in
    let pushed : c.push.new.self.items ≡ c.loop-rest.inputs.items ++ c.loop-rest.field ∷ [] = search rules in
    let fields : map (λ v. v.items) c.push.new.self.items ≡ before ++ front ∷ [] =
    ap (map (λ v. v.items)) pushed ∙ map-append (λ v. v.items) c.loop-rest.inputs.items (c.loop-rest.field ∷ []) in
    rw (fields, c.new-field-in-Some.ensures.items) record {
      so_far = bar_so_far line rest left before front bar c.loop-rest.invariant.so_far;
      only = bar_only line rest left before front bar c.loop-rest.invariant.only;
    }

pub loop-rest-preserved : goal.loop-rest-preserved
loop-rest-preserved c =
    let line = c.args.line.now in
    let rest = c.loop-rest.rest.now in
    let left = c.in-Some-spelled.others.now in
    let before = map (λ v. v.items) c.loop-rest.inputs.items in
    let front = c.loop-rest.field.items in
    let b = c.in-Some-spelled.byte in
    let bar : behind_bar rest ≡ None = sym c.in_default.ensures.found in
    let pushed : c.push-in-loop-rest.new.self.items ≡ front ++ b ∷ [] = search rules in
    rw pushed record {
      so_far = byte_so_far line rest left before front b bar c.in-Some-spelled.ensures.found c.loop-rest.invariant.so_far;
      only = byte_only line rest left before front b bar c.in-Some-spelled.ensures.found c.loop-rest.invariant.only;
    }

pub returns-clause-written : goal.returns-clause-written
returns-clause-written c =
    all_read c.args.line.now c.loop-rest.rest.now (map (λ v. v.items) c.loop-rest.inputs.items) c.loop-rest.field.items
    (search rules) c.loop-rest.invariant.so_far

pub returns-clause-only : goal.returns-clause-only
returns-clause-only c =
    only_these c.args.line.now c.loop-rest.rest.now (map (λ v. v.items) c.loop-rest.inputs.items) c.loop-rest.field.items
    (search rules) c.loop-rest.invariant.only
