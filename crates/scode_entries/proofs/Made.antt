-- A method is made of its parts.
use Rattle.std.proofs.Common.{◌≡◌, ℕ, List, map, ap, ◌∙◌}
use Rattle.sed_typed.specs.declared.program.Method.{Method}
use Rattle.scode_image.specs.declared.image.ImageEntry.{ImageEntry}
use Rattle.scode_image.specs.declared.image.ImageKind.{ImageKind}
use Rattle.scode_image.specs.declared.image.ImageMethod.{ImageMethod}
use Rattle.scode_emit.specs.Code.{body_code, bytes_of}
use Rattle.scode_entries.specs.Entries.{cell_of, body_marks, each_once}
use Rattle.scode_entries.specs.Method.{entry_of, flags_of, local_kinds, method_at}
use Rattle.scode_emit.specs.Site.{Site}
use Rattle.scode_entries.specs.Stack.{body_stack}

abbrev of_parts : ℕ → ℕ → List ImageKind → ImageKind → List ImageKind → ℕ → List ℕ → List ImageEntry → ImageMethod
of_parts class flags params result locals stack code entries = record {
  class = class;
  flags = flags;
  params = params;
  result = result;
  locals = locals;
  stack = stack;
  code = code;
  entries = entries;
}

pub method_is : (w : Site) (m : Method) (flags : ℕ) (params : List ImageKind) (result : ImageKind) (locals : List ImageKind) (stack : ℕ) (code : List ℕ) (entries : List ImageEntry) →
    flags ≡ flags_of m → params ≡ map cell_of m.params → result ≡ cell_of m.result → locals ≡ local_kinds m → stack ≡ body_stack m.body →
    code ≡ bytes_of (body_code w m.result m.body) → entries ≡ map (entry_of (local_kinds m)) (each_once (body_marks w m.body)) →
    ◌≡◌ {A = ImageMethod} (of_parts m.class.0 flags params result locals stack code entries) (method_at w m)
method_is w m flags params result locals stack code entries a b c d e f g =
    let class = m.class.0 in
    let ps = map cell_of m.params in
    let ls = local_kinds m in
    ap (λ (x : ℕ). of_parts class x params result locals stack code entries) a
    ∙ ap (λ (x : List ImageKind). of_parts class (flags_of m) x result locals stack code entries) b
    ∙ ap (λ (x : ImageKind). of_parts class (flags_of m) ps x locals stack code entries) c
    ∙ ap (λ (x : List ImageKind). of_parts class (flags_of m) ps (cell_of m.result) x stack code entries) d
    ∙ ap (λ (x : ℕ). of_parts class (flags_of m) ps (cell_of m.result) ls x code entries) e
    ∙ ap (λ (x : List ℕ). of_parts class (flags_of m) ps (cell_of m.result) ls (body_stack m.body) x entries) f
    ∙ ap (λ (x : List ImageEntry). of_parts class (flags_of m) ps (cell_of m.result) ls (body_stack m.body) (bytes_of (body_code w m.result m.body)) x) g
