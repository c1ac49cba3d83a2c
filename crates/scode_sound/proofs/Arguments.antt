-- Arguments that a call takes off the stack, and the locals of the new frame.
use Rattle.std.proofs.Common.{◌≡◌, ◌+◌, ◌&&◌, ℕ, suc, Bool, true, false, if◌then◌else◌, List, [], ◌∷◌, ◌++◌, length, map, drop, reverse, Ok, refl, sym, ap, subst, ◌∙◌, append_assoc, append-nil, arith}
use Rattle.std.specs.Prelude.{slice_index_or}
use Rattle.std.specs.List.{list_all}
use Rattle.std.proofs.lemmas.Bool.{and_parts}
use Rattle.std.proofs.lemmas.Grind.{reverse_onto}
use Rattle.std.proofs.lemmas.List.{length-reverse, reverse-reverse}
use Rattle.std.proofs.lemmas.List.Folds.{list_all-append}
use Rattle.std.proofs.Math.Seq.{drop-append_seam}
use Rattle.sed_engine.specs.Stops.{map_ok}
use Rattle.sed_engine.specs.Values.{Val, Nothing, Truth, Int, Long, Null, At, Literal, spot_of}
use Rattle.sed_engine.proofs.Ranges.{Sound}
use Rattle.scode_image.specs.declared.image.ImageKind.{ImageKind}
use Rattle.scode_image.specs.declared.image.ImageMethod.{ImageMethod}
use Rattle.scode_code.specs.Calls.{argument_count, is_instance, locals_of, receiver_there, zero_of}
use Rattle.scode_code.specs.Effect.{taken}
use Rattle.scode_code.specs.Fields.{Setting}
use Rattle.scode_code.specs.Kinds.{object, same_kind}
use Rattle.scode_code.specs.TableRules as rule
use Rattle.scode_code.specs.declared.needs.Need.TheVariants.{Goes}
use Rattle.scode_whole.proofs.Rows.{begins_with}
use Rattle.scode_sound.specs.Cells.{Fit, HasKind}
use Rattle.scode_sound.proofs.Rules.{MethodRule, Tables}
use Rattle.scode_sound.proofs.Cells.{fit_append, fit_length, goes, same_kinds, zeros_fit}
use Rattle.scode_sound.proofs.Stacks.{Takes}

-- the kinds of a method's receiver, of this class, and of its parameters
abbrev pub kinds_of : ℕ → ImageMethod → List ImageKind
kinds_of class m = (if is_instance m then object class ∷ [] else []) ++ m.params

pub record Taken (w : Setting) (kinds others : List ImageKind) (n : ℕ) (stack before : List Val) : Type 0 where
  pub args : List Val
  pub rest : List Val
  pub is : taken n stack before ≡ Ok (args, rest)
  pub fit_args : Fit w kinds args
  pub fit_rest : Fit w others rest

-- a list turned round, with another behind it
abbrev onto : List ImageKind → List ImageKind → List ImageKind
onto [] done = done
onto (n ∷ ns) done = onto ns (n ∷ done)

turned : (ns done : List ImageKind) → onto ns done ≡ reverse ns ++ done
turned [] done = refl
turned (n ∷ ns) done =
    turned ns (n ∷ done)
    ∙ sym (ap (λ (front : List ImageKind). front ++ done) (reverse_onto ns n []) ∙ append_assoc (reverse ns)
    (n ∷ []) done)

module _ (w : Setting) (is : Tables w.image) where
  taken_fits : (ns ks : List ImageKind) (stack : List Val) (done : List ImageKind) (args : List Val)
      → Takes w (map Goes ns) ks stack → Fit w done args
      → Taken w (onto ns done) (drop (length (map Goes ns)) ks) (length ns) stack args
  taken_fits [] ks stack done args t f = record { args = args; rest = stack; is = refl; fit_args = f; fit_rest = t }
  taken_fits (n ∷ ns) [] stack done args t f = absurd t
  taken_fits (n ∷ ns) (k ∷ ks) [] done args t f = absurd t
  taken_fits (n ∷ ns) (k ∷ ks) (v ∷ stack) done args t f =
      let h : HasKind w n v = goes w is t.0.kind n v t.0.meets_it t.0.has in
      let r = taken_fits ns ks stack (n ∷ done) (v ∷ args) t.1 (h, f) in
      record { args = r.args; rest = r.rest; is = r.is; fit_args = r.fit_args; fit_rest = r.fit_rest }

  counted : (class : ℕ) (m : ImageMethod) → length (reverse (kinds_of class m)) ≡ argument_count m
  counted class m = length-reverse (kinds_of class m) ∙ go (is_instance m)
    where
      go : (b : Bool)
          → length ((if b then object class ∷ [] else []) ++ m.params) ≡ (if b then 1 else 0) + length m.params
      go true = let e : suc (length m.params) ≡ 1 + length m.params = omega arith in e
      go false = let e : length m.params ≡ 0 + length m.params = omega arith in e

  pub arguments : (class : ℕ) (m : ImageMethod) (ks : List ImageKind) (stack : List Val)
      → Takes w (map Goes (reverse (kinds_of class m))) ks stack
      → Taken w (kinds_of class m) (drop (length (map Goes (reverse (kinds_of class m)))) ks) (argument_count m) stack
      []
  arguments class m ks stack t =
      let r = taken_fits (reverse (kinds_of class m)) ks stack [] [] t tt in
      record {
        args = r.args;
        rest = r.rest;
        is = ap (λ (n : ℕ). taken n stack []) (sym (counted class m)) ∙ r.is;
        fit_args = subst (λ (all : List ImageKind). Fit w all r.args)
            (turned (reverse (kinds_of class m)) [] ∙ append-nil (reverse (reverse (kinds_of class m)))
            ∙ reverse-reverse (kinds_of class m)) r.fit_args;
        fit_rest = r.fit_rest;
      }

  -- the locals of a new frame
  pub locals_fit : (m : ImageMethod) (args : List Val) → MethodRule w.image m → Fit w (kinds_of m.class m) args
      → Fit w m.locals (locals_of m args)
  locals_fit m args r f =
      let own = begins_with same_kind same_kinds (kinds_of m.class m) m.locals r.begins in
      let many : length args ≡ length (kinds_of m.class m) = fit_length w (kinds_of m.class m) args f in
      let others : drop (length args) m.locals ≡ own.0 =
      ap (λ (n : ℕ). drop n m.locals) many
      ∙ ap (λ (all : List ImageKind). drop (length (kinds_of m.class m)) all) own.1
      ∙ drop-append_seam (kinds_of m.class m) own.0 in
      let all : (list_all (rule.is_kind_of_cell w.image true) (kinds_of m.class m)
      && list_all (rule.is_kind_of_cell w.image true) own.0) ≡ true =
      sym (list_all-append (rule.is_kind_of_cell w.image true) (kinds_of m.class m) own.0)
      ∙ sym (ap (λ (ks : List ImageKind). list_all (rule.is_kind_of_cell w.image true) ks) own.1) ∙ r.locals in
      let known = and_parts (list_all (rule.is_kind_of_cell w.image true) (kinds_of m.class m))
      (list_all (rule.is_kind_of_cell w.image true) own.0) all in
      subst (λ (ks : List ImageKind). Fit w ks (locals_of m args)) (sym own.1)
      (subst (λ (ks : List ImageKind). Fit w (kinds_of m.class m ++ own.0) (args ++ map zero_of ks)) (sym others)
      (fit_append w (kinds_of m.class m) own.0 args (map zero_of own.0) f (zeros_fit w is true own.0 known.1)))

-- the receiver is null, or it is there
pub receiver_is : (w : Setting) (class : ℕ) (m : ImageMethod) (args : List Val) → Fit w (kinds_of class m) args
    → Sound (λ _. Unit {0}) (receiver_there m args)
receiver_is w class m args f = go (is_instance m) args f
  where
    of_first : (v : Val) → HasKind w (object class) v → Sound (λ _. Unit {0}) (map_ok (λ spot. tt {0}) (spot_of v))
    of_first Nothing h = absurd h
    of_first (Truth t) h = absurd (omega (arith, h.0))
    of_first (Int n) h = absurd (omega (arith, h.0))
    of_first (Long n) h = absurd (omega (arith, h.0))
    of_first Null h = tt
    of_first (At spot) h = tt
    of_first (Literal n) h = absurd (omega (arith, h.0))

    go : (b : Bool) (args : List Val) → Fit w ((if b then object class ∷ [] else []) ++ m.params) args
        → Sound (λ _. Unit {0})
        (if b then map_ok (λ spot. tt {0}) (spot_of (slice_index_or args 0 Nothing)) else Ok (tt {0}))
    go true [] f = absurd f
    go true (v ∷ vs) f = of_first v f.0
    go false args f = tt
