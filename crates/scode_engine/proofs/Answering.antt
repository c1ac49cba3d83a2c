-- A root call that may be asked begins, and ends as the definition has it.
use Rattle.std.proofs.Common.{◌≡◌, inl, inr, ℕ, Option, Some, None, Result, Ok, Err, refl, sym, ap, ◌∙◌}
use Rattle.std.specs.Prelude.{IfSome}
use Rattle.sed_value.specs.declared.value.Value.{Value}
use Rattle.sed_engine.specs.declared.call.CallEnd.{CallEnd}
use Rattle.sed_engine.specs.declared.call.CallEnd.TheVariants.{Done}
use Rattle.sed_engine.specs.declared.call.Place.{Place}
use Rattle.sed_engine.specs.declared.call.Root.{Root}
use Rattle.sed_engine.specs.declared.trap.Trap.{Trap}
use Rattle.sed_engine.specs.Code.{Question}
use Rattle.sed_engine.specs.Root.{RootEnd, argument_of, root_end}
use Rattle.sed_engine.specs.Root as language
use Rattle.sed_engine.specs.State.{Shared}
use Rattle.sed_engine.specs.Stops.{Stop, there}
use Rattle.sed_engine.specs.Values.{Val}
use Rattle.scode_code.specs.Fields.{Setting}
use Rattle.scode_code.specs.Root.{root_method, start_root}
use Rattle.scode_sound.specs.Rooted.{HasRoot, root_end_of}
use Rattle.scode_cells.specs.declared.cell.Cell.{Cell}
use Rattle.scode_cells.specs.declared.cell.Cell.TheVariants as cell
use Rattle.scode_vm.specs.Calling.{given_by}
use Rattle.scode_vm.specs.Doings.{IsValue}
use Rattle.scode_vm.specs.Seen.{val_of}
use Rattle.scode_engine.specs.AtWork.{Rooted, Running, end_of, setting_of, shared_by}
use Rattle.scode_engine.specs.Answered.{IsAnswered, IsReady}
use Rattle.scode_engine.specs.Lookups.{IsFound, argument_seen}
use Rattle.scode_engine.specs.RootCall.{EndsAs, MayBegin, question_of}

-- a cell that is an argument stands for it wherever it is looked at
record Given (w : Setting) (place : Place) (c : Option Cell) : Type 0 where
  is : there (argument_seen c) ≡ Ok (given_by w place c)
  is_value : IfSome c (λ x. IsValue (val_of w place x))

given_as : (w : Setting) (place : Place) (c : Option Cell) (v : Val) → there (argument_seen c) ≡ Ok v
    → Given w place c
given_as w place None v e = record { is = refl; is_value = tt }
given_as w place (Some (cell.Int n)) v e = record { is = refl; is_value = tt }
given_as w place (Some (cell.Long n)) v e = record { is = refl; is_value = tt }
given_as w place (Some (cell.Bool t)) v e = record { is = refl; is_value = tt }
given_as w place (Some cell.Null) v e = record { is = refl; is_value = tt }
given_as w place (Some (cell.Text n)) v e = record { is = refl; is_value = tt }
given_as w place (Some (cell.Object b offset class)) v e = absurd (cc)
given_as w place (Some (cell.Str b offset size)) v e = absurd (cc)

apart : (r : Result (Option ℕ) Stop) (n : ℕ) → r ≡ Ok (Some n) → r ≡ Ok None → ⊥
apart r n some none = (let never : ⊥ = cc in never)

-- what a root call shares at its end
shared_at_end : (q : Rooted) (came : Result (Option Cell) Trap) (shared : Shared)
    → root_end (end_of q came shared)
    ≡ record {
      contents = shared.contents;
      statics = shared.statics;
      end = language.end_of (end_of q came shared).result shared.turns;
    }
shared_at_end q (Ok c) shared = refl
shared_at_end q (Err trap) shared = refl

-- the method and the argument of a root call that may be asked
pub method_found : (q : Rooted) (x : Question) → HasRoot q.image x → IsFound (root_method q.image x.class x.which)
method_found q x (inl m) = (Some m.number, m.found)
method_found q x (inr n) = (None, n.found)

pub argument_found : (q : Rooted) (x : Question) (number : ℕ) → HasRoot q.image x
    → root_method q.image x.class x.which ≡ Ok (Some number) → IsFound (argument_of x.argument)
argument_found q x number (inl m) e = (m.value, m.given)
argument_found q x number (inr n) e = absurd (let never = n.found in cc)

module _ (q : Rooted) (which : Root) (argument : Value) (r : Running) (ready : IsReady q which argument r) where
  abbrev pub x : Question
  x = question_of q r which argument

  abbrev pub e : RootEnd
  e = root_end_of q.image x

  -- nothing is run
  nothing_left : root_method q.image q.class which ≡ Ok None → HasRoot q.image x
      → e ≡ record { contents = x.contents; statics = x.statics; end = Done x.turns }
  nothing_left is (inl m) = absurd (apart (root_method q.image q.class which) m.number m.found is)
  nothing_left is (inr n) = n.ended

  pub answered_by_none : root_method q.image q.class which ≡ Ok None → HasRoot q.image x
      → IsAnswered q which argument r (Done r.turns) r.cells r.blocks
  answered_by_none is has =
      let same = nothing_left is has in
      record {
        end_is = sym (ap (λ (o : RootEnd). o.end) same);
        left = record {
          keeps = record {
            fit = ready.ground.fit;
            others = λ b own statics. refl;
            classes = λ p. refl;
            firsts = refl;
            limit = refl;
          };
          contents = sym (ap (λ (o : RootEnd). o.contents) same);
          statics = sym (ap (λ (o : RootEnd). o.statics) same);
        };
        cells_are = refl;
      }

  module _ (number : ℕ) (c : Option Cell) (found : root_method q.image q.class which ≡ Ok (Some number))
      (known : IsFound (argument_of argument)) (seen : argument_of argument ≡ there (argument_seen c)) where
    given : Given (setting_of q) q.place c
    given = given_as (setting_of q) q.place c known.0 (sym seen ∙ known.1)

    pub may_begin : MayBegin q number c r
    may_begin = record {
      verified = ready.verified;
      ground = ready.ground;
      cells = ready.cells;
      idle = ready.idle;
      which = which;
      value = argument;
      asked = ready.asked;
      found = found;
      given = seen ∙ given.is;
      is_value = given.is_value;
    }

    module _ (came : Result (Option Cell) Trap) (new : Running) (ends : EndsAs q number c r came new) where
      abbrev end_here : RootEnd
      end_here = record {
        contents = (shared_by q new).contents;
        statics = (shared_by q new).statics;
        end = language.end_of (end_of q came (shared_by q new)).result new.turns;
      }

      runs_so : e ≡ end_here
      runs_so =
          ap (λ (m : Result (Option ℕ) Stop). root_end (start_root (setting_of q) m (argument_of argument)
          (shared_by q r))) found
          ∙ ap (λ (v : Result Val Stop). root_end (start_root (setting_of q) (Ok (Some number)) v (shared_by q r)))
          (seen ∙ given.is)
          ∙ ap root_end ends.called
          ∙ shared_at_end q came (shared_by q new)

      pub answered_by : (end : CallEnd)
          → ((p : Rooted) (shared : Shared) → end ≡ language.end_of (end_of p came shared).result new.turns)
          → IsAnswered q which argument r end new.cells new.blocks
      answered_by end is = record {
        end_is = is q (shared_by q new) ∙ sym (ap (λ (o : RootEnd). o.end) runs_so);
        left = record {
          keeps = ends.keeps;
          contents = sym (ap (λ (o : RootEnd). o.contents) runs_so);
          statics = sym (ap (λ (o : RootEnd). o.statics) runs_so);
        };
        cells_are = ends.cells;
      }
