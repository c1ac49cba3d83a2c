use Rattle.std.proofs.Common.{◌≡◌, ℕ, Some, ap, subst, sym, refl, ◌∙◌}
use Rattle.std.specs.Prelude.{IfSome, Option}
use Rattle.std.specs.Option.{option_map}
use Rattle.sedona_words.specs.Asked.{asked_command, IsMeant}
use Rattle.sedona_words.specs.declared.command.Asked.{Asked}
use Rattle.sedona_words.specs.Command.{Command, texts}
use Rattle.sedona_cli.specs.Does.{Does, no_memory}
use Rattle.sedona_cli.specs.Status.{number_of}
use Rattle.sedona_cli.specs.Words.{command_asked}
use Rattle.sedona_cli.specs.World.{world}
use Rattle.sedona_cli.proofs.Wanting.{wanted_words}
use Rattle.sedona_cli.proofs.program.sedona.Goals as goal

same_command : (a b : Command) → Some a ≡ Some b → a ≡ b
same_command a b e = cc

-- what was read, as the words are
read_as : (o : Option Asked) (a : Asked) (k : Option Command) → o ≡ Some a → option_map asked_command o ≡ k → Some (asked_command a) ≡ k
read_as o a k is read = sym (ap (option_map asked_command) is) ∙ read

meant_so : (o : Option Asked) (a : Asked) → o ≡ Some a → IfSome o IsMeant → IsMeant a
meant_so o a is meant = subst (λ (x : Option Asked). IfSome x IsMeant) is meant

pub command-requires : goal.command-requires
command-requires g c = meant_so c.in-Ok.asked c.in-Some.asked c.in-Some.is c.in-Ok.ensures.meant

pub returns-in-Some-clause-does : goal.returns-in-Some-clause-does
returns-in-Some-clause-does g c = λ command is.
    let same : asked_command c.in-Some.asked ≡ command =
    same_command (asked_command c.in-Some.asked) command (read_as c.in-Ok.asked c.in-Some.asked (command_asked (texts c.args.words.now)) c.in-Some.is c.in-Ok.ensures.command ∙ is)
    in
    subst (λ (n : ℕ). Does g.F.Files g.L.Link g.C.Clock g.D.Disk g.O.Sink command
    (world c.args.files.now c.args.link.now c.args.clock.now c.args.disk.now c.args.out.now) (world c.command.new.files c.command.new.link c.command.new.clock c.command.new.disk c.command.new.out) n)
    (sym c.number.ensures)
    (subst (λ (k : Command). Does g.F.Files g.L.Link g.C.Clock g.D.Disk g.O.Sink k
    (world c.args.files.now c.args.link.now c.args.clock.now c.args.disk.now c.args.out.now) (world c.command.new.files c.command.new.link c.command.new.clock c.command.new.disk c.command.new.out) (number_of c.command.result))
    same c.command.ensures)

-- memory was wanted for the words

pub returns-in-Err-clause-does : goal.returns-in-Err-clause-does
returns-in-Err-clause-does g c = λ command is.
    wanted_words g.F.Files g.L.Link g.C.Clock g.D.Disk g.O.Sink command c.args.files.now c.args.link.now c.args.clock.now c.args.disk.now c.args.out.now c.out_of_memory.new.out _
    (c.number-in-Err.ensures ∙ ap number_of c.out_of_memory.ensures.status) c.out_of_memory.ensures.line

pub returns-in-Err-clause-outside_the_table : goal.returns-in-Err-clause-outside_the_table
returns-in-Err-clause-outside_the_table g c = λ none. record {
  answered = no_memory (c.in-Err.ensures.wants refl) (c.number-in-Err.ensures ∙ ap number_of c.out_of_memory.ensures.status) c.out_of_memory.ensures.line;
  files = refl;
  link = refl;
  clock = refl;
  disk = refl;
}
