use Rattle.std.proofs.Common.{refl, subst, sym}
use Rattle.sedona_words.specs.declared.command.Asked.{Asked}
use Rattle.sedona_words.specs.Asked.{asked_command, asked_record}
use Rattle.sedona_words.specs.Command.{Compile, Gen, texts}
use Rattle.sedona_cli.specs.Does.{Does}
use Rattle.sedona_cli.specs.Program.{ComesOrWants}
use Rattle.sedona_cli.specs.Status.{number_of}
use Rattle.sedona_cli.specs.World.{world}
use Rattle.sedona_cli.proofs.Asking.{only_reads, same_asks}
use Rattle.sedona_cli.proofs.Building.{on_ok_holds}
use Rattle.sedona_cli.proofs.WriteSteps.{same_output}
use Rattle.sedona_cli.proofs.ShowSteps.{show_spares}
use Rattle.sedona_cli.proofs.program.command.Goals as goal

pub returns-in-Cycles : goal.returns-in-Cycles
returns-in-Cycles g c =
    subst (λ (asked : Asked). Does g.F.Files g.L.Link g.C.Clock g.D.Disk g.O.Sink (asked_command asked)
    (world c.args.files.now c.args.link.now c.args.clock.now c.args.disk.now c.args.out.now) (world c.cycles.new.files c.args.link.now c.args.clock.now c.args.disk.now c.answer.new.out) (number_of c.answer.result))
    (sym c.in-Cycles.is) (record {
      answered = same_asks g.F.Files g.D.Disk c.args.files.now c.cycles.new.files c.args.disk.now c.args.disk.now _ _ (λ asks came. c.answer.ensures.answered _ asks tt came) (only_reads g.F.Files g.D.Disk c.args.files.now c.cycles.new.files c.args.disk.now _ c.cycles.ensures);
      leaves = λ at. refl;
      live = (refl, refl);
    })

pub returns-in-Check : goal.returns-in-Check
returns-in-Check g c =
    subst (λ (asked : Asked). Does g.F.Files g.L.Link g.C.Clock g.D.Disk g.O.Sink (asked_command asked)
    (world c.args.files.now c.args.link.now c.args.clock.now c.args.disk.now c.args.out.now) (world c.check.new.files c.args.link.now c.args.clock.now c.args.disk.now c.answer-in-Check.new.out) (number_of c.answer-in-Check.result))
    (sym c.in-Check.is) (record {
      answered = same_asks g.F.Files g.D.Disk c.args.files.now c.check.new.files c.args.disk.now c.args.disk.now _ _ (λ asks came. c.answer-in-Check.ensures.answered _ asks tt came) (only_reads g.F.Files g.D.Disk c.args.files.now c.check.new.files c.args.disk.now _ c.check.ensures);
      leaves = λ at. refl;
      live = (refl, refl);
    })

pub returns-in-Compile : goal.returns-in-Compile
returns-in-Compile g c =
    subst (λ (asked : Asked). Does g.F.Files g.L.Link g.C.Clock g.D.Disk g.O.Sink (asked_command asked)
    (world c.args.files.now c.args.link.now c.args.clock.now c.args.disk.now c.args.out.now) (world c.image_written.new.files c.args.link.now c.args.clock.now c.args.disk.now c.answer-in-Compile.new.out) (number_of c.answer-in-Compile.result))
    (sym c.in-Compile.is) (record {
      answered = (
        refl,
        same_output g.F.Files c.in-Compile.image.now c.args.files.now c.image_written.new.files (λ asks. ComesOrWants (Compile c.in-Compile.image.now (texts c.in-Compile.names.now)) asks c.image_written.result) _
            (λ asks came. c.answer-in-Compile.ensures.answered (Compile c.in-Compile.image.now (texts c.in-Compile.names.now)) asks tt came) c.image_written.ensures.asks,
      );
      leaves = λ at. on_ok_holds c.image_written.result _ (c.answer-in-Compile.ensures.done at) c.image_written.ensures.leaves;
      live = (refl, refl);
    })

pub returns-in-New : goal.returns-in-New
returns-in-New g c =
    subst (λ (asked : Asked). Does g.F.Files g.L.Link g.C.Clock g.D.Disk g.O.Sink (asked_command asked)
    (world c.args.files.now c.args.link.now c.args.clock.now c.args.disk.now c.args.out.now) (world c.made.new.files c.args.link.now c.args.clock.now c.made.new.disk c.answer-in-New.new.out) (number_of c.answer-in-New.result))
    (sym c.in-New.is) (record {
      answered = same_asks g.F.Files g.D.Disk c.args.files.now c.made.new.files c.args.disk.now c.made.new.disk _ _ (λ asks came. c.answer-in-New.ensures.answered _ asks tt came) c.made.ensures.asks;
      leaves = λ at. on_ok_holds c.made.result _ (c.answer-in-New.ensures.done at) c.made.ensures.leaves;
      live = (refl, refl);
    })

pub returns-in-Show : goal.returns-in-Show
returns-in-Show g c =
    subst (λ (asked : Asked). Does g.F.Files g.L.Link g.C.Clock g.D.Disk g.O.Sink (asked_command asked)
    (world c.args.files.now c.args.link.now c.args.clock.now c.args.disk.now c.args.out.now) (world c.shown.new.files c.args.link.now c.args.clock.now c.shown.new.disk c.answer-in-Show.new.out) (number_of c.answer-in-Show.result))
    (sym c.in-Show.is) (record {
      answered = same_asks g.F.Files g.D.Disk c.args.files.now c.shown.new.files c.args.disk.now c.shown.new.disk _ _ (λ asks came. c.answer-in-Show.ensures.answered _ asks tt came) c.shown.ensures;
      leaves = λ at. on_ok_holds c.shown.result _ (c.answer-in-Show.ensures.done at) (show_spares g.F.Files g.D.Disk c.args.files.now c.shown.new.files c.args.disk.now c.shown.new.disk _ _ _ c.shown.result c.shown.ensures);
      live = (refl, refl);
    })

pub returns-in-Replay : goal.returns-in-Replay
returns-in-Replay g c =
    subst (λ (asked : Asked). Does g.F.Files g.L.Link g.C.Clock g.D.Disk g.O.Sink (asked_command asked)
    (world c.args.files.now c.args.link.now c.args.clock.now c.args.disk.now c.args.out.now) (world c.replayed.new.files c.args.link.now c.args.clock.now c.replayed.new.disk c.replayed.new.out) (number_of c.replayed.result))
    (sym c.in-Replay.is) (record {
      answered = c.replayed.ensures;
      leaves = λ at. tt;
      live = (refl, refl);
    })

pub returns-in-Run : goal.returns-in-Run
returns-in-Run g c =
    subst (λ (asked : Asked). Does g.F.Files g.L.Link g.C.Clock g.D.Disk g.O.Sink (asked_command asked)
    (world c.args.files.now c.args.link.now c.args.clock.now c.args.disk.now c.args.out.now) (world c.lived.new.files c.lived.new.link c.lived.new.clock c.lived.new.disk c.lived.new.out) (number_of c.lived.result))
    (sym c.in-Run.is) (record {
      answered = c.lived.ensures.answered;
      leaves = λ at. tt;
      live = c.lived.ensures.live;
    })

pub returns-in-Gen : goal.returns-in-Gen
returns-in-Gen g c =
    subst (λ (asked : Asked). Does g.F.Files g.L.Link g.C.Clock g.D.Disk g.O.Sink (asked_command asked)
    (world c.args.files.now c.args.link.now c.args.clock.now c.args.disk.now c.args.out.now) (world c.generate.new.files c.args.link.now c.args.clock.now c.args.disk.now c.answer-in-Gen.new.out) (number_of c.answer-in-Gen.result))
    (sym c.in-Gen.is) (record {
      answered = (
        refl,
        same_output g.F.Files c.in-Gen.words.out.now c.args.files.now c.generate.new.files (λ asks. ComesOrWants (Gen (asked_record c.in-Gen.words)) asks c.generate.result) _
            (λ asks came. c.answer-in-Gen.ensures.answered (Gen (asked_record c.in-Gen.words)) asks tt came) c.generate.ensures.asks,
      );
      leaves = λ at. on_ok_holds c.generate.result _ (c.answer-in-Gen.ensures.done at) c.generate.ensures.leaves;
      live = (refl, refl);
    })
