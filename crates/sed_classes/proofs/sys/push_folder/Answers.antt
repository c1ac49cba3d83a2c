use Rattle.sed_classes.proofs.sys.push_folder.Goals as goal

pub returns : goal.returns
returns c = rw (c.in_ok-base.ensures, c.new.ensures.items) at c.push_class.ensures
