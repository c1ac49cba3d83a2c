use Rattle.sed_classes.proofs.sys.push_app.Goals as goal

pub returns : goal.returns
returns c = rw (c.in_ok-base.ensures, c.in_ok-members.ensures) at c.push_class.ensures
