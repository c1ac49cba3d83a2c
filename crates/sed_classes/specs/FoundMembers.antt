-- The member that is found.
use Rattle.sed_classes.specs.declared.inherited.Found.{Found}
use Rattle.sed_classes.specs.Members.{Owned}

abbrev pub owned_of : Found → Owned
owned_of f = record { class = f.class; kit = f.kit; member = f.member.now }
