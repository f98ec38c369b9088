-- The libraries that the code holds.
use Rattle.hb_refactor.specs.declared.sides.Sides.{Sides}
use Rattle.hb_refactor.specs.Keeping.{Both}

abbrev pub both : Sides → Both
both s = record { old_names = s.old_names.now; old = s.old.now; new_names = s.new_names.now; new = s.new.now }
