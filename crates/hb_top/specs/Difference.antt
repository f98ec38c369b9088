-- What differs between two hierarchies.
use Rattle.hb_top.specs.Stops.{IsPrinted}
use Rattle.hb_top.specs.declared.difference.Difference.{Difference}
use Rattle.hb_top.specs.declared.difference.Difference.TheVariants.{InOld, InNew}

-- it is printed
abbrev pub IsDifference : Difference → Type 0
IsDifference (InOld what) = IsPrinted what
IsDifference (InNew what) = IsPrinted what
