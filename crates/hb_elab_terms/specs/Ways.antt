-- How terms of one type are made terms of another.
use Rattle.std.specs.Prelude.{◌≡◌, true}
use Rattle.hb_sets.specs.Set.{Set, is_subset}
use Rattle.hb_elab_terms.specs.declared.conforming.Way.{Way}
use Rattle.hb_elab_terms.specs.declared.conforming.Way.TheVariants.{Coerce, Carrier, Structured, Same}

-- a coercion goes from a structure that has all the mixins of the other
abbrev pub GoesUp : (from to : Set) → Way → Type 0
GoesUp X Y (Coerce c) = is_subset Y X ≡ true
GoesUp X Y (Carrier r) = Unit {0}
GoesUp X Y (Structured r) = Unit {0}
GoesUp X Y Same = Unit {0}
