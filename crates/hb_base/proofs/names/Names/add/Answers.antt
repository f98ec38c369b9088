use Rattle.std.proofs.Common.{◌≡◌, ◌++◌, ◌∷◌, ◌≤◌, [], List, map, length, refl, string_bytes, rules, arith, false}
use Rattle.std.specs.String.{string_eq}
use Rattle.std.proofs.lemmas.List.{length-map}
use Rattle.hb_base.specs.Names.{is_named, NumbersAreUnique}
use Rattle.hb_base.proofs.NamesLemmas.{inserted, length-pushed, unique-added}
use Rattle.hb_base.proofs.names.Names.add.Goals as goal

pub returns-clause-added : goal.returns-clause-added
returns-clause-added c =
    rw (← c.self.view_is)
    (inserted string_bytes string_eq (λ x y. refl) c.self.inside.texts.keys c.insert.new.self.keys c.in_ok-owned.owned c.args.text.now c.in_ok-owned.ensures.ok (rw c.self.view_is c.requires.new) c.in_ok-insert.ensures.keys)

pub returns-clause-unique : goal.returns-clause-unique
returns-clause-unique c =
    unique-added c.args.self.now _ c.args.text.now (returns-clause-added c) (rw c.self.view_is at c.self.invariant.1) c.requires.new

pub invariant_of-self-2 : goal.invariant_of-self-2
invariant_of-self-2 c = (length-pushed string_bytes c.insert.new.self.keys c.args.self.now c.args.text.now 65535 (returns-clause-added c) c.requires.fits, returns-clause-unique c)
