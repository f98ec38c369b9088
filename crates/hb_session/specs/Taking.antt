-- What an accepted command leaves of itself.
use Rattle.std.specs.Prelude.{◌≡◌, List, [], ◌∷◌, ◌++◌}
use Rattle.hb_env.specs.declared.entry.Entry.{Entry}
use Rattle.hb_raw.specs.Sentence.{Act, join, find, require, howto, about}
use Rattle.hb_world.specs.Taking.{Extends, IsHeadOf}
use Rattle.hb_world.specs.Worlds.{IsAsBefore}
use Rattle.hb_session.specs.Entries.{decls_of}
use Rattle.hb_session.specs.Growing.{Grows, Leaves}
use Rattle.hb_session.specs.State.{State}
use Rattle.hb_session.specs.Reporting.{IsEventOf}
use Rattle.hb_events.specs.declared.event.Event.{Event}

-- a command that leaves an entry by its family
abbrev pub HasFamily : Act → Type 0
HasFamily (join a b) = ⊥
HasFamily (find s c) = ⊥
HasFamily (require n) = ⊥
HasFamily (howto s c) = ⊥
HasFamily (about n) = ⊥
HasFamily _ = Unit {0}

-- the entries that an accepted command leaves: none of a query, one with its names of any other
abbrev pub AreLeft : Act → List Entry → Type 0
AreLeft (join a b) es = es ≡ []
AreLeft (find s c) es = es ≡ []
AreLeft (howto s c) es = es ≡ []
AreLeft (about n) es = es ≡ []
AreLeft act es = (e : Entry) × (es ≡ e ∷ []) × IsHeadOf act e.head

-- the session goes on by these entries: their declarations are added in order, and names only grow
pub record GoesOn (S S' : State) (es : List Entry) : Type 0 where
  pub entries : S'.entries ≡ S.entries ++ es
  pub declared : S'.env ≡ S.env ++ decls_of es
  pub names : Extends S.back.names S'.back.names

-- a command is accepted, and reports this
pub record Takes (S : State) (c : Act) (event : Event) (S' : State) : Type 0 where
  pub left : List Entry
  pub are_left : AreLeft c left
  pub goes_on : GoesOn S S' left
  pub grows : Grows c S.env S.back S'.back
  pub leaves : Leaves c S.back.hier S.back.section S'.back.section
  pub reported : IsEventOf S.env S.back c event

-- nothing has changed but the names, which may be more
pub record OnlyNames (S S' : State) : Type 0 where
  pub env : S'.env ≡ S.env
  pub back : IsAsBefore S.back S'.back
  pub entries : S'.entries ≡ S.entries
