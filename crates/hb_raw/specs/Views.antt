-- The plain data that raw terms and commands stand for.
use Rattle.std.specs.Prelude.{List, map, Option, Some, None, option_map}
use Rattle.hb_base.specs.declared.name_id.NameId.{NameId}
use Rattle.hb_base.specs.declared.span.Span.{Span}
use Rattle.hb_raw.specs.declared.raw.Raw.{Raw, fold-Raw}
use Rattle.hb_raw.specs.declared.raw.RawKind.{RawKind, fold-RawKind}
use Rattle.hb_raw.specs.declared.raw.Binder.{Binder, fold-Binder}
use Rattle.hb_raw.specs.declared.raw.RawKind.TheOpen.{RawKind-F, Binder-F, Raw-F}
use Rattle.hb_raw.specs.declared.word.Word.{Word}
use Rattle.hb_raw.specs.declared.word.Field.{Field}
use Rattle.hb_raw.specs.declared.command.Command.{Command}
use Rattle.hb_raw.specs.declared.command.CommandKind.{CommandKind}
use Rattle.hb_raw.specs.declared.command.CommandKind.TheVariants.{Axiom, Definition, Mixin, Factory, Builders, End, Structure, Instance, Join, Find, Require, Howto, About}
use Rattle.hb_raw.specs.Preterm.{Preterm, preterm, Form, name, bare, hole, prop, level, product, function, arrow, applied, projected, cast, preterms_of, Group, untyped, typed, groups_of}
use Rattle.hb_raw.specs.Sentence.{Act, axiom_of, definition, mixin, factory, builders, section_end, structure, instance, join, find, require, howto, about, Sentence, sentence}

-- one level of a raw term, with its parts already seen
abbrev pub form_step : RawKind-F Form Group Preterm → Form
form_step (RawKind-F.Name n) = name n
form_step (RawKind-F.At n) = bare n
form_step RawKind-F.Hole = hole
form_step RawKind-F.Prop = prop
form_step (RawKind-F.Level k) = level k
form_step (RawKind-F.Forall gs b) = product (groups_of gs.items) b.value
form_step (RawKind-F.Fun gs b) = function (groups_of gs.items) b.value
form_step (RawKind-F.Arrow a b) = arrow a.value b.value
form_step (RawKind-F.App f ts) = applied f.value (preterms_of ts.items)
form_step (RawKind-F.Proj t n) = projected t.value n
form_step (RawKind-F.Cast t ty) = cast t.value ty.value

abbrev pub group_of : List (Option NameId × Span) → Option Preterm → Group
group_of names None = untyped names
group_of names (Some ty) = typed names ty

abbrev pub binder_step : Binder-F Form Group Preterm → Group
binder_step b = group_of b.names.items b.ty

abbrev pub raw_step : Raw-F Form Group Preterm → Preterm
raw_step r = preterm r.span r.kind

-- the preterm of a raw term, the form of its kind, the group of a binder
abbrev pub term : Raw → Preterm
term = fold-Raw Form Group Preterm form_step binder_step raw_step

abbrev pub form : RawKind → Form
form = fold-RawKind Form Group Preterm form_step binder_step raw_step

abbrev pub group : Binder → Group
group = fold-Binder Form Group Preterm form_step binder_step raw_step

abbrev pub terms : List Raw → List Preterm
terms = map term

abbrev pub groups : List Binder → List Group
groups = map group

abbrev pub field : Field → Word × Preterm
field f = (f.name, term f.ty)

-- the act of a command's kind
abbrev pub act : CommandKind → Act
act (Axiom n ty) = axiom_of n (term ty)
act (Definition n bs ty b) = definition n (groups_of (groups bs.items)) (option_map term ty) (term b)
act (Mixin n c is fs) = mixin n c is.items (map field fs.items)
act (Factory n c is fs) = factory n c is.items (map field fs.items)
act (Builders c v i) = builders c v i
act End = section_end
act (Structure n c is) = structure n c is.items
act (Instance n bs f c ws v) = instance n bs.items f c ws.items (term v)
act (Join a b) = join a b
act (Find s c) = find s (term c)
act (Require n) = require n
act (Howto s c) = howto s c
act (About n) = about n

abbrev pub command : Command → Sentence
command c = sentence c.span (act c.kind)

abbrev pub sentences : List Command → List Sentence
sentences = map command
