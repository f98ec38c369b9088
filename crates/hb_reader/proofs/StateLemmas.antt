-- Which states are between two sentences, and which have finished one.
use Rattle.std.proofs.Common.{◌≡◌, false, None, refl}
use Rattle.hb_raw.specs.declared.command.Command.{Command}
use Rattle.hb_grammar.specs.Machine as plain
use Rattle.hb_reader.specs.declared.row.Row.{Row}
use Rattle.hb_reader.specs.declared.row.Row.TheVariants as rows
use Rattle.hb_reader.specs.declared.term.TermState.{TermState}
use Rattle.hb_reader.specs.declared.term.TermState.TheVariants as terms
use Rattle.hb_reader.specs.declared.binder.BinderState.{BinderState}
use Rattle.hb_reader.specs.declared.binder.BinderState.TheVariants as binders
use Rattle.hb_reader.specs.declared.listing.ListState.{ListState}
use Rattle.hb_reader.specs.declared.listing.ListState.TheVariants as lists
use Rattle.hb_reader.specs.declared.instance.InstanceState.{InstanceState}
use Rattle.hb_reader.specs.declared.instance.InstanceState.TheVariants as instances
use Rattle.hb_reader.specs.declared.kind.Kind.{Kind}
use Rattle.hb_reader.specs.declared.kind.Kind.TheVariants as kinds
use Rattle.hb_reader.specs.Rows.{row}
use Rattle.hb_reader.specs.States.{term_state, binder_state, list_state, instance_state, kind, finished_in, is_between}

-- within a sentence
abbrev pub IsInside : plain.State → Type 0
IsInside s = (is_between s ≡ false) × (finished_in s ≡ None)

pub row_inside : (r : Row) → IsInside (row r)
row_inside (rows.Head r) = (refl, refl)
row_inside (rows.Query r) = (refl, refl)
row_inside (rows.Carrier r) = (refl, refl)
row_inside (rows.Builders r) = (refl, refl)
row_inside (rows.Structure r) = (refl, refl)
row_inside (rows.Fork f) = (refl, refl)

pub term_inside : (t : TermState) → IsInside (term_state t)
term_inside (terms.Want b k) = (refl, refl)
term_inside (terms.Have b a e k) = (refl, refl)
term_inside (terms.More b k) = (refl, refl)
term_inside (terms.Bare b x k) = (refl, refl)
term_inside (terms.UniverseAt b a x k) = (refl, refl)
term_inside (terms.Level b a k) = (refl, refl)
term_inside (terms.LevelClose b a n k) = (refl, refl)
term_inside (terms.Projecting b a k) = (refl, refl)
term_inside (terms.ProjectClose b a n k) = (refl, refl)

pub binder_inside : (s : BinderState) → IsInside (binder_state s)
binder_inside (binders.First b) = (refl, refl)
binder_inside (binders.Bares b xs) = (refl, refl)
binder_inside (binders.Groups b gs) = (refl, refl)
binder_inside (binders.Opened b gs) = (refl, refl)
binder_inside (binders.Names b gs xs) = (refl, refl)

pub list_inside : (s : ListState) → IsInside (list_state s)
list_inside (lists.Factory l is) = (refl, refl)
list_inside (lists.Carrier l is f) = (refl, refl)
list_inside (lists.Items l is) = (refl, refl)
list_inside (lists.ItemOrEnd x n c is) = (refl, refl)
list_inside (lists.Brace r) = (refl, refl)
list_inside (lists.Fields r fs) = (refl, refl)
list_inside (lists.Colon r fs f) = (refl, refl)

pub instance_inside : (s : InstanceState) → IsInside (instance_state s)
instance_inside (instances.Conditioned i) = (refl, refl)
instance_inside (instances.Name i) = (refl, refl)
instance_inside (instances.Names i ws) = (refl, refl)
instance_inside (instances.Type i ws) = (refl, refl)
instance_inside (instances.Close i ws s) = (refl, refl)
instance_inside (instances.Factory i) = (refl, refl)
instance_inside (instances.Build i) = (refl, refl)
instance_inside (instances.Placing p) = (refl, refl)
instance_inside (instances.PlaceName p x) = (refl, refl)
instance_inside (instances.PlaceNames p x k ws) = (refl, refl)
instance_inside (instances.Becomes i f k ws) = (refl, refl)

-- only `Done` has finished a sentence
pub unfinished : (k : Kind) → ((c : Command) → k ≡ kinds.Done c → ⊥) → finished_in (kind k) ≡ None
unfinished kinds.Begin n = refl
unfinished (kinds.Done c) n = absurd (n c refl)
unfinished (kinds.Finish c) n = refl
unfinished (kinds.Row r) n = (row_inside r).1
unfinished (kinds.Term t) n = (term_inside t).1
unfinished (kinds.Binder b) n = (binder_inside b).1
unfinished (kinds.List l) n = (list_inside l).1
unfinished (kinds.Instance i) n = (instance_inside i).1
