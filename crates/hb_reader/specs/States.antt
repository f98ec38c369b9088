-- What the reader's states stand for.
use Rattle.std.specs.Prelude.{List, [], ◌∷◌, ◌++◌, map, Option, Some, None, Bool, true, false}
use Rattle.hb_raw.specs.declared.word.Word.{Word}
use Rattle.hb_raw.specs.declared.word.Item.{Item}
use Rattle.hb_raw.specs.Sentence.{Sentence}
use Rattle.hb_raw.specs.Views.{act, command, groups, field}
use Rattle.hb_grammar.specs.declared.mark.Mark.TheVariants.{Ident, Pair, Close, Unbrace, Colon, Becomes}
use Rattle.hb_grammar.specs.declared.mark.Second.TheVariants as second
use Rattle.hb_grammar.specs.Leaf.{word, first_word}
use Rattle.hb_grammar.specs.Part as shape
use Rattle.hb_grammar.specs.Machine as plain
use Rattle.hb_reader.specs.declared.state.State.{State}
use Rattle.hb_reader.specs.declared.kind.Kind.{Kind}
use Rattle.hb_reader.specs.declared.kind.Kind.TheVariants as kinds
use Rattle.hb_reader.specs.declared.term.TermState.{TermState}
use Rattle.hb_reader.specs.declared.term.TermState.TheVariants as terms
use Rattle.hb_reader.specs.declared.binder.BinderState.{BinderState}
use Rattle.hb_reader.specs.declared.binder.BinderState.TheVariants as binders
use Rattle.hb_reader.specs.declared.listing.Listing.{Listing}
use Rattle.hb_reader.specs.declared.listing.Listing.TheVariants as listings
use Rattle.hb_reader.specs.declared.listing.ListState.{ListState}
use Rattle.hb_reader.specs.declared.listing.ListState.TheVariants as lists
use Rattle.hb_reader.specs.declared.instance.Placing.{Placing}
use Rattle.hb_reader.specs.declared.instance.Placing.TheVariants as placings
use Rattle.hb_reader.specs.declared.instance.InstanceState.{InstanceState}
use Rattle.hb_reader.specs.declared.instance.InstanceState.TheVariants as instances
use Rattle.hb_reader.specs.Stacks.{stack, binding}
use Rattle.hb_reader.specs.Views.{part, before, record_of, instance_of, bound_in}
use Rattle.hb_reader.specs.Rows.{Take, take, taking, either, row}

abbrev pub term_state : TermState → plain.State
term_state (terms.Want b k) = plain.want (before b) (stack k)
term_state (terms.Have b a e k) = plain.have (before b) (part a) e (stack k)
term_state (terms.More b k) = plain.more (before b) (stack k)
term_state (terms.Bare b x k) = plain.bare_begun (before b) x (stack k)
term_state (terms.UniverseAt b a x k) = plain.universe_at (before b) (part a) x (stack k)
term_state (terms.Level b a k) = plain.level_begins (before b) (part a) (stack k)
term_state (terms.LevelClose b a n k) =
    plain.take (plain.depth (stack k)) Unbrace (λ z. plain.have (before b) (shape.level_part (part a) n z.place) false (stack k))
term_state (terms.Projecting b a k) = plain.projecting (before b) (part a) (stack k)
term_state (terms.ProjectClose b a n k) = plain.projected_name (before b) (part a) (stack k) n

abbrev pub binder_state : BinderState → plain.State
binder_state (binders.First b) = plain.binders (binding b)
binder_state (binders.Bares b xs) = plain.bares (binding b) xs.items
binder_state (binders.Groups b gs) = plain.groups (binding b) (groups gs.items) (bound_in (groups gs.items))
binder_state (binders.Opened b gs) = plain.group_opened (binding b) (groups gs.items) (bound_in (groups gs.items))
binder_state (binders.Names b gs xs) = plain.group_names (binding b) (groups gs.items) (bound_in (groups gs.items)) xs.items

abbrev pub listing : Listing → plain.Listing
listing (listings.Record b x n c) = plain.of_record b x n c
listing (listings.Structure x n c) = plain.of_structure x n c

abbrev pub item_carrier : Listing → List Item → Word → Take
item_carrier l is f = take 0 Ident (λ c. plain.items (listing l) (is ++ (record { factory = f; carrier = word c } ∷ [])))

abbrev pub list_state : ListState → plain.State
list_state (lists.Factory l is) = plain.item_begins (listing l) is.items
list_state (lists.Carrier l is f) = taking (item_carrier l is.items f)
list_state (lists.Items l is) = plain.items (listing l) is.items
list_state (lists.ItemOrEnd x n c is) =
    either (take 0 Ident (λ f. taking (item_carrier (listings.Structure x n c) is.items (word f))))
    (take 0 Unbrace (λ _. plain.structure_ends x n c is.items))
list_state (lists.Brace r) = plain.fields_begin (record_of r)
list_state (lists.Fields r fs) = plain.fields (record_of r) (map field fs.items)
list_state (lists.Colon r fs f) =
    plain.take 0 Colon (λ _. plain.want plain.first (plain.field_type (record_of r) (map field fs.items) f))

abbrev pub placing : Placing → plain.Placing
placing (placings.Factory i f) = plain.of_factory (instance_of i) f
placing (placings.Builder i f b) = plain.of_builder (instance_of i) f b

abbrev pub instance_state : InstanceState → plain.State
instance_state (instances.Conditioned i) = plain.conditioned (instance_of i)
instance_state (instances.Name i) = plain.take 1 Ident (λ w. plain.condition_names (instance_of i) (word w ∷ []))
instance_state (instances.Names i ws) = plain.condition_names (instance_of i) ws.items
instance_state (instances.Type i ws) = plain.condition_typed (instance_of i) ws.items
instance_state (instances.Close i ws s) = plain.take 1 Close (λ _. plain.with_condition (instance_of i) ws.items s)
instance_state (instances.Factory i) = plain.take 0 Ident (λ f. plain.placing (plain.of_factory (instance_of i) (word f)))
instance_state (instances.Build i) =
    plain.take 0 (Pair second.Build) (λ f. plain.placing (plain.of_builder (instance_of i) (first_word f) (word f)))
instance_state (instances.Placing p) = plain.placing (placing p)
instance_state (instances.PlaceName p x) = plain.take 1 Ident (λ k. plain.place_names (placing p) x (word k) [])
instance_state (instances.PlaceNames p x k ws) = plain.place_names (placing p) x k ws.items
instance_state (instances.Becomes i f k ws) =
    plain.take 0 Becomes (λ _. plain.want plain.first (plain.instance_value (instance_of i) f k ws.items))

-- what the reader is in the middle of
abbrev pub kind : Kind → plain.State
kind kinds.Begin = plain.begin
kind (kinds.Done c) = plain.done (command c)
kind (kinds.Finish c) = plain.finishes c.span (act c.kind)
kind (kinds.Row r) = row r
kind (kinds.Term t) = term_state t
kind (kinds.Binder b) = binder_state b
kind (kinds.List l) = list_state l
kind (kinds.Instance i) = instance_state i

-- the reader's state
abbrev pub state : State → plain.State
state s = kind s.kind

-- the sentence that a state has finished
abbrev pub finished_in : plain.State → Option Sentence
finished_in (plain.done c) = Some c
finished_in s = None

-- whether a state is between two sentences
abbrev pub is_between : plain.State → Bool
is_between plain.begin = true
is_between s = false
