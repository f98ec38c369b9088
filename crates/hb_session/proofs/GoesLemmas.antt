-- A session that goes on by an entry, and back.
use Rattle.std.proofs.Common.{◌≡◌, ◌⊎◌, ℕ, ◌-◌, ◌+◌, List, Some, None, subst, [], ◌∷◌, ◌++◌, length, take, Option, refl, sym, ap, ◌∙◌, arith, append_assoc, append-nil, IfOk, Result, Ok, Err, length-append}
use Rattle.std.proofs.Math.Seq.{take-append_seam}
use Rattle.std.proofs.lemmas.List.{length-map}
use Rattle.hb_calculus.specs.Declarations.{Decl}
use Rattle.hb_env.specs.Plain.{plain, plains}
use Rattle.hb_env.specs.declared.entry.Entry.{Entry}
use Rattle.hb_env.specs.declared.entry.Head.{Head}
use Rattle.hb_env.specs.declared.entry.Head.TheVariants as heads
use Rattle.hb_env.specs.declared.refusal.Refusal.{Refusal}
use Rattle.hb_hier.specs.Hierarchy.{Hierarchy}
use Rattle.hb_raw.specs.declared.word.Word.{Word}
use Rattle.hb_raw.specs.Preterm.{Preterm}
use Rattle.hb_raw.specs.Sentence.{Act, axiom_of, definition, mixin, factory, builders, section_end, structure, instance, join, find, require, howto, about}
use Rattle.hb_term.specs.declared.scoped.Scoped.{Scoped}
use Rattle.hb_world.specs.Taking.{Extends, HasGrown, HasHead}
use Rattle.hb_world.specs.Worlds.{Background, Opened}
use Rattle.hb_world.specs.declared.done.Done.{Done}
use Rattle.hb_world.specs.declared.done.Done.TheVariants as done
use Rattle.hb_session.specs.Entries.{decls_of}
use Rattle.hb_session.specs.Growing.{Grows, GrowsBy, IsRequire, Leaves, LeavesBy}
use Rattle.hb_session.specs.State.{State}
use Rattle.hb_session.specs.Reporting.{IsEventOf, IsGiven, IsHowto, TellsHowto, TellsJoin, TellsAbout, local_mixins}
use Rattle.hb_env.specs.Naming.{name_in}
use Rattle.hb_env.specs.declared.named.Named.TheVariants.{Const}
use Rattle.hb_base.specs.declared.name_id.NameId.{NameId}
use Rattle.hb_sets.specs.Set.{Set, union}
use Rattle.hb_hier.specs.Hierarchy.{known_as, required}
use Rattle.hb_hier.specs.declared.known.Known.TheVariants.{Factory, Structure}
use Rattle.hb_order.specs.declared.ids.StructId.{StructId}
use Rattle.hb_tree.specs.declared.leaves.ConstId.{ConstId}
use Rattle.hb_session.specs.Taking.{HasFamily, AreLeft, GoesOn, Takes}
use Rattle.hb_events.specs.declared.event.Event.{Event}
use Rattle.hb_events.specs.declared.event.Event.TheVariants as event

decls_more : (es : List Entry) (e : Entry) → decls_of (es ++ (e ∷ [])) ≡ decls_of es ++ plains e.decls.items
decls_more [] e = append-nil (plains e.decls.items)
decls_more (d ∷ es) e = ap (λ x. plains d.decls.items ++ x) (decls_more es e) ∙ sym (append_assoc (plains d.decls.items) (decls_of es) (plains e.decls.items))

-- the declarations are still those of the entries
pub agree_more : (E E' : List Decl) (es es' : List Entry) (e : Entry) → E ≡ decls_of es → es' ≡ es ++ (e ∷ [])
    → E' ≡ E ++ plains e.decls.items → E' ≡ decls_of es'
agree_more E E' es es' e agree is grown = grown ∙ ap (λ x. x ++ plains e.decls.items) agree ∙ sym (decls_more es e) ∙ sym (ap decls_of is)

pub agree_none : (E : List Decl) (es es' : List Entry) (e : Entry) → E ≡ decls_of es → es' ≡ es ++ (e ∷ [])
    → plains e.decls.items ≡ [] → E ≡ decls_of es'
agree_none E es es' e agree is none = agree_more E E es es' e agree is (sym (ap (λ x. E ++ x) none ∙ append-nil E))

-- without the last entry and its declarations
pub agree_less : (E : List Decl) (es es' : List Entry) (e : Entry) (n : ℕ) → E ≡ decls_of es → es ≡ es' ++ (e ∷ [])
    → n ≡ length E - length e.decls.items → take n E ≡ decls_of es'
agree_less E es es' e n agree is count =
    let whole : E ≡ decls_of es' ++ plains e.decls.items = agree ∙ ap decls_of is ∙ decls_more es' e in
    let size : length E ≡ length (decls_of es') + length (plains e.decls.items) = ap length whole ∙ length-append (decls_of es') (plains e.decls.items) in
    let front : n ≡ length (decls_of es') = omega (arith, count, size, length-map e.decls.items plain) in
    rw (front, whole) (take-append_seam (decls_of es') (plains e.decls.items))

-- one entry more
pub goes_on : (S S' : State) (e : Entry) → S'.entries ≡ S.entries ++ (e ∷ []) → S'.env ≡ S.env ++ plains e.decls.items
    → Extends S.back.names S'.back.names → GoesOn S S' (e ∷ [])
goes_on S S' e entries declared names = record {
  entries = entries;
  declared = declared ∙ ap (λ x. S.env ++ x) (sym (append-nil (plains e.decls.items)));
  names = names;
}

abbrev entry_of : Entry → Done → Entry
entry_of d (done.Entry e) = e
entry_of d (done.Join j) = d
entry_of d (done.Find k) = d

same_entry : {e d : Entry} → done.Entry e ≡ done.Entry d → e ≡ d
same_entry {e} is = ap (entry_of e) is

-- the entry of a command of a family is what the command leaves
left_of : (c : Act) (e : Entry) → HasFamily c → HasHead c (done.Entry e) → AreLeft c (e ∷ [])
left_of (axiom_of n ty) e f (d, is, h) = (e, refl, rw (same_entry is) h)
left_of (definition n bs ty b) e f (d, is, h) = (e, refl, rw (same_entry is) h)
left_of (mixin n c is fs) e f (d, same, h) = (e, refl, rw (same_entry same) h)
left_of (factory n c is fs) e f (d, same, h) = (e, refl, rw (same_entry same) h)
left_of (builders c v i) e f (d, is, h) = (e, refl, rw (same_entry is) h)
left_of section_end e f (d, is, h) = (e, refl, rw (same_entry is) h)
left_of (structure n c is) e f (d, same, h) = (e, refl, rw (same_entry same) h)
left_of (instance n bs g c ws t) e f (d, is, h) = (e, refl, rw (same_entry is) h)
left_of (join a b) e f h = absurd f
left_of (find s c) e f h = absurd f
left_of (require n) e f h = absurd f
left_of (howto s k) e f h = absurd f
left_of (about n) e f h = absurd f

pub takes_entry : (S S' : State) (c : Act) (v : Event) (e : Entry) → HasFamily c → HasHead c (done.Entry e) → IsEventOf S.env S.back c v
    → S'.entries ≡ S.entries ++ (e ∷ []) → HasGrown S.env S'.env (done.Entry e) → Extends S.back.names S'.back.names → Grows c S.env S.back S'.back
    → Leaves c S.back.hier S.back.section S'.back.section → Takes S c v S'
takes_entry S S' c v e family head reported entries grown names grows leaves = record {
  left = e ∷ [];
  are_left = left_of c e family head;
  goes_on = goes_on S S' e entries grown names;
  grows = grows;
  leaves = leaves;
  reported = reported;
}

-- a query changes nothing
same_state : (S : State) → GoesOn S S []
same_state S = record { entries = sym (append-nil S.entries); declared = sym (append-nil S.env); names = ([], sym (append-nil S.back.names)) }

pub howto_taken : (S : State) (s k : Word) (r : Result Event Refusal) → IfOk r (TellsHowto S.env S.back.hier s k) → IfOk r (λ e. Takes S (howto s k) e S)
howto_taken S s k (Ok e) is = record { left = []; are_left = refl; goes_on = same_state S; grows = refl; leaves = refl; reported = is }
howto_taken S s k (Err q) is = is

pub join_taken : (S : State) (a b : Word) (r : Result Event Refusal) → IfOk r (TellsJoin S.back.hier a b) → IfOk r (λ e. Takes S (join a b) e S)
join_taken S a b (Ok e) is = record { left = []; are_left = refl; goes_on = same_state S; grows = refl; leaves = refl; reported = is }
join_taken S a b (Err q) is = is

pub about_taken : (S : State) (n : Word) (r : Result Event Refusal) → IfOk r (TellsAbout S.back.hier n) → IfOk r (λ e. Takes S (about n) e S)
about_taken S n (Ok e) is = record { left = []; are_left = refl; goes_on = same_state S; grows = refl; leaves = refl; reported = is }
about_taken S n (Err q) is = is

-- the end of a required file
pub takes_require : (S S' : State) (n : Word) (e : Entry) → e.head ≡ heads.Require n.name → plains e.decls.items ≡ []
    → S'.entries ≡ S.entries ++ (e ∷ []) → S'.env ≡ S.env → S'.back.names ≡ S.back.names → S'.back.hier ≡ S.back.hier → S'.back.section ≡ S.back.section
    → Takes S (require n) (event.Require n.name) S'
takes_require S S' n e head none entries env names hier section = record {
  left = e ∷ [];
  are_left = (e, refl, head);
  goes_on = goes_on S S' e entries (env ∙ sym (ap (λ x. S.env ++ x) none ∙ append-nil S.env)) ([], names ∙ sym (append-nil S.back.names));
  grows = hier;
  leaves = section;
  reported = refl;
}

-- the entry of a required file changes nothing in the hierarchy, nor in a section
pub required_grows : (h : Head) (ds E : List Decl) (old new : Background) → IsRequire h → new.hier ≡ old.hier → GrowsBy h ds E old new
required_grows heads.Core ds E old new is same = absurd is
required_grows heads.Axiom ds E old new is same = absurd is
required_grows heads.Definition ds E old new is same = absurd is
required_grows (heads.Mixin v) ds E old new is same = absurd is
required_grows (heads.Factory v) ds E old new is same = absurd is
required_grows (heads.Builders f c v) ds E old new is same = absurd is
required_grows heads.End ds E old new is same = absurd is
required_grows (heads.Structure n v) ds E old new is same = absurd is
required_grows (heads.Instance f c v) ds E old new is same = absurd is
required_grows (heads.Require n) ds E old new is same = same

pub required_leaves : (h : Head) (ds : List Decl) (H : Hierarchy) (o o' : Option Opened) → IsRequire h → o' ≡ o → LeavesBy h ds H o o'
required_leaves heads.Core ds H o o' is same = absurd is
required_leaves heads.Axiom ds H o o' is same = absurd is
required_leaves heads.Definition ds H o o' is same = absurd is
required_leaves (heads.Mixin v) ds H o o' is same = absurd is
required_leaves (heads.Factory v) ds H o o' is same = absurd is
required_leaves (heads.Builders f c v) ds H o o' is same = absurd is
required_leaves heads.End ds H o o' is same = absurd is
required_leaves (heads.Structure n v) ds H o o' is same = absurd is
required_leaves (heads.Instance f c v) ds H o o' is same = absurd is
required_leaves (heads.Require n) ds H o o' is same = same

-- the key of a type
pub find_taken : (S S' : State) (s : Word) (t : Preterm) (k : Option Scoped) → S'.entries ≡ S.entries → HasGrown S.env S'.env (done.Find k)
    → Extends S.back.names S'.back.names → Grows (find s t) S.env S.back S'.back
    → Leaves (find s t) S.back.hier S.back.section S'.back.section → Takes S (find s t) (event.Find s.name k) S'
find_taken S S' s t k entries grown names grows leaves = record {
  left = [];
  are_left = refl;
  goes_on = record { entries = entries ∙ sym (append-nil S.entries); declared = grown ∙ sym (append-nil S.env); names = names };
  grows = grows;
  leaves = leaves;
  reported = (k, refl);
}

-- the ways to a structure, from a constant
pub tells_ways : (E : List Decl) (h : Hierarchy) (s k : Word) (i : StructId) (c : ConstId) (r : Result Event Refusal)
    → known_as h s.name ≡ Some (Structure i) → name_in E (Const c) ≡ Some k.name.0
    → IfOk r (λ e. IsGiven h i c s k e ⊎ IsHowto h i c s k e) → IfOk r (TellsHowto E h s k)
tells_ways E h s k i c (Ok e) named constant is = record { wanted = i; wanted_is = named; carrier = c; carrier_is = constant; ways = is }
tells_ways E h s k i c (Err q) named constant is = is

-- the mixins of a section's local carrier
pub without_factory : (h : Hierarchy) (o : Opened) (n : Option NameId) (x : Set) → n ≡ None → x ≡ o.provided → x ≡ local_mixins h o n
without_factory h o n x none is = subst (λ m. x ≡ local_mixins h o m) (sym none) is

pub with_factory : (h : Hierarchy) (o : Opened) (n : Option NameId) (m : NameId) (x : Set)
    → n ≡ Some m → x ≡ union (required h (Factory o.factory)) o.provided → x ≡ local_mixins h o n
with_factory h o n m x some is = subst (λ k. x ≡ local_mixins h o k) (sym some) is
