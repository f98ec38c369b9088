-- Why steps fail, as causes of the whole.
use Rattle.std.proofs.Common.{◌≡◌, ℕ, zero, suc, ◌+◌, ◌<◌, ◌∙◌, refl, sym, ap, subst, arith, false, List, [], ◌∷◌, ◌++◌, length, map, take, get_or, Some, None, slice_get, codes, ◌⊎◌, inl, inr, ⊎_elim}
use Rattle.hb_base.specs.declared.name_id.NameId.{NameId}
use Rattle.hb_base.specs.declared.span.Span.{Span}
use Rattle.hb_calculus.specs.Budget.{Budget}
use Rattle.hb_calculus.specs.Declarations.{Decl, an_axiom, a_definition, a_record, names_of}
use Rattle.hb_env.specs.declared.refusal.Refusal.{Refusal}
use Rattle.hb_generated.specs.Generating.{gen}
use Rattle.hb_generated.specs.State.{State, Own, decls}
use Rattle.hb_hier.specs.Hierarchy.{Hierarchy}
use Rattle.hb_calculus.specs.Declarations.{field_names}
use Rattle.hb_env.specs.Plain.{plain_fields, plains}
use Rattle.hb_env.specs.declared.decl.Decl as env
use Rattle.hb_mixin.proofs.DeclareLemmas.{written_fields}
use Rattle.hb_mixin.specs.Refusing.{IsAdmitted, NotTaken, not_elaborated, not_declared}
use Rattle.hb_mixin.specs.Steps.{writing}
use Rattle.hb_raw.specs.declared.word.Item.{Item}
use Rattle.hb_raw.specs.declared.word.Word.{Word}
use Rattle.hb_step.specs.Elaborating.{IsOfElaboration}
use Rattle.hb_world.specs.Taking.{factory_names}
use Rattle.hb_world.specs.Worlds.{Background}
use Rattle.hb_mixin.proofs.NamingLemmas.{held_stays, fields_stay}
use Rattle.hb_mixin.specs.Adding.{making}
use Rattle.hb_world.specs.Taking.{Extends}
use Rattle.std.proofs.lemmas.List.{length-append}
use Rattle.hb_mixin.specs.Declaring.{AreMade}
use Rattle.hb_mixin.specs.Fields.{AreNamesOf}
use Rattle.hb_mixin.specs.Naming.{IsFieldName, IsRecordNamed}
use Rattle.hb_mixin.specs.Refusing.{Family, mixins, factories, command, NoneKept, FirstKept, kept_here, kept_later, IsWordOf, of_maker, of_field, of_later, HasNoNumber, HasNoRoomFor, NotDeclared, no_memory, not_added, known, hierarchy, unfit, too_many, passed, no_number}
use Rattle.hb_mixin.specs.Steps.{family, leveled, OrNoMemory, HasUnfit, PassesCount, IsNotAdded, IsNotTaken, AddFails}
use Rattle.hb_mixin.specs.declared.declaring.Kind.{Kind}
use Rattle.hb_mixin.specs.declared.declaring.Kind.TheVariants.{Mixin, Factory}
use Rattle.hb_raw.specs.Views.{field}
use Rattle.hb_raw.specs.declared.word.Field.{Field}
use Rattle.hb_env.specs.declared.refusal.What.TheVariants as what
use Rattle.hb_mixin.specs.Refusing.{refusal}
use Rattle.hb_step.specs.Counting.{ComeToPass}
use Rattle.hb_step.specs.Naming.{IsReserved}
use Rattle.hb_step.specs.Reserved.{is_kept, is_reserved_part}
use Rattle.hb_term.specs.declared.term.Term.{Term}

none_more : (N : List (List ℕ)) (fs : List Field) (i : ℕ) (x : Field) → i < length fs → x ≡ get_or fs i x → is_kept is_reserved_part (slice_get N x.name.name.0) ≡ false → NoneKept N (map field (take i fs)) → NoneKept N (map field (take (suc i) fs))
none_more N [] i x lt e free all = absurd (omega (arith, lt))
none_more N (f ∷ fs) zero x lt e free all = (subst (λ y. is_kept is_reserved_part (slice_get N y.name.name.0) ≡ false) e free, tt)
none_more N (f ∷ fs) (suc i) x lt e free all = (all.0, none_more N fs i x (omega (arith, lt)) e free all.1)

pub kept_turn : (N : List (List ℕ)) (fs : List Field) (i : ℕ) (x : Field) → i < length fs → x ≡ get_or fs i x → is_kept is_reserved_part (slice_get N x.name.name.0) ≡ false → NoneKept N (map field (take i fs)) → NoneKept N (map field (take (i + 1) fs))
kept_turn N fs i x lt e free all = subst (λ k. NoneKept N (map field (take k fs))) (let q : suc i ≡ i + 1 = omega arith in q) (none_more N fs i x lt e free all)

pub kept_cause : (N : List (List ℕ)) (fs : List Field) (i : ℕ) (x : Field) (r : Refusal) → i < length fs → x ≡ get_or fs i x → NoneKept N (map field (take i fs)) → IsReserved is_reserved_part N x.name.name x.name.span r → FirstKept N (map field fs) r
kept_cause N [] i x r lt e all cause = absurd (omega (arith, lt))
kept_cause N (f ∷ fs) zero x r lt e all cause = kept_here (subst (λ y. IsReserved is_reserved_part N y.name.name y.name.span r) e cause)
kept_cause N (f ∷ fs) (suc i) x r lt e all cause = kept_later all.0 (kept_cause N fs i x r (omega (arith, lt)) e all.1 cause)

-- one more field under its whole name
names_more : (N : List (List ℕ)) (n : NameId) (ss : List NameId) (fs : List (NameId × Term)) (i : ℕ) (d : NameId) (f : NameId × Term) → i < length ss → IsFieldName N n (get_or ss i d) f.0.0 → AreNamesOf N n (take i ss) fs → AreNamesOf N n (take (suc i) ss) (fs ++ f ∷ [])
names_more N n [] fs i d f lt h all = absurd (omega (arith, lt))
names_more N n (s ∷ ss) [] zero d f lt h all = (h, tt)
names_more N n (s ∷ ss) (g ∷ fs) zero d f lt h all = absurd all
names_more N n (s ∷ ss) [] (suc i) d f lt h all = absurd all
names_more N n (s ∷ ss) (g ∷ fs) (suc i) d f lt h all = (all.0, names_more N n ss fs i d f (omega (arith, lt)) h all.1)

pub names_turn : (M N : List (List ℕ)) (n : NameId) (ss : List NameId) (fs : List (NameId × Term)) (i : ℕ) (d : NameId) (f : NameId × Term) → i < length ss → Extends M N → IsFieldName N n (get_or ss i d) f.0.0 → AreNamesOf M n (take i ss) fs → AreNamesOf N n (take (i + 1) ss) (fs ++ f ∷ [])
names_turn M N n ss fs i d f lt e h all =
    subst (λ k. AreNamesOf N n (take k ss) (fs ++ f ∷ [])) (let q : suc i ≡ i + 1 = omega arith in q)
    (names_more N n ss fs i d f lt h (fields_stay M N n (take i ss) (field_names (plain_fields fs)) e all))

pub popped : {X : Type 0} (xs ys : List X) (x : X) → xs ≡ ys ++ x ∷ [] → length xs ≡ length ys + 1
popped xs ys x e = ap length e ∙ length-append ys (x ∷ [])

-- a word of one of the fields is a word of the fields
word_in : (N : List (List ℕ)) (ss : List NameId) (i : ℕ) (d : NameId) (word : List ℕ) → i < length ss → IsWordOf N (get_or ss i d ∷ []) word → IsWordOf N ss word
word_in N [] i d word lt w = absurd (omega (arith, lt))
word_in N (s ∷ ss) zero d word lt (of_maker) = of_maker
word_in N (s ∷ ss) zero d word lt (of_field h) = of_field h
word_in N (s ∷ ss) zero d word lt (of_later of_maker) = of_maker
word_in N (s ∷ ss) (suc i) d word lt w = of_later (word_in N ss i d word (omega (arith, lt)) w)

pub number_in_all : (N : List (List ℕ)) (n : NameId) (ss : List NameId) (i : ℕ) (d : NameId) (s : Span) (r : Refusal) → i < length ss → OrNoMemory (HasNoNumber N n (get_or ss i d ∷ []) s) r → OrNoMemory (HasNoNumber N n ss s) r
number_in_all N n ss i d s r lt h = ⊎_elim (λ e. inl e) (λ w. inr (w.0, word_in N ss i d w.0 lt w.1, w.2)) h

-- the word of one field
pub field_number : (A B : List (List ℕ)) (n s : NameId) (place : Span) (r : Refusal) (t word : List ℕ) → Extends A B → slice_get A s.0 ≡ Some t → word ≡ codes "." ++ t → OrNoMemory (HasNoRoomFor B n word place) r → OrNoMemory (HasNoNumber B n (s ∷ []) place) r
field_number A B n s place r t word e g q h =
    ⊎_elim (λ m. inl m) (λ w. inr (codes "." ++ t, of_field (held_stays A B s.0 t e g), subst (λ v. HasNoRoomFor B n v place r) q w)) h

names_leveled : (k : ℕ) (d : Decl) → names_of (leveled k d) ≡ names_of d
names_leveled k (an_axiom n t) = refl
names_leveled k (a_definition n t b) = refl
names_leveled k (a_record n m ps j fs) = refl

abbrev names_first : List Decl → List ℕ
names_first [] = []
names_first (x ∷ xs) = names_of x

-- the record at another level is made too
made_leveled : (N : List (List ℕ)) (E : List Decl) (h : Hierarchy) (f : Family) (n : NameId) (items ss : List NameId) (k : ℕ) (d : Decl) → AreMade N E h (command f items) n ss (d ∷ []) → AreMade N E h (command f items) n ss (leveled k d ∷ [])
made_leveled N E h f n items ss k d m =
    record {
      declared = leveled k d;
      only = refl;
      named = record { maker = m.named.maker; fields = m.named.fields; names_are = names_leveled k d ∙ ap names_first m.only ∙ m.named.names_are; maker_is = m.named.maker_is; fields_are = m.named.fields_are };
      own = record m.own { level = k };
      own_name = m.own_name;
      own_fields = m.own_fields;
      made = made f m.made;
    }
  where
    made : (f : Family) → ((S : State) → S.env ≡ E → S.hier ≡ h → d ∷ [] ≡ decls (gen N S (command f items) m.own)) → (S : State) → S.env ≡ E → S.hier ≡ h → leveled k d ∷ [] ≡ decls (gen N S (command f items) (record m.own { level = k }))
    made mixins gives S e q = ap (map (leveled k)) (gives S e q)
    made factories gives S e q = ap (map (leveled k)) (gives S e q)

command_is : (k : Kind) (items : List NameId) → making k items ≡ command (family k) items
command_is Mixin items = refl
command_is Factory items = refl

-- what is made by a kind is made by its family
pub made_by : (N : List (List ℕ)) (E : List Decl) (h : Hierarchy) (k : Kind) (n : NameId) (items ss : List NameId) (ds : List Decl) → AreMade N E h (making k items) n ss ds → AreMade N E h (command (family k) items) n ss ds
made_by N E h k n items ss ds m = subst (λ c. AreMade N E h c n ss ds) (command_is k items) m

pub unfit_declared : (N : List (List ℕ)) (E : List Decl) (h : Hierarchy) (L : Budget) (k : Kind) (n : NameId) (items ss : List NameId) (ds : List Decl) (s : Span) (r : Refusal) → AreMade N E h (making k items) n ss ds → HasUnfit E h ds s r → NotDeclared N E h L (family k) n items ss s r
unfit_declared N E h L k n items ss ds s r m u =
    let made : AreMade N E h (command (family k) items) n ss (m.declared ∷ []) = subst (λ es. AreMade N E h (command (family k) items) n ss es) m.only (made_by N E h k n items ss ds m) in
    let cause : HasUnfit E h (m.declared ∷ []) s r = subst (λ es. HasUnfit E h es s r) m.only u in
    unfit m.declared cause.0 made cause.1 cause.2

pub passed_declared : (N : List (List ℕ)) (E : List Decl) (h : Hierarchy) (L : Budget) (k : Kind) (n : NameId) (items ss : List NameId) (ds : List Decl) (s : Span) (r : Refusal) → AreMade N E h (making k items) n ss ds → PassesCount E h k ds s r → NotDeclared N E h L (family k) n items ss s r
passed_declared N E h L k n items ss ds s r m u =
    let made : AreMade N E h (command (family k) items) n ss (m.declared ∷ []) = subst (λ es. AreMade N E h (command (family k) items) n ss es) m.only (made_by N E h k n items ss ds m) in
    let cause : PassesCount E h k (m.declared ∷ []) s r = subst (λ es. PassesCount E h k es s r) m.only u in
    ⊎_elim (λ c. too_many c.0 c.1) (λ c. passed m.declared c.0 made c.1 c.2) cause

pub added_declared : (N : List (List ℕ)) (E : List Decl) (h : Hierarchy) (L : Budget) (k : Kind) (n : NameId) (items ss : List NameId) (ds : List Decl) (s : Span) (r : Refusal) → AreMade N E h (making k items) n ss ds → AddFails E h L k n items ds s r → NotDeclared N E h L (family k) n items ss s r
added_declared N E h L k n items ss ds s r m fails =
    let made : AreMade N E h (command (family k) items) n ss (m.declared ∷ []) = subst (λ es. AreMade N E h (command (family k) items) n ss es) m.only (made_by N E h k n items ss ds m) in
    ⊎_elim (λ e. no_memory e)
    (⊎_elim
    (λ c. ⊎_elim (λ a. not_added m.declared made a c.0) (λ a. not_added (leveled a.0 m.declared) (made_leveled N E h (family k) n items ss a.0 m.declared made) a.1 c.0) c.1)
    (⊎_elim (λ c. known c.0 c.1) (λ c. hierarchy c.0 c.1 c.2)))
    (fails m.declared m.only)

-- the maker's name gets no number
pub record_declared : (N : List (List ℕ)) (E : List Decl) (h : Hierarchy) (L : Budget) (f : Family) (n : NameId) (items ss : List NameId) (s : Span) (r : Refusal) → OrNoMemory (HasNoRoomFor N n (codes ".Build") s) r → NotDeclared N E h L f n items ss s r
record_declared N E h L f n items ss s r c = ⊎_elim (λ e. no_memory e) (λ w. no_number (codes ".Build", of_maker, w)) c

-- the same over what equals the declarations and the hierarchy
pub unfit_here : (N : List (List ℕ)) (E E1 E2 : List Decl) (h g : Hierarchy) (L : Budget) (k : Kind) (n : NameId) (items ss : List NameId) (ds es : List env.Decl) (s : Span) (r : Refusal) → E1 ≡ E → E2 ≡ E → g ≡ h → es ≡ ds → AreMade N E1 h (making k items) n ss (plains ds) → HasUnfit E2 g (plains es) s r → NotDeclared N E h L (family k) n items ss s r
unfit_here N E E1 E2 h g L k n items ss ds es s r p q e l m u =
    unfit_declared N E h L k n items ss (plains ds) s r (subst (λ F. AreMade N F h (making k items) n ss (plains ds)) p m)
    (subst (λ F. HasUnfit F h (plains ds) s r) q (subst (λ i. HasUnfit E2 i (plains ds) s r) e (subst (λ x. HasUnfit E2 g (plains x) s r) l u)))

pub passed_here : (N : List (List ℕ)) (E E1 E2 : List Decl) (h g : Hierarchy) (L : Budget) (k : Kind) (n : NameId) (items ss : List NameId) (ds es : List env.Decl) (s : Span) (r : Refusal) → E1 ≡ E → E2 ≡ E → g ≡ h → es ≡ ds → AreMade N E1 h (making k items) n ss (plains ds) → PassesCount E2 g k (plains es) s r → NotDeclared N E h L (family k) n items ss s r
passed_here N E E1 E2 h g L k n items ss ds es s r p q e l m u =
    passed_declared N E h L k n items ss (plains ds) s r (subst (λ F. AreMade N F h (making k items) n ss (plains ds)) p m)
    (subst (λ F. PassesCount F h k (plains ds) s r) q (subst (λ i. PassesCount E2 i k (plains ds) s r) e (subst (λ x. PassesCount E2 g k (plains x) s r) l u)))

pub added_here : (N : List (List ℕ)) (E E1 : List Decl) (h g : Hierarchy) (L : Budget) (k : Kind) (n : NameId) (items ss : List NameId) (ds : List Decl) (s : Span) (r : Refusal) → E1 ≡ E → g ≡ h → AreMade N E1 h (making k items) n ss ds → AddFails E g L k n items ds s r → NotDeclared N E h L (family k) n items ss s r
added_here N E E1 h g L k n items ss ds s r p e m u =
    added_declared N E h L k n items ss ds s r (subst (λ F. AreMade N F h (making k items) n ss ds) p m) (subst (λ i. AddFails E i L k n items ds s r) e u)

-- the cause of what is written is one of the command
pub taken_refused : (E : List Decl) (w : Background) (N : List (List ℕ)) (L : Budget) (k : Kind) (n c : Word) (is js : List Item) (fs gs : List Field) (s : Span) (r : Refusal) → is ≡ js → fs ≡ gs → NotTaken E w N L (writing k n c is fs) s r → NotTaken E w N L (writing k n c js gs) s r
taken_refused E w N L k n c is js fs gs s r p q t =
    subst (λ l. NotTaken E w N L (writing k n c js l) s r) q (subst (λ l. NotTaken E w N L (writing k n c l fs) s r) p t)

-- the steps of declaring what is written, as a cause of the whole
pub written_refused : (E : List Decl) (w : Background) (N : List (List ℕ)) (L : Budget) (k : Kind) (n c : Word) (is : List Item) (fs : List Field) (s : Span) (r : Refusal) → IsAdmitted E w (writing k n c is fs)
    → IsOfElaboration r.what ⊎ NotDeclared N E w.hier L (family k) n.name (factory_names is) (map (λ f. f.name.name) fs) n.span r → NotTaken E w N L (writing k n c is fs) s r
written_refused E w N L k n c is fs s r a h =
    ⊎_elim (λ e. not_elaborated a e) (λ d. not_declared a (subst (λ l. NotDeclared N E w.hier L (family k) n.name (factory_names is) l n.span r) (written_fields fs) d)) h
